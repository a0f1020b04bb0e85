use Rattle.std.proofs.Common.{◌≡◌, ◌++◌, [], drop}
use Rattle.lx_ccode.specs.Bodies.{conditions_then}
use Rattle.lx_ccode.proofs.bodies.append_conditions.Given as goal

abbrev pub invariant-loop-cond : goal.invariant-loop-cond
invariant-loop-cond l = l.text.items ++ conditions_then l.names (drop l.cond-index l.conds) [] ≡ l.initial.text.items ++ conditions_then l.names l.conds []
