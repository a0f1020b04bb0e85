use Rattle.std.proofs.Common.{◌≡◌, take}
use Rattle.lx_compile.proofs.bodies.copy_conditions.Given as goal

abbrev pub invariant-loop-cond : goal.invariant-loop-cond
invariant-loop-cond l = l.copies ≡ take l.cond-index l.conds
