use Rattle.std.proofs.Common.{◌≡◌, ◌++◌, [], drop}
use Rattle.lx_ccode.specs.States.{states_in}
use Rattle.lx_layout.proofs.switches.append_states.Given as goal

abbrev pub invariant-loop-place : goal.invariant-loop-place
invariant-loop-place l = l.cases.items ++ states_in l.block (drop l.place l.stmts) [] ≡ l.initial.cases.items ++ states_in l.block l.stmts []
