use Rattle.std.proofs.Common.{◌≡◌, ◌++◌, [], drop}
use Rattle.lx_ccode.specs.States.{states_in}
use Rattle.lx_creader.proofs.states.append_states.Given as goal

abbrev pub invariant-loop-index : goal.invariant-loop-index
invariant-loop-index l = l.states.items ++ states_in l.place (drop l.index l.statements) [] ≡ l.initial.states.items ++ states_in l.place l.statements []
