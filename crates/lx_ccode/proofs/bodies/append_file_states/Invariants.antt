use Rattle.std.proofs.Common.{◌≡◌, ◌++◌, [], drop}
use Rattle.lx_ccode.specs.Bodies.{file_states_then}
use Rattle.lx_ccode.proofs.bodies.append_file_states.Given as goal

abbrev pub invariant-loop-state : goal.invariant-loop-state
invariant-loop-state l = l.text.items ++ file_states_then (drop l.state-index l.states) [] ≡ l.initial.text.items ++ file_states_then l.states []
