use Rattle.std.proofs.Common.{◌≡◌, drop, List}
use Rattle.lx_ccode.specs.declared.piece.StateCase.{StateCase}
use Rattle.lx_ccode.specs.States.{block_of, states_in}
use Rattle.lx_step.proofs.states.block_in.Given as goal

abbrev pub invariant-loop-index : goal.invariant-loop-index
invariant-loop-index l = (others : List StateCase) → block_of (states_in l.place (drop l.index l.statements) others) l.state ≡ block_of (states_in l.place l.statements others) l.state
