use Rattle.std.proofs.Common.{◌≡◌, drop}
use Rattle.lx_ccode.specs.States.{block_of, states_from}
use Rattle.lx_step.proofs.states.state_block.Given as goal

abbrev pub invariant-loop-place : goal.invariant-loop-place
invariant-loop-place l = block_of (states_from l.place (drop l.place l.blocks)) l.state ≡ block_of (states_from 0 l.blocks) l.state
