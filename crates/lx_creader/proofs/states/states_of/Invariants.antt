use Rattle.std.proofs.Common.{◌≡◌, ◌++◌, drop}
use Rattle.lx_ccode.specs.States.{states_from}
use Rattle.lx_creader.proofs.states.states_of.Given as goal

abbrev pub invariant-loop-place : goal.invariant-loop-place
invariant-loop-place l = l.states.items ++ states_from l.place (drop l.place l.blocks) ≡ states_from 0 l.blocks
