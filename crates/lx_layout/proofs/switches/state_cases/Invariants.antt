use Rattle.std.proofs.Common.{◌≡◌, ◌++◌, drop}
use Rattle.lx_ccode.specs.States.{states_from}
use Rattle.lx_layout.proofs.switches.state_cases.Given as goal

abbrev pub invariant-loop-block : goal.invariant-loop-block
invariant-loop-block l = l.cases.items ++ states_from l.block (drop l.block l.blocks) ≡ states_from 0 l.blocks
