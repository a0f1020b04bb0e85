use Rattle.std.proofs.Common.{◌≡◌, ◌++◌, drop}
use Rattle.lx_layout.specs.Switches.{cond_cases}
use Rattle.lx_layout.proofs.switches.cond_cases.Given as goal

abbrev pub invariant-loop-block : goal.invariant-loop-block
invariant-loop-block l = l.cases.items ++ cond_cases l.block (drop l.block l.blocks) ≡ cond_cases 0 l.blocks
