use Rattle.lx_rules.specs.Environments.{Environment}
use Rattle.lx_rules.specs.Represents.{Represents}
use Rattle.block_cases.proofs.running.difference_of_blocks.Given as goal

abbrev pub invariant-loop-block : goal.invariant-loop-block
invariant-loop-block l = (environment : Environment) × Represents l.env environment
