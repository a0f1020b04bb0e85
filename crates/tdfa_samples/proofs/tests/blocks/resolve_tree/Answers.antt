use Rattle.lx_rules.specs.Blocks.{before_all, of_scanners}
use Rattle.lx_rules.specs.Environments.{first_environment}
use Rattle.tdfa_samples.proofs.tests.blocks.resolve_tree.Goals as goal

pub resolve-requires-clause-kind : goal.resolve-requires-clause-kind
resolve-requires-clause-kind c = of_scanners

pub returns-in-Ok : goal.returns-in-Ok
returns-in-Ok c = c.in-Ok.ensures.well_formed (λ same. cc) first_environment c.new-env.ensures before_all
