use Rattle.lx_rules.specs.Blocks.{of_scanners, of_use, to_keep}
use Rattle.block_cases.proofs.cases.Opener.kind.Goals as goal

pub returns-in-Code-clause-rules : goal.returns-in-Code-clause-rules
returns-in-Code-clause-rules c = of_scanners

pub returns-in-Rules-clause-rules : goal.returns-in-Rules-clause-rules
returns-in-Rules-clause-rules c = to_keep

pub returns-in-Use-clause-rules : goal.returns-in-Use-clause-rules
returns-in-Use-clause-rules c = of_use
