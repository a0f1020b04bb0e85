use Rattle.lx_layout.proofs.SuppliedLayouts.ClosedLayouts.{closed_ends, closed_jumps}
use Rattle.lx_layout.proofs.SuppliedLayouts.LeadingTrees.{readers_lead}
use Rattle.lx_layout.proofs.laws.supplied_layouts_are_closed.Goals as goal

pub returns-clause-jumps : goal.returns-clause-jumps
returns-clause-jumps c supply halting endings end_rule greatest room trees auto begin formed are marked =
    closed_jumps supply halting endings end_rule greatest trees auto begin formed (readers_lead room supply.eof greatest trees auto are) marked

pub returns-clause-ends : goal.returns-clause-ends
returns-clause-ends c supply halting endings end_rule greatest room trees auto begin formed are =
    closed_ends supply halting endings end_rule greatest trees auto begin formed (readers_lead room supply.eof greatest trees auto are)
