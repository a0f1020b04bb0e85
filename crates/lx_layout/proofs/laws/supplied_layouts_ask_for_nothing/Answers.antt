use Rattle.lx_layout.proofs.SuppliedLayouts.QuietLayouts.{layout_quiet}
use Rattle.lx_layout.proofs.SuppliedLayouts.LeadingTrees.{readers_lead}
use Rattle.lx_layout.proofs.laws.supplied_layouts_ask_for_nothing.Goals as goal

pub returns : goal.returns
returns c supply halting endings end_rule greatest room trees auto begin formed are quiet unchecked =
    layout_quiet supply halting endings end_rule greatest trees auto begin formed (readers_lead room supply.eof greatest trees auto are) quiet unchecked
