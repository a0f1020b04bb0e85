use Rattle.lx_layout.proofs.SuppliedLayouts.StoredNothing.{layout_stores_nothing}
use Rattle.lx_layout.proofs.SuppliedLayouts.LeadingTrees.{readers_lead}
use Rattle.lx_layout.proofs.laws.supplied_layouts_store_nothing.Goals as goal

pub returns : goal.returns
returns c supply halting endings end_rule greatest room trees auto begin formed are none =
    layout_stores_nothing supply halting endings end_rule greatest trees auto begin formed (readers_lead room supply.eof greatest trees auto are) none
