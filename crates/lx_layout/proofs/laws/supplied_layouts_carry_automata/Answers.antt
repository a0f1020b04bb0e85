use Rattle.lx_layout.proofs.SuppliedLayouts.CarriedLayouts.{layout_carries}
use Rattle.lx_layout.proofs.SuppliedLayouts.LeadingTrees.{readers_lead}
use Rattle.lx_layout.proofs.laws.supplied_layouts_carry_automata.Goals as goal

pub returns : goal.returns
returns c piece endings end_rule greatest room auto supply halting trees begin formed within agreed some picked are marked stands stored eof fits units own =
    layout_carries piece endings end_rule greatest auto supply halting trees begin formed within agreed some picked
    (readers_lead room supply.eof greatest trees auto are) marked stands stored eof fits units own
