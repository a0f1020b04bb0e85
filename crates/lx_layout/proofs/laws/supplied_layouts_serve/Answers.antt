use Rattle.lx_layout.proofs.SuppliedLayouts.LayoutServes.{layout_entered, layout_serves}
use Rattle.lx_layout.proofs.laws.supplied_layouts_serve.Goals as goal

pub returns-clause-blocks : goal.returns-clause-blocks
returns-clause-blocks c supply halting endings end_rule greatest trees auto begin blocks formed within agreed some are marked stands =
    layout_serves supply halting endings end_rule greatest trees auto begin blocks stands formed within are marked agreed

pub returns-clause-entry : goal.returns-clause-entry
returns-clause-entry c supply halting endings end_rule greatest trees auto begin blocks formed within some are marked stands =
    layout_entered supply halting endings end_rule greatest trees auto begin blocks stands formed within are marked some
