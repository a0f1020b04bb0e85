use Rattle.lx_layout.proofs.ScannerLaws.EndedLayouts.{layout_ends_rules}
use Rattle.lx_layout.proofs.SuppliedLayouts.LeadingTrees.{readers_lead}
use Rattle.lx_layout.proofs.scanner_laws.layouts_end_rules_once.Goals as goal

pub returns : goal.returns
returns c piece supply halting endings end_rule greatest room trees auto begin formed are marked stands stored other =
    layout_ends_rules supply halting end_rule greatest trees auto begin formed (readers_lead room supply.eof greatest trees auto are) endings piece stands marked stored other
