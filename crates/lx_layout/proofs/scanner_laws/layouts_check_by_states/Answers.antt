use Rattle.lx_layout.proofs.ScannerLaws.CheckedLayouts.{layout_checks, layout_walks}
use Rattle.lx_layout.proofs.ScannerLaws.UncheckedStarts.{layout_checked}
use Rattle.lx_layout.proofs.SuppliedLayouts.LeadingTrees.{readers_lead}
use Rattle.lx_layout.proofs.scanner_laws.layouts_check_by_states.Goals as goal

pub returns-clause-states : goal.returns-clause-states
returns-clause-states c piece supply halting endings end_rule greatest room trees auto begin formed are some eof stands marked stored =
    layout_checks supply halting endings end_rule greatest trees auto begin piece stands formed (readers_lead room supply.eof greatest trees auto are) some eof marked stored

pub returns-clause-walks : goal.returns-clause-walks
returns-clause-walks c piece supply halting endings end_rule greatest room trees auto begin formed are some eof stands marked stored checks right same =
    layout_walks supply halting endings end_rule greatest trees auto begin piece stands formed (readers_lead room supply.eof greatest trees auto are) some eof marked stored checks right same

pub returns-clause-starts : goal.returns-clause-starts
returns-clause-starts c piece supply halting endings end_rule greatest room trees auto begin formed are some eof stands marked stored checks right same =
    layout_checked piece supply halting endings end_rule greatest trees auto begin stands formed (readers_lead room supply.eof greatest trees auto are) marked stored some eof checks right same
