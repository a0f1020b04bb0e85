use Rattle.lx_layout.proofs.Runs.CarriedMatches.{carried_ends, carried_leads, carried_runs}
use Rattle.lx_layout.proofs.laws.carried_automata_lead_the_machine.Goals as goal

pub returns-clause-leads : goal.returns-clause-leads
returns-clause-leads c = carried_leads

pub returns-clause-ends : goal.returns-clause-ends
returns-clause-ends c = carried_ends

pub returns-clause-runs : goal.returns-clause-runs
returns-clause-runs c = carried_runs
