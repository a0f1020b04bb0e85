use Rattle.lx_auto.proofs.SameRuns.{same_run-itself, same_run-through}
use Rattle.lx_auto.proofs.laws.same_runs_go_through.Goals as goal

pub returns-clause-reflexive : goal.returns-clause-reflexive
returns-clause-reflexive c = same_run-itself

pub returns-clause-transitive : goal.returns-clause-transitive
returns-clause-transitive c = same_run-through
