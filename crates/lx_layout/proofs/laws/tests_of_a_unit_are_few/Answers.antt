use Rattle.lx_layout.proofs.Runs.TestedRuns.{numbered_ways, tree_comes}
use Rattle.lx_layout.proofs.laws.tests_of_a_unit_are_few.Goals as goal

pub returns-clause-runs : goal.returns-clause-runs
returns-clause-runs c split tree is = is.few

pub returns-clause-made : goal.returns-clause-made
returns-clause-made c = tree_comes

pub returns-clause-ways : goal.returns-clause-ways
returns-clause-ways c = numbered_ways
