use Rattle.lx_dispatch.proofs.LeftRuns.{longest-left_split, none-left_split, split_class-left}
use Rattle.lx_dispatch.proofs.RunNumbers.{number-left_split}
use Rattle.lx_dispatch.proofs.laws.left_splits_have_the_longest_runs.Goals as goal

pub returns-clause-runs : goal.returns-clause-runs
returns-clause-runs c = longest-left_split

pub returns-clause-ways : goal.returns-clause-ways
returns-clause-ways c = split_class-left

pub returns-clause-none : goal.returns-clause-none
returns-clause-none c = none-left_split

pub returns-clause-number : goal.returns-clause-number
returns-clause-number c = number-left_split
