use Rattle.lx_dispatch.proofs.LongestRuns.{longest-reader_split, split_class-reader_split}
use Rattle.lx_dispatch.proofs.RunNumbers.{number-reader_split}
use Rattle.lx_dispatch.proofs.laws.reader_splits_have_the_longest_runs.Goals as goal

pub returns-clause-runs : goal.returns-clause-runs
returns-clause-runs c = longest-reader_split

pub returns-clause-ways : goal.returns-clause-ways
returns-clause-ways c = split_class-reader_split

pub returns-clause-number : goal.returns-clause-number
returns-clause-number c = number-reader_split
