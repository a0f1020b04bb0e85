use Rattle.lx_cover.proofs.OneCover.{IsCover-sum, IsFirstSumOver-one}
use Rattle.lx_cover.proofs.laws.covers_have_one_sum_over_a_limit.Goals as goal

pub returns-clause-one : goal.returns-clause-one
returns-clause-one c enc rules limit sum other is also = IsFirstSumOver-one enc rules limit sum other is also

pub returns-clause-none : goal.returns-clause-none
returns-clause-none c enc rules words limit sum is within over = IsCover-sum enc rules words limit sum is within over
