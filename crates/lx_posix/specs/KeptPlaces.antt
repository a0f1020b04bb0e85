-- Where a state stands at a place that is kept.
use Rattle.std.specs.Prelude.{◌≡◌, ℕ, ◌+◌, ◌*◌, List, Some, slice_get}
use Rattle.lx_regex.specs.Cut.{rule_part}
use Rattle.lx_regex.specs.Term.{Term}
use Rattle.lx_posix.specs.Comparing.{Ranked}

-- the end of a leaf, behind which so many parts are open, one less than in the place
pub record IsLeafEnd (ranked : Ranked) (depth : ℕ) : Type 0 where
  pub leaf : ℕ
  pub place : ranked.place ≡ 2 * leaf + 1
  pub closes : depth + 1 ≡ ranked.depth

-- the beginning of a rule, before which nothing is open, and behind which one part is
pub record IsRuleBeginning (rules : List Term) (ranked : Ranked) (depth : ℕ) : Type 0 where
  pub rule : ℕ
  pub term : Term
  pub of_rule : slice_get rules rule ≡ Some term
  pub place : ranked.place ≡ 2 * rule_part rules rule
  pub none_open : ranked.depth ≡ 0
  pub one_deep : depth ≡ 1
