use Rattle.std.proofs.Common.{◌≡◌, Contains, sym, ap, ◌∙◌, subst}
use Rattle.std.proofs.Math.Dec.{eqb}
use Rattle.std.proofs.lemmas.List.{take_all}
use Rattle.std.proofs.lemmas.List.Filters.{dedup_is}
use Rattle.std.proofs.lemmas.List.Kept.{Contains-dedup_nat, Contains-from_dedup}
use Rattle.std.proofs.lemmas.List.Sorted.{Contains-permutation, IsPermutation-sym}
use Rattle.std.proofs.lemmas.Map.Keys.{IsStrictlyIncreasing-dedup}
use Rattle.std.specs.List.{dedup}
use Rattle.std.specs.List.Sorted.{IsPermutation, IsStrictlyIncreasing}
use Rattle.lx_regex.specs.Pattern.{patterns_of}
use Rattle.lx_warn.proofs.NumberLists.{number-rule, numbers_of, rule-number}
use Rattle.lx_warn.specs.Warnings.{HasNumber}
use Rattle.lx_warn.proofs.lists.rule_numbers.Goals as goal

pub returns-clause-numbers : goal.returns-clause-numbers
returns-clause-numbers c number =
    let rules = c.args.rules.now in
    let items = c.loop-rule.numbers.items in
    let sorted = c.sort_unstable.new.self.items in
    let kept = c.dedup.new.self.items in
    let deduped : kept ≡ dedup eqb sorted = dedup_is eqb sorted kept c.dedup.ensures.filtered in
    let collected : items ≡ numbers_of rules = c.loop-rule.invariant ∙ ap numbers_of (take_all c.loop-rule.rule-index rules c.loop-rule-test.false) in
    let moves : IsPermutation items sorted = c.sort_unstable.ensures.permutation in (
      λ has.
          number-rule rules number
          (subst (λ l. Contains l number) collected
          (Contains-permutation sorted items number (IsPermutation-sym items sorted moves)
          (Contains-from_dedup eqb sorted number (subst (λ l. Contains l number) deduped has)))),
      λ (has : HasNumber (patterns_of rules) number).
          subst (λ l. Contains l number) (sym deduped)
          (Contains-dedup_nat sorted number
          (Contains-permutation items sorted number moves (subst (λ l. Contains l number) (sym collected) (rule-number rules number has)))),
    )

pub returns-clause-ascend : goal.returns-clause-ascend
returns-clause-ascend c =
    let sorted = c.sort_unstable.new.self.items in
    let kept = c.dedup.new.self.items in
    let deduped : kept ≡ dedup eqb sorted = dedup_is eqb sorted kept c.dedup.ensures.filtered in
    subst IsStrictlyIncreasing (sym deduped) (IsStrictlyIncreasing-dedup sorted c.sort_unstable.ensures.sorted)
