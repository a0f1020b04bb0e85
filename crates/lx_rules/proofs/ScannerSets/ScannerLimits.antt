-- What the checks of a scanner say where they find nothing.
use Rattle.std.proofs.Common.{◌≡◌, ℕ, ◌≤◌, Bool, true, false, not, List, ◌++◌, Option, None, Some, refl, sym, ap, ◌∙◌, subst, arith}
use Rattle.std.specs.Prelude.{◌||◌, ◌&&◌, is_some, nat_lt, if◌then◌else◌}
use Rattle.std.specs.List.{list_any}
use Rattle.std.specs.Option.{option_or}
use Rattle.std.proofs.lemmas.List.Elements.{filter-append, filter_agree}
use Rattle.lx_base.specs.declared.faults.Fault.{Fault}
use Rattle.lx_base.specs.declared.faults.Fault.TheVariants.{EofPair, NoRules, TooManyParts}
use Rattle.lx_base.specs.declared.places.Pos.{Pos}
use Rattle.lx_exprs.specs.Defined.{kept, whole_room}
use Rattle.lx_rules.specs.Blocks.{every, is_bare, limits_fault, nesting_of, not_of_kind, of_kind, own_or, pair_fault, rules_of, rules_under, scanner_fault, shared_beside, size_of, tags_of}
use Rattle.lx_regex.specs.Pattern.{is_end}
use Rattle.lx_rules.specs.Items.{is_default}
use Rattle.lx_rules.specs.Kept.{is_within, plain_of, plain_under}
use Rattle.lx_rules.specs.Rules.{RuleOf}
use Rattle.lx_rules.proofs.Rules.RuleLists.{fits_so, nesting_of-both, size_of-both, tags_of-both}
use Rattle.lx_rules.proofs.ZippedLists.{filter-filter}

-- two faults, neither of which there is
pub or_none : (one two : Option Fault) → option_or one two ≡ None → (one ≡ None) × (two ≡ None)
or_none None two is = (refl, is)
or_none (Some fault) two is = absurd (let h : Some fault ≡ None = is in cc)

-- what the limits say
limits_say : (at : Pos) (size nesting tags : ℕ) → limits_fault at size nesting tags ≡ None → (size ≤ 4096) × (nesting ≤ 256) × (tags ≤ 128)
limits_say place size nesting tags none = at (nat_lt 4096 size || nat_lt 256 nesting || nat_lt 128 tags) refl none
  where
    at : (b : Bool) → (nat_lt 4096 size || nat_lt 256 nesting || nat_lt 128 tags) ≡ b
        → (if b then Some (TooManyParts place (kept size) (kept nesting) (kept tags)) else None) ≡ None
        → (size ≤ 4096) × (nesting ≤ 256) × (tags ≤ 128)
    at true e held = absurd (let h : Some (TooManyParts place (kept size) (kept nesting) (kept tags)) ≡ None = held in cc)
    at false e held = (search (arith, e), search (arith, e), search (arith, e))

-- the rules of a scanner but for `$` are within the limits
pub record AreLimited (rules : List RuleOf) : Type 0 where
  pub size : size_of (not_of_kind is_end rules) ≤ 4096
  pub nesting : nesting_of (not_of_kind is_end rules) ≤ 256
  pub tags : tags_of (not_of_kind is_end rules) ≤ 128

module _ (at : Pos) (eof : Option ℕ) (rules : List RuleOf) (none : scanner_fault at eof rules ≡ None) where
  abbrev pair : Option Fault
  pair = pair_fault at eof (list_any (λ (rule : RuleOf). is_end rule.kind) rules)

  abbrev limits : Option Fault
  limits = limits_fault at (size_of (not_of_kind is_end rules)) (nesting_of (not_of_kind is_end rules)) (tags_of (not_of_kind is_end rules))

  later : (pair ≡ None) × (limits ≡ None)
  later = or_none pair limits (or_none (if is_bare rules then Some (NoRules at) else None) (option_or pair limits) none).1

  pub scanner_limited : AreLimited rules
  scanner_limited =
      let most =
      limits_say at (size_of (not_of_kind is_end rules)) (nesting_of (not_of_kind is_end rules)) (tags_of (not_of_kind is_end rules)) later.1 in
      record { size = most.0; nesting = most.1; tags = most.2 }

  -- one is `$` exactly where a code unit stands at the end
  pub scanner_ended : list_any (λ (rule : RuleOf). is_end rule.kind) rules ≡ is_some eof
  scanner_ended = by eof (list_any (λ (rule : RuleOf). is_end rule.kind) rules) later.0
    where
      by : (unit : Option ℕ) (has_end : Bool) → pair_fault at unit has_end ≡ None → has_end ≡ is_some unit
      by None false found = refl
      by None true found = absurd (let h : Some (EofPair at) ≡ None = found in cc)
      by (Some unit) false found = absurd (let h : Some (EofPair at) ≡ None = found in cc)
      by (Some unit) true found = refl

-- some rules go no further than others
record GoNoFurther (rules others : List RuleOf) : Type 0 where
  size : size_of rules ≤ size_of others
  nesting : nesting_of rules ≤ nesting_of others
  tags : tags_of rules ≤ tags_of others

further-trans : (one two three : List RuleOf) → GoNoFurther one two → GoNoFurther two three → GoNoFurther one three
further-trans one two three first second = record {
  size = let a = first.size in let b = second.size in omega (arith, a, b);
  nesting = let a = first.nesting in let b = second.nesting in omega (arith, a, b);
  tags = let a = first.tags in let b = second.tags in omega (arith, a, b);
}

-- those in front, and those behind
further-front : (front back : List RuleOf) → GoNoFurther front (front ++ back)
further-front front back = record {
  size = omega (arith, size_of-both front back);
  nesting = omega (arith, nesting_of-both front back);
  tags = omega (arith, tags_of-both front back);
}

further-back : (front back : List RuleOf) → GoNoFurther back (front ++ back)
further-back front back = record {
  size = omega (arith, size_of-both front back);
  nesting = omega (arith, nesting_of-both front back);
  tags = omega (arith, tags_of-both front back);
}

and-comm : (one two : Bool) → (one && two) ≡ (two && one)
and-comm true true = refl
and-comm true false = refl
and-comm false true = refl
and-comm false false = refl

-- the rules but for `*` and `$`, either way
pub plain-either_way : (rules : List RuleOf) → not_of_kind is_end (not_of_kind is_default rules) ≡ not_of_kind is_default (not_of_kind is_end rules)
plain-either_way rules =
    filter-filter (λ (rule : RuleOf). not (is_end rule.kind)) (λ (rule : RuleOf). not (is_default rule.kind)) rules
    ∙ filter_agree (λ (rule : RuleOf). not (is_end rule.kind) && not (is_default rule.kind)) (λ (rule : RuleOf). not (is_default rule.kind) && not (is_end rule.kind))
    (λ rule. and-comm (not (is_end rule.kind)) (not (is_default rule.kind))) rules
    ∙ sym (filter-filter (λ (rule : RuleOf). not (is_default rule.kind)) (λ (rule : RuleOf). not (is_end rule.kind)) rules)

and-same : (test : Bool) → (test && test) ≡ test
and-same true = refl
and-same false = refl

-- `$` is left out once
others-twice : (rules : List RuleOf) → not_of_kind is_end (not_of_kind is_end rules) ≡ not_of_kind is_end rules
others-twice rules =
    filter-filter (λ (rule : RuleOf). not (is_end rule.kind)) (λ (rule : RuleOf). not (is_end rule.kind)) rules
    ∙ filter_agree (λ (rule : RuleOf). not (is_end rule.kind) && not (is_end rule.kind)) (λ (rule : RuleOf). not (is_end rule.kind))
    (λ rule. and-same (not (is_end rule.kind))) rules

-- the shared rules but for `*` and `$` are in the scanner
shared-plain : (own shared : List RuleOf) → not_of_kind is_end (not_of_kind is_default (shared_beside own shared)) ≡ plain_of shared
shared-plain own shared = at (list_any (λ (rule : RuleOf). is_end rule.kind) own)
  where
    at : (b : Bool) → not_of_kind is_end (not_of_kind is_default (if b then not_of_kind is_end shared else shared)) ≡ plain_of shared
    at true =
        plain-either_way (not_of_kind is_end shared) ∙ ap (not_of_kind is_default) (others-twice shared)
        ∙ sym (plain-either_way shared)
    at false = refl

within_so : (cond : List ℕ) (all rules : List RuleOf) → GoNoFurther (plain_under cond all) (not_of_kind is_end rules) → AreLimited rules
    → is_within all cond ≡ true
within_so cond all rules less most =
    let a = less.size in let b = less.nesting in let c = less.tags in
    let s = most.size in let n = most.nesting in let t = most.tags in
    fits_so whole_room (size_of (plain_under cond all)) (nesting_of (plain_under cond all)) (tags_of (plain_under cond all)) (omega (arith, a, s))
    (omega (arith, b, n)) (omega (arith, c, t))

-- the rules of its condition and those of `<*>` are within the limits where those of the scanner are
module _ (cond : List ℕ) (rules : List RuleOf) (most : AreLimited (rules_of cond rules)) where
  abbrev own : List RuleOf
  own = rules_under cond rules

  abbrev shared : List RuleOf
  shared = rules_under every rules

  abbrev own_part : List RuleOf
  own_part = not_of_kind is_default own

  abbrev shared_part : List RuleOf
  shared_part = not_of_kind is_default (shared_beside own shared)

  abbrev last_part : List RuleOf
  last_part = own_or (of_kind is_default own) (of_kind is_default shared)

  -- the rules of the scanner but for `$`
  others-are : not_of_kind is_end (rules_of cond rules) ≡ plain_of own ++ plain_of shared ++ not_of_kind is_end last_part
  others-are =
      filter-append (λ (rule : RuleOf). not (is_end rule.kind)) (own_part ++ shared_part) last_part
      ∙ ap (λ l. l ++ not_of_kind is_end last_part)
      (filter-append (λ (rule : RuleOf). not (is_end rule.kind)) own_part shared_part ∙ ap (λ l. plain_of own ++ l) (shared-plain own shared))

  pub own_within : is_within rules cond ≡ true
  own_within =
      within_so cond rules (rules_of cond rules)
      (subst (GoNoFurther (plain_of own)) (sym others-are)
      (further-trans (plain_of own) (plain_of own ++ plain_of shared) (plain_of own ++ plain_of shared ++ not_of_kind is_end last_part)
      (further-front (plain_of own) (plain_of shared)) (further-front (plain_of own ++ plain_of shared) (not_of_kind is_end last_part)))) most

  pub shared_within : is_within rules every ≡ true
  shared_within =
      within_so every rules (rules_of cond rules)
      (subst (GoNoFurther (plain_of shared)) (sym others-are)
      (further-trans (plain_of shared) (plain_of own ++ plain_of shared) (plain_of own ++ plain_of shared ++ not_of_kind is_end last_part)
      (further-back (plain_of own) (plain_of shared)) (further-front (plain_of own ++ plain_of shared) (not_of_kind is_end last_part)))) most
