-- A scanner has at most one rule `$`.
use Rattle.std.proofs.Common.{◌≡◌, ℕ, ◌+◌, ◌≤◌, Bool, true, false, not, List, [], ◌∷◌, ◌++◌, length, Option, None, Some, refl, sym, ap, ◌∙◌, arith, length-append}
use Rattle.std.specs.Prelude.{◌&&◌, if◌then◌else◌}
use Rattle.std.specs.List.{AllByRecursion, filter, list_any}
use Rattle.std.proofs.lemmas.List.Elements.{filter-append}
use Rattle.lx_base.specs.declared.faults.Fault.TheVariants.{Redefined}
use Rattle.lx_base.specs.declared.places.Pos.{Pos}
use Rattle.lx_regex.specs.declared.rules.Kind.{Kind}
use Rattle.lx_regex.specs.declared.rules.Kind.TheVariants as kind
use Rattle.lx_exprs.specs.Checks.{is_among}
use Rattle.lx_exprs.specs.Defined.{Meaning}
use Rattle.lx_rules.specs.Blocks.{every, not_of_kind, of_kind, own_or, rules_of, rules_under, scanner_rules, shared_beside, tags_of}
use Rattle.lx_regex.specs.Pattern.{is_end}
use Rattle.lx_rules.specs.Items.{end_meaning, first_of, is_default, twice}
use Rattle.lx_rules.specs.Rules.{RuleOf}
use Rattle.lx_rules.proofs.CondSets.CondNames.{list_any-among}
use Rattle.lx_rules.proofs.Rules.RuleNumbers.{own_or-either}
use Rattle.lx_rules.proofs.ZippedLists.{filter-none}

-- `$` has the meaning that it has to have
abbrev pub IsEndRule : RuleOf → Type 0
IsEndRule rule = is_end rule.kind ≡ true → rule.meaning ≡ end_meaning

-- how many rules `$` there are
abbrev pub end_total : List RuleOf → ℕ
end_total rules = length (of_kind is_end rules)

end_total-both : (front back : List RuleOf) → end_total (front ++ back) ≡ end_total front + end_total back
end_total-both front back =
    ap (λ (l : List RuleOf). length l) (filter-append (λ (rule : RuleOf). is_end rule.kind) front back)
    ∙ length-append (of_kind is_end front) (of_kind is_end back)

-- there are fewer among those that pass a test
end_total-filter : (test : RuleOf → Bool) (rules : List RuleOf) → end_total (filter test rules) ≤ end_total rules
end_total-filter test [] = omega arith
end_total-filter test (rule ∷ rules) = at (test rule) (is_end rule.kind) refl (end_total-filter test rules)
  where
    at : (t e : Bool) → is_end rule.kind ≡ e → end_total (filter test rules) ≤ end_total rules
        → end_total (if t then rule ∷ filter test rules else filter test rules) ≤ length (if e then rule ∷ of_kind is_end rules else of_kind is_end rules)
    at true true e later = rw (e) (omega (arith, later))
    at true false e later = rw (e) later
    at false true e later = omega (arith, later)
    at false false e later = later

-- none is among the others
end_total-others : (rules : List RuleOf) → end_total (not_of_kind is_end rules) ≡ 0
end_total-others [] = refl
end_total-others (rule ∷ rules) = at (is_end rule.kind) refl (end_total-others rules)
  where
    at : (e : Bool) → is_end rule.kind ≡ e → end_total (not_of_kind is_end rules) ≡ 0
        → end_total (if not e then rule ∷ not_of_kind is_end rules else not_of_kind is_end rules) ≡ 0
    at true e later = later
    at false e later = rw (e) later

default_or_end : {A : Type 0} (k : Kind) → is_default k ≡ true → is_end k ≡ true → A
default_or_end kind.Plain one two = absurd (let h : false ≡ true = one in cc)
default_or_end kind.Default one two = absurd (let h : false ≡ true = two in cc)
default_or_end kind.Eof one two = absurd (let h : false ≡ true = one in cc)

-- nor among the rules `*`
end_total-defaults : (rules : List RuleOf) → end_total (of_kind is_default rules) ≡ 0
end_total-defaults [] = refl
end_total-defaults (rule ∷ rules) = at (is_default rule.kind) (is_end rule.kind) refl refl (end_total-defaults rules)
  where
    at : (d e : Bool) → is_default rule.kind ≡ d → is_end rule.kind ≡ e → end_total (of_kind is_default rules) ≡ 0
        → end_total (if d then rule ∷ of_kind is_default rules else of_kind is_default rules) ≡ 0
    at true true one two later = default_or_end rule.kind one two
    at true false one two later = rw (two) later
    at false e one two later = later

end_total-none : (rules : List RuleOf) → list_any (λ (rule : RuleOf). is_end rule.kind) rules ≡ false → end_total rules ≡ 0
end_total-none rules none = ap (λ (l : List RuleOf). length l) (filter-none (λ (rule : RuleOf). is_end rule.kind) rules none)

-- where no rule of the kind has one of the conditions, none of a condition is of the kind
first_of-none : (cond : List ℕ) (conds : List (List ℕ)) (rules : List RuleOf) → first_of is_end conds rules ≡ None → is_among cond conds ≡ true
    → end_total (rules_under cond rules) ≡ 0
first_of-none cond conds [] none among = refl
first_of-none cond conds (rule ∷ rules) none among =
    at (is_among cond rule.conds) (is_end rule.kind) (list_any (λ name. is_among name conds) rule.conds) refl refl refl none (λ free. first_of-none cond conds rules free among)
  where
    at : (u e s : Bool) → is_among cond rule.conds ≡ u → is_end rule.kind ≡ e → list_any (λ name. is_among name conds) rule.conds ≡ s
        → (if e && s then Some rule.at else first_of is_end conds rules) ≡ None
        → (first_of is_end conds rules ≡ None → end_total (rules_under cond rules) ≡ 0)
        → end_total (if u then rule ∷ rules_under cond rules else rules_under cond rules) ≡ 0
    at u true true here kind_is share held later = absurd (let h : Some rule.at ≡ None = held in cc)
    at true true false here kind_is share held later =
        absurd (let h : true ≡ false = sym (list_any-among (λ name. is_among name conds) cond rule.conds here among) ∙ share in cc)
    at false true false here kind_is share held later = later held
    at true false s here kind_is share held later = rw (kind_is) (later held)
    at false false s here kind_is share held later = later held

-- each condition has at most one
abbrev pub AreOnce : List RuleOf → Type 0
AreOnce rules = (cond : List ℕ) → end_total (rules_under cond rules) ≤ 1

pub once_more : (rules : List RuleOf) (rule : RuleOf) → AreOnce rules → (is_end rule.kind ≡ true → first_of is_end rule.conds rules ≡ None)
    → AreOnce (rules ++ rule ∷ [])
once_more rules rule once free = λ cond.
    let all : end_total (rules_under cond (rules ++ rule ∷ [])) ≡ end_total (rules_under cond rules) + end_total (rules_under cond (rule ∷ [])) =
    ap end_total (filter-append (λ (other : RuleOf). is_among cond other.conds) rules (rule ∷ []))
    ∙ end_total-both (rules_under cond rules) (rules_under cond (rule ∷ [])) in
    let most = at cond (is_among cond rule.conds) (is_end rule.kind) refl refl (once cond) in omega (arith, all, most)
  where
    at : (cond : List ℕ) (u e : Bool) → is_among cond rule.conds ≡ u → is_end rule.kind ≡ e → end_total (rules_under cond rules) ≤ 1
        → end_total (rules_under cond rules) + end_total (if u then rule ∷ [] else []) ≤ 1
    at cond true true here kind_is before =
        let none = first_of-none cond rule.conds rules (free kind_is) here in rw (kind_is) (omega (arith, none))
    at cond true false here kind_is before = rw (kind_is) (omega (arith, before))
    at cond false e here kind_is before = omega (arith, before)

module _ (own shared : List RuleOf) (one : end_total own ≤ 1) (other : end_total shared ≤ 1) where
  abbrev own_part : List RuleOf
  own_part = not_of_kind is_default own

  abbrev last_part : List RuleOf
  last_part = own_or (of_kind is_default own) (of_kind is_default shared)

  last_none : end_total last_part ≡ 0
  last_none =
      own_or-either (λ last. end_total last ≡ 0) (of_kind is_default own) (of_kind is_default shared) (end_total-defaults own) (end_total-defaults shared)

  front_once : end_total own_part + end_total (not_of_kind is_default (shared_beside own shared)) ≤ 1
  front_once =
      at (list_any (λ (rule : RuleOf). is_end rule.kind) own) refl
    where
      at : (b : Bool) → list_any (λ (rule : RuleOf). is_end rule.kind) own ≡ b
          → end_total own_part + end_total (not_of_kind is_default (if b then not_of_kind is_end shared else shared)) ≤ 1
      at true e =
          let here = end_total-filter (λ (rule : RuleOf). not (is_default rule.kind)) own in
          let there = end_total-filter (λ (rule : RuleOf). not (is_default rule.kind)) (not_of_kind is_end shared) in
          let none = end_total-others shared in omega (arith, here, there, none, one)
      at false e =
          let here = end_total-filter (λ (rule : RuleOf). not (is_default rule.kind)) own in
          let there = end_total-filter (λ (rule : RuleOf). not (is_default rule.kind)) shared in
          let none = end_total-none own e in omega (arith, here, there, none, other)

  scanner_once : end_total (scanner_rules own shared) ≤ 1
  scanner_once =
      let shared_part = not_of_kind is_default (shared_beside own shared) in
      let all = end_total-both (own_part ++ shared_part) last_part in
      let front = end_total-both own_part shared_part in
      let most = front_once in let none = last_none in omega (arith, all, front, most, none)

-- and so has a scanner
pub end_once : (cond : List ℕ) (rules : List RuleOf) → AreOnce rules → end_total (rules_of cond rules) ≤ 1
end_once cond rules once = scanner_once (rules_under cond rules) (rules_under every rules) (once cond) (once every)

-- `$` has no tags
pub tags_of-others : (rules : List RuleOf) → AllByRecursion IsEndRule rules → tags_of rules ≡ tags_of (not_of_kind is_end rules)
tags_of-others [] ends = refl
tags_of-others (rule ∷ rules) ends = at (is_end rule.kind) refl (tags_of-others rules ends.1)
  where
    at : (e : Bool) → is_end rule.kind ≡ e → tags_of rules ≡ tags_of (not_of_kind is_end rules)
        → rule.meaning.count + tags_of rules ≡ tags_of (if not e then rule ∷ not_of_kind is_end rules else not_of_kind is_end rules)
    at true e later = let none = ap (λ (meaning : Meaning). meaning.count) (ends.0 e) in omega (arith, none, later)
    at false e later = omega (arith, later)

-- a second rule is refused
pub twice-none : (at : Pos) (first : Option Pos) → None ≡ twice at first → first ≡ None
twice-none at None none = refl
twice-none at (Some first) none = absurd (let h : None ≡ Some (Redefined at first) = none in cc)
