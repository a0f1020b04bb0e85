-- Rules that are taken up for conditions, each once, and their places.
use Rattle.std.proofs.Common.{◌≡◌, ℕ, suc, ◌+◌, ◌-◌, ◌<◌, ◌≤◌, inl, inr, Bool, true, false, List, [], ◌∷◌, ◌++◌, length, refl, sym, ap, ◌∙◌, arith, length-append, eq-eqb}
use Rattle.std.specs.Prelude.{◌==◌, ◌||◌, slice_get, if◌then◌else◌}
use Rattle.std.specs.List.{AllByRecursion}
use Rattle.std.specs.Option.{option_map_or}
use Rattle.std.specs.Str.{bytes_eq}
use Rattle.std.proofs.Math.Seq.{get_or-append_seam}
use Rattle.std.proofs.lemmas.Option.{slice_get-get_or, slice_get_cases}
use Rattle.lx_exprs.specs.Checks.{is_among}
use Rattle.lx_rules.specs.declared.conditions.Conditions.{Conditions}
use Rattle.lx_rules.specs.declared.conditions.Standing.{Standing}
use Rattle.lx_rules.specs.Conditions.{is_last, kept_of, places_of, standing_of, standing_with, taken}
use Rattle.lx_rules.specs.Kept.{places_from}
use Rattle.lx_rules.specs.Rules.{RuleOf}
use Rattle.lx_rules.proofs.CondSets.CondNames.{is_among-append}
use Rattle.lx_rules.proofs.Rules.RuleNumbers.{all_at}

-- ---- the last place

is_last-here : (place : ℕ) (places : List ℕ) → is_last place (places ++ place ∷ []) ≡ true
is_last-here place places =
    let all = length-append places (place ∷ []) in
    let end : length (places ++ place ∷ []) - 1 ≡ length places = omega (arith, all) in
    let found = slice_get-get_or (places ++ place ∷ []) (length places) 0 (omega (arith, all)) in
    ap (λ n. option_map_or (λ last. last == place) (slice_get (places ++ place ∷ []) n) false) end
    ∙ ap (λ one. option_map_or (λ last. last == place) one false) found
    ∙ ap (λ (last : ℕ). last == place) (get_or-append_seam places place [] 0) ∙ eq-eqb place place refl

is_last-below : (place : ℕ) (places : List ℕ) → AllByRecursion (λ one. one < place) places → is_last place places ≡ false
is_last-below place places below = elim ((slice_get_cases places (length places - 1)).1) [
  | inl found ↦
      let less = all_at (λ one. one < place) places (length places - 1) found.0 below found.1 in
      let last = found.3 in
      let other : (found.0 == place) ≡ false = search (arith, less, last) in
      ap (λ one. option_map_or (λ last. last == place) one false) found.2 ∙ other
  | inr none ↦ ap (λ one. option_map_or (λ last. last == place) one false) none.1
]

-- ---- rules are taken up once

module _ (place : ℕ) (rule : Standing) where
  abbrev with_place : Standing × List ℕ → Standing × List ℕ
  with_place kept = (standing_with kept.0 rule, kept.1 ++ place ∷ [])

  taken-by : (kept : Standing × List ℕ) (last : Bool) → is_last place kept.1 ≡ last → taken place rule kept ≡ (if last then kept else with_place kept)
  taken-by kept last e = ap (λ (test : Bool). if test then kept else with_place kept) e

  taken-twice : (kept : Standing × List ℕ) → taken place rule (taken place rule kept) ≡ taken place rule kept
  taken-twice kept = at (is_last place kept.1) refl
    where
      at : (last : Bool) → is_last place kept.1 ≡ last → taken place rule (taken place rule kept) ≡ taken place rule kept
      at true e = ap (taken place rule) (taken-by kept true e)
      at false e =
          ap (taken place rule) (taken-by kept false e) ∙ taken-by (with_place kept) true (is_last-here place kept.1) ∙ sym (taken-by kept false e)

  module _ (seen : List (List ℕ)) (name : List ℕ) (first last next : List ℕ → Standing × List ℕ)
      (last_is : (cond : List ℕ) → last cond ≡ (if is_among cond seen then taken place rule (first cond) else first cond))
      (next_is : (cond : List ℕ) → next cond ≡ (if bytes_eq cond name then taken place rule (last cond) else last cond)) where
    -- for one condition more
    pub taken-more : (cond : List ℕ) → next cond ≡ (if is_among cond (seen ++ name ∷ []) then taken place rule (first cond) else first cond)
    taken-more cond =
        by (is_among cond seen) (bytes_eq cond name) refl refl
        ∙ sym (ap (λ (test : Bool). if test then taken place rule (first cond) else first cond) (is_among-append cond seen (name ∷ [])))
      where
        before : (among : Bool) → is_among cond seen ≡ among → last cond ≡ (if among then taken place rule (first cond) else first cond)
        before among e = last_is cond ∙ ap (λ (test : Bool). if test then taken place rule (first cond) else first cond) e

        after : (here : Bool) → bytes_eq cond name ≡ here → next cond ≡ (if here then taken place rule (last cond) else last cond)
        after here f = next_is cond ∙ ap (λ (test : Bool). if test then taken place rule (last cond) else last cond) f

        by : (among here : Bool) → is_among cond seen ≡ among → bytes_eq cond name ≡ here
            → next cond ≡ (if among || (here || false) then taken place rule (first cond) else first cond)
        by true false e f = after false f ∙ before true e
        by false false e f = after false f ∙ before false e
        by true true e f = after true f ∙ ap (taken place rule) (before true e) ∙ taken-twice (first cond)
        by false true e f = after true f ∙ ap (taken place rule) (before false e)

-- ---- the places of rules

places_from-snoc : (place : ℕ) (rules : List RuleOf) (rule : RuleOf) (cond : List ℕ)
    → places_from place (rules ++ rule ∷ []) cond
    ≡ (if is_among cond rule.conds then places_from place rules cond ++ (place + length rules) ∷ [] else places_from place rules cond)
places_from-snoc place [] rule cond =
    let same : place ≡ place + 0 = omega arith in ap (λ n. if is_among cond rule.conds then n ∷ [] else []) same
places_from-snoc place (first ∷ rules) rule cond =
    at (is_among cond first.conds) (is_among cond rule.conds) (places_from-snoc (suc place) rules rule cond)
  where
    next : suc place + length rules ≡ place + length (first ∷ rules)
    next = omega arith

    at : (here there : Bool)
        → places_from (suc place) (rules ++ rule ∷ []) cond
        ≡ (if there then places_from (suc place) rules cond ++ (suc place + length rules) ∷ [] else places_from (suc place) rules cond)
        → (if here then place ∷ places_from (suc place) (rules ++ rule ∷ []) cond else places_from (suc place) (rules ++ rule ∷ []) cond)
        ≡ (if there then (if here then place ∷ places_from (suc place) rules cond else places_from (suc place) rules cond) ++ (place + length (first ∷ rules)) ∷ []
        else (if here then place ∷ places_from (suc place) rules cond else places_from (suc place) rules cond))
    at true true later = ap (λ l. place ∷ l) (later ∙ ap (λ n. places_from (suc place) rules cond ++ n ∷ []) next)
    at true false later = ap (λ l. place ∷ l) later
    at false true later = later ∙ ap (λ n. places_from (suc place) rules cond ++ n ∷ []) next
    at false false later = later

places_from-below : (most place : ℕ) (rules : List RuleOf) (cond : List ℕ) → place + length rules ≤ most
    → AllByRecursion (λ one. one < most) (places_from place rules cond)
places_from-below most place [] cond le = tt
places_from-below most place (rule ∷ rules) cond le =
    at (is_among cond rule.conds) (places_from-below most (suc place) rules cond (omega (arith, le)))
  where
    at : (b : Bool) → AllByRecursion (λ one. one < most) (places_from (suc place) rules cond)
        → AllByRecursion (λ one. one < most) (if b then place ∷ places_from (suc place) rules cond else places_from (suc place) rules cond)
    at true later = (omega (arith, le), later)
    at false later = later

module _ (before after : Conditions) (rules : List RuleOf) (rule : RuleOf) (more : Standing)
    (places : (cond : List ℕ) → places_of before cond ≡ places_from 0 rules cond)
    (takes : (cond : List ℕ) → kept_of after cond ≡ (if is_among cond rule.conds then taken (length rules) more (kept_of before cond) else kept_of before cond)) where
  -- a rule behind others was not taken up before
  fresh : (cond : List ℕ) → taken (length rules) more (kept_of before cond) ≡ (standing_with (standing_of before cond) more, places_of before cond ++ length rules ∷ [])
  fresh cond =
      taken-by (length rules) more (kept_of before cond) false
      (ap (is_last (length rules)) (places cond) ∙ is_last-below (length rules) (places_from 0 rules cond) (places_from-below (length rules) 0 rules cond (omega arith)))

  takes-by : (cond : List ℕ) (among : Bool) → is_among cond rule.conds ≡ among
      → kept_of after cond ≡ (if among then (standing_with (standing_of before cond) more, places_of before cond ++ length rules ∷ []) else kept_of before cond)
  takes-by cond among e =
      takes cond ∙ ap (λ kept. if is_among cond rule.conds then kept else kept_of before cond) (fresh cond)
      ∙ ap (λ (test : Bool). if test then (standing_with (standing_of before cond) more, places_of before cond ++ length rules ∷ []) else kept_of before cond) e

  -- so the rules of a condition stand with it
  pub standing-taken : (cond : List ℕ) → standing_of after cond ≡ (if is_among cond rule.conds then standing_with (standing_of before cond) more else standing_of before cond)
  standing-taken cond = at (is_among cond rule.conds) refl
    where
      at : (among : Bool) → is_among cond rule.conds ≡ among
          → standing_of after cond ≡ (if among then standing_with (standing_of before cond) more else standing_of before cond)
      at true e = ap (λ (kept : Standing × List ℕ). kept.0) (takes-by cond true e)
      at false e = ap (λ (kept : Standing × List ℕ). kept.0) (takes-by cond false e)

  -- and these are their places
  pub places-taken : (cond : List ℕ) → places_of after cond ≡ places_from 0 (rules ++ rule ∷ []) cond
  places-taken cond =
      at (is_among cond rule.conds) refl ∙ sym (places_from-snoc 0 rules rule cond)
    where
      end : length rules ≡ 0 + length rules
      end = omega arith

      by : (among : Bool) → is_among cond rule.conds ≡ among → places_of after cond ≡ (if among then places_of before cond ++ length rules ∷ [] else places_of before cond)
      by true e = ap (λ (kept : Standing × List ℕ). kept.1) (takes-by cond true e)
      by false e = ap (λ (kept : Standing × List ℕ). kept.1) (takes-by cond false e)

      at : (among : Bool) → is_among cond rule.conds ≡ among
          → places_of after cond
          ≡ (if is_among cond rule.conds then places_from 0 rules cond ++ (0 + length rules) ∷ [] else places_from 0 rules cond)
      at true e =
          by true e ∙ ap (λ l. l ++ length rules ∷ []) (places cond) ∙ ap (λ n. places_from 0 rules cond ++ n ∷ []) end
          ∙ sym (ap (λ (test : Bool). if test then places_from 0 rules cond ++ (0 + length rules) ∷ [] else places_from 0 rules cond) e)
      at false e =
          by false e ∙ places cond
          ∙ sym (ap (λ (test : Bool). if test then places_from 0 rules cond ++ (0 + length rules) ∷ [] else places_from 0 rules cond) e)
