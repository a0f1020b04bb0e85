-- The rules of a scanner as they are kept, and their checks.
use Rattle.std.proofs.Common.{◌≡◌, ℕ, ◌⊎◌, inl, inr, Bool, true, false, not, List, [], ◌∷◌, ◌++◌, Option, None, Some, refl, sym, ap, ap₂, ◌∙◌, subst, arith, append-nil, append_assoc, suc, ◌+◌, ◌<◌, drop, get_or, length}
use Rattle.std.specs.Prelude.{◌||◌, ◌&&◌, nat_lt, if◌then◌else◌, slice_get}
use Rattle.std.specs.List.{AllZip, list_any, cons_option}
use Rattle.std.specs.Option.{option_or}
use Rattle.std.proofs.lemmas.List.{drop_more}
use Rattle.lx_base.specs.declared.faults.Fault.TheVariants.{NoRules, TooManyParts}
use Rattle.lx_base.specs.declared.places.Pos.{Pos}
use Rattle.lx_exprs.specs.Checks.{is_among}
use Rattle.lx_exprs.specs.Defined.{kept}
use Rattle.lx_rules.specs.declared.conditions.Running.{Running}
use Rattle.lx_rules.specs.declared.kept.KeptRule.{KeptRule}
use Rattle.lx_rules.specs.Blocks.{every, limits_fault, nesting_of, not_of_kind, of_kind, own_or, pair_fault, rules_of, rules_under, scanner_fault, scanner_rules, shared_beside, size_of, tags_of}
use Rattle.lx_rules.specs.Conditions.{nothing_runs, running_with}
use Rattle.lx_rules.specs.Finishing.{kept_defaults, kept_fault, kept_in_order, kept_others, kept_at, kept_rules_of, running_fault, running_over, weight_of}
use Rattle.lx_regex.specs.Pattern.{is_end}
use Rattle.lx_rules.specs.Items.{is_default}
use Rattle.lx_rules.specs.Kept.{IsKeptRule, IsRunning, places_from}
use Rattle.lx_rules.specs.Rules.{RuleOf}
use Rattle.lx_rules.proofs.Rules.RuleLists.{IsRunning-both, IsRunning-nothing}
use Rattle.lx_rules.proofs.ZippedLists.{filter-filter, filter-none, filter-some, zip-any, zip-append, zip-filter, zip-so}

own_or-some : {B : Type 0} (own shared : List RuleOf) → (own ≡ [] → B) → (own_or own shared ≡ own → B) → B
own_or-some [] shared empty full = empty refl
own_or-some (rule ∷ own) shared empty full = full refl

-- own rules, of which there are some
own_or-own : (rules shared : List RuleOf) → list_any (λ (rule : RuleOf). is_default rule.kind) rules ≡ true
    → own_or (of_kind is_default rules) shared ≡ of_kind is_default rules
own_or-own rules shared some =
    own_or-some (of_kind is_default rules) shared (λ none. filter-some (λ (rule : RuleOf). is_default rule.kind) rules some none) (λ is. is)

and-true : (test : Bool) → (test && true) ≡ test
and-true true = refl
and-true false = refl

module _ (S : KeptRule → RuleOf → Type 0) (kinds : (one : KeptRule) (rule : RuleOf) → S one rule → one.kind ≡ rule.kind) where
  same_default : (one : KeptRule) (rule : RuleOf) → S one rule → is_default one.kind ≡ is_default rule.kind
  same_default one rule is = ap is_default (kinds one rule is)

  same_end : (one : KeptRule) (rule : RuleOf) → S one rule → is_end one.kind ≡ is_end rule.kind
  same_end one rule is = ap is_end (kinds one rule is)

  -- the rules but for `*`, with `$` and without
  others-with : (held : List KeptRule) (rules : List RuleOf) → AllZip S held rules → AllZip S (kept_others true held) (not_of_kind is_default rules)
  others-with held rules all =
      zip-filter S (λ (one : KeptRule). not (is_default one.kind) && (true || not (is_end one.kind))) (λ (rule : RuleOf). not (is_default rule.kind))
      (λ one rule is. and-true (not (is_default one.kind)) ∙ ap not (same_default one rule is)) held rules all

  others-without : (held : List KeptRule) (rules : List RuleOf) → AllZip S held rules
      → AllZip S (kept_others false held) (not_of_kind is_default (not_of_kind is_end rules))
  others-without held rules all =
      subst (AllZip S (kept_others false held))
      (sym (filter-filter (λ (rule : RuleOf). not (is_default rule.kind)) (λ (rule : RuleOf). not (is_end rule.kind)) rules))
      (zip-filter S (λ (one : KeptRule). not (is_default one.kind) && (false || not (is_end one.kind)))
      (λ (rule : RuleOf). not (is_default rule.kind) && not (is_end rule.kind))
      (λ one rule is. ap₂ (λ a b. not a && not b) (same_default one rule is) (same_end one rule is)) held rules all)

  defaults : (held : List KeptRule) (rules : List RuleOf) → AllZip S held rules → AllZip S (kept_defaults held) (of_kind is_default rules)
  defaults held rules all = zip-filter S (λ (one : KeptRule). is_default one.kind) (λ (rule : RuleOf). is_default rule.kind) same_default held rules all

  module _ (own shared : List KeptRule) (rules others : List RuleOf) (here : AllZip S own rules) (there : AllZip S shared others) where
    shared_part : AllZip S (kept_others (not (list_any (λ (one : KeptRule). is_end one.kind) own)) shared) (not_of_kind is_default (shared_beside rules others))
    shared_part =
        at (list_any (λ (one : KeptRule). is_end one.kind) own) (list_any (λ (rule : RuleOf). is_end rule.kind) rules)
        (zip-any S (λ (one : KeptRule). is_end one.kind) (λ (rule : RuleOf). is_end rule.kind) same_end own rules here)
      where
        at : (one two : Bool) → one ≡ two → AllZip S (kept_others (not one) shared) (not_of_kind is_default (if two then not_of_kind is_end others else others))
        at true true e = others-without shared others there
        at false false e = others-with shared others there
        at true false e = absurd (let h : true ≡ false = e in cc)
        at false true e = absurd (let h : false ≡ true = e in cc)

    default_part : AllZip S (kept_defaults (if list_any (λ (one : KeptRule). is_default one.kind) own then own else shared))
        (own_or (of_kind is_default rules) (of_kind is_default others))
    default_part =
        at (list_any (λ (one : KeptRule). is_default one.kind) own)
        (sym (zip-any S (λ (one : KeptRule). is_default one.kind) (λ (rule : RuleOf). is_default rule.kind) same_default own rules here))
      where
        at : (some : Bool) → list_any (λ (rule : RuleOf). is_default rule.kind) rules ≡ some
            → AllZip S (kept_defaults (if some then own else shared)) (own_or (of_kind is_default rules) (of_kind is_default others))
        at true e = subst (AllZip S (kept_defaults own)) (sym (own_or-own rules (of_kind is_default others) e)) (defaults own rules here)
        at false e =
            subst (λ l. AllZip S (kept_defaults shared) (own_or l (of_kind is_default others))) (sym (filter-none (λ (rule : RuleOf). is_default rule.kind) rules e))
            (defaults shared others there)

    -- the rules of a scanner in their order
    pub in_order-zip : AllZip S (kept_in_order own shared) (scanner_rules rules others)
    in_order-zip =
        let with_end = not (list_any (λ (one : KeptRule). is_end one.kind) own) in
        zip-append S (kept_others true own ++ kept_others with_end shared)
        (kept_defaults (if list_any (λ (one : KeptRule). is_default one.kind) own then own else shared))
        (not_of_kind is_default rules ++ not_of_kind is_default (shared_beside rules others)) (own_or (of_kind is_default rules) (of_kind is_default others))
        (zip-append S (kept_others true own) (kept_others with_end shared) (not_of_kind is_default rules) (not_of_kind is_default (shared_beside rules others))
        (others-with own rules here) shared_part)
        default_part

-- a rule that is kept has the condition, or that of `<*>`
pub record StandsUnder (names : List (List ℕ)) (all : List RuleOf) (cond : List ℕ) (one : KeptRule) (rule : RuleOf) : Type 0 where
  pub held : IsKeptRule names all one rule
  pub under : (is_among cond rule.conds ≡ true) ⊎ (is_among every rule.conds ≡ true)

-- the rule at one place more, if there is one
pub kept_at-next : (places : List ℕ) (held : List KeptRule) (index : ℕ) (found : Option KeptRule) → index < length places
    → slice_get held (get_or places index 0) ≡ found
    → kept_at (drop index places) held ≡ cons_option found (kept_at (drop (index + 1) places) held)
kept_at-next places held index found lt is =
    ap (λ l. kept_at l held) (drop_more places index 0 lt) ∙ ap (λ one. cons_option one (kept_at (drop (index + 1) places) held)) is

module _ (names : List (List ℕ)) (all : List RuleOf) (cond : List ℕ) where
  -- a rule that is kept has the condition
  abbrev IsUnder : KeptRule → RuleOf → Type 0
  IsUnder one rule = IsKeptRule names all one rule × (is_among cond rule.conds ≡ true)

  -- the rules at the places of a condition, behind so many others
  at-zip : (whole : List KeptRule) (start : ℕ) (held : List KeptRule) (rules : List RuleOf)
      → ((count : ℕ) → slice_get whole (start + count) ≡ slice_get held count) → AllZip (IsKeptRule names all) held rules
      → AllZip IsUnder (kept_at (places_from start rules cond) whole) (rules_under cond rules)
  at-zip whole start [] [] behind are = tt
  at-zip whole start [] (rule ∷ rules) behind are = absurd are
  at-zip whole start (one ∷ held) [] behind are = absurd are
  at-zip whole start (one ∷ held) (rule ∷ rules) behind are =
      at (is_among cond rule.conds) refl (at-zip whole (suc start) held rules next are.1)
    where
      here : slice_get whole start ≡ Some one
      here = let same : start ≡ start + 0 = omega arith in ap (slice_get whole) same ∙ behind 0

      next : (count : ℕ) → slice_get whole (suc start + count) ≡ slice_get held count
      next count = let same : suc start + count ≡ start + suc count = omega arith in ap (slice_get whole) same ∙ behind (suc count)

      at : (b : Bool) → is_among cond rule.conds ≡ b → AllZip IsUnder (kept_at (places_from (suc start) rules cond) whole) (rules_under cond rules)
          → AllZip IsUnder (kept_at (if b then start ∷ places_from (suc start) rules cond else places_from (suc start) rules cond) whole)
          (if b then rule ∷ rules_under cond rules else rules_under cond rules)
      at true e later =
          subst (λ found. AllZip IsUnder (cons_option found (kept_at (places_from (suc start) rules cond) whole)) (rule ∷ rules_under cond rules)) (sym here)
          ((are.0, e), later)
      at false e later = later

module _ (names : List (List ℕ)) (all : List RuleOf) (held : List KeptRule) (rules : List RuleOf) (are : AllZip (IsKeptRule names all) held rules)
    (places : List ℕ → List ℕ) (placed : (cond : List ℕ) → places cond ≡ places_from 0 rules cond) where
  under-zip : (cond : List ℕ) → AllZip (IsUnder names all cond) (kept_at (places cond) held) (rules_under cond rules)
  under-zip cond =
      subst (λ l. AllZip (IsUnder names all cond) (kept_at l held) (rules_under cond rules)) (sym (placed cond))
      (at-zip names all cond held 0 held rules (λ count. let same : 0 + count ≡ count = omega arith in ap (slice_get held) same) are)

  -- the rules of the scanner of a condition
  pub rules_of-zip : (cond : List ℕ) → AllZip (StandsUnder names all cond) (kept_rules_of places cond held) (rules_of cond rules)
  rules_of-zip cond =
      in_order-zip (StandsUnder names all cond) (λ one rule is. is.held.kind) (kept_at (places cond) held) (kept_at (places every) held) (rules_under cond rules)
      (rules_under every rules)
      (zip-so (IsUnder names all cond) (StandsUnder names all cond) (λ one rule is. record { held = is.0; under = inl is.1 }) (kept_at (places cond) held)
      (rules_under cond rules) (under-zip cond))
      (zip-so (IsUnder names all every) (StandsUnder names all cond) (λ one rule is. record { held = is.0; under = inr is.1 }) (kept_at (places every) held)
      (rules_under every rules) (under-zip every))

-- so far a rule goes, as far as that is kept
IsRunning-one : (names : List (List ℕ)) (all : List RuleOf) (one : KeptRule) (rule : RuleOf) → IsKeptRule names all one rule
    → IsRunning (rule ∷ []) (weight_of one)
IsRunning-one names all one rule is =
    let s = is.size in let n = is.nesting in let t = is.count in
    record { size = omega (arith, s); nesting = omega (arith, n); tags = omega (arith, t) }

module _ (names : List (List ℕ)) (all : List RuleOf) where
  -- so far the rules of a scanner go
  running-over : (held : List KeptRule) (rules front : List RuleOf) (running : Running) → AllZip (IsKeptRule names all) held rules → IsRunning front running
      → IsRunning (front ++ not_of_kind is_end rules) (running_over running held)
  running-over [] [] front running are runs = subst (λ l. IsRunning l running) (sym (append-nil front)) runs
  running-over [] (rule ∷ rules) front running are runs = absurd are
  running-over (one ∷ held) [] front running are runs = absurd are
  running-over (one ∷ held) (rule ∷ rules) front running are runs =
      at (is_end one.kind) (is_end rule.kind) (ap is_end are.0.kind) (running-over held rules front running are.1 runs)
      (running-over held rules (front ++ rule ∷ []) (running_with running (weight_of one)) are.1
      (IsRunning-both front (rule ∷ []) running (weight_of one) runs (IsRunning-one names all one rule are.0)))
    where
      at : (a b : Bool) → a ≡ b → IsRunning (front ++ not_of_kind is_end rules) (running_over running held)
          → IsRunning ((front ++ rule ∷ []) ++ not_of_kind is_end rules) (running_over (running_with running (weight_of one)) held)
          → IsRunning (front ++ (if not b then rule ∷ not_of_kind is_end rules else not_of_kind is_end rules))
          (if a then running_over running held else running_over (running_with running (weight_of one)) held)
      at true true e without with = without
      at false false e without with =
          subst (λ l. IsRunning l (running_over (running_with running (weight_of one)) held)) (append_assoc front (rule ∷ []) (not_of_kind is_end rules)) with
      at true false e without with = absurd (let h : true ≡ false = e in cc)
      at false true e without with = absurd (let h : false ≡ true = e in cc)

-- past a limit
abbrev is_over : (size nesting tags : ℕ) → Bool
is_over size nesting tags = nat_lt 4096 size || nat_lt 256 nesting || nat_lt 128 tags

-- what is kept is past the same limits
over_kept : (size nesting tags : ℕ) → is_over (kept size) (kept nesting) (kept tags) ≡ is_over size nesting tags
over_kept size nesting tags =
    let a : nat_lt 4096 (kept size) ≡ nat_lt 4096 size = search arith in
    let b : nat_lt 256 (kept nesting) ≡ nat_lt 256 nesting = search arith in
    let c : nat_lt 128 (kept tags) ≡ nat_lt 128 tags = search arith in
    ap₂ (λ a b. a || b || nat_lt 128 (kept tags)) a b ∙ ap (λ c. nat_lt 4096 size || nat_lt 256 nesting || c) c

running_fault-is : (at : Pos) (rules : List RuleOf) (running : Running) → IsRunning rules running
    → running_fault at running ≡ limits_fault at (size_of rules) (nesting_of rules) (tags_of rules)
running_fault-is at rules running runs =
    ap₂ (λ s n. if is_over s n running.tags then Some (TooManyParts at s n running.tags) else None) runs.size runs.nesting
    ∙ ap (λ t. if is_over (kept (size_of rules)) (kept (nesting_of rules)) t then Some (TooManyParts at (kept (size_of rules)) (kept (nesting_of rules)) t) else None) runs.tags
    ∙ ap (λ (b : Bool). if b then Some (TooManyParts at (kept (size_of rules)) (kept (nesting_of rules)) (kept (tags_of rules))) else None)
    (over_kept (size_of rules) (nesting_of rules) (tags_of rules))

-- the checks of the rules that are kept are those of a scanner
pub kept_fault-is : (names : List (List ℕ)) (all : List RuleOf) (at : Pos) (eof : Option ℕ) (held : List KeptRule) (rules : List RuleOf)
    → AllZip (IsKeptRule names all) held rules → kept_fault at eof held ≡ scanner_fault at eof rules
kept_fault-is names all at eof held rules are =
    let others = zip-any (IsKeptRule names all) (λ (one : KeptRule). not (is_end one.kind)) (λ (rule : RuleOf). not (is_end rule.kind))
    (λ one rule is. ap (λ k. not (is_end k)) is.kind) held rules are in
    let ends = zip-any (IsKeptRule names all) (λ (one : KeptRule). is_end one.kind) (λ (rule : RuleOf). is_end rule.kind) (λ one rule is. ap is_end is.kind) held
    rules are in
    let limits = running_fault-is at (not_of_kind is_end rules) (running_over nothing_runs held)
    (running-over names all held rules [] nothing_runs are IsRunning-nothing) in
    ap₂ (λ a b. option_or (if not a then Some (NoRules at) else None) (option_or (pair_fault at eof b) (running_fault at (running_over nothing_runs held))))
    others ends
    ∙ ap (λ fault. option_or (if not (list_any (λ (rule : RuleOf). not (is_end rule.kind)) rules) then Some (NoRules at) else None)
    (option_or (pair_fault at eof (list_any (λ (rule : RuleOf). is_end rule.kind) rules)) fault)) limits
