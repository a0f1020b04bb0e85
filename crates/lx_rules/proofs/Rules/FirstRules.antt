-- The first rules of a kind, under conditions and among all.
use Rattle.std.proofs.Common.{◌≡◌, ℕ, suc, ◌+◌, ◌≤◌, Bool, true, false, List, [], ◌∷◌, ◌++◌, length, Option, None, Some, refl, sym, ap, ap₂, ◌∙◌, arith}
use Rattle.std.specs.Prelude.{◌&&◌, ◌||◌, IfSome, nat_lt, if◌then◌else◌}
use Rattle.std.specs.List.{list_any}
use Rattle.std.specs.Option.{option_map, option_or}
use Rattle.std.specs.Str.{bytes_eq}
use Rattle.lx_base.specs.declared.places.Pos.{Pos}
use Rattle.lx_regex.specs.declared.rules.Kind.{Kind}
use Rattle.lx_exprs.specs.Checks.{is_among}
use Rattle.lx_rules.specs.declared.conditions.FirstRule.{FirstRule}
use Rattle.lx_rules.specs.Conditions.{earlier, earliest}
use Rattle.lx_rules.specs.Items.{first_of}
use Rattle.lx_rules.specs.Kept.{first_from}
use Rattle.lx_rules.specs.Rules.{RuleOf}
use Rattle.lx_rules.proofs.CondSets.CondNames.{list_any-one}
use Rattle.lx_rules.proofs.CondSets.CondNumbers.{option_or-none}

-- a rule of the kind that has a condition, with this number
abbrev if_first : (Kind → Bool) → RuleOf → (cond : List ℕ) → (number : ℕ) → Option FirstRule
if_first test rule cond number = if test rule.kind && is_among cond rule.conds then Some (record { number = number; at = rule.at }) else None

-- one rule more
first_from-snoc : (test : Kind → Bool) (number : ℕ) (rules : List RuleOf) (rule : RuleOf) (cond : List ℕ)
    → first_from test number (rules ++ rule ∷ []) cond
    ≡ option_or (first_from test number rules cond) (if_first test rule cond (length rules + number))
first_from-snoc test number [] rule cond =
    let same : number ≡ 0 + number = omega arith in
    ap (if_first test rule cond) same
first_from-snoc test number (first ∷ rules) rule cond =
    at (test first.kind && is_among cond first.conds) (first_from-snoc test (suc number) rules rule cond)
  where
    next : length rules + suc number ≡ length (first ∷ rules) + number
    next = omega arith

    at : (b : Bool) → first_from test (suc number) (rules ++ rule ∷ []) cond ≡ option_or (first_from test (suc number) rules cond) (if_first test rule cond (length rules + suc number))
        → (if b then Some (record { number = number; at = first.at }) else first_from test (suc number) (rules ++ rule ∷ []) cond)
        ≡ option_or (if b then Some (record { number = number; at = first.at }) else first_from test (suc number) rules cond) (if_first test rule cond (length (first ∷ rules) + number))
    at true later = refl
    at false later = later ∙ ap (λ n. option_or (first_from test (suc number) rules cond) (if_first test rule cond n)) next

-- what is kept of a condition goes on so
pub first_from-more :
    (test : Kind → Bool) (rules : List RuleOf) (rule : RuleOf) (cond : List ℕ) (before after more : Option FirstRule) → before ≡ first_from test 1 rules cond
    → more ≡ (if test rule.kind then Some (record { number = suc (length rules); at = rule.at }) else None)
    → ((b : Bool) → is_among cond rule.conds ≡ b → after ≡ (if b then option_or before more else before))
    → after ≡ first_from test 1 (rules ++ rule ∷ []) cond
first_from-more test rules rule cond before after more is more_is after_is =
    by (test rule.kind) (is_among cond rule.conds) more_is (after_is (is_among cond rule.conds) refl) ∙ sym (first_from-snoc test 1 rules rule cond)
  where
    next : suc (length rules) ≡ length rules + 1
    next = omega arith

    by : (t b : Bool) → more ≡ (if t then Some (record { number = suc (length rules); at = rule.at }) else None)
        → after ≡ (if b then option_or before more else before)
        → after
        ≡ option_or (first_from test 1 rules cond) (if t && b then Some (record { number = length rules + 1; at = rule.at }) else None)
    by true true m a = a ∙ ap₂ option_or is (m ∙ ap (λ (n : ℕ). Some (record { number = n; at = rule.at })) next)
    by false true m a = a ∙ ap₂ option_or is m
    by true false m a = a ∙ is ∙ sym (option_or-none (first_from test 1 rules cond))
    by false false m a = a ∙ is ∙ sym (option_or-none (first_from test 1 rules cond))

-- a rule that has this number or a greater one, if there is one
abbrev IsFrom : ℕ → Option FirstRule → Type 0
IsFrom number rule = IfSome rule (λ (one : FirstRule). number ≤ one.number)

from_less : (number : ℕ) (rule : Option FirstRule) → IsFrom (suc number) rule → IsFrom number rule
from_less number None late = tt
from_less number (Some one) late = omega (arith, late)

first_from-late : (test : Kind → Bool) (number : ℕ) (rules : List RuleOf) (cond : List ℕ) → IsFrom number (first_from test number rules cond)
first_from-late test number [] cond = tt
first_from-late test number (rule ∷ rules) cond = at (test rule.kind && is_among cond rule.conds) (first_from-late test (suc number) rules cond)
  where
    at : (b : Bool) → IsFrom (suc number) (first_from test (suc number) rules cond)
        → IsFrom number (if b then Some (record { number = number; at = rule.at }) else first_from test (suc number) rules cond)
    at true later = omega arith
    at false later = from_less number (first_from test (suc number) rules cond) later

earlier-late : (number : ℕ) (one other : Option FirstRule) → IsFrom number one → IsFrom number other → IsFrom number (earlier one other)
earlier-late number None other first second = second
earlier-late number (Some one) None first second = first
earlier-late number (Some one) (Some other) first second = at (nat_lt other.number one.number)
  where
    at : (b : Bool) → IsFrom number (if b then Some other else Some one)
    at true = second
    at false = first

-- what conditions have may be told in another way
pub earliest-same : (of_cond other : List ℕ → Option FirstRule) → ((cond : List ℕ) → of_cond cond ≡ other cond) → (rule : Option FirstRule)
    (conds : List (List ℕ)) → earliest of_cond rule conds ≡ earliest other rule conds
earliest-same of_cond other same rule [] = refl
earliest-same of_cond other same rule (cond ∷ conds) =
    ap (λ one. earliest of_cond (earlier rule one) conds) (same cond) ∙ earliest-same of_cond other same (earlier rule (other cond)) conds

-- a rule of the kind in front of others
module _ (test : Kind → Bool) (number : ℕ) (rule : RuleOf) (rules : List RuleOf) (is : test rule.kind ≡ true) where
  abbrev this : Option FirstRule
  this = Some (record { number = number; at = rule.at })

  abbrev behind : List ℕ → Option FirstRule
  behind cond = first_from test (suc number) rules cond

  abbrev with_this : List ℕ → Option FirstRule
  with_this cond = first_from test number (rule ∷ rules) cond

  -- none is earlier
  earlier-this : (cond : List ℕ) → earlier this (with_this cond) ≡ this
  earlier-this cond = at (with_this cond) (first_from-late test number (rule ∷ rules) cond)
    where
      at : (one : Option FirstRule) → IsFrom number one → earlier this one ≡ this
      at None late = refl
      at (Some one) late =
          let no : nat_lt one.number number ≡ false = search (arith, late) in ap (λ (b : Bool). if b then Some one else this) no

  earliest-this : (conds : List (List ℕ)) → earliest with_this this conds ≡ this
  earliest-this [] = refl
  earliest-this (cond ∷ conds) = ap (λ one. earliest with_this one conds) (earlier-this cond) ∙ earliest-this conds

  -- it is earlier than a later one
  this-earlier : (one : Option FirstRule) → IsFrom (suc number) one → earlier one this ≡ this
  this-earlier None late = refl
  this-earlier (Some one) late =
      let yes : nat_lt number one.number ≡ true = search (arith, late) in ap (λ (b : Bool). if b then this else Some one) yes

  earliest-front : (start : Option FirstRule) (conds : List (List ℕ)) → IsFrom (suc number) start
      → earliest with_this start conds
      ≡ (if list_any (λ cond. is_among cond rule.conds) conds then this else earliest behind start conds)
  earliest-front start [] late = refl
  earliest-front start (cond ∷ conds) late =
      at (is_among cond rule.conds) refl
      (earliest-front (earlier start (behind cond)) conds (earlier-late (suc number) start (behind cond) late (first_from-late test (suc number) rules cond)))
    where
      found : (b : Bool) → is_among cond rule.conds ≡ b → with_this cond ≡ (if b then this else behind cond)
      found b e = ap₂ (λ (t b : Bool). if t && b then this else behind cond) is e

      at : (b : Bool) → is_among cond rule.conds ≡ b
          → earliest with_this (earlier start (behind cond)) conds
          ≡ (if list_any (λ one. is_among one rule.conds) conds then this else earliest behind (earlier start (behind cond)) conds)
          → earliest with_this (earlier start (with_this cond)) conds
          ≡ (if b || list_any (λ one. is_among one rule.conds) conds then this else earliest behind (earlier start (behind cond)) conds)
      at true e later =
          ap (λ one. earliest with_this (earlier start one) conds) (found true e) ∙ ap (λ one. earliest with_this one conds) (this-earlier start late)
          ∙ earliest-this conds
      at false e later = ap (λ one. earliest with_this (earlier start one) conds) (found false e) ∙ later

or-swap : (a b c d : Bool) → ((a || b) || (c || d)) ≡ ((a || c) || (b || d))
or-swap true b c d = refl
or-swap false true true d = refl
or-swap false true false d = refl
or-swap false false c d = refl

-- a test or another one
list_any-or : (one other : List ℕ → Bool) (names : List (List ℕ)) → list_any (λ name. one name || other name) names ≡ (list_any one names || list_any other names)
list_any-or one other [] = refl
list_any-or one other (name ∷ names) =
    ap (λ (b : Bool). (one name || other name) || b) (list_any-or one other names) ∙ or-swap (one name) (other name) (list_any one names) (list_any other names)

none_among : (names : List (List ℕ)) → false ≡ list_any (λ name. is_among name []) names
none_among [] = refl
none_among (name ∷ names) = none_among names

-- two lists of names share one, told either way
among-both : (names others : List (List ℕ)) → list_any (λ name. is_among name others) names ≡ list_any (λ name. is_among name names) others
among-both [] others = none_among others
among-both (name ∷ names) others =
    ap₂ (λ (a b : Bool). a || b) (sym (list_any-one name others) ∙ same others) (among-both names others)
    ∙ sym (list_any-or (λ other. bytes_eq other name) (λ other. is_among other names) others)
  where
    same : (others : List (List ℕ)) → list_any (λ other. is_among other (name ∷ [])) others ≡ list_any (λ other. bytes_eq other name) others
    same [] = refl
    same (other ∷ others) = at (bytes_eq other name) (same others)
      where
        at : (b : Bool) → list_any (λ other. is_among other (name ∷ [])) others ≡ list_any (λ other. bytes_eq other name) others
            → ((b || false) || list_any (λ other. is_among other (name ∷ [])) others) ≡ (b || list_any (λ other. bytes_eq other name) others)
        at true later = refl
        at false later = later

abbrev pub place : Option FirstRule → Option Pos
place rule = option_map (λ (one : FirstRule). one.at) rule

-- the earliest of what conditions have is the first rule of all that has one of them
pub first_of-earliest : (test : Kind → Bool) (number : ℕ) (rules : List RuleOf) (conds : List (List ℕ))
    → place (earliest (λ cond. first_from test number rules cond) None conds) ≡ first_of test conds rules
first_of-earliest test number [] conds = ap place (nothing conds)
  where
    nothing : (conds : List (List ℕ)) → earliest (λ cond. first_from test number [] cond) None conds ≡ None
    nothing [] = refl
    nothing (cond ∷ conds) = nothing conds
first_of-earliest test number (rule ∷ rules) conds = at (test rule.kind) refl (first_of-earliest test (suc number) rules conds)
  where
    at : (t : Bool) → test rule.kind ≡ t → place (earliest (λ cond. first_from test (suc number) rules cond) None conds) ≡ first_of test conds rules
        → place (earliest (λ cond. first_from test number (rule ∷ rules) cond) None conds)
        ≡ (if t && list_any (λ cond. is_among cond conds) rule.conds then Some rule.at else first_of test conds rules)
    at false e later =
        ap place
        (earliest-same (λ cond. first_from test number (rule ∷ rules) cond) (λ cond. first_from test (suc number) rules cond)
        (λ cond. ap (λ (t : Bool). if t && is_among cond rule.conds then Some (record { number = number; at = rule.at }) else first_from test (suc number) rules cond) e)
        None conds) ∙ later
    at true e later =
        ap place
        (earliest-front test number rule rules e None conds tt
        ∙ ap (λ (b : Bool). if b then this test number rule rules e else earliest (behind test number rule rules e) None conds) (among-both conds rule.conds))
        ∙ by (list_any (λ cond. is_among cond conds) rule.conds) later
      where
        by : (b : Bool) → place (earliest (λ cond. first_from test (suc number) rules cond) None conds) ≡ first_of test conds rules
            → place (if b then Some (record { number = number; at = rule.at }) else earliest (λ cond. first_from test (suc number) rules cond) None conds)
            ≡ (if b then Some rule.at else first_of test conds rules)
        by true later = refl
        by false later = later
