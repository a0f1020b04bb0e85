-- Lists of numbers, and tests of their elements.
use Rattle.std.proofs.Common.{◌≡◌, ◌⊎◌, inl, inr, ℕ, zero, suc, ◌+◌, ◌<◌, ◌≤◌, ◌==◌, List, [], ◌∷◌, ◌++◌, length, get_or, map, Option, Some, None, Result, Ok, Err, Bool, true, false, Contains, refl, sym, ap, ◌∙◌, subst, arith, is_ok, not, ◌||◌}
use Rattle.std.specs.List.{list_any}
use Rattle.std.specs.List.Sorted.{IsBinarySearchResult, IsNonDecreasing, IsPermutation}
use Rattle.std.specs.Ordering.{nat_cmp}
use Rattle.std.specs.Result.{MatchResult}
use Rattle.std.proofs.lemmas.Bool.{cases_lt, eq-eqb, eqb-true}
use Rattle.std.proofs.lemmas.List.{get_or_default}
use Rattle.std.proofs.lemmas.List.Elements.{Contains-append_cases, Contains-append_left, Contains-append_right}
use Rattle.std.proofs.lemmas.List.Sorted.{Contains-permutation, IsPermutation-sym, searched}
use Rattle.lx_auto.proofs.SameLists.{Contains-later}
use Rattle.lx_regex.specs.Pattern.{Pattern, pattern_of, patterns_of}
use Rattle.lx_regex.specs.declared.rules.Rule.{Rule}
use Rattle.lx_warn.specs.Warnings.{HasNumber}
use Rattle.lx_warn.specs.Entered.{AreEntered, IsEnteredBelow, has_number, listed}

-- ---- tests of elements

Contains-nothing : {X : Type 0} (x : X) → Contains [] x → ⊥
Contains-nothing x (place, within, is) = omega arith

pub any-found : {X : Type 0} (test : X → Bool) (xs : List X) → list_any test xs ≡ true → (x : X) × Contains xs x × (test x ≡ true)
any-found {X = X} test [] some = absurd (cc some)
any-found {X = X} test (x ∷ xs) some = at (test x) refl some (any-found test xs)
  where
    at : (b : Bool) → test x ≡ b → (b || list_any test xs) ≡ true → (list_any test xs ≡ true → (y : X) × Contains xs y × (test y ≡ true))
        → (y : X) × Contains (x ∷ xs) y × (test y ≡ true)
    at true here some rest = (x, (0, omega arith, refl), here)
    at false here some rest = let found = rest some in (found.0, Contains-later x xs found.0 found.1, found.2)

pub found-any : {X : Type 0} (test : X → Bool) (xs : List X) (x : X) → Contains xs x → test x ≡ true → list_any test xs ≡ true
found-any test [] x has is = absurd (Contains-nothing x has)
found-any test (y ∷ xs) x (zero, within, same) is = ap (λ b. b || list_any test xs) (ap test same ∙ is)
found-any test (y ∷ xs) x (suc place, within, same) is = at (test y) (found-any test xs x (place, omega arith, same) is)
  where
    at : (b : Bool) → list_any test xs ≡ true → (b || list_any test xs) ≡ true
    at true rest = refl
    at false rest = rest

pub has_number-Contains : (numbers : List ℕ) (number : ℕ) → has_number numbers number ≡ true → Contains numbers number
has_number-Contains numbers number has =
    let found = any-found (λ other. other == number) numbers has in
    subst (Contains numbers) (eqb-true found.0 number found.2) found.1

pub Contains-has_number : (numbers : List ℕ) (number : ℕ) → Contains numbers number → has_number numbers number ≡ true
Contains-has_number numbers number has = found-any (λ other. other == number) numbers number has (eq-eqb number number refl)

pub is-false : (b : Bool) → (b ≡ true → ⊥) → b ≡ false
is-false true never = absurd (never refl)
is-false false never = refl

-- a binary search says whether a number is one of those that ascend
pub search-has : (numbers : List ℕ) (number : ℕ) (result : Result ℕ ℕ) → IsNonDecreasing numbers
    → IsBinarySearchResult (λ other. nat_cmp other number) numbers result → is_ok result ≡ has_number numbers number
search-has numbers number result ascend found =
    at result (searched numbers number result found (λ i j le lt. ascend i j 0 le lt))
  where
    at : (result : Result ℕ ℕ)
        → MatchResult result (λ i. (i < length numbers) × (get_or numbers i 0 ≡ number))
        (λ i. (i ≤ length numbers) × ((k : ℕ) → k < i → get_or numbers k 0 < number)
        × ((k : ℕ) → i ≤ k → k < length numbers → number < get_or numbers k 0))
        → is_ok result ≡ has_number numbers number
    at (Ok i) (lt, is) =
        sym (Contains-has_number numbers number
        (i, lt, get_or_default numbers i number 0 lt ∙ is))
    at (Err i) (most, below, above) = sym (is-false (has_number numbers number) (λ has. never (has_number-Contains numbers number has)))
      where
        never : Contains numbers number → ⊥
        never (k, lt, is) =
            let here : get_or numbers k 0 ≡ number = get_or_default numbers k 0 number lt ∙ is in
            elim (cases_lt k i) [
              | inl less ↦ omega (arith, below k less, here)
              | inr ge ↦ omega (arith, above k ge lt, here)
            ]

-- ---- the numbers of rules that are entered

pub entered-more : (rule : ℕ → Option ℕ) (at_end : Option ℕ) (bound : ℕ) (numbers : List ℕ) → AreEntered rule at_end bound numbers
    → AreEntered rule at_end (bound + 1) (numbers ++ listed (rule bound))
entered-more rule at_end bound numbers is = record {
  sound = λ number has. sound number (Contains-append_cases numbers (listed (rule bound)) number has);
  complete = complete;
}
  where
    wider : (number : ℕ) → IsEnteredBelow rule at_end bound number → IsEnteredBelow rule at_end (bound + 1) number
    wider number (inl end) = inl end
    wider number (inr (state, lt, enters)) = inr (state, omega arith, enters)

    last : (found : Option ℕ) (number : ℕ) → rule bound ≡ found → Contains (listed found) number → IsEnteredBelow rule at_end (bound + 1) number
    last None number enters has = absurd (Contains-nothing number has)
    last (Some other) number enters (zero, within, same) = inr (bound, omega arith, enters ∙ ap Some same)
    last (Some other) number enters (suc place, within, same) = absurd (omega arith)

    sound : (number : ℕ) → Contains numbers number ⊎ Contains (listed (rule bound)) number → IsEnteredBelow rule at_end (bound + 1) number
    sound number (inl earlier) = wider number (is.sound number earlier)
    sound number (inr now) = last (rule bound) number refl now

    one : (number : ℕ) → Contains (listed (Some number)) number
    one number = (0, omega arith, refl)

    complete : (number : ℕ) → IsEnteredBelow rule at_end (bound + 1) number → Contains (numbers ++ listed (rule bound)) number
    complete number (inl end) = Contains-append_left numbers (listed (rule bound)) number (is.complete number (inl end))
    complete number (inr (state, lt, enters)) = elim (cases_lt state bound) [
      | inl less ↦ Contains-append_left numbers (listed (rule bound)) number (is.complete number (inr (state, less, enters)))
      | inr ge ↦
          let same : state ≡ bound = omega arith in
          let now : rule bound ≡ Some number = ap rule (sym same) ∙ enters in
          Contains-append_right numbers (listed (rule bound)) number (subst (λ o. Contains (listed o) number) (sym now) (one number))
    ]

pub entered-moved : (rule : ℕ → Option ℕ) (at_end : Option ℕ) (bound : ℕ) (numbers moved : List ℕ) → AreEntered rule at_end bound numbers
    → IsPermutation numbers moved → AreEntered rule at_end bound moved
entered-moved rule at_end bound numbers moved is moves = record {
  sound = λ number has. is.sound number (Contains-permutation moved numbers number (IsPermutation-sym numbers moved moves) has);
  complete = λ number enters. Contains-permutation numbers moved number moves (is.complete number enters);
}

-- ---- the numbers of rules

abbrev pub numbers_of : List Rule → List ℕ
numbers_of rules = map (λ (rule : Rule). rule.number) rules

pub number-rule : (rules : List Rule) (number : ℕ) → Contains (numbers_of rules) number → HasNumber (patterns_of rules) number
number-rule [] number has = absurd (Contains-nothing number has)
number-rule (rule ∷ rules) number (zero, within, is) = (pattern_of rule, (0, omega arith, refl), is)
number-rule (rule ∷ rules) number (suc place, within, is) = at (number-rule rules number (place, omega arith, is))
  where
    at : HasNumber (patterns_of rules) number → HasNumber (patterns_of (rule ∷ rules)) number
    at (pattern, has, same) = (pattern, Contains-later (pattern_of rule) (patterns_of rules) pattern has, same)

rule-numbered : (rules : List Rule) (pattern : Pattern) → Contains (patterns_of rules) pattern → Contains (numbers_of rules) pattern.number
rule-numbered [] pattern has = absurd (Contains-nothing pattern has)
rule-numbered (rule ∷ rules) pattern (zero, within, is) = (0, omega arith, ap (λ (p : Pattern). p.number) is)
rule-numbered (rule ∷ rules) pattern (suc place, within, is) =
    Contains-later rule.number (numbers_of rules) pattern.number (rule-numbered rules pattern (place, omega arith, is))

pub rule-number : (rules : List Rule) (number : ℕ) → HasNumber (patterns_of rules) number → Contains (numbers_of rules) number
rule-number rules number (pattern, has, same) = subst (Contains (numbers_of rules)) same (rule-numbered rules pattern has)

-- ---- tests that are turned

pub turned-true : (b : Bool) → not b ≡ true → b ≡ false
turned-true true is = absurd (cc is)
turned-true false is = refl
