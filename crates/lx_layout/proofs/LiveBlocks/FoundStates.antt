-- Where some state of a list passes a test, there is one that does.
use Rattle.std.specs.Prelude.{◌≡◌, ℕ, suc, ◌+◌, ◌<◌, Bool, true, false, Contains, List, [], ◌∷◌, length, ◌||◌, refl}
use Rattle.std.proofs.Common.{sym, ap, ◌∙◌, arith, true≢false}
use Rattle.std.specs.List.{list_any}
use Rattle.lx_auto.specs.Automaton.{state_of}
use Rattle.lx_auto.specs.declared.automaton.State.{State}
use Rattle.lx_layout.specs.Halting.{Halting, any_falls}

-- one of a list
pub any_found : {A : Type 0} (test : A → Bool) (xs : List A) → list_any test xs ≡ true → (x : A) × Contains xs x × (test x ≡ true)
any_found test [] some = absurd (true≢false (sym some))
any_found {A} test (x ∷ xs) some = by (test x) refl some (λ h. any_found test xs h)
  where
    by : (t : Bool) → test x ≡ t → (t || list_any test xs) ≡ true → (list_any test xs ≡ true → (y : A) × Contains xs y × (test y ≡ true))
        → (y : A) × Contains (x ∷ xs) y × (test y ≡ true)
    by true is some again = (x, (0, omega arith, refl), is)
    by false is some again =
        let found = again some in
        let lt = found.1.1 in
        (found.0, (suc found.1.0, omega (arith, lt), found.1.2), found.2)

-- one of the states, by its number
pub state_found : (test : State → Bool) (states : List State) → list_any test states ≡ true
    → (s : ℕ) × (s < length states) × (test (state_of states s) ≡ true)
state_found test [] some = absurd (true≢false (sym some))
state_found test (given ∷ states) some = by (test given) refl some (λ h. state_found test states h)
  where
    by : (t : Bool) → test given ≡ t → (t || list_any test states) ≡ true
        → (list_any test states ≡ true → (s : ℕ) × (s < length states) × (test (state_of states s) ≡ true))
        → (s : ℕ) × (s < length (given ∷ states)) × (test (state_of (given ∷ states) s) ≡ true)
    by true is some again = (0, omega arith, is)
    by false is some again = let found = again some in let lt = found.1 in (suc found.0, omega (arith, lt), found.2)

-- one from which a match falls back
pub falling_found : (halting : Halting) (number : ℕ) (states : List State) → any_falls halting number states ≡ true
    → (s : ℕ) × (s < length states) × (halting.falls (number + s) ≡ true)
falling_found halting number [] some = absurd (true≢false (sym some))
falling_found halting number (given ∷ states) some = by (halting.falls number) refl some (λ h. falling_found halting (suc number) states h)
  where
    by : (t : Bool) → halting.falls number ≡ t → (t || any_falls halting (suc number) states) ≡ true
        → (any_falls halting (suc number) states ≡ true → (s : ℕ) × (s < length states) × (halting.falls (suc number + s) ≡ true))
        → (s : ℕ) × (s < length (given ∷ states)) × (halting.falls (number + s) ≡ true)
    by true is some again = let e : number + 0 ≡ number = omega arith in (0, omega arith, ap (λ n. halting.falls n) e ∙ is)
    by false is some again =
        let found = again some in
        let lt = found.1 in
        let e : number + suc found.0 ≡ suc number + found.0 = omega arith in
        (suc found.0, omega (arith, lt), ap (λ n. halting.falls n) e ∙ found.2)
