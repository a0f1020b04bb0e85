-- What stands in lists of warnings, and in which order.
use Rattle.std.proofs.Common.{◌≡◌, ◌⊎◌, inl, inr, ℕ, zero, suc, ◌+◌, ◌<◌, ◌≤◌, List, [], ◌∷◌, ◌++◌, length, get_or, Option, Some, Bool, true, false, Contains, refl, sym, subst, arith, if◌then◌else◌}
use Rattle.std.specs.List.{AllByRecursion}
use Rattle.std.specs.List.Sorted.{IsStrictlyIncreasing}
use Rattle.std.proofs.lemmas.List.Elements.{Contains-append_cases, Contains-append_left, Contains-append_right}
use Rattle.lx_auto.proofs.SameLists.{Contains-later}
use Rattle.lx_warn.specs.Entered.{has_number, is_number, rule_warnings, warnings_of}
use Rattle.lx_warn.specs.Warnings.{AreInOrder, IsLesser, rule_of}
use Rattle.lx_warn.specs.declared.lists.Warning.{Warning}
use Rattle.lx_warn.specs.declared.lists.Warning.TheVariants.{Unreachable, Empty}

Contains-nothing : {X : Type 0} (x : X) → Contains [] x → ⊥
Contains-nothing x (place, within, is) = omega arith

Contains-only : {X : Type 0} (x y : X) → Contains (x ∷ []) y → x ≡ y
Contains-only x y (zero, within, is) = is
Contains-only x y (suc place, within, is) = absurd (omega arith)

module _ (entered : List ℕ) (start : Option ℕ) where
  -- what is said of a rule
  abbrev pub Tells : (number : ℕ) → Warning → Type 0
  Tells number warning =
      ((Unreachable number ≡ warning) × (has_number entered number ≡ false))
      ⊎ ((Empty number ≡ warning) × (has_number entered number ≡ true) × (is_number start number ≡ true))

  pub warnings_of-tells : (number : ℕ) (warning : Warning) → Contains (warnings_of entered start number) warning → Tells number warning
  warnings_of-tells number warning has = at (has_number entered number) (is_number start number) refl refl has
    where
      at : (a b : Bool) → has_number entered number ≡ a → is_number start number ≡ b
          → Contains (if a then (if b then Empty number ∷ [] else []) else Unreachable number ∷ []) warning → Tells number warning
      at true true entering starting has = inr (Contains-only (Empty number) warning has, entering, starting)
      at true false entering starting has = absurd (Contains-nothing warning has)
      at false b entering starting has = inl (Contains-only (Unreachable number) warning has, entering)

  one : (warning : Warning) → Contains (warning ∷ []) warning
  one warning = (0, omega arith, refl)

  pub unreachable-told : (number : ℕ) → has_number entered number ≡ false → Contains (warnings_of entered start number) (Unreachable number)
  unreachable-told number not_entered =
      subst (λ b. Contains (if b then (if is_number start number then Empty number ∷ [] else []) else Unreachable number ∷ []) (Unreachable number))
      (sym not_entered) (one (Unreachable number))

  pub empty-told : (number : ℕ) → has_number entered number ≡ true → is_number start number ≡ true
      → Contains (warnings_of entered start number) (Empty number)
  empty-told number entering starting =
      subst (λ b. Contains (if b then (if is_number start number then Empty number ∷ [] else []) else Unreachable number ∷ []) (Empty number))
      (sym entering)
      (subst (λ b. Contains (if b then Empty number ∷ [] else []) (Empty number)) (sym starting) (one (Empty number)))

  -- a warning of the list is one of a number
  pub told-by : (numbers : List ℕ) (warning : Warning) → Contains (rule_warnings entered start numbers) warning
      → (number : ℕ) × Contains numbers number × Contains (warnings_of entered start number) warning
  told-by [] warning has = absurd (Contains-nothing warning has)
  told-by (number ∷ numbers) warning has =
      at (Contains-append_cases (warnings_of entered start number) (rule_warnings entered start numbers) warning has) (told-by numbers warning)
    where
      at : Contains (warnings_of entered start number) warning ⊎ Contains (rule_warnings entered start numbers) warning
          → (Contains (rule_warnings entered start numbers) warning
          → (other : ℕ) × Contains numbers other × Contains (warnings_of entered start other) warning)
          → (other : ℕ) × Contains (number ∷ numbers) other × Contains (warnings_of entered start other) warning
      at (inl here) rest = (number, (0, omega arith, refl), here)
      at (inr later) rest = let told = rest later in (told.0, Contains-later number numbers told.0 told.1, told.2)

  pub by-told : (numbers : List ℕ) (number : ℕ) (warning : Warning) → Contains numbers number
      → Contains (warnings_of entered start number) warning → Contains (rule_warnings entered start numbers) warning
  by-told [] number warning has told = absurd (Contains-nothing number has)
  by-told (first ∷ numbers) number warning (zero, within, is) told =
      Contains-append_left (warnings_of entered start first) (rule_warnings entered start numbers) warning
      (subst (λ n. Contains (warnings_of entered start n) warning) (sym is) told)
  by-told (first ∷ numbers) number warning (suc place, within, is) told =
      Contains-append_right (warnings_of entered start first) (rule_warnings entered start numbers) warning
      (by-told numbers number warning (place, omega arith, is) told)

  -- ---- their order

  -- each number is above the one before it, the first from a bound on
  abbrev pub AscendFrom : (bound : ℕ) → List ℕ → Type 0
  AscendFrom bound [] = Unit {0}
  AscendFrom bound (number ∷ numbers) = (bound ≤ number) × AscendFrom (number + 1) numbers

  -- all warnings are of rules above the number, or of none
  abbrev pub AreAbove : (number : ℕ) → List Warning → Type 0
  AreAbove number warnings = AllByRecursion (λ (other : Warning). IsLesser (Some number) (rule_of other)) warnings

  above-rules : (numbers : List ℕ) (tail : List Warning) (bound number : ℕ) → AscendFrom bound numbers → number < bound
      → ((other : ℕ) → AreAbove other tail) → AreAbove number (rule_warnings entered start numbers ++ tail)
  above-rules [] tail bound number ascend below above = above number
  above-rules (first ∷ numbers) tail bound number ascend below above =
      at (has_number entered first) (is_number start first) (above-rules numbers tail (first + 1) number ascend.1 (omega arith) above)
    where
      at : (a b : Bool) → AreAbove number (rule_warnings entered start numbers ++ tail)
          → AreAbove number (((if a then (if b then Empty first ∷ [] else []) else Unreachable first ∷ []) ++ rule_warnings entered start numbers) ++ tail)
      at true true rest = (omega arith, rest)
      at true false rest = rest
      at false b rest = (omega arith, rest)

  pub order-rules : (numbers : List ℕ) (tail : List Warning) (bound : ℕ) → AscendFrom bound numbers → ((other : ℕ) → AreAbove other tail)
      → AreInOrder tail → AreInOrder (rule_warnings entered start numbers ++ tail)
  order-rules [] tail bound ascend above order = order
  order-rules (first ∷ numbers) tail bound ascend above order =
      at (has_number entered first) (is_number start first) (above-rules numbers tail (first + 1) first ascend.1 (omega arith) above)
      (order-rules numbers tail (first + 1) ascend.1 above order)
    where
      at : (a b : Bool) → AreAbove first (rule_warnings entered start numbers ++ tail) → AreInOrder (rule_warnings entered start numbers ++ tail)
          → AreInOrder (((if a then (if b then Empty first ∷ [] else []) else Unreachable first ∷ []) ++ rule_warnings entered start numbers) ++ tail)
      at true true behind rest = (behind, rest)
      at true false behind rest = rest
      at false b behind rest = (behind, rest)

  -- numbers that increase do so behind the first, and each of them is greater than the first
  increasing-behind : (first : ℕ) (numbers : List ℕ) → IsStrictlyIncreasing (first ∷ numbers) → IsStrictlyIncreasing numbers
  increasing-behind first numbers increasing k lt =
      let next : suc k + 1 ≡ suc (k + 1) = omega arith in
      subst (λ n. get_or numbers k 0 < get_or (first ∷ numbers) n 0) next (increasing (suc k) (omega arith))

  first-least : (first : ℕ) (numbers : List ℕ) → IsStrictlyIncreasing (first ∷ numbers) → (place : ℕ) → place < length numbers
      → first + 1 ≤ get_or numbers place 0
  first-least first numbers increasing zero lt = let step : first < get_or numbers 0 0 = increasing 0 (omega arith) in omega arith
  first-least first numbers increasing (suc place) lt =
      let before = first-least first numbers increasing place (omega arith) in
      let next : suc place + 1 ≡ suc (suc place) = omega arith in
      let step : get_or numbers place 0 < get_or numbers (suc place) 0 =
      subst (λ n. get_or numbers place 0 < get_or (first ∷ numbers) n 0) next (increasing (suc place) (omega arith)) in
      omega (arith, before, step)

  pub increasing-ascend : (numbers : List ℕ) (bound : ℕ) → ((place : ℕ) → place < length numbers → bound ≤ get_or numbers place 0)
      → IsStrictlyIncreasing numbers → AscendFrom bound numbers
  increasing-ascend [] bound low increasing = tt
  increasing-ascend (first ∷ numbers) bound low increasing = (
    low 0 (omega arith),
    increasing-ascend numbers (first + 1) (first-least first numbers increasing) (increasing-behind first numbers increasing),
  )
