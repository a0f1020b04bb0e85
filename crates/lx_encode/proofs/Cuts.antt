-- The cuts of a row: they rise, and between two of them the answers stay the same.
use Rattle.std.proofs.Common.{◌≡◌, ℕ, zero, suc, ◌+◌, ◌<◌, ◌≤◌, ◌⊎◌, List, [], ◌∷◌, length, Bool, true, false, cond, refl, sym, ◌∙◌, subst, inl, ⊎_elim, arith}
use Rattle.std.specs.Prelude.{◌==◌, slice_index}
use Rattle.std.proofs.lemmas.Bool.{cases_lt}
use Rattle.std.proofs.lemmas.Bool.Decides.{nat_tests}
use Rattle.lx_encode.specs.declared.runs.Run.{Run}
use Rattle.lx_encode.specs.Runs.{InRun, AreSortedFrom, AreSorted, cuts_from, cuts_of, target_of}
use Rattle.lx_encode.specs.Graph.{NoneBetween, Separates}
use Rattle.lx_encode.proofs.Targets.{target_of-here, target_of-later}

-- each number is greater than the one before
abbrev RisesFrom : ℕ → List ℕ → Type 0
RisesFrom low [] = Unit {0}
RisesFrom low (x ∷ xs) = (low < x) × RisesFrom x xs

rises_at : (low : ℕ) (xs : List ℕ) → RisesFrom low xs → (k : ℕ) → k + 1 < length xs → slice_index xs k < slice_index xs (k + 1)
rises_at low [] h k lt = absurd (omega arith)
rises_at low (x ∷ []) h k lt = absurd (omega arith)
rises_at low (x ∷ y ∷ xs) h zero lt = h.1.0
rises_at low (x ∷ y ∷ xs) h (suc k) lt =
    let e : suc k + 1 ≡ suc (k + 1) = omega arith in
    let rest : slice_index (y ∷ xs) k < slice_index (y ∷ xs) (k + 1) = rises_at x (y ∷ xs) h.1 k (omega arith) in
    subst (λ i. slice_index (y ∷ xs) k < slice_index (x ∷ y ∷ xs) i) (sym e) rest

same_number : (a b : ℕ) → (a == b) ≡ true → a ≡ b
same_number a b is = grind (arith, nat_tests)

other_number : (a b : ℕ) → (a == b) ≡ false → a ≡ b → ⊥
other_number a b is = grind (arith, nat_tests)

cuts_rise : (next : ℕ) (runs : List Run) → AreSortedFrom next runs → RisesFrom next (cuts_from next runs)
cuts_rise next [] h = tt
cuts_rise next (run ∷ runs) h = go (run.lo == next) refl (cuts_rise (run.hi + 1) runs h.3)
  where
    go : (b : Bool) → (run.lo == next) ≡ b → RisesFrom (run.hi + 1) (cuts_from (run.hi + 1) runs) →
        RisesFrom next (cond b ((run.hi + 1) ∷ cuts_from (run.hi + 1) runs) (run.lo ∷ (run.hi + 1) ∷ cuts_from (run.hi + 1) runs))
    go true is rest = let e : run.lo ≡ next = same_number run.lo next is in (omega (arith, h.1), rest)
    go false is rest =
        let other = other_number run.lo next is in
        (⊎_elim (λ lt. lt) (λ le. absurd (other (omega (arith, h.0)))) (cases_lt next run.lo), (omega (arith, h.1), rest))

pub cuts_increase : (runs : List Run) → AreSorted runs → (k : ℕ) → k + 1 < length (cuts_of runs) → slice_index (cuts_of runs) k < slice_index (cuts_of runs) (k + 1)
cuts_increase runs h = rises_at 0 (cuts_of runs) (cuts_rise 0 runs h)

module _ (first second : ℕ) (ordered : first ≤ second) where
  -- what the cuts say of a run
  at_run : (next : ℕ) (run : Run) (runs : List Run) → (next ≤ first) ⊎ (second < next) → NoneBetween first second (cuts_from next (run ∷ runs)) →
      ((run.lo ≤ first) ⊎ (second < run.lo)) × ((run.hi + 1 ≤ first) ⊎ (second < run.hi + 1)) × NoneBetween first second (cuts_from (run.hi + 1) runs)
  at_run next run runs before none = go (run.lo == next) refl none
    where
      go : (b : Bool) → (run.lo == next) ≡ b →
          NoneBetween first second (cond b ((run.hi + 1) ∷ cuts_from (run.hi + 1) runs) (run.lo ∷ (run.hi + 1) ∷ cuts_from (run.hi + 1) runs)) →
          ((run.lo ≤ first) ⊎ (second < run.lo)) × ((run.hi + 1 ≤ first) ⊎ (second < run.hi + 1)) × NoneBetween first second (cuts_from (run.hi + 1) runs)
      go true is none' =
          let e : run.lo ≡ next = same_number run.lo next is in
          (subst (λ n. (n ≤ first) ⊎ (second < n)) (sym e) before, none'.0, none'.1)
      go false is none' = (none'.0, none'.1.0, none'.1.1)

  separated_from : (next : ℕ) (runs : List Run) → AreSortedFrom next runs → (next ≤ first) ⊎ (second < next) → NoneBetween first second (cuts_from next runs) →
      target_of runs first ≡ target_of runs second
  separated_from next [] h before none = refl
  separated_from next (run ∷ runs) h before none =
      let facts = at_run next run runs before none in
      let rest = separated_from (run.hi + 1) runs h.3 facts.1 facts.2 in
      ⊎_elim
      (λ past. skipped run runs (λ at. omega (arith, at.1)) (λ at. omega (arith, at.1)) rest)
      (λ within. ⊎_elim
      (λ from. target_of-here run runs first from (omega arith) ∙ sym (target_of-here run runs second (omega arith) (omega arith)))
      (λ earlier. skipped run runs (λ at. omega (arith, at.0)) (λ at. omega (arith, at.0)) rest) facts.0) facts.1
    where
      skipped : (run : Run) (runs : List Run) → (InRun run first → ⊥) → (InRun run second → ⊥) → target_of runs first ≡ target_of runs second →
          target_of (run ∷ runs) first ≡ target_of (run ∷ runs) second
      skipped run runs out out' rest = target_of-later run runs first out ∙ rest ∙ sym (target_of-later run runs second out')

pub cuts_separate : (runs : List Run) → AreSorted runs → Separates (cuts_of runs) (target_of runs)
cuts_separate runs h first second ordered none = separated_from first second ordered 0 runs h (inl (omega arith)) none
