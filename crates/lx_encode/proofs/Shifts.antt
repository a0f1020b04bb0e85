-- Runs that are cut to some numbers and counted on from a unit.
use Rattle.std.proofs.Common.{◌≡◌, ℕ, ◌+◌, ◌-◌, ◌<◌, ◌≤◌, ◌⊎◌, ◌↔◌, List, [], ◌∷◌, ◌++◌, length, take, min, max, sym, subst, inl, inr, ⊎_elim, arith}
use Rattle.lx_encode.specs.declared.runs.Run.{Run}
use Rattle.lx_encode.specs.Runs.{InRun, LeadsTo, LeadsShifted, AreSorted}
use Rattle.lx_encode.proofs.RunLists.{LeadsTo-append, run_at, taken_at, before_at}

module _ (from to unit n t : ℕ) where
  pub LeadsShifted-append : (xs ys : List Run) → LeadsShifted (xs ++ ys) from to unit n t ↔ (LeadsShifted xs from to unit n t ⊎ LeadsShifted ys from to unit n t)
  LeadsShifted-append xs ys = (
    λ (old, low, high, is, at). ⊎_elim (λ x. inl (old, low, high, is, x)) (λ y. inr (old, low, high, is, y)) ((LeadsTo-append xs ys old t).0 at),
    λ at. ⊎_elim
        (λ (old, low, high, is, x). (old, low, high, is, (LeadsTo-append xs ys old t).1 (inl x)))
        (λ (old, low, high, is, y). (old, low, high, is, (LeadsTo-append xs ys old t).1 (inr y))) at,
  )

  module _ (run : Run) (lo hi : ℕ) (lo_is : lo ≡ max run.lo from) (hi_is : hi ≡ min run.hi to) where
    pub shifted_none : hi < lo → LeadsShifted (run ∷ []) from to unit n t → ⊥
    shifted_none gt at = ⊎_elim (λ here. let low : run.lo ≤ at.0 = here.0.0 in let high : at.0 ≤ run.hi = here.0.1 in let low' : from ≤ at.0 = at.1 in let high' : at.0 ≤ to = at.2 in omega arith) (λ none. none) at.4

    abbrev pub shifted_run : Run
    shifted_run = record { lo = lo - from + unit; hi = hi - from + unit; to = run.to }

    pub shifted_here : lo ≤ hi → LeadsShifted (run ∷ []) from to unit n t ↔ LeadsTo (shifted_run ∷ []) n t
    shifted_here le = (
      λ at. ⊎_elim
          (λ here.
          let low : run.lo ≤ at.0 = here.0.0 in
          let high : at.0 ≤ run.hi = here.0.1 in
          let low' : from ≤ at.0 = at.1 in
          let high' : at.0 ≤ to = at.2 in
          let is : n + from ≡ unit + at.0 = at.3 in
          let in_run : InRun shifted_run n = (omega arith, omega arith) in
          inl (in_run, here.1))
          (λ none. absurd none) at.4,
      λ at. ⊎_elim
          (λ here.
          let low : lo - from + unit ≤ n = here.0.0 in
          let high : n ≤ hi - from + unit = here.0.1 in
          let in_run : InRun run (n + from - unit) = (omega arith, omega arith) in
          (n + from - unit, omega arith, omega arith, omega arith, inl (in_run, here.1)))
          (λ none. absurd none) at,
    )

  -- what was passed is counted on to before the run
  pub shifted_before : (xs : List Run) (i : ℕ) → i < length xs → AreSorted xs → (lo : ℕ) → lo ≡ max (run_at xs i).lo from →
      LeadsShifted (take i xs) from to unit n t → n < lo - from + unit
  shifted_before xs i lt sorted lo is (old, low, high, shifted, at) =
      let before : old < (run_at xs i).lo = before_at xs i lt old t sorted at in omega arith

  pub LeadsShifted-take_more : (xs : List Run) (i : ℕ) → i < length xs →
      LeadsShifted (take (i + 1) xs) from to unit n t ↔ (LeadsShifted (take i xs) from to unit n t ⊎ LeadsShifted (run_at xs i ∷ []) from to unit n t)
  LeadsShifted-take_more xs i lt =
      subst (λ l. LeadsShifted l from to unit n t ↔ (LeadsShifted (take i xs) from to unit n t ⊎ LeadsShifted (run_at xs i ∷ []) from to unit n t)) (sym (taken_at xs i lt))
      (LeadsShifted-append (take i xs) (run_at xs i ∷ []))
