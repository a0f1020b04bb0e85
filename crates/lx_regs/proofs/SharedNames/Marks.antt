-- Marks of the colours of neighbours tell the least colour that none of them has.
use Rattle.std.proofs.Common.{◌≡◌, ℕ, zero, suc, ◌+◌, ◌<◌, ◌≤◌, List, [], ◌∷◌, length, set, refl, Bool, true, false, if◌then◌else◌, nat_lt, Contains, sym, ap, ◌∙◌, subst, arith}
use Rattle.std.proofs.Common.{inl, inr}
use Rattle.std.proofs.lemmas.Bool.{cases_lt, lt-ltb, ltb-true}
use Rattle.std.proofs.lemmas.Cmp.{nat_eq_equiv}
use Rattle.std.proofs.lemmas.List.{length-map, length-replicate, length-set}
use Rattle.std.proofs.lemmas.List.Elements.{Contains-get_or}
use Rattle.std.proofs.lemmas.Map.Steps.{le-length_from_below}
use Rattle.std.proofs.lemmas.Map.Views.{list_any-from_Contains}
use Rattle.std.specs.Prelude.{◌⊎◌, map, replicate, slice_index}
use Rattle.lx_auto.proofs.SameLists.{Contains-later, Contains-map}
use Rattle.lx_regs.specs.Colours.{IsLeastFree, IsTaken, mark_at, mark_each, mark_one}

-- ---- one mark

pub set-either : (marks : List Bool) (place colour : ℕ) → mark_at (set marks place true) colour ≡ true
    → (mark_at marks colour ≡ true) ⊎ (place ≡ colour)
set-either [] place colour marked = inl marked
set-either (mark ∷ marks) zero zero marked = inr refl
set-either (mark ∷ marks) zero (suc colour) marked = inl marked
set-either (mark ∷ marks) (suc place) zero marked = inl marked
set-either (mark ∷ marks) (suc place) (suc colour) marked = at (set-either marks place colour marked)
  where
    at : (mark_at marks colour ≡ true) ⊎ (place ≡ colour) → (mark_at marks colour ≡ true) ⊎ (suc place ≡ suc colour)
    at (inl before) = inl before
    at (inr same) = inr (ap suc same)

set-kept : (marks : List Bool) (place colour : ℕ) → mark_at marks colour ≡ true → mark_at (set marks place true) colour ≡ true
set-kept [] place colour marked = marked
set-kept (mark ∷ marks) zero zero marked = refl
set-kept (mark ∷ marks) zero (suc colour) marked = marked
set-kept (mark ∷ marks) (suc place) zero marked = marked
set-kept (mark ∷ marks) (suc place) (suc colour) marked = set-kept marks place colour marked

set-new : (marks : List Bool) (place : ℕ) → place < length marks → mark_at (set marks place true) place ≡ true
set-new [] place within = absurd (omega arith)
set-new (mark ∷ marks) zero within = refl
set-new (mark ∷ marks) (suc place) within = set-new marks place (omega arith)

pub mark_at-none : (count colour : ℕ) → mark_at (replicate count false) colour ≡ true → ⊥
mark_at-none zero colour marked = cc marked
mark_at-none (suc count) zero marked = cc marked
mark_at-none (suc count) (suc colour) marked = mark_at-none count colour marked

module _ (colours : List ℕ) where
  mark_one-either : (marks : List Bool) (number colour : ℕ) → mark_at (mark_one colours marks number) colour ≡ true
      → (mark_at marks colour ≡ true) ⊎ ((number < length colours) × (slice_index colours number ≡ colour))
  mark_one-either marks number colour marked = at (nat_lt number (length colours)) refl marked
    where
      set_to : number < length colours → (mark_at marks colour ≡ true) ⊎ (slice_index colours number ≡ colour)
          → (mark_at marks colour ≡ true) ⊎ ((number < length colours) × (slice_index colours number ≡ colour))
      set_to within (inl before) = inl before
      set_to within (inr same) = inr (within, same)

      at : (b : Bool) → nat_lt number (length colours) ≡ b → mark_at (if b then set marks (slice_index colours number) true else marks) colour ≡ true
          → (mark_at marks colour ≡ true) ⊎ ((number < length colours) × (slice_index colours number ≡ colour))
      at true test marked = set_to (ltb-true number (length colours) test) (set-either marks (slice_index colours number) colour marked)
      at false test marked = inl marked

  mark_one-kept : (marks : List Bool) (number colour : ℕ) → mark_at marks colour ≡ true → mark_at (mark_one colours marks number) colour ≡ true
  mark_one-kept marks number colour marked = at (nat_lt number (length colours))
    where
      at : (b : Bool) → mark_at (if b then set marks (slice_index colours number) true else marks) colour ≡ true
      at true = set-kept marks (slice_index colours number) colour marked
      at false = marked

  mark_one-new : (marks : List Bool) (number : ℕ) → number < length colours → slice_index colours number < length marks
      → mark_at (mark_one colours marks number) (slice_index colours number) ≡ true
  mark_one-new marks number within fits =
      subst (λ b. mark_at (if b then set marks (slice_index colours number) true else marks) (slice_index colours number) ≡ true)
      (sym (lt-ltb number (length colours) within)) (set-new marks (slice_index colours number) fits)

  length-mark_one : (marks : List Bool) (number : ℕ) → length (mark_one colours marks number) ≡ length marks
  length-mark_one marks number = at (nat_lt number (length colours))
    where
      at : (b : Bool) → length (if b then set marks (slice_index colours number) true else marks) ≡ length marks
      at true = length-set marks (slice_index colours number) true
      at false = refl

  -- ---- the marks of several numbers

  mark_each-either : (marks : List Bool) (numbers : List ℕ) (colour : ℕ) → mark_at (mark_each colours marks numbers) colour ≡ true
      → (mark_at marks colour ≡ true) ⊎ IsTaken colours numbers colour
  mark_each-either marks [] colour marked = inl marked
  mark_each-either marks (number ∷ numbers) colour marked =
      later (mark_each-either (mark_one colours marks number) numbers colour marked)
    where
      now : (mark_at marks colour ≡ true) ⊎ ((number < length colours) × (slice_index colours number ≡ colour))
          → (mark_at marks colour ≡ true) ⊎ IsTaken colours (number ∷ numbers) colour
      now (inl before) = inl before
      now (inr same) = inr (number, (0, omega arith, refl), same.0, same.1)

      later : (mark_at (mark_one colours marks number) colour ≡ true) ⊎ IsTaken colours numbers colour
          → (mark_at marks colour ≡ true) ⊎ IsTaken colours (number ∷ numbers) colour
      later (inl marked) = now (mark_one-either marks number colour marked)
      later (inr (other, has, within, is)) = inr (other, Contains-later number numbers other has, within, is)

  mark_each-kept : (marks : List Bool) (numbers : List ℕ) (colour : ℕ) → mark_at marks colour ≡ true
      → mark_at (mark_each colours marks numbers) colour ≡ true
  mark_each-kept marks [] colour marked = marked
  mark_each-kept marks (number ∷ numbers) colour marked =
      mark_each-kept (mark_one colours marks number) numbers colour (mark_one-kept marks number colour marked)

  mark_each-new : (marks : List Bool) (numbers : List ℕ) (number : ℕ) → Contains numbers number → number < length colours
      → slice_index colours number < length marks → mark_at (mark_each colours marks numbers) (slice_index colours number) ≡ true
  mark_each-new marks [] number (place, inside, is) within fits = absurd (omega arith)
  mark_each-new marks (first ∷ numbers) number (zero, inside, is) within fits =
      mark_each-kept (mark_one colours marks first) numbers (slice_index colours number)
      (subst (λ n. mark_at (mark_one colours marks n) (slice_index colours number) ≡ true) (sym is) (mark_one-new marks number within fits))
  mark_each-new marks (first ∷ numbers) number (suc place, inside, is) within fits =
      mark_each-new (mark_one colours marks first) numbers number (place, omega arith, is) within
      (subst (λ n. slice_index colours number < n) (sym (length-mark_one marks first)) fits)

  -- ---- the least colour

  -- no more colours are taken than there are neighbours
  taken-few : (neighbours : List ℕ) (count : ℕ) → ((colour : ℕ) → colour < count → IsTaken colours neighbours colour)
      → count ≤ length neighbours
  taken-few neighbours count taken =
      let long = length-map neighbours (slice_index colours) in
      let few : count ≤ length (map (slice_index colours) neighbours) =
      le-length_from_below (map (slice_index colours) neighbours) count
      (λ colour below. list_any-from_Contains nat_eq_equiv colour (map (slice_index colours) neighbours) (at colour (taken colour below))) in
      omega (arith, few, long)
    where
      at : (colour : ℕ) → IsTaken colours neighbours colour → Contains (map (slice_index colours) neighbours) colour
      at colour (other, has, within, is) =
          subst (λ c. Contains (map (slice_index colours) neighbours) c) is (Contains-map (slice_index colours) neighbours other has)

  -- the least free colour is no greater than there are colours so far
  pub least-few : (neighbours : List ℕ) (colour : ℕ) → IsLeastFree colours neighbours colour → colour ≤ length colours
  least-few neighbours colour is =
      le-length_from_below colours colour (λ lesser below. list_any-from_Contains nat_eq_equiv lesser colours (at lesser (is.least lesser below)))
    where
      at : (lesser : ℕ) → IsTaken colours neighbours lesser → Contains colours lesser
      at lesser (other, has, within, is) = subst (λ c. Contains colours c) is (Contains-get_or colours other 0 within)

  -- the least unmarked one, where there is a mark for each neighbour
  pub least-unmarked : (neighbours : List ℕ) (marks : List Bool) (colour : ℕ)
      → marks ≡ mark_each colours (replicate (length neighbours) false) neighbours → mark_at marks colour ≡ false
      → ((lesser : ℕ) → lesser < colour → mark_at marks lesser ≡ true) → IsLeastFree colours neighbours colour
  least-unmarked neighbours marks colour is unmarked least = record { free = free; least = taken }
    where
      sound : (number : ℕ) → (mark_at (replicate (length neighbours) false) number ≡ true) ⊎ IsTaken colours neighbours number
          → IsTaken colours neighbours number
      sound number (inl marked) = absurd (mark_at-none (length neighbours) number marked)
      sound number (inr there) = there

      taken : (lesser : ℕ) → lesser < colour → IsTaken colours neighbours lesser
      taken lesser below =
          sound lesser
          (mark_each-either (replicate (length neighbours) false) neighbours lesser (ap (λ l. mark_at l lesser) (sym is) ∙ least lesser below))

      within : (there : IsTaken colours neighbours colour) → colour < length neighbours
      within there = omega (arith, taken-few neighbours (colour + 1) each)
        where
          each : (lesser : ℕ) → lesser < colour + 1 → IsTaken colours neighbours lesser
          each lesser below = by (cases_lt lesser colour)
            where
              by : (lesser < colour) ⊎ (colour ≤ lesser) → IsTaken colours neighbours lesser
              by (inl less) = taken lesser less
              by (inr more) = let same : colour ≡ lesser = omega arith in subst (IsTaken colours neighbours) same there

      free : IsTaken colours neighbours colour → ⊥
      free (other, has, inside, colour_is) =
          let below = within (other, has, inside, colour_is) in
          let long = length-replicate {A = Bool} (length neighbours) false in
          let fits : slice_index colours other < length (replicate (length neighbours) false) = omega (arith, below, long, colour_is) in
          let marked = mark_each-new (replicate (length neighbours) false) neighbours other has inside fits in
          let none = replicate (length neighbours) false in
          let marked_here : mark_at marks colour ≡ true =
          ap (λ l. mark_at l colour) is ∙ subst (λ c. mark_at (mark_each colours none neighbours) c ≡ true) colour_is marked in
          cc (sym unmarked ∙ marked_here)
