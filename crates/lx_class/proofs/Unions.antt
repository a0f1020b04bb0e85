-- How facts on the points of lists combine where a list has grown.
use Rattle.std.proofs.Common.{ℕ, ◌+◌, ◌<◌, ◌≤◌, ◌⊎◌, ◌↔◌, [], ◌∷◌, inl, inr, ⊎_elim, arith}
use Rattle.std.proofs.lemmas.Bool.{cases_lt}
use Rattle.lx_class.specs.declared.ranges.Range.{Range}
use Rattle.lx_class.specs.Ranges.{InRanges}

-- what is new belongs to the second of two parts
pub grows_right : {New Old Added First Part Whole : Type 0} → (New ↔ (Old ⊎ Added)) → (Old ↔ (First ⊎ Part)) → (Whole ↔ (Part ⊎ Added)) → (New ↔ (First ⊎ Whole))
grows_right new old whole = (
  λ at. ⊎_elim (λ o. ⊎_elim (λ f. inl f) (λ p. inr (whole.1 (inl p))) (old.0 o)) (λ a. inr (whole.1 (inr a))) (new.0 at),
  λ at. ⊎_elim (λ f. new.1 (inl (old.1 (inl f)))) (λ w. ⊎_elim (λ p. new.1 (inl (old.1 (inr p)))) (λ a. new.1 (inr a)) (whole.0 w)) at,
)

-- what is new belongs to the first of two parts
pub grows_left : {New Old Added Part Second Whole : Type 0} → (New ↔ (Old ⊎ Added)) → (Old ↔ (Part ⊎ Second)) → (Whole ↔ (Part ⊎ Added)) → (New ↔ (Whole ⊎ Second))
grows_left new old whole = (
  λ at. ⊎_elim (λ o. ⊎_elim (λ p. inl (whole.1 (inl p))) (λ s. inr s) (old.0 o)) (λ a. inl (whole.1 (inr a))) (new.0 at),
  λ at. ⊎_elim (λ w. ⊎_elim (λ p. new.1 (inl (old.1 (inl p)))) (λ a. new.1 (inr a)) (whole.0 w)) (λ s. new.1 (inl (old.1 (inr s)))) at,
)

-- what is new came to the part behind the front
pub grows_behind : {New Old Added Front Part Whole : Type 0} → (New ↔ (Front ⊎ Whole)) → (Whole ↔ (Part ⊎ Added)) → (Old ↔ (Front ⊎ Part)) → (New ↔ (Old ⊎ Added))
grows_behind new whole old = (
  λ at. ⊎_elim (λ f. inl (old.1 (inl f))) (λ w. ⊎_elim (λ p. inl (old.1 (inr p))) (λ a. inr a) (whole.0 w)) (new.0 at),
  λ at. ⊎_elim (λ o. ⊎_elim (λ f. new.1 (inl f)) (λ p. new.1 (inr (whole.1 (inl p)))) (old.0 o)) (λ a. new.1 (inr (whole.1 (inr a)))) at,
)

-- two lists are in, as far as they went and with what was left of them
pub grows_by_both : {New Middle Old First Second Front Front' Rest Rest' : Type 0} → (New ↔ (Middle ⊎ Rest')) → (Middle ↔ (Old ⊎ Rest)) → (Old ↔ (Front ⊎ Front')) →
    (First ↔ (Front ⊎ Rest)) → (Second ↔ (Front' ⊎ Rest')) → (New ↔ (First ⊎ Second))
grows_by_both new middle old first second = grows_right new (grows_left middle old first) second

-- what is new belongs to what is kept, unless a hole holds it
pub grows_uncovered : {New Old Added Hole Part Whole : Type 0} → (New ↔ (Old ⊎ (Added × ¬ Hole))) → (Old ↔ (Part × ¬ Hole)) → (Whole ↔ (Part ⊎ Added)) → (New ↔ (Whole × ¬ Hole))
grows_uncovered new old whole = (
  λ at. ⊎_elim (λ o. let kept = old.0 o in (whole.1 (inl kept.0), kept.1)) (λ a. (whole.1 (inr a.0), a.1)) (new.0 at),
  λ kept. ⊎_elim (λ p. new.1 (inl (old.1 (p, kept.1)))) (λ a. new.1 (inr (a, kept.1))) (whole.0 kept.0),
)

-- the points before `to` are done, where those from `lo` on lie before `start` and in no hole, or in a hole
pub uncovered_to : {New Old Initial Hole : Type 0} (from lo start to c : ℕ) →
    (New ↔ (Old ⊎ ((lo ≤ c) × (c < start)))) → (Old ↔ (Initial ⊎ ((from ≤ c) × (c < lo) × ¬ Hole))) →
    from ≤ lo → lo ≤ to → start ≤ to → (lo ≤ c → c < start → ¬ Hole) → (lo ≤ c → start ≤ c → c < to → Hole) →
    (New ↔ (Initial ⊎ ((from ≤ c) × (c < to) × ¬ Hole)))
uncovered_to from lo start to c new old le_lo le_to le_start free covered = (
  λ at. ⊎_elim
      (λ o. ⊎_elim (λ i. inl i) (λ done. inr (done.0, omega arith, done.2)) (old.0 o))
      (λ here. inr (omega arith, omega arith, free here.0 here.1)) (new.0 at),
  λ at. ⊎_elim
      (λ i. new.1 (inl (old.1 (inl i))))
      (λ kept. ⊎_elim
      (λ before. new.1 (inl (old.1 (inr (kept.0, before, kept.2)))))
      (λ after. ⊎_elim (λ lt. new.1 (inr (after, lt))) (λ ge. absurd (kept.2 (covered after ge kept.1))) (cases_lt c start))
      (cases_lt c lo)) at,
)

-- the points before the one after a range's last are those up to its last
pub uncovered_through : {New Initial Hole : Type 0} (range : Range) (c : ℕ) →
    (New ↔ (Initial ⊎ ((range.lo ≤ c) × (c < range.hi + 1) × ¬ Hole))) → (New ↔ (Initial ⊎ (InRanges (range ∷ []) c × ¬ Hole)))
uncovered_through range c h = (
  λ at. ⊎_elim (λ i. inl i) (λ kept. inr (inl (kept.0, omega arith), kept.2)) (h.0 at),
  λ at. ⊎_elim
      (λ i. h.1 (inl i))
      (λ kept. ⊎_elim (λ here. h.1 (inr (here.0, omega arith, kept.1))) (λ none. absurd none) kept.0) at,
)
