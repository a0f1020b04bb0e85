-- Limits behind legal refills.
use Rattle.std.specs.Prelude.{◌≡◌, ℕ, ◌+◌, ◌≤◌, Bool, true, List, [], ◌∷◌, length, refl}
use Rattle.std.proofs.Common.{arith}
use Rattle.lx_ccode.specs.Machine.{Answer, Refill, more, no_more, units_of_all, units_of_answers}
use Rattle.lx_ccode.specs.Schedules.{AreLegalAnswers, AreLegalRefills, Buffer, after_refill, after_refills}

pub after_refills-limit : (b : Buffer) (fs : List Refill) → (after_refills b fs).limit ≡ b.limit + units_of_all fs
after_refills-limit b [] = omega arith
after_refills-limit b (more dropped added ∷ fs) = let h = after_refills-limit (after_refill b (more dropped added)) fs in omega (arith, h)
after_refills-limit b (no_more ∷ fs) = let h = after_refills-limit (after_refill b no_more) fs in omega (arith, h)

after_refills-closed : (b : Buffer) (fs : List Refill) → b.closed ≡ true → (after_refills b fs).closed ≡ true
after_refills-closed b [] e = e
after_refills-closed b (more dropped added ∷ fs) e = after_refills-closed (after_refill b (more dropped added)) fs e
after_refills-closed b (no_more ∷ fs) e = after_refills-closed (after_refill b no_more) fs refl

-- some answers were given, from a limit and answers to others
pub record Refilled (lim : ℕ) (q : List Answer) (lim' : ℕ) (q' : List Answer) : Type 0 where
  pub grows : lim ≤ lim'
  pub fewer : length q' ≤ length q
  pub same : lim' + units_of_answers q' ≡ lim + units_of_answers q

pub Refilled-none : (lim : ℕ) (q : List Answer) → Refilled lim q lim q
Refilled-none lim q = record { grows = omega arith; fewer = omega arith; same = refl }

module _ (units start : ℕ) (states : Bool) where
  pub refills_within : (b : Buffer) (fs : List Refill) → b.limit ≤ units → AreLegalRefills units start states b fs → b.limit + units_of_all fs ≤ units
  refills_within b [] le h = omega arith
  refills_within b (more dropped added ∷ fs) le h =
      let g = refills_within (after_refill b (more dropped added)) fs (omega (arith, h.0.3)) h.1 in omega (arith, g)
  refills_within b (no_more ∷ fs) le h = let g = refills_within (after_refill b no_more) fs le h.1 in omega (arith, g)

  -- where refills added nothing, there is no more, and the buffer says so
  pub refills_of_none : (b : Buffer) (fs : List Refill) → 1 ≤ length fs → AreLegalRefills units start states b fs → units_of_all fs ≡ 0
      → (b.limit ≡ units) × ((after_refills b fs).closed ≡ true)
  refills_of_none b [] some h none = absurd (omega (arith, some))
  refills_of_none b (more dropped added ∷ fs) some h none = absurd (omega (arith, h.0.2, none))
  refills_of_none b (no_more ∷ fs) some h none = (h.0, after_refills-closed (after_refill b no_more) fs refl)

  -- the buffer ends at a limit, and these answers may follow
  pub record Buffered (lim : ℕ) (q : List Answer) (b : Buffer) : Type 0 where
    pub within : lim ≤ units
    pub limit : b.limit ≡ lim
    pub legal : AreLegalAnswers units start states b q
