-- Numbers of which no two are equal.
use Rattle.std.proofs.Common.{◌≡◌, ◌⊎◌, inl, inr, ℕ, ◌+◌, ◌<◌, Bool, true, false, List, length, set, sym, ap, ◌∙◌, arith}
use Rattle.std.specs.Prelude.{◌≢◌}
use Rattle.std.proofs.lemmas.Bool.{cases_eq, false≢true}
use Rattle.std.proofs.lemmas.List.{get_or-set_other, get_or-set_same}
use Rattle.lx_auto.specs.MetStates.{is_marked}
use Rattle.lx_min.specs.Distances.{AllDiffer, AreSeen}
use Rattle.lx_min.specs.Joined.{class_in}

pub seen-none : (numbers : List ℕ) (marks : List Bool) → AreSeen 0 numbers marks
seen-none numbers marks = record {
  marked = λ state before. absurd (omega (arith, before));
  differ = λ state other before behind. absurd (omega (arith, before));
}

module _ (numbers : List ℕ) (count : ℕ) (marks : List Bool) (within : class_in numbers count < length marks)
    (new : is_marked marks (class_in numbers count) ≡ false) (are : AreSeen count numbers marks) where
  -- it is not among the first ones
  is-new : (state : ℕ) → state < count → class_in numbers state ≢ class_in numbers count
  is-new state before same =
      false≢true (sym new ∙ ap (is_marked marks) (sym same) ∙ are.marked state before)

  marked-by : (state : ℕ) → state < count + 1 → (state ≡ count) ⊎ (state ≢ count)
      → is_marked (set marks (class_in numbers count) true) (class_in numbers state) ≡ true
  marked-by state before (inl same) =
      ap (λ s. is_marked (set marks (class_in numbers count) true) (class_in numbers s)) same
      ∙ get_or-set_same marks (class_in numbers count) true false within
  marked-by state before (inr apart) =
      let earlier : state < count = omega (arith, before, apart) in
      get_or-set_other marks (class_in numbers count) (class_in numbers state) true false (is-new state earlier)
      ∙ are.marked state earlier

  differ-by : (state other : ℕ) → state < count + 1 → other < count + 1 → class_in numbers state ≡ class_in numbers other
      → (state ≡ count) ⊎ (state ≢ count) → (other ≡ count) ⊎ (other ≢ count) → state ≡ other
  differ-by state other before behind same (inl last) (inl also) = last ∙ sym also
  differ-by state other before behind same (inl last) (inr apart) =
      absurd (is-new other (omega (arith, behind, apart)) (sym same ∙ ap (class_in numbers) last))
  differ-by state other before behind same (inr apart) (inl last) =
      absurd (is-new state (omega (arith, before, apart)) (same ∙ ap (class_in numbers) last))
  differ-by state other before behind same (inr apart) (inr also) =
      are.differ state other (omega (arith, before, apart)) (omega (arith, behind, also)) same

  pub seen-more : AreSeen (count + 1) numbers (set marks (class_in numbers count) true)
  seen-more = record {
    marked = λ state before. marked-by state before (cases_eq state count);
    differ = λ state other before behind same. differ-by state other before behind same (cases_eq state count) (cases_eq other count);
  }

pub seen-all : (numbers : List ℕ) (count : ℕ) (marks : List Bool) → count ≡ length numbers → AreSeen count numbers marks → AllDiffer numbers
seen-all numbers count marks all are state other within also same =
    are.differ state other (omega (arith, within, all)) (omega (arith, also, all)) same
