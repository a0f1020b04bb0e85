-- The states of lists, one behind another.
use Rattle.std.proofs.Common.{◌≡◌, ℕ, ◌+◌, ◌<◌, ◌≤◌, inl, inr, arith, Bool, List, [], ◌∷◌, ◌++◌, length, Some, sym, ap, ◌∙◌, subst}
use Rattle.std.proofs.lemmas.List.{length-append}
use Rattle.std.proofs.lemmas.Option.{slice_get-get_or, slice_get_within}
use Rattle.std.specs.Prelude.{slice_get, slice_index_or}
use Rattle.lx_auto.specs.Automaton.{AreApart, edge_on}
use Rattle.lx_auto.specs.declared.automaton.State.{State}
use Rattle.lx_tnfa.specs.Tnfa.{Tnfa}
use Rattle.lx_tnfa.specs.declared.places.Place.{Place}
use Rattle.lx_tdfa.specs.Building.{AreStatesOf, Grows, greatest_of}
use Rattle.lx_tdfa.specs.Table.{IsStateBy, IsStateOf, Onward, is_first, onward_by}
use Rattle.lx_tdfa.proofs.Loops.EdgeLoops.{IsEdgeOf-more}
use Rattle.lx_tdfa.proofs.Loops.EdgeSteps.{grows-more}
use Rattle.lx_tdfa.proofs.Walks.ListReads.{slice_get-behind, slice_get-front}

pub IsStateBy-more : {K : Type 0} (tnfa : Tnfa) (greatest : ℕ) (kernels later : List K) (first : Bool) (onward : Onward K) (state : State)
    → IsStateBy tnfa greatest kernels first onward state → IsStateBy tnfa greatest (kernels ++ later) first onward state
IsStateBy-more tnfa greatest kernels later first onward state is = record {
  edges = λ unit le. IsEdgeOf-more tnfa kernels later first (onward.steps unit) (onward.next unit) (edge_on state.edges unit) (is.edges unit le);
  units = is.units;
  accept = is.accept;
  leave = is.leave;
}

IsStateOf-more : (tnfa : Tnfa) (greatest : ℕ) (lists later : List (List Place)) (first : Bool) (list : List Place) (state : State)
    → IsStateOf tnfa greatest lists first list state → IsStateOf tnfa greatest (lists ++ later) first list state
IsStateOf-more tnfa greatest lists later first list state is = record {
  reaches = is.reaches;
  closure = is.closure;
  is = IsStateBy-more tnfa greatest lists later first (onward_by tnfa is.reaches) state is.is;
}

module _ (tnfa : Tnfa) (start lists new : List (List Place)) (grown : Grows tnfa start lists) (grows : Grows tnfa lists new) (states : List State)
    (are : AreStatesOf tnfa lists states) (number : ℕ) (count : length states ≡ number) (within : number < length lists) (state : State)
    (made : (list : List Place) → slice_get lists number ≡ Some list
    → IsStateOf tnfa (greatest_of tnfa) new (is_first number) list state × AreApart state.edges) where
  -- a list that is there has its place in what came of the lists
  kept : (index : ℕ) (list : List Place) → index < length lists → slice_get new index ≡ Some list → slice_get lists index ≡ Some list
  kept index list lt e =
      let here : slice_get lists index ≡ Some (slice_index_or lists index []) = slice_get-get_or lists index [] lt in
      let there : slice_get new index ≡ Some (slice_index_or lists index []) =
      ap (λ l. slice_get l index) grows.lists ∙ slice_get-front lists grows.later index (slice_index_or lists index []) here in
      here ∙ sym there ∙ e

  states_more : AreStatesOf tnfa new (states ++ state ∷ [])
  states_more index list other e f = elim (slice_get-behind states state other index f) [
    | inl early ↦
        let lt : index < length states = slice_get_within states index other early in
        let old = are index list other (kept index list (omega (arith, lt, count, within)) e) early in (
          subst (λ l. IsStateOf tnfa (greatest_of tnfa) l (is_first index) list other) (sym grows.lists)
              (IsStateOf-more tnfa (greatest_of tnfa) lists grows.later (is_first index) list other old.0),
          old.1,
        )
    | inr last ↦
        let same : number ≡ index = sym count ∙ sym last.0 in
        let at : slice_get lists number ≡ Some list =
        ap (λ n. slice_get lists n) same ∙ kept index list (omega (arith, same, within)) e in
        let now = made list at in (
          subst (λ n. IsStateOf tnfa (greatest_of tnfa) new (is_first n) list other) same
              (subst (λ s. IsStateOf tnfa (greatest_of tnfa) new (is_first number) list s) last.1 now.0),
          subst (λ (s : State). AreApart s.edges) last.1 now.1,
        )
  ]

  pub states-more : (next : List State) → next ≡ states ++ state ∷ []
      → Grows tnfa start new × (length next ≡ number + 1) × (number + 1 ≤ length new) × AreStatesOf tnfa new next
  states-more next is =
      let longer : length new ≡ length lists + length grows.later = ap (λ l. length l) grows.lists ∙ length-append lists grows.later in
      let more : length next ≡ length states + 1 = ap (λ l. length l) is ∙ length-append states (state ∷ []) in (
        grows-more tnfa start lists new grown grows,
        omega (arith, more, count),
        omega (arith, longer, within),
        subst (λ l. AreStatesOf tnfa new l) (sym is) states_more,
      )
