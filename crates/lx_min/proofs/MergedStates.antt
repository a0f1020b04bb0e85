-- The states of a merge are those of the automaton, with the same lists.
use Rattle.std.proofs.Common.{◌≡◌, inl, inr, ℕ, zero, suc, ◌<◌, ◌≤◌, List, [], ◌∷◌, length, Some, refl, Contains, sym, ap, ◌∙◌, subst, arith}
use Rattle.std.proofs.lemmas.Bool.{cases_lt}
use Rattle.lx_auto.specs.declared.automaton.Accept.{Accept}
use Rattle.lx_auto.specs.declared.automaton.Auto.{Auto}
use Rattle.lx_auto.specs.declared.automaton.Edge.{Edge}
use Rattle.lx_auto.specs.declared.automaton.State.{State}
use Rattle.lx_auto.specs.Automaton.{has_unit, state_of}
use Rattle.lx_auto.specs.Shapes.{StaysWithin}
use Rattle.lx_auto.proofs.Agreement.{AgreeByNumber, AreAgreed-by_number, AreAgreed-of_numbers}
use Rattle.lx_auto.proofs.SameLists.{map-Contains}
use Rattle.lx_min.specs.Merges.{Classes, IsMerge, moved_edge}

no_edge : (states : List State) (number : ℕ) → length states ≤ number → (edge : Edge) → Contains (state_of states number).edges edge → ⊥
no_edge [] number past edge (place, within, is) = absurd (omega arith)
no_edge (state ∷ states) zero past edge has = absurd (omega arith)
no_edge (state ∷ states) (suc number) past edge has = no_edge states number (omega arith) edge has

no_accept : (states : List State) (number : ℕ) → length states ≤ number → (accept : Accept)
    → (state_of states number).accept ≡ Some accept → ⊥
no_accept [] number past accept is = absurd (cc is)
no_accept (state ∷ states) zero past accept is = absurd (omega arith)
no_accept (state ∷ states) (suc number) past accept is = no_accept states number (omega arith) accept is

module _ (given answer : Auto) (classes : Classes) (is : IsMerge given answer classes) where
  -- a state with an edge is a class
  pub class-of_edge : (state : ℕ) (edge : Edge) → Contains (state_of answer.states state).edges edge → state < classes.count
  class-of_edge state edge has = elim (cases_lt state classes.count) [
    | inl within ↦ within
    | inr past ↦
        let count : length answer.states ≡ classes.count = is.count in
        absurd (no_edge answer.states state (omega arith) edge has)
  ]

  pub class-of_accept : (state : ℕ) (accept : Accept) → (state_of answer.states state).accept ≡ Some accept → state < classes.count
  class-of_accept state accept accepts = elim (cases_lt state classes.count) [
    | inl within ↦ within
    | inr past ↦
        let count : length answer.states ≡ classes.count = is.count in
        absurd (no_accept answer.states state (omega arith) accept accepts)
  ]

  -- each edge is one of the chosen state's, moved
  pub edge-unmoved : (state : ℕ) (edge : Edge) → Contains (state_of answer.states state).edges edge
      → (source : Edge) × Contains (state_of given.states (classes.chosen state)).edges source × (moved_edge classes.of source ≡ edge)
  edge-unmoved state edge has =
      map-Contains (moved_edge classes.of) (state_of given.states (classes.chosen state)).edges edge
      (subst (λ (s : State). Contains s.edges edge) (is.states state (class-of_edge state edge has)) has)

  -- each accept is the chosen state's
  pub accept-unmoved : (state : ℕ) (accept : Accept) → (state_of answer.states state).accept ≡ Some accept
      → (state_of given.states (classes.chosen state)).accept ≡ Some accept
  accept-unmoved state accept accepts =
      ap (λ (s : State). s.accept) (sym (is.states state (class-of_accept state accept accepts))) ∙ accepts

  AgreeByNumber-merged : AgreeByNumber given.states → AgreeByNumber answer.states
  AgreeByNumber-merged agree number other accept same accepts also =
      agree (classes.chosen number) (classes.chosen other) accept same (accept-unmoved number accept accepts)
      (accept-unmoved other same also)

  pub StaysWithin-merged : StaysWithin given answer
  StaysWithin-merged = record {
    units = λ state unit edge has on.
        let source = edge-unmoved state edge has in
        (classes.chosen state, source.0, source.1, ap (λ (e : Edge). has_unit e unit) source.2 ∙ on);
    accepts = λ state accept accepts. (classes.chosen state, accept, accept-unmoved state accept accepts, refl, refl);
    agreed = λ agreed. AreAgreed-of_numbers answer.states (AgreeByNumber-merged (AreAgreed-by_number given.states agreed));
  }
