-- A word that tells states of an automaton apart tells their classes apart in the merge.
use Rattle.std.proofs.Common.{◌≡◌, ℕ, ◌<◌, List, Option, Some, None, refl, sym, ap, ◌∙◌, subst}
use Rattle.std.specs.Prelude.{option_map}
use Rattle.lx_auto.specs.declared.automaton.Auto.{Auto}
use Rattle.lx_auto.specs.declared.automaton.Edge.{Edge}
use Rattle.lx_auto.specs.declared.automaton.State.{State}
use Rattle.lx_auto.specs.Automaton.{IsAuto, edge_on, state_of}
use Rattle.lx_auto.specs.Points.{IsMet}
use Rattle.lx_auto.specs.ToldApart.{AllAreToldApart, AreToldApart, MoveTheSame, by_accepts, by_moves, further_on}
use Rattle.lx_auto.proofs.MetStates.{met-behind}
use Rattle.lx_auto.proofs.OneEdge.{edge_on-is}
use Rattle.lx_auto.proofs.ToldApart.{AcceptTheSame-turned, MoveTheSame-turned}
use Rattle.lx_min.specs.Merges.{AreClassesApart, Classes, IsMerge, MoveAlike, moved_edge, moved_state}
use Rattle.lx_min.proofs.Merges.{accept-merged, state_of-merged}
use Rattle.lx_min.proofs.MovedEdges.{edge_on-moved}
use Rattle.lx_min.proofs.SameEffects.{AcceptTheSame-through, DoTheSame-through}

MoveTheSame-through : (state between other : State) (first middle second : Option Edge) → MoveTheSame state between first middle
    → MoveTheSame between other middle second → MoveTheSame state other first second
MoveTheSame-through state between other None None None one next = tt
MoveTheSame-through state between other (Some first) (Some middle) (Some second) one next = (
  DoTheSame-through state.leave between.leave other.leave one.0 next.0,
  DoTheSame-through first.ops middle.ops second.ops one.1 next.1,
)
MoveTheSame-through state between other (Some first) None second one next = absurd one
MoveTheSame-through state between other None (Some middle) second one next = absurd one
MoveTheSame-through state between other None None (Some second) one next = absurd next
MoveTheSame-through state between other (Some first) (Some middle) None one next = absurd next

-- the same of edges that come to one class
MoveTheSame-alike : (class : ℕ → ℕ) (state other : State) (first second : Option Edge) → MoveAlike class state other first second
    → MoveTheSame state (moved_state class other) first (option_map (moved_edge class) second)
MoveTheSame-alike class state other None None move = tt
MoveTheSame-alike class state other None (Some second) move = absurd move
MoveTheSame-alike class state other (Some first) None move = absurd move
MoveTheSame-alike class state other (Some first) (Some second) move = (move.0, move.1)

edge-alike : (class : ℕ → ℕ) (state other : State) (first : Edge) (second : Option Edge) → MoveAlike class state other (Some first) second
    → (edge : Edge) × (option_map (moved_edge class) second ≡ Some edge) × (edge.to ≡ class first.to)
edge-alike class state other first None move = absurd move
edge-alike class state other first (Some second) move = (moved_edge class second, refl, sym move.2)

module _ (given answer : Auto) (classes : Classes) (is : IsMerge given answer classes) (formed : IsAuto given) where
  module _ (state : ℕ) (met : IsMet given state) (unit : ℕ) where
    on-merged : edge_on (state_of answer.states (classes.of state)).edges unit
        ≡ option_map (moved_edge classes.of) (edge_on (state_of given.states (classes.chosen (classes.of state))).edges unit)
    on-merged =
        ap (λ (s : State). edge_on s.edges unit) (state_of-merged given answer classes is formed state met)
        ∙ edge_on-moved classes.of (state_of given.states (classes.chosen (classes.of state))).edges unit

    -- a state and its class move the same
    MoveTheSame-merged : MoveTheSame (state_of given.states state) (state_of answer.states (classes.of state))
        (edge_on (state_of given.states state).edges unit) (edge_on (state_of answer.states (classes.of state)).edges unit)
    MoveTheSame-merged =
        let source = state_of given.states state in
        let chosen = state_of given.states (classes.chosen (classes.of state)) in
        subst (λ (s : State). MoveTheSame source s (edge_on source.edges unit) (edge_on s.edges unit))
        (sym (state_of-merged given answer classes is formed state met))
        (subst (MoveTheSame source (moved_state classes.of chosen) (edge_on source.edges unit))
        (sym (edge_on-moved classes.of chosen.edges unit))
        (MoveTheSame-alike classes.of source chosen (edge_on source.edges unit) (edge_on chosen.edges unit)
        ((is.are.alike state met).moves unit)))

    -- the class has an edge to the class of where the state's edge leads
    edge_on-merged : (edge : Edge) → edge_on (state_of given.states state).edges unit ≡ Some edge
        → (second : Edge) × (edge_on (state_of answer.states (classes.of state)).edges unit ≡ Some second)
        × (second.to ≡ classes.of edge.to)
    edge_on-merged edge on =
        let source = state_of given.states state in
        let chosen = state_of given.states (classes.chosen (classes.of state)) in
        let found = edge-alike classes.of source chosen edge (edge_on chosen.edges unit)
        (subst (λ first. MoveAlike classes.of source chosen first (edge_on chosen.edges unit)) on ((is.are.alike state met).moves unit)) in
        (found.0, on-merged ∙ found.1, found.2)

  AreToldApart-merged : (state other : ℕ) (word : List ℕ) → IsMet given state → IsMet given other → AreToldApart given state other word
      → AreToldApart answer (classes.of state) (classes.of other) word
  AreToldApart-merged state other _ met also (by_accepts _ _ differ) =
      let ours : ℕ → _ = λ (s : ℕ). (state_of answer.states (classes.of s)).accept in
      let theirs : ℕ → _ = λ (s : ℕ). (state_of given.states s).accept in
      by_accepts (classes.of state) (classes.of other) (λ same. differ
      (AcceptTheSame-through (theirs state) (ours state) (theirs other) (accept-merged given answer classes is formed state met)
      (AcceptTheSame-through (ours state) (ours other) (theirs other) same
      (AcceptTheSame-turned (theirs other) (ours other) (accept-merged given answer classes is formed other also)))))
  AreToldApart-merged state other _ met also (by_moves _ _ unit differ) =
      let ours : ℕ → State = λ s. state_of answer.states (classes.of s) in
      let theirs : ℕ → State = λ s. state_of given.states s in
      let on : State → Option Edge = λ s. edge_on s.edges unit in
      by_moves (classes.of state) (classes.of other) unit (λ same. differ
      (MoveTheSame-through (theirs state) (ours state) (theirs other) (on (theirs state)) (on (ours state)) (on (theirs other))
      (MoveTheSame-merged state met unit)
      (MoveTheSame-through (ours state) (ours other) (theirs other) (on (ours state)) (on (ours other)) (on (theirs other)) same
      (MoveTheSame-turned (theirs other) (ours other) (on (theirs other)) (on (ours other)) (MoveTheSame-merged other also unit)))))
  AreToldApart-merged state other _ met also (further_on _ _ unit first second word on next apart) =
      let ours = edge_on-merged state met unit first on in
      let theirs = edge_on-merged other also unit second next in
      further_on (classes.of state) (classes.of other) unit ours.0 theirs.0 word ours.1 theirs.1
      (subst (λ (places : ℕ × ℕ). AreToldApart answer places.0 places.1 word) (λ i. (sym ours.2 i, sym theirs.2 i))
      (AreToldApart-merged first.to second.to word
      (met-behind given state first met (edge_on-is (state_of given.states state).edges unit first on).0)
      (met-behind given other second also (edge_on-is (state_of given.states other).edges unit second next).0) apart))

  pub AllAreToldApart-merged : AreClassesApart given classes → AllAreToldApart answer
  AllAreToldApart-merged apart state other within also differ =
      let first = is.are.chosen state (subst (λ count. state < count) is.count within) in
      let second = is.are.chosen other (subst (λ count. other < count) is.count also) in
      let told = apart (classes.chosen state) (classes.chosen other) first.0 second.0 (λ same. differ (sym first.1 ∙ same ∙ second.1)) in (
        told.0,
        subst (λ (places : ℕ × ℕ). AreToldApart answer places.0 places.1 told.0) (λ i. (first.1 i, second.1 i))
            (AreToldApart-merged (classes.chosen state) (classes.chosen other) told.0 first.0 second.0 told.1),
      )
