-- With all edges the answer keeps the shape of the automaton of which it is the answer.
use Rattle.std.proofs.Common.{◌≡◌, ℕ, zero, suc, List, [], ◌∷◌, length, Option, Some, None, slice_get, refl, sym, ap, ◌∙◌, arith}
use Rattle.std.specs.Prelude.{map, option_map}
use Rattle.lx_auto.specs.declared.automaton.Auto.{Auto}
use Rattle.lx_auto.specs.declared.automaton.Edge.{Edge}
use Rattle.lx_auto.specs.declared.automaton.State.{State}
use Rattle.lx_auto.specs.Automaton.{state_of}
use Rattle.lx_auto.specs.Shapes.{AreAgreed}
use Rattle.lx_regs.specs.declared.folding.Fold.{Fold}
use Rattle.lx_regs.specs.FoldedEdges.{AreFolded, folds_at, unfolded_auto, unfolded_edge, unfolded_states}
use Rattle.lx_regs.specs.Shapes.{KeepsShape, shape_of_accept, shape_of_edge}
use Rattle.lx_regs.proofs.FoldedEdges.UnfoldedRuns.{to-at}
use Rattle.lx_regs.proofs.FoldedEdges.UnfoldedStates.{length-unfolded, state_of-unfolded}

shapes-unfolded : (edges others : List Edge) (folds : List Fold) → map shape_of_edge edges ≡ map shape_of_edge others
    → map shape_of_edge (map (unfolded_edge edges) folds) ≡ map shape_of_edge (map (unfolded_edge others) folds)
shapes-unfolded edges others [] same = refl
shapes-unfolded edges others (fold ∷ folds) same = λ i.
    record { low = fold.lo; high = fold.hi; target = to-at edges others fold.place same i } ∷ shapes-unfolded edges others folds same i

-- a state with all its edges accepts what the state accepts
accepts-unfolded : (states : List State) (lists : List (List Fold)) (number : ℕ)
    → option_map (λ (s : State). s.accept) (slice_get (unfolded_states states lists) number)
    ≡ option_map (λ (s : State). s.accept) (slice_get states number)
accepts-unfolded [] lists number = refl
accepts-unfolded (state ∷ states) [] zero = refl
accepts-unfolded (state ∷ states) [] (suc number) = accepts-unfolded states [] number
accepts-unfolded (state ∷ states) (folds ∷ lists) zero = refl
accepts-unfolded (state ∷ states) (folds ∷ lists) (suc number) = accepts-unfolded states lists number

state-accepting : (one other : Option State) → option_map (λ (s : State). s.accept) one ≡ option_map (λ (s : State). s.accept) other
    → (first : State) → one ≡ Some first → (second : State) × (other ≡ Some second) × (second.accept ≡ first.accept)
state-accepting None other same first is = absurd (cc is)
state-accepting (Some state) None same first is = absurd (cc same)
state-accepting (Some state) (Some other) same first is =
    let both : state.accept ≡ other.accept = cc same in
    let one : state ≡ first = cc is in
    (other, refl, sym both ∙ ap (λ (s : State). s.accept) one)

-- accepts agree where they are the same
AreAgreed-alike : (states others : List State)
    → ((number : ℕ) → option_map (λ (s : State). s.accept) (slice_get others number)
    ≡ option_map (λ (s : State). s.accept) (slice_get states number))
    → AreAgreed states → AreAgreed others
AreAgreed-alike states others same agreed number other first second accept also is has accepts so rule =
    let one = state-accepting (slice_get others number) (slice_get states number) (same number) first is in
    let two = state-accepting (slice_get others other) (slice_get states other) (same other) second has in
    agreed number other one.0 two.0 accept also one.1 two.1 (one.2 ∙ accepts) (two.2 ∙ so) rule

pub KeepsShape-unfolded : (folded answer : Auto) (lists : List (List Fold)) → length lists ≡ length folded.states
    → length lists ≡ length answer.states → KeepsShape folded answer → KeepsShape (unfolded_auto folded lists) (unfolded_auto answer lists)
KeepsShape-unfolded folded answer lists count also kept = record {
  count = length-unfolded answer.states lists ∙ kept.count ∙ sym (length-unfolded folded.states lists);
  edges = λ state.
      ap (λ (s : State). map shape_of_edge s.edges) (state_of-unfolded answer.states lists state also)
      ∙ shapes-unfolded (state_of answer.states state).edges (state_of folded.states state).edges (folds_at lists state) (kept.edges state)
      ∙ ap (λ (s : State). map shape_of_edge s.edges) (sym (state_of-unfolded folded.states lists state count));
  accepts = λ state.
      ap (λ (s : State). option_map shape_of_accept s.accept) (state_of-unfolded answer.states lists state also) ∙ kept.accepts state
      ∙ ap (λ (s : State). option_map shape_of_accept s.accept) (sym (state_of-unfolded folded.states lists state count));
  agreed = λ agreed.
      AreAgreed-alike answer.states (unfolded_states answer.states lists) (λ number. accepts-unfolded answer.states lists number)
      (kept.agreed
      (AreAgreed-alike (unfolded_states folded.states lists) folded.states
      (λ number. sym (accepts-unfolded folded.states lists number)) agreed));
}

-- what was noted of the edges is noted of as many edges
pub AreFolded-length : (edges others : List Edge) (folds : List Fold) → length others ≡ length edges → AreFolded edges folds
    → AreFolded others folds
AreFolded-length edges others folds same are = record {
  within = λ fold has. let lt = are.within fold has in omega (arith, lt);
  noted = λ place within. are.noted place (omega arith);
}
