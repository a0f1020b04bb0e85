-- What is kept goes through two passes, and no edge of the answer holds a unit that no edge of what was given holds.
use Rattle.std.proofs.Common.{◌≡◌, ℕ, Contains, Option, Some, None, Bool, true, false, option_map, nat_le, ◌&&◌, refl, sym, ap, ◌∙◌, subst}
use Rattle.std.specs.Bool.{IsTrue, then_some}
use Rattle.std.specs.Option.{IfSome}
use Rattle.lx_auto.specs.declared.automaton.Accept.{Accept}
use Rattle.lx_auto.specs.declared.automaton.Auto.{Auto}
use Rattle.lx_auto.specs.declared.automaton.Edge.{Edge}
use Rattle.lx_auto.specs.Automaton.{has_unit, state_of}
use Rattle.lx_auto.specs.Shapes.{HasAcceptLike, HasEdgeOn, StaysWithin}
use Rattle.lx_auto.proofs.SameLists.{Contains-images}
use Rattle.lx_regs.specs.Shapes.{AcceptShape, EdgeShape, KeepsShape, StandsFor, shape_of_accept, shape_of_edge}

-- an answer that is given if it may stand for the given automaton
StandsFor-told : (given answer : Auto) (may : Bool) → (IsTrue may → StandsFor given answer) → IfSome (then_some may answer) (StandsFor given)
StandsFor-told given answer true holds = holds refl
StandsFor-told given answer false holds = tt

pub StandsFor-then_some : (given answer : Auto) (may : Bool) (found : Option Auto) → found ≡ then_some may answer
    → (IsTrue may → StandsFor given answer) → IfSome found (StandsFor given)
StandsFor-then_some given answer may found is holds =
    subst (λ (f : Option Auto). IfSome f (StandsFor given)) (sym is) (StandsFor-told given answer may holds)

pub KeepsShape-through : (given middle answer : Auto) → KeepsShape given middle → KeepsShape middle answer → KeepsShape given answer
KeepsShape-through given middle answer one other = record {
  count = other.count ∙ one.count;
  edges = λ state. other.edges state ∙ one.edges state;
  accepts = λ state. other.accepts state ∙ one.accepts state;
  agreed = λ agreed. other.agreed (one.agreed agreed);
}

-- an edge of the answer has the range and the target of one of the given automaton, at the same state
pub edge-kept : (given answer : Auto) → KeepsShape given answer → (state : ℕ) (other : Edge)
    → Contains (state_of answer.states state).edges other
    → (edge : Edge) × Contains (state_of given.states state).edges edge × (shape_of_edge edge ≡ shape_of_edge other)
edge-kept given answer kept state other has =
    Contains-images shape_of_edge shape_of_edge (state_of given.states state).edges (state_of answer.states state).edges
    (sym (kept.edges state)) other has

shape-unit : (edge other : Edge) (unit : ℕ) → shape_of_edge edge ≡ shape_of_edge other → has_unit other unit ≡ true → has_unit edge unit ≡ true
shape-unit edge other unit same on =
    subst (λ low. (nat_le low unit && nat_le unit edge.hi) ≡ true) (sym (ap (λ (shape : EdgeShape). shape.low) same))
    (subst (λ high. (nat_le other.lo unit && nat_le unit high) ≡ true) (sym (ap (λ (shape : EdgeShape). shape.high) same)) on)

unit-within : (given answer : Auto) → KeepsShape given answer → (state unit : ℕ) (other : Edge)
    → Contains (state_of answer.states state).edges other → has_unit other unit ≡ true → HasEdgeOn given unit
unit-within given answer kept state unit other has on =
    let found = edge-kept given answer kept state other has in
    (state, found.0, found.1, shape-unit found.0 other unit found.2 on)

accept-like : (given answer : Option Accept) (accept : Accept) → option_map shape_of_accept answer ≡ option_map shape_of_accept given
    → answer ≡ Some accept → (other : Accept) × (given ≡ Some other) × (shape_of_accept other ≡ shape_of_accept accept)
accept-like None answer accept same is = absurd (cc (same, is))
accept-like (Some other) None accept same is = absurd (cc is)
accept-like (Some other) (Some answer) accept same is =
    let one : answer ≡ accept = cc is in
    let both : shape_of_accept answer ≡ shape_of_accept other = cc same in
    (other, refl, sym both ∙ ap shape_of_accept one)

accept-within : (given answer : Auto) → KeepsShape given answer → (state : ℕ) (accept : Accept)
    → (state_of answer.states state).accept ≡ Some accept → HasAcceptLike given accept
accept-within given answer kept state accept is =
    let found = accept-like (state_of given.states state).accept (state_of answer.states state).accept accept (kept.accepts state) is in (
      state,
      found.0,
      found.1,
      ap (λ (shape : AcceptShape). shape.rule) found.2,
      ap (λ (shape : AcceptShape). shape.histories) found.2,
    )

-- an automaton that keeps the shape of the given one stays within it
pub StaysWithin-shape : (given answer : Auto) → KeepsShape given answer → StaysWithin given answer
StaysWithin-shape given answer kept = record {
  units = unit-within given answer kept;
  accepts = accept-within given answer kept;
  agreed = kept.agreed;
}
