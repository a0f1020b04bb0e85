-- Classes that are numbered anew are what they were.
use Rattle.std.proofs.Common.{◌≡◌, ℕ, ◌<◌, List, length, get_or, Option, Some, None, sym, ap, ◌∙◌, subst}
use Rattle.lx_auto.specs.declared.automaton.Auto.{Auto}
use Rattle.lx_auto.specs.declared.automaton.Edge.{Edge}
use Rattle.lx_auto.specs.declared.automaton.State.{State}
use Rattle.lx_auto.specs.Automaton.{IsAuto, edge_on, state_of}
use Rattle.lx_auto.specs.Points.{IsMet, IsReached, Point, begins, goes_on}
use Rattle.lx_auto.proofs.MetStates.{targets_within}
use Rattle.lx_min.specs.Merges.{AreAlike, AreClasses, AreClassesApart, Classes, MoveAlike}
use Rattle.lx_min.specs.Numberings.{AreNumbered}

-- a state to which some walk comes is one of the automaton's
pub met-within : (auto : Auto) (state : ℕ) → IsAuto auto → IsMet auto state → state < length auto.states
met-within auto state is (left, reached) = within (record { state = state; left = left }) reached
  where
    within : (point : Point) → IsReached auto point → point.state < length auto.states
    within _ begins = is.start
    within _ (goes_on point edge reached has) =
        subst (λ (e : Edge). e.to < length auto.states) has.2 (targets_within auto point.state is has.0 edge has.1)

-- what comes to one class comes to one number
MoveAlike-numbered : (class number : ℕ → ℕ) (state other : State) (first second : Option Edge) → MoveAlike class state other first second
    → MoveAlike (λ s. number (class s)) state other first second
MoveAlike-numbered class number state other None None move = tt
MoveAlike-numbered class number state other None (Some second) move = absurd move
MoveAlike-numbered class number state other (Some first) None move = absurd move
MoveAlike-numbered class number state other (Some first) (Some second) move = (move.0, move.1, ap number move.2)

AreAlike-numbered : (class number : ℕ → ℕ) (state other : State) → AreAlike class state other
    → AreAlike (λ s. number (class s)) state other
AreAlike-numbered class number state other alike = record {
  accepts = alike.accepts;
  moves = λ unit.
      MoveAlike-numbered class number state other (edge_on state.edges unit) (edge_on other.edges unit) (alike.moves unit);
}

-- the classes of lists
abbrev pub listed_classes : (class chosen : List ℕ) → Classes
listed_classes class chosen =
    record { of = λ state. get_or class state 0; chosen = λ number. get_or chosen number 0; count = length chosen }

abbrev pub numbered_by : (class rank listed : List ℕ) → Classes
numbered_by class rank listed = record {
  of = λ state. get_or rank (get_or class state 0) 0;
  chosen = λ number. get_or listed number 0;
  count = length listed;
}

module _ (auto : Auto) (class chosen rank listed : List ℕ) (formed : IsAuto auto) (are : AreClasses auto (listed_classes class chosen))
    (numbered : AreNumbered class chosen rank listed (length auto.states)) where
  -- the number of a class has the state that is chosen for the class
  rank-listed : (number : ℕ) → number < length chosen
      → (get_or rank number 0 < length listed) × (get_or listed (get_or rank number 0) 0 ≡ get_or chosen number 0)
  rank-listed number within =
      numbered.ranks number within (met-within auto (get_or chosen number 0) formed (are.chosen number within).0)

  pub AreClasses-numbered : AreClasses auto (numbered_by class rank listed)
  AreClasses-numbered = record {
    start = ap (λ n. get_or rank n 0) are.start ∙ numbered.start;
    within = λ state met. (rank-listed (get_or class state 0) (are.within state met)).0;
    alike = λ state met.
        subst (λ other. AreAlike (λ s. get_or rank (get_or class s 0) 0) (state_of auto.states state) (state_of auto.states other))
        (sym (rank-listed (get_or class state 0) (are.within state met)).1)
        (AreAlike-numbered (λ s. get_or class s 0) (λ n. get_or rank n 0) (state_of auto.states state)
        (state_of auto.states (get_or chosen (get_or class state 0) 0)) (are.alike state met));
    chosen = λ number within.
        let found = numbered.states number within in
        (subst (IsMet auto) found.1.1 (are.chosen (get_or class (get_or listed number 0) 0) found.1.0).0, found.2);
    first =
        let some : 0 < length chosen = subst (λ n. n < length chosen) are.start (are.within 0 (None, begins)) in
        ap (λ n. get_or listed n 0) (sym numbered.start) ∙ (rank-listed 0 some).1 ∙ are.first;
  }

  pub AreClassesApart-numbered : AreClassesApart auto (listed_classes class chosen) → AreClassesApart auto (numbered_by class rank listed)
  AreClassesApart-numbered apart state other met also differ =
      apart state other met also (λ same. differ (ap (λ n. get_or rank n 0) same))
