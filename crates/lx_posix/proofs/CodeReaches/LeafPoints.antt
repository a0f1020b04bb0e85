-- Ways do not leave the states, and none leads on within a leaf: what is found within a leaf is where a walk begins.
use Rattle.std.proofs.Common.{ap, subst, arith}
use Rattle.std.specs.Prelude.{◌≡◌, ℕ, zero, suc, ◌*◌, ◌<◌, ◌≤◌, List, [], ◌∷◌, length, refl}
use Rattle.lx_base.specs.declared.settings.Enc.{Enc}
use Rattle.lx_regex.specs.Automaton.{automaton}
use Rattle.lx_regex.specs.Pattern.{Pattern, terms_of}
use Rattle.lx_tnfa.specs.DepthFirst.{successors}
use Rattle.lx_tnfa.specs.LeafReadings.{IsNth}
use Rattle.lx_tnfa.specs.Live.{state_of}
use Rattle.lx_tnfa.specs.Moves.{moves_in}
use Rattle.lx_tnfa.specs.Tnfa.{IsTnfaOf, Tnfa}
use Rattle.lx_tnfa.specs.declared.places.Place.{Place}
use Rattle.lx_tnfa.specs.declared.states.State.{State}
use Rattle.lx_tnfa.specs.declared.states.State.TheVariants.{Moves}
use Rattle.lx_tnfa.proofs.Construction.WholeTable.{held_length}
use Rattle.lx_tnfa.proofs.Leaves.LeafNumbers.{beyond}
use Rattle.lx_tdfa.specs.Graph.{graph_of}
use Rattle.lx_tdfa.proofs.Rules.WithinStates.{moves_stay_within}
use Rattle.lx_tdfa.proofs.WordKernels.OrderedLists.{nth_at_zero}
use Rattle.lx_posix.specs.Beginnings.{IsPoint, point_number}
use Rattle.lx_posix.specs.Finding.{IsWay}
use Rattle.lx_posix.specs.Reaching.{IsLeafPoint, events_from, events_on}
use Rattle.lx_posix.specs.declared.points.Point.{Point}
use Rattle.lx_posix.specs.declared.points.Point.TheVariants as point
use Rattle.lx_posix.proofs.CodeSearch.FoundPaths.{move_edge}
use Rattle.lx_posix.proofs.CodeSearch.PointNumbers.{point_same}

state_beyond : (states : List State) (number : ℕ) → length states ≤ number → state_of states number ≡ Moves []
state_beyond [] number le = refl
state_beyond (state ∷ states) zero le = absurd (omega arith)
state_beyond (state ∷ states) (suc number) le = state_beyond states number (omega arith)

module _ (tnfa : Tnfa) where
  pub way_beyond : (number : ℕ) (way : List ℕ) (to : ℕ) → length tnfa.states ≤ number → IsWay tnfa number way to
      → (way ≡ []) × (number ≡ to)
  way_beyond number [] to le w = (refl, w)
  way_beyond number (index ∷ way) to le w =
      absurd (subst (λ (s : State). IsNth (moves_in s) index w.0) (state_beyond tnfa.states number le) w.1)

  -- the events of a way from a point, by its number
  pub events_from-number : (begin : Point) (way : List ℕ) (to : ℕ) → IsWay tnfa (point_number tnfa begin) way to
      → events_on tnfa (point_number tnfa begin) way ≡ events_from tnfa begin way
  events_from-number (point.State state) way to w = refl
  events_from-number (point.Within place) way to w =
      let none = way_beyond (point_number tnfa (point.Within place)) way to
      (beyond tnfa (2 * place.part) place.rest.0 (length tnfa.states)) w in
      ap (events_on tnfa (point_number tnfa (point.Within place))) none.0

module _ (enc : Enc) (patterns : List Pattern) (tnfa : Tnfa) (of : IsTnfaOf enc patterns tnfa) where
  way_within : (state : ℕ) (way : List ℕ) (to : ℕ) → state < length tnfa.states → IsWay tnfa state way to → to < length tnfa.states
  way_within state [] to lt w = subst (λ n. n < length tnfa.states) w lt
  way_within state (index ∷ way) to lt w =
      let states = automaton (terms_of patterns) in
      let edge = move_edge enc patterns tnfa of state index w.0 w.1 in
      let below = moves_stay_within (terms_of patterns) state index w.0.to
      (nth_at_zero (successors (graph_of states) state) index w.0.to edge) in
      way_within w.0.to way to (omega (arith, below, held_length tnfa.classes states tnfa.states of.states)) w.2

  begins_within : (begin : Point) (way : List ℕ) (place : Place) → IsPoint tnfa begin → IsPoint tnfa (point.Within place)
      → IsWay tnfa (point_number tnfa begin) way (point_number tnfa (point.Within place)) → begin ≡ point.Within place
  begins_within (point.State state) way place lt lt' w =
      let below = way_within state way (point_number tnfa (point.Within place)) lt w in
      let above = beyond tnfa (2 * place.part) place.rest.0 (length tnfa.states) in
      absurd (omega arith)
  begins_within (point.Within other) way place lt lt' w =
      let above = beyond tnfa (2 * other.part) other.rest.0 (length tnfa.states) in
      let none = way_beyond tnfa (point_number tnfa (point.Within other)) way (point_number tnfa (point.Within place)) above w in
      point_same tnfa (point.Within other) (point.Within place) lt lt' none.1

  -- so it is in a leaf, where that in which the walk begins is
  pub leaf_found : (begin at : Point) (way : List ℕ) → IsPoint tnfa begin → IsPoint tnfa at
      → IsWay tnfa (point_number tnfa begin) way (point_number tnfa at) → IsLeafPoint tnfa begin → IsLeafPoint tnfa at
  leaf_found begin (point.State state) way lt lt' w is = tt
  leaf_found begin (point.Within place) way lt lt' w is =
      subst (IsLeafPoint tnfa) (begins_within begin way place lt lt' w) is
