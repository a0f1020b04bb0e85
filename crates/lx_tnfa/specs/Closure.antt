-- Walks without units, and the targets of plain ones.
use Rattle.std.specs.Prelude.{◌≡◌, ◌≢◌, ℕ, zero, suc, ◌+◌, ◌*◌, ◌/◌, ◌<◌, List, [], ◌∷◌, ◌++◌, map, length, Some, false, All, AllPairs, Contains, nat_eq, if◌then◌else◌, slice_get, slice_index}
use Rattle.lx_encode.specs.Graph.{numbered}
use Rattle.lx_encode.specs.Table.{row_of}
use Rattle.lx_encode.specs.declared.graph.Residual.{Residual}
use Rattle.lx_encode.specs.declared.runs.Run.{Run}
use Rattle.lx_regex.specs.Dictionary.{IsBefore}
use Rattle.lx_tnfa.specs.Live.{mark_at, starts_at, state_of}
use Rattle.lx_tnfa.specs.Tnfa.{Tnfa, IsPlace, rows_at, state_at}
use Rattle.lx_tnfa.specs.declared.classes.ClassGraph.{ClassGraph}
use Rattle.lx_tnfa.specs.declared.closure.Reach.{Reach}
use Rattle.lx_tnfa.specs.declared.closure.Stop.{Stop}
use Rattle.lx_tnfa.specs.declared.closure.Stop.TheVariants.{AtState, AtTarget}
use Rattle.lx_tnfa.specs.declared.closure.Target.{Target}
use Rattle.lx_tnfa.specs.declared.closure.Target.TheVariants.{Leaf, End}
use Rattle.lx_tnfa.specs.declared.places.Place.{Place}
use Rattle.lx_tnfa.specs.declared.states.Event.{Event}
use Rattle.lx_tnfa.specs.declared.states.Move.{Move}
use Rattle.lx_tnfa.specs.declared.states.State.{State}
use Rattle.lx_tnfa.specs.declared.states.State.TheVariants.{Moves, Class, AnyUnit}

-- a state; the last state of all is the end of the rule
abbrev pub stop_at : (rule : ℕ) → (number : ℕ) → Stop
stop_at rule zero = AtTarget (End rule)
stop_at rule (suc number) = AtState (suc number)

-- a step of a walk: where it leads, and the tag events on the way
pub record Step : Type 0 where
  pub to : Stop
  pub events : List Event

-- a step to a target, without events
abbrev pub leaf_step : (part : ℕ) → Residual → Step
leaf_step part rest = record { to = AtTarget (Leaf (record { part = part; rest = rest })); events = [] }

-- the steps from a state of a rule, in order: its moves, or before a leaf the starts of the leaf
abbrev pub steps_of : List ClassGraph → (rule part : ℕ) → State → List Step
steps_of classes rule part (Moves ways) = map (λ (way : Move). record { to = stop_at rule way.to; events = way.events }) ways
steps_of classes rule part (Class number) = map (leaf_step part) (starts_at classes number)
steps_of classes rule part AnyUnit = leaf_step part (numbered 1) ∷ []

-- the steps from the state with this number: from state 0, where the start is, to the beginnings of the rules
abbrev pub steps_at : Tnfa → (number : ℕ) → State → List Step
steps_at tnfa zero state = map (λ begin. record { to = AtState begin; events = [] }) tnfa.begins
steps_at tnfa (suc number) state = steps_of tnfa.classes (slice_index tnfa.owners (suc number / 2)) (suc number / 2) state

-- the steps from a stop; a target has none
abbrev pub steps_from : Tnfa → Stop → List Step
steps_from tnfa (AtState number) = steps_at tnfa number (state_of tnfa.states number)
steps_from tnfa (AtTarget target) = []

-- an end cannot be reached from the stop
abbrev pub IsDead : Tnfa → Stop → Type 0
IsDead tnfa (AtState number) = (number < length tnfa.live) × (mark_at tnfa.live number ≡ false)
IsDead tnfa (AtTarget target) = ⊥

-- behind a leaf, or in the middle of it
abbrev pub behind_or_at : List Run → Place → Stop
behind_or_at [] place = AtState (2 * place.part + 1)
behind_or_at (run ∷ runs) place = AtTarget (Leaf place)

-- where a walk from a place begins: at the start, behind its leaf where that is finished, or else at the place itself
abbrev pub beginning_at : List ClassGraph → State → Place → Stop
beginning_at classes (Moves ways) place = AtState 0
beginning_at classes (Class number) place = behind_or_at (row_of (rows_at classes number) place.rest.0) place
beginning_at classes AnyUnit place = if nat_eq place.rest.0 0 then AtState (2 * place.part + 1) else AtTarget (Leaf place)

abbrev pub beginning_of : Tnfa → Place → Stop
beginning_of tnfa place = beginning_at tnfa.classes (state_at tnfa place) place

-- a walk from one stop to another that takes these choices among the steps, visits these stops and has these events
abbrev pub IsWalk : Tnfa → (from : Stop) → (choices : List ℕ) → (visited : List Stop) → (events : List Event) → (to : Stop) → Type 0
IsWalk tnfa from [] visited events to = (visited ≡ from ∷ []) × (events ≡ []) × (from ≡ to)
IsWalk tnfa from (choice ∷ choices) visited events to =
    (step : Step) × (others : List Stop) × (later : List Event) × (slice_get (steps_from tnfa from) choice ≡ Some step)
    × (visited ≡ from ∷ others) × (events ≡ step.events ++ later) × IsWalk tnfa step.to choices others later to

-- a walk from the place with this index to a target, its choices and its events
pub record Arrival : Type 0 where
  pub from : ℕ
  pub choices : List ℕ
  pub events : List Event
  pub to : Target

-- the walk is plain: it visits no stop twice, and none from which no end can be reached
pub record IsPlainWalk (tnfa : Tnfa) (places : List Place) (arrival : Arrival) : Type 0 where
  pub place : Place
  pub begins : slice_get places arrival.from ≡ Some place
  pub visited : List Stop
  pub walk : IsWalk tnfa (beginning_of tnfa place) arrival.choices visited arrival.events (AtTarget arrival.to)
  pub once : AllPairs (λ stop other. stop ≢ other) visited
  pub live : All (λ stop. ¬ IsDead tnfa stop) visited

-- the first walk comes before the second: it is from an earlier place, or from the same one with lesser choices
abbrev pub ComesBefore : Arrival → Arrival → Type 0
ComesBefore arrival other = IsBefore (arrival.from ∷ arrival.choices) (other.from ∷ other.choices)

-- the least plain walks to all targets that one reaches, in their order, one for each target
pub record AreLeastWalks (tnfa : Tnfa) (places : List Place) (arrivals : List Arrival) : Type 0 where
  pub plain : All (IsPlainWalk tnfa places) arrivals
  pub once : AllPairs (λ arrival other. arrival.to ≢ other.to) arrivals
  pub complete : (other : Arrival) → IsPlainWalk tnfa places other → Contains (map (λ (arrival : Arrival). arrival.to) arrivals) other.to
  pub least : All (λ (arrival : Arrival). (other : Arrival) → IsPlainWalk tnfa places other → other.to ≡ arrival.to → ¬ ComesBefore other arrival) arrivals
  pub order : AllPairs ComesBefore arrivals

-- the closure of places: what the least plain walks reach, in their order
abbrev pub IsClosureOf : Tnfa → List Place → List Reach → Type 0
IsClosureOf tnfa places reaches =
    (arrivals : List Arrival) × AreLeastWalks tnfa places arrivals
    × (reaches ≡ map (λ (arrival : Arrival). record { to = arrival.to; events = arrival.events; from = arrival.from }) arrivals)

-- a leaf that is reached is a place of the automaton
abbrev pub IsTarget : Tnfa → Target → Type 0
IsTarget tnfa (Leaf place) = IsPlace tnfa place
IsTarget tnfa (End rule) = Unit {0}

-- the same of a stop; a state is no leaf that is reached
abbrev pub IsTargetAt : Tnfa → Stop → Type 0
IsTargetAt tnfa (AtState number) = Unit {0}
IsTargetAt tnfa (AtTarget target) = IsTarget tnfa target

-- and of each stop to which a step leads
abbrev pub LeadToTargets : Tnfa → List Step → Type 0
LeadToTargets tnfa [] = Unit {0}
LeadToTargets tnfa (step ∷ steps) = IsTargetAt tnfa step.to × LeadToTargets tnfa steps

-- each leaf that is reached is a place of the automaton
abbrev pub AllPlaces : Tnfa → List Reach → Type 0
AllPlaces tnfa reaches = All (λ (reach : Reach). IsTarget tnfa reach.to) reaches

-- a stop that is still to be looked at, with the events of the walk to it and the index of the place where that begins
pub record Waiting : Type 0 where
  pub stop : Stop
  pub events : List Event
  pub from : ℕ

-- the stops at which the walks from places begin, of which the first has this index
abbrev pub waiting_from : Tnfa → (from : ℕ) → List Place → List Waiting
waiting_from tnfa from [] = []
waiting_from tnfa from (place ∷ places) =
    record { stop = beginning_of tnfa place; events = []; from = from } ∷ waiting_from tnfa (suc from) places
