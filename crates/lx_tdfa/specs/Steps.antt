-- How places go on over a unit, by the targets of plain walks from them.
use Rattle.std.specs.Prelude.{◌≡◌, ℕ, suc, ◌<◌, ◌≤◌, List, [], ◌∷◌, map, filter_map, Option, Some, None, Bool, false, nat_eq, ◌&&◌, ◌||◌, if◌then◌else◌}
use Rattle.std.specs.Option.{option_map}
use Rattle.lx_encode.specs.Graph.{numbered}
use Rattle.lx_tnfa.specs.Closure.{IsClosureOf}
use Rattle.lx_tnfa.specs.Tnfa.{IsPlace, Tnfa, place_after}
use Rattle.lx_tnfa.specs.declared.closure.Reach.{Reach}
use Rattle.lx_tnfa.specs.declared.closure.Target.{Target}
use Rattle.lx_tnfa.specs.declared.closure.Target.TheVariants.{End, Leaf}
use Rattle.lx_tnfa.specs.declared.places.Place.{Place}
use Rattle.lx_tnfa.specs.declared.states.Event.{Event}

-- where no rule has begun
abbrev pub start_place : Place
start_place = record { part = 0; rest = numbered 0 }

-- a place in a leaf: any but the start
abbrev pub IsInLeaf : Tnfa → Place → Type 0
IsInLeaf tnfa place = IsPlace tnfa place × (0 < place.part)

-- from the place with this index in a list, by a walk with these tag events and over a unit, to a place
pub record Step : Type 0 where
  pub from : ℕ
  pub events : List Event
  pub to : Place

abbrev pub step_to : Tnfa → (unit : ℕ) → Reach → Target → Option Step
step_to tnfa unit reach (Leaf place) =
    option_map (λ (to : Place). record { from = reach.from; events = reach.events; to = to }) (place_after tnfa place unit)
step_to tnfa unit reach (End rule) = None

-- how a target goes on over a unit, if it does
abbrev pub step_on : Tnfa → (unit : ℕ) → Reach → Option Step
step_on tnfa unit reach = step_to tnfa unit reach reach.to

abbrev pub is_place : (place other : Place) → Bool
is_place place other = nat_eq place.part other.part && nat_eq place.rest.0 other.rest.0

-- the place is on the list
abbrev pub is_among : List Place → (place : Place) → Bool
is_among [] place = false
is_among (other ∷ others) place = is_place other place || is_among others place

-- the first step to each place that was not seen
abbrev pub first_steps : (seen : List Place) → List Step → List Step
first_steps seen [] = []
first_steps seen (step ∷ steps) =
    if is_among seen step.to then first_steps seen steps else step ∷ first_steps (step.to ∷ seen) steps

-- the steps over a unit: for each place the first that leads there, in the order of the targets
abbrev pub next_steps : Tnfa → (unit : ℕ) → List Reach → List Step
next_steps tnfa unit reaches = first_steps [] (filter_map (step_on tnfa unit) reaches)

-- one more index, where a step leads to a place that was not seen
abbrev pub index_if : Option Step → (seen : List Place) → (index : ℕ) → (others : List Place → List ℕ) → List ℕ
index_if None seen index others = others seen
index_if (Some step) seen index others = if is_among seen step.to then others seen else index ∷ others (step.to ∷ seen)

-- the indices of the targets by which the first steps are to places that were not seen, where the first target has this index
abbrev pub indices_from : Tnfa → (unit : ℕ) → (seen : List Place) → (index : ℕ) → List Reach → List ℕ
indices_from tnfa unit seen index [] = []
indices_from tnfa unit seen index (reach ∷ reaches) =
    index_if (step_on tnfa unit reach) seen index (λ seen. indices_from tnfa unit seen (suc index) reaches)

-- the indices of the targets by which the steps over a unit are
abbrev pub step_indices : Tnfa → (unit : ℕ) → List Reach → List ℕ
step_indices tnfa unit reaches = indices_from tnfa unit [] 0 reaches

-- the places to which they lead
abbrev pub places_of : List Step → List Place
places_of steps = map (λ (step : Step). step.to) steps

-- the end of the rule with this number, from the place with this index, by a walk with these tag events
pub record Ending : Type 0 where
  pub rule : ℕ
  pub from : ℕ
  pub events : List Event

abbrev pub ending_at : Reach → Target → (others : Option Ending) → Option Ending
ending_at reach (Leaf place) others = others
ending_at reach (End rule) others = Some (record { rule = rule; from = reach.from; events = reach.events })

-- the first end among the targets
abbrev pub first_ending : List Reach → Option Ending
first_ending [] = None
first_ending (reach ∷ reaches) = ending_at reach reach.to (first_ending reaches)

-- lists of places that are found from the start, over units up to the greatest
pub data IsFound (tnfa : Tnfa) (greatest : ℕ) : List Place → Type 0 where
  at_start : IsFound tnfa greatest (start_place ∷ [])
  onward : (kernel : List Place) (reaches : List Reach) (unit : ℕ) (step : Step) (others : List Step)
      → IsFound tnfa greatest kernel → IsClosureOf tnfa kernel reaches → unit ≤ greatest
      → next_steps tnfa unit reaches ≡ step ∷ others → IsFound tnfa greatest (places_of (step ∷ others))
