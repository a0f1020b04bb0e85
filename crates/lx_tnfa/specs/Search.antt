-- The stops that wait in a search, and the trail of tag events.
use Rattle.std.specs.Prelude.{◌≡◌, ℕ, zero, suc, ◌/◌, List, [], ◌∷◌, ◌++◌, map, take, Option, Some, None, Bool, true, false, Contains, ◌⊎◌, slice_index, slice_index_or}
use Rattle.lx_encode.specs.Graph.{numbered}
use Rattle.lx_tnfa.specs.Closure.{IsDead, Waiting, leaf_step, stop_at}
use Rattle.lx_tnfa.specs.Live.{starts_at, state_of}
use Rattle.lx_tnfa.specs.Tnfa.{Tnfa}
use Rattle.lx_tnfa.specs.declared.classes.ClassGraph.{ClassGraph}
use Rattle.lx_tnfa.specs.declared.closure.Stop.{Stop}
use Rattle.lx_tnfa.specs.declared.closure.Stop.TheVariants.{AtState}
use Rattle.lx_tnfa.specs.declared.search.Branch.{Branch}
use Rattle.lx_tnfa.specs.declared.search.Entry.{Entry}
use Rattle.lx_tnfa.specs.declared.search.Way.{Way}
use Rattle.lx_tnfa.specs.declared.states.Event.{Event}
use Rattle.lx_tnfa.specs.declared.states.Move.{Move}
use Rattle.lx_tnfa.specs.declared.states.State.{State}
use Rattle.lx_tnfa.specs.declared.states.State.TheVariants.{Moves, Class, AnyUnit}

-- the events of a move of the state
abbrev pub move_events : State → (index : ℕ) → List Event
move_events (Moves ways) index = slice_index_or (map (λ (way : Move). way.events) ways) index []
move_events (Class number) index = []
move_events AnyUnit index = []

-- the events on the way, if there is a move
abbrev pub way_events : List State → Option Way → List Event
way_events states None = []
way_events states (Some way) = move_events (state_of states way.state) way.index

-- the trail at a stop that waits
abbrev pub trail_to : List State → (trail : List Event) → Entry → List Event
trail_to states trail entry = take entry.depth trail ++ way_events states entry.way

-- the entry of a stop one step on
abbrev pub entry_to : Branch → Option Way → Stop → Entry
entry_to branch way stop = record { stop = stop; depth = branch.depth; way = way; from = branch.from }

-- the entry of a stop at which a walk begins
abbrev pub first_entry : Waiting → Entry
first_entry waiting = record { stop = waiting.stop; depth = 0; way = None; from = waiting.from }

-- the entries of moves, of which the first has this place
abbrev pub move_entries : Branch → (rule index : ℕ) → List Move → List Entry
move_entries branch rule index [] = []
move_entries branch rule index (way ∷ ways) =
    entry_to branch (Some (record { state = branch.state; index = index })) (stop_at rule way.to) ∷ move_entries branch rule (suc index) ways

-- the entries of the steps from a state of a rule, in order
abbrev pub entries_of : List ClassGraph → Branch → (rule part : ℕ) → State → List Entry
entries_of classes branch rule part (Moves ways) = move_entries branch rule 0 ways
entries_of classes branch rule part (Class number) = map (λ start. entry_to branch None (leaf_step part start).to) (starts_at classes number)
entries_of classes branch rule part AnyUnit = entry_to branch None (leaf_step part (numbered 1)).to ∷ []

-- the entries of the steps from the state with this number
abbrev pub entries_at : Tnfa → Branch → (number : ℕ) → State → List Entry
entries_at tnfa branch zero state = map (λ begin. entry_to branch None (AtState begin)) tnfa.begins
entries_at tnfa branch (suc number) state =
    entries_of tnfa.classes branch (slice_index tnfa.owners (suc number / 2)) (suc number / 2) state

-- whether a stop is entered: an end can be reached from it, and it was not visited before; then it is visited now
abbrev pub Enters : Tnfa → Stop → (old new : List Stop) → Bool → Type 0
Enters tnfa stop old new true = ¬ IsDead tnfa stop × ¬ Contains old stop × (new ≡ old ++ stop ∷ [])
Enters tnfa stop old new false = (IsDead tnfa stop ⊎ Contains old stop) × (new ≡ old)
