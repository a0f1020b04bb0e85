-- Walks over the states of an automaton as closures take them, until their first unit.
use Rattle.std.specs.Prelude.{◌≡◌, ℕ, suc, ◌<◌, ◌/◌, ◌⊎◌, List, [], ◌∷◌, ◌++◌, Some, slice_get, slice_index}
use Rattle.lx_base.specs.Spelling.{spell}
use Rattle.lx_base.specs.declared.settings.Enc.{Enc}
use Rattle.lx_regex.specs.Automaton as spec
use Rattle.lx_regex.specs.Walk.{IsAmong, first, next, Walk, stay, moved, at_point, at_unit}
use Rattle.lx_tnfa.specs.Closure.{beginning_of, steps_from}
use Rattle.lx_tnfa.specs.Moves.{shown_move}
use Rattle.lx_tnfa.specs.Tnfa.{FinishesPlace, Tnfa}
use Rattle.lx_tnfa.specs.declared.closure.Stop.TheVariants.{AtState, AtTarget}
use Rattle.lx_tnfa.specs.declared.closure.Target.{Target}
use Rattle.lx_tnfa.specs.declared.closure.Target.TheVariants.{End, Leaf}
use Rattle.lx_tnfa.specs.declared.places.Place.{Place}
use Rattle.lx_tnfa.specs.declared.states.Event.{Event}

-- the index of a move among some
abbrev pub index_among : {way : spec.Move} {ways : List spec.Move} → IsAmong way ways → ℕ
index_among first = 0
index_among (next among) = suc (index_among among)

-- the tag events of a walk until its first unit, in order
abbrev pub first_events : {states : List spec.State} {last state : ℕ} → Walk states last state → List Event
first_events stay = []
first_events (moved ways way stands among walk) = (shown_move way).events ++ first_events walk
first_events (at_point ranges number stands within walk) = []
first_events (at_unit number stands walk) = []

-- one choice leads from the leaf at this state to the target, where the leaf begins
abbrev pub IsLeafChoice : Tnfa → (state : ℕ) → (choices : List ℕ) → Target → Type 0
IsLeafChoice tnfa state choices to =
    (choice : ℕ) × (choices ≡ choice ∷ []) × (slice_get (steps_from tnfa (AtState state)) choice ≡ Some (record { to = AtTarget to; events = [] }))

-- Until its first unit a walk takes these choices, and then it is at this target: the choices of its moves, and one of those that
-- lead into the leaf of the unit; or those of all its moves, up to the end of the rule.
abbrev pub Takes : Tnfa → {states : List spec.State} {last : ℕ} → (rule : ℕ) → {state : ℕ} → Walk states last state → (choices : List ℕ) → Target → Type 0
Takes tnfa rule stay choices to = (choices ≡ []) × (to ≡ End rule)
Takes tnfa rule (moved {state} ways way stands among walk) choices to =
    (later : List ℕ) × (choices ≡ index_among among ∷ later) × Takes tnfa (slice_index tnfa.owners (state / 2)) walk later to
Takes tnfa rule (at_point {state} ranges number stands within walk) choices to = IsLeafChoice tnfa state choices to
Takes tnfa rule (at_unit {state} number stands walk) choices to = IsLeafChoice tnfa state choices to

-- what goes on from a place goes on from this state, behind these choices: at the start, that of a rule; and else none
abbrev pub GoesOnAt : Tnfa → Place → (choices : List ℕ) → (state : ℕ) → Type 0
GoesOnAt tnfa place choices state =
    ((beginning_of tnfa place ≡ AtState state) × (0 < state) × (choices ≡ []))
    ⊎ ((beginning_of tnfa place ≡ AtState 0) × ((choice : ℕ) × (choices ≡ choice ∷ []) × (slice_get tnfa.begins choice ≡ Some state)))

-- the units finish the leaf of the target
abbrev pub FinishesAt : Tnfa → Target → (units : List ℕ) → Type 0
FinishesAt tnfa (Leaf place) units = FinishesPlace tnfa place units
FinishesAt tnfa (End rule) units = ⊥

-- the units of the first code point that a walk reads, or its first unit, finish the leaf of the target
abbrev pub ReadsAt : Enc → Tnfa → {states : List spec.State} {last state : ℕ} → Walk states last state → Target → Type 0
ReadsAt enc tnfa stay to = Unit {0}
ReadsAt enc tnfa (moved ways way stands among walk) to = ReadsAt enc tnfa walk to
ReadsAt enc tnfa (at_point ranges number stands within walk) to = FinishesAt tnfa to (spell enc number)
ReadsAt enc tnfa (at_unit number stands walk) to = FinishesAt tnfa to (number ∷ [])
