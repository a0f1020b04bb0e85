-- Operations that do nothing, and how many operations there are.
use Rattle.std.specs.Prelude.{ℕ, ◌+◌, List, [], ◌∷◌, length, Option, Some, None, Bool, false, ◌||◌}
use Rattle.std.specs.List.{list_any}
use Rattle.lx_auto.specs.declared.automaton.Accept.{Accept}
use Rattle.lx_auto.specs.declared.automaton.Edge.{Edge}
use Rattle.lx_auto.specs.declared.automaton.State.{State}
use Rattle.lx_auto.specs.declared.ops.Op.{Op}
use Rattle.lx_auto.specs.Effects.{copies_itself, is_overwritten}

-- a later operation of the list takes away what this one did, or it copies a register to itself
abbrev pub is_idle : Op → (later : List Op) → Bool
is_idle op later = is_overwritten op later || copies_itself op

-- ---- whether some operation copies a register to itself

-- of an edge
abbrev pub some_itself : Edge → Bool
some_itself edge = list_any copies_itself edge.ops

-- of what is accepted, if something is
abbrev pub some_itself_by : Option Accept → Bool
some_itself_by None = false
some_itself_by (Some accept) = list_any copies_itself accept.ops

-- of a state and its edges
abbrev pub some_itself_at : State → Bool
some_itself_at state = list_any copies_itself state.leave || (some_itself_by state.accept || list_any some_itself state.edges)

-- ---- how many operations there are

-- on edges
abbrev pub count_on : List Edge → ℕ
count_on [] = 0
count_on (edge ∷ edges) = length edge.ops + count_on edges

-- of what is accepted, if something is
abbrev pub count_by : Option Accept → ℕ
count_by None = 0
count_by (Some accept) = length accept.ops

-- of a state and its edges
abbrev pub count_at : State → ℕ
count_at state = length state.leave + (count_by state.accept + count_on state.edges)

-- of states
abbrev pub count_in : List State → ℕ
count_in [] = 0
count_in (state ∷ states) = count_at state + count_in states
