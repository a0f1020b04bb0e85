-- What the program holds of moves.
use Rattle.std.specs.Prelude.{ℕ, ◌+◌, ◌-◌, ◌*◌, min, List, [], ◌++◌, map, nat_eq, nat_le, Option, if◌then◌else◌}
use Rattle.lx_regex.specs.Automaton as spec
use Rattle.lx_regex.specs.Automaton.{iteration_moves, move}
use Rattle.lx_regex.specs.Script.{may_iterate}
use Rattle.lx_regex.specs.Term.{Term, copies, parts}
use Rattle.lx_tnfa.specs.declared.states.Event.TheVariants.{Set, Unset}
use Rattle.lx_tnfa.specs.declared.states.Move.{Move}
use Rattle.lx_tnfa.specs.declared.states.Repeat.{Repeat}
use Rattle.lx_tnfa.specs.declared.states.State.{State}
use Rattle.lx_tnfa.specs.declared.states.State.TheVariants.{AnyUnit, Class, Moves}

-- a move, with its events in order; its choice is its place among the moves of its state
abbrev pub shown_move : spec.Move → Move
shown_move (move picked set unset to) = record { to = to; events = map Set set ++ map Unset unset }

-- the moves of a state; a leaf has none
abbrev pub moves_in : State → List Move
moves_in (Moves ways) = ways
moves_in (Class number) = []
moves_in AnyUnit = []

-- the moves of a repetition after so many iterations, where stopping unsets these tags
abbrev pub sized_moves : Repeat → (done : ℕ) → (unset : List ℕ) → List spec.Move
sized_moves repeat done unset =
    iteration_moves (may_iterate done repeat.high) (nat_le repeat.low done) unset
    (2 * (repeat.part + 1 + min done (copies repeat.low repeat.high - 1) * repeat.size)) (2 * repeat.part + 1)

-- the size of a body that counts: none, where there is no copy of it
abbrev pub counted_size : (low : ℕ) → (high : Option ℕ) → Term → ℕ
counted_size low high body = if nat_eq (copies low high) 0 then 0 else parts body
