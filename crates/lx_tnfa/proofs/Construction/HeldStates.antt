-- The states of the program, one by one.
use Rattle.std.proofs.Common.{◌≡◌, ℕ, zero, suc, List, [], ◌∷◌, map, ap, subst, Some}
use Rattle.std.specs.Prelude.{slice_get}
use Rattle.lx_base.specs.declared.settings.Enc.{Enc}
use Rattle.lx_regex.specs.Automaton as spec
use Rattle.lx_regex.specs.Automaton.{automaton, moves}
use Rattle.lx_regex.specs.Pattern.{Pattern, terms_of}
use Rattle.lx_tnfa.specs.Live.{state_of}
use Rattle.lx_tnfa.specs.Moves.{shown_move}
use Rattle.lx_tnfa.specs.Rows.{RepresentEach, Represents}
use Rattle.lx_tnfa.specs.Tnfa.{IsTnfaOf, Tnfa}
use Rattle.lx_tnfa.specs.declared.classes.ClassGraph.{ClassGraph}
use Rattle.lx_tnfa.specs.declared.states.State.{State}
use Rattle.lx_tnfa.specs.declared.states.State.TheVariants as held

pub held_at : (classes : List ClassGraph) (rows : List spec.State) (states : List State) (number : ℕ) (row : spec.State) → RepresentEach classes rows states
    → slice_get rows number ≡ Some row → Represents classes row (state_of states number)
held_at classes [] states number row h e = cc
held_at classes (first ∷ rows) [] number row h e = absurd h
held_at classes (first ∷ rows) (state ∷ states) zero row h e =
    let same : first ≡ row = cc in subst (λ r. Represents classes r state) same h.0
held_at classes (first ∷ rows) (state ∷ states) (suc number) row h e = held_at classes rows states number row h.1 e

pub held_moves : (classes : List ClassGraph) (ways : List spec.Move) (state : State) → Represents classes (moves ways) state
    → state ≡ held.Moves (map shown_move ways)
held_moves classes ways (held.Moves others) h = ap held.Moves h
held_moves classes ways (held.Class number) h = absurd h
held_moves classes ways held.AnyUnit h = absurd h

-- a state of the automaton has the same moves in the program
pub moves_same : (enc : Enc) (patterns : List Pattern) (tnfa : Tnfa) (number : ℕ) (ways : List spec.Move) → IsTnfaOf enc patterns tnfa
    → slice_get (automaton (terms_of patterns)) number ≡ Some (moves ways) → state_of tnfa.states number ≡ held.Moves (map shown_move ways)
moves_same enc patterns tnfa number ways is at =
    held_moves tnfa.classes ways (state_of tnfa.states number)
    (held_at tnfa.classes (automaton (terms_of patterns)) tnfa.states number (moves ways) is.states at)
