-- The start of an automaton is a place.
use Rattle.std.proofs.Common.{◌≡◌, ℕ, ◌<◌, List, [], ◌∷◌, length, arith, refl}
use Rattle.std.specs.Prelude.{Result, Ok, Err, IfOk}
use Rattle.lx_base.specs.declared.settings.Enc.{Enc}
use Rattle.lx_encode.specs.Graph.{numbered}
use Rattle.lx_regex.specs.Automaton as spec
use Rattle.lx_regex.specs.Automaton.{moves, rules_table}
use Rattle.lx_regex.specs.Pattern.{Pattern, terms_of}
use Rattle.lx_tnfa.specs.Live.{state_of}
use Rattle.lx_tnfa.specs.Rows.{RepresentEach, Represents}
use Rattle.lx_tnfa.specs.Tnfa.{Tnfa, IsPlace, IsRest, IsTnfaOf}
use Rattle.lx_tnfa.specs.declared.classes.ClassGraph.{ClassGraph}
use Rattle.lx_tnfa.specs.declared.states.State.{State}
use Rattle.lx_tnfa.specs.declared.states.State.TheVariants as held

first_rest : (classes : List ClassGraph) (state : State) → Represents classes (moves []) state → IsRest classes state 0 0
first_rest classes (held.Moves ways) h = (refl, refl)
first_rest classes (held.Class number) h = absurd h
first_rest classes held.AnyUnit h = absurd h

first_state : (classes : List ClassGraph) (rows : List spec.State) (states : List State) → RepresentEach classes (moves [] ∷ rows) states
    → (0 < length states) × IsRest classes (state_of states 0) 0 0
first_state classes rows [] h = absurd h
first_state classes rows (state ∷ states) h = (omega arith, first_rest classes state h.0)

-- the start is a place of every automaton
pub start_is_place : (enc : Enc) (patterns : List Pattern) (tnfa : Tnfa) → IsTnfaOf enc patterns tnfa
    → IsPlace tnfa (record { part = 0; rest = numbered 0 })
start_is_place enc patterns tnfa is =
    let at = first_state tnfa.classes (moves [] ∷ rules_table (terms_of patterns) 1) tnfa.states is.states in record { part = at.0; rest = at.1 }

-- the same of what may be an automaton
pub start_of_result : {E : Type 0} (enc : Enc) (patterns : List Pattern) (result : Result Tnfa E) → IfOk result (IsTnfaOf enc patterns)
    → IfOk result (λ t. IsPlace t (record { part = 0; rest = numbered 0 }))
start_of_result enc patterns (Ok t) is = start_is_place enc patterns t is
start_of_result enc patterns (Err e) is = tt
