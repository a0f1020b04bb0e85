-- The moves of the program's states lead along the graph of the automaton.
use Rattle.std.proofs.Common.{sym, ap, ◌∙◌}
use Rattle.std.specs.Prelude.{◌≡◌, ℕ, zero, suc, List, [], ◌∷◌, map, refl}
use Rattle.lx_regex.specs.Automaton as spec
use Rattle.lx_regex.specs.Automaton.{leaf, move, moves, target, unit_leaf}
use Rattle.lx_tnfa.specs.DepthFirst.{successors}
use Rattle.lx_tnfa.specs.Live.{state_of}
use Rattle.lx_tnfa.specs.Moves.{moves_in, shown_move}
use Rattle.lx_tnfa.specs.Rows.{RepresentEach, Represents}
use Rattle.lx_tnfa.specs.declared.classes.ClassGraph.{ClassGraph}
use Rattle.lx_tnfa.specs.declared.states.Move.{Move}
use Rattle.lx_tnfa.specs.declared.states.State.{State}
use Rattle.lx_tnfa.specs.declared.states.State.TheVariants.{AnyUnit, Class, Moves}
use Rattle.lx_tdfa.specs.Graph.{graph_of, targets}

abbrev pub leads : List Move → List ℕ
leads ways = map (λ (way : Move). way.to) ways

shown_leads : (ways : List spec.Move) → map target ways ≡ leads (map shown_move ways)
shown_leads [] = refl
shown_leads (move picked set unset to ∷ ways) = ap (λ l. to ∷ l) (shown_leads ways)

targets_held : (classes : List ClassGraph) (row : spec.State) (state : State) → Represents classes row state
    → targets row ≡ leads (moves_in state)
targets_held classes (moves ways) (Moves held) h = shown_leads ways ∙ ap leads (sym h)
targets_held classes (moves ways) (Class number) h = absurd h
targets_held classes (moves ways) AnyUnit h = absurd h
targets_held classes (leaf ranges) (Moves held) h = absurd h
targets_held classes (leaf ranges) (Class number) h = refl
targets_held classes (leaf ranges) AnyUnit h = absurd h
targets_held classes unit_leaf (Moves held) h = absurd h
targets_held classes unit_leaf (Class number) h = absurd h
targets_held classes unit_leaf AnyUnit h = refl

pub successors_held : (classes : List ClassGraph) (rows : List spec.State) (states : List State) (number : ℕ)
    → RepresentEach classes rows states → successors (graph_of rows) number ≡ leads (moves_in (state_of states number))
successors_held classes [] [] number h = refl
successors_held classes [] (state ∷ states) number h = absurd h
successors_held classes (row ∷ rows) [] number h = absurd h
successors_held classes (row ∷ rows) (state ∷ states) zero h = targets_held classes row state h.0
successors_held classes (row ∷ rows) (state ∷ states) (suc number) h = successors_held classes rows states number h.1
