-- The ways that the code finds are paths of the automaton.
use Rattle.std.proofs.Common.{sym, ap, ◌∙◌, subst}
use Rattle.std.specs.Prelude.{◌≡◌, ℕ, List, [], ◌∷◌}
use Rattle.lx_base.specs.declared.settings.Enc.{Enc}
use Rattle.lx_regex.specs.Automaton.{automaton}
use Rattle.lx_regex.specs.Pattern.{Pattern, terms_of}
use Rattle.lx_tnfa.specs.DepthFirst.{successors}
use Rattle.lx_tnfa.specs.LeafReadings.{IsNth}
use Rattle.lx_tnfa.specs.Live.{state_of}
use Rattle.lx_tnfa.specs.Moves.{moves_in}
use Rattle.lx_tnfa.specs.Tnfa.{IsTnfaOf, Tnfa}
use Rattle.lx_tnfa.specs.declared.states.Move.{Move}
use Rattle.lx_tnfa.proofs.Construction.NthLists.{nth_map}
use Rattle.lx_tdfa.specs.Graph.{graph_of, path_end}
use Rattle.lx_tdfa.proofs.Walks.StatePaths.{at_move}
use Rattle.lx_tdfa.proofs.WordKernels.OrderedLists.{nth_at_zero}
use Rattle.lx_posix.specs.Finding.{IsWay}
use Rattle.lx_posix.proofs.CodeSearch.HeldMoves.{successors_held}

module _ (enc : Enc) (patterns : List Pattern) (tnfa : Tnfa) (of : IsTnfaOf enc patterns tnfa) where
  -- a move of the program leads along an edge of the graph
  pub move_edge : (state index : ℕ) (way : Move) → IsNth (moves_in (state_of tnfa.states state)) index way
      → IsNth (successors (graph_of (automaton (terms_of patterns))) state) index way.to
  move_edge state index way nth =
      subst (λ l. IsNth l index way.to) (sym (successors_held tnfa.classes (automaton (terms_of patterns)) tnfa.states state of.states))
      (nth_map (λ (way : Move). way.to) (moves_in (state_of tnfa.states state)) index way nth)

  -- a way ends where the path of the automaton by its moves does
  pub way_end : (state : ℕ) (way : List ℕ) (to : ℕ) → IsWay tnfa state way to → path_end (automaton (terms_of patterns)) state way ≡ to
  way_end state [] to w = w
  way_end state (index ∷ way) to w =
      let states = automaton (terms_of patterns) in
      let edge = move_edge state index w.0 w.1 in
      let move = at_move states state index w.0.to (nth_at_zero (successors (graph_of states) state) index w.0.to edge) in
      ap (λ next. path_end states next way) move.2 ∙ way_end w.0.to way to w.2
