-- The tag events on a way are those of the symbols of its path.
use Rattle.std.proofs.Common.{sym, ap, ap₂, ◌∙◌, append_assoc}
use Rattle.std.specs.Prelude.{◌≡◌, ℕ, zero, suc, List, [], ◌∷◌, ◌++◌, map, slice_index_or, refl}
use Rattle.lx_regex.specs.Automaton as spec
use Rattle.lx_regex.specs.Automaton.{label, leaf, move, moves, target, unit_leaf}
use Rattle.lx_regex.specs.Script.{Symbol}
use Rattle.lx_tnfa.specs.Live.{state_of}
use Rattle.lx_tnfa.specs.Moves.{moves_in, shown_move}
use Rattle.lx_tnfa.specs.Rows.{RepresentEach, Represents}
use Rattle.lx_tnfa.specs.Tnfa.{Tnfa}
use Rattle.lx_tnfa.specs.declared.classes.ClassGraph.{ClassGraph}
use Rattle.lx_tnfa.specs.declared.states.Event.{Event}
use Rattle.lx_tnfa.specs.declared.states.Move.{Move}
use Rattle.lx_tnfa.specs.declared.states.State.{State}
use Rattle.lx_tnfa.specs.declared.states.State.TheVariants.{AnyUnit, Class, Moves}
use Rattle.lx_tdfa.specs.Graph.{move_at, moves_at, moves_of_state, nth_move, path_symbols}
use Rattle.lx_tdfa.proofs.Walks.ClosureSearches.{events_of}
use Rattle.lx_tdfa.proofs.Walks.StopSteps.{events_append, events_label, events_mark}
use Rattle.lx_posix.specs.Reaching.{events_on, move_of}

-- the moves of the program's states are those of the automaton
moves_of_held : (classes : List ClassGraph) (row : spec.State) (state : State) → Represents classes row state
    → moves_in state ≡ map shown_move (moves_of_state row)
moves_of_held classes (moves ways) (Moves held) h = h
moves_of_held classes (moves ways) (Class number) h = absurd h
moves_of_held classes (moves ways) AnyUnit h = absurd h
moves_of_held classes (leaf ranges) (Moves held) h = absurd h
moves_of_held classes (leaf ranges) (Class number) h = refl
moves_of_held classes (leaf ranges) AnyUnit h = absurd h
moves_of_held classes unit_leaf (Moves held) h = absurd h
moves_of_held classes unit_leaf (Class number) h = absurd h
moves_of_held classes unit_leaf AnyUnit h = refl

moves_held : (classes : List ClassGraph) (rows : List spec.State) (states : List State) (number : ℕ) → RepresentEach classes rows states
    → moves_in (state_of states number) ≡ map shown_move (moves_at rows number)
moves_held classes [] [] number h = refl
moves_held classes [] (state ∷ states) number h = absurd h
moves_held classes (row ∷ rows) [] number h = absurd h
moves_held classes (row ∷ rows) (state ∷ states) zero h = moves_of_held classes row state h.0
moves_held classes (row ∷ rows) (state ∷ states) (suc number) h = moves_held classes rows states number h.1

nth_shown : (ways : List spec.Move) (index : ℕ)
    → slice_index_or (map shown_move ways) index (record { to = 0; events = [] }) ≡ shown_move (nth_move ways index)
nth_shown [] index = refl
nth_shown (way ∷ ways) zero = refl
nth_shown (way ∷ ways) (suc index) = nth_shown ways index

shown_to : (way : spec.Move) → (shown_move way).to ≡ target way
shown_to (move picked set unset to) = refl

module _ (tnfa : Tnfa) (states : List spec.State) (held : RepresentEach tnfa.classes states tnfa.states) where
  move_of-held : (state index : ℕ) → move_of tnfa state index ≡ shown_move (move_at states state index)
  move_of-held state index =
      ap (λ l. slice_index_or l index (record { to = 0; events = [] })) (moves_held tnfa.classes states tnfa.states state held)
      ∙ nth_shown (moves_at states state) index

  pub path_events : (state : ℕ) (way : List ℕ) (tail : List Symbol)
      → events_of (path_symbols states state way tail) ≡ events_on tnfa state way ++ events_of tail
  path_events state [] tail = refl
  path_events state (index ∷ way) tail =
      let way_to = move_at states state index in
      let next = target way_to in
      let same = move_of-held state index in
      let to : next ≡ (move_of tnfa state index).to = sym (ap (λ (m : Move). m.to) same ∙ shown_to way_to) in
      events_mark state (label way_to ++ path_symbols states next way tail)
      ∙ events_append (label way_to) (path_symbols states next way tail)
      ∙ ap₂ (λ (a : List Event) (b : List Event). a ++ b) (events_label way_to ∙ ap (λ (m : Move). m.events) (sym same))
      (path_events next way tail ∙ ap (λ n. events_on tnfa n way ++ events_of tail) to)
      ∙ sym (append_assoc (move_of tnfa state index).events (events_on tnfa (move_of tnfa state index).to way) (events_of tail))
