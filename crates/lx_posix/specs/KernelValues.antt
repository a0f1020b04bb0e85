-- The values of a tag that are kept beside the places of a kernel under the POSIX order, unit by unit.
use Rattle.std.specs.Prelude.{ℕ, List, [], ◌∷◌, ◌++◌, map, length, reverse, Option, None}
use Rattle.lx_regex.specs.Automaton.{automaton}
use Rattle.lx_regex.specs.Script.{Symbol}
use Rattle.lx_regex.specs.Term.{Term}
use Rattle.lx_regex.specs.Values.{all_events, last_event}
use Rattle.lx_tnfa.specs.PlaceNumbers.{numbers_after, symbols_added}
use Rattle.lx_tnfa.specs.Tnfa.{Tnfa}
use Rattle.lx_tdfa.specs.Graph.{graph_of, rule_starts}
use Rattle.lx_tdfa.specs.Kernels.{Key, segment_symbols}
use Rattle.lx_tdfa.specs.Values.{values_on}
use Rattle.lx_posix.specs.KernelLists.{entry_list, first_segments, rank_list}

-- `none` is the value before all events, and `act` gives the one behind symbols that begin at an offset, from the one before.
module _ (X : Type 0) (none : X) (act : (here : ℕ) → X → List Symbol → X) where
  module _ (graph : List (List ℕ)) (after : ℕ → ℕ → List ℕ) (said : ℕ → ℕ → Key → List Symbol) (starts : List ℕ) where
    -- the values beside the kernel of a word, whose last unit comes first
    abbrev pub values_beside : List ℕ → List X
    values_beside [] = map (λ entry. none) (entry_list graph after said starts [])
    values_beside (unit ∷ units) =
        values_on X none act graph after said starts (length units) (entry_list graph after said starts units) (values_beside units)
        unit (first_segments graph after said starts (rank_list graph after said starts units) unit)

-- the last events of a tag, beside the list after a word
abbrev pub posix_last_values_after : Tnfa → List Term → (word : List ℕ) → (tag : ℕ) → List (Option ℕ)
posix_last_values_after tnfa rules word tag =
    values_beside (Option ℕ) None (λ here value symbols. last_event tag here value symbols) (graph_of (automaton rules))
    (numbers_after tnfa) (segment_symbols rules (symbols_added tnfa)) (rule_starts rules) (reverse word)

-- all events of a tag, beside the list after a word
abbrev pub posix_all_values_after : Tnfa → List Term → (word : List ℕ) → (tag : ℕ) → List (List (Option ℕ))
posix_all_values_after tnfa rules word tag =
    values_beside (List (Option ℕ)) [] (λ here value symbols. value ++ all_events tag here symbols) (graph_of (automaton rules))
    (numbers_after tnfa) (segment_symbols rules (symbols_added tnfa)) (rule_starts rules) (reverse word)
