-- The values of a tag that are kept beside the places of a kernel, unit by unit.
use Rattle.std.specs.Prelude.{ℕ, zero, suc, List, [], ◌∷◌, ◌++◌, map, length, reverse, Option, None}
use Rattle.lx_regex.specs.Automaton.{automaton}
use Rattle.lx_regex.specs.Script.{Symbol}
use Rattle.lx_regex.specs.Term.{Term}
use Rattle.lx_regex.specs.Values.{all_events, last_event}
use Rattle.lx_tnfa.specs.PlaceNumbers.{numbers_after, symbols_added}
use Rattle.lx_tnfa.specs.Tnfa.{Tnfa}
use Rattle.lx_tdfa.specs.Graph.{graph_of, rule_starts}
use Rattle.lx_tdfa.specs.Kernels.{Candidate, Entry, Key, entry_at, kernel_list, next_candidates, places, segment_symbols}

abbrev pub value_at : {X : Type 0} → (none : X) → List X → (index : ℕ) → X
value_at none [] index = none
value_at none (value ∷ values) zero = value
value_at none (value ∷ values) (suc index) = value_at none values index

-- `none` is the value before all events, and `act` gives the one behind symbols that begin at an offset, from the one before.
module _ (X : Type 0) (none : X) (act : (here : ℕ) → X → List Symbol → X) where
  module _ (graph : List (List ℕ)) (after : ℕ → ℕ → List ℕ) (said : ℕ → ℕ → Key → List Symbol) (starts : List ℕ) where
    -- the values behind a unit: each comes from the place from which its candidate does, and from the symbols of the segment
    abbrev pub values_on : (here : ℕ) → List Entry → (before : List X) → (unit : ℕ) → List Candidate → List X
    values_on here entries before unit [] = []
    values_on here entries before unit (candidate ∷ others) =
        act here (value_at none before candidate.from) (said (entry_at entries candidate.from).place unit candidate.key)
        ∷ values_on here entries before unit others

    -- the values beside the kernel of a word, whose last unit comes first
    abbrev pub values_beside : List ℕ → List X
    values_beside [] = map (λ entry. none) (kernel_list graph after said starts [])
    values_beside (unit ∷ units) =
        values_on (length units) (kernel_list graph after said starts units) (values_beside units) unit
        (next_candidates graph after said starts (places (kernel_list graph after said starts units)) unit)

-- the last events of a tag, beside the list after a word
abbrev pub last_values_after : Tnfa → List Term → (word : List ℕ) → (tag : ℕ) → List (Option ℕ)
last_values_after tnfa rules word tag =
    values_beside (Option ℕ) None (λ here value symbols. last_event tag here value symbols) (graph_of (automaton rules))
    (numbers_after tnfa) (segment_symbols rules (symbols_added tnfa)) (rule_starts rules) (reverse word)

-- all events of a tag, beside the list after a word
abbrev pub all_values_after : Tnfa → List Term → (word : List ℕ) → (tag : ℕ) → List (List (Option ℕ))
all_values_after tnfa rules word tag =
    values_beside (List (Option ℕ)) [] (λ here value symbols. value ++ all_events tag here symbols) (graph_of (automaton rules))
    (numbers_after tnfa) (segment_symbols rules (symbols_added tnfa)) (rule_starts rules) (reverse word)
