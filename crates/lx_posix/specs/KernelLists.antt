-- The kernels of words under the POSIX order as lists that are computed unit by unit, each from places and numbers alone.
use Rattle.std.specs.Prelude.{ℕ, suc, List, [], ◌∷◌, map, reverse, Bool, if◌then◌else◌}
use Rattle.lx_regex.specs.Automaton.{automaton}
use Rattle.lx_regex.specs.Script.{Symbol}
use Rattle.lx_regex.specs.Term.{Term}
use Rattle.lx_tnfa.specs.PlaceNumbers.{numbers_after, symbols_added}
use Rattle.lx_tnfa.specs.Tnfa.{Tnfa}
use Rattle.lx_tdfa.specs.Graph.{graph_of, rule_starts}
use Rattle.lx_tdfa.specs.Kernels.{Candidate, Entry, Key, candidates, entries, first_entries, first_of_each, segment_symbols}
use Rattle.lx_posix.specs.Comparing.{Comparison, Ranked, compared, ranked_at}
use Rattle.lx_posix.specs.Paths.{paths_from}
use Rattle.lx_posix.specs.Walks.{depth}

-- one more put into a list in order
abbrev pub put_in_order : {A : Type 0} → (is_first : A → A → Bool) → A → List A → List A
put_in_order is_first one [] = one ∷ []
put_in_order is_first one (other ∷ others) =
    if is_first one other then one ∷ other ∷ others else other ∷ put_in_order is_first one others

-- a list in order
abbrev pub in_order : {A : Type 0} → (is_first : A → A → Bool) → List A → List A
in_order is_first [] = []
in_order is_first (one ∷ others) = put_in_order is_first one (in_order is_first others)

-- the numbers of the places
abbrev pub places_of : List Ranked → List ℕ
places_of ranks = map (λ (ranked : Ranked). ranked.place) ranks

-- the rules at their beginnings, of which the first has this number
abbrev pub first_ranks : (rule : ℕ) → (starts : List ℕ) → List Ranked
first_ranks rule [] = []
first_ranks rule (start ∷ starts) = record { rule = rule; place = start; depth = 0; number = 0 } ∷ first_ranks (suc rule) starts

-- `graph` has the moves in order, `after` lists the places after a state or place and a unit, in order, `said` are the symbols
-- of a segment from a place over a unit, and at `starts` the runs begin.
module _ (graph : List (List ℕ)) (after : ℕ → ℕ → List ℕ) (said : ℕ → ℕ → Key → List Symbol) (starts : List ℕ) where
  -- the symbols of a segment over a unit from one of some places
  abbrev pub walk_of : List Ranked → (unit : ℕ) → Candidate → List Symbol
  walk_of ranks unit candidate = said (ranked_at ranks candidate.from).place unit candidate.key

  abbrev pub comparison_of : List Ranked → (unit : ℕ) → Candidate → Candidate → Comparison
  comparison_of ranks unit candidate other =
      compared ranks candidate.from (walk_of ranks unit candidate) other.from (walk_of ranks unit other)

  -- all segments over a unit from some places
  abbrev pub all_segments : List Ranked → (unit : ℕ) → List Candidate
  all_segments ranks unit = candidates (λ state. after state unit) (paths_from graph (places_of ranks))

  -- for each place the first that leads there, in order
  abbrev pub first_segments : List Ranked → (unit : ℕ) → List Candidate
  first_segments ranks unit =
      first_of_each [] (in_order (λ candidate other. (comparison_of ranks unit candidate other).is_first) (all_segments ranks unit))

  -- what is kept of the place to which a segment leads
  abbrev pub ranked_of : List Ranked → (unit : ℕ) → Candidate → (number : ℕ) → Ranked
  ranked_of ranks unit candidate number = record {
    rule = (ranked_at ranks candidate.from).rule;
    place = candidate.to;
    depth = depth (ranked_at ranks candidate.from).depth (walk_of ranks unit candidate);
    number = number;
  }

  -- the same of segments behind one
  abbrev pub ranks_behind : List Ranked → (unit : ℕ) → (last : Candidate) → List Candidate → List Ranked
  ranks_behind ranks unit last [] = []
  ranks_behind ranks unit last (candidate ∷ others) =
      ranked_of ranks unit candidate (comparison_of ranks unit last candidate).number ∷ ranks_behind ranks unit candidate others

  abbrev pub ranks_to : List Ranked → (unit : ℕ) → List Candidate → List Ranked
  ranks_to ranks unit [] = []
  ranks_to ranks unit (candidate ∷ others) = ranked_of ranks unit candidate 0 ∷ ranks_behind ranks unit candidate others

  -- places and numbers after one more unit, by those before it
  abbrev pub rank_step : List Ranked → (unit : ℕ) → List Ranked
  rank_step ranks unit = ranks_to ranks unit (first_segments ranks unit)

  -- places and numbers after a word, whose last unit comes first
  abbrev pub rank_list : List ℕ → List Ranked
  rank_list [] = first_ranks 0 starts
  rank_list (unit ∷ units) = rank_step (rank_list units) unit

  -- the kernel of a word, whose last unit comes first
  abbrev pub entry_list : List ℕ → List Entry
  entry_list [] = first_entries 0 starts
  entry_list (unit ∷ units) =
      entries graph after said starts (entry_list units) unit (first_segments (rank_list units) unit)

-- places and numbers of the automaton of a rule list after a word
abbrev pub ranks_after : Tnfa → List Term → (word : List ℕ) → List Ranked
ranks_after tnfa rules word =
    rank_list (graph_of (automaton rules)) (numbers_after tnfa) (segment_symbols rules (symbols_added tnfa)) (rule_starts rules)
    (reverse word)

-- places and numbers after one more unit, by those before it
abbrev pub ranks_step : Tnfa → List Term → List Ranked → (unit : ℕ) → List Ranked
ranks_step tnfa rules ranks unit =
    rank_step (graph_of (automaton rules)) (numbers_after tnfa) (segment_symbols rules (symbols_added tnfa)) (rule_starts rules)
    ranks unit

-- the kernel after a word
abbrev pub posix_kernel_after : Tnfa → List Term → (word : List ℕ) → List Entry
posix_kernel_after tnfa rules word =
    entry_list (graph_of (automaton rules)) (numbers_after tnfa) (segment_symbols rules (symbols_added tnfa)) (rule_starts rules)
    (reverse word)

-- the first segments over a unit from places with numbers: where each place after it comes from, and by which walk
abbrev pub posix_segments : Tnfa → List Term → List Ranked → (unit : ℕ) → List Candidate
posix_segments tnfa rules ranks unit =
    first_segments (graph_of (automaton rules)) (numbers_after tnfa) (segment_symbols rules (symbols_added tnfa)) (rule_starts rules)
    ranks unit

-- a kernel gone on by segments over a unit
abbrev pub entries_by : Tnfa → List Term → List Entry → (unit : ℕ) → List Candidate → List Entry
entries_by tnfa rules before unit segments =
    entries (graph_of (automaton rules)) (numbers_after tnfa) (segment_symbols rules (symbols_added tnfa)) (rule_starts rules)
    before unit segments
