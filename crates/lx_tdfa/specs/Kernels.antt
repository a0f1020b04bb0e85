-- The kernels of words as lists that are computed unit by unit: by an ordered search from the places of the kernel before.
use Rattle.std.specs.Prelude.{ℕ, zero, suc, List, [], ◌∷◌, ◌++◌, map, reverse}
use Rattle.lx_regex.specs.Automaton.{automaton}
use Rattle.lx_regex.specs.Cut.{Cut}
use Rattle.lx_regex.specs.Script.{Symbol}
use Rattle.lx_regex.specs.Term.{Term}
use Rattle.lx_tnfa.specs.PlaceNumbers.{numbers_after, symbols_added}
use Rattle.lx_tnfa.specs.Tnfa.{Tnfa}
use Rattle.lx_tnfa.specs.DepthFirst.{Found, decide_in, search_from}
use Rattle.lx_tdfa.specs.Graph.{graph_of, path_end, path_symbols, rule_starts}

-- A segment leads from a place over one unit to a place. Its key tells it apart: the indices of the moves that are taken, and
-- which of the ways to read the unit is.
pub record Key : Type 0 where
  pub way : List ℕ
  pub pick : ℕ

-- a place of a kernel, with the keys of the first run that ends there, the last segment first, and the symbols of that run
pub record Entry : Type 0 where
  pub place : ℕ
  pub keys : List Key
  pub front : List Symbol

-- a segment from the place with this index in a kernel, and the place to which it leads
pub record Candidate : Type 0 where
  pub from : ℕ
  pub key : Key
  pub to : ℕ

-- the ways to read a unit at a state to which a way leads, of which the first has this number
abbrev pub candidates_at : (from : ℕ) → (way : List ℕ) → (pick : ℕ) → (nexts : List ℕ) → List Candidate
candidates_at from way pick [] = []
candidates_at from way pick (next ∷ nexts) =
    record { from = from; key = record { way = way; pick = pick }; to = next } ∷ candidates_at from way (suc pick) nexts

-- The choices of a search from several places begin with the index of the place.
abbrev pub candidates_by : (choices nexts : List ℕ) → List Candidate
candidates_by [] nexts = []
candidates_by (from ∷ way) nexts = candidates_at from way 0 nexts

-- all ways to read a unit at the states that were found; `nexts` lists the places after it
abbrev pub candidates : (nexts : ℕ → List ℕ) → List Found → List Candidate
candidates nexts [] = []
candidates nexts (found ∷ others) = candidates_by found.choices (nexts found.state) ++ candidates nexts others

abbrev pub unless_seen : {A : Type 0} → Dec A → (skipped taken : List Candidate) → List Candidate
unless_seen (yes is) skipped taken = skipped
unless_seen (no not) skipped taken = taken

-- the first candidate for each place that was not seen
abbrev pub first_of_each : (seen : List ℕ) → List Candidate → List Candidate
first_of_each seen [] = []
first_of_each seen (candidate ∷ others) =
    unless_seen (decide_in seen candidate.to) (first_of_each seen others) (candidate ∷ first_of_each (candidate.to ∷ seen) others)

-- the places of a kernel, in order
abbrev pub places : List Entry → List ℕ
places entries = map (λ (entry : Entry). entry.place) entries

abbrev pub entry_at : List Entry → (index : ℕ) → Entry
entry_at [] index = record { place = 0; keys = []; front = [] }
entry_at (entry ∷ others) zero = entry
entry_at (entry ∷ others) (suc index) = entry_at others index

abbrev pub keys_at : List Entry → (index : ℕ) → List Key
keys_at entries index = (entry_at entries index).keys

-- the places before all units, of which the first has this number
abbrev pub first_entries : (number : ℕ) → List ℕ → List Entry
first_entries number [] = []
first_entries number (start ∷ others) =
    record { place = start; keys = record { way = []; pick = number } ∷ []; front = [] } ∷ first_entries (suc number) others

-- `graph` has the moves in order, `after` lists the places after a state or place and a unit, in order, `said` are the symbols
-- of a segment from a place over a unit, and at `starts` the runs begin.
module _ (graph : List (List ℕ)) (after : ℕ → ℕ → List ℕ) (said : ℕ → ℕ → Key → List Symbol) (starts : List ℕ) where
  -- the entry of a candidate: the run of the entry that it came from goes on
  abbrev pub entry_of : List Entry → (unit : ℕ) → Candidate → Entry
  entry_of before unit candidate = record {
    place = candidate.to;
    keys = candidate.key ∷ keys_at before candidate.from;
    front = (entry_at before candidate.from).front ++ said (entry_at before candidate.from).place unit candidate.key;
  }

  abbrev pub entries : List Entry → (unit : ℕ) → List Candidate → List Entry
  entries before unit [] = []
  entries before unit (candidate ∷ others) = entry_of before unit candidate ∷ entries before unit others

  -- the segments over a unit from the places of a kernel: for each place the first that leads there, in order
  abbrev pub next_candidates : (from : List ℕ) → (unit : ℕ) → List Candidate
  next_candidates from unit = first_of_each [] (candidates (λ state. after state unit) (search_from graph [] from))

  -- the kernel after one more unit
  abbrev pub kernel_step : List Entry → (unit : ℕ) → List Entry
  kernel_step before unit = entries before unit (next_candidates (places before) unit)

  -- the kernel of a word, whose last unit comes first
  abbrev pub kernel_list : List ℕ → List Entry
  kernel_list [] = first_entries 0 starts
  kernel_list (unit ∷ units) = kernel_step (kernel_list units) unit

-- the rule of a run, which its first key tells
abbrev pub rule_of : List Key → ℕ
rule_of [] = 0
rule_of (key ∷ []) = key.pick
rule_of (key ∷ other ∷ keys) = rule_of (other ∷ keys)

-- the cut of an entry
abbrev pub cut_of : Entry → Cut
cut_of entry = record { rule = rule_of entry.keys; front = entry.front }

-- The symbols of a segment from a place over a unit. `added` are those of the last way, which reads the unit.
abbrev pub segment_symbols : List Term → (added : ℕ → ℕ → ℕ → List Symbol) → (place unit : ℕ) → Key → List Symbol
segment_symbols rules added place unit key =
    path_symbols (automaton rules) place key.way (added (path_end (automaton rules) place key.way) unit key.pick)

-- the list of places of the automaton of a rule list after a word
abbrev pub kernel_after : Tnfa → List Term → (word : List ℕ) → List Entry
kernel_after tnfa rules word =
    kernel_list (graph_of (automaton rules)) (numbers_after tnfa) (segment_symbols rules (symbols_added tnfa)) (rule_starts rules)
    (reverse word)

-- the places after one more unit, by those before it
abbrev pub places_step : Tnfa → List Term → (from : List ℕ) → (unit : ℕ) → List ℕ
places_step tnfa rules from unit =
    map (λ (candidate : Candidate). candidate.to)
    (next_candidates (graph_of (automaton rules)) (numbers_after tnfa) (segment_symbols rules (symbols_added tnfa)) (rule_starts rules) from unit)
