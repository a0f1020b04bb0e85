-- What a search has found.
use Rattle.std.specs.Prelude.{ℕ, List, length, slice_index_or}
use Rattle.lx_search.specs.declared.search.Found.{Found}
use Rattle.lx_tdfa.specs.Searches.{Trace}

-- what was found at a place
abbrev pub found_at : List Found → (place : ℕ) → Found
found_at found place = slice_index_or found place (record { state = 0; parent = 0; unit = 0 })

-- the list as what a search has found
abbrev pub trace_of : List Found → Trace
trace_of found = record {
  count = length found;
  state = λ place. (found_at found place).state;
  parent = λ place. (found_at found place).parent;
  unit = λ place. (found_at found place).unit;
}
