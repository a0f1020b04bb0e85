use Rattle.std.proofs.Common.{◌≡◌, ◌<◌, ◌++◌, length, reverse}
use Rattle.lx_search.specs.Found.{trace_of}
use Rattle.lx_tdfa.specs.Searches.{word_at}
use Rattle.lx_search.proofs.words.word_to.Given as goal

abbrev pub invariant-loop-at : goal.invariant-loop-at
invariant-loop-at l = record {
  within : l.at < length l.found;
  word : word_at (trace_of l.found) l.place ≡ word_at (trace_of l.found) l.at ++ reverse l.units.items;
}

abbrev pub decreases-loop-at : goal.decreases-loop-at
decreases-loop-at l = l.at
