use Rattle.std.proofs.Common.{◌≡◌, ◌+◌, ◌≤◌, drop}
use Rattle.lx_ccode.specs.Text.{feeds}
use Rattle.lx_ccode.proofs.places.feeds.Given as goal

abbrev pub invariant-loop-letter : goal.invariant-loop-letter
invariant-loop-letter l = record {
  so_far : l.count + feeds (drop l.letter-index l.text) ≡ feeds l.text;
  few : l.count ≤ l.letter-index;
}
