use Rattle.std.proofs.Common.{◌≡◌, ◌+◌, ◌≤◌, drop}
use Rattle.lx_base.specs.Places.{place_after}
use Rattle.lx_base.proofs.places.place_after.Given as goal

abbrev pub invariant-loop-letter : goal.invariant-loop-letter
invariant-loop-letter l = record {
  place : place_after l.place (drop l.letter-index l.text) ≡ place_after l.fn.at l.text;
  line : l.place.line ≤ l.fn.at.line + l.letter-index;
  col : l.place.col ≤ l.fn.at.col + l.letter-index;
}
