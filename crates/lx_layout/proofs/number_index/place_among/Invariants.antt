use Rattle.std.proofs.Common.{◌≡◌, drop}
use Rattle.lx_layout.specs.NumberIndexes.{place_among}
use Rattle.lx_layout.proofs.number_index.place_among.Given as goal

abbrev pub invariant-loop-one : goal.invariant-loop-one
invariant-loop-one l = place_among (drop l.one-index l.noted) l.number ≡ place_among l.noted l.number
