use Rattle.std.proofs.Common.{◌≡◌, ◌++◌, drop}
use Rattle.lx_compile.specs.Facts.{pieces_among}
use Rattle.lx_compile.specs.Making.{seen_pieces}
use Rattle.lx_compile.proofs.facts.pieces_among.Given as goal

abbrev pub invariant-loop-one : goal.invariant-loop-one
invariant-loop-one l = seen_pieces l.pieces.items ++ pieces_among (drop l.one-index l.made) ≡ pieces_among l.made
