use Rattle.std.proofs.Common.{◌≡◌, drop, max}
use Rattle.lx_compile.specs.Facts.{history_count}
use Rattle.lx_compile.specs.Making.{seen_pieces}
use Rattle.lx_compile.proofs.facts.history_count.Given as goal

abbrev pub invariant-loop-piece : goal.invariant-loop-piece
invariant-loop-piece l = max l.count (history_count (seen_pieces (drop l.piece-index l.pieces))) ≡ history_count (seen_pieces l.pieces)
