use Rattle.std.proofs.Common.{◌≡◌, drop, max}
use Rattle.lx_compile.specs.Facts.{last_register}
use Rattle.lx_compile.specs.Making.{seen_pieces}
use Rattle.lx_compile.proofs.facts.last_register.Given as goal

abbrev pub invariant-loop-piece : goal.invariant-loop-piece
invariant-loop-piece l = max l.last (last_register (seen_pieces (drop l.piece-index l.pieces))) ≡ last_register (seen_pieces l.pieces)
