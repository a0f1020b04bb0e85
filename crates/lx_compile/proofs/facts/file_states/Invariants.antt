use Rattle.std.proofs.Common.{◌≡◌, ◌++◌, drop}
use Rattle.lx_compile.specs.Facts.{file_states}
use Rattle.lx_compile.specs.Making.{seen_pieces}
use Rattle.lx_compile.proofs.facts.file_states.Given as goal

abbrev pub invariant-loop-piece : goal.invariant-loop-piece
invariant-loop-piece l = l.states ++ file_states (seen_pieces (drop l.piece-index l.pieces)) ≡ file_states (seen_pieces l.pieces)
