use Rattle.std.proofs.Common.{◌≡◌, drop}
use Rattle.std.specs.List.{list_any}
use Rattle.lx_ccode.specs.declared.piece.Piece.{Piece}
use Rattle.lx_compile.specs.Making.{seen_pieces}
use Rattle.lx_compile.proofs.facts.has_marker.Given as goal

abbrev pub invariant-loop-piece : goal.invariant-loop-piece
invariant-loop-piece l =
    list_any (λ (piece : Piece). piece.ctx) (seen_pieces (drop l.piece-index l.pieces))
    ≡ list_any (λ (piece : Piece). piece.ctx) (seen_pieces l.pieces)
