-- When a reader may refuse.
use Rattle.std.specs.Prelude.{◌≡◌, ℕ, List, drop}
use Rattle.lx_ccode.specs.declared.piece.Piece.{Piece}
use Rattle.lx_ccode.specs.Front.{BeginsWithPiece}
use Rattle.lx_creader.specs.declared.read.PieceStop.{PieceStop}
use Rattle.lx_creader.specs.declared.read.PieceStop.TheVariants.{Memory, NotEmitted}

-- want of memory is free; else no piece's text stands at the place, which the refusal tells
abbrev pub IsRefusal : (bytes : List ℕ) (at : ℕ) → PieceStop → Type 0
IsRefusal bytes at Memory = Unit {0}
IsRefusal bytes at (NotEmitted offset) = (offset ≡ at) × ((piece : Piece) → BeginsWithPiece (drop at bytes) piece → ⊥)
