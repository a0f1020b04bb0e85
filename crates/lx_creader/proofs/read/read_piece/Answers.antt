use Rattle.std.proofs.Common.{sym, subst, refl, List, ℕ, ◌∙◌}
use Rattle.std.proofs.lemmas.Bool.{false≢true}
use Rattle.lx_ccode.specs.Front.{BeginsWithPiece}
use Rattle.lx_creader.proofs.FittedPieces.{BeginsWithPiece-at, no_other_stands, none_stands}
use Rattle.lx_creader.proofs.read.read_piece.Goals as goal

pub returns-in-None : goal.returns-in-None
returns-in-None c = (
  refl,
  λ piece begins.
      none_stands c.reading_finds_the_piece.ensures c.skip-bytes.result.now (rw c.in-None.is at c.in_ok-reading.ensures) piece
      (subst (λ (bytes : List ℕ). BeginsWithPiece bytes piece) (sym c.skip-bytes.ensures) begins),
)

pub returns-then-emitted : goal.returns-then-emitted
returns-then-emitted c =
    subst (λ (bytes : List ℕ). BeginsWithPiece bytes c.in-Some.field-0.piece) c.skip-bytes.ensures
    (BeginsWithPiece-at c.skip-bytes.result.now c.in-Some.field-0.place c.in-Some.field-0.piece (c.in_ok-emitted-in-Some.ensures.0 c.if-emitted.true))

pub returns-else-emitted : goal.returns-else-emitted
returns-else-emitted c = (
  refl,
  λ piece begins.
      let found = rw c.in-Some.is at c.in_ok-reading.ensures in
      no_other_stands c.reading_finds_the_piece.ensures c.skip-bytes.result.now c.in-Some.field-0.place c.in-Some.field-0.piece found.piece_is found.place_is
      (λ stands. false≢true (sym c.if-emitted.false ∙ c.in_ok-emitted-in-Some.ensures.1 stands)) piece
      (subst (λ (bytes : List ℕ). BeginsWithPiece bytes piece) (sym c.skip-bytes.ensures) begins),
)
