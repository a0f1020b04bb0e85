use Rattle.std.proofs.Common.{Bool, IsTrue, subst, sym, ◌↔◌}
use Rattle.lx_ccode.specs.Front.{BeginsWithPieceAt}
use Rattle.lx_ccode.proofs.Behind.{begins_by}
use Rattle.lx_ccode.proofs.fronts.begins_with_piece.Goals as goal

pub returns : goal.returns
returns c =
    let place = c.args.place.now in
    let piece = c.args.piece.now in
    subst (λ (some : Bool). IsTrue some ↔ BeginsWithPieceAt c.args.bytes.now place piece) (sym c.is_some.ensures) (begins_by c.args.bytes.now place piece c.in_ok-rest.rest c.in_ok-rest.ensures)
