use Rattle.lx_layout.proofs.PieceLaws.WholePieces.{is_piece}
use Rattle.lx_layout.proofs.piece_laws.parts_are_pieces.Goals as goal

pub returns : goal.returns
returns c form scanners parts piece fit are is_table size short blocks small fields states conds forgets =
    is_piece form scanners parts piece fit are is_table size short blocks small fields states conds forgets
