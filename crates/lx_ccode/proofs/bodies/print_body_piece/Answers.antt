use Rattle.std.proofs.Common.{◌∙◌}
use Rattle.lx_ccode.proofs.BodyTails.{body_piece_written}
use Rattle.lx_ccode.proofs.bodies.print_body_piece.Goals as goal

pub returns : goal.returns
returns c =
    c.from_vec.ensures
    ∙ body_piece_written c.args.number c.args.names.now c.args.body.now c.args.line.now _ _ _ _ c.new-text.ensures.items
    c.in_ok-append_begin.ensures c.in_ok-append_body.ensures c.in_ok-append_end.ensures
