use Rattle.lx_ccode.proofs.Tails.{front_written}
use Rattle.lx_ccode.proofs.lines.Scope.append_front.Goals as goal

pub returns : goal.returns
returns c =
    front_written c.args.piece.now _ _ _ _ _ _ _ c.in_ok-append_begin.ensures (rw c.is_kept.ensures at c.in_ok-append_head.ensures)
    c.in_ok-append_unit.ensures c.in_ok-append_eof.ensures c.in_ok-append_names.ensures c.in_ok-append_parts.ensures
