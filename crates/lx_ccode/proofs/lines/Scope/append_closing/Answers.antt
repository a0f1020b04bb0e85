use Rattle.lx_ccode.proofs.Tails.{closing_written}
use Rattle.lx_ccode.proofs.lines.Scope.append_closing.Goals as goal

pub returns : goal.returns
returns c =
    closing_written c.args.piece.now _ _ _ _ (rw (c.has_none_label.ensures, c.requires) at c.in_ok-append_none.ensures) c.in_ok-append_parts.ensures c.in_ok-append_end.ensures
