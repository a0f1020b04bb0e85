use Rattle.lx_ccode.proofs.Tails.{sections_of_three_written}
use Rattle.lx_ccode.proofs.lines.Scope.append_sections_of_three.Goals as goal

pub returns : goal.returns
returns c =
    sections_of_three_written c.args.piece.now _ _ _ _ _ _ _ (rw c.declares_unit.ensures at c.in_ok-append_unit_line.ensures)
    (rw c.declares_accept.ensures at c.in_ok-append_accept_line.ensures)
    (rw (c.requires.number, c.requires.names, c.as_slice-conds.ensures) at c.in_ok-append_state_switch.ensures)
    (rw c.has_cond_label.ensures at c.in_ok-append_cond_label.ensures) (rw c.as_slice-conds.ensures at c.in_ok-append_label_switch.ensures) c.in_ok-append_parts.ensures
