use Rattle.lx_ccode.proofs.Tails.{old_sections_written}
use Rattle.lx_ccode.proofs.lines.Scope.append_old_sections.Goals as goal

pub returns : goal.returns
returns c =
    old_sections_written c.args.piece.now _ _ _ _ (rw c.requires.names at c.in_ok-append_declarations.ensures)
    (rw (c.requires.number, c.requires.names, c.as_slice-conds.ensures) at c.in_ok-append_state_switch.ensures)
    (rw (c.requires.number, c.requires.names, c.as_slice-conds.ensures) at c.in_ok-append_cond_switch.ensures)
