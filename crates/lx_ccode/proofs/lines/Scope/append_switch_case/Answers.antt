use Rattle.lx_ccode.proofs.Tails.{switch_case_written}
use Rattle.lx_ccode.proofs.lines.Scope.append_switch_case.Goals as goal

pub returns : goal.returns
returns c =
    switch_case_written c.args.self.now.number c.args.case.now _ _ _ _ c.in_ok-append_bytes.ensures
    (rw c.as_slice.ensures at c.in_ok-append_units.ensures) c.in_ok-append_block.ensures
