use Rattle.lx_ccode.specs.Wording.{scope_wording}
use Rattle.lx_ccode.proofs.Tails.{switch_lines_written}
use Rattle.lx_ccode.proofs.lines.Scope.append_switch.Goals as goal

pub returns : goal.returns
returns c =
    switch_lines_written (scope_wording c.args.self.now) c.args.cases.now c.args.last _ _ _ _
    (rw c.current_unit.ensures at c.in_ok-append_word.ensures) c.in_ok-append_switch_cases.ensures c.in_ok-append_block.ensures
