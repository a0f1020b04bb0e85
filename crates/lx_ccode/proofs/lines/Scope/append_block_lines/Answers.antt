use Rattle.lx_ccode.specs.Wording.{scope_wording}
use Rattle.lx_ccode.proofs.Tails.{block_lines_written}
use Rattle.lx_ccode.proofs.lines.Scope.append_block_lines.Goals as goal

pub returns : goal.returns
returns c =
    block_lines_written (scope_wording c.args.self.now) c.args.place c.args.block.now _ _ _ _ c.in_ok-append_cond_label.ensures c.in_ok-append_label.ensures
    (rw c.as_slice.ensures at c.in_ok-append_statements.ensures)
