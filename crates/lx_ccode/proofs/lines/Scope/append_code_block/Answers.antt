use Rattle.std.proofs.Common.{[], ap, sym, ◌∙◌}
use Rattle.std.proofs.lemmas.Result.{IfOk-weaker}
use Rattle.lx_ccode.specs.Statements.{ends_in_code}
use Rattle.lx_ccode.specs.Text.{block_lines_then}
use Rattle.lx_ccode.specs.Wording.{scope_wording}
use Rattle.lx_ccode.proofs.Tails.{code_block_written, line_behind-written}
use Rattle.lx_ccode.proofs.lines.Scope.append_code_block.Goals as goal

pub returns-then-ends_in_code : goal.returns-then-ends_in_code
returns-then-ends_in_code c =
    let wording = scope_wording c.args.self.now in
    let block = c.args.block.now in
    let lines = c.in_ok-append_block_lines.ensures in
    let behind = line_behind-written c.args.line c.line_behind-behind.result c.len-start.result c.args.text.now.items _ _ (block_lines_then wording c.args.place block [])
    (c.len-start.ensures ∙ c.args.text.now.ok.0) c.as_slice.ensures.value lines c.line_behind-behind.ensures in
    let ends = sym (c.ends_in_code.ensures ∙ ap ends_in_code c.as_slice-2.ensures) ∙ c.if-ends_in_code.true in
    IfOk-weaker c.append_given_back.result _ _
    (λ after given. code_block_written wording c.args.line c.line_behind-behind.result after c.args.place block _ _ _ ends lines behind given.0 given.1) c.append_given_back.ensures
