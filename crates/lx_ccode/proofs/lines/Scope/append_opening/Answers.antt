use Rattle.std.proofs.Common.{[], ◌∙◌}
use Rattle.lx_ccode.specs.Text.{opening_then}
use Rattle.lx_ccode.proofs.Tails.{line_behind-written, opening_written}
use Rattle.lx_ccode.proofs.lines.Scope.append_opening.Goals as goal

pub returns : goal.returns
returns c =
    let piece = c.args.piece.now in
    let text = opening_written piece _ _ _ _ c.in_ok-append_parts.ensures (rw c.as_slice.ensures at c.in_ok-append_table.ensures) c.in_ok-append_sections.ensures in (
      text,
      line_behind-written c.args.line c.line_behind.result c.len-start.result c.args.text.now.items _ _ (opening_then piece []) (c.len-start.ensures ∙ c.args.text.now.ok.0) c.as_slice-2.ensures.value text
          c.line_behind.ensures,
    )
