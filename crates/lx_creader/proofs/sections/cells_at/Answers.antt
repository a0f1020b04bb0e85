use Rattle.std.proofs.Common.{◌≡◌, ◌∙◌, ap, drop}
use Rattle.lx_creader.proofs.Steps.{cell_number, cells_at-step}
use Rattle.lx_creader.proofs.sections.cells_at.Goals as goal

pub loop-left-preserved : goal.loop-left-preserved
loop-left-preserved c =
    let number : c.skip-number.result.now ≡ cell_number c.loop-left.bytes.now = c.skip-number.ensures ∙ ap (drop 2) c.behind_tab.ensures in
    let next = cells_at-step c.loop-left.left c.loop-left.bytes.now c.behind_feed-bytes.result.now c.loop-left.cells.items c.push.new.self.items
    c.byte_hexadecimal_at.result c.loop-left-test.true (λ e. c.if-byte_at-ne125.true (c.byte_at.ensures ∙ e)) (cc (c.byte_hexadecimal_at.ensures, number)) (cc (c.behind_feed-bytes.ensures, c.skip.ensures, c.after_hexadecimal.ensures, number)) c.in_ok-push.ensures.items in
    (next.0 ∙ c.loop-left.invariant.0, next.1 ∙ c.loop-left.invariant.1)
