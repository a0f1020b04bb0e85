use Rattle.std.proofs.Common.{◌∙◌, sym}
use Rattle.lx_creader.proofs.Steps.{state_cases_at-step}
use Rattle.lx_creader.proofs.sections.state_cases_at.Goals as goal

pub loop-left-preserved : goal.loop-left-preserved
loop-left-preserved c =
    let next = state_cases_at-step c.loop-left.left c.loop-left.bytes.now c.goto_tail-bytes.result.now c.loop-left.cases.items c.push.new.self.items
    (record { state = c.long_at.result; block = c.goto_block.result }) c.loop-left-test.true (sym c.byte_at.ensures ∙ c.if-byte_at-eq99.true)
    (cc) (cc) (cc) c.in_ok-push.ensures.items in
    (next.0 ∙ c.loop-left.invariant.0, next.1 ∙ c.loop-left.invariant.1)
