use Rattle.std.proofs.Common.{◌∙◌, sym}
use Rattle.lx_creader.proofs.Steps.{cond_cases_at-step}
use Rattle.lx_creader.proofs.lines.Scope.cond_cases_at.Goals as goal

pub loop-left-preserved : goal.loop-left-preserved
loop-left-preserved c =
    let next = cond_cases_at-step c.loop-left.left c.args.self.now.names.now c.loop-left.bytes.now c.goto_tail-bytes.result.now c.loop-left.cases.items c.push.new.self.items
    (record { cond = c.in_ok-cond.cond; block = c.goto_block.result }) c.loop-left-test.true (sym c.byte_at.ensures ∙ c.if-byte_at-eq99.true)
    (cc (c.in_ok-cond.ensures, c.skip.ensures, c.front_identifier.ensures, c.skip-word.ensures, c.condition_prefix-prefix.ensures)) (cc) (cc) c.in_ok-push.ensures.items in
    (next.0 ∙ c.loop-left.invariant.0, next.1 ∙ c.loop-left.invariant.1)
