use Rattle.std.proofs.Common.{◌∙◌, sym}
use Rattle.lx_creader.proofs.Steps.{units_at-step}
use Rattle.lx_creader.proofs.switches.units_at.Goals as goal

pub loop-left-preserved : goal.loop-left-preserved
loop-left-preserved c =
    let next = units_at-step c.loop-left.left c.loop-left.bytes.now c.skip-bytes.result.now c.loop-left.units.items c.push.new.self.items
    c.byte_hexadecimal_at.result c.loop-left-test.true (sym c.byte_at.ensures ∙ c.if-byte_at-eq99.true) (cc) (cc) c.in_ok-push.ensures.items in
    (next.0 ∙ c.loop-left.invariant.0, next.1 ∙ c.loop-left.invariant.1)
