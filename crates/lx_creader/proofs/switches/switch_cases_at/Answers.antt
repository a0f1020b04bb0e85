use Rattle.std.proofs.Common.{◌∙◌, ap, map, sym}
use Rattle.lx_ccode.specs.Reading.{case_goto, case_tail, units_at}
use Rattle.lx_creader.specs.Fitted.{long, tiny}
use Rattle.lx_creader.proofs.Steps.{switch_cases_at-step}
use Rattle.lx_creader.proofs.switches.switch_cases_at.Goals as goal

pub loop-left-preserved : goal.loop-left-preserved
loop-left-preserved c =
    let fuel = c.args.fuel in
    let behind = c.in_ok-units.ensures.1 ∙ ap (λ b. (units_at fuel b).1) c.skip.ensures in
    let next = switch_cases_at-step c.loop-left.left fuel c.loop-left.bytes.now c.case_tail-bytes.result.now c.loop-left.found.items c.push.new.self.items
    (record { units = c.from_vec.result; block = c.case_goto.result }) c.loop-left-test.true (sym c.byte_at.ensures ∙ c.if-byte_at-eq99.true)
    (c.from_vec.ensures ∙ c.in_ok-units.ensures.0 ∙ ap (λ b. map tiny (units_at fuel b).0) c.skip.ensures)
    (c.case_goto.ensures ∙ ap (λ b. long (case_goto b)) behind) (c.case_tail-bytes.ensures ∙ ap case_tail behind) c.in_ok-push.ensures.items in
    (next.0 ∙ c.loop-left.invariant.0, next.1 ∙ c.loop-left.invariant.1)
