use Rattle.std.proofs.Common.{◌≡◌, ◌-◌, ◌∙◌, ap, sym}
use Rattle.lx_ccode.specs.Reading.{behind_label_cases}
use Rattle.lx_creader.proofs.Steps.{behind_label_case, behind_label_cases-step}
use Rattle.lx_creader.proofs.openings.behind_label_cases.Goals as goal

pub loop-left-preserved : goal.loop-left-preserved
loop-left-preserved c =
    let next : c.skip-bytes.result.now ≡ behind_label_case c.loop-left.bytes.now =
    cc (c.skip-bytes.ensures, c.after_identifier-in-loop-left.ensures, c.skip-label.ensures, c.after_identifier.ensures, c.skip.ensures) in
    ap (behind_label_cases (c.loop-left.left - 1)) next
    ∙ behind_label_cases-step c.loop-left.left c.loop-left.bytes.now c.loop-left-test.true (sym c.byte_at.ensures ∙ c.if-byte_at-eq99.true)
    ∙ c.loop-left.invariant
