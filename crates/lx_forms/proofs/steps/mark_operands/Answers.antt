use Rattle.std.proofs.Common.{◌≡◌, ◌∙◌, ◌+◌, ◌-◌, ◌<◌, arith, false, length}
use Rattle.std.specs.Prelude.{reverse}
use Rattle.lx_forms.specs.declared.steps.StepSort.TheVariants.{Read}
use Rattle.lx_forms.specs.StepViews.{step_view}
use Rattle.lx_forms.proofs.StepMarks.{marked_steps-next}
use Rattle.lx_forms.proofs.steps.mark_operands.Goals as goal

pub loop-index-preserved : goal.loop-index-preserved
loop-index-preserved c lexemes =
    let index = c.loop-index.index - 1 in
    let next : c.loop-index.index ≡ index + 1 = omega (arith, c.loop-index-test.true) in
    let less : index < length c.loop-index.steps = omega (arith, next, c.loop-index.auto.steps, c.loop-index.auto.index) in
    marked_steps-next c.args.are_groups (step_view lexemes) c.loop-index.steps index c.loop-index.index (record { sort = Read; place = 0; is_operand = false })
    c.in_ok-steps.field-0 (reverse c.loop-index.marks.items) (reverse c.marked.new.marks.items) next less (c.in_ok-steps.ensures.step lexemes)
    (c.in_ok-steps.ensures.marks lexemes)
    ∙ c.loop-index.invariant lexemes
