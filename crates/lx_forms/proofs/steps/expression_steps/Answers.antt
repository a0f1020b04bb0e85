use Rattle.std.proofs.Common.{◌≡◌, ◌∙◌, ◌∷◌, ◌++◌, [], ap, arith, drop, false, length, map, sym, take}
use Rattle.std.proofs.Math.Seq.{take-append_seam}
use Rattle.lx_forms.specs.Lexemes.{nth_lexeme}
use Rattle.lx_forms.specs.Seen.{lexemes_view}
use Rattle.lx_forms.specs.StepRuns.{marked_steps}
use Rattle.lx_forms.specs.StepViews.{step_view}
use Rattle.lx_forms.proofs.PlainForms.{unmarked_steps-form}
use Rattle.lx_forms.proofs.StepMarks.{marked_steps-form}
use Rattle.lx_forms.proofs.steps.expression_steps.Goals as goal

pub returns : goal.returns
returns c form is =
    let texts = lexemes_view c.args.lexemes in
    let steps = c.mark_operands.new.steps in
    let unread = drop (length steps) c.in_ok-steps.steps.items in
    let count : length steps ≡ c.in_ok-steps.steps.len = omega (arith, c.mark_operands.auto.steps, c.deref_mut.ensures.len) in
    ap (λ n. map (step_view texts) (take n (steps ++ unread))) (sym count) ∙ ap (map (step_view texts)) (take-append_seam steps unread)
    ∙ c.in_ok-mark_operands.ensures texts
    ∙ ap (λ l. marked_steps c.args.are_groups l (false ∷ []))
    (ap (map (step_view texts)) c.deref_mut.ensures.value ∙ c.in_ok-steps.ensures
    ∙ unmarked_steps-form (nth_lexeme texts 0) texts c.args.from c.args.until form c.requires.part.in_order is)
    ∙ marked_steps-form c.args.are_groups form
