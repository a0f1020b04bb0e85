use Rattle.std.proofs.Common.{◌∙◌, map, subst, sym}
use Rattle.std.proofs.lemmas.Result.{err_from_is_err_and}
use Rattle.lx_exprs.specs.Reading.{AreTaken, StopsReading, operands_behind}
use Rattle.lx_exprs.specs.Defined.{Before}
use Rattle.lx_exprs.specs.Seen.{scope_view}
use Rattle.lx_forms.specs.Seen.{lexemes_view}
use Rattle.lx_forms.specs.StepViews.{step_view}
use Rattle.lx_exprs.proofs.Forms.ExpressionRanges.{part_in_order, part_read, part_stops, steps_are}
use Rattle.lx_exprs.specs.Values.{HasValueKinds}
use Rattle.lx_exprs.proofs.expressions.read_behind.Goals as goal

pub take_steps-requires-clause-order : goal.take_steps-requires-clause-order
take_steps-requires-clause-order c =
    let options = c.args.reader.options.now in
    let definitions = scope_view c.args.reader.scope in
    rw c.deref.ensures.value
    (part_in_order options definitions (lexemes_view c.args.lexemes) c.args.from c.args.until c.requires.part
    (map (step_view (lexemes_view c.args.lexemes)) c.in_ok-steps.steps.items) (steps_are options definitions c.are_groups.result (c.are_groups.ensures definitions) c.in_ok-steps.ensures))

pub returns-in_err-operands-clause-read : goal.returns-in_err-operands-clause-read
returns-in_err-operands-clause-read c =
    let options = c.args.reader.options.now in
    let definitions = scope_view c.args.reader.scope in
    let view = step_view (lexemes_view c.args.lexemes) in
    let before : Before = record { tags = c.args.seen; groups = c.args.groups } in
    let stopped = c.in_err-operands.field-0.0 in
    let p = err_from_is_err_and c.from_residual-in_err-operands.result c.from_residual-in_err-operands.ensures.1 in
    rw (p.1, p.2)
    (part_stops options definitions (lexemes_view c.args.lexemes) c.args.from c.args.until c.requires.part
    (map view c.in_ok-steps.steps.items) (steps_are options definitions c.are_groups.result (c.are_groups.ensures definitions) c.in_ok-steps.ensures) before stopped
    (subst (λ l. StopsReading options definitions (operands_behind before) (map view l) stopped) c.deref.ensures.value c.in_err-operands.ensures.taken))

pub returns-clause-read : goal.returns-clause-read
returns-clause-read c =
    let options = c.args.reader.options.now in
    let definitions = scope_view c.args.reader.scope in
    let view = step_view (lexemes_view c.args.lexemes) in
    let before : Before = record { tags = c.args.seen; groups = c.args.groups } in
    part_read options definitions (lexemes_view c.args.lexemes) c.args.from c.args.until c.requires.part
    (map view c.in_ok-steps.steps.items) (steps_are options definitions c.are_groups.result (c.are_groups.ensures definitions) c.in_ok-steps.ensures) before c.args.reader.room c.in_ok-operands.operands c.pop.new.self.values.items c.pop.result
    (record { value = c.in_ok-value.value; tags = c.in_ok-tags.tags })
    (subst (λ l. AreTaken options definitions c.args.reader.room (operands_behind before) (map view l) c.in_ok-operands.operands) c.deref.ensures.value c.in_ok-operands.ensures.taken)
    c.pop.ensures.values (c.in_ok-tags.ensures ∙ c.into_seen.ensures ∙ c.pop.ensures.seen) c.in_ok-value.ensures.stands

pub returns-clause-kinds : goal.returns-clause-kinds
returns-clause-kinds c =
    let seen = c.in_ok-operands.operands.seen in
    subst (λ tags. HasValueKinds tags c.in_ok-value.value) (sym (c.in_ok-tags.ensures ∙ c.into_seen.ensures ∙ c.pop.ensures.seen))
    (c.in_ok-value.ensures.kinds seen (c.pop.ensures.kinds seen c.in_ok-operands.ensures.kinds).1)
