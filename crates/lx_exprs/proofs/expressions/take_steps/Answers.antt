use Rattle.std.proofs.Common.{◌≡◌, ◌∙◌, ◌+◌, ◌++◌, ◌∷◌, Ok, false, suc, arith, ap, get_or, length, map, take, drop, subst, sym}
use Rattle.std.proofs.lemmas.Result.{err_from_is_err_and}
use Rattle.std.proofs.lemmas.List.{take-append-drop}
use Rattle.lx_exprs.specs.Reading.{AreInOrder, Goes, StopsReading, ends, operands_behind}
use Rattle.lx_exprs.specs.Seen.{scope_view}
use Rattle.lx_forms.specs.Seen.{lexemes_view}
use Rattle.lx_forms.specs.StepViews.{step_view}
use Rattle.lx_forms.specs.declared.steps.StepSort.TheVariants.{Read}
use Rattle.lx_exprs.proofs.Forms.ExpressionSteps.{drop-next, goes-snoc, goes-stops, take-next}
use Rattle.lx_exprs.proofs.expressions.take_steps.Goals as goal

pub loop-step-init : goal.loop-step-init
loop-step-init c =
    let none = ap length c.behind-operands.ensures.none in record {
      taken = record { after = (operands_behind (record { tags = c.args.seen; groups = c.args.groups })); goes = ends; stands = c.behind-operands.ensures.stands c.args.reader.room };
      order = subst (λ n. AreInOrder n (map (step_view (lexemes_view c.args.lexemes)) c.args.steps.now)) (sym none) c.requires.order;
      bounded = c.behind-operands.ensures.bounded;
      kinds = c.behind-operands.ensures.kinds c.behind-operands.result.seen;
    }

pub take-requires-clause-needs : goal.take-requires-clause-needs
take-requires-clause-needs c =
    let view = step_view (lexemes_view c.args.lexemes) in
    (subst (AreInOrder (length c.loop-step.operands.values.items))
    (drop-next view c.loop-step.step-index c.args.steps.now (record { sort = Read; place = 0; is_operand = false }) c.loop-step-test.true)
    c.loop-step.invariant.order).0

pub returns-in_err-take-clause-taken : goal.returns-in_err-take-clause-taken
returns-in_err-take-clause-taken c =
    let options = c.args.reader.options.now in
    let definitions = scope_view c.args.reader.scope in
    let place = c.loop-step.step-index in
    let steps = c.args.steps.now in
    let view = step_view (lexemes_view c.args.lexemes) in
    let taken = c.loop-step.invariant.taken in
    let step = get_or steps place (record { sort = Read; place = 0; is_operand = false }) in
    let whole : take place (map view steps) ++ view step ∷ drop (suc place) (map view steps) ≡ map view steps =
    ap (λ l. take place (map view steps) ++ l) (sym (drop-next view place steps (record { sort = Read; place = 0; is_operand = false }) c.loop-step-test.true))
    ∙ take-append-drop place (map view steps) in
    let stopped = c.in_err-take.field-0.0 in
    let p = err_from_is_err_and c.from_residual.result c.from_residual.ensures.1 in
    rw (p.1, p.2)
    (subst (λ l. StopsReading options definitions (operands_behind (record { tags = c.args.seen; groups = c.args.groups })) l stopped) whole
    (goes-stops options definitions (operands_behind (record { tags = c.args.seen; groups = c.args.groups })) taken.after (take place (map view steps)) (view step) (drop (suc place) (map view steps)) stopped
    taken.goes (c.in_err-take.ensures.stands taken.after taken.stands)))

pub loop-step-preserved : goal.loop-step-preserved
loop-step-preserved c =
    let options = c.args.reader.options.now in
    let definitions = scope_view c.args.reader.scope in
    let place = c.loop-step.step-index in
    let steps = c.args.steps.now in
    let view = step_view (lexemes_view c.args.lexemes) in
    let taken = c.loop-step.invariant.taken in
    let step = get_or steps place (record { sort = Read; place = 0; is_operand = false }) in
    let more = c.in_ok-take.ensures.stands taken.after taken.stands in
    let order = subst (AreInOrder (length c.loop-step.operands.values.items))
    (drop-next view place steps (record { sort = Read; place = 0; is_operand = false }) c.loop-step-test.true) c.loop-step.invariant.order in
    let next : place + 1 ≡ suc place = omega arith in
    rw next record {
      taken = record {
        after = more.after;
        goes =
            subst (λ l. Goes options definitions (operands_behind (record { tags = c.args.seen; groups = c.args.groups })) l (Ok more.after))
            (sym (take-next view place steps (record { sort = Read; place = 0; is_operand = false }) c.loop-step-test.true))
            (goes-snoc options definitions (operands_behind (record { tags = c.args.seen; groups = c.args.groups })) taken.after more.after (take place (map view steps)) (view step) taken.goes more.checked more.stepped);
        stands = more.stands;
      };
      order = subst (λ n. AreInOrder n (drop (suc place) (map view steps))) (sym c.in_ok-take.ensures.depth) order.1;
      bounded = c.in_ok-take.ensures.bounded c.loop-step.invariant.bounded;
      kinds = c.in_ok-take.ensures.kinds c.loop-step.invariant.kinds;
    }
