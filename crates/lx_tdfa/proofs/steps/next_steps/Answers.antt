use Rattle.std.proofs.Common.{◌++◌, map, ap, ◌∙◌, drop, ◌+◌, filter_map}
use Rattle.std.proofs.lemmas.List.{map-append}
use Rattle.lx_tdfa.specs.Making.{seen_step}
use Rattle.lx_tdfa.specs.Steps.{first_steps, indices_from, next_steps, step_indices, step_on}
use Rattle.lx_tdfa.specs.declared.steps.Step as held
use Rattle.lx_tdfa.proofs.Loops.PlaceSets.{TellsEqual-places}
use Rattle.lx_tdfa.proofs.Loops.StepLoops.{first_steps-left, first_steps-seen, first_steps-taken, indices-left, indices-seen, indices-taken}
use Rattle.lx_tdfa.proofs.steps.next_steps.Goals as goal
use Rattle.lx_tdfa.proofs.steps.next_steps.Goals.{in-Some+in_ok-add+then-branch+in_ok-push, in-Some+in_ok-add+else-branch, in_default}

pub loop-index-preserved : goal.loop-index-preserved
loop-index-preserved c =
    let t = c.args.t.now in
    let at = c.loop-index in
    let whole = next_steps t c.args.unit c.args.reaches.now in
    let all = step_indices t c.args.unit c.args.reaches.now in
    let found = c.place_behind in
    let steps = map seen_step at.steps.items in
    let indices = map (λ (step : held.Step). step.index) at.steps.items in
    elim c.match-place_behind.branch [
      | in-Some+in_ok-add+then-branch+in_ok-push w ↦
          let told = w.in_ok-add.ensures TellsEqual-places in
          rw (w.steps-is) (rw (w.seen-is) (rw (w.in_ok-push.ensures.items) (
            ap (λ l. l ++ first_steps w.add.new.self (filter_map (step_on t c.args.unit) (drop (at.index + 1) c.args.reaches.now)))
                (map-append seen_step at.steps.items _)
                ∙ first_steps-taken t c.args.unit c.args.reaches.now at.index c.index-reaches-index.result c.loop-index-test.true c.index-reaches-index.is at.seen steps
                whole at.invariant.0 found.result found.ensures w.in-Some.to w.add.new.self w.in_ok-add.field-0 w.in-Some.is told w.if-branch.true,
            ap (λ l. l ++ indices_from t c.args.unit w.add.new.self (at.index + 1) (drop (at.index + 1) c.args.reaches.now))
                (map-append (λ (step : held.Step). step.index) at.steps.items _)
                ∙ indices-taken t c.args.unit c.args.reaches.now at.index c.index-reaches-index.result c.loop-index-test.true c.index-reaches-index.is at.seen indices
                all at.invariant.1 found.result found.ensures w.in-Some.to w.add.new.self w.in_ok-add.field-0 w.in-Some.is told w.if-branch.true,
          )))
      | in-Some+in_ok-add+else-branch w ↦
          let told = w.in_ok-add.ensures TellsEqual-places in
          rw (w.steps-is) (rw (w.seen-is) (
            first_steps-seen t c.args.unit c.args.reaches.now at.index c.index-reaches-index.result c.loop-index-test.true c.index-reaches-index.is at.seen steps
                whole at.invariant.0 found.result found.ensures w.in-Some.to w.add.new.self w.in_ok-add.field-0 w.in-Some.is told w.if-branch.false,
            indices-seen t c.args.unit c.args.reaches.now at.index c.index-reaches-index.result c.loop-index-test.true c.index-reaches-index.is at.seen indices
                all at.invariant.1 found.result found.ensures w.in-Some.to w.add.new.self w.in_ok-add.field-0 w.in-Some.is told w.if-branch.false,
          ))
      | in_default w ↦
          rw (w.steps-is) (rw (w.seen-is) (
            first_steps-left t c.args.unit c.args.reaches.now at.index c.index-reaches-index.result c.loop-index-test.true c.index-reaches-index.is at.seen steps
                whole at.invariant.0 found.result found.ensures w.in_default.is,
            indices-left t c.args.unit c.args.reaches.now at.index c.index-reaches-index.result c.loop-index-test.true c.index-reaches-index.is at.seen indices
                all at.invariant.1 found.result found.ensures w.in_default.is,
          ))
    ]
