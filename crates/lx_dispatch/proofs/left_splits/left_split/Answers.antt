use Rattle.std.proofs.Common.{◌+◌, ◌∙◌, None, ap, drop, sym}
use Rattle.lx_ccode.specs.Machine.{is_among}
use Rattle.lx_dispatch.specs.FirstQuestions.{questions_of, seen_first}
use Rattle.lx_dispatch.specs.LeftUnits.{any_holds, left_from}
use Rattle.lx_dispatch.specs.Views.{seen_stretches}
use Rattle.lx_dispatch.specs.declared.unit_splits.Stretch.{Stretch}
use Rattle.lx_dispatch.proofs.LeftLoops.{joined, left-decided, left-open, onto}
use Rattle.lx_dispatch.proofs.left_splits.left_split.Goals as goal
use Rattle.lx_dispatch.proofs.left_splits.left_split.Goals.{then-not-all_decided+in_ok-push_waiting, else-not-all_decided}

pub loop-stretch-preserved : goal.loop-stretch-preserved
loop-stretch-preserved c =
    let decided = any_holds (is_among c.args.table.now) (questions_of (seen_first c.args.first.now)) in
    let list = c.args.stretches.now in
    let index = c.loop-stretch.stretch-index in
    let none : Stretch = record { greatest = 0; class = None } in
    let whole = left_from decided c.args.top 0 (seen_stretches list) c.args.last in
    let rest = left_from decided c.args.top (c.from-low.result + 1) (seen_stretches (drop (index + 1) list)) c.args.last in
    let tests = c.if-not-all_decided.tests in
    elim c.if-not-all_decided.branch [
      | then-not-all_decided+in_ok-push_waiting w ↦
          ap (λ waiting. onto (seen_stretches tests.items) (joined decided c.args.top waiting rest)) w.waiting-is
          ∙ left-open decided c.args.top list index c.loop-stretch.low c.args.last (seen_stretches c.loop-stretch.tests.items) c.loop-stretch.waiting whole
          c.loop-stretch.invariant none c.loop-stretch-test.true (c.from-low.result + 1) (ap (λ n. n + 1) c.from-low.ensures)
          (sym w.if-not-all_decided.ensures) (seen_stretches tests.items)
          (ap (λ tests. seen_stretches tests.items) w.tests-is ∙ w.in_ok-push_waiting.ensures)
      | else-not-all_decided w ↦
          ap (λ waiting. onto (seen_stretches tests.items) (joined decided c.args.top waiting rest)) w.waiting-is
          ∙ ap (λ tests. onto (seen_stretches tests.items) (joined decided c.args.top c.loop-stretch.waiting rest)) w.tests-is
          ∙ left-decided decided c.args.top list index c.loop-stretch.low c.args.last (seen_stretches c.loop-stretch.tests.items) c.loop-stretch.waiting whole
          c.loop-stretch.invariant none c.loop-stretch-test.true (c.from-low.result + 1) (ap (λ n. n + 1) c.from-low.ensures)
          (sym w.if-not-all_decided.ensures)
    ]
