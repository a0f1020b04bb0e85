use Rattle.std.proofs.Common.{◌≡◌, ◌↔◌, ◌++◌, ◌∷◌, [], get_or, take, sym, ◌∙◌, ap, subst, arith, take_all}
use Rattle.std.proofs.lemmas.List.{take_more}
use Rattle.lx_class.specs.Ranges.{InRanges}
use Rattle.lx_encode.specs.Runs.{AreSorted, LeadsTo}
use Rattle.lx_encode.proofs.PointRuns.{ended_run, ended_runs, ended_runs-append, LeadsTo-ended_runs, AreSorted-ended_runs}
use Rattle.lx_encode.proofs.runs.point_runs.Goals as goal

pub loop-range-preserved : goal.loop-range-preserved
loop-range-preserved c =
    let xs = c.args.ranges.now in
    let i = c.loop-range.range-index in
    let range = get_or xs i (record { lo = 0; hi = 0 }) in
    let taken = take_more xs i (record { lo = 0; hi = 0 }) c.loop-range-test.true in
    c.in_ok-push.ensures.items ∙ ap (λ l. l ++ ended_run range ∷ []) c.loop-range.invariant
    ∙ sym (ended_runs-append (take i xs) range) ∙ sym (ap ended_runs taken)

pub returns-clause-sorted : goal.returns-clause-sorted
returns-clause-sorted c =
    let all = take_all c.loop-range.range-index c.args.ranges.now c.loop-range-test.false in
    subst (λ l. AreSorted l) (sym (c.loop-range.invariant ∙ ap ended_runs all))
    (AreSorted-ended_runs 0 0 c.args.ranges.now (omega arith) c.requires)

pub returns-clause-leads : goal.returns-clause-leads
returns-clause-leads c = λ number target.
    let all = take_all c.loop-range.range-index c.args.ranges.now c.loop-range-test.false in
    subst (λ l. LeadsTo l number target ↔ (InRanges c.args.ranges.now number × (0 ≡ target))) (sym (c.loop-range.invariant ∙ ap ended_runs all))
    (LeadsTo-ended_runs c.args.ranges.now number target)
