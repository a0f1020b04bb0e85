use Rattle.std.proofs.Common.{ℕ, ◌+◌, ◌<◌, ◌⊎◌, ◌↔◌, take, sym, subst, ⊎_elim, arith, take_all}
use Rattle.lx_class.proofs.Unions.{grows_right}
use Rattle.lx_encode.proofs.Choices.{for_right, adds_none}
use Rattle.lx_encode.specs.Runs.{IsRow, LeadsShifted, LeadsTo}
use Rattle.lx_encode.proofs.RunLists.{run_at}
use Rattle.lx_encode.proofs.Shifts.{shifted_none, shifted_here, shifted_before, LeadsShifted-take_more}
use Rattle.lx_encode.proofs.runs.append_shifted.Goals as goal
use Rattle.lx_encode.proofs.runs.append_shifted.Goals.{then-lo-hi+in_ok-append_run, else-lo-hi}

pub append_run-requires-clause-behind : goal.append_run-requires-clause-behind
append_run-requires-clause-behind c = λ number target at.
    ⊎_elim
    (λ old. let lt : number < c.args.unit = c.requires.behind number target old in omega arith)
    (λ new. shifted_before c.args.from c.args.to c.args.unit number target c.args.runs.now c.loop-run.run-index c.loop-run-test.true c.requires.runs c.max-lo.result c.max-lo.ensures new)
    ((c.loop-run.invariant.leads number target).0 at)

pub loop-run-preserved : goal.loop-run-preserved
loop-run-preserved c =
    let xs = c.args.runs.now in
    let i = c.loop-run.run-index in
    let known = c.loop-run.invariant in
    elim c.if-lo-hi.branch [
      | then-lo-hi+in_ok-append_run w ↦ record {
        row = subst (λ v. IsRow v.items) (sym w.row-is) w.in_ok-append_run.ensures.row;
        leads = λ n t. subst (λ v. LeadsTo v.items n t ↔ (LeadsTo c.args.row.now.items n t ⊎ LeadsShifted (take (i + 1) xs) c.args.from c.args.to c.args.unit n t)) (sym w.row-is)
            (grows_right (w.in_ok-append_run.ensures.leads n t) (known.leads n t)
            (for_right (LeadsShifted-take_more c.args.from c.args.to c.args.unit n t xs i c.loop-run-test.true)
            (shifted_here c.args.from c.args.to c.args.unit n t (run_at xs i) c.max-lo.result c.min-hi.result c.max-lo.ensures c.min-hi.ensures w.if-lo-hi.true)));
      }
      | else-lo-hi w ↦ record {
        row = subst (λ v. IsRow v.items) (sym w.row-is) known.row;
        leads = λ n t. subst (λ v. LeadsTo v.items n t ↔ (LeadsTo c.args.row.now.items n t ⊎ LeadsShifted (take (i + 1) xs) c.args.from c.args.to c.args.unit n t)) (sym w.row-is)
            (adds_none (known.leads n t) (LeadsShifted-take_more c.args.from c.args.to c.args.unit n t xs i c.loop-run-test.true)
            (shifted_none c.args.from c.args.to c.args.unit n t (run_at xs i) c.max-lo.result c.min-hi.result c.max-lo.ensures c.min-hi.ensures w.if-lo-hi.false));
      }
    ]

pub returns-clause-leads : goal.returns-clause-leads
returns-clause-leads c =
    subst (λ l. (number target : ℕ) → LeadsTo c.loop-run.row.items number target ↔ (LeadsTo c.args.row.now.items number target ⊎ LeadsShifted l c.args.from c.args.to c.args.unit number target))
    (take_all c.loop-run.run-index c.args.runs.now c.loop-run-test.false) c.loop-run.invariant.leads
