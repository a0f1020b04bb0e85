-- What each pass keeps, all keep.
use Rattle.std.proofs.Common.{IfOk, Result, Ok, Err}
use Rattle.lx_auto.proofs.SameRuns.{same_run-through}
use Rattle.lx_regs.proofs.Translations.Shapes.{KeepsShape-through}
use Rattle.lx_regs.proofs.allocation.allocate_folded.Goals as goal

-- what follows from a fact on an answer
IfOk-then : {A E : Type 0} (P Q : A → Type 0) (result : Result A E) → ((answer : A) → P answer → Q answer) → IfOk result P → IfOk result Q
IfOk-then P Q (Ok answer) step holds = step answer holds
IfOk-then P Q (Err error) step holds = tt

pub returns-clause-run : goal.returns-clause-run
returns-clause-run c =
    let given = c.args.auto in
    let merged = c.in_ok-merged.merged in
    let read = c.in_ok-read.read in
    let chosen = c.in_ok-chosen.chosen in
    let needed = c.in_ok-needed.needed in
    let live = c.in_ok-live.live in
    IfOk-then _ _ c.share_all.result
    (λ answer run. same_run-through answer merged given
    (same_run-through answer read merged
    (same_run-through answer chosen read
    (same_run-through answer needed chosen
    (same_run-through answer live needed run c.in_ok-live.ensures.run) c.in_ok-needed.ensures.run) c.in_ok-chosen.ensures.run)
    c.in_ok-read.ensures.run)
    c.in_ok-merged.ensures.run)
    c.share_all.ensures.run

pub returns-clause-kept : goal.returns-clause-kept
returns-clause-kept c =
    let given = c.args.auto in
    let merged = c.in_ok-merged.merged in
    let read = c.in_ok-read.read in
    let chosen = c.in_ok-chosen.chosen in
    let needed = c.in_ok-needed.needed in
    let live = c.in_ok-live.live in
    IfOk-then _ _ c.share_all.result
    (λ answer kept. KeepsShape-through given merged answer c.in_ok-merged.ensures.kept
    (KeepsShape-through merged read answer c.in_ok-read.ensures.kept
    (KeepsShape-through read chosen answer c.in_ok-chosen.ensures.kept
    (KeepsShape-through chosen needed answer c.in_ok-needed.ensures.kept
    (KeepsShape-through needed live answer c.in_ok-live.ensures.kept kept)))))
    c.share_all.ensures.kept
