use Rattle.lx_auto.specs.SameRun.{HasSameRun}
use Rattle.lx_auto.specs.Shapes.{StaysWithin}
use Rattle.std.proofs.Common.{rules}
use Rattle.std.proofs.lemmas.Result.{IfOk-weaker}
use Rattle.lx_auto.proofs.Kept.{StaysWithin-through}
use Rattle.lx_auto.proofs.SameRuns.{same_run-through}
use Rattle.lx_regs.proofs.Translations.Shapes.{StaysWithin-shape}
use Rattle.lx_compile.proofs.NoRegisters.{AllInterfere-none, EachTargetIsRead-none}
use Rattle.lx_compile.proofs.reduction.reduced.Goals as goal

pub returns-clause-run : goal.returns-clause-run
returns-clause-run c =
    let given = c.args.auto in
    let few = c.in_ok-few.few in
    IfOk-weaker c.minimize-2.result (λ answer. HasSameRun answer few) (λ answer. HasSameRun answer given)
    (λ answer runs. same_run-through answer few given runs c.in_ok-few.ensures.run)
    c.minimize-2.ensures.run

pub returns-clause-within : goal.returns-clause-within
returns-clause-within c =
    let given = c.args.auto in
    let few = c.in_ok-few.few in
    let first = StaysWithin-shape given few c.in_ok-few.ensures.kept in
    IfOk-weaker c.minimize-2.result (λ answer. StaysWithin few answer) (λ answer. StaysWithin given answer)
    (λ answer within. StaysWithin-through given few answer first within) c.minimize-2.ensures.within

pub returns-then-has_no_registers-clause-reduced : goal.returns-then-has_no_registers-clause-reduced
returns-then-has_no_registers-clause-reduced c =
    let given = c.args.auto in
    let none = c.has_no_registers.ensures c.if-has_no_registers.true in
    let read = EachTargetIsRead-none given c.requires none.0 none.1 in
    let interfere = AllInterfere-none given none.0 none.1 in
    search rules
