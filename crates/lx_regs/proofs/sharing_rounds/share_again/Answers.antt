use Rattle.std.proofs.Common.{◌≡◌, ◌<◌, subst, sym}
use Rattle.std.proofs.lemmas.Result.{IfOk-weaker}
use Rattle.std.specs.Prelude.{true}
use Rattle.std.specs.List.{list_any}
use Rattle.lx_auto.specs.declared.automaton.Auto.{Auto}
use Rattle.lx_auto.specs.SameRun.{HasSameRun}
use Rattle.lx_auto.proofs.SameRuns.{same_run-through}
use Rattle.lx_regs.specs.IdleOps.{count_in, some_itself_at}
use Rattle.lx_regs.specs.Shapes.{KeepsShape}
use Rattle.lx_regs.proofs.Translations.Shapes.{KeepsShape-through}
use Rattle.lx_regs.proofs.sharing_rounds.share_again.Goals as goal

pub returns-clause-run : goal.returns-clause-run
returns-clause-run c =
    let fewer = c.in_ok-fewer.fewer in
    IfOk-weaker c.share_registers.result (λ (answer : Auto). HasSameRun answer fewer) (λ (answer : Auto). HasSameRun answer c.args.auto)
    (λ answer run. same_run-through answer fewer c.args.auto run c.in_ok-fewer.ensures.run) c.share_registers.ensures.run

pub returns-clause-read : goal.returns-clause-read
returns-clause-read c = c.share_registers.ensures.read c.in_ok-fewer.ensures.read

pub returns-clause-kept : goal.returns-clause-kept
returns-clause-kept c =
    let fewer = c.in_ok-fewer.fewer in
    IfOk-weaker c.share_registers.result (λ (answer : Auto). KeepsShape fewer answer) (λ (answer : Auto). KeepsShape c.args.auto answer)
    (λ answer kept. KeepsShape-through c.args.auto fewer answer c.in_ok-fewer.ensures.kept kept) c.share_registers.ensures.kept

pub returns-clause-fewer : goal.returns-clause-fewer
returns-clause-fewer c =
    let auto = c.args.auto in
    let fewer = c.in_ok-fewer.fewer in
    IfOk-weaker c.share_registers.result (λ (answer : Auto). count_in answer.states ≡ count_in fewer.states)
    (λ (answer : Auto). list_any some_itself_at auto.states ≡ true → count_in answer.states < count_in auto.states)
    (λ answer same some. subst (λ n. n < count_in auto.states) (sym same) (c.in_ok-fewer.ensures.fewer some))
    c.share_registers.ensures.count
