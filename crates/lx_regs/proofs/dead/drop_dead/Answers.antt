use Rattle.std.proofs.Common.{refl}
use Rattle.lx_auto.specs.declared.automaton.Auto.{Auto}
use Rattle.lx_auto.proofs.Translations.{translation-same_run}
use Rattle.lx_regs.specs.Dead.{IsCut}
use Rattle.lx_regs.proofs.CutOperations.CutAutomata.{IsAuto-cut, KeepsShape-cut, own_names, translation-cut}
use Rattle.lx_regs.proofs.CutOperations.CutLive.{EachTargetIsRead-cut}
use Rattle.lx_regs.proofs.CutOperations.FewerOps.{count_in-cut}
use Rattle.lx_regs.proofs.dead.drop_dead.Goals as goal

pub returns-clause-formed : goal.returns-clause-formed
returns-clause-formed c =
    let answer : Auto = record { states = c.in_ok-states.states; regs = c.args.auto.regs; mregs = c.args.auto.mregs } in
    let is : IsCut c.args.auto answer = record { regs = refl; mregs = refl; states = c.in_ok-states.ensures } in
    IsAuto-cut c.args.auto answer is c.requires

pub returns-clause-run : goal.returns-clause-run
returns-clause-run c =
    let answer : Auto = record { states = c.in_ok-states.states; regs = c.args.auto.regs; mregs = c.args.auto.mregs } in
    let is : IsCut c.args.auto answer = record { regs = refl; mregs = refl; states = c.in_ok-states.ensures } in
    translation-same_run c.args.auto answer (own_names c.args.auto answer is) (translation-cut c.args.auto answer is)

pub returns-clause-read : goal.returns-clause-read
returns-clause-read c =
    let answer : Auto = record { states = c.in_ok-states.states; regs = c.args.auto.regs; mregs = c.args.auto.mregs } in
    let is : IsCut c.args.auto answer = record { regs = refl; mregs = refl; states = c.in_ok-states.ensures } in
    EachTargetIsRead-cut c.args.auto answer is

pub returns-clause-kept : goal.returns-clause-kept
returns-clause-kept c =
    let answer : Auto = record { states = c.in_ok-states.states; regs = c.args.auto.regs; mregs = c.args.auto.mregs } in
    let is : IsCut c.args.auto answer = record { regs = refl; mregs = refl; states = c.in_ok-states.ensures } in
    KeepsShape-cut c.args.auto answer is

pub returns-clause-fewer : goal.returns-clause-fewer
returns-clause-fewer c =
    let answer : Auto = record { states = c.in_ok-states.states; regs = c.args.auto.regs; mregs = c.args.auto.mregs } in
    let is : IsCut c.args.auto answer = record { regs = refl; mregs = refl; states = c.in_ok-states.ensures } in
    count_in-cut c.args.auto answer is
