use Rattle.std.proofs.Common.{◌∙◌, ap, sym}
use Rattle.std.specs.List.{list_any}
use Rattle.lx_auto.proofs.SameRuns.{same_run-through}
use Rattle.lx_regs.specs.IdleOps.{some_itself_at}
use Rattle.lx_regs.proofs.SharedNames.AlteredRegisters.{AllInterfere-written}
use Rattle.lx_regs.proofs.Translations.Shapes.{KeepsShape-through}
use Rattle.lx_regs.proofs.sharing_rounds.share_all.Goals as goal

pub rounds-init : goal.rounds-init
rounds-init c = record {
  formed = c.in_ok-shared.ensures.formed;
  run = c.in_ok-shared.ensures.run;
  apart = c.in_ok-shared.ensures.apart;
  read = c.in_ok-shared.ensures.read c.requires.read;
  kept = c.in_ok-shared.ensures.kept;
}

pub rounds-preserved : goal.rounds-preserved
rounds-preserved c =
    let given = c.args.auto in
    let shared = c.rounds.shared in
    let next = c.in_ok-next.next in
    record {
      formed = c.in_ok-next.ensures.formed;
      run = same_run-through next shared given c.in_ok-next.ensures.run c.rounds.invariant.run;
      apart = c.in_ok-next.ensures.apart;
      read = c.in_ok-next.ensures.read;
      kept = KeepsShape-through given shared next c.rounds.invariant.kept c.in_ok-next.ensures.kept;
    }

pub rounds-smaller : goal.rounds-smaller
rounds-smaller c = c.in_ok-next.ensures.fewer
    (sym (ap (list_any some_itself_at) c.as_slice.ensures) ∙ sym c.some_at_states.ensures ∙ c.rounds-test.true)

pub returns-clause-apart : goal.returns-clause-apart
returns-clause-apart c =
    AllInterfere-written c.rounds.shared c.rounds.invariant.read
    (sym (ap (list_any some_itself_at) c.as_slice.ensures) ∙ sym c.some_at_states.ensures ∙ c.rounds-test.false) c.rounds.invariant.apart
