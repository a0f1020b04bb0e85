use Rattle.lx_auto.specs.Automaton.{IsAuto}
use Rattle.lx_auto.specs.Live.{EachTargetIsRead}
use Rattle.lx_auto.specs.SameRun.{HasSameRun}
use Rattle.lx_regs.specs.IdleOps.{count_in}
use Rattle.lx_regs.specs.Shapes.{KeepsShape}
use Rattle.lx_regs.specs.WrittenBeside.{AllMayInterfere}
use Rattle.lx_regs.proofs.sharing_rounds.share_all.Given as goal

abbrev pub invariant-rounds : goal.invariant-rounds
invariant-rounds l = record {
  formed : IsAuto l.shared;
  run : HasSameRun l.shared l.fn.auto;
  apart : AllMayInterfere l.shared;
  read : EachTargetIsRead l.shared;
  kept : KeepsShape l.fn.auto l.shared;
}

abbrev pub decreases-rounds : goal.decreases-rounds
decreases-rounds l = count_in l.shared.states
