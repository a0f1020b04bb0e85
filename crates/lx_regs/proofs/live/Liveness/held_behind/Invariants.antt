use Rattle.std.proofs.Common.{take}
use Rattle.lx_regs.specs.LiveSets.{AreAscending}
use Rattle.lx_regs.specs.Liveness.{AreHeldBehind}
use Rattle.lx_regs.proofs.live.Liveness.held_behind.Given as goal

abbrev pub invariant-loop-usage : goal.invariant-loop-usage
invariant-loop-usage l =
    AreHeldBehind l.self.numbers.items l.self.pairs l.state (take l.usage-index l.usages) l.registers.items × AreAscending l.registers.items
