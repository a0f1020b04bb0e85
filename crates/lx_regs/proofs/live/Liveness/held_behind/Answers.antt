use Rattle.lx_regs.specs.declared.keys.Key.TheVariants.{Reg}
use Rattle.lx_regs.specs.declared.live.Usage.{Usage}
use Rattle.lx_regs.proofs.CutOperations.KeptUsages.{behind-more}
use Rattle.lx_regs.proofs.LiveRegisters.UsageOrder.{up_to-next}
use Rattle.lx_regs.proofs.live.Liveness.held_behind.Goals as goal

abbrev none : Usage
none = record { group = 0; key = Reg 0 }

pub add_usage-requires-clause-behind : goal.add_usage-requires-clause-behind
add_usage-requires-clause-behind c =
    up_to-next c.args.self.now.numbers.items c.args.self.now.pairs c.args.state c.args.usages.now c.loop-usage.usage-index none
    c.loop-usage.registers.items c.loop-usage-test.true c.requires.order c.loop-usage.invariant.0

pub loop-usage-preserved : goal.loop-usage-preserved
loop-usage-preserved c = (
  behind-more c.args.self.now.numbers.items c.args.self.now.pairs c.args.state c.args.usages.now c.loop-usage.usage-index none
      c.loop-usage.registers.items c.add_usage.new.registers.items c.loop-usage-test.true c.in_ok-add_usage.ensures.adds
      c.loop-usage.invariant.0,
  c.in_ok-add_usage.ensures.order,
)
