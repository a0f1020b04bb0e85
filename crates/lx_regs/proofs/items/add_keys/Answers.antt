use Rattle.lx_regs.specs.declared.keys.Key.TheVariants.{Reg}
use Rattle.lx_regs.specs.Items.{IsAt}
use Rattle.lx_regs.proofs.LiveRegisters.GrownLists.{grows-place}
use Rattle.lx_regs.proofs.LiveRegisters.ItemTests.{TellsEqual-items}
use Rattle.lx_regs.proofs.items.add_keys.Goals as goal

pub loop-key-preserved : goal.loop-key-preserved
loop-key-preserved c =
    grows-place c.args.keys.now (IsAt c.args.pair) c.loop-key.key-index (Reg 0) c.args.found.now c.loop-key.found c.add.new.self
    c.loop-key-test.true c.loop-key.invariant (c.in_ok-add.ensures TellsEqual-items)
