use Rattle.lx_auto.specs.declared.automaton.Held.TheVariants.{Reg}
use Rattle.lx_regs.specs.Items.{IsReadAt}
use Rattle.lx_regs.proofs.LiveRegisters.GrownLists.{grows-place}
use Rattle.lx_regs.proofs.items.add_reads.Goals as goal

pub loop-value-preserved : goal.loop-value-preserved
loop-value-preserved c =
    grows-place c.args.values.now (IsReadAt c.args.state c.args.ops.now) c.loop-value.value-index (Reg 0) c.args.found.now
    c.loop-value.found
    c.add_read.new.found c.loop-value-test.true c.loop-value.invariant c.in_ok-add_read.ensures
