use Rattle.std.proofs.Common.{length}
use Rattle.lx_auto.specs.declared.automaton.Held.TheVariants.{Reg}
use Rattle.lx_cover.proofs.MachineSteps.{held-at}
use Rattle.lx_cover.proofs.registers.Registers.values.Goals as goal

pub value-requires : goal.value-requires
value-requires c =
    held-at (length c.args.self.now.values.items) (length c.args.self.now.histories.items) c.args.held.now c.loop-place.place-index (Reg 0)
    c.requires c.loop-place-test.true
