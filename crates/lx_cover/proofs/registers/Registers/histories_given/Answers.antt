use Rattle.std.proofs.Common.{length}
use Rattle.lx_auto.specs.declared.ops.Op.TheVariants.{Here}
use Rattle.lx_cover.proofs.OpSteps.{op-at}
use Rattle.lx_cover.proofs.registers.Registers.histories_given.Goals as goal

pub history_given-requires : goal.history_given-requires
history_given-requires c =
    op-at (length c.args.self.now.values.items) (length c.args.self.now.histories.items) c.args.ops.now c.loop-op.op-index (Here 0)
    c.requires c.loop-op-test.true
