use Rattle.std.proofs.Common.{◌∙◌, ap}
use Rattle.lx_ccode.specs.Counts.{greatest_of, register_in}
use Rattle.lx_ccode.proofs.Greatest.{greatest-more}
use Rattle.lx_ccode.proofs.counts.regs_of.Goals as goal

pub loop-block-preserved : goal.loop-block-preserved
loop-block-preserved c =
    greatest-more register_in c.args.blocks.now c.loop-block.block-index c.block-item.result c.loop-block.greatest _ _ _
    c.loop-block-test.true c.block-item.is (c.greatest_register.ensures ∙ ap (greatest_of register_in) c.as_slice.ensures) c.max-greatest.ensures c.loop-block.invariant
