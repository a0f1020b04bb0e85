use Rattle.std.proofs.Common.{◌≡◌, ◌++◌, take, drop}
use Rattle.std.specs.Prelude.{map}
use Rattle.lx_layout.specs.Forgetting.{forgetting_block}
use Rattle.lx_layout.proofs.forgetting.forget_in_all.Given as goal

abbrev pub invariant-loop-block : goal.invariant-loop-block
invariant-loop-block l =
    l.block-items ≡ map forgetting_block (take l.block-index l.fn.blocks.items) ++ drop l.block-index l.fn.blocks.items
