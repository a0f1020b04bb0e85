use Rattle.std.proofs.Common.{◌≡◌, ◌++◌, drop}
use Rattle.lx_layout.specs.Copies.{codes_in, moved_codes}
use Rattle.lx_layout.specs.Plans.{unlabelled}
use Rattle.lx_layout.proofs.copies.append_moved.Given as goal

abbrev pub invariant-loop-block : goal.invariant-loop-block
invariant-loop-block l =
    l.blocks.items ++ unlabelled (moved_codes l.by l.stored (codes_in (drop l.block-index l.front)))
    ≡ l.initial.blocks.items ++ unlabelled (moved_codes l.by l.stored (codes_in l.front))
