use Rattle.std.proofs.Common.{◌≡◌, ◌++◌, drop}
use Rattle.lx_layout.specs.LaidParts.{rule_at, saved_at}
use Rattle.lx_layout.specs.Layout.{restore_blocks}
use Rattle.lx_layout.specs.Plans.{seen_accepts, unlabelled}
use Rattle.lx_layout.proofs.part_fallback.append_restores.Given as goal

abbrev pub invariant-loop-first : goal.invariant-loop-first
invariant-loop-first l =
    l.blocks.items ++ unlabelled (restore_blocks (rule_at l.ends.plans) (seen_accepts (drop l.first-index l.first-items)))
    ≡ l.initial.blocks.items ++ unlabelled (restore_blocks (rule_at l.ends.plans) (saved_at l.ends.plans))
