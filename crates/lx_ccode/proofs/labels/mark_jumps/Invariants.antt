use Rattle.std.proofs.Common.{◌≡◌, drop}
use Rattle.lx_ccode.specs.Labels.{all_targets, marked}
use Rattle.lx_ccode.specs.Statements.{all_statements}
use Rattle.lx_ccode.proofs.labels.mark_jumps.Given as goal

abbrev pub invariant-loop-block : goal.invariant-loop-block
invariant-loop-block l =
    marked l.labels.items (all_targets (all_statements (drop l.block-index l.blocks))) ≡ marked l.initial.labels.items (all_targets (all_statements l.blocks))
