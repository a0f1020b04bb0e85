use Rattle.std.proofs.Common.{◌≡◌, drop}
use Rattle.std.specs.List.{list_any}
use Rattle.lx_rules.specs.Blocks.{is_labeled_as_block}
use Rattle.lx_rules.specs.Conditions.{cond_names}
use Rattle.lx_rules.proofs.labels.any_is_labeled_as_block.Given as goal

abbrev pub invariant-loop-number : goal.invariant-loop-number
invariant-loop-number l =
    list_any (is_labeled_as_block l.names) (drop l.number (cond_names l.conds)) ≡ list_any (is_labeled_as_block l.names) (cond_names l.conds)
