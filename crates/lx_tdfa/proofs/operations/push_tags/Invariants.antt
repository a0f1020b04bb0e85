use Rattle.std.proofs.Common.{◌≡◌, ◌+◌, ◌++◌, drop}
use Rattle.lx_tdfa.specs.Registers.{all_tag_ops}
use Rattle.lx_tdfa.proofs.operations.push_tags.Given as goal

abbrev pub invariant-loop-tag : goal.invariant-loop-tag
invariant-loop-tag l =
    l.ops ++ all_tag_ops l.transfer.is_first (l.transfer.source + l.tag) (l.transfer.target + l.tag) l.tag l.events (drop l.tag l.kinds)
    ≡ l.initial.ops ++ all_tag_ops l.transfer.is_first l.transfer.source l.transfer.target 0 l.events l.kinds
