use Rattle.std.proofs.Common.{◌≡◌, ◌++◌, length, reverse, slice_index_or, []}
use Rattle.lx_step.specs.Nodes.{contents, content_at, IsBelow}
use Rattle.lx_step.proofs.Nodes.{depth}
use Rattle.lx_step.proofs.histories.Histories.entries.Given as goal

abbrev pub invariant-loop-last : goal.invariant-loop-last
invariant-loop-last l = record {
  below : IsBelow (length l.self-inside.nodes.items) l.last;
  split : content_at (contents l.self-inside.nodes.items) l.last ++ reverse l.entries.items ≡ slice_index_or l.self l.history [];
}

abbrev pub decreases-loop-last : goal.decreases-loop-last
decreases-loop-last l = depth l.last
