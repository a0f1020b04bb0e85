use Rattle.std.proofs.Common.{◌≡◌, ◌++◌, drop}
use Rattle.lx_sequence.specs.ParallelCopies.{added_marks}
use Rattle.lx_sequence.proofs.sequences.append_added.Given as goal

abbrev pub invariant-loop-op : goal.invariant-loop-op
invariant-loop-op l = l.list.items ++ added_marks (drop l.op-index l.ops) ≡ l.initial.list.items ++ added_marks l.ops
