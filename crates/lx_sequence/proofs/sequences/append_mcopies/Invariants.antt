use Rattle.std.proofs.Common.{◌≡◌, ◌++◌, drop}
use Rattle.lx_sequence.specs.CopyOps.{seen_copies}
use Rattle.lx_sequence.specs.ParallelCopies.{mcopy_ops}
use Rattle.lx_sequence.proofs.sequences.append_mcopies.Given as goal

abbrev pub invariant-loop-copy : goal.invariant-loop-copy
invariant-loop-copy l =
    l.list.items ++ mcopy_ops (seen_copies (drop l.copy-index l.copies)) ≡ l.initial.list.items ++ mcopy_ops (seen_copies l.copies)
