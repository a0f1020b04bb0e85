use Rattle.std.proofs.Common.{◌≡◌, ◌-◌, ◌++◌, length}
use Rattle.lx_sequence.specs.CopyOps.{seen_copies}
use Rattle.lx_sequence.specs.ParallelCopies.{in_sequence}
use Rattle.lx_sequence.specs.WaitingCopies.{AreKept, waiting_copies}
use Rattle.lx_sequence.proofs.copy_sequences.in_sequence.Given as goal

abbrev pub invariant-loop-turn : goal.invariant-loop-turn
invariant-loop-turn l =
    record {
      put : seen_copies l.done.items ++ in_sequence (l.count - l._turn) l.spare (waiting_copies l.spare l.list)
          ≡ in_sequence (length (seen_copies l.fn.copies.items)) l.spare (seen_copies l.fn.copies.items);
      kept : AreKept l.spare l.list;
    }
