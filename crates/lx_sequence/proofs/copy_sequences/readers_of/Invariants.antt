use Rattle.std.proofs.Common.{◌≡◌, ℕ, take}
use Rattle.lx_sequence.specs.CopyOps.{seen_copies}
use Rattle.lx_sequence.specs.ParallelCopies.{sources}
use Rattle.lx_sequence.specs.WaitingCopies.{count, reader_count}
use Rattle.lx_sequence.proofs.copy_sequences.readers_of.Given as goal

abbrev pub invariant-loop-copy : goal.invariant-loop-copy
invariant-loop-copy l = (reg : ℕ) → reader_count l.readers reg ≡ count reg (sources (seen_copies (take l.copy-index l.copies)))
