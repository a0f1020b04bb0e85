use Rattle.lx_sequence.specs.CopyOps.{seen_copies}
use Rattle.lx_sequence.specs.WaitingCopies.{ArePlaces}
use Rattle.lx_sequence.proofs.copy_sequences.places_of.Given as goal

abbrev pub invariant-loop-place : goal.invariant-loop-place
invariant-loop-place l = ArePlaces l.places (seen_copies l.copies) l.place
