use Rattle.std.proofs.Common.{◌≡◌, ◌&&◌, ℕ, nat_cmp, nat_lt}
use Rattle.std.specs.BTreeSet.{contains}
use Rattle.lx_sequence.specs.CopyOps.{seen_copies}
use Rattle.lx_sequence.specs.WaitingCopies.{copy_of, is_unread}
use Rattle.lx_sequence.proofs.copy_sequences.ready_places.Given as goal

abbrev pub invariant-loop-place : goal.invariant-loop-place
invariant-loop-place l =
    (place : ℕ) → contains nat_cmp l.places place
    ≡ (nat_lt place l.place && is_unread (seen_copies l.copies) (copy_of (seen_copies l.copies) place))
