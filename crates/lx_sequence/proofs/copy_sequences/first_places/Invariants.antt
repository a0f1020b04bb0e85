use Rattle.std.proofs.Common.{◌≡◌, ℕ, nat_cmp, nat_lt}
use Rattle.std.specs.BTreeSet.{contains}
use Rattle.lx_sequence.proofs.copy_sequences.first_places.Given as goal

abbrev pub invariant-loop-place : goal.invariant-loop-place
invariant-loop-place l = (place : ℕ) → contains nat_cmp l.places place ≡ nat_lt place l.place
