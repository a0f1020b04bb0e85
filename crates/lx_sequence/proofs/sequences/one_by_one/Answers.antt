use Rattle.std.proofs.Common.{nat_eq, subst, sym}
use Rattle.std.specs.List.{IsDistinct}
use Rattle.lx_sequence.specs.ParallelCopies.{copies, mcopies, targets}
use Rattle.lx_sequence.proofs.Sequentialized.{AllApart-copies, AllApart-mcopies}
use Rattle.lx_sequence.proofs.WaitingCopies.{IsDistinct-from_apart}
use Rattle.lx_sequence.proofs.sequences.one_by_one.Goals as goal

pub in_sequence-requires : goal.in_sequence-requires
in_sequence-requires c =
    subst (λ list. IsDistinct nat_eq (targets list)) (sym c.in_ok-copies_of.ensures)
    (IsDistinct-from_apart (targets (copies c.args.ops.now)) (AllApart-copies c.args.ops.now))

pub in_sequence-requires-2 : goal.in_sequence-requires-2
in_sequence-requires-2 c =
    subst (λ list. IsDistinct nat_eq (targets list)) (sym c.in_ok-mcopies_of.ensures)
    (IsDistinct-from_apart (targets (mcopies c.args.ops.now)) (AllApart-mcopies c.args.ops.now))
