use Rattle.std.proofs.Common.{ℕ, ◌+◌, nat_eq, if◌then◌else◌, get_or, arith, ◌∙◌, ap, sym}
use Rattle.lx_sequence.specs.declared.copy_sequences.CopyOp.{CopyOp}
use Rattle.lx_sequence.proofs.WaitingCopies.{count-le-index, count-more}
use Rattle.lx_sequence.proofs.copy_sequences.readers_of.Goals as goal

pub add_readers-requires : goal.add_readers-requires
add_readers-requires c =
    let few = λ (reg : ℕ). count-le-index c.args.copies.now c.loop-copy.copy-index reg c.loop-copy.auto.copy-index-end in
    omega (arith, c.loop-copy.invariant, few)

pub loop-copy-preserved : goal.loop-copy-preserved
loop-copy-preserved c =
    let default : CopyOp = record { target = 0; source = 0 } in
    λ reg.
    c.in_ok-add_readers.ensures reg
    ∙ ap (λ n. n + (if nat_eq reg (get_or c.args.copies.now c.loop-copy.copy-index default).source then 1 else 0))
    (c.loop-copy.invariant reg)
    ∙ sym (count-more c.args.copies.now c.loop-copy.copy-index default c.loop-copy-test.true reg)
