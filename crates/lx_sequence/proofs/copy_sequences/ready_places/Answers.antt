use Rattle.std.proofs.Common.{nat_eq, if◌then◌else◌, ◌∙◌, ap}
use Rattle.lx_sequence.specs.CopyOps.{seen_copies}
use Rattle.lx_sequence.specs.WaitingCopies.{copy_of, is_unread, reader_count}
use Rattle.lx_sequence.proofs.WaitingCopies.{ready_places-more, seen_copy-at}
use Rattle.lx_sequence.proofs.copy_sequences.ready_places.Goals as goal

pub loop-place-preserved : goal.loop-place-preserved
loop-place-preserved c =
    let copies = seen_copies c.args.copies.now in
    ready_places-more c.loop-place.places c.put_place.new.places (λ place. is_unread copies (copy_of copies place)) c.loop-place.place
    c.is_unread.result
    (c.is_unread.ensures
    ∙ ap (λ copy. nat_eq (reader_count c.args.readers.now copy.0) (if nat_eq copy.0 copy.1 then 1 else 0))
    (seen_copy-at c.args.copies.now c.loop-place.place _ c.loop-place-test.true)
    ∙ ap (λ n. nat_eq n (if nat_eq (copy_of copies c.loop-place.place).0 (copy_of copies c.loop-place.place).1 then 1 else 0))
    (c.requires (copy_of copies c.loop-place.place).0))
    c.loop-place.invariant c.in_ok-put_place.ensures
