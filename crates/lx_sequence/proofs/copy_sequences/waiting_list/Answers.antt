use Rattle.std.proofs.Common.{◌≡◌, ◌&&◌, nat_lt, length, ◌∙◌, ap, subst, sym}
use Rattle.lx_sequence.specs.CopyOps.{seen_copies}
use Rattle.lx_sequence.specs.ParallelCopies.{sources}
use Rattle.lx_sequence.specs.WaitingCopies.{ArePlaces, copy_of, count, is_unread}
use Rattle.lx_sequence.proofs.WaitingCopies.{AreKept-new, waiting_copies-new}
use Rattle.lx_sequence.proofs.copy_sequences.waiting_list.Goals as goal

pub returns-clause-copies : goal.returns-clause-copies
returns-clause-copies c =
    let number : c.len.result ≡ length c.args.copies.items =
    c.len.ensures ∙ sym c.deref.ensures.len ∙ ap (λ l. length l) c.deref.ensures.value in
    waiting_copies-new c.args.spare
    (record {
      copies = c.args.copies;
      places = c.in_ok-places.places;
      waiting = c.in_ok-waiting.waiting;
      ready = c.in_ok-ready.ready;
      readers = c.in_ok-readers.readers;
      moved = c.new.result;
    })
    c.new.ensures.empty (λ place. c.in_ok-waiting.ensures place ∙ ap (λ n. nat_lt place n) number)

pub returns-clause-kept : goal.returns-clause-kept
returns-clause-kept c =
    let number : c.len.result ≡ length c.args.copies.items =
    c.len.ensures ∙ sym c.deref.ensures.len ∙ ap (λ l. length l) c.deref.ensures.value in
    AreKept-new c.args.spare
    (record {
      copies = c.args.copies;
      places = c.in_ok-places.places;
      waiting = c.in_ok-waiting.waiting;
      ready = c.in_ok-ready.ready;
      readers = c.in_ok-readers.readers;
      moved = c.new.result;
    })
    c.new.ensures.empty (λ place. c.in_ok-waiting.ensures place ∙ ap (λ n. nat_lt place n) number)
    (subst (λ l. ArePlaces c.in_ok-places.places (seen_copies l) (length l)) c.deref.ensures.value c.in_ok-places.ensures)
    (λ reg. c.in_ok-readers.ensures reg ∙ ap (λ l. count reg (sources (seen_copies l))) c.deref-2.ensures.value)
    (λ place.
    c.in_ok-ready.ensures place
    ∙ ap (λ l. nat_lt place (length l) && is_unread (seen_copies l) (copy_of (seen_copies l) place)) c.deref-3.ensures.value)
