use Rattle.std.proofs.Common.{◌<◌, nat_eq, ◌∙◌, ap, subst, sym}
use Rattle.lx_sequence.specs.CopyOps.{seen_copies, seen_copy}
use Rattle.lx_sequence.specs.WaitingCopies.{copy_at, copy_of, reader_count, waiting_copies, waits}
use Rattle.lx_sequence.proofs.WaitingCopies.{AreNoted-taken, IsReadyNoted-taken, lt-count-taken, targets-taken, waiting_copies-taken}
use Rattle.lx_sequence.proofs.copy_sequences.take_copy.Goals as goal

pub copy_at-copy-requires : goal.copy_at-copy-requires
copy_at-copy-requires c = c.requires.kept.noted.within c.args.place c.requires.waits

pub drop_reader-requires : goal.drop_reader-requires
drop_reader-requires c =
    subst (λ n. 0 < n)
    (sym (c.requires.kept.noted.readers (copy_at c.args.spare c.args.list.now c.args.place).1)
    ∙ ap (λ copy. reader_count c.args.list.now.readers copy.1) (sym c.copy_at-copy.ensures))
    (lt-count-taken c.args.spare c.args.list.now c.requires.kept.noted c.args.place c.requires.waits)

pub note_ready-requires-clause-noted : goal.note_ready-requires-clause-noted
note_ready-requires-clause-noted c =
    AreNoted-taken c.args.spare c.args.list.now c.requires.kept.noted c.args.place c.requires.waits c.take_place.new.places
    c.take_place-2.new.places
    c.drop_reader.new.readers (seen_copy c.copy_at-copy.result) c.copy_at-copy.ensures c.take_place.ensures c.in_ok-drop_reader.ensures

pub note_ready-requires-clause-others : goal.note_ready-requires-clause-others
note_ready-requires-clause-others c =
    IsReadyNoted-taken c.args.spare c.args.list.now c.requires.kept.noted c.args.place c.requires.waits c.take_place.new.places
    c.take_place-2.new.places
    c.drop_reader.new.readers (seen_copy c.copy_at-copy.result) c.copy_at-copy.ensures c.take_place.ensures c.in_ok-drop_reader.ensures
    c.requires.kept.ready c.take_place-2.ensures

pub returns-clause-others : goal.returns-clause-others
returns-clause-others c =
    ap (λ list. waiting_copies c.args.spare list) c.in_ok-note_ready.ensures.rest
    ∙ waiting_copies-taken c.args.spare c.args.list.now c.requires.kept.noted c.args.place c.requires.waits c.take_place.new.places
    c.note_ready.new.list.ready
    c.drop_reader.new.readers (seen_copy c.copy_at-copy.result) c.copy_at-copy.ensures c.take_place.ensures c.in_ok-drop_reader.ensures

pub returns-clause-once : goal.returns-clause-once
returns-clause-once c =
    let rest = c.in_ok-note_ready.ensures.rest in
    λ other. λ e.
    ap (λ list. nat_eq (copy_of (seen_copies list.copies.items) other).0 c.copy_at-copy.result.target) rest
    ∙ targets-taken c.args.spare c.args.list.now c.requires.kept.noted c.args.place c.requires.waits c.take_place.new.places
    c.note_ready.new.list.ready
    c.drop_reader.new.readers (seen_copy c.copy_at-copy.result) c.copy_at-copy.ensures c.take_place.ensures c.in_ok-drop_reader.ensures
    other (sym (ap (λ list. waits list other) rest) ∙ e)
