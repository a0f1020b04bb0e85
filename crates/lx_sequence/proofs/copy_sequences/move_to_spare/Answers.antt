use Rattle.std.proofs.Common.{arith, ◌∙◌, ap}
use Rattle.lx_sequence.specs.WaitingCopies.{waiting_copies}
use Rattle.lx_sequence.proofs.WaitingCopies.{AreNoted-moved, IsReadyNoted-moved, count-le-moved, waiting_copies-moved}
use Rattle.lx_sequence.proofs.copy_sequences.move_to_spare.Goals as goal

pub move_readers-requires : goal.move_readers-requires
move_readers-requires c =
    let few = count-le-moved c.args.spare c.args.list.now c.requires.kept.noted c.args.reg in
    omega (arith, few)

pub note_ready-requires-clause-noted : goal.note_ready-requires-clause-noted
note_ready-requires-clause-noted c =
    AreNoted-moved c.args.spare c.args.list.now c.requires.kept.noted c.args.reg c.move_readers.new.readers c.note_moved.new.moved
    c.in_ok-note_moved.ensures
    c.in_ok-move_readers.ensures

pub note_ready-requires-clause-others : goal.note_ready-requires-clause-others
note_ready-requires-clause-others c =
    IsReadyNoted-moved c.args.spare c.args.list.now c.requires.kept.noted c.args.reg c.move_readers.new.readers c.note_moved.new.moved
    c.in_ok-note_moved.ensures
    c.in_ok-move_readers.ensures c.requires.kept.ready c.requires.free

pub returns-clause-copies : goal.returns-clause-copies
returns-clause-copies c =
    ap (λ list. waiting_copies c.args.spare list) c.in_ok-note_ready.ensures.rest
    ∙ waiting_copies-moved c.args.spare c.args.list.now c.requires.kept.noted c.args.reg c.move_readers.new.readers c.note_moved.new.moved
    c.in_ok-note_moved.ensures
    c.in_ok-move_readers.ensures
