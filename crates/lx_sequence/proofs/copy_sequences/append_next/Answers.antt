use Rattle.std.proofs.Common.{◌++◌, Some, ◌∙◌, ap, sym}
use Rattle.lx_sequence.specs.CopyOps.{seen_copies}
use Rattle.lx_sequence.specs.ParallelCopies.{next_copies}
use Rattle.lx_sequence.specs.WaitingCopies.{other_copies, waiting_copies}
use Rattle.lx_sequence.proofs.WaitingCopies.{next_copies-found, next_copies-none, unread_target-first, unread_target-no_place, waiting_copies-none, waits-ready}
use Rattle.lx_sequence.proofs.copy_sequences.append_next.Goals as goal

pub take_copy-requires-clause-waits : goal.take_copy-requires-clause-waits
take_copy-requires-clause-waits c = waits-ready c.args.spare c.args.list.now c.requires c.in-Some.place c.in-Some.ensures.0

pub returns-in_ok-push-clause-next : goal.returns-in_ok-push-clause-next
returns-in_ok-push-clause-next c =
    let others = other_copies c.args.spare c.args.list.now c.in-Some.place in
    λ onward. λ last.
    ap (λ l. seen_copies c.push.new.self.items ++ onward l) c.in_ok-take_copy.ensures.others
    ∙ next_copies-found c.args.spare c.args.done.now.items c.push.new.self.items c.in_ok-take_copy.field-0
    (waiting_copies c.args.spare c.args.list.now) others
    c.in_ok-push.ensures.items
    (unread_target-first c.args.spare c.args.list.now c.requires c.in-Some.place c.in-Some.ensures
    ∙ ap (λ copy. Some (copy, others)) (sym c.in_ok-take_copy.ensures.copy))
    onward

pub returns-in_ok-append_first-clause-next : goal.returns-in_ok-append_first-clause-next
returns-in_ok-append_first-clause-next c =
    λ onward. λ last.
    c.in_ok-append_first.ensures.next onward
    ∙ ap (λ found. seen_copies c.args.done.now.items ++ next_copies c.args.spare found (waiting_copies c.args.spare c.args.list.now) onward)
    (sym (unread_target-no_place c.args.spare c.args.list.now c.requires c.in_default.ensures))

pub returns-in_default-first_place-clause-next : goal.returns-in_default-first_place-clause-next
returns-in_default-first_place-clause-next c =
    next_copies-none c.args.spare (seen_copies c.args.done.now.items) (waiting_copies c.args.spare c.args.list.now)
    (waiting_copies-none c.args.spare c.args.list.now c.requires c.in_default-first_place.ensures)
