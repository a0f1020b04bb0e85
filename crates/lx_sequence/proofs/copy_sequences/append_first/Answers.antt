use Rattle.std.proofs.Common.{◌∷◌, ◌∙◌, ap, sym}
use Rattle.lx_sequence.specs.ParallelCopies.{read_from}
use Rattle.lx_sequence.specs.WaitingCopies.{other_copies, waiting_copies}
use Rattle.lx_sequence.proofs.WaitingCopies.{next_copies-cycle, waiting_copies-first}
use Rattle.lx_sequence.proofs.copy_sequences.append_first.Goals as goal

pub returns-clause-next : goal.returns-clause-next
returns-clause-next c =
    let first = c.in_ok-first.first in
    let others = other_copies c.args.spare c.args.list.now c.args.place in
    next_copies-cycle c.args.spare c.args.done.now.items c.push.new.self.items c.push-2.new.self.items first
    (waiting_copies c.args.spare c.args.list.now) others
    (waiting_copies c.args.spare c.move_to_spare.new.list) c.in_ok-push.ensures.items c.in_ok-push-2.ensures.items
    (waiting_copies-first c.args.spare c.args.list.now c.requires.kept c.args.place c.requires.first
    ∙ ap (λ copy. copy ∷ others) (sym c.in_ok-first.ensures.copy))
    (c.in_ok-move_to_spare.ensures.copies ∙ ap (λ l. read_from c.args.spare first.target l) c.in_ok-first.ensures.others)
