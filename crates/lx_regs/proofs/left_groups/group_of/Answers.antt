use Rattle.std.proofs.Common.{◌+◌, ◌∙◌, sym, subst}
use Rattle.lx_regs.specs.LeftGroups.{FitsGroup, lists_of}
use Rattle.lx_regs.proofs.SharedNames.GroupLists.{fits-stored, widens-insert}
use Rattle.lx_regs.proofs.left_groups.group_of.Goals as goal

pub returns-in_ok-place-in-Some-clause-group : goal.returns-in_ok-place-in-Some-clause-group
returns-in_ok-place-in-Some-clause-group c =
    let lists = c.insert_full.new.self.keys in
    let place = c.in_ok-place-in-Some.place in
    subst (λ accept. FitsGroup (lists_of lists) accept (place + 1)) (sym c.in-Some.is)
    (fits-stored lists c.in-Some.accept c.in_ok-keys-in-Some.keys place (c.in_ok-keys-in-Some.ensures ∙ c.as_slice.ensures)
    c.in_ok-place-in-Some.ensures.stored)

pub returns-in_ok-place-in-Some-clause-wider : goal.returns-in_ok-place-in-Some-clause-wider
returns-in_ok-place-in-Some-clause-wider c =
    widens-insert c.args.lists.now.keys c.insert_full.new.self.keys c.in_ok-keys-in-Some.keys c.in_ok-place-in-Some.ensures.keys
