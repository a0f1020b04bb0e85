use Rattle.std.proofs.Common.{◌∙◌, sym}
use Rattle.lx_regs.proofs.SharedNames.GroupLists.{keys_in-Some}
use Rattle.lx_regs.proofs.left_groups.LeftGroups.keys.Goals as goal

pub returns-in-Some : goal.returns-in-Some
returns-in-Some c =
    c.as_slice.ensures.value
    ∙ sym (keys_in-Some c.args.self.now.lists.keys c.args.group c.in-Some.list.now c.if-group-eq0.false (sym c.in-Some.ensures.key))
