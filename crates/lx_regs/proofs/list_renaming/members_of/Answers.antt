use Rattle.std.proofs.Common.{arith, get_or}
use Rattle.std.proofs.lemmas.List.{get_or_default}
use Rattle.lx_regs.proofs.Translations.NameMembers.{members-none, members-noted}
use Rattle.lx_regs.proofs.list_renaming.members_of.Goals as goal

pub loop-reg-init : goal.loop-reg-init
loop-reg-init c = members-none c.args.count c.args.names.now c.in_ok-members.members.items c.in_ok-members.ensures

pub overflow_cast-reg : goal.overflow_cast-reg
overflow_cast-reg c = omega (arith, c.requires, c.loop-reg-test.true)

pub loop-reg-preserved : goal.loop-reg-preserved
loop-reg-preserved c =
    members-noted c.loop-reg.reg c.args.count c.args.names.now c.loop-reg.members.items c.note_member.new.members.items (get_or c.args.names.now c.loop-reg.reg 0)
    c.loop-reg.invariant (get_or_default c.args.names.now c.loop-reg.reg 0 c.loop-reg.reg c.loop-reg-test.true) c.in_ok-note_member.ensures
