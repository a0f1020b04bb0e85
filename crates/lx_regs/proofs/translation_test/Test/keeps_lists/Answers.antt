use Rattle.std.proofs.Common.{◌≡◌, List, length, rules, subst, sym}
use Rattle.lx_auto.specs.declared.ops.Op.{Op}
use Rattle.lx_auto.specs.Automaton.{AreOps, state_of}
use Rattle.lx_auto.specs.Points.{point_behind}
use Rattle.lx_auto.proofs.States.{state_formed}
use Rattle.lx_regs.specs.ListRenamings.{IsListKept}
use Rattle.lx_regs.specs.Tested.{CanTest}
use Rattle.lx_regs.proofs.LiveRegisters.HeldBounds.{edge-ops, live-held}
use Rattle.lx_regs.proofs.Translations.KeptByLists.{KeepsEffect-lists}
use Rattle.lx_regs.proofs.translation_test.Test.keeps_lists.Goals as goal

pub returns-in-All : goal.returns-in-All
returns-in-All c = λ is held at.
    let given = c.args.self.now.given.now in
    let table = c.args.self.now.table.now in
    let renaming = c.in-All.renaming.now in
    let renames = subst (CanTest given table) c.in-All.is c.requires.looked in
    let formed = state_formed given c.args.number c.requires.formed in
    let leave : c.as_slice-leave.result.now ≡ c.args.leaves.given.now = search rules in
    let new_leave : c.as_slice-new_leave.result.now ≡ c.args.leaves.answer.now = search rules in
    let ops : c.as_slice-ops.result.now ≡ c.args.edge.now.ops = search rules in
    let others : c.as_slice-others.result.now ≡ c.args.other.now.ops = search rules in
    let P : List Op → List Op → Type 0 = IsListKept renaming.names.items renaming.members.items in
    KeepsEffect-lists given table renaming renames c.args.number c.args.edge.now.to c.args.leaves.given.now c.args.leaves.answer.now
    c.args.edge.now.ops c.args.other.now.ops
    (subst (AreOps given.regs given.mregs) (sym c.requires.leave) formed.leave)
    (edge-ops given.regs given.mregs (length given.states) (state_of given.states c.args.number).edges c.args.edge.now formed.lead c.requires.edge)
    (subst (λ l. P l c.args.leaves.answer.now) leave (subst (P c.as_slice-leave.result.now) new_leave (c.keeps_both.ensures.leave is)))
    (subst (λ l. P l c.args.other.now.ops) ops (subst (P c.as_slice-ops.result.now) others (c.keeps_both.ensures.edge is))) held
    (live-held given c.requires.formed (point_behind given (record { state = c.args.number; left = at.0 }) c.args.edge.now) held at.2)
