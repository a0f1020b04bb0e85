use Rattle.std.proofs.Common.{ℕ, List, All, [], ap, get_or, subst, ◌∙◌}
use Rattle.std.proofs.lemmas.List.{get_or_read}
use Rattle.lx_auto.specs.declared.ops.Op.TheVariants.{Here}
use Rattle.lx_regs.specs.ListRenamings.{IsKept, members_at}
use Rattle.lx_regs.specs.OrderedOps.{number_of}
use Rattle.lx_regs.proofs.Translations.KeptLists.{each-more}
use Rattle.lx_regs.proofs.list_renaming.ListRenaming.keeps_members.Goals as goal

pub loop-op-preserved : goal.loop-op-preserved
loop-op-preserved c =
    let members = c.args.self.now.members.items in
    let P : ℕ → Type 0 = IsKept c.args.self.now.names.items c.args.ops.now c.args.others.now in
    each-more (λ place. All P (members_at members (number_of (get_or c.args.others.now place (Here 0))))) c.loop-op.op-index c.loop-op.invariant
    (subst (All P) (c.as_slice-in-loop-op.ensures
    ∙ get_or_read c.deref.result.now c.number_of.result c.in-Some.registers.now c.in-Some.ensures.lookup.3.0 c.in-Some.ensures.lookup.1 []
    ∙ ap (λ (l : List (List ℕ)). members_at l c.number_of.result) c.deref.ensures.value ∙ ap (members_at members) c.number_of.ensures)
    (c.keeps_all.ensures c.if-not-keeps_all.false))
