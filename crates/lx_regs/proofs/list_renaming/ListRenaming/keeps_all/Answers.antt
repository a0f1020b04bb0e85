use Rattle.std.proofs.Common.{ℕ, All, subst, arith, rules}
use Rattle.std.proofs.lemmas.List.{take_all}
use Rattle.std.proofs.lemmas.List.Elements.{All-more}
use Rattle.lx_regs.specs.ListRenamings.{IsKept}
use Rattle.lx_regs.proofs.list_renaming.ListRenaming.keeps_all.Goals as goal

pub loop-reg-preserved : goal.loop-reg-preserved
loop-reg-preserved c =
    let P : ℕ → Type 0 = IsKept c.args.self.now.names.items c.args.ops.now c.args.others.now in
    All-more P c.args.registers.now c.loop-reg.reg-index _ (search rules) c.loop-reg.invariant (c.keeps.ensures c.if-not-keeps.false)

pub returns : goal.returns
returns c =
    let P : ℕ → Type 0 = IsKept c.args.self.now.names.items c.args.ops.now c.args.others.now in
    λ is. subst (All P) (take_all c.loop-reg.reg-index c.args.registers.now (omega arith)) c.loop-reg.invariant
