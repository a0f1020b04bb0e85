use Rattle.std.proofs.Common.{All, subst, arith, rules}
use Rattle.std.proofs.lemmas.List.{take_all}
use Rattle.std.proofs.lemmas.List.Elements.{All-more}
use Rattle.lx_auto.specs.declared.automaton.Held.{Held}
use Rattle.lx_regs.specs.Tested.{KeepsEffect}
use Rattle.lx_regs.proofs.translation_test.Test.keeps_effects.Goals as goal

pub loop-held-preserved : goal.loop-held-preserved
loop-held-preserved c =
    let P : Held → Type 0 =
    KeepsEffect c.args.self.now.table.now c.args.state c.args.to c.args.lists.first.now c.args.lists.second.now c.args.new.first.now
    c.args.new.second.now in
    All-more P c.args.registers.now c.loop-held.held-index _ (search rules) c.loop-held.invariant
    (c.in_ok-keeps_effect.ensures c.if-not-branch.false)

pub returns : goal.returns
returns c =
    let P : Held → Type 0 =
    KeepsEffect c.args.self.now.table.now c.args.state c.args.to c.args.lists.first.now c.args.lists.second.now c.args.new.first.now
    c.args.new.second.now in
    λ is. subst (All P) (take_all c.loop-held.held-index c.args.registers.now (omega arith)) c.loop-held.invariant
