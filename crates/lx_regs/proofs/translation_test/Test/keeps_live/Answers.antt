use Rattle.std.proofs.Common.{All, refl, subst}
use Rattle.std.proofs.lemmas.Result.{IfOk-weaker}
use Rattle.lx_regs.specs.Tested.{KeepsEffect}
use Rattle.lx_regs.proofs.CutOperations.KeptEdges.{KeepsLive-registers}
use Rattle.lx_regs.proofs.translation_test.Test.keeps_live.Goals as goal

pub returns : goal.returns
returns c =
    IfOk-weaker c.keeps_registers.result _ _
    (λ kept all is.
    KeepsLive-registers c.args.self.now.table.now c.args.self.now.given.now c.args.number c.args.leaves.given.now c.args.leaves.answer.now
    c.args.edge.now c.args.other.now c.in_ok-registers.registers.items c.args.leaves.given.now c.args.edge.now.ops c.args.leaves.answer.now
    c.args.other.now.ops refl refl refl refl c.in_ok-registers.ensures.live
    (subst (All (KeepsEffect c.args.self.now.table.now c.args.number c.args.edge.now.to c.args.leaves.given.now c.args.edge.now.ops
    c.args.leaves.answer.now c.args.other.now.ops)) c.as_slice.ensures.value (all is)))
    c.keeps_registers.ensures
