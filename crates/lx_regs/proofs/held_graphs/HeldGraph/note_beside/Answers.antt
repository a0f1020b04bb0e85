use Rattle.std.proofs.Common.{arith, get_or, subst, sym, take}
use Rattle.std.proofs.lemmas.List.{take_more}
use Rattle.std.proofs.lemmas.List.Elements.{Contains-get_or}
use Rattle.lx_auto.specs.declared.ops.Op.TheVariants.{Here}
use Rattle.lx_regs.specs.HeldGraphs.{AreAmong, AreBeside, Notes}
use Rattle.lx_regs.proofs.SharedNames.NoteSteps.{beside-pushed, there-still}
use Rattle.lx_regs.proofs.held_graphs.HeldGraph.note_beside.Goals as goal

pub note_each-requires-clause-held : goal.note_each-requires-clause-held
note_each-requires-clause-held c =
    let ops = c.args.ops.now in
    let place = c.loop-op.op-index in
    let op = get_or ops place (Here 0) in
    there-still (AreBeside (take place ops) c.args.live.now) c.args.self.now c.loop-op.self c.loop-op.invariant c.target_of.result
    (c.requires.ops c.target_of.result (op, Contains-get_or ops place (Here 0) (omega arith), sym c.target_of.ensures))

pub note_each-requires-clause-others : goal.note_each-requires-clause-others
note_each-requires-clause-others c = λ other has.
    there-still (AreBeside (take c.loop-op.op-index c.args.ops.now) c.args.live.now) c.args.self.now c.loop-op.self c.loop-op.invariant other
    (c.requires.live other has)

pub loop-op-preserved : goal.loop-op-preserved
loop-op-preserved c =
    let ops = c.args.ops.now in
    let place = c.loop-op.op-index in
    let live = c.args.live.now in
    let op = get_or ops place (Here 0) in
    subst (λ l. Notes (AreBeside l live) c.args.self.now c.note_each.new.self) (sym (take_more ops place (Here 0) (omega arith)))
    (beside-pushed (take place ops) op live c.args.self.now c.loop-op.self c.note_each.new.self c.loop-op.invariant
    (subst (λ h. Notes (AreAmong h live) c.loop-op.self c.note_each.new.self) c.target_of.ensures c.in_ok-note_each.ensures))
