use Rattle.std.proofs.Common.{arith, get_or, subst, sym, take}
use Rattle.std.proofs.lemmas.List.{take_more}
use Rattle.std.proofs.lemmas.List.Elements.{Contains-get_or}
use Rattle.lx_auto.specs.declared.automaton.Held.TheVariants.{Reg}
use Rattle.lx_regs.specs.HeldGraphs.{AreAmong, Notes}
use Rattle.lx_regs.proofs.SharedNames.NoteSteps.{among-pushed, there-still}
use Rattle.lx_regs.proofs.held_graphs.HeldGraph.note_each.Goals as goal

pub note-requires-clause-other : goal.note-requires-clause-other
note-requires-clause-other c =
    let others = c.args.others.now in
    let place = c.loop-other.other-index in
    there-still (AreAmong c.args.held (take place others)) c.args.self.now c.loop-other.self c.loop-other.invariant (get_or others place (Reg 0))
    (c.requires.others (get_or others place (Reg 0)) (Contains-get_or others place (Reg 0) (omega arith)))

pub loop-other-preserved : goal.loop-other-preserved
loop-other-preserved c =
    let others = c.args.others.now in
    let place = c.loop-other.other-index in
    subst (λ l. Notes (AreAmong c.args.held l) c.args.self.now c.note.new.self) (sym (take_more others place (Reg 0) (omega arith)))
    (among-pushed c.args.held (take place others) (get_or others place (Reg 0)) c.args.self.now c.loop-other.self c.note.new.self
    c.loop-other.invariant c.in_ok-note.ensures)
