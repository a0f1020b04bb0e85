use Rattle.std.proofs.Common.{Contains, length, subst}
use Rattle.lx_auto.specs.Automaton.{state_of}
use Rattle.lx_auto.specs.Effects.{Writes}
use Rattle.lx_auto.proofs.States.{state_formed}
use Rattle.lx_regs.specs.HeldGraphs.{AreBeside, Notes, read_each}
use Rattle.lx_regs.proofs.LiveRegisters.HeldBounds.{edge-ops, written-held}
use Rattle.lx_regs.proofs.SharedNames.InterferenceSteps.{edge-notes, live-there, read-there, there}
use Rattle.lx_regs.proofs.SharedNames.NoteSteps.{there-still}
use Rattle.lx_regs.proofs.interference.Known.note_edge.Goals as goal

pub note_beside-requires-clause-ops : goal.note_beside-requires-clause-ops
note_beside-requires-clause-ops c = λ held writes.
    let auto = c.args.self.now.auto.now in
    let state = state_formed auto c.args.state c.requires.known.formed in
    there auto c.args.graph.now c.requires.graph held
    (written-held auto.regs auto.mregs c.args.edge.now.ops held
    (edge-ops auto.regs auto.mregs (length auto.states) (state_of auto.states c.args.state).edges c.args.edge.now state.lead c.requires.edge)
    (subst (λ l. Writes l held) c.as_slice.ensures writes))

pub note_beside-requires-clause-live : goal.note_beside-requires-clause-live
note_beside-requires-clause-live c = λ held has.
    let auto = c.args.self.now.auto.now in
    there auto c.args.graph.now c.requires.graph held
    (live-there auto c.args.state c.args.edge.now c.in_ok-live.live.items c.in_ok-live.ensures.live c.requires.known.formed held
    (subst (λ l. Contains l held) c.deref.ensures.value has))

pub note_before-requires-clause-first : goal.note_before-requires-clause-first
note_before-requires-clause-first c = λ held writes.
    let auto = c.args.self.now.auto.now in
    let state = state_formed auto c.args.state c.requires.known.formed in
    there-still (AreBeside c.as_slice.result.now c.deref.result.now) c.args.graph.now c.note_beside.new.self c.in_ok-note_beside.ensures held
    (there auto c.args.graph.now c.requires.graph held
    (written-held auto.regs auto.mregs (state_of auto.states c.args.state).leave held state.leave
    (subst (λ l. Writes l held) c.requires.leave writes)))

pub note_before-requires-clause-read : goal.note_before-requires-clause-read
note_before-requires-clause-read c = λ held has.
    let auto = c.args.self.now.auto.now in
    there-still (AreBeside c.as_slice.result.now c.deref.result.now) c.args.graph.now c.note_beside.new.self c.in_ok-note_beside.ensures held
    (there auto c.args.graph.now c.requires.graph held
    (read-there auto c.args.state c.args.edge.now c.in_ok-live.live.items c.in_ok-live.ensures.live c.requires.known.formed c.requires.edge held
    (subst (λ l. Contains (read_each l c.in_ok-live.live.items) held) c.as_slice-2.ensures
    (subst (λ l. Contains (read_each c.as_slice-2.result.now l) held) c.deref-2.ensures.value has))))

pub returns : goal.returns
returns c =
    let auto = c.args.self.now.auto.now in
    let edge = c.args.edge.now in
    let live = c.in_ok-live.live.items in
    let old = c.args.graph.now in
    let middle = c.note_beside.new.self in
    let new = c.note_before.new.graph in
    let one =
    subst (λ l. Notes (AreBeside l live) old middle) c.as_slice.ensures
    (subst (λ l. Notes (AreBeside c.as_slice.result.now l) old middle) c.deref.ensures.value c.in_ok-note_beside.ensures) in
    let two =
    subst (λ l. Notes (AreBeside l (read_each edge.ops live)) middle new) c.requires.leave
    (subst (λ l. Notes (AreBeside c.args.leave.now (read_each l live)) middle new) c.as_slice-2.ensures
    (subst (λ l. Notes (AreBeside c.args.leave.now (read_each c.as_slice-2.result.now l)) middle new) c.deref-2.ensures.value
    c.in_ok-note_before.ensures)) in
    edge-notes auto c.args.state edge live c.in_ok-live.ensures.live old middle new one two
