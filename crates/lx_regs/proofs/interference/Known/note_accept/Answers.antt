use Rattle.std.proofs.Common.{◌∙◌, Contains, subst, sym}
use Rattle.lx_auto.specs.Automaton.{state_of}
use Rattle.lx_auto.specs.Effects.{Writes}
use Rattle.lx_auto.proofs.States.{state_formed}
use Rattle.lx_regs.proofs.LiveRegisters.HeldBounds.{accept-formed, values-held, written-held}
use Rattle.lx_regs.proofs.SharedNames.InterferenceSteps.{there}
use Rattle.lx_regs.proofs.interference.Known.note_accept.Goals as goal

pub note_beside-requires-clause-ops : goal.note_beside-requires-clause-ops
note_beside-requires-clause-ops c = λ held writes.
    let auto = c.args.self.now.auto.now in
    let state = state_formed auto c.args.state c.requires.known.formed in
    let formed = accept-formed auto.regs auto.mregs (state_of auto.states c.args.state).accept c.in-Some.accept state.accept
    (sym c.requires.accept ∙ c.in-Some.is) in
    there auto c.args.graph.now c.requires.graph held
    (written-held auto.regs auto.mregs c.in-Some.accept.ops held formed.0 (subst (λ l. Writes l held) c.as_slice.ensures writes))

pub note_beside-requires-clause-live : goal.note_beside-requires-clause-live
note_beside-requires-clause-live c = λ held has.
    let auto = c.args.self.now.auto.now in
    let state = state_formed auto c.args.state c.requires.known.formed in
    let formed = accept-formed auto.regs auto.mregs (state_of auto.states c.args.state).accept c.in-Some.accept state.accept
    (sym c.requires.accept ∙ c.in-Some.is) in
    there auto c.args.graph.now c.requires.graph held
    (values-held auto.regs auto.mregs c.in-Some.accept.values held formed.1 (subst (λ l. Contains l held) c.as_slice-in-Some.ensures has))
