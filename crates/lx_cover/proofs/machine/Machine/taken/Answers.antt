use Rattle.std.proofs.Common.{◌≡◌, Some, sym, ap, ◌∙◌, subst}
use Rattle.lx_auto.specs.Automaton.{state_of}
use Rattle.lx_auto.specs.Run.{found_by, found_left, or_else}
use Rattle.lx_auto.specs.declared.automaton.State.{State}
use Rattle.lx_cover.proofs.MachineSteps.{accept-fit}
use Rattle.lx_cover.specs.Machine.{IsTaken, standing_of}
use Rattle.lx_cover.proofs.machine.Machine.taken.Goals as goal

pub taken_here-requires : goal.taken_here-requires
taken_here-requires c =
    accept-fit c.args.auto.now c.args.self.now.registers c.requires.machine.registers c.requires.formed c.args.self.now.state
    c.state_at.result.now c.state_at.ensures c.in-Some.accept c.in-Some.is

pub returns-in_ok-taken_here-in-Some : goal.returns-in_ok-taken_here-in-Some
returns-in_ok-taken_here-in-Some c =
    let auto = c.args.auto.now in
    let standing = standing_of auto c.args.self.now in
    let accepted : Some c.in-Some.accept ≡ (state_of auto.states c.args.self.now.state).accept =
    sym c.in-Some.is ∙ ap (λ (s : State). s.accept) c.state_at.ensures in
    subst (λ a. IsTaken (or_else (found_by a standing) (found_left standing.bank standing.left)) (Some c.in_ok-taken_here-in-Some.field-0))
    accepted (c.in_ok-taken_here-in-Some.ensures auto)
