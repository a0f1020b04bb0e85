use Rattle.std.proofs.Common.{subst, sym}
use Rattle.lx_auto.proofs.States.{state_formed}
use Rattle.lx_auto.specs.Automaton.{IsAccept}
use Rattle.lx_auto.specs.declared.automaton.State.{State}
use Rattle.lx_layout.proofs.Laying.Planned.{plan_given}
use Rattle.lx_layout.proofs.part_states.append_state.Goals as goal

pub append_lone-requires-clause-there : goal.append_lone-requires-clause-there
append_lone-requires-clause-there c =
    let plans = c.args.places.now.ends.plans in
    let auto = plans.input.auto.now in
    let number = c.args.spot.number in
    let given = plan_given plans c.requires.places.ends.plans number c.requires.spot.within c.index.result.now c.index.ensures in
    subst (λ (s : State). IsAccept auto.regs auto.mregs s.accept) (sym given) (state_formed auto number c.requires.places.ends.plans.formed).accept
