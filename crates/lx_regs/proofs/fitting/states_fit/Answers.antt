use Rattle.std.proofs.Common.{◌≡◌, ◌⊎◌, inl, inr, Contains, arith, subst, sym, take, take_all}
use Rattle.lx_auto.specs.declared.automaton.State.{State}
use Rattle.lx_regs.proofs.Translations.FittingSteps.{StateFits, states-fit}
use Rattle.lx_auto.proofs.Places.{taken-cases}
use Rattle.lx_regs.proofs.fitting.states_fit.Goals as goal

pub loop-state-preserved : goal.loop-state-preserved
loop-state-preserved c = λ state has.
    at state (taken-cases c.args.states.now c.loop-state.state-index c.state-item.result state (omega arith) c.state-item.is has)
  where
    at : (state : State) → Contains (take c.loop-state.state-index c.args.states.now) state ⊎ (c.state-item.result ≡ state)
        → StateFits c.args.regs c.args.mregs state
    at state (inl earlier) = c.loop-state.invariant state earlier
    at state (inr same) = subst (StateFits c.args.regs c.args.mregs) same (c.state_fits.ensures c.if-not-state_fits.false)

pub returns : goal.returns
returns c = λ yes.
    states-fit c.args.regs c.args.mregs c.args.states.now
    (λ state has.
    let all = take_all c.loop-state.state-index c.args.states.now c.loop-state-test.false in
    c.loop-state.invariant state (subst (λ l. Contains l state) (sym all) has))
