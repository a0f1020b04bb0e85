use Rattle.std.proofs.Common.{◌<◌, ◌∙◌, List, get_or, ap, subst, length, arith}
use Rattle.lx_auto.specs.declared.automaton.State.{State}
use Rattle.lx_auto.proofs.States.{state_of-read}
use Rattle.lx_regs.specs.Growth.{Grows}
use Rattle.lx_regs.specs.Items.{IsAcceptedBy}
use Rattle.lx_regs.proofs.LiveRegisters.FirstItems.{grows-no_state, grows-state, grows-states}
use Rattle.lx_regs.proofs.items.add_accepts.Goals as goal

pub loop-number-init : goal.loop-number-init
loop-number-init c = grows-no_state c.args.auto.now c.args.found.now

pub loop-number-preserved : goal.loop-number-preserved
loop-number-preserved c =
    let auto = c.args.auto.now in
    let number = c.loop-number.number in
    let same = c.as_slice-state-items.ensures in
    let within : number < length auto.states = let l = ap length same in omega (arith, l, c.loop-number-test.true) in
    let read = state_of-read auto.states number c.state-item.result within
    (c.state-item.is ∙ ap (λ (l : List State). get_or l number c.state-item.result) same) in
    grows-state auto number c.args.found.now c.loop-number.found c.add_accept.new.found c.loop-number.invariant
    (subst (λ (s : State). Grows (IsAcceptedBy number s.accept) c.loop-number.found c.add_accept.new.found) read c.in_ok-add_accept.ensures)

pub returns : goal.returns
returns c =
    let l = ap length c.as_slice-state-items.ensures in
    grows-states c.args.auto.now c.loop-number.number c.args.found.now c.loop-number.found (omega (arith, l, c.loop-number-test.false))
    c.loop-number.invariant
