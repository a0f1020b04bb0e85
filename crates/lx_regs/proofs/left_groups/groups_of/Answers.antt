use Rattle.std.proofs.Common.{◌≡◌, ◌<◌, ◌+◌, ◌∙◌, ◌++◌, ◌∷◌, [], ℕ, List, get_or, length, sym, subst, ap, arith, rules}
use Rattle.lx_auto.specs.declared.automaton.State.{State}
use Rattle.lx_auto.specs.Automaton.{state_of}
use Rattle.lx_auto.proofs.States.{state_of-read}
use Rattle.lx_regs.specs.LeftGroups.{FitsGroup, lists_of}
use Rattle.lx_regs.proofs.SharedNames.GroupLists.{fits-more, groups-fit}
use Rattle.lx_regs.proofs.left_groups.groups_of.Goals as goal

pub loop-state-preserved : goal.loop-state-preserved
loop-state-preserved c =
    let auto = c.args.auto.now in
    let place = c.loop-state.state-index in
    let state = c.state-item.result in
    let lists = lists_of c.group_of.new.lists.keys in
    let number = c.in_ok-group_of.field-0 in
    let same = c.as_slice-state-items.ensures in
    let within : place < length auto.states = let l = ap length same in omega (arith, l, c.loop-state-test.true) in
    let read = state_of-read auto.states place state within (c.state-item.is ∙ ap (λ (l : List State). get_or l place state) same) in
    let items : c.push.new.self.items ≡ c.loop-state.numbers.items ++ number ∷ [] = c.in_ok-push.ensures.items in
    let all = fits-more auto c.loop-state.numbers.items (lists_of c.loop-state.lists.keys) lists place number c.loop-state.invariant.count
    c.in_ok-group_of.ensures.wider c.loop-state.invariant.fits
    (subst (λ (s : State). FitsGroup lists s.accept number) read c.in_ok-group_of.ensures.group) in
    record {
      count = search rules;
      few = search rules;
      fits = subst (λ (l : List ℕ). (other : ℕ) → other < place + 1
          → FitsGroup lists (state_of auto.states other).accept (get_or l other 0)) (sym items) all;
    }

pub returns : goal.returns
returns c =
    let same = ap length c.as_slice-state-items.ensures in
    groups-fit c.args.auto.now c.loop-state.numbers.items (lists_of c.loop-state.lists.keys)
    (omega (arith, same, c.loop-state.invariant.count, c.loop-state-test.false, c.loop-state.auto.state-index-end))
    (λ state lt. c.loop-state.invariant.fits state (omega (arith, lt, same, c.loop-state-test.false)))
