use Rattle.std.proofs.Common.{◌+◌, List, take, sym, subst}
use Rattle.std.specs.List.{AllZip}
use Rattle.std.proofs.lemmas.List.{take_all}
use Rattle.lx_auto.specs.declared.automaton.State.{State}
use Rattle.lx_min.specs.declared.looks.Look.{Look}
use Rattle.lx_min.specs.Numbers.{IsLook}
use Rattle.lx_min.proofs.KeptNumbers.{AllZip-more, AllZip-where, IsLook-kept}
use Rattle.lx_min.proofs.looks.looks_in.Goals as goal

pub loop-state-preserved : goal.loop-state-preserved
loop-state-preserved c =
    let states = c.args.states.now in
    let index = c.loop-state.state-index in
    let old = c.loop-state.numbers in
    let new = c.look_of.new.numbers in
    let told = c.in_ok-look_of.ensures in
    let state = c.state-item.result in
    let look = c.in_ok-look_of.field-0 in
    let looks = c.loop-state.looks.items in
    let before = AllZip-where (IsLook old.lists old.accepts) (IsLook new.lists new.accepts) (take index states) looks
    (IsLook-kept old.lists new.lists told.lists.0 old.accepts new.accepts told.accepts.0) c.loop-state.invariant.looks in
    let more = AllZip-more (IsLook new.lists new.accepts) states looks index state look c.loop-state-test.true before
    (subst (λ (s : State). IsLook new.lists new.accepts s look) c.state-item.is told.look) in
    record {
      looks = subst (λ (l : List Look). AllZip (IsLook new.lists new.accepts) (take (index + 1) states) l)
          (sym {A = List Look} c.in_ok-push.ensures.items) more;
      lists = told.lists.1;
      accepts = told.accepts.1;
    }

pub returns-clause-looks : goal.returns-clause-looks
returns-clause-looks c =
    let numbers = c.loop-state.numbers in
    subst (λ (states : List State). AllZip (IsLook numbers.lists numbers.accepts) states c.loop-state.looks.items)
    (take_all c.loop-state.state-index c.args.states.now c.loop-state-test.false) c.loop-state.invariant.looks
