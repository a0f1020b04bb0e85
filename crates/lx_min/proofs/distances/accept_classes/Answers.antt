use Rattle.std.proofs.Common.{◌≡◌, ◌+◌, length, sym, subst, arith}
use Rattle.lx_min.specs.Distances.{AreAccepts}
use Rattle.lx_min.proofs.ToldByDistance.{accepts-more, accepts-none}
use Rattle.lx_min.proofs.distances.accept_classes.Goals as goal

pub loop-state-init : goal.loop-state-init
loop-state-init c = accepts-none c.args.states.now c.in_ok-classes.classes.items c.in_ok-classes.ensures.items

pub loop-state-preserved : goal.loop-state-preserved
loop-state-preserved c =
    let states = c.args.states.now in
    let index = c.loop-state.state-index in
    subst (AreAccepts states (index + 1)) (sym c.in_ok-push.ensures.items)
    (accepts-more states c.loop-state.classes.items index c.accept_class-class.result c.state-item.result c.loop-state-test.true c.state-item.is
    c.accept_class-class.ensures c.loop-state.invariant)

pub returns : goal.returns
returns c =
    let ends : c.loop-state.state-index ≡ length c.args.states.now = omega arith in
    subst (λ count. AreAccepts c.args.states.now count c.loop-state.classes.items) ends c.loop-state.invariant
