use Rattle.std.proofs.Common.{◌+◌, List, take, refl, sym, subst}
use Rattle.std.specs.List.{AllZip}
use Rattle.lx_auto.specs.declared.automaton.Edge.{Edge}
use Rattle.lx_auto.specs.declared.ops.Op.{Op}
use Rattle.lx_min.specs.Canonical.{canonical}
use Rattle.lx_min.specs.declared.looks.Way.{Way}
use Rattle.lx_min.specs.Numbers.{IsListNumber, IsWay}
use Rattle.lx_min.proofs.KeptNumbers.{AllZip-more, AllZip-where, IsWay-kept}
use Rattle.lx_min.proofs.looks.ways_of.Goals as goal

pub loop-edge-preserved : goal.loop-edge-preserved
loop-edge-preserved c =
    let edges = c.as_slice-edges.result.now in
    let index = c.loop-edge.edge-index in
    let old = c.loop-edge.lists in
    let new = c.number-in-loop-edge.new.self in
    let keeps = c.in_ok-ops.ensures.keeps in
    let leave = c.args.state.now.leave in
    let edge = c.edge-item.result in
    let way : Way = record { lo = edge.lo; hi = edge.hi; leave = c.in_ok-leave.leave; ops = c.in_ok-ops.ops; to = edge.to } in
    let leaves = keeps c.in_ok-leave.leave (canonical leave) c.loop-edge.invariant.leave in
    let on = subst (λ (ops : List Op). IsListNumber new ops c.in_ok-ops.ops) c.as_slice-in-loop-edge.ensures c.in_ok-ops.ensures.number in
    let is : IsWay new leave edge way = record { lo = refl; hi = refl; leaves = leaves; ops = on; to = refl } in
    let ways = c.loop-edge.ways.items in
    let before = AllZip-where (IsWay old leave) (IsWay new leave) (take index edges) ways
    (IsWay-kept old new keeps leave) c.loop-edge.invariant.ways in
    let more = AllZip-more (IsWay new leave) edges ways index edge way c.loop-edge-test.true before
    (subst (λ (e : Edge). IsWay new leave e way) c.edge-item.is is) in
    record {
      ways = subst (λ (l : List Way). AllZip (IsWay new leave) (take (index + 1) edges) l) (sym c.in_ok-push.ensures.items) more;
      leave = leaves;
      keeps = λ place item at. keeps place item (c.loop-edge.invariant.keeps place item at);
      distinct = c.in_ok-ops.ensures.distinct;
    }
