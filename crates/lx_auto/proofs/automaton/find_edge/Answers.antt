use Rattle.std.proofs.Common.{◌≡◌, ◌+◌, ◌-◌, ◌/◌, ◌<◌, length, drop, None, sym, subst, arith}
use Rattle.lx_auto.specs.Automaton.{edge_on}
use Rattle.lx_auto.proofs.Edges.{edge_on-found, edge_on-from, edge_on-nowhere, edge_on-through}
use Rattle.lx_auto.proofs.automaton.find_edge.Goals as goal

pub loop-low-preserved-then-unit-edge : goal.loop-low-preserved-then-unit-edge
loop-low-preserved-then-unit-edge c =
    let known = c.loop-low.invariant in
    let within : c.loop-low.low + (c.loop-low.high - c.loop-low.low) / 2 < length c.args.edges.now = omega arith in
    record {
      ordered = omega arith;
      within = omega arith;
      not_before = known.not_before;
      not_behind = edge_on-from c.args.edges.now _ _ within c.index-edges-middle.is c.args.unit c.requires c.if-unit-edge.true;
    }

pub loop-low-preserved : goal.loop-low-preserved
loop-low-preserved c =
    let known = c.loop-low.invariant in
    let within : c.loop-low.low + (c.loop-low.high - c.loop-low.low) / 2 < length c.args.edges.now = omega arith in
    record {
      ordered = omega arith;
      within = known.within;
      not_before = edge_on-through c.args.edges.now _ _ within c.index-edges-middle.is c.args.unit c.requires c.if-edge-unit.true;
      not_behind = known.not_behind;
    }

pub returns-else-edge-unit : goal.returns-else-edge-unit
returns-else-edge-unit c =
    let known = c.loop-low.invariant in
    let within : c.loop-low.low + (c.loop-low.high - c.loop-low.low) / 2 < length c.args.edges.now = omega arith in
    sym (edge_on-found c.args.edges.now _ _ within c.index-edges-middle.is c.args.unit c.requires c.if-unit-edge.false c.if-edge-unit.false)

pub returns : goal.returns
returns c =
    let known = c.loop-low.invariant in
    let met : c.loop-low.high ≡ c.loop-low.low = omega arith in
    let behind = subst (λ place. edge_on (drop place c.args.edges.now) c.args.unit ≡ None) met known.not_behind in
    sym (edge_on-nowhere c.args.edges.now c.loop-low.low c.args.unit known.not_before behind)
