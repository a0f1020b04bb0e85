use Rattle.std.proofs.Common.{◌≡◌, ◌<◌, ◌≤◌, List, length, get_or, sym, ap, ◌∙◌, subst}
use Rattle.std.proofs.lemmas.List.{get_or_default}
use Rattle.lx_auto.proofs.States.{state_formed}
use Rattle.lx_auto.specs.Automaton.{state_of}
use Rattle.lx_auto.specs.declared.automaton.Edge.{Edge}
use Rattle.lx_search.proofs.EdgeFronts.{passed-none}
use Rattle.lx_search.proofs.EdgeSteps.{at-edge, passing-all, passing-more}
use Rattle.lx_search.specs.declared.search.Found.{Found}
use Rattle.lx_search.proofs.search.Search.pass.Goals as goal

pub loop-edge-init : goal.loop-edge-init
loop-edge-init c =
    let auto = c.args.auto.now in
    let state = c.index.result.now.state in
    record {
      bound = 0;
      so_far = c.requires.search;
      within = c.requires.within;
      here =
          ap (λ (f : Found). f.state)
          (get_or_default c.args.self.now.found.items c.args.place (record { state = 0; parent = 0; unit = 0 }) c.index.result.now c.requires.within
          ∙ sym c.index.ensures);
      passed = passed-none (state_of auto.states state).edges (state_formed auto state c.requires.formed).apart;
    }

pub take-requires-clause-at : goal.take-requires-clause-at
take-requires-clause-at c =
    let auto = c.args.auto.now in
    let state = c.index.result.now.state in
    let edges = (state_of auto.states state).edges in
    let same : c.edges_of-edge-items.result.now ≡ edges = c.edges_of-edge-items.ensures.edges in
    let count = c.loop-edge.edge-index in
    let edge = c.edge-item.result in
    let lt : count < length edges = subst (λ (l : List Edge). count < length l) same c.loop-edge-test.true in
    let read : edge ≡ get_or edges count edge = subst (λ l. edge ≡ get_or l count edge) same c.edge-item.is in
    at-edge c.args.scope auto c.loop-edge.self c.args.place state count edge c.loop-edge.invariant lt read
    (subst (λ (e : Edge). e.to < length auto.states) (sym c.edge-item.is)
    (c.edges_of-edge-items.ensures.targets count edge c.loop-edge-test.true))

pub loop-edge-preserved : goal.loop-edge-preserved
loop-edge-preserved c =
    let auto = c.args.auto.now in
    let state = c.index.result.now.state in
    let edges = (state_of auto.states state).edges in
    let same : c.edges_of-edge-items.result.now ≡ edges = c.edges_of-edge-items.ensures.edges in
    let count = c.loop-edge.edge-index in
    let edge = c.edge-item.result in
    let lt : count < length edges = subst (λ (l : List Edge). count < length l) same c.loop-edge-test.true in
    let read : edge ≡ get_or edges count edge = subst (λ l. edge ≡ get_or l count edge) same c.edge-item.is in
    passing-more c.args.scope auto c.loop-edge.self c.args.place state count edge c.loop-edge.invariant lt read c.take.new.self c.in_ok-take.ensures.search
    c.in_ok-take.ensures.extends

pub returns : goal.returns
returns c =
    let auto = c.args.auto.now in
    let state = c.index.result.now.state in
    let same : c.edges_of-edge-items.result.now ≡ (state_of auto.states state).edges = c.edges_of-edge-items.ensures.edges in
    passing-all c.args.scope auto c.loop-edge.self c.args.place state c.loop-edge.edge-index c.loop-edge.invariant
    (subst (λ (l : List Edge). length l ≤ c.loop-edge.edge-index) same c.loop-edge-test.false)
