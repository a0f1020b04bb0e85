use Rattle.std.proofs.Common.{◌≡◌, ◌<◌, ◌≤◌, List, length, get_or, take, Contains, inl, inr, sym, subst, arith}
use Rattle.std.proofs.Math.Seq.{take-length}
use Rattle.lx_auto.specs.declared.automaton.Edge.{Edge}
use Rattle.lx_auto.specs.Automaton.{state_of}
use Rattle.lx_auto.specs.MetStates.{HasMet}
use Rattle.lx_auto.proofs.MetStates.{grows-on, met-behind}
use Rattle.lx_auto.proofs.Places.{Contains-read, taken-cases}
use Rattle.lx_auto.proofs.walks.Search.pass.Goals as goal

pub meet-requires-clause-met : goal.meet-requires-clause-met
meet-requires-clause-met c =
    let edges = (state_of c.args.auto.now.states c.args.state).edges in
    met-behind c.args.auto.now c.args.state c.edge-item.result c.requires.met
    (Contains-read edges c.edges_of-edge-items.result.now c.loop-edge.edge-index c.edge-item.result c.edges_of-edge-items.ensures.edges
    c.loop-edge-test.true c.edge-item.is)

pub loop-edge-preserved : goal.loop-edge-preserved
loop-edge-preserved c =
    let edges = (state_of c.args.auto.now.states c.args.state).edges in
    let same : c.edges_of-edge-items.result.now ≡ edges = c.edges_of-edge-items.ensures.edges in
    let place = c.loop-edge.edge-index in
    let last = c.edge-item.result in
    let within : place < length edges = subst (λ (l : List Edge). place < length l) same c.loop-edge-test.true in
    let is : last ≡ get_or edges place last = subst (λ l. last ≡ get_or l place last) same c.edge-item.is in
    let more = c.in_ok-meet.ensures in
    record {
      search = more.search;
      grows = grows-on c.args.self.now c.loop-edge.self c.meet.new.self c.loop-edge.invariant.grows more.grows;
      met = λ edge has. elim (taken-cases edges place last edge within is has) [
        | inl earlier ↦ more.grows.marks edge.to (c.loop-edge.invariant.met edge earlier)
        | inr now ↦ subst (λ (e : Edge). HasMet c.meet.new.self e.to) now more.met
      ];
    }

pub returns-clause-met : goal.returns-clause-met
returns-clause-met c =
    let edges = (state_of c.args.auto.now.states c.args.state).edges in
    let same : c.edges_of-edge-items.result.now ≡ edges = c.edges_of-edge-items.ensures.edges in
    let place = c.loop-edge.edge-index in
    let all : length edges ≤ place = subst (λ (l : List Edge). length l ≤ place) same c.loop-edge-test.false in
    let none_more : place ≤ length edges = subst (λ (l : List Edge). place ≤ length l) same c.loop-edge.auto.edge-index-end in
    let ends : length edges ≡ place = omega arith in
    λ edge has. c.loop-edge.invariant.met edge
    (subst (λ k. Contains (take k edges) edge) ends (subst (λ l. Contains l edge) (sym (take-length edges)) has))
