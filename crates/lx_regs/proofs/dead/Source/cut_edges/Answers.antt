use Rattle.std.proofs.Common.{◌≡◌, ◌+◌, ◌<◌, [], ◌∷◌, ◌++◌, List, length, get_or, take, sym, ap, ◌∙◌, subst}
use Rattle.std.proofs.lemmas.List.{take_more}
use Rattle.lx_auto.specs.declared.automaton.Edge.{Edge}
use Rattle.lx_auto.specs.Automaton.{state_of}
use Rattle.lx_regs.specs.Dead.{AreEdgesCut}
use Rattle.lx_regs.specs.Leaving.{AddsRead}
use Rattle.lx_regs.proofs.CutOperations.CutSteps.{edges-more, reads-more}
use Rattle.lx_regs.proofs.dead.Source.cut_edges.Goals as goal

pub loop-edge-preserved : goal.loop-edge-preserved
loop-edge-preserved c =
    let auto = c.args.self.now.auto.now in
    let state = c.args.state in
    let edges = (state_of auto.states state).edges in
    let same : c.edges_of-edge-items.result.now ≡ edges = c.edges_of-edge-items.ensures.edges in
    let place = c.loop-edge.edge-index in
    let edge = c.edge-item.result in
    let within : place < length edges = subst (λ (l : List Edge). place < length l) same c.loop-edge-test.true in
    let is : edge ≡ get_or edges place edge = subst (λ l. edge ≡ get_or l place edge) same c.edge-item.is in
    let more : take (place + 1) edges ≡ take place edges ++ edge ∷ [] =
    take_more edges place edge within ∙ ap (λ e. take place edges ++ e ∷ []) (sym is) in
    let others = c.loop-edge.edges in
    record {
      cut =
          subst (λ front. AreEdgesCut auto state front c.push.new.self) (sym more)
          (subst (AreEdgesCut auto state (take place edges ++ edge ∷ [])) (sym c.in_ok-push.ensures.pushed)
          (edges-more auto state (take place edges) others edge c.in_ok-cut_edge.field-0 c.loop-edge.invariant.cut
          c.in_ok-cut_edge.ensures.cut));
      read =
          subst (λ front. AddsRead auto state c.args.asked.now front c.args.leaving.now c.cut_edge.new.leaving) (sym more)
          (reads-more auto state c.args.asked.now (take place edges) (edge ∷ []) c.args.leaving.now c.loop-edge.leaving
          c.cut_edge.new.leaving
          c.loop-edge.invariant.read c.in_ok-cut_edge.ensures.read);
    }
