use Rattle.std.proofs.Common.{◌∙◌, ◌++◌, ◌∷◌, [], ap, arith, subst, sym, take}
use Rattle.std.proofs.lemmas.List.{take_more}
use Rattle.lx_regs.specs.HeldGraphs.{Notes}
use Rattle.lx_regs.specs.Interference.{AreBesideOnEdges}
use Rattle.lx_regs.proofs.SharedNames.InterferenceSteps.{edges-pushed}
use Rattle.lx_regs.proofs.interference.Known.note_edges.Goals as goal

pub loop-edge-preserved : goal.loop-edge-preserved
loop-edge-preserved c =
    let auto = c.args.self.now.auto.now in
    let edges = c.edges_of-edge-items.result.now in
    let place = c.loop-edge.edge-index in
    let edge = c.edge-item.result in
    let front = take_more edges place edge (omega arith) ∙ ap (λ e. take place edges ++ e ∷ []) (sym c.edge-item.is) in
    subst (λ l. Notes (AreBesideOnEdges auto c.args.state l) c.args.graph.now c.note_edge.new.graph) (sym front)
    (edges-pushed auto c.args.state (take place edges) edge c.args.graph.now c.loop-edge.graph c.note_edge.new.graph c.loop-edge.invariant
    c.in_ok-note_edge.ensures)
