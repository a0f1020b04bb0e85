use Rattle.std.proofs.Common.{◌≡◌, ◌+◌, ◌++◌, ◌∷◌, [], List, ap, sym, ◌∙◌, subst, take, take_all}
use Rattle.std.proofs.lemmas.List.{take_more}
use Rattle.lx_auto.specs.declared.automaton.Edge.{Edge}
use Rattle.lx_regs.specs.declared.folding.EdgeClass.{EdgeClass}
use Rattle.lx_regs.specs.declared.folding.Fold.{Fold}
use Rattle.lx_regs.specs.FoldedEdges.{IsFoldedList}
use Rattle.lx_regs.proofs.FoldedEdges.FoldSteps.{IsFoldedFront, IsFoldedFront-empty, IsFoldedList-all, first_edges, front-inserted}
use Rattle.lx_regs.proofs.folding.folded_edges.Goals as goal

pub loop-edge-init : goal.loop-edge-init
loop-edge-init c =
    subst (λ (l : List Fold). IsFoldedFront [] (first_edges c.new-classes.result.keys) l) (sym c.new-folds.ensures)
    (subst (λ (k : List EdgeClass). IsFoldedFront [] (first_edges k) []) (sym c.new-classes.ensures.empty) IsFoldedFront-empty)

pub loop-edge-preserved : goal.loop-edge-preserved
loop-edge-preserved c =
    let edges = c.args.edges.now in
    let place = c.loop-edge.edge-index in
    let edge = c.edge-item.result in
    let new = c.insert_full.new.self.keys in
    let more : take (place + 1) edges ≡ take place edges ++ edge ∷ [] =
    take_more edges place edge c.loop-edge-test.true ∙ ap (λ (e : Edge). take place edges ++ e ∷ []) (sym c.edge-item.is) in
    subst (λ (l : List Edge). IsFoldedFront l (first_edges new) c.push.new.self) (sym more)
    (subst (λ (l : List Fold). IsFoldedFront (take place edges ++ edge ∷ []) (first_edges new) l) (sym c.in_ok-push.ensures.pushed)
    (front-inserted c.loop-edge.classes.keys new _ c.in_ok-place.place (take place edges) c.loop-edge.folds c.loop-edge.invariant
    c.in_ok-place.ensures.keys c.in_ok-place.ensures.index c.in_ok-place.ensures.stored))

pub returns : goal.returns
returns c =
    let edges = c.args.edges.now in
    let keys = c.loop-edge.classes.keys in
    let all : take c.loop-edge.edge-index edges ≡ edges = take_all c.loop-edge.edge-index edges c.loop-edge-test.false in
    let kept : c.in_ok-kept.kept ≡ first_edges keys = c.in_ok-kept.ensures ∙ ap first_edges c.as_slice.ensures.keys in
    subst (λ (k : List Edge). IsFoldedList edges k c.loop-edge.folds) (sym kept)
    (IsFoldedList-all edges (take c.loop-edge.edge-index edges) (first_edges keys) c.loop-edge.folds all c.loop-edge.invariant)
