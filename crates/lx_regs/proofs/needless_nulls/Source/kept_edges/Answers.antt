use Rattle.std.proofs.Common.{◌≡◌, ◌+◌, [], ◌∷◌, ◌++◌, take, sym, ap, ◌∙◌, subst}
use Rattle.std.specs.Option.{IfSome}
use Rattle.std.proofs.lemmas.List.{take_more}
use Rattle.lx_regs.specs.Pairs.{AllPairs}
use Rattle.lx_regs.specs.Unset.{IsEdgeKept}
use Rattle.lx_regs.proofs.NeedlessNulls.KeptStates.{pairs-more}
use Rattle.lx_regs.proofs.needless_nulls.Source.kept_edges.Goals as goal

pub loop-edge-preserved : goal.loop-edge-preserved
loop-edge-preserved c =
    let rows = c.args.self.now.rows.now in
    let left = c.args.left.now in
    let edges = c.args.edges.now in
    let others = c.loop-edge.others in
    let place = c.loop-edge.edge-index in
    let edge = c.edge-item.result in
    let other = c.in-Some.other in
    let more : take (place + 1) edges ≡ take place edges ++ edge ∷ [] =
    take_more edges place edge c.loop-edge-test.true ∙ ap (λ e. take place edges ++ e ∷ []) (sym c.edge-item.is) in
    let is : IsEdgeKept rows left edge other =
    subst (λ found. IfSome found (IsEdgeKept rows left edge)) c.in-Some.is c.in_ok-other.ensures in
    subst (λ front. AllPairs (IsEdgeKept rows left) front c.push.new.self) (sym more)
    (subst (AllPairs (IsEdgeKept rows left) (take place edges ++ edge ∷ [])) (sym c.in_ok-push-in-Some.ensures.pushed)
    (pairs-more (IsEdgeKept rows left) (take place edges) others edge other c.loop-edge.invariant is))
