use Rattle.std.proofs.Common.{◌≡◌, ℕ, ◌<◌, List, length, get_or, set, sym, ap, ◌∙◌, subst}
use Rattle.std.proofs.lemmas.List.Edits.{map_over_more}
use Rattle.lx_auto.specs.declared.automaton.Edge.{Edge}
use Rattle.lx_min.specs.Merges.{moved_edge}
use Rattle.lx_min.specs.Numberings.{numbered_classes}
use Rattle.lx_min.proofs.merging.moved_edges.Goals as goal

-- the element at a place, as the loop writes it
written : (class : ℕ → ℕ) (edges : List Edge) (place : ℕ) (edge : Edge) (to : ℕ) → edge ≡ get_or edges place edge
    → to ≡ class (get_or edges place edge).to
    → record { lo = (get_or edges place edge).lo; hi = (get_or edges place edge).hi; ops = (get_or edges place edge).ops; to = to }
    ≡ moved_edge class edge
written class edges place edge to is target =
    let old = get_or edges place edge in
    (λ i. record { lo = old.lo; hi = old.hi; ops = old.ops; to = target i }) ∙ ap (moved_edge class) (sym is)

pub loop-edge-preserved : goal.loop-edge-preserved
loop-edge-preserved c =
    let class : ℕ → ℕ = (numbered_classes c.args.numbering.now).of in
    let items = c.loop-edge.edge-items in
    let place = c.loop-edge.edge-index in
    let edge = c.edge-item.result in
    let first : c.deref_mut-edge-items.result.now ≡ c.args.edges = c.deref_mut-edge-items.ensures.value ∙ c.into_vec-edges.ensures in
    ap (set items place) (written class items place edge c.of-edge.result c.edge-item.is c.of-edge.ensures)
    ∙ map_over_more (moved_edge class) c.args.edges items place edge
    (subst (λ (edges : List Edge). place < length edges) first c.loop-edge-test.true) c.loop-edge.invariant c.edge-item.is
