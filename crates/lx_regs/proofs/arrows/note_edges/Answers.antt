use Rattle.std.proofs.Common.{◌<◌, ◌∙◌, arith, length, subst, sym}
use Rattle.lx_auto.specs.declared.automaton.Edge.{Edge}
use Rattle.lx_regs.proofs.LiveRegisters.ArrowLists.{notes-more, notes-none}
use Rattle.lx_regs.proofs.arrows.note_edges.Goals as goal

pub loop-edge-init : goal.loop-edge-init
loop-edge-init c = notes-none c.args.state c.args.edges.now c.args.lists.now.items

pub loop-edge-preserved : goal.loop-edge-preserved
loop-edge-preserved c =
    let below = c.requires c.loop-edge.edge-index c.edge-item.result c.loop-edge-test.true in
    let is = c.edge-item.is in
    notes-more c.args.edges.now c.loop-edge.edge-index c.args.lists.now.items c.loop-edge.lists.items c.note.new.lists.items _
    c.loop-edge-test.true
    (sym is) (subst (λ (e : Edge). e.to < length c.loop-edge.lists.items) (sym is) (omega (arith, below, c.loop-edge.invariant.fit)))
    (c.in_ok-reader.ensures ∙ c.as_slice.ensures) c.in_ok-note.ensures c.loop-edge.invariant
