use Rattle.std.proofs.Common.{◌≡◌, ap, ap₂, ◌∙◌, arith, length, slice_index_or}
use Rattle.lx_layout.specs.Fallback.{edge_code}
use Rattle.lx_layout.specs.LaidParts.{begin_at, halting_at}
use Rattle.lx_layout.proofs.BlockLayouts.BlockLoops.{classes-lead}
use Rattle.lx_layout.proofs.Laying.StateBlocks.{classes-more, places_from-at, places_from-length}
use Rattle.lx_layout.proofs.part_states.append_classes.Goals as goal

pub index-block-requires : goal.index-block-requires
index-block-requires c =
    let places = c.args.places.now in
    let plans = places.ends.plans in
    let auto = plans.input.auto.now in
    let lead = classes-lead c.args.classes.now c.loop-class.class-index c.class-item.result c.loop-class-test.true c.class-item.is
    auto.regs auto.mregs (length auto.states) c.loop-class.invariant.lead in
    let count : length places.states.items ≡ length auto.states =
    ap length c.requires.places.states ∙ places_from-length plans 0 (begin_at plans) auto.states in
    omega (arith, lead.0, count, places.states.ok.0)

pub loop-class-preserved : goal.loop-class-preserved
loop-class-preserved c =
    let places = c.args.places.now in
    let plans = places.ends.plans in
    let auto = plans.input.auto.now in
    let class = c.class-item.result in
    let lead = classes-lead c.args.classes.now c.loop-class.class-index class c.loop-class-test.true c.class-item.is
    auto.regs auto.mregs (length auto.states) c.loop-class.invariant.lead in
    let block = c.index-block.ensures ∙ ap (λ l. slice_index_or l class.edge.now.to c.index-block.result.now) c.requires.places.states
    ∙ places_from-at plans 0 (begin_at plans) auto.states class.edge.now.to c.index-block.result.now lead.0 in
    record {
      lead = lead.2;
      put = classes-more c.args.classes.now c.loop-class.class-index class c.loop-class-test.true c.class-item.is plans c.args.state.now
          c.in_ok-edge_code.field-0.items c.loop-class.blocks.items
          c.append_block.new.blocks.items _ c.in_ok-append_block.ensures c.loop-class.invariant.put
          (c.in_ok-edge_code.ensures ∙ ap₂ (λ k b. edge_code (halting_at plans) auto c.args.state.now k class.edge.now b) c.kept_number-saved.ensures block);
    }
