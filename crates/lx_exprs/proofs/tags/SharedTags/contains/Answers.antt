use Rattle.std.proofs.Common.{◌∙◌, ap, ap₂, sym}
use Rattle.std.specs.Prelude.{◌||◌}
use Rattle.lx_exprs.specs.Checks.{is_tag_among}
use Rattle.lx_exprs.proofs.TagLists.SharedNames.{among-segment, flat_map-next}
use Rattle.lx_exprs.proofs.TagLists.TagIndexes.{is_tag_among-append}
use Rattle.lx_exprs.proofs.tags.SharedTags.contains.Goals as goal

pub returns-then-contains : goal.returns-then-contains
returns-then-contains c =
    let name = c.args.name.now in
    let here = ap (λ segment. is_tag_among name segment.value) (sym c.segment-item.is) ∙ ap (is_tag_among name) (sym c.deref.ensures) ∙ sym c.contains.ensures ∙ c.if-contains.true in
    sym (ap (is_tag_among name) (sym c.segments-segments.ensures)
    ∙ among-segment (λ tags. tags.value) name c.segments-segments.result.now c.loop-segment.segment-index c.segment-item.result c.loop-segment-test.true here)

pub loop-segment-preserved : goal.loop-segment-preserved
loop-segment-preserved c =
    let name = c.args.name.now in
    let here = ap (λ segment. is_tag_among name segment.value) (sym c.segment-item.is) ∙ ap (is_tag_among name) (sym c.deref.ensures) ∙ sym c.contains.ensures ∙ c.if-contains.false in
    ap (is_tag_among name) (flat_map-next (λ tags. tags.value) c.segments-segments.result.now c.loop-segment.segment-index c.segment-item.result c.loop-segment-test.true)
    ∙ is_tag_among-append name _ _ ∙ ap₂ (λ a b. a || b) c.loop-segment.invariant here
