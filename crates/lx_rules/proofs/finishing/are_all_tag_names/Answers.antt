use Rattle.std.proofs.Common.{◌↔◌, ◌∙◌, ◌+◌, ap, drop, false, subst, sym}
use Rattle.std.specs.List.{AllByRecursion, flat_map}
use Rattle.std.specs.Prelude.{IsTrue}
use Rattle.lx_base.proofs.Deciding.{each_next, each_fails}
use Rattle.lx_rules.specs.Blocks.{MayBeTag}
use Rattle.lx_regex.specs.declared.rules.Tag.{Tag}
use Rattle.lx_exprs.proofs.TagLists.SharedNames.{segment-each}
use Rattle.lx_rules.proofs.finishing.are_all_tag_names.Goals as goal

pub returns-then-not-are_tag_names : goal.returns-then-not-are_tag_names
returns-then-not-are_tag_names c =
    let P = λ (tag : Tag). MayBeTag c.args.format c.args.names.now c.args.has_slash tag in
    let here = c.tags.ensures ∙ c.deref.ensures ∙ ap (λ segment. segment.value) c.segment-item.is in
    let decides = subst (λ tags. IsTrue c.are_tag_names.result ↔ AllByRecursion P tags) here c.are_tag_names.ensures in
    let left = subst (λ tags. AllByRecursion P (flat_map (λ tags. tags.value) (drop c.loop-segment.segment-index c.segments-segments.result.now)) ↔ AllByRecursion P tags) (sym c.segments-segments.ensures) c.loop-segment.invariant in
    subst (λ tags. IsTrue false ↔ AllByRecursion P tags) c.segments-segments.ensures
    (each_fails (segment-each (λ tags. tags.value) P) c.segments-segments.result.now c.loop-segment.segment-index c.segment-item.result
    c.loop-segment-test.true c.are_tag_names.result decides c.if-not-are_tag_names.true left)

pub loop-segment-preserved : goal.loop-segment-preserved
loop-segment-preserved c =
    let P = λ (tag : Tag). MayBeTag c.args.format c.args.names.now c.args.has_slash tag in
    let here = c.tags.ensures ∙ c.deref.ensures ∙ ap (λ segment. segment.value) c.segment-item.is in
    let decides = subst (λ tags. IsTrue c.are_tag_names.result ↔ AllByRecursion P tags) here c.are_tag_names.ensures in
    let left = subst (λ tags. AllByRecursion P (flat_map (λ tags. tags.value) (drop c.loop-segment.segment-index c.segments-segments.result.now)) ↔ AllByRecursion P tags) (sym c.segments-segments.ensures) c.loop-segment.invariant in
    subst (λ tags. AllByRecursion P (flat_map (λ tags. tags.value) (drop (c.loop-segment.segment-index + 1) c.segments-segments.result.now)) ↔ AllByRecursion P tags) c.segments-segments.ensures
    (each_next (segment-each (λ tags. tags.value) P) c.segments-segments.result.now c.loop-segment.segment-index c.segment-item.result
    c.loop-segment-test.true c.are_tag_names.result decides c.if-not-are_tag_names.false left)
