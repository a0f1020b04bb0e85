use Rattle.std.proofs.Common.{◌∙◌, ◌+◌, ap, drop, sym}
use Rattle.std.specs.List.{flat_map, list_any}
use Rattle.std.proofs.lemmas.List.{at_drop_more}
use Rattle.lx_exprs.specs.Checks.{is_tag_among, repeated_tag}
use Rattle.lx_regex.specs.declared.rules.Tag.{Tag}
use Rattle.lx_exprs.proofs.TagLists.SharedNames.{refused, repeated_tag-apart, repeated_tag-found, repeated_tag-passed}
use Rattle.lx_exprs.proofs.tags.repeated_tag.Goals as goal

pub returns-then-is_apart : goal.returns-then-is_apart
returns-then-is_apart c =
    sym (repeated_tag-apart c.args.at c.args.tags.now c.args.seen.now
    (refused (list_any (λ (tag : Tag). is_tag_among tag.name c.args.tags.now) c.args.seen.now) (sym c.is_apart.ensures ∙ c.if-is_apart.true)))

pub returns-then-is_some : goal.returns-then-is_some
returns-then-is_some c =
    let seen = c.args.seen.now in
    let here = c.in_ok-found.ensures ∙ ap (λ tags. repeated_tag c.args.at tags seen) (c.tags.ensures ∙ c.deref.ensures ∙ ap (λ segment. segment.value) c.segment-item.is) in
    repeated_tag-found c.args.at _ (flat_map (λ tags. tags.value) (drop (c.loop-segment.segment-index + 1) c.segments-segments.result.now)) seen c.in_ok-found.found here
    (sym c.is_some.ensures ∙ c.if-is_some.true)
    ∙ sym (c.loop-segment.invariant
    ∙ ap (λ tags. repeated_tag c.args.at tags seen) (at_drop_more (flat_map (λ tags. tags.value)) c.segments-segments.result.now c.loop-segment.segment-index c.segment-item.result c.loop-segment-test.true))

pub loop-segment-preserved : goal.loop-segment-preserved
loop-segment-preserved c =
    let seen = c.args.seen.now in
    let here = c.in_ok-found.ensures ∙ ap (λ tags. repeated_tag c.args.at tags seen) (c.tags.ensures ∙ c.deref.ensures ∙ ap (λ segment. segment.value) c.segment-item.is) in
    c.loop-segment.invariant
    ∙ ap (λ tags. repeated_tag c.args.at tags seen) (at_drop_more (flat_map (λ tags. tags.value)) c.segments-segments.result.now c.loop-segment.segment-index c.segment-item.result c.loop-segment-test.true)
    ∙ repeated_tag-passed c.args.at _ (flat_map (λ tags. tags.value) (drop (c.loop-segment.segment-index + 1) c.segments-segments.result.now)) seen c.in_ok-found.found here
    (sym c.is_some.ensures ∙ c.if-is_some.false)
