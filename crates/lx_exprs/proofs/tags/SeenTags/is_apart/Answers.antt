use Rattle.std.proofs.Common.{◌≡◌, ◌∙◌, ap, sym}
use Rattle.std.specs.Prelude.{◌||◌, not, true}
use Rattle.std.specs.List.{list_any}
use Rattle.std.proofs.lemmas.List.Folds.{list_any-append}
use Rattle.lx_exprs.specs.Checks.{is_tag_among}
use Rattle.lx_regex.specs.declared.rules.Tag.{Tag}
use Rattle.lx_exprs.proofs.TagLists.SharedNames.{any-segment}
use Rattle.lx_exprs.proofs.tags.SeenTags.is_apart.Goals as goal

pub returns-then-has_any : goal.returns-then-has_any
returns-then-has_any c =
    let test = λ (tag : Tag). is_tag_among tag.name c.args.tags.now in
    let tags = c.tags.ensures ∙ c.deref.ensures ∙ ap (λ segment. segment.value) c.segment-item.is in
    let here = ap (list_any test) (sym tags) ∙ sym c.has_any.ensures ∙ c.if-has_any.true in
    let shared : list_any test c.self.inside.shared ≡ true =
    ap (list_any test) (sym c.segments-segments.ensures)
    ∙ any-segment (λ tags. tags.value) test c.segments-segments.result.now c.loop-segment.segment-index c.segment-item.result c.loop-segment-test.true here in
    sym (ap (λ tags. not (list_any test tags)) (sym c.self.view_is)
    ∙ ap not (list_any-append test c.self.inside.shared c.self.inside.own ∙ ap (λ found. found || list_any test c.self.inside.own) shared))
