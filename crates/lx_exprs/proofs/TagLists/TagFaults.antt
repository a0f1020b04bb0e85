-- Names and tags, one by one.
use Rattle.std.proofs.Common.{◌≡◌, ℕ, ◌+◌, ◌<◌, List, drop, get_or, length, sym, ap, ◌∙◌}
use Rattle.std.specs.Prelude.{Some, if◌then◌else◌}
use Rattle.std.proofs.lemmas.List.{at_drop_more}
use Rattle.lx_base.specs.declared.places.Pos.{Pos}
use Rattle.lx_base.specs.declared.faults.Fault.TheVariants.{DuplicateTag}
use Rattle.lx_exprs.specs.Checks.{is_tag_among, repeated_tag}
use Rattle.lx_regex.specs.declared.rules.Tag.{Tag}

-- and the next of the tags
pub repeated_tag-drop : (at : Pos) (tags seen : List Tag) (i : ℕ) (item : Tag) → i < length tags → item ≡ get_or tags i item
    → repeated_tag at (drop i tags) seen
    ≡ (if is_tag_among item.name seen then Some (DuplicateTag at item.name) else repeated_tag at (drop (i + 1) tags) seen)
repeated_tag-drop at tags seen i item lt is =
    at_drop_more (λ tags. repeated_tag at tags seen) tags i item lt
    ∙ ap (λ (tag : Tag). if is_tag_among tag.name seen then Some (DuplicateTag at tag.name) else repeated_tag at (drop (i + 1) tags) seen) (sym is)
