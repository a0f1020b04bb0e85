use Rattle.std.proofs.Common.{◌≡◌, ◌∙◌, ap, ap₂, sym}
use Rattle.std.specs.Prelude.{◌||◌}
use Rattle.std.specs.Str.{bytes_eq}
use Rattle.lx_exprs.specs.Checks.{is_tag_among}
use Rattle.lx_exprs.proofs.TagLists.TagIndexes.{has, has-insert, is_tag_among-more, on_ok}
use Rattle.lx_exprs.proofs.tags.TagNames.push.Goals as goal

pub invariant_of-self-else-is_err : goal.invariant_of-self-else-is_err
invariant_of-self-else-is_err c = λ name.
    let tags = c.self.inside.tags.items in
    let entries = c.self.inside.index.entries in
    let added = on_ok c.insert.result (sym c.is_err.ensures.value ∙ c.if-is_err.false) c.insert.ensures.entries in
    let same : c.in_ok-key.key.items ≡ c.in_ok-name.name = c.in_ok-key.ensures.items ∙ sym c.in_ok-name.ensures in
    ap (has (λ key. key.items) name) added ∙ has-insert (λ key. key.items) name c.in_ok-key.key tt entries
    ∙ ap₂ (λ a b. a || b) (c.self.invariant name) (ap (bytes_eq name) same)
    ∙ sym (is_tag_among-more name (record { name = c.in_ok-name.name; many = c.args.many }) tags) ∙ ap (is_tag_among name) (sym c.in_ok-push.ensures.items)
