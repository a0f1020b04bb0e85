use Rattle.std.proofs.Common.{◌∙◌, ap, sym, arith}
use Rattle.lx_tnfa.specs.TagLists.{remove_tag}
use Rattle.lx_tnfa.proofs.Construction.TagMerges.{remove_at, remove_none}
use Rattle.lx_tnfa.proofs.tags.remove_tag.Goals as goal

pub returns-then-index-number : goal.returns-then-index-number
returns-then-index-number c =
    let now = c.loop-place.invariant in
    c.remove.ensures.items
    ∙ sym (remove_at c.args.number c.loop-place.list.items c.loop-place.place c.index.result.now (omega arith) c.index.ensures c.if-index-number.true now.so)
    ∙ ap (remove_tag c.args.number) now.same

pub returns : goal.returns
returns c =
    let now = c.loop-place.invariant in
    sym (remove_none c.args.number c.loop-place.list.items c.loop-place.place (omega arith) now.so)
    ∙ ap (remove_tag c.args.number) now.same
