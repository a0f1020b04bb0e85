use Rattle.std.proofs.Common.{◌∙◌, ap, sym, arith}
use Rattle.lx_regex.specs.Script.{put_tag}
use Rattle.lx_tnfa.proofs.Construction.TagMerges.{put_here, put_last}
use Rattle.lx_tnfa.proofs.tags.put_tag.Goals as goal

pub returns-then-number-index : goal.returns-then-number-index
returns-then-number-index c =
    let now = c.loop-place.invariant in
    c.in_ok-insert.ensures.items
    ∙ sym (put_here c.args.number c.loop-place.list.items c.loop-place.place c.index.result.now (omega arith) c.index.ensures c.if-number-index.true now.so)
    ∙ ap (put_tag c.args.number) now.same

pub returns : goal.returns
returns c =
    let now = c.loop-place.invariant in
    c.in_ok-push.ensures.items
    ∙ sym (put_last c.args.number c.loop-place.list.items c.loop-place.place (omega arith) now.so)
    ∙ ap (put_tag c.args.number) now.same
