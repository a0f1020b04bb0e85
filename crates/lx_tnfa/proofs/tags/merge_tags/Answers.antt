use Rattle.std.proofs.Common.{◌≡◌, ◌+◌, ◌∙◌, suc, ap, arith, subst, drop}
use Rattle.lx_regex.specs.Script.{merge_tags}
use Rattle.lx_tnfa.proofs.Construction.TagMerges.{merge_next}
use Rattle.lx_tnfa.proofs.tags.merge_tags.Goals as goal

pub loop-tag-preserved : goal.loop-tag-preserved
loop-tag-preserved c =
    let i = c.loop-tag.tag-index in
    let all = merge_tags c.args.tags.now c.args.list.now.items in
    let next : suc i ≡ i + 1 = omega arith in
    subst
    (λ n. merge_tags (drop n c.args.tags.now) c.put_tag.new.list.items ≡ all) next
    (ap (merge_tags (drop (suc i) c.args.tags.now)) c.in_ok-put_tag.ensures
    ∙ merge_next c.args.tags.now i c.loop-tag.list.items all c.loop-tag-test.true c.loop-tag.invariant)
