use Rattle.std.proofs.Common.{◌≡◌, ◌+◌, ◌∙◌, suc, ap, arith, subst, drop}
use Rattle.lx_regex.specs.Script.{merge_tags}
use Rattle.lx_tnfa.specs.Shapes.{tags_together}
use Rattle.lx_tnfa.proofs.Construction.ShapeFacts.{tags_next, together-nil}
use Rattle.lx_tnfa.proofs.shape.tags_together.Goals as goal

pub loop-member-init : goal.loop-member-init
loop-member-init c = ap (merge_tags (tags_together c.args.members.now)) c.new-tags.ensures.items ∙ together-nil c.args.members.now

pub loop-member-preserved : goal.loop-member-preserved
loop-member-preserved c =
    let i = c.loop-member.member-index in
    let members = c.args.members.now in
    let next : suc i ≡ i + 1 = omega arith in
    let merged = rw c.deref.ensures.value at c.in_ok-merge_tags.ensures in
    subst
    (λ n. merge_tags (tags_together (drop n members)) c.merge_tags.new.list.items ≡ tags_together members) next
    (tags_next members i c.member-item.result c.loop-member.tags.items c.merge_tags.new.list.items (tags_together members) c.loop-member-test.true
    c.member-item.is c.loop-member.invariant merged)
