use Rattle.std.proofs.Common.{◌≡◌, ◌≤◌, arith}
use Rattle.tdfa_samples.proofs.tests.MarkLists.{one_tag_more}
use Rattle.tdfa_samples.proofs.tests.terms.marks.Goals as goal

pub loop-number-preserved : goal.loop-number-preserved
loop-number-preserved c =
    λ tags. rw c.in_ok-push.ensures.items
    (one_tag_more tags c.loop-number.list.items c.s_tag-next.result c.loop-number.number (c.loop-number.invariant tags) (c.s_tag-next.ensures tags))

pub returns : goal.returns
returns c =
    let end : c.loop-number.number ≤ c.args.count = c.loop-number.auto.number-end in
    let all : c.args.count ≡ c.loop-number.number = omega (arith, end, c.loop-number-test.false) in
    λ tags. rw all (c.loop-number.invariant tags)
