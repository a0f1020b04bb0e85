use Rattle.std.proofs.Common.{arith}
use Rattle.lx_exprs.specs.Defined.{is_built}
use Rattle.lx_exprs.specs.Meanings.{followed}
use Rattle.lx_exprs.proofs.Contents.OperandValues.{below_greater}
use Rattle.lx_exprs.proofs.Contents.ValueLimits.{counted_followed, grows}
use Rattle.lx_exprs.proofs.values.Value.followed_by.Goals as goal

pub returns-clause-stands : goal.returns-clause-stands
returns-clause-stands c first second is is' =
    let numbers =
    counted_followed first second c.args.self.size c.args.self.nesting c.args.self.groups c.args.self.tags c.args.back.size c.args.back.nesting
    c.args.back.groups c.args.back.tags is.counted is'.counted in
    c.limited.ensures.stands (followed first second)
    (rw c.sum-size.ensures (rw c.max-nesting.ensures (rw c.sum-groups.ensures (rw c.max-tags.ensures numbers))))
    (c.in_ok-content.ensures.stands (is_built c.args.room first) (is_built c.args.room second) (is_built c.args.room (followed first second)) first second
    is.content is'.content
    (grows c.args.room first (followed first second) (omega arith) (omega arith) (omega arith))
    (grows c.args.room second (followed first second) (omega arith) (omega arith) (omega arith)))

pub returns-clause-bounded : goal.returns-clause-bounded
returns-clause-bounded c is is' =
    let less = c.in_ok-content.ensures.size in
    let some = is.some in
    let size = is.size in
    let more = is'.size in
    let all = c.max-tags.ensures in
    c.limited.ensures.bounded (omega (arith, some, c.sum-size.ensures)) (λ small. omega (arith, less, size, more, small, c.sum-size.ensures))
    (c.in_ok-content.ensures.tags c.max-tags.result
    (below_greater c.args.self.tags c.max-tags.result (omega (arith, all)) c.args.self.content is.tags)
    (below_greater c.args.back.tags c.max-tags.result (omega (arith, all)) c.args.back.content is'.tags))

pub returns-clause-kinds : goal.returns-clause-kinds
returns-clause-kinds c tags one two = c.limited.ensures.kinds tags (c.in_ok-content.ensures.kinds tags one two)
