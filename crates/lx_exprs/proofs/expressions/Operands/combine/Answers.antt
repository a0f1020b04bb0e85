use Rattle.lx_exprs.specs.declared.operands.Operand.TheVariants as operand
use Rattle.lx_exprs.proofs.Contents.OperandValues.{bounded_all, bounded_front, bounded_last}
use Rattle.lx_exprs.proofs.expressions.Operands.combine.Goals as goal

pub returns-clause-bounded : goal.returns-clause-bounded
returns-clause-bounded c bounded =
    let middle = c.pop-last.new.self.values.items in
    let front = c.pop-other.new.self.values.items in
    let rest = bounded_front middle c.args.self.now.values.items c.pop-last.result c.pop-last.ensures.values bounded in
    bounded_all front c.push.new.self.values.items (operand.Whole c.in_ok-value.value) c.in_ok-push.ensures.values
    (bounded_front front middle c.pop-other.result c.pop-other.ensures.values rest)
    (c.in_ok-value.ensures.bounded (c.in_ok-left.ensures.bounded (bounded_last front middle c.pop-other.result c.pop-other.ensures.values rest))
    (c.in_ok-right.ensures.bounded (bounded_last middle c.args.self.now.values.items c.pop-last.result c.pop-last.ensures.values bounded)))

pub returns-clause-kinds : goal.returns-clause-kinds
returns-clause-kinds c are =
    let tags = c.args.self.now.seen in
    let last = c.pop-last.ensures.kinds tags are in
    let other = c.pop-other.ensures.kinds tags last.0 in
    rw c.in_ok-push.ensures.seen (rw c.pop-other.ensures.seen (rw c.pop-last.ensures.seen
    (c.in_ok-push.ensures.kinds tags other.0
    (c.in_ok-value.ensures.kinds tags (c.in_ok-left.ensures.kinds tags other.1) (c.in_ok-right.ensures.kinds tags last.1)))))
