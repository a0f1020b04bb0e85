use Rattle.lx_exprs.specs.declared.operands.Operand.TheVariants as operand
use Rattle.lx_exprs.proofs.Contents.OperandValues.{bounded_all, bounded_front, bounded_last}
use Rattle.lx_exprs.proofs.expressions.Operands.repeat.Goals as goal

pub returns-clause-bounded : goal.returns-clause-bounded
returns-clause-bounded c bounded =
    let front = c.pop.new.self.values.items in
    bounded_all front c.push.new.self.values.items (operand.Whole c.in_ok-value.value) c.in_ok-push.ensures.values
    (bounded_front front c.args.self.now.values.items c.pop.result c.pop.ensures.values bounded)
    (c.in_ok-value.ensures.bounded (c.in_ok-body.ensures.bounded (bounded_last front c.args.self.now.values.items c.pop.result c.pop.ensures.values bounded)))

pub returns-clause-kinds : goal.returns-clause-kinds
returns-clause-kinds c are =
    let tags = c.args.self.now.seen in
    let last = c.pop.ensures.kinds tags are in
    rw c.in_ok-push.ensures.seen (rw c.pop.ensures.seen
    (c.in_ok-push.ensures.kinds tags last.0 (c.in_ok-value.ensures.kinds tags (c.in_ok-body.ensures.kinds tags last.1))))
