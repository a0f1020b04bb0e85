use Rattle.std.proofs.Common.{◌∙◌, refl}
use Rattle.std.proofs.lemmas.Result.{err_from_is_err_and}
use Rattle.lx_exprs.specs.Seen.{scope_view}
use Rattle.lx_forms.specs.Seen.{lexeme_view}
use Rattle.lx_exprs.proofs.Forms.ExpressionSteps.{last_two, subtract_stops, subtract_taken}
use Rattle.lx_exprs.proofs.Contents.OperandValues.{bounded_all, bounded_front}
use Rattle.lx_exprs.proofs.expressions.Operands.subtract.Goals as goal

pub returns-in_err-operand-clause-stands : goal.returns-in_err-operand-clause-stands
returns-in_err-operand-clause-stands c operands are =
    let two = last_two c.args.reader.room operands.meanings c.args.self.now.values.items c.pop-last.new.self.values.items c.pop-left.new.self.values.items
    c.pop-left.result c.pop-last.result c.pop-last.ensures.values c.pop-left.ensures.values are.values in
    let p = err_from_is_err_and c.from_residual-in_err-operand.result c.from_residual-in_err-operand.ensures.1 in
    rw (p.1, p.2)
    (subtract_stops c.args.reader.options.now (scope_view c.args.reader.scope) c.args.reader.room operands.meanings c.args.is_operand
    (lexeme_view c.args.sign.now) c.pop-left.new.self.values.items c.pop-left.result c.pop-last.result c.in_err-operand.field-0.0 two
    (c.in_err-operand.ensures.read two.first two.second (lexeme_view c.args.sign.now) refl two.left_is (c.in_ok-right.ensures.stands two.second two.right_is)))

pub returns-clause-stands : goal.returns-clause-stands
returns-clause-stands c operands are =
    let two = last_two c.args.reader.room operands.meanings c.args.self.now.values.items c.pop-last.new.self.values.items c.pop-left.new.self.values.items
    c.pop-left.result c.pop-last.result c.pop-last.ensures.values c.pop-left.ensures.values are.values in
    subtract_taken c.args.reader.options.now (scope_view c.args.reader.scope) c.args.reader.room operands c.args.self.now c.push.new.self
    c.args.is_operand (lexeme_view c.args.sign.now) c.pop-left.new.self.values.items c.pop-left.result c.pop-last.result c.in_ok-operand.operand are two
    c.in_ok-push.ensures.values (rw c.in_ok-push.ensures.seen (rw c.pop-left.ensures.seen (rw c.pop-last.ensures.seen refl)))
    (rw c.in_ok-push.ensures.groups (rw c.pop-left.ensures.groups (rw c.pop-last.ensures.groups refl)))
    (c.in_ok-push.ensures.open_groups ∙ c.pop-left.ensures.open_groups ∙ c.pop-last.ensures.open_groups)
    (c.in_ok-operand.ensures.read two.first two.second (lexeme_view c.args.sign.now) refl two.left_is (c.in_ok-right.ensures.stands two.second two.right_is))

pub returns-clause-bounded : goal.returns-clause-bounded
returns-clause-bounded c bounded =
    let middle = c.pop-last.new.self.values.items in
    let front = c.pop-left.new.self.values.items in
    let rest = bounded_front middle c.args.self.now.values.items c.pop-last.result c.pop-last.ensures.values bounded in
    bounded_all front c.push.new.self.values.items c.in_ok-operand.operand c.in_ok-push.ensures.values
    (bounded_front front middle c.pop-left.result c.pop-left.ensures.values rest) c.in_ok-operand.ensures.bounded

pub returns-clause-kinds : goal.returns-clause-kinds
returns-clause-kinds c are =
    let tags = c.args.self.now.seen in
    let last = c.pop-last.ensures.kinds tags are in
    let left = c.pop-left.ensures.kinds tags last.0 in
    rw c.in_ok-push.ensures.seen (rw c.pop-left.ensures.seen (rw c.pop-last.ensures.seen
    (c.in_ok-push.ensures.kinds tags left.0 (c.in_ok-operand.ensures.kinds tags))))
