use Rattle.lx_exprs.specs.declared.operands.Operand.TheVariants as operand
use Rattle.lx_exprs.specs.Seen.{scope_view}
use Rattle.lx_forms.specs.Seen.{lexeme_view}
use Rattle.lx_exprs.proofs.Forms.ExpressionSteps.{leaf_taken}
use Rattle.lx_exprs.proofs.Contents.OperandValues.{bounded_all}
use Rattle.std.proofs.Common.{subst, sym}
use Rattle.lx_exprs.specs.Reading.{HaveOperandKinds}
use Rattle.lx_exprs.proofs.Contents.OperandValues.{operand_kinds-more}
use Rattle.lx_exprs.proofs.expressions.Operands.read.Goals as goal

pub returns-clause-stands : goal.returns-clause-stands
returns-clause-stands c operands are =
    leaf_taken c.args.reader.options.now (scope_view c.args.reader.scope) c.args.reader.room operands c.args.self.now c.push.new.self
    c.args.is_operand (lexeme_view c.args.lexeme.now) c.in_ok-value.value are c.in_ok-push.ensures.values
    (rw c.in_ok-push.ensures.groups c.sum-self.ensures) c.in_ok-push.ensures.open_groups (rw c.in_ok-push.ensures.seen c.in_ok-value.ensures.read)

pub returns-clause-bounded : goal.returns-clause-bounded
returns-clause-bounded c bounded =
    bounded_all c.args.self.now.values.items c.push.new.self.values.items (operand.Whole c.in_ok-value.value) c.in_ok-push.ensures.values bounded
    c.in_ok-value.ensures.bounded

pub returns-clause-kinds : goal.returns-clause-kinds
returns-clause-kinds c are =
    let seen = c.in_ok-value.ensures.read.seen in
    rw c.in_ok-push.ensures.seen
    (c.in_ok-push.ensures.kinds c.read_leaf.new.seen
    (subst (λ tags. HaveOperandKinds tags c.args.self.now.values.items) (sym seen)
    (operand_kinds-more c.args.self.now.seen c.in_ok-value.ensures.read.meaning.tags c.args.self.now.values.items are)) c.in_ok-value.ensures.kinds)
