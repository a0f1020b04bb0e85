use Rattle.std.proofs.Common.{arith, subst, sym}
use Rattle.lx_exprs.specs.Defined.{is_built}
use Rattle.lx_exprs.specs.Meanings.{enclosed}
use Rattle.lx_exprs.specs.Values.{IsCounted}
use Rattle.lx_exprs.proofs.Contents.ValueLimits.{counted_enclosed, grows}
use Rattle.lx_exprs.proofs.values.Value.enclosed.Goals as goal

pub returns-clause-stands : goal.returns-clause-stands
returns-clause-stands c meaning is =
    c.limited.ensures.stands (enclosed meaning)
    (subst (λ n. IsCounted (enclosed meaning) c.args.self.size n c.args.self.groups c.args.self.tags) (sym c.sum-nesting.ensures)
    (counted_enclosed meaning c.args.self.size c.args.self.nesting c.args.self.groups c.args.self.tags is.counted))
    (c.enclosed-content.ensures.stands (is_built c.args.room meaning) (is_built c.args.room (enclosed meaning)) meaning is.content
    (grows c.args.room meaning (enclosed meaning) (omega arith) (omega arith) (omega arith)))

pub returns-clause-bounded : goal.returns-clause-bounded
returns-clause-bounded c is =
    let less = c.enclosed-content.ensures.size in
    let size = is.size in
    c.limited.ensures.bounded is.some (λ small. omega (arith, less, size)) (c.enclosed-content.ensures.tags c.args.self.tags is.tags)

pub returns-clause-kinds : goal.returns-clause-kinds
returns-clause-kinds c tags are = c.limited.ensures.kinds tags (c.enclosed-content.ensures.kinds tags are)
