use Rattle.std.proofs.Common.{arith, refl}
use Rattle.lx_exprs.specs.Defined.{is_built}
use Rattle.lx_exprs.specs.Meanings.{class_meaning}
use Rattle.lx_exprs.proofs.leaves.read_set.Goals as goal

pub returns-then-is_refused-clause-read : goal.returns-then-is_refused-clause-read
returns-then-is_refused-clause-read c definitions depth all tags nesting count =
    c.is_refused.ensures.refused c.args.reader.options.now definitions c.args.at c.if-is_refused.true

pub returns-clause-read : goal.returns-clause-read
returns-clause-read c definitions depth all tags nesting count =
    let options = c.args.reader.options.now in
    let meaning = class_meaning c.args.is_operand options.empty depth tags c.args.groups all c.args.set in (
      c.is_refused.ensures.taken options definitions c.args.at c.if-is_refused.false,
      c.in_ok-limited.ensures.stands meaning (record { size_is = refl; nesting_is = nesting; groups_is = refl; tags_is = count })
          (c.class_content-content.ensures.stands (is_built c.args.reader.room meaning) depth c.args.groups all tags),
    )

pub returns-clause-bounded : goal.returns-clause-bounded
returns-clause-bounded c =
    let size = c.class_content-content.ensures.size in
    c.in_ok-limited.ensures.bounded (omega arith) (λ small. omega (arith, size)) (c.class_content-content.ensures.tags c.args.count)

pub returns-clause-kinds : goal.returns-clause-kinds
returns-clause-kinds c tags = c.in_ok-limited.ensures.kinds tags (c.class_content-content.ensures.kinds tags)
