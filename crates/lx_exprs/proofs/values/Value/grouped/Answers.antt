use Rattle.std.proofs.Common.{◌≡◌, ◌+◌, suc, arith, min, max, refl}
use Rattle.std.specs.Prelude.{◌^◌}
use Rattle.lx_exprs.specs.Defined.{is_built, kept}
use Rattle.lx_exprs.specs.Meanings.{grouped}
use Rattle.lx_exprs.proofs.Contents.LeafContents.{fits-tagged}
use Rattle.lx_exprs.proofs.Contents.OperandValues.{below_greater}
use Rattle.lx_exprs.proofs.Contents.ValueLimits.{counted_grouped, grows}
use Rattle.lx_exprs.proofs.values.Value.grouped.Goals as goal

pub returns-clause-stands : goal.returns-clause-stands
returns-clause-stands c meaning is =
    let before = c.args.before in
    let around = grouped (kept (suc before)) meaning in
    c.limited.ensures.stands around
    (rw c.sum-size.ensures (rw c.sum-nesting.ensures (rw c.sum-groups.ensures (rw c.max-tags.ensures (rw c.sum.ensures (rw c.sum-number.ensures
    (counted_grouped before meaning c.args.self.size c.args.self.nesting c.args.self.groups c.args.self.tags is.counted)))))))
    (c.in_ok-content.ensures.stands (is_built c.args.room meaning) (is_built c.args.room around) meaning is.content
    (grows c.args.room meaning around (omega arith) (omega arith) (omega arith))
    (λ many. fits-tagged c.args.room c.requires around.size around.nesting around.count (omega (arith, many))))

pub returns-clause-bounded : goal.returns-clause-bounded
returns-clause-bounded c is =
    let less = c.in_ok-content.ensures.size in
    let some = is.some in
    let size = is.size in
    let tags : c.max-tags.result ≡ max c.args.self.tags (min (2 ^ 40) (min (2 ^ 40) (c.args.before + 1) + min (2 ^ 40) (c.args.before + 1))) =
    rw c.max-tags.ensures (rw c.sum.ensures (rw c.sum-number.ensures refl)) in
    c.limited.ensures.bounded (omega (arith, some, c.sum-size.ensures)) (λ small. omega (arith, less, size, small, c.sum-size.ensures))
    (c.in_ok-content.ensures.tags c.max-tags.result
    (below_greater c.args.self.tags c.max-tags.result (omega (arith, tags)) c.args.self.content is.tags) (λ few. omega (arith, few, tags)))

pub returns-clause-kinds : goal.returns-clause-kinds
returns-clause-kinds c tags are = c.limited.ensures.kinds tags (c.in_ok-content.ensures.kinds tags are)
