use Rattle.std.proofs.Common.{◌≡◌, ◌≤◌, ◌+◌, ◌*◌, arith, refl, min}
use Rattle.lx_regex.specs.Expr.{times}
use Rattle.lx_exprs.specs.Defined.{is_built}
use Rattle.lx_exprs.specs.Meanings.{repeated_by}
use Rattle.std.specs.Prelude.{◌^◌, ◌-◌}
use Rattle.std.proofs.Math.Nat.{mul-le-mul_right}
use Rattle.lx_exprs.specs.Values.{content_size}
use Rattle.lx_exprs.proofs.Contents.ValueLimits.{at_least, counted_repeated, grows, times-some}
use Rattle.lx_exprs.proofs.values.Value.repeated.Goals as goal

pub returns-clause-stands : goal.returns-clause-stands
returns-clause-stands c meaning is =
    let bounds = c.args.bounds in
    let more = at_least meaning.size (times bounds.min bounds.max) (times-some bounds.min bounds.max) in
    c.limited.ensures.stands (repeated_by bounds meaning)
    (rw c.sum-size.ensures (rw c.min.ensures (rw c.saturating_mul.ensures (rw c.times.ensures (rw c.sum-nesting.ensures
    (counted_repeated bounds meaning c.args.self.size c.args.self.nesting c.args.self.groups c.args.self.tags is.counted))))))
    (c.in_ok-content.ensures.stands (is_built c.args.room meaning) (is_built c.args.room (repeated_by bounds meaning)) meaning is.content
    (grows c.args.room meaning (repeated_by bounds meaning) (omega (arith, more)) (omega arith) (omega arith)))

pub returns-clause-bounded : goal.returns-clause-bounded
returns-clause-bounded c is =
    let bounds = c.args.bounds in
    let k = times bounds.min bounds.max in
    let some = is.some in
    let less = c.in_ok-content.ensures.size in
    let more : content_size c.args.self.content * k ≤ c.args.self.size * k = mul-le-mul_right k is.size in
    let at_last : c.args.self.size ≤ c.args.self.size * k = at_least c.args.self.size k (times-some bounds.min bounds.max) in
    let size : c.sum-size.result ≡ min (2 ^ 40) (min (2 ^ 40) (min (c.args.self.size * k) (2 ^ 64 - 1)) + 1) =
    rw c.sum-size.ensures (rw c.min.ensures (rw c.saturating_mul.ensures (rw c.times.ensures refl))) in
    c.limited.ensures.bounded (omega (arith, size, some, at_last)) (λ small. omega (arith, less, more, small, size))
    (c.in_ok-content.ensures.tags c.args.self.tags is.tags)

pub returns-clause-kinds : goal.returns-clause-kinds
returns-clause-kinds c tags are = c.limited.ensures.kinds tags (c.in_ok-content.ensures.kinds tags are)
