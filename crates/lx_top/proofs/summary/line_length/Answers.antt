use Rattle.std.proofs.Common.{add-one, arith, refl}
use Rattle.std.proofs.Math.Seq.{drop-length, take-length}
use Rattle.lx_top.proofs.SummaryLemmas.{lines_of-end, lines_of-feed}
use Rattle.lx_top.proofs.summary.line_length.Goals as goal

pub returns-then-letter-eq10-clause-first : goal.returns-then-letter-eq10-clause-first
returns-then-letter-eq10-clause-first c = λ some.
    rw (add-one, lines_of-feed c.args.text.now c.loop-place.place c.loop-place-test.true c.loop-place.invariant c.if-letter-eq10.true) refl

pub returns-clause-first : goal.returns-clause-first
returns-clause-first c = λ some.
    rw (take-length c.args.text.now, drop-length c.args.text.now) (lines_of-end c.args.text.now some (λ k below. c.loop-place.invariant k (omega arith)))
