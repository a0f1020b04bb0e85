use Rattle.std.proofs.Common.{length, ◌<◌, subst, arith, take_all}
use Rattle.lx_class.specs.Ranges.{IsUnion}
use Rattle.lx_class.proofs.Places.{canonical_at, first_left, past_here, still_left, InRanges-take_more, begins_at}
use Rattle.lx_class.proofs.Unions.{grows_right}
use Rattle.lx_class.proofs.ranges.append_ranges.Goals as goal

pub append_range-requires-clause-ordered : goal.append_range-requires-clause-ordered
append_range-requires-clause-ordered c = (canonical_at _ _ c.loop-range-test.true c.requires.canonical_rest).1

pub append_range-requires-clause-bounded : goal.append_range-requires-clause-bounded
append_range-requires-clause-bounded c = (canonical_at _ _ c.loop-range-test.true c.requires.canonical_rest).2

pub append_range-requires-clause-in_turn : goal.append_range-requires-clause-in_turn
append_range-requires-clause-in_turn c =
    c.loop-range.invariant.in_turn _ (first_left _ _ c.loop-range-test.true c.requires.canonical_rest)

pub loop-range-preserved : goal.loop-range-preserved
loop-range-preserved c =
    let xs = c.args.rest.now in
    let i = c.loop-range.range-index in
    let lt : i < length xs = c.loop-range-test.true in
    let canonical = c.requires.canonical_rest in
    let known = c.loop-range.invariant in
    let now = c.in_ok-append_range.ensures in
    record {
      canonical = now.canonical;
      in_turn = λ point at.
          let past = past_here xs i lt point canonical at in
          let parts = canonical_at xs i lt canonical in
          now.begin point (known.in_turn point (still_left xs i lt point at)) (omega arith);
      points = λ point. grows_right (now.points point) (known.points point) (InRanges-take_more xs i lt point);
      begin = λ point old rest. now.begin point (known.begin point old rest) (begins_at xs i lt point rest);
    }

pub returns-clause-points : goal.returns-clause-points
returns-clause-points c =
    subst (λ l. IsUnion c.args.ranges.now.items l c.loop-range.ranges.items)
    (take_all c.loop-range.range-index c.args.rest.now c.loop-range-test.false) c.loop-range.invariant.points
