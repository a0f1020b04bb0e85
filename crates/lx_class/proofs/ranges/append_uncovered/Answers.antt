use Rattle.std.proofs.Common.{◌+◌, ◌<◌, ◌≤◌, length, arith}
use Rattle.lx_class.specs.Ranges.{InRanges}
use Rattle.lx_class.proofs.RangeLists.{BeginBy-later, EndBefore-later}
use Rattle.lx_class.proofs.Places.{canonical_at, found_at}
use Rattle.lx_class.proofs.Holes.{free_past, free_before, passed_more}
use Rattle.lx_class.proofs.Unions.{uncovered_to, uncovered_through}
use Rattle.lx_class.proofs.ranges.append_uncovered.Goals as goal
use Rattle.lx_class.proofs.ranges.append_uncovered.Goals.{then-loop-place-test+else-holes-place, else-loop-place-test}

pub returns-then-range-hole-clause-points : goal.returns-then-range-hole-clause-points
returns-then-range-hole-clause-points c = λ point.
    let known = c.loop-place.invariant in
    let lt : c.loop-place.place < length c.args.holes.now = c.loop-place-test.true in
    let parts = canonical_at _ _ lt c.requires.canonical_holes in
    uncovered_through c.args.range point
    (uncovered_to c.args.range.lo c.loop-place.lo _ (c.args.range.hi + 1) point
    (c.in_ok-append_points.ensures.points point) (known.points point) known.from (omega arith) (omega arith)
    (free_before _ _ lt c.loop-place.lo point c.requires.canonical_holes known.passed)
    (λ _ from below. found_at _ _ lt point from (omega arith)))

pub returns-then-range-hole-clause-begin : goal.returns-then-range-hole-clause-begin
returns-then-range-hole-clause-begin c =
    let known = c.loop-place.invariant in
    c.in_ok-append_points.ensures.begin c.args.range.hi (BeginBy-later _ _ _ known.to known.in_turn) known.to

pub returns-then-range-hole-clause-passed : goal.returns-then-range-hole-clause-passed
returns-then-range-hole-clause-passed c =
    let known = c.loop-place.invariant in EndBefore-later _ _ _ known.to known.passed

pub loop-place-preserved : goal.loop-place-preserved
loop-place-preserved c =
    let known = c.loop-place.invariant in
    let lo = c.max-lo.result in
    let lt : c.loop-place.place < length c.args.holes.now = c.loop-place-test.true in
    let parts = canonical_at _ _ lt c.requires.canonical_holes in
    let le : c.loop-place.lo ≤ lo = omega arith in
    record {
      from = omega arith;
      to = omega arith;
      within = omega arith;
      canonical = c.in_ok-append_points.ensures.canonical;
      in_turn = c.in_ok-append_points.ensures.begin lo (BeginBy-later _ _ _ le known.in_turn) le;
      passed = passed_more _ _ lt c.loop-place.lo lo known.passed le (omega arith);
      points = λ point.
          uncovered_to c.args.range.lo c.loop-place.lo _ lo point
          (c.in_ok-append_points.ensures.points point) (known.points point) known.from le (omega arith)
          (free_before _ _ lt c.loop-place.lo point c.requires.canonical_holes known.passed)
          (λ after from below. found_at _ _ lt point from (omega arith));
    }

pub returns-clause-points : goal.returns-clause-points
returns-clause-points c = λ point.
    let known = c.loop-place.invariant in
    let free : c.loop-place.lo ≤ point → point < c.args.range.hi + 1 → ¬ InRanges c.args.holes.now point =
    λ from below. elim c.loop-place-test.branch [
      | then-loop-place-test+else-holes-place w ↦
          free_before _ _ w.loop-place-test.true c.loop-place.lo point c.requires.canonical_holes known.passed from (omega arith)
      | else-loop-place-test w ↦
          free_past _ _ c.loop-place.lo point w.loop-place-test.false known.passed from
    ] in
    uncovered_through c.args.range point
    (uncovered_to c.args.range.lo c.loop-place.lo (c.args.range.hi + 1) (c.args.range.hi + 1) point
    (c.in_ok-append_points-2.ensures.points point) (known.points point) known.from (omega arith) (omega arith)
    free (λ _ from below. absurd (omega arith)))

pub returns-clause-begin : goal.returns-clause-begin
returns-clause-begin c =
    let known = c.loop-place.invariant in
    c.in_ok-append_points-2.ensures.begin c.args.range.hi (BeginBy-later _ _ _ known.to known.in_turn) known.to

pub returns-clause-passed : goal.returns-clause-passed
returns-clause-passed c = let known = c.loop-place.invariant in EndBefore-later _ _ _ known.to known.passed
