use Rattle.std.proofs.Common.{◌<◌, length, arith}
use Rattle.lx_class.proofs.RangeLists.{BeginBy-later, EndBefore-later}
use Rattle.lx_class.proofs.Places.{canonical_at, first_left, past_here, InRanges-take_more}
use Rattle.lx_class.proofs.Unions.{grows_uncovered}
use Rattle.lx_class.proofs.ranges.difference_of.Goals as goal

pub append_uncovered-requires-clause-ordered : goal.append_uncovered-requires-clause-ordered
append_uncovered-requires-clause-ordered c = (canonical_at _ _ c.loop-range-test.true c.requires.ranges).1

pub append_uncovered-requires-clause-bounded : goal.append_uncovered-requires-clause-bounded
append_uncovered-requires-clause-bounded c = (canonical_at _ _ c.loop-range-test.true c.requires.ranges).2

pub append_uncovered-requires-clause-in_turn : goal.append_uncovered-requires-clause-in_turn
append_uncovered-requires-clause-in_turn c =
    c.loop-range.invariant.in_turn _ (first_left _ _ c.loop-range-test.true c.requires.ranges)

pub append_uncovered-requires-clause-passed : goal.append_uncovered-requires-clause-passed
append_uncovered-requires-clause-passed c =
    c.loop-range.invariant.passed _ (first_left _ _ c.loop-range-test.true c.requires.ranges)

pub loop-range-preserved : goal.loop-range-preserved
loop-range-preserved c =
    let xs = c.args.ranges.now in
    let i = c.loop-range.range-index in
    let lt : i < length xs = c.loop-range-test.true in
    let known = c.loop-range.invariant in
    let now = c.in_ok-place.ensures in
    record {
      within = now.within;
      canonical = now.canonical;
      in_turn = λ point at.
          let past = past_here xs i lt point c.requires.ranges at in
          BeginBy-later _ _ _ (omega arith) now.begin;
      passed = λ point at.
          let past = past_here xs i lt point c.requires.ranges at in
          EndBefore-later _ _ _ (omega arith) now.passed;
      points = λ point. grows_uncovered (now.points point) (known.points point) (InRanges-take_more xs i lt point);
    }
