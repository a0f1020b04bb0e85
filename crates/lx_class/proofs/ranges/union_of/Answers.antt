use Rattle.std.proofs.Common.{◌<◌, length, sym, subst, arith}
use Rattle.lx_class.specs.Ranges.{IsCanonical, IsUnion}
use Rattle.lx_class.proofs.RangeLists.{InRanges-split, IsCanonical-drop, suffix}
use Rattle.lx_class.proofs.Places.{canonical_at, first_left, from_here, past_here, still_left, InRanges-take_more}
use Rattle.lx_class.proofs.Unions.{grows_left, grows_right, grows_by_both}
use Rattle.lx_class.proofs.ranges.union_of.Goals as goal

pub append_range-requires-clause-ordered : goal.append_range-requires-clause-ordered
append_range-requires-clause-ordered c = (canonical_at _ _ c.loop-i-test.true c.requires.left).1

pub append_range-requires-clause-bounded : goal.append_range-requires-clause-bounded
append_range-requires-clause-bounded c = (canonical_at _ _ c.loop-i-test.true c.requires.left).2

pub append_range-requires-clause-in_turn : goal.append_range-requires-clause-in_turn
append_range-requires-clause-in_turn c =
    c.loop-i.invariant.left_in_turn _ (first_left _ _ c.loop-i-test.true c.requires.left)

pub append_range-requires-else-left-i-clause-ordered : goal.append_range-requires-else-left-i-clause-ordered
append_range-requires-else-left-i-clause-ordered c = (canonical_at _ _ c.if-j-right.true c.requires.right).1

pub append_range-requires-else-left-i-clause-bounded : goal.append_range-requires-else-left-i-clause-bounded
append_range-requires-else-left-i-clause-bounded c = (canonical_at _ _ c.if-j-right.true c.requires.right).2

pub append_range-requires-else-left-i-clause-in_turn : goal.append_range-requires-else-left-i-clause-in_turn
append_range-requires-else-left-i-clause-in_turn c =
    c.loop-i.invariant.right_in_turn _ (first_left _ _ c.if-j-right.true c.requires.right)

pub loop-i-preserved-then-left-i : goal.loop-i-preserved-then-left-i
loop-i-preserved-then-left-i c =
    let xs = c.args.left.now in
    let i = c.loop-i.i in
    let lt : i < length xs = c.loop-i-test.true in
    let parts = canonical_at xs i lt c.requires.left in
    let known = c.loop-i.invariant in
    let now = c.in_ok-append_range.ensures in
    record {
      within_left = omega arith;
      within_right = known.within_right;
      canonical = now.canonical;
      left_in_turn = λ point at.
          let past = past_here xs i lt point c.requires.left at in
          now.begin point (known.left_in_turn point (still_left xs i lt point at)) (omega arith);
      right_in_turn = λ point at.
          let from = from_here _ _ c.if-j-right.true point c.requires.right at in
          now.begin point (known.right_in_turn point at) (omega arith);
      points = λ point. grows_left (now.points point) (known.points point) (InRanges-take_more xs i lt point);
    }

pub loop-i-preserved : goal.loop-i-preserved
loop-i-preserved c =
    let ys = c.args.right.now in
    let j = c.loop-i.j in
    let lt : j < length ys = c.if-j-right.true in
    let parts = canonical_at ys j lt c.requires.right in
    let known = c.loop-i.invariant in
    let now = c.in_ok-append_range-2.ensures in
    record {
      within_left = known.within_left;
      within_right = omega arith;
      canonical = now.canonical;
      left_in_turn = λ point at.
          let from = from_here _ _ c.loop-i-test.true point c.requires.left at in
          now.begin point (known.left_in_turn point at) (omega arith);
      right_in_turn = λ point at.
          let past = past_here ys j lt point c.requires.right at in
          now.begin point (known.right_in_turn point (still_left ys j lt point at)) (omega arith);
      points = λ point. grows_right (now.points point) (known.points point) (InRanges-take_more ys j lt point);
    }

pub append_ranges-requires-clause-canonical_rest : goal.append_ranges-requires-clause-canonical_rest
append_ranges-requires-clause-canonical_rest c =
    subst (λ l. IsCanonical l) (sym (suffix c.args.left.now c.loop-i.i)) (IsCanonical-drop c.args.left.now c.loop-i.i c.requires.left)

pub append_ranges-requires-2-clause-canonical_rest : goal.append_ranges-requires-2-clause-canonical_rest
append_ranges-requires-2-clause-canonical_rest c =
    subst (λ l. IsCanonical l) (sym (suffix c.args.right.now c.loop-i.j)) (IsCanonical-drop c.args.right.now c.loop-i.j c.requires.right)

pub returns-clause-points : goal.returns-clause-points
returns-clause-points c =
    let xs = c.args.left.now in
    let ys = c.args.right.now in
    let middle = c.append_ranges.new.ranges.items in
    let with_left = subst (λ l. IsUnion c.loop-i.ranges.items l middle) (suffix xs c.loop-i.i) c.in_ok-append_ranges.ensures.points in
    let with_both = subst (λ l. IsUnion middle l c.append_ranges-2.new.ranges.items) (suffix ys c.loop-i.j) c.in_ok-append_ranges-2.ensures.points in
    λ point. grows_by_both (with_both point) (with_left point) (c.loop-i.invariant.points point)
    (InRanges-split xs c.loop-i.i point) (InRanges-split ys c.loop-i.j point)
