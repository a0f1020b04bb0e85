use Rattle.std.proofs.Common.{rules, ◌+◌, ◌-◌, ◌/◌, ◌<◌, ◌≡◌, length, drop, refl, subst, ⊎_elim, arith}
use Rattle.lx_class.specs.Ranges.{InRanges}
use Rattle.lx_class.proofs.RangeLists.{InRanges-split}
use Rattle.lx_class.proofs.Places.{found_at, from_here, not_through}
use Rattle.lx_class.proofs.ranges.holds_point.Goals as goal

pub loop-low-preserved-then-point-range : goal.loop-low-preserved-then-point-range
loop-low-preserved-then-point-range c =
    let known = c.loop-low.invariant in
    let within : c.loop-low.low + (c.loop-low.high - c.loop-low.low) / 2 < length c.args.ranges.now = omega arith in
    record {
      ordered = omega arith;
      within = omega arith;
      not_before = known.not_before;
      not_after = λ at. let from = from_here _ _ within c.args.point c.requires at in omega arith;
    }

pub loop-low-preserved : goal.loop-low-preserved
loop-low-preserved c =
    let known = c.loop-low.invariant in
    let within : c.loop-low.low + (c.loop-low.high - c.loop-low.low) / 2 < length c.args.ranges.now = omega arith in
    record {
      ordered = omega arith;
      within = known.within;
      not_before = not_through _ _ within c.args.point c.requires c.if-range-point.true;
      not_after = known.not_after;
    }

pub returns-else-range-point : goal.returns-else-range-point
returns-else-range-point c =
    let known = c.loop-low.invariant in
    let within : c.loop-low.low + (c.loop-low.high - c.loop-low.low) / 2 < length c.args.ranges.now = omega arith in
    (λ _. found_at _ _ within c.args.point c.if-point-range.false c.if-range-point.false, λ _. refl)

pub returns : goal.returns
returns c =
    let known = c.loop-low.invariant in
    let met : c.loop-low.low ≡ c.loop-low.high = omega arith in
    let xs = c.args.ranges.now in (
      λ no. absurd (search rules),
      λ at. absurd (⊎_elim known.not_before (λ after. known.not_after (subst (λ i. InRanges (drop i xs) c.args.point) met after))
          ((InRanges-split xs c.loop-low.low c.args.point).0 at)),
    )
