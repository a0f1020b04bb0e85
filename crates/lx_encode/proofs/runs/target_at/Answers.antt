use Rattle.std.proofs.Common.{◌+◌, ◌-◌, ◌/◌, ◌<◌, ◌≡◌, length, drop, sym, subst, ⊎_elim, arith}
use Rattle.lx_encode.specs.Runs.{LeadsTo}
use Rattle.lx_encode.proofs.RunLists.{from_here, not_through, found_at, LeadsTo-split}
use Rattle.lx_encode.proofs.Targets.{target_found, target_none}
use Rattle.lx_encode.proofs.runs.target_at.Goals as goal

pub loop-low-preserved-then-number-run : goal.loop-low-preserved-then-number-run
loop-low-preserved-then-number-run c =
    let known = c.loop-low.invariant in
    let within : c.loop-low.low + (c.loop-low.high - c.loop-low.low) / 2 < length c.args.runs.now = omega arith in
    record {
      ordered = omega arith;
      within = omega arith;
      not_before = known.not_before;
      not_after = λ target at. let from = from_here c.args.runs.now _ within c.args.number target c.requires at in omega arith;
    }

pub loop-low-preserved : goal.loop-low-preserved
loop-low-preserved c =
    let known = c.loop-low.invariant in
    let within : c.loop-low.low + (c.loop-low.high - c.loop-low.low) / 2 < length c.args.runs.now = omega arith in
    record {
      ordered = omega arith;
      within = known.within;
      not_before = λ target. not_through c.args.runs.now _ within c.args.number target c.requires c.if-run-number.true;
      not_after = known.not_after;
    }

pub returns-else-run-number : goal.returns-else-run-number
returns-else-run-number c =
    let known = c.loop-low.invariant in
    let within : c.loop-low.low + (c.loop-low.high - c.loop-low.low) / 2 < length c.args.runs.now = omega arith in
    sym (target_found 0 c.args.runs.now c.args.number _ c.requires (found_at c.args.runs.now _ within c.args.number c.if-number-run.false c.if-run-number.false))

pub returns : goal.returns
returns c =
    let known = c.loop-low.invariant in
    let met : c.loop-low.low ≡ c.loop-low.high = omega arith in
    let xs = c.args.runs.now in
    sym (target_none xs c.args.number (λ target at.
    ⊎_elim (known.not_before target) (λ after. known.not_after target (subst (λ i. LeadsTo (drop i xs) c.args.number target) met after))
    ((LeadsTo-split xs c.loop-low.low c.args.number target).0 at)))
