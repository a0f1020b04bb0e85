use Rattle.std.proofs.Common.{◌≡◌, ◌<◌, ◌∙◌, ℕ, arith, get_or, length, refl, set, true}
use Rattle.std.proofs.lemmas.Grind.{common_steps}
use Rattle.std.proofs.Math.ListN.{length-set}
use Rattle.lx_dispatch.proofs.UnitMarks.{marks-next}
use Rattle.lx_dispatch.proofs.case_checks.add_units.Goals as goal

pub loop-unit-preserved : goal.loop-unit-preserved
loop-unit-preserved c =
    let units = c.args.units.now in
    let place = c.loop-unit.unit-index in
    let seen = c.loop-unit.seen in
    let unit : ℕ = get_or units place 0 in
    let size : length seen ≡ 256 = c.loop-unit.invariant.0 in
    let below : unit < length seen = grind (arith, common_steps) in
    (length-set seen unit true ∙ size, marks-next units place seen c.args.seen.now c.loop-unit-test.true c.loop-unit.invariant.1 unit (set seen unit true) refl below c.if-seen-place.false refl)
