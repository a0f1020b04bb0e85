use Rattle.std.proofs.Common.{[], get_or, refl}
use Rattle.std.proofs.lemmas.List.{get_or_default}
use Rattle.lx_base.specs.Text.{joined}
use Rattle.lx_ccode.specs.Text.{units_then}
use Rattle.lx_ccode.proofs.Tails.{appended_next, joined-nil, unit_words}
use Rattle.lx_ccode.proofs.lines.append_units.Goals as goal

pub loop-unit-preserved : goal.loop-unit-preserved
loop-unit-preserved c =
    let units = c.args.units.now in
    let place = c.loop-unit.unit-index in
    let unit = get_or units place 0 in
    appended_next (λ unit. joined (unit_words unit)) (λ units. units_then units []) units place unit _ _ _ (joined-nil (unit_words unit)) (λ units. refl)
    c.loop-unit-test.true (get_or_default units place 0 unit c.loop-unit-test.true) c.in_ok-append_unit.ensures c.loop-unit.invariant
