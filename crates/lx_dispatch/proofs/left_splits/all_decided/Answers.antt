use Rattle.std.proofs.Common.{◌∙◌, arith, sym}
use Rattle.lx_ccode.specs.Machine.{is_among}
use Rattle.lx_dispatch.specs.FirstQuestions.{questions_of, seen_first}
use Rattle.lx_dispatch.specs.LeftUnits.{any_holds}
use Rattle.lx_dispatch.proofs.LeftLoops.{all_from-passed}
use Rattle.lx_dispatch.proofs.left_splits.all_decided.Goals as goal

pub loop-unit-preserved : goal.loop-unit-preserved
loop-unit-preserved c =
    all_from-passed (any_holds (is_among c.args.table.now) (questions_of (seen_first c.args.first.now))) c.loop-unit.unit c.args.greatest
    (omega (arith, c.from-end.ensures, c.loop-unit-test.true)) (sym c.if-not-any_holds.ensures) ∙ c.loop-unit.invariant
