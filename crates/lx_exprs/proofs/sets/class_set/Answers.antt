use Rattle.std.proofs.Common.{sym, subst}
use Rattle.lx_class.specs.Ranges.{IsCanonical, IsDifference}
use Rattle.lx_exprs.specs.Checks.{ClassHas}
use Rattle.lx_exprs.specs.Meanings.{IsSetOf}
use Rattle.lx_exprs.proofs.Classes.PointSets.{if_ok_both, others_has}
use Rattle.lx_exprs.proofs.sets.class_set.Goals as goal

pub returns-in_ok-all_points : goal.returns-in_ok-all_points
returns-in_ok-all_points c = λ definitions.
    let options = c.args.options.now in
    let all = c.in_ok-all_points.field-0 in
    let set = c.in_ok-set.set in
    if_ok_both IsCanonical (IsDifference all set) (IsSetOf (ClassHas options definitions c.args.is_negated c.args.ranges.now)) c.minus-then-is_negated.result
    (λ rest canonical without.
    subst (λ b. IsSetOf (ClassHas options definitions b c.args.ranges.now) rest) (sym c.if-is_negated.true)
    (others_has options definitions c.args.ranges.now c.in_ok-set_of.field-0 set all rest c.in_ok-set_of.ensures.points c.in_ok-set.ensures
    c.in_ok-all_points.ensures.points canonical without))
    c.minus-then-is_negated.ensures.canonical c.minus-then-is_negated.ensures.points
