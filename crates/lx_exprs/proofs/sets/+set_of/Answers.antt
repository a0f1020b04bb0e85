use Rattle.std.proofs.Common.{◌/◌, length}
use Rattle.std.proofs.lemmas.Result.{IfOk-weaker}
use Rattle.lx_class.specs.Ranges.{HaveSamePoints, IsUnion}
use Rattle.lx_exprs.proofs.Classes.PointSets.{halves}
use Rattle.lx_exprs.proofs.sets.+set_of.Goals as goal

pub returns-in_ok-back-in_default-clause-points : goal.returns-in_ok-back-in_default-clause-points
returns-in_ok-back-in_default-clause-points t c =
    let front = c.in_ok-front-in_default.front in
    let back = c.in_ok-back-in_default.back in
    IfOk-weaker c.union.result (IsUnion front back) (HaveSamePoints c.args.ranges.now)
    (λ set union. halves c.args.ranges.now _ _ front back set (length c.args.ranges.now / 2) c.split_at.ensures.front c.split_at.ensures.back
    c.in_ok-front-in_default.ensures.points c.in_ok-back-in_default.ensures.points union) c.union.ensures.points
