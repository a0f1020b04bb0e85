use Rattle.std.proofs.Common.{◌∙◌, ap, length, sym}
use Rattle.std.specs.Prelude.{◌==◌}
use Rattle.lx_exprs.proofs.Classes.PointSets.{filled_some}
use Rattle.lx_exprs.proofs.leaves.is_refused.Goals as goal

pub returns-then-not-is_operand-clause-taken : goal.returns-then-not-is_operand-clause-taken
returns-then-not-is_operand-clause-taken c = λ options definitions at some.
    let ranges = c.ranges-then-not-is_operand.ensures in
    filled_some options definitions c.args.policy c.args.is_operand at c.args.set.now ranges.canonical
    (ap (λ set. length set == 0) (sym ranges.ranges) ∙ sym c.is_empty.ensures ∙ some)
