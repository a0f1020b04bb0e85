use Rattle.std.proofs.Common.{◌∙◌, All, subst, sym}
use Rattle.lx_exprs.specs.Seen.{IsOrdered}
use Rattle.lx_exprs.proofs.Classes.PointSets.{canonical_ordered}
use Rattle.lx_exprs.proofs.sets.Collected.of_set.Goals as goal

pub invariant_of-result : goal.invariant_of-result
invariant_of-result c =
    subst (All IsOrdered) (sym (c.in_ok-ranges.ensures.items ∙ c.ranges-2.ensures.ranges)) (canonical_ordered c.args.set.now c.ranges-2.ensures.canonical)
