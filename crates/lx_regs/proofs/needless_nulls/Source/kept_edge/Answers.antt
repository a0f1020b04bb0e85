use Rattle.std.proofs.Common.{refl, subst}
use Rattle.lx_regs.specs.Unset.{IsKept, IsWithin, row_at}
use Rattle.lx_regs.proofs.NeedlessNulls.KeptLists.{IsKept-weaker}
use Rattle.lx_regs.proofs.needless_nulls.Source.kept_edge.Goals as goal

pub returns : goal.returns
returns c =
    let edge = c.args.edge.now in
    let left = c.args.left.now in
    let kept = c.in_ok-kept.kept in
    let row = row_at c.args.self.now.rows.now edge.to in
    let within : IsWithin row kept.unset.items =
    subst (λ first. IsWithin first kept.unset.items) c.at.ensures
    (subst (IsWithin c.at.result.now) c.as_slice-2.ensures.value (c.are_within.ensures c.if-not-are_within.false)) in
    let same : IsKept left kept.unset.items edge.ops kept.ops =
    subst (λ ops. IsKept left kept.unset.items ops kept.ops) c.as_slice.ensures c.in_ok-kept.ensures in
    record {
      low = refl;
      high = refl;
      target = refl;
      ops = IsKept-weaker left kept.unset.items edge.ops kept.ops same row within;
    }
