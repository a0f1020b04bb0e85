use Rattle.std.proofs.Common.{◌≡◌, ◌+◌, suc, ap, arith, drop}
use Rattle.std.proofs.Math.ListN.{drop_of_length-le}
use Rattle.lx_tnfa.specs.Shapes.{parts_together}
use Rattle.lx_tnfa.proofs.Construction.ShapeFacts.{parts_next}
use Rattle.lx_tnfa.proofs.shape.parts_together.Goals as goal

pub loop-member-preserved : goal.loop-member-preserved
loop-member-preserved c =
    let i = c.loop-member.member-index in
    let next : suc i ≡ i + 1 = omega arith in
    record {
      sum = rw (← next) (parts_next c.args.members.now i c.member-item.result c.loop-member.parts c.capped-parts.result _ c.loop-member-test.true
          c.member-item.is c.loop-member.invariant.sum c.capped-parts.ensures);
      capped = omega (arith, c.capped-parts.ensures);
    }

pub returns : goal.returns
returns c =
    let none : parts_together (drop c.loop-member.member-index c.args.members.now) ≡ 0 =
    ap parts_together (drop_of_length-le c.args.members.now c.loop-member-test.false) in
    omega (arith, none, c.loop-member.invariant.sum, c.loop-member.invariant.capped)
