use Rattle.std.proofs.Common.{◌≡◌, ◌+◌, ◌*◌, ◌∷◌, [], ◌++◌, ◌∙◌, suc, ap, arith, refl, subst}
use Rattle.lx_tnfa.specs.Shapes.{parts_together}
use Rattle.lx_tnfa.specs.declared.shape.Shape.{out-Shape}
use Rattle.lx_tnfa.proofs.Construction.MemberMoves.{MovesLeft, moves_begin, moves_end, moves_more}
use Rattle.lx_tnfa.proofs.Construction.ShapeFacts.{next_shape}
use Rattle.lx_tnfa.proofs.states.member_moves.Goals as goal

pub loop-member-init : goal.loop-member-init
loop-member-init c = record {
  room = refl;
  left = λ terms has is. moves_begin terms c.args.first c.args.all.now c.args.members.now c.new-ways.result c.new-ways.ensures has is;
}

pub loop-member-preserved : goal.loop-member-preserved
loop-member-preserved c =
    let i = c.loop-member.member-index in
    let members = c.args.members.now in
    let shape = c.member-item.result in
    let part = c.loop-member.part in
    let next : suc i ≡ i + 1 = omega arith in
    let rest = ap parts_together (next_shape members i shape c.loop-member-test.true c.member-item.is) in
    let event = rw c.deref.ensures.value at c.in_ok-unset_others.ensures in
    record {
      room = rw (← next) (omega (arith, rest, c.loop-member.invariant.room));
      left = λ terms has is.
          subst
          (MovesLeft terms c.args.first c.args.all.now members c.push.new.self (part + (out-Shape shape).parts)) next
          (moves_more terms c.args.first c.args.all.now members c.loop-member.ways c.push.new.self part i shape c.loop-member-test.true c.member-item.is
          (c.loop-member.invariant.left terms has is) (omega (arith, rest, c.loop-member.invariant.room, c.requires.room))
          (c.in_ok-push.ensures.pushed ∙ ap (λ l. c.loop-member.ways ++ record { to = 2 * part; events = l } ∷ []) event));
    }

pub returns : goal.returns
returns c terms has is =
    moves_end terms c.args.first c.args.all.now c.args.members.now c.loop-member.ways c.loop-member.part c.loop-member.member-index
    c.loop-member-test.false (c.loop-member.invariant.left terms has is)
