use Rattle.std.proofs.Common.{◌≡◌, ◌+◌, drop}
use Rattle.lx_regex.specs.Script.{tags_among}
use Rattle.lx_regex.specs.Term.{Terms}
use Rattle.lx_tnfa.specs.Shapes.{HaveShapes, parts_together}
use Rattle.lx_tnfa.proofs.Construction.MemberMoves.{MovesLeft}
use Rattle.lx_tnfa.proofs.states.member_moves.Given as goal

abbrev pub invariant-loop-member : goal.invariant-loop-member
invariant-loop-member l = record {
  room : l.part + parts_together (drop l.member-index l.members) ≡ l.first + parts_together l.members;
  left : (terms : Terms) → HaveShapes terms l.members → l.all ≡ tags_among terms → MovesLeft terms l.first l.all l.members l.ways l.part l.member-index;
}
