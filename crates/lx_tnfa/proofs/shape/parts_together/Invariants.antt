use Rattle.std.proofs.Common.{◌≡◌, ◌+◌, ◌≤◌, drop}
use Rattle.std.specs.Prelude.{◌^◌, min}
use Rattle.lx_tnfa.specs.Shapes.{parts_together}
use Rattle.lx_tnfa.proofs.shape.parts_together.Given as goal

abbrev pub invariant-loop-member : goal.invariant-loop-member
invariant-loop-member l = record {
  sum : min (l.parts + parts_together (drop l.member-index l.members)) (2 ^ 31) ≡ min (parts_together l.members) (2 ^ 31);
  capped : l.parts ≤ 2 ^ 31;
}
