use Rattle.std.proofs.Common.{drop}
use Rattle.lx_regex.proofs.Trees.NoUnits.{AreNullable, LiesBehind}
use Rattle.lx_regex.proofs.expr.+nullable.Given as goal

abbrev pub invariant-all_nullable-loop-member : goal.invariant-all_nullable-loop-member
invariant-all_nullable-loop-member l = AreNullable (drop l.member-index l.members) → AreNullable l.members

abbrev pub invariant-some_nullable-loop-member : goal.invariant-some_nullable-loop-member
invariant-some_nullable-loop-member l = LiesBehind l.member-index l.members
