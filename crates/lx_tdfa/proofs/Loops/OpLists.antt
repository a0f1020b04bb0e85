-- Equality of operations, and of lists of them.
use Rattle.std.proofs.Common.{◌≡◌, true, List, rules}
use Rattle.std.specs.Bool.{Decides}
use Rattle.std.specs.Cmp.Lexicographic.{pointwise, pointwise_decides}
use Rattle.lx_auto.specs.contracts.ops.OpPartialEq.TheImpl.{eq-value}
use Rattle.lx_auto.specs.declared.ops.Op.{Op}

same_op : (op other : Op) → eq-value.it op other ≡ true → op ≡ other
same_op op other e = search rules

op_same : (op other : Op) → op ≡ other → eq-value.it op other ≡ true
op_same op other e = search rules

pub Decides-ops : (ops others : List Op) → Decides (pointwise eq-value.it ops others) (ops ≡ others)
Decides-ops = pointwise_decides (λ op other. (same_op op other, op_same op other))
