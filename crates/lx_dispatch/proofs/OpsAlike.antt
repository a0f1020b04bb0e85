-- The comparison of operations is the one of the definitions.
use Rattle.std.proofs.Common.{◌≡◌, List, [], ◌∷◌, refl, ap₂, rules, ◌&&◌}
use Rattle.std.specs.Cmp.Lexicographic.{pointwise}
use Rattle.lx_auto.specs.contracts.ops.OpPartialEq.TheImpl.{eq-value}
use Rattle.lx_auto.specs.declared.ops.Op.{Op}
use Rattle.lx_dispatch.specs.TransitionClasses.{same_op, same_ops}

eq-value-same_op : (op other : Op) → eq-value.it op other ≡ same_op op other
eq-value-same_op op other = search rules

pub pointwise-same_ops : (ops others : List Op) → pointwise eq-value.it ops others ≡ same_ops ops others
pointwise-same_ops [] [] = refl
pointwise-same_ops [] (other ∷ others) = refl
pointwise-same_ops (op ∷ ops) [] = refl
pointwise-same_ops (op ∷ ops) (other ∷ others) = ap₂ ◌&&◌ (eq-value-same_op op other) (pointwise-same_ops ops others)
