use Rattle.std.proofs.Common.{◌≡◌, ◌+◌, ◌^◌, ◌≤◌, min, sum, map, drop}
use Rattle.lx_regex.specs.Expr.{size_of}
use Rattle.lx_regex.proofs.expr.+size.Given as goal

abbrev pub invariant-sum_of_sizes-loop-member : goal.invariant-sum_of_sizes-loop-member
invariant-sum_of_sizes-loop-member l =
    (l.total ≤ 2 ^ 40)
    × (min (l.total + sum (map size_of (drop l.member-index l.members))) (2 ^ 40) ≡ min (sum (map size_of l.members)) (2 ^ 40))
