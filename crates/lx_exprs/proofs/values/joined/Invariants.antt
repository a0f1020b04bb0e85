use Rattle.std.proofs.Common.{◌≡◌, ◌++◌}
use Rattle.lx_exprs.proofs.values.joined.Given as goal

abbrev pub invariant-loop-expr : goal.invariant-loop-expr
invariant-loop-expr l = l.all.items ≡ l.fn.front.items ++ l.yielded
