use Rattle.std.proofs.Common.{◌≡◌, ◌++◌, replicate}
use Rattle.lx_posix.proofs.reaches.push_origins.Given as goal

abbrev pub invariant-loop : goal.invariant-loop
invariant-loop l = l.origins.items ≡ l.fn.origins.items ++ replicate l.counter l.index
