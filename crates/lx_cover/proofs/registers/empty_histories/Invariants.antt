use Rattle.std.proofs.Common.{◌≡◌, [], replicate}
use Rattle.lx_cover.proofs.registers.empty_histories.Given as goal

abbrev pub invariant-loop : goal.invariant-loop
invariant-loop l = l.histories.items ≡ replicate l.counter []
