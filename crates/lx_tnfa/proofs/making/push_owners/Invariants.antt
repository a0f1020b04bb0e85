use Rattle.std.proofs.Common.{◌≡◌, ◌++◌, ◌-◌, Some}
use Rattle.std.specs.Prelude.{replicate}
use Rattle.lx_tnfa.proofs.making.push_owners.Given as goal

abbrev pub invariant-loop : goal.invariant-loop
invariant-loop l = l.owners.items ++ replicate (l.count - l.counter) (Some l.index) ≡ l.fn.owners.items ++ replicate l.count (Some l.index)
