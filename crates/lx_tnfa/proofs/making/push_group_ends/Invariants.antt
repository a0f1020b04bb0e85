use Rattle.std.proofs.Common.{◌≡◌, ◌++◌, ◌-◌}
use Rattle.lx_regex.specs.Values.{group_ends}
use Rattle.lx_tnfa.proofs.making.push_group_ends.Given as goal

abbrev pub invariant-loop : goal.invariant-loop
invariant-loop l = l.many.items ++ group_ends (l.groups - l.counter) ≡ l.fn.many.items ++ group_ends l.groups
