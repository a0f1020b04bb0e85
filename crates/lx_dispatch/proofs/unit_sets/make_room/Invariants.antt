use Rattle.std.proofs.Common.{◌≡◌, ◌+◌, length}
use Rattle.lx_dispatch.proofs.unit_sets.make_room.Given as goal

abbrev pub invariant-loop : goal.invariant-loop
invariant-loop l = length l.table.items ≡ length l.initial.table.items + l.counter
