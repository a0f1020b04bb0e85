use Rattle.std.proofs.Common.{◌≡◌, length}
use Rattle.lx_layout.specs.Marks.{AllFall, unmarked}
use Rattle.lx_layout.proofs.halting.falls_of.Given as goal

abbrev pub invariant-loop : goal.invariant-loop
invariant-loop l =
    record {
      long : length l.falls.items ≡ length l.states;
      sound : AllFall l.halts l.states l.falls.items;
    }

abbrev pub decreases-loop : goal.decreases-loop
decreases-loop l = unmarked l.falls.items
