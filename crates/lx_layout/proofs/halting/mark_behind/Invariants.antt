use Rattle.std.proofs.Common.{◌≡◌, ◌+◌, ◌*◌, length}
use Rattle.lx_layout.specs.Marks.{AllFall, unmarked}
use Rattle.lx_layout.proofs.halting.mark_behind.Given as goal

abbrev pub invariant-loop-number : goal.invariant-loop-number
invariant-loop-number l =
    record {
      long : length l.falls.items ≡ length l.states;
      sound : AllFall l.halts l.states l.fn.falls.items → AllFall l.halts l.states l.falls.items;
    }

abbrev pub decreases-loop-number : goal.decreases-loop-number
decreases-loop-number l = 2 * unmarked l.falls.items + length l.stack.items
