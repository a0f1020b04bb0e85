use Rattle.std.proofs.Common.{◌≡◌, ◌+◌, ◌*◌, ◌≤◌, length}
use Rattle.lx_layout.specs.Marks.{AllFall, unmarked}
use Rattle.lx_layout.proofs.halting.mark_each.Given as goal

abbrev pub invariant-loop-number : goal.invariant-loop-number
invariant-loop-number l =
    record {
      long : length l.falls.items ≡ length l.states;
      sound : AllFall l.halts l.states l.initial.falls.items → AllFall l.halts l.states l.falls.items;
      less : 2 * unmarked l.falls.items + length l.stack.items ≤ 2 * unmarked l.initial.falls.items + length l.initial.stack.items;
    }
