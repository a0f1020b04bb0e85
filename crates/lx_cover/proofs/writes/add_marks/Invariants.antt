use Rattle.std.proofs.Common.{◌≡◌, ℕ, [], ◌++◌, length, get_or, drop}
use Rattle.lx_auto.specs.Bank.{history_added}
use Rattle.lx_cover.proofs.writes.add_marks.Given as goal

abbrev pub invariant-loop-op : goal.invariant-loop-op
invariant-loop-op l = record {
  count : length l.histories.items ≡ length l.fn.histories.items;
  added :
      (mreg : ℕ) → get_or l.histories.items mreg [] ++ history_added l.offset (drop l.op-index l.ops) mreg
      ≡ get_or l.fn.histories.items mreg [] ++ history_added l.offset l.ops mreg;
}
