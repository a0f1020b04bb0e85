use Rattle.std.proofs.Common.{◌≡◌, ℕ, ◌≤◌, [], length, map, get_or, drop}
use Rattle.lx_auto.specs.Bank.{Bank, history_copied}
use Rattle.lx_cover.specs.Registers.{history_given}
use Rattle.lx_cover.proofs.writes.write_histories.Given as goal

abbrev pub invariant-loop-place : goal.invariant-loop-place
invariant-loop-place l = record {
  count : length l.histories.items ≡ length l.fn.histories.items;
  long : length l.given.items ≡ length l.fn.given.items;
  left : (later : ℕ) → l.place ≤ later → get_or l.given.items later [] ≡ get_or l.fn.given.items later [];
  written :
      (bank : Bank) (mreg : ℕ) → l.fn.given.items ≡ map (history_given bank) l.ops
      → history_copied bank (drop l.place l.ops) mreg (get_or l.histories.items mreg [])
      ≡ history_copied bank l.ops mreg (get_or l.fn.histories.items mreg []);
}
