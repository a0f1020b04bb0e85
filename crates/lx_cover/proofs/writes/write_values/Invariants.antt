use Rattle.std.proofs.Common.{◌≡◌, ℕ, None, length, map, get_or, drop}
use Rattle.lx_auto.specs.Bank.{Bank, value_after}
use Rattle.lx_cover.specs.Registers.{value_given}
use Rattle.lx_cover.proofs.writes.write_values.Given as goal

abbrev pub invariant-loop-place : goal.invariant-loop-place
invariant-loop-place l = record {
  count : length l.values.items ≡ length l.fn.values.items;
  written :
      (bank : Bank) (offset reg : ℕ) → l.given ≡ map (value_given bank offset) l.ops
      → value_after bank offset (drop l.place l.ops) reg (get_or l.values.items reg None)
      ≡ value_after bank offset l.ops reg (get_or l.fn.values.items reg None);
}
