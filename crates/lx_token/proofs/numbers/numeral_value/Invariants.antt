use Rattle.std.proofs.Common.{◌≡◌, ◌≤◌, ◌^◌, min, drop}
use Rattle.lx_token.specs.Numbers.{numeral_value, value_behind}
use Rattle.lx_token.proofs.numbers.numeral_value.Given as goal

abbrev pub invariant-loop-letter : goal.invariant-loop-letter
invariant-loop-letter l = record {
  value : min (2 ^ 40) (value_behind l.value (drop l.letter-index l.text)) ≡ numeral_value l.text;
  kept : l.value ≤ 2 ^ 40;
}
