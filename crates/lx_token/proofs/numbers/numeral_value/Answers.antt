use Rattle.std.proofs.Common.{◌^◌, arith, sym}
use Rattle.lx_token.specs.Numbers.{numeral_value}
use Rattle.lx_token.proofs.Digits.{value_behind-next}
use Rattle.lx_token.proofs.numbers.numeral_value.Goals as goal

pub loop-letter-preserved : goal.loop-letter-preserved
loop-letter-preserved c = record {
  value =
      value_behind-next (2 ^ 40) c.loop-letter.value c.min-value.result c.loop-letter.letter-index c.args.text.now (numeral_value c.args.text.now)
      c.loop-letter-test.true (sym c.if-not-is_digit.ensures) (rw c.from.ensures at c.min-value.ensures) c.loop-letter.invariant.value;
  kept = omega arith;
}
