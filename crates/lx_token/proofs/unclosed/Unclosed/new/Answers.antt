use Rattle.std.proofs.Common.{arith}
use Rattle.lx_token.proofs.KnownLines.{AreUnclosed-nowhere}
use Rattle.lx_token.proofs.unclosed.Unclosed.new.Goals as goal

pub returns : goal.returns
returns c = λ text short. record {
  strings = AreUnclosed-nowhere 34 34 18446744073709551615 text (omega arith);
  characters = AreUnclosed-nowhere 39 39 18446744073709551615 text (omega arith);
  classes = AreUnclosed-nowhere 91 93 18446744073709551615 text (omega arith);
}
