-- The two ways to say which letters are hexadecimal digits: by ranges of letters, and by their values.
use Rattle.std.proofs.Common.{◌<◌, ◌≡◌, ◌≤◌, arith, refl, ℕ}
use Rattle.std.proofs.lemmas.Bool.Decides.{nat_tests}
use Rattle.std.specs.Char.{digit_value}
use Rattle.lx_base.specs.Letters.{is_hexadecimal}
use Rattle.lx_token.specs.Quoted.{is_hex_digit}

pub is_hex_digit-value : (letter : ℕ) → is_hex_digit letter ≡ is_hexadecimal letter
is_hex_digit-value letter = grind (arith, nat_tests)
