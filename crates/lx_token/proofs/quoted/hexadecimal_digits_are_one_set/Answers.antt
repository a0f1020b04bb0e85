use Rattle.lx_token.proofs.HexadecimalDigits.{is_hex_digit-value}
use Rattle.lx_token.proofs.quoted.hexadecimal_digits_are_one_set.Goals as goal

pub returns : goal.returns
returns c = is_hex_digit-value
