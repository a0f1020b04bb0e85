use Rattle.std.proofs.Common.{◌≡◌}
use Rattle.lx_token.specs.Quoted.{begins_with_digits, is_hex_digit}
use Rattle.lx_token.proofs.quoted.begins_with_hex_digits.Given as goal

abbrev pub invariant-loop-left : goal.invariant-loop-left
invariant-loop-left l = begins_with_digits is_hex_digit l.left l.rest ≡ begins_with_digits is_hex_digit l.count l.text

abbrev pub decreases-loop-left : goal.decreases-loop-left
decreases-loop-left l = l.left
