use Rattle.std.proofs.Common.{◌≡◌, ◌≤◌, drop, min}
use Rattle.std.specs.Str.Parse.{digits_value, digits_value_after}
use Rattle.lx_creader.proofs.words.value_of.Given as goal

abbrev pub invariant-loop-letter : goal.invariant-loop-letter
invariant-loop-letter l =
    (min (digits_value_after l.base l.value (drop l.letter-index l.word)) 18446744073709551615 ≡ min (digits_value l.base l.word) 18446744073709551615)
    × (l.value ≤ 18446744073709551615)
