use Rattle.std.proofs.Common.{◌≡◌, length, reverse}
use Rattle.lx_base.specs.Letters.{is_in_identifier, after_letters}
use Rattle.lx_creader.proofs.lines.before_identifier.Given as goal

abbrev pub invariant-loop-letter : goal.invariant-loop-letter
invariant-loop-letter l = after_letters is_in_identifier (reverse l.rest) ≡ after_letters is_in_identifier (reverse l.word)

abbrev pub decreases-loop-letter : goal.decreases-loop-letter
decreases-loop-letter l = length l.rest
