use Rattle.std.proofs.Common.{◌≡◌, length}
use Rattle.lx_words.specs.Points.{is_odd_name}
use Rattle.lx_words.proofs.points.is_odd_name.Given as goal

abbrev pub invariant-loop-letter : goal.invariant-loop-letter
invariant-loop-letter l = is_odd_name l.rest ≡ is_odd_name l.text

abbrev pub decreases-loop-letter : goal.decreases-loop-letter
decreases-loop-letter l = length l.rest
