use Rattle.std.proofs.Common.{◌≤◌, length}
use Rattle.lx_split.proofs.IncludeTexts.{Skips}
use Rattle.lx_split.proofs.includes.after_blanks.Given as goal

abbrev pub invariant-loop-tail : goal.invariant-loop-tail
invariant-loop-tail l = record { skips : Skips l.text l.rest; size : length l.rest ≤ length l.text }

abbrev pub decreases-loop-tail : goal.decreases-loop-tail
decreases-loop-tail l = length l.rest
