use Rattle.std.proofs.Common.{◌≡◌, ◌≤◌, length}
use Rattle.lx_split.specs.Marks.{begins_mark}
use Rattle.lx_split.specs.Searches.{from_first}
use Rattle.lx_split.proofs.marks.from_mark.Given as goal

abbrev pub invariant-loop-tail : goal.invariant-loop-tail
invariant-loop-tail l = (from_first begins_mark l.rest ≡ from_first begins_mark l.text) × (length l.rest ≤ length l.text)

abbrev pub decreases-loop-tail : goal.decreases-loop-tail
decreases-loop-tail l = length l.rest
