use Rattle.std.proofs.Common.{length}
use Rattle.lx_posix.specs.Finding.{IsSearchable}
use Rattle.lx_posix.proofs.CodeSearch.LevelStack.{work_left}
use Rattle.lx_posix.proofs.CodeSearch.LevelTrail.{SearchSoFar}
use Rattle.lx_posix.proofs.search.search.Given as goal

abbrev pub invariant-loop-entry : goal.invariant-loop-entry
invariant-loop-entry l =
    (is : IsSearchable l.t l.beginnings) → SearchSoFar l.t l.beginnings is l.starts l.visited l.trail.items l.waiting.items l.founds.items

abbrev pub decreases-loop-entry : goal.decreases-loop-entry
decreases-loop-entry l = work_left l.t l.beginnings l.visited (length l.waiting.items)
