use Rattle.std.proofs.Common.{drop, ◌≤◌, length}
use Rattle.lx_ccode.specs.Validity.{AreAscending}
use Rattle.lx_creader.proofs.states.are_ascending.Given as goal

abbrev pub invariant-loop-place : goal.invariant-loop-place
invariant-loop-place l =
    (l.place ≤ length l.cases) × AreAscending (drop l.place l.cases)

abbrev pub decreases-loop-place : goal.decreases-loop-place
decreases-loop-place l = l.place
