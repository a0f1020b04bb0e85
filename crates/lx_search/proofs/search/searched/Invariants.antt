use Rattle.std.proofs.Common.{◌-◌, length}
use Rattle.lx_search.specs.Progress.{IsSearch}
use Rattle.lx_search.proofs.search.searched.Given as goal

abbrev pub invariant-loop-place : goal.invariant-loop-place
invariant-loop-place l = IsSearch l.scope l.auto' l.search l.place 0

abbrev pub decreases-loop-place : goal.decreases-loop-place
decreases-loop-place l = length l.auto'.states - l.place
