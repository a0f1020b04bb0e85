use Rattle.std.proofs.Common.{◌≡◌, ◌++◌, length}
use Rattle.lx_posix.specs.Spots.{spots_on}
use Rattle.lx_posix.specs.WayNumbers.{FitsOnWay}
use Rattle.lx_posix.proofs.spots.walk.Given as goal

abbrev pub invariant-loop-index : goal.invariant-loop-index
invariant-loop-index l = record {
  fits : FitsOnWay l.t l.at.state l.at.depth l.left;
  listed : l.spots.items ++ spots_on l.t l.at.state l.at.depth l.left
      ≡ l.fn.spots.items ++ spots_on l.t l.fn.begin.state l.fn.begin.depth l.way;
}

abbrev pub decreases-loop-index : goal.decreases-loop-index
decreases-loop-index l = length l.left
