use Rattle.std.proofs.Common.{◌≡◌, length}
use Rattle.lx_posix.specs.WayNumbers.{FitsOnWay, lowest_on_way}
use Rattle.lx_posix.proofs.numbers.lowest_on_way.Given as goal

abbrev pub invariant-loop-index : goal.invariant-loop-index
invariant-loop-index l = record {
  fits : FitsOnWay l.t l.at l.here l.left;
  lowest : lowest_on_way l.t l.at l.here l.lowest l.left ≡ lowest_on_way l.t l.state l.depth l.low l.way;
}

abbrev pub decreases-loop-index : goal.decreases-loop-index
decreases-loop-index l = length l.left
