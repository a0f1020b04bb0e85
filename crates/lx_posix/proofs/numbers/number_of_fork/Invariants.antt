use Rattle.std.proofs.Common.{◌≡◌, length}
use Rattle.lx_posix.specs.WayNumbers.{FitsOnWay, number_of_fork}
use Rattle.lx_posix.proofs.numbers.number_of_fork.Given as goal

abbrev pub invariant-loop-index : goal.invariant-loop-index
invariant-loop-index l = record {
  fits : FitsOnWay l.t l.at l.here l.left;
  others_fit : FitsOnWay l.t l.at l.here l.others;
  number : number_of_fork l.t l.at l.here l.left l.others ≡ number_of_fork l.t l.state l.depth l.way l.other;
}

abbrev pub decreases-loop-index : goal.decreases-loop-index
decreases-loop-index l = length l.left
