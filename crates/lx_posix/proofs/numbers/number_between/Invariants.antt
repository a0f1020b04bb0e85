use Rattle.std.proofs.Common.{◌≡◌, drop}
use Rattle.lx_posix.specs.WayNumbers.{least_of}
use Rattle.lx_posix.proofs.numbers.number_between.Given as goal

abbrev pub invariant-loop-beginning : goal.invariant-loop-beginning
invariant-loop-beginning l = least_of l.least (drop l.beginning-index l.beginning-items) ≡ least_of l.initial.least l.beginning-items
