use Rattle.lx_min.specs.Distances.{AreSeen}
use Rattle.lx_min.proofs.distances.all_differ.Given as goal

abbrev pub invariant-loop-number : goal.invariant-loop-number
invariant-loop-number l = AreSeen l.number-index l.numbers l.seen.items
