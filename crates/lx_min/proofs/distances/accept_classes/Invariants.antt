use Rattle.lx_min.specs.Distances.{AreAccepts}
use Rattle.lx_min.proofs.distances.accept_classes.Given as goal

abbrev pub invariant-loop-state : goal.invariant-loop-state
invariant-loop-state l = AreAccepts l.states l.state-index l.classes.items
