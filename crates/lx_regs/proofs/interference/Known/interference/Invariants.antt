use Rattle.lx_regs.specs.HeldGraphs.{Notes}
use Rattle.lx_regs.specs.Interference.{AreBesideBelow, IsGraphFor}
use Rattle.lx_regs.proofs.interference.Known.interference.Given as goal

abbrev pub invariant-loop-state : goal.invariant-loop-state
invariant-loop-state l = record {
  fits : IsGraphFor l.self.auto.now l.graph;
  notes : Notes (AreBesideBelow l.self.auto.now l.state) l.initial.graph l.graph;
}
