use Rattle.std.proofs.Common.{take}
use Rattle.lx_auto.specs.Automaton.{state_of}
use Rattle.lx_regs.specs.Dead.{AreEdgesCut}
use Rattle.lx_regs.specs.Leaving.{AddsRead}
use Rattle.lx_regs.proofs.dead.Source.cut_edges.Given as goal

abbrev pub invariant-loop-edge : goal.invariant-loop-edge
invariant-loop-edge l = record {
  cut : AreEdgesCut l.self.auto.now l.state (take l.edge-index (state_of l.self.auto.now.states l.state).edges) l.edges;
  read : AddsRead l.self.auto.now l.state l.asked (take l.edge-index (state_of l.self.auto.now.states l.state).edges)
      l.initial.leaving l.leaving;
}
