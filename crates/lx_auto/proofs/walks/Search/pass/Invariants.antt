use Rattle.std.proofs.Common.{take, Contains}
use Rattle.lx_auto.specs.declared.automaton.Edge.{Edge}
use Rattle.lx_auto.specs.Automaton.{state_of}
use Rattle.lx_auto.specs.MetStates.{Grows, HasMet, IsSearch}
use Rattle.lx_auto.proofs.walks.Search.pass.Given as goal

abbrev pub invariant-loop-edge : goal.invariant-loop-edge
invariant-loop-edge l = record {
  search : IsSearch l.auto' l.self;
  grows : Grows l.initial.self l.self;
  met : (edge : Edge) → Contains (take l.edge-index (state_of l.auto'.states l.state).edges) edge → HasMet l.self edge.to;
}
