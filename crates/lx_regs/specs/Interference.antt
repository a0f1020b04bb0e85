-- Which registers of an automaton interfere, as a graph, and how far the graph has come.
use Rattle.std.specs.Prelude.{◌≡◌, ◌⊎◌, ◌-◌, ℕ, ◌<◌, List, Some, Contains}
use Rattle.lx_auto.specs.declared.automaton.Accept.{Accept}
use Rattle.lx_auto.specs.declared.automaton.Auto.{Auto}
use Rattle.lx_auto.specs.declared.automaton.Edge.{Edge}
use Rattle.lx_auto.specs.declared.automaton.Held.{Held}
use Rattle.lx_auto.specs.Automaton.{IsAuto, state_of}
use Rattle.lx_auto.specs.Effects.{Reads, Writes, effect_of}
use Rattle.lx_auto.specs.Live.{AtSomePoint, IsLiveBehind}
use Rattle.lx_regs.specs.declared.held_graphs.HeldGraph.{HeldGraph}
use Rattle.lx_regs.specs.declared.interference.Known.{Known}
use Rattle.lx_regs.specs.Graphs.{size_of}
use Rattle.lx_regs.specs.HeldGraphs.{AreJoined, AreTwo, IsHeldGraph}
use Rattle.lx_regs.specs.LiveSets.{IsLivenessOf}
use Rattle.lx_regs.specs.WrittenBeside.{IsWrittenBeside, MayInterfere}
use Rattle.lx_auto.specs.MetStates.{AreMet}
use Rattle.lx_auto.specs.Points.{IsMet}

-- what is known of an automaton
pub record IsKnown (known : Known) : Type 0 where
  pub formed : IsAuto known.auto.now
  pub liveness : IsLivenessOf known.auto.now known.liveness.now
  pub met : AreMet known.auto.now known.met.now

-- a graph over the registers and m-registers of an automaton
pub record IsGraphFor (auto : Auto) (graph : HeldGraph) : Type 0 where
  pub formed : IsHeldGraph graph
  pub reg_count : size_of graph.regs ≡ auto.regs
  pub mreg_count : size_of graph.mregs ≡ auto.mregs - 1

-- neighbours are those of which one is written while the other is live
pub record IsInterferenceOf (auto : Auto) (graph : HeldGraph) : Type 0 where
  pub fits : IsGraphFor auto graph
  pub complete : (held other : Held) → IsWrittenBeside auto held other → AreTwo held other → AreJoined graph held other
  pub sound : (held other : Held) → AreJoined graph held other → MayInterfere auto held other

module _ (auto : Auto) (state : ℕ) where
  -- live behind an edge out of the state, at some point of the state
  abbrev pub IsLiveSomehow : Edge → Held → Type 0
  IsLiveSomehow edge held = AtSomePoint auto state (λ point. IsLiveBehind auto point edge held)

  -- the list of an edge reads it for what is live behind the edge
  abbrev pub IsReadOnEdge : Edge → Held → Type 0
  IsReadOnEdge edge held = (next : Held) × IsLiveSomehow edge next × Reads (effect_of edge.ops next) held

  -- on the way along an edge a list writes the one, and the other is live behind the list
  abbrev pub AreBesideOnEdge : Edge → (held other : Held) → Type 0
  AreBesideOnEdge edge held other =
      (Writes edge.ops held × IsLiveSomehow edge other) ⊎ (Writes (state_of auto.states state).leave held × IsReadOnEdge edge other)

  -- the same of one of some edges
  abbrev pub AreBesideOnEdges : List Edge → (held other : Held) → Type 0
  AreBesideOnEdges edges held other = (edge : Edge) × Contains edges edge × AreBesideOnEdge edge held other

  -- where the state accepts and some walk comes to it, its list writes the one, and the other is a value
  abbrev pub AreBesideOnAccept : (held other : Held) → Type 0
  AreBesideOnAccept held other = (accept : Accept) × ((state_of auto.states state).accept ≡ Some accept) × IsMet auto state
      × Writes accept.ops held × Contains accept.values other

  -- in one of these ways
  abbrev pub AreBesideAt : (held other : Held) → Type 0
  AreBesideAt held other = AreBesideOnEdges (state_of auto.states state).edges held other ⊎ AreBesideOnAccept held other

-- the same at one of the states below a bound
abbrev pub AreBesideBelow : Auto → (bound : ℕ) → (held other : Held) → Type 0
AreBesideBelow auto bound held other = (state : ℕ) × (state < bound) × AreBesideAt auto state held other
