-- What a state's edges read for what is live behind them.
use Rattle.std.specs.Prelude.{◌↔◌, ◌⊎◌, ℕ, List, Contains}
use Rattle.lx_auto.specs.declared.automaton.Auto.{Auto}
use Rattle.lx_auto.specs.declared.automaton.Edge.{Edge}
use Rattle.lx_auto.specs.declared.automaton.Held.{Held}
use Rattle.lx_auto.specs.Automaton.{IsAuto}
use Rattle.lx_auto.specs.Effects.{Reads, effect_of}
use Rattle.lx_auto.specs.Live.{AtSomePoint, IsLiveBehind}
use Rattle.lx_regs.specs.declared.dead.Source.{Source}
use Rattle.lx_regs.specs.declared.held_sets.HeldSet.{HeldSet}
use Rattle.lx_regs.specs.HeldSets.{Has}
use Rattle.lx_regs.specs.LiveSets.{IsLivenessOf}
use Rattle.lx_auto.specs.MetStates.{AreMet}

module _ (auto : Auto) (state : ℕ) where
  -- the list of an edge reads this for something that is live behind the edge
  abbrev pub IsReadOnEdge : Edge → Held → Type 0
  IsReadOnEdge edge held =
      (next : Held) × AtSomePoint auto state (λ point. IsLiveBehind auto point edge next) × Reads (effect_of edge.ops next) held

  -- what is read on these edges is added to a set, as far as it is asked for
  abbrev pub AddsRead : (asked : HeldSet) → (edges : List Edge) → (before after : HeldSet) → Type 0
  AddsRead asked edges before after =
      (held : Held) → Has asked held → Has after held ↔ (Has before held ⊎ ((edge : Edge) × Contains edges edge × IsReadOnEdge edge held))

-- what is known of an automaton of which the operations are looked at
pub record IsSource (source : Source) : Type 0 where
  pub formed : IsAuto source.auto.now
  pub liveness : IsLivenessOf source.auto.now source.liveness.now
  pub met : AreMet source.auto.now source.met.now
