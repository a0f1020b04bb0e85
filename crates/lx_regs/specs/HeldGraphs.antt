-- Graphs over the registers and the m-registers of an automaton.
use Rattle.std.specs.Prelude.{◌≡◌, ◌≢◌, ◌⊎◌, ◌+◌, ◌-◌, ◌<◌, List, [], ◌∷◌, Option, Some, None, Contains}
use Rattle.lx_auto.specs.declared.automaton.Held.{Held}
use Rattle.lx_auto.specs.declared.automaton.Held.TheVariants.{Reg, MReg}
use Rattle.lx_auto.specs.declared.ops.Op.{Op}
use Rattle.lx_auto.specs.Effects.{Writes, effect_of}
use Rattle.lx_regs.specs.declared.held_graphs.HeldGraph.{HeldGraph}
use Rattle.lx_regs.specs.Graphs.{AreNeighbours, IsGraph, size_of}
use Rattle.lx_regs.specs.Reads.{read_by}

-- both graphs are graphs
pub record IsHeldGraph (graph : HeldGraph) : Type 0 where
  pub of_regs : IsGraph graph.regs
  pub of_mregs : IsGraph graph.mregs

-- there is such a register or m-register
abbrev pub IsThere : HeldGraph → Held → Type 0
IsThere graph (Reg reg) = reg < size_of graph.regs
IsThere graph (MReg mreg) = mreg < size_of graph.mregs + 1

-- they are neighbours; m-register 0 has none
abbrev pub AreJoined : HeldGraph → (held other : Held) → Type 0
AreJoined graph (Reg reg) (Reg other) = AreNeighbours graph.regs reg other
AreJoined graph (MReg mreg) (MReg other) = (0 < mreg) × (0 < other) × AreNeighbours graph.mregs (mreg - 1) (other - 1)
AreJoined graph _ _ = ⊥

-- two registers, or two m-registers of which none is m-register 0
abbrev pub AreTwo : (held other : Held) → Type 0
AreTwo (Reg reg) (Reg other) = reg ≢ other
AreTwo (MReg mreg) (MReg other) = (0 < mreg) × (0 < other) × (mreg ≢ other)
AreTwo _ _ = ⊥

-- a graph in which those that are so were made neighbours, and no others
pub record Notes (AreSo : Held → Held → Type 0) (old new : HeldGraph) : Type 0 where
  pub formed : IsHeldGraph new
  pub reg_count : size_of new.regs ≡ size_of old.regs
  pub mreg_count : size_of new.mregs ≡ size_of old.mregs
  pub joined : (held other : Held) → AreSo held other → AreTwo held other → AreJoined new held other
  pub kept : (held other : Held) → AreJoined old held other → AreJoined new held other
  pub only : (held other : Held) → AreJoined new held other → AreJoined old held other ⊎ (AreSo held other ⊎ AreSo other held)

-- they are these two
abbrev pub AreThese : (first second : Held) → (held other : Held) → Type 0
AreThese first second held other = (first ≡ held) × (second ≡ other)

-- they are this one and one of some others
abbrev pub AreAmong : (first : Held) → List Held → (held other : Held) → Type 0
AreAmong first others held other = (first ≡ held) × Contains others other

-- a list writes the one, and the other is among some that are live behind it
abbrev pub AreBeside : List Op → (live : List Held) → (held other : Held) → Type 0
AreBeside ops live held other = Writes ops held × Contains live other

-- what is put in front of a list, if something is
abbrev pub in_front : Option Held → List Held → List Held
in_front None others = others
in_front (Some held) others = held ∷ others

-- what a list reads for some registers
abbrev pub read_each : List Op → List Held → List Held
read_each ops [] = []
read_each ops (held ∷ others) = in_front (read_by (effect_of ops held)) (read_each ops others)
