-- Which registers are written beside others, be it that they are copied to themselves.
use Rattle.std.specs.Prelude.{◌≢◌, ◌⊎◌, ◌≡◌, ◌<◌, ℕ, Some, Contains}
use Rattle.lx_auto.specs.declared.automaton.Accept.{Accept}
use Rattle.lx_auto.specs.declared.automaton.Auto.{Auto}
use Rattle.lx_auto.specs.declared.automaton.Edge.{Edge}
use Rattle.lx_auto.specs.declared.automaton.Held.{Held}
use Rattle.lx_auto.specs.declared.automaton.Held.TheVariants.{Reg, MReg}
use Rattle.lx_auto.specs.Effects.{Writes}
use Rattle.lx_auto.specs.Live.{IsLiveBehind, IsLiveOnLeaving}
use Rattle.lx_auto.specs.Points.{IsReached, Point, state_at}

-- at a point that some walk comes to a list writes the first, and the other is live behind the list
pub data IsWrittenBeside (auto : Auto) (held other : Held) : Type 0 where
  written_on_leaving : (point : Point) → IsReached auto point → Writes (state_at auto point).leave held → IsLiveOnLeaving auto point other
      → IsWrittenBeside auto held other
  written_on_edge : (point : Point) (edge : Edge) → IsReached auto point → Contains (state_at auto point).edges edge → Writes edge.ops held
      → IsLiveBehind auto point edge other → IsWrittenBeside auto held other
  written_on_accept : (point : Point) (accept : Accept) → IsReached auto point → (state_at auto point).accept ≡ Some accept
      → Writes accept.ops held → Contains accept.values other → IsWrittenBeside auto held other

-- a list writes one of the two, and the other is live behind it: they interfere, unless what is written is copied to itself
abbrev pub MayInterfere : Auto → (held other : Held) → Type 0
MayInterfere auto held other = IsWrittenBeside auto held other ⊎ IsWrittenBeside auto other held

-- so it is with any two registers, and with any two m-registers, m-register 0 aside
pub record AllMayInterfere (auto : Auto) : Type 0 where
  pub regs : (reg other : ℕ) → reg < auto.regs → other < auto.regs → reg ≢ other → MayInterfere auto (Reg reg) (Reg other)
  pub mregs : (mreg other : ℕ) → 0 < mreg → mreg < auto.mregs → 0 < other → other < auto.mregs → mreg ≢ other
      → MayInterfere auto (MReg mreg) (MReg other)
