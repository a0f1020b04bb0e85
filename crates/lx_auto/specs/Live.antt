-- Which registers are live, whether each operation has a reader, and which registers interfere.
use Rattle.std.specs.Prelude.{◌≡◌, ◌≢◌, ◌⊎◌, ◌<◌, ℕ, List, [], ◌∷◌, Option, Some, None, false, Contains}
use Rattle.lx_auto.specs.declared.automaton.Accept.{Accept}
use Rattle.lx_auto.specs.declared.automaton.Auto.{Auto}
use Rattle.lx_auto.specs.declared.automaton.Edge.{Edge}
use Rattle.lx_auto.specs.declared.automaton.Held.{Held}
use Rattle.lx_auto.specs.declared.automaton.Held.TheVariants.{Reg, MReg}
use Rattle.lx_auto.specs.declared.ops.Op.{Op}
use Rattle.lx_auto.specs.Automaton.{state_of}
use Rattle.lx_auto.specs.Effects.{Alters, Reads, effect_of, effect_of_both, is_overwritten, target_of}
use Rattle.lx_auto.specs.Points.{Point, IsReached, point_behind, state_at, values_left}

-- Some walk from the point reads this before it is written: for a value of what the state accepts; where the state does not accept,
-- as a value of the accepting state left last; or, on an edge, for what is live behind it.
pub data IsLive (auto : Auto) : Point → Held → Type 0 where
  by_accept : (point : Point) (held : Held) (accept : Accept) (value : Held) → (state_at auto point).accept ≡ Some accept
      → Contains accept.values value → Reads (effect_of accept.ops value) held → IsLive auto point held
  by_fallback : (point : Point) (held : Held) → (state_at auto point).accept ≡ None → Contains (values_left auto point.left) held
      → IsLive auto point held
  onward : (point : Point) (held : Held) (edge : Edge) (next : Held) → Contains (state_at auto point).edges edge
      → IsLive auto (point_behind auto point edge) next → Reads (effect_of_both (state_at auto point).leave edge.ops next) held
      → IsLive auto point held

-- a set of registers for each point that is closed as the live ones are: at each point to which some walk comes it has what is
-- read there, and what is read on an edge for those that it has behind the edge
pub record IsClosed (auto : Auto) (Needed : Point → Held → Type 0) : Type 0 where
  pub accepts : (point : Point) (held : Held) (accept : Accept) (value : Held) → IsReached auto point
      → (state_at auto point).accept ≡ Some accept → Contains accept.values value → Reads (effect_of accept.ops value) held → Needed point held
  pub falls_back : (point : Point) (held : Held) → IsReached auto point → (state_at auto point).accept ≡ None
      → Contains (values_left auto point.left) held → Needed point held
  pub edges : (point : Point) (held : Held) (edge : Edge) (next : Held) → IsReached auto point → Contains (state_at auto point).edges edge
      → Needed (point_behind auto point edge) next → Reads (effect_of_both (state_at auto point).leave edge.ops next) held
      → Needed point held

module _ (auto : Auto) where
  -- live behind an edge of the point's state
  abbrev pub IsLiveBehind : Point → Edge → Held → Type 0
  IsLiveBehind point edge held = IsLive auto (point_behind auto point edge) held

  -- live behind what the state does where it is left, on the way along some edge
  abbrev pub IsLiveOnLeaving : Point → Held → Type 0
  IsLiveOnLeaving point held =
      (edge : Edge) × (next : Held) × Contains (state_at auto point).edges edge × IsLiveBehind point edge next
      × Reads (effect_of edge.ops next) held

  -- some walk comes to the state at a point where this holds
  abbrev pub AtSomePoint : (state : ℕ) → (Point → Type 0) → Type 0
  AtSomePoint state Holds = (left : Option ℕ) × IsReached auto (record { state = state; left = left })
      × Holds (record { state = state; left = left })

  -- each operation of a list writes what is wanted behind the list, and none behind it takes that away
  abbrev pub EachIsWanted : (Held → Type 0) → List Op → Type 0
  EachIsWanted IsWanted [] = Unit {0}
  EachIsWanted IsWanted (op ∷ ops) = IsWanted (target_of op) × (is_overwritten op ops ≡ false) × EachIsWanted IsWanted ops

  -- what each operation of each list does is read on some walk before it is written again
  pub record EachTargetIsRead : Type 0 where
    pub leaves : (state : ℕ)
        → EachIsWanted (λ held. AtSomePoint state (λ point. IsLiveOnLeaving point held)) (state_of auto.states state).leave
    pub edges : (state : ℕ) (edge : Edge) → Contains (state_of auto.states state).edges edge
        → EachIsWanted (λ held. AtSomePoint state (λ point. IsLiveBehind point edge held)) edge.ops
    pub accepts : (state : ℕ) (accept : Accept) → (state_of auto.states state).accept ≡ Some accept
        → EachIsWanted (λ held. AtSomePoint state (λ point. Contains accept.values held)) accept.ops

-- at a point that some walk comes to a list alters the first, and the other is live behind the list
pub data IsAlteredBeside (auto : Auto) (held other : Held) : Type 0 where
  on_leaving : (point : Point) → IsReached auto point → Alters (state_at auto point).leave held → IsLiveOnLeaving auto point other
      → IsAlteredBeside auto held other
  on_edge : (point : Point) (edge : Edge) → IsReached auto point → Contains (state_at auto point).edges edge → Alters edge.ops held
      → IsLiveBehind auto point edge other → IsAlteredBeside auto held other
  on_accept : (point : Point) (accept : Accept) → IsReached auto point → (state_at auto point).accept ≡ Some accept
      → Alters accept.ops held → Contains accept.values other → IsAlteredBeside auto held other

-- a list alters one of the two, and the other is live behind it
abbrev pub Interfere : Auto → (held other : Held) → Type 0
Interfere auto held other = IsAlteredBeside auto held other ⊎ IsAlteredBeside auto other held

-- any two registers interfere, and so do any two m-registers, m-register 0 aside
pub record AllInterfere (auto : Auto) : Type 0 where
  pub regs : (reg other : ℕ) → reg < auto.regs → other < auto.regs → reg ≢ other → Interfere auto (Reg reg) (Reg other)
  pub mregs : (mreg other : ℕ) → 0 < mreg → mreg < auto.mregs → 0 < other → other < auto.mregs → mreg ≢ other
      → Interfere auto (MReg mreg) (MReg other)
