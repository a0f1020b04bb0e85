-- The registers that are live behind an edge, as a list.
use Rattle.std.specs.Prelude.{◌≡◌, ◌⊎◌, ℕ, ◌<◌, List, AllPairs, Contains, IsPermutation, length}
use Rattle.lx_auto.specs.declared.automaton.Auto.{Auto}
use Rattle.lx_auto.specs.declared.automaton.Edge.{Edge}
use Rattle.lx_auto.specs.declared.automaton.Held.{Held}
use Rattle.lx_auto.specs.declared.automaton.Held.TheVariants.{Reg, MReg}
use Rattle.lx_auto.specs.Automaton.{IsAuto}
use Rattle.lx_auto.specs.Live.{AtSomePoint, IsLiveBehind}
use Rattle.lx_regs.specs.declared.items.Item.{Item}
use Rattle.lx_regs.specs.declared.keys.Key.{Key}
use Rattle.lx_regs.specs.declared.live.Liveness.{Liveness}
use Rattle.lx_regs.specs.declared.live.Usage.{Usage}
use Rattle.lx_regs.specs.declared.reached.Pair.{Pair}
use Rattle.lx_regs.specs.Items.{AreItems}
use Rattle.lx_regs.specs.Keys.{held_of}
use Rattle.lx_regs.specs.LeftGroups.{AreGroups}
use Rattle.lx_regs.specs.Liveness.{AreMarked, AreSorted, usages_at}
use Rattle.lx_regs.specs.Reached.{ArePairs}

-- these are the registers that are live behind an edge out of a state, at some point of the state to which a walk comes
pub record AreLiveBehind (auto : Auto) (state : ℕ) (edge : Edge) (registers : List Held) : Type 0 where
  pub sound : (held : Held) → Contains registers held → AtSomePoint auto state (λ point. IsLiveBehind auto point edge held)
  pub complete : (held : Held) → AtSomePoint auto state (λ point. IsLiveBehind auto point edge held) → Contains registers held

-- registers come before m-registers, and each sort by its numbers
abbrev pub IsBefore : Held → Held → Type 0
IsBefore (Reg reg) (Reg other) = reg < other
IsBefore (Reg reg) (MReg mreg) = Unit {0}
IsBefore (MReg mreg) (Reg reg) = ⊥
IsBefore (MReg mreg) (MReg other) = mreg < other

-- in ascending order, each once
abbrev pub AreAscending : List Held → Type 0
AreAscending registers = AllPairs IsBefore registers

-- the one is before the other, or they are the same
abbrev pub IsUpTo : Held → Held → Type 0
IsUpTo held other = IsBefore held other ⊎ (held ≡ other)

-- none is behind this one
abbrev pub AreUpTo : List Held → Held → Type 0
AreUpTo registers held = (other : Held) → Contains registers other → IsUpTo other held

-- by registers in ascending order, so that usages of one register stand together
abbrev pub AreInOrder : List Usage → Type 0
AreInOrder usages = AllPairs (λ (usage : Usage) (other : Usage). IsUpTo (held_of usage.key) (held_of other.key)) usages

-- the same usages at each state, in that order
pub record AreOrdered (lists ordered : List (List Usage)) : Type 0 where
  pub fit : length ordered ≡ length lists
  pub same : (state : ℕ) → IsPermutation (usages_at lists state) (usages_at ordered state)
  pub order : (state : ℕ) → AreInOrder (usages_at ordered state)

-- the lists have at each state what is live there, in order
pub record AreUsages (auto : Auto) (numbers : List ℕ) (lists : List (List Key)) (pairs : List Pair) (usages : List (List Usage))
    : Type 0 where
  pub items : List Item
  pub live : AreItems auto numbers lists pairs items
  pub sorted : AreSorted (length auto.states) items usages
  pub order : (state : ℕ) → AreInOrder (usages_at usages state)

-- what is kept comes of a well-formed automaton's groups, pairs and items
pub record IsLivenessOf (auto : Auto) (liveness : Liveness) : Type 0 where
  pub formed : IsAuto auto
  pub lists : List (List Key)
  pub items : List Item
  pub groups : AreGroups auto liveness.numbers.items lists
  pub pairs : ArePairs auto liveness.numbers.items liveness.pairs
  pub marks : AreMarked (length auto.states) liveness.pairs liveness.marks.items
  pub live : AreItems auto liveness.numbers.items lists liveness.pairs items
  pub usages : AreSorted (length auto.states) items liveness.usages.items
  pub order : (state : ℕ) → AreInOrder (usages_at liveness.usages.items state)
