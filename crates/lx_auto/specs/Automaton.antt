-- When an automaton is well formed, and the edge on a unit.
use Rattle.std.specs.Prelude.{ℕ, ◌+◌, ◌<◌, ◌≤◌, List, [], ◌∷◌, length, Option, Some, None, Bool, nat_le, ◌&&◌, if◌then◌else◌, slice_index_or}
use Rattle.lx_auto.specs.declared.automaton.Accept.{Accept}
use Rattle.lx_auto.specs.declared.automaton.Auto.{Auto}
use Rattle.lx_auto.specs.declared.automaton.Edge.{Edge}
use Rattle.lx_auto.specs.declared.automaton.Held.{Held}
use Rattle.lx_auto.specs.declared.automaton.Held.TheVariants.{Reg, MReg}
use Rattle.lx_auto.specs.declared.automaton.State.{State}
use Rattle.lx_auto.specs.declared.ops.Op.{Op}
use Rattle.lx_auto.specs.declared.ops.Op.TheVariants.{Here, Null, Copy, MHere, MNull, MCopy}

-- the state with this number; there is none with an edge where there is no such number
abbrev pub state_of : List State → ℕ → State
state_of states number = slice_index_or states number (record { edges = []; accept = None; leave = [] })

-- the unit lies in the edge's range
abbrev pub has_unit : Edge → ℕ → Bool
has_unit edge unit = nat_le edge.lo unit && nat_le unit edge.hi

-- the edge on a unit: the first whose range has it
abbrev pub edge_on : List Edge → ℕ → Option Edge
edge_on [] unit = None
edge_on (edge ∷ edges) unit = if has_unit edge unit then Some edge else edge_on edges unit

-- each edge has a unit, the first one none below `low`, and each later one none up to those of the edge before it
abbrev pub AreApartFrom : (low : ℕ) → List Edge → Type 0
AreApartFrom low [] = Unit {0}
AreApartFrom low (edge ∷ edges) = (low ≤ edge.lo) × (edge.lo ≤ edge.hi) × AreApartFrom (edge.hi + 1) edges

-- edges in ascending order, apart from one another
abbrev pub AreApart : List Edge → Type 0
AreApart edges = AreApartFrom 0 edges

-- with so many registers and so many m-registers
module _ (regs mregs : ℕ) where
  -- an m-register that may be written: any but m-register 0
  abbrev pub IsWritable : ℕ → Type 0
  IsWritable mreg = (0 < mreg) × (mreg < mregs)

  -- the registers that an operation names are there, and it does not write m-register 0
  abbrev pub IsOp : Op → Type 0
  IsOp (Here reg) = reg < regs
  IsOp (Null reg) = reg < regs
  IsOp (Copy reg source) = (reg < regs) × (source < regs)
  IsOp (MHere mreg) = IsWritable mreg
  IsOp (MNull mreg) = IsWritable mreg
  IsOp (MCopy mreg source) = IsWritable mreg × (source < mregs)

  -- the same of a list
  abbrev pub AreOps : List Op → Type 0
  AreOps [] = Unit {0}
  AreOps (op ∷ ops) = IsOp op × AreOps ops

  -- a value is held where there is a register
  abbrev pub IsHeld : Held → Type 0
  IsHeld (Reg reg) = reg < regs
  IsHeld (MReg mreg) = mreg < mregs

  -- the same of a list
  abbrev pub AreHeld : List Held → Type 0
  AreHeld [] = Unit {0}
  AreHeld (held ∷ others) = IsHeld held × AreHeld others

  -- what a state accepts, if it does, names registers that are there
  abbrev pub IsAccept : Option Accept → Type 0
  IsAccept None = Unit {0}
  IsAccept (Some accept) = AreOps accept.ops × AreHeld accept.values

  -- each edge leads to one of so many states, by operations on registers that are there
  abbrev pub LeadWithin : (states : ℕ) → List Edge → Type 0
  LeadWithin states [] = Unit {0}
  LeadWithin states (edge ∷ edges) = (edge.to < states) × AreOps edge.ops × LeadWithin states edges

  -- a state of an automaton with so many states
  pub record IsState (states : ℕ) (state : State) : Type 0 where
    pub apart : AreApart state.edges
    pub lead : LeadWithin states state.edges
    pub accept : IsAccept state.accept
    pub leave : AreOps state.leave

  -- the same of a list
  abbrev pub AreStates : (count : ℕ) → List State → Type 0
  AreStates count [] = Unit {0}
  AreStates count (state ∷ states) = IsState count state × AreStates count states

-- a well-formed automaton: there is a state 0, states have numbers of 32 bits, of which the greatest names none, and
-- each state and register that is named is there
pub record IsAuto (auto : Auto) : Type 0 where
  pub start : 0 < length auto.states
  pub few : length auto.states < 4294967295
  pub few_regs : auto.regs ≤ 1073741824
  pub few_mregs : auto.mregs ≤ 1073741824
  pub states : AreStates auto.regs auto.mregs (length auto.states) auto.states
