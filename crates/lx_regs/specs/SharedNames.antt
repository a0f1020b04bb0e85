-- An automaton in which registers have other names, each register the same everywhere, and when these are fit for it.
use Rattle.std.specs.Prelude.{◌≡◌, ℕ, ◌≢◌, ◌<◌, ◌≤◌, List, length, map, option_map, slice_index}
use Rattle.lx_auto.specs.declared.automaton.Accept.{Accept}
use Rattle.lx_auto.specs.declared.automaton.Auto.{Auto}
use Rattle.lx_auto.specs.declared.automaton.Edge.{Edge}
use Rattle.lx_auto.specs.declared.automaton.Held.{Held}
use Rattle.lx_auto.specs.declared.automaton.State.{State}
use Rattle.lx_auto.specs.declared.ops.Op.{Op}
use Rattle.lx_auto.specs.declared.ops.Op.TheVariants.{Here, Null, Copy, MHere, MNull, MCopy}
use Rattle.lx_auto.specs.declared.automaton.Held.TheVariants.{Reg, MReg}
use Rattle.lx_auto.specs.Automaton.{AreStates}
use Rattle.lx_auto.specs.Effects.{Names, renamed}
use Rattle.lx_regs.specs.Bounds.{IsBoundOf}
use Rattle.lx_regs.specs.WrittenBeside.{IsWrittenBeside, MayInterfere}
use Rattle.lx_regs.specs.declared.shared_names.SharedNames.{SharedNames}
use Rattle.lx_regs.specs.declared.sharing.Counts.{Counts}

-- the names that a program holds in lists
abbrev pub names_of : SharedNames → Names
names_of names = record { regs = slice_index names.regs.items; mregs = slice_index names.mregs.items }

module _ (names : Names) where
  -- an operation by the other names of its registers
  abbrev pub renamed_op : Op → Op
  renamed_op (Here target) = Here (names.regs target)
  renamed_op (Null target) = Null (names.regs target)
  renamed_op (Copy target source) = Copy (names.regs target) (names.regs source)
  renamed_op (MHere target) = MHere (names.mregs target)
  renamed_op (MNull target) = MNull (names.mregs target)
  renamed_op (MCopy target source) = MCopy (names.mregs target) (names.mregs source)

  abbrev pub renamed_ops : List Op → List Op
  renamed_ops ops = map renamed_op ops

  abbrev pub renamed_edge : Edge → Edge
  renamed_edge edge = record { lo = edge.lo; hi = edge.hi; ops = renamed_ops edge.ops; to = edge.to }

  abbrev pub renamed_accept : Accept → Accept
  renamed_accept accept = record { rule = accept.rule; ops = renamed_ops accept.ops; values = map (renamed names) accept.values }

  abbrev pub renamed_state : State → State
  renamed_state state = record {
    edges = map renamed_edge state.edges;
    accept = option_map renamed_accept state.accept;
    leave = renamed_ops state.leave;
  }

  -- the automaton by the other names, with so many registers and m-registers
  abbrev pub renamed_auto : (regs mregs : ℕ) → Auto → Auto
  renamed_auto regs mregs auto = record { states = map renamed_state auto.states; regs = regs; mregs = mregs }

  -- registers below `regs` have names below `named`; and m-registers likewise, where m-register 0 alone has the name 0
  pub record FitWithin (regs mregs named mnamed : ℕ) : Type 0 where
    pub regs_within : (reg : ℕ) → reg < regs → names.regs reg < named
    pub mregs_within : (mreg : ℕ) → mreg < mregs → names.mregs mreg < mnamed
    pub zero : names.mregs 0 ≡ 0
    pub others : (mreg : ℕ) → 0 < mreg → mreg < mregs → 0 < names.mregs mreg

  -- registers that have one name are not written beside one another
  abbrev pub KeepApart : Auto → Type 0
  KeepApart auto = (held other : Held) → IsWrittenBeside auto held other → renamed names held ≡ renamed names other → held ≡ other

  -- any two names below `named` are those of two registers that interfere; and so it is with m-registers, m-register 0 aside
  pub record AreTight (auto : Auto) (named mnamed : ℕ) : Type 0 where
    pub of_regs : (name other : ℕ) → name < named → other < named → name ≢ other
        → (reg second : ℕ) × MayInterfere auto (Reg reg) (Reg second) × (names.regs reg ≡ name) × (names.regs second ≡ other)
    pub of_mregs : (name other : ℕ) → 0 < name → name < mnamed → 0 < other → other < mnamed → name ≢ other
        → (mreg second : ℕ) × MayInterfere auto (MReg mreg) (MReg second) × (names.mregs mreg ≡ name) × (names.mregs second ≡ other)

  -- names for so many registers and m-registers of an automaton, as few as can be had by joining registers that do not interfere
  pub record AreShared (auto : Auto) (regs mregs named mnamed : ℕ) : Type 0 where
    pub apart : KeepApart auto
    pub fit : FitWithin regs mregs named mnamed
    pub tight : AreTight auto named mnamed
    pub few : named ≤ 1073741824
    pub mfew : mnamed ≤ 1073741824

-- the names that a program holds in lists are such names, as many as there are numbers below the least bounds of the lists
pub record AreSharedBelow (auto : Auto) (names : SharedNames) : Type 0 where
  pub shared : (named mnamed : ℕ) → IsBoundOf names.regs.items named → IsBoundOf names.mregs.items mnamed
      → AreShared (names_of names) auto auto.regs auto.mregs named mnamed
  pub small : (place : ℕ) → place < length names.regs.items → slice_index names.regs.items place < 4294967295
  pub msmall : (place : ℕ) → place < length names.mregs.items → slice_index names.mregs.items place < 4294967295

-- states name no more than so many registers and m-registers, and for these there are so many names
pub record AreCounted (auto : Auto) (names : Names) (counts : Counts) : Type 0 where
  pub states : AreStates counts.most_regs counts.most_mregs (length auto.states) auto.states
  pub shared : AreShared names auto counts.most_regs counts.most_mregs counts.regs counts.mregs
