-- What is tested of a proposed automaton and of the names of registers in it.
use Rattle.std.specs.Prelude.{◌≡◌, ℕ, ◌<◌, ◌≤◌, List, length, Option, Some, None, IsSome}
use Rattle.lx_auto.specs.declared.automaton.Accept.{Accept}
use Rattle.lx_auto.specs.declared.automaton.Auto.{Auto}
use Rattle.lx_auto.specs.declared.automaton.Edge.{Edge}
use Rattle.lx_auto.specs.declared.automaton.Held.{Held}
use Rattle.lx_auto.specs.declared.automaton.State.{State}
use Rattle.lx_auto.specs.declared.ops.Op.{Op}
use Rattle.lx_auto.specs.Automaton.{AreOps, IsHeld, state_of}
use Rattle.lx_auto.specs.Effects.{effect_of, effect_of_both, renamed, renamed_effect}
use Rattle.lx_auto.specs.Live.{AtSomePoint, IsLiveBehind}
use Rattle.lx_regs.specs.NameTables.{fixed_name, fixed_names, names_at}
use Rattle.lx_regs.specs.ListRenamings.{IsRenaming}
use Rattle.lx_regs.specs.LiveSets.{IsLivenessOf}
use Rattle.lx_regs.specs.Pairs.{AllPairs}
use Rattle.lx_regs.specs.declared.translation_test.Looked.{Looked}
use Rattle.lx_regs.specs.declared.translation_test.Looked.TheVariants.{Live, All}
use Rattle.lx_regs.specs.declared.name_tables.NameTable.{NameTable}

-- by the names of a table
module _ (table : NameTable) where
  -- along an edge from a state to another one the lists of the answer do to what is held, by its other names, what those of the given
  -- automaton do
  abbrev pub KeepsEffect : (state to : ℕ) → (leave ops : List Op) → (new_leave new_ops : List Op) → Held → Type 0
  KeepsEffect state to leave ops new_leave new_ops held =
      effect_of_both new_leave new_ops (renamed (names_at table to) held)
      ≡ renamed_effect (names_at table state) (effect_of_both leave ops held)

  -- a value has one name at all states, by which it is held in the answer, and it gets the same
  pub record KeepsValue (regs mregs state : ℕ) (ops new_ops : List Op) (value other : Held) : Type 0 where
    pub has_name : IsSome (fixed_name table value)
    pub name : other ≡ renamed (fixed_names table) value
    pub effect : effect_of new_ops other ≡ renamed_effect (names_at table state) (effect_of ops value)
    pub held : IsHeld regs mregs other

  -- what is accepted
  pub record KeptAccept (regs mregs state : ℕ) (accept other : Accept) : Type 0 where
    pub rule : other.rule ≡ accept.rule
    pub ops : AreOps regs mregs other.ops
    pub values : AllPairs (KeepsValue regs mregs state accept.ops other.ops) accept.values other.values

  -- what is accepted, if something is
  abbrev pub KeepsAccept : (regs mregs state : ℕ) → Option Accept → Option Accept → Type 0
  KeepsAccept regs mregs state None None = Unit {0}
  KeepsAccept regs mregs state None (Some other) = ⊥
  KeepsAccept regs mregs state (Some accept) None = ⊥
  KeepsAccept regs mregs state (Some accept) (Some other) = KeptAccept regs mregs state accept other

  -- along an edge out of a state they do it to all that is live behind the edge
  abbrev pub KeepsLive : (given : Auto) → (state : ℕ) → (leave new_leave : List Op) → (edge other : Edge) → Type 0
  KeepsLive given state leave new_leave edge other =
      (held : Held) → AtSomePoint given state (λ point. IsLiveBehind given point edge held)
      → KeepsEffect state edge.to leave edge.ops new_leave other.ops held

  -- in an answer with so many registers
  module _ (given : Auto) (regs mregs : ℕ) where
    -- an edge out of a state
    pub record KeepsEdge (state : ℕ) (leave new_leave : List Op) (edge other : Edge) : Type 0 where
      pub low : other.lo ≡ edge.lo
      pub high : other.hi ≡ edge.hi
      pub target : other.to ≡ edge.to
      pub ops : AreOps regs mregs other.ops
      pub effects : KeepsLive given state leave new_leave edge other

    -- a state
    pub record KeepsState (number : ℕ) (state other : State) : Type 0 where
      pub edges : AllPairs (KeepsEdge number state.leave other.leave) state.edges other.edges
      pub accept : KeepsAccept regs mregs number state.accept other.accept
      pub leave : AreOps regs mregs other.leave

-- what is looked at is known: what is live, or the one name of each register
abbrev pub CanTest : (given : Auto) → NameTable → Looked → Type 0
CanTest given table (Live live) = IsLivenessOf given live.now
CanTest given table (All renaming) = IsRenaming given table renaming.now

-- The test is passed: the answer has the states of the given automaton, and each keeps what is live.
pub record IsTested (given answer : Auto) (table : NameTable) : Type 0 where
  pub count : length answer.states ≡ length given.states
  pub few_regs : answer.regs ≤ 1073741824
  pub few_mregs : answer.mregs ≤ 1073741824
  pub start : (names_at table 0).mregs 0 ≡ 0
  pub states : (number : ℕ) → number < length given.states
      → KeepsState table given answer.regs answer.mregs number (state_of given.states number) (state_of answer.states number)
