-- Registers that hold nothing, and lists without operations that empty one which holds nothing.
use Rattle.std.specs.Prelude.{◌≡◌, ◌⊎◌, ℕ, zero, suc, List, [], ◌∷◌, length, Option, Some, None, Bool, true, false, slice_get, slice_index_or}
use Rattle.std.specs.Global.{Vec}
use Rattle.lx_auto.specs.declared.automaton.Accept.{Accept}
use Rattle.lx_auto.specs.declared.automaton.Edge.{Edge}
use Rattle.lx_auto.specs.declared.automaton.State.{State}
use Rattle.lx_auto.specs.declared.ops.Op.{Op}
use Rattle.lx_auto.specs.declared.ops.Op.TheVariants.{Here, Null, Copy, MHere, MNull, MCopy}
use Rattle.lx_auto.specs.Automaton.{AreOps, state_of}
use Rattle.lx_auto.specs.Bank.{Bank, history_added, history_copied, value_after}
use Rattle.lx_regs.specs.Pairs.{AllPairs}
use Rattle.lx_regs.specs.declared.unset_rows.UnsetRows.{UnsetRows}

-- whether a row of marks says of a register that it holds nothing
abbrev pub is_unset : List Bool → (reg : ℕ) → Bool
is_unset row reg = slice_index_or row reg false

-- what a row says to hold nothing holds nothing
abbrev pub AreUnset : List Bool → Bank → Type 0
AreUnset row bank = (reg : ℕ) → is_unset row reg ≡ true → bank.regs reg ≡ None

-- what a row says to hold nothing does so by another row
abbrev pub IsWithin : (row other : List Bool) → Type 0
IsWithin row other = (reg : ℕ) → is_unset row reg ≡ true → is_unset other reg ≡ true

-- the operation writes this register
abbrev pub WritesRegister : Op → (reg : ℕ) → Type 0
WritesRegister op reg = (op ≡ Here reg) ⊎ ((op ≡ Null reg) ⊎ ((source : ℕ) × (op ≡ Copy reg source)))

-- whether an operation empties what it writes, by what a row says to hold nothing before its list acts
abbrev pub empties : List Bool → Op → Bool
empties before (Null target) = true
empties before (Copy target source) = is_unset before source
empties before _ = false

-- Where what the first row says holds nothing, the lists leave the same in each register, and what the second row says holds nothing
-- behind them. Histories get the same whatever is held.
pub record IsKept (before behind : List Bool) (ops kept : List Op) : Type 0 where
  pub values : (bank : Bank) (offset : ℕ) → AreUnset before bank → (reg : ℕ)
      → value_after bank offset kept reg (bank.regs reg) ≡ value_after bank offset ops reg (bank.regs reg)
  pub unset : (bank : Bank) (offset : ℕ) → AreUnset before bank → (reg : ℕ) → is_unset behind reg ≡ true
      → value_after bank offset ops reg (bank.regs reg) ≡ None
  pub copied : (bank : Bank) (mreg : ℕ) (history : List (Option ℕ)) → history_copied bank kept mreg history ≡ history_copied bank ops mreg history
  pub added : (offset mreg : ℕ) → history_added offset kept mreg ≡ history_added offset ops mreg
  pub within : (regs mregs : ℕ) → AreOps regs mregs ops → AreOps regs mregs kept

-- the items of a list, if there is one
abbrev pub items_of : Option (Vec Bool) → List Bool
items_of None = []
items_of (Some row) = row.items

-- the row of a state; at the start none is said to hold nothing
abbrev pub row_at : UnsetRows → (state : ℕ) → List Bool
row_at rows zero = []
row_at rows (suc state) = items_of (slice_get rows.rows.items (suc state))

-- what is accepted keeps its rule and its values, where what a row says holds nothing
pub record IsAcceptedKept (row : List Bool) (accept other : Accept) : Type 0 where
  pub rule : other.rule ≡ accept.rule
  pub values : other.values ≡ accept.values
  pub behind : List Bool
  pub ops : IsKept row behind accept.ops other.ops

-- both accept or neither
abbrev pub IsAcceptKept : (row : List Bool) → Option Accept → Option Accept → Type 0
IsAcceptKept row None None = Unit {0}
IsAcceptKept row (Some accept) None = ⊥
IsAcceptKept row None (Some other) = ⊥
IsAcceptKept row (Some accept) (Some other) = IsAcceptedKept row accept other

module _ (rows : UnsetRows) where
  -- an edge, out of a state that is left where what a row says holds nothing; behind it what is said at its target holds nothing
  pub record IsEdgeKept (left : List Bool) (edge other : Edge) : Type 0 where
    pub low : other.lo ≡ edge.lo
    pub high : other.hi ≡ edge.hi
    pub target : other.to ≡ edge.to
    pub ops : IsKept left (row_at rows edge.to) edge.ops other.ops

  -- a state
  pub record IsStateKept (number : ℕ) (state other : State) : Type 0 where
    pub left : List Bool
    pub edges : AllPairs (IsEdgeKept left) state.edges other.edges
    pub accept : IsAcceptKept (row_at rows number) state.accept other.accept
    pub leave : IsKept (row_at rows number) left state.leave other.leave

  -- the same of two lists of states
  pub record AreStatesKept (states others : List State) : Type 0 where
    pub count : length others ≡ length states
    pub each : (number : ℕ) → IsStateKept number (state_of states number) (state_of others number)

-- there are rows by which the states are kept
abbrev pub HasRows : (states others : List State) → Type 0
HasRows states others = (rows : UnsetRows) × AreStatesKept rows states others
