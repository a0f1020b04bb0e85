-- Lists that do the same where registers have other names, which may be one name for several.
use Rattle.std.specs.Prelude.{◌≡◌, ℕ, ◌<◌, ◌≤◌, List, [], ◌∷◌, ◌++◌, length, All, Contains, slice_index_or, slice_set, IsSome}
use Rattle.lx_auto.specs.declared.automaton.Auto.{Auto}
use Rattle.lx_auto.specs.declared.automaton.Held.TheVariants.{Reg, MReg}
use Rattle.lx_auto.specs.declared.ops.Op.{Op}
use Rattle.lx_auto.specs.declared.ops.Op.TheVariants.{Here}
use Rattle.lx_auto.specs.Effects.{Names, effect_of, renamed_effect}
use Rattle.lx_regs.specs.NameTables.{fixed_name, fixed_names}
use Rattle.lx_regs.specs.OrderedOps.{Ascend, number_of}
use Rattle.lx_regs.specs.declared.list_renaming.ListRenaming.{ListRenaming}
use Rattle.lx_regs.specs.declared.name_tables.NameTable.{NameTable}

-- the names of a list, by the numbers of registers; others keep their numbers
abbrev pub names_by : List ℕ → Names
names_by names = record { regs = λ reg. slice_index_or names reg reg; mregs = λ mreg. mreg }

-- the registers of a name
abbrev pub members_at : List (List ℕ) → (name : ℕ) → List ℕ
members_at members name = slice_index_or members name []

-- the first so many registers that have a name below a count are among those of the name
pub record AreMembers (bound count : ℕ) (names : List ℕ) (members : List (List ℕ)) : Type 0 where
  pub fit : length members ≡ count
  pub complete : (reg : ℕ) → reg < bound → slice_index_or names reg reg < count
      → Contains (members_at members (slice_index_or names reg reg)) reg

-- a register is put behind those of a name, where there is a list for the name
abbrev pub IsNoted : (old new : List (List ℕ)) → (name reg : ℕ) → Type 0
IsNoted old new name reg =
    (name < length old → new ≡ slice_set old name (members_at old name ++ reg ∷ [])) × (length old ≤ name → new ≡ old)

-- the second list does to the name of a register what the first one does to the register
abbrev pub IsKept : (names : List ℕ) → (ops others : List Op) → (reg : ℕ) → Type 0
IsKept names ops others reg =
    effect_of others (Reg (slice_index_or names reg reg)) ≡ renamed_effect (names_by names) (effect_of ops (Reg reg))

-- two lists in ascending order do the same to what the first writes, and to all registers that have the name of one that the second writes
pub record IsListKept (names : List ℕ) (members : List (List ℕ)) (ops others : List Op) : Type 0 where
  pub order : Ascend ops
  pub also : Ascend others
  pub written : (place : ℕ) → place < length ops → IsKept names ops others (number_of (slice_index_or ops place (Here 0)))
  pub named : (place : ℕ) → place < length others
      → All (IsKept names ops others) (members_at members (number_of (slice_index_or others place (Here 0))))

-- a register has this name at all states, which is below a count
abbrev pub IsFixedName : NameTable → (count reg name : ℕ) → Type 0
IsFixedName table count reg name = IsSome (fixed_name table (Reg reg)) × ((fixed_names table).regs reg ≡ name) × (name < count)

-- so many registers have these names
pub record AreFixedNames (table : NameTable) (count regs : ℕ) (names : List ℕ) : Type 0 where
  pub fit : length names ≡ regs
  pub each : (reg : ℕ) → reg < regs → IsFixedName table count reg (slice_index_or names reg reg)

-- A table gives the registers of an automaton these names, and each of its m-registers one name, at all states.
pub record IsRenaming (given : Auto) (table : NameTable) (renaming : ListRenaming) : Type 0 where
  pub count : ℕ
  pub members : AreMembers given.regs count renaming.names.items renaming.members.items
  pub fixed : (reg : ℕ) → reg < given.regs → IsFixedName table count reg (slice_index_or renaming.names.items reg reg)
  pub histories : (mreg : ℕ) → mreg < given.mregs → IsSome (fixed_name table (MReg mreg))
