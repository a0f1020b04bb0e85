-- Names of registers, as the program keeps them.
use Rattle.std.specs.Prelude.{ℕ, ◌+◌, ◌*◌, Option, Some, None, nat_eq}
use Rattle.indexmap.specs.IndexMap.{get}
use Rattle.lx_auto.specs.declared.automaton.Held.{Held}
use Rattle.lx_auto.specs.declared.automaton.Held.TheVariants.{Reg, MReg}
use Rattle.lx_auto.specs.Effects.{Names}
use Rattle.lx_regs.specs.declared.name_tables.NameTable.{NameTable}

-- the first name if there is one, else the other, else the number itself
abbrev pub first_name : (fixed chosen : Option ℕ) → (number : ℕ) → ℕ
first_name (Some name) chosen number = name
first_name None (Some name) number = name
first_name None None number = number

-- the name that a number has at each state, if it has one
module _ (table : NameTable) where
  abbrev pub fixed_name : Held → Option ℕ
  fixed_name (Reg reg) = get nat_eq table.fixed_regs reg
  fixed_name (MReg mreg) = get nat_eq table.fixed_mregs mreg

-- the names at a state
abbrev pub names_at : NameTable → (state : ℕ) → Names
names_at table state = record {
  regs = λ reg. first_name (get nat_eq table.fixed_regs reg) (get nat_eq table.regs (state * 4294967296 + reg)) reg;
  mregs = λ mreg. first_name (get nat_eq table.fixed_mregs mreg) (get nat_eq table.mregs (state * 4294967296 + mreg)) mreg;
}

-- the names that are the same at each state
abbrev pub fixed_names : NameTable → Names
fixed_names table = record {
  regs = λ reg. first_name (get nat_eq table.fixed_regs reg) None reg;
  mregs = λ mreg. first_name (get nat_eq table.fixed_mregs mreg) None mreg;
}
