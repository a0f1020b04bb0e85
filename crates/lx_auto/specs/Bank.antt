-- What registers hold, and what a list of operations does to them.
use Rattle.std.specs.Prelude.{◌≡◌, ℕ, List, [], ◌∷◌, ◌++◌, map, Option, Some, None, nat_eq, if◌then◌else◌}
use Rattle.lx_auto.specs.declared.automaton.Held.{Held}
use Rattle.lx_auto.specs.declared.automaton.Held.TheVariants.{Reg, MReg}
use Rattle.lx_auto.specs.declared.ops.Op.{Op}
use Rattle.lx_auto.specs.declared.ops.Op.TheVariants.{Here, Null, Copy, MHere, MNull, MCopy}

-- an offset or none for each register, and a list of these, a history, for each m-register
pub record Bank : Type 0 where
  pub regs : ℕ → Option ℕ
  pub mregs : ℕ → List (Option ℕ)

-- no register has an offset, and each history is empty
abbrev pub empty_bank : Bank
empty_bank = record { regs = λ reg. None; mregs = λ mreg. [] }

-- the bank holds nothing
pub record IsEmpty (bank : Bank) : Type 0 where
  pub regs : (reg : ℕ) → bank.regs reg ≡ None
  pub mregs : (mreg : ℕ) → bank.mregs mreg ≡ []

-- what a register that had this value has behind an operation at an offset, if what is copied is read from the bank
abbrev pub value_behind : Bank → (offset : ℕ) → Op → (reg : ℕ) → Option ℕ → Option ℕ
value_behind bank offset (Here target) reg value = if nat_eq reg target then Some offset else value
value_behind bank offset (Null target) reg value = if nat_eq reg target then None else value
value_behind bank offset (Copy target source) reg value = if nat_eq reg target then bank.regs source else value
value_behind bank offset _ reg value = value

-- the same of a list: the last operation that writes the register counts
abbrev pub value_after : Bank → (offset : ℕ) → List Op → (reg : ℕ) → Option ℕ → Option ℕ
value_after bank offset [] reg value = value
value_after bank offset (op ∷ ops) reg value = value_after bank offset ops reg (value_behind bank offset op reg value)

-- what an m-register that had this history has behind a copy into it; any other operation leaves it
abbrev pub history_behind : Bank → Op → (mreg : ℕ) → List (Option ℕ) → List (Option ℕ)
history_behind bank (MCopy target source) mreg history = if nat_eq mreg target then bank.mregs source else history
history_behind bank _ mreg history = history

-- the same of a list: the last copy into the m-register counts
abbrev pub history_copied : Bank → List Op → (mreg : ℕ) → List (Option ℕ) → List (Option ℕ)
history_copied bank [] mreg history = history
history_copied bank (op ∷ ops) mreg history = history_copied bank ops mreg (history_behind bank op mreg history)

-- what an operation puts at the end of an m-register
abbrev pub added_by : (offset : ℕ) → Op → (mreg : ℕ) → List (Option ℕ)
added_by offset (MHere target) mreg = if nat_eq mreg target then Some offset ∷ [] else []
added_by offset (MNull target) mreg = if nat_eq mreg target then None ∷ [] else []
added_by offset _ mreg = []

-- what a list puts there, in its order
abbrev pub history_added : (offset : ℕ) → List Op → (mreg : ℕ) → List (Option ℕ)
history_added offset [] mreg = []
history_added offset (op ∷ ops) mreg = added_by offset op mreg ++ history_added offset ops mreg

-- the registers after a list that acts at once, at an offset: what it puts at the end of a history follows the copies
abbrev pub bank_after : (offset : ℕ) → List Op → Bank → Bank
bank_after offset ops bank = record {
  regs = λ reg. value_after bank offset ops reg (bank.regs reg);
  mregs = λ mreg. history_copied bank ops mreg (bank.mregs mreg) ++ history_added offset ops mreg;
}

-- the value of a tag: an offset or none, or a history
pub data Value : Type 0 where
  single : Option ℕ → Value
  history : List (Option ℕ) → Value

-- what is read where a value is held
abbrev pub read : Bank → Held → Value
read bank (Reg reg) = single (bank.regs reg)
read bank (MReg mreg) = history (bank.mregs mreg)

abbrev pub read_all : Bank → List Held → List Value
read_all bank values = map (read bank) values
