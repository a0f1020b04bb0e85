-- What registers of the program hold, and what each operation of a list gives to them.
use Rattle.std.specs.Prelude.{◌≡◌, ℕ, List, [], Option, Some, None, length, slice_index_or}
use Rattle.lx_auto.specs.Bank.{Bank}
use Rattle.lx_auto.specs.declared.automaton.Auto.{Auto}
use Rattle.lx_auto.specs.declared.ops.Op.{Op}
use Rattle.lx_auto.specs.declared.ops.Op.TheVariants.{Here, Null, Copy, MHere, MNull, MCopy}
use Rattle.lx_cover.specs.declared.registers.Registers.{Registers}

-- registers as a bank: those beyond the last hold nothing
abbrev pub bank_of : Registers → Bank
bank_of registers = record {
  regs = λ reg. slice_index_or registers.values.items reg None;
  mregs = λ mreg. slice_index_or registers.histories.items mreg [];
}

-- there are as many as the automaton has
pub record HasAll (auto : Auto) (registers : Registers) : Type 0 where
  pub values : length registers.values.items ≡ auto.regs
  pub histories : length registers.histories.items ≡ auto.mregs

-- there are as many as before
pub record KeepsCounts (before after : Registers) : Type 0 where
  pub values : length after.values.items ≡ length before.values.items
  pub histories : length after.histories.items ≡ length before.histories.items

-- what an operation gives to a register, if it writes one
abbrev pub value_given : Bank → (offset : ℕ) → Op → Option ℕ
value_given bank offset (Here target) = Some offset
value_given bank offset (Null target) = None
value_given bank offset (Copy target source) = bank.regs source
value_given bank offset (MHere target) = None
value_given bank offset (MNull target) = None
value_given bank offset (MCopy target source) = None

-- the history that an operation copies, if it copies one
abbrev pub history_given : Bank → Op → List (Option ℕ)
history_given bank (Here target) = []
history_given bank (Null target) = []
history_given bank (Copy target source) = []
history_given bank (MHere target) = []
history_given bank (MNull target) = []
history_given bank (MCopy target source) = bank.mregs source
