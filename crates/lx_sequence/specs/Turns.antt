-- What operations do to registers where they act one by one.
use Rattle.std.specs.Prelude.{◌≡◌, ◌≢◌, ℕ, ◌≤◌, List, [], ◌∷◌, ◌++◌, Option, Some, None, nat_eq, if◌then◌else◌}
use Rattle.lx_auto.specs.Automaton.{AreOps}
use Rattle.lx_auto.specs.Bank.{Bank, bank_after}
use Rattle.lx_auto.specs.declared.ops.Op.{Op}
use Rattle.lx_auto.specs.declared.ops.Op.TheVariants.{Here, Null, Copy, MHere, MNull, MCopy}

-- the registers with another value in one of them
abbrev pub with_reg : (target : ℕ) → Option ℕ → Bank → Bank
with_reg target value bank = record bank { regs = λ reg. if nat_eq reg target then value else bank.regs reg }

-- the same of m-registers
abbrev pub with_mreg : (target : ℕ) → List (Option ℕ) → Bank → Bank
with_mreg target value bank = record bank { mregs = λ mreg. if nat_eq mreg target then value else bank.mregs mreg }

-- the registers after one operation at an offset
abbrev pub after_op : (offset : ℕ) → Op → Bank → Bank
after_op offset (Here target) bank = with_reg target (Some offset) bank
after_op offset (Null target) bank = with_reg target None bank
after_op offset (Copy target source) bank = with_reg target (bank.regs source) bank
after_op offset (MHere target) bank = with_mreg target (bank.mregs target ++ Some offset ∷ []) bank
after_op offset (MNull target) bank = with_mreg target (bank.mregs target ++ None ∷ []) bank
after_op offset (MCopy target source) bank = with_mreg target (bank.mregs source) bank

-- and after a list of operations, one by one
abbrev pub after_ops : (offset : ℕ) → List Op → Bank → Bank
after_ops offset [] bank = bank
after_ops offset (op ∷ ops) bank = after_ops offset ops (after_op offset op bank)

-- two banks hold the same, but for one register and one m-register
pub record HoldAlike (spare mspare : ℕ) (bank other : Bank) : Type 0 where
  pub registers : (reg : ℕ) → reg ≢ spare → bank.regs reg ≡ other.regs reg
  pub histories : (mreg : ℕ) → mreg ≢ mspare → bank.mregs mreg ≡ other.mregs mreg

-- a list does one by one what operations do at once, but to the spares; these are behind all registers that the operations name
abbrev pub ActsOneByOne : (spare mspare : ℕ) → (list ops : List Op) → Type 0
ActsOneByOne spare mspare list ops =
    (regs mregs : ℕ) → AreOps regs mregs ops → regs ≤ spare → mregs ≤ mspare → (offset : ℕ) (bank : Bank)
    → HoldAlike spare mspare (after_ops offset list bank) (bank_after offset ops bank)
