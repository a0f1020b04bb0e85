-- What a list of operations that acts at once does to one register, whatever registers hold, and other names for registers.
use Rattle.std.specs.Prelude.{◌≡◌, ◌≢◌, ℕ, List, [], ◌∷◌, ◌++◌, map, Option, Some, None, Bool, true, false, nat_eq, if◌then◌else◌, Contains}
use Rattle.std.specs.List.{list_any}
use Rattle.lx_auto.specs.declared.automaton.Held.{Held}
use Rattle.lx_auto.specs.declared.automaton.Held.TheVariants.{Reg, MReg}
use Rattle.lx_auto.specs.declared.ops.Op.{Op}
use Rattle.lx_auto.specs.declared.ops.Op.TheVariants.{Here, Null, Copy, MHere, MNull, MCopy}
use Rattle.lx_auto.specs.Bank.{Bank, Value, single, history}

-- what a register has behind a list: the offset, nothing, or what a register held before the list; and an m-register the history
-- that an m-register held, with marks behind it, of which each is the offset (true) or nothing (false)
pub data Effect : Type 0 where
  here : Effect
  nothing : Effect
  held_by : (reg : ℕ) → Effect
  history_of : (mreg : ℕ) → (marks : List Bool) → Effect

-- ---- of one list

-- the effect on a register behind one more operation
abbrev pub effect_behind : Op → (reg : ℕ) → Effect → Effect
effect_behind (Here target) reg effect = if nat_eq reg target then here else effect
effect_behind (Null target) reg effect = if nat_eq reg target then nothing else effect
effect_behind (Copy target source) reg effect = if nat_eq reg target then held_by source else effect
effect_behind _ reg effect = effect

-- the same of a list
abbrev pub effect_after : List Op → (reg : ℕ) → Effect → Effect
effect_after [] reg effect = effect
effect_after (op ∷ ops) reg effect = effect_after ops reg (effect_behind op reg effect)

-- whose history an m-register has behind one more operation
abbrev pub origin_behind : Op → (mreg : ℕ) → (origin : ℕ) → ℕ
origin_behind (MCopy target source) mreg origin = if nat_eq mreg target then source else origin
origin_behind _ mreg origin = origin

-- the same of a list
abbrev pub origin_after : List Op → (mreg : ℕ) → (origin : ℕ) → ℕ
origin_after [] mreg origin = origin
origin_after (op ∷ ops) mreg origin = origin_after ops mreg (origin_behind op mreg origin)

-- the mark that an operation puts at the end of an m-register
abbrev pub mark_by : Op → (mreg : ℕ) → List Bool
mark_by (MHere target) mreg = if nat_eq mreg target then true ∷ [] else []
mark_by (MNull target) mreg = if nat_eq mreg target then false ∷ [] else []
mark_by _ mreg = []

-- the marks that a list puts there, in its order
abbrev pub marks_by : List Op → (mreg : ℕ) → List Bool
marks_by [] mreg = []
marks_by (op ∷ ops) mreg = mark_by op mreg ++ marks_by ops mreg

-- what a list does to a register or an m-register
abbrev pub effect_of : List Op → Held → Effect
effect_of ops (Reg reg) = effect_after ops reg (held_by reg)
effect_of ops (MReg mreg) = history_of (origin_after ops mreg mreg) (marks_by ops mreg)

-- ---- of two lists, one behind the other at one offset

-- an effect that reads what a first list left
abbrev pub effect_upon : (first : List Op) → Effect → Effect
effect_upon first here = here
effect_upon first nothing = nothing
effect_upon first (held_by reg) = effect_of first (Reg reg)
effect_upon first (history_of mreg marks) = history_of (origin_after first mreg mreg) (marks_by first mreg ++ marks)

-- what both lists do to a register or an m-register
abbrev pub effect_of_both : (first second : List Op) → Held → Effect
effect_of_both first second held = effect_upon first (effect_of second held)

-- ---- what is read, what is written, and what comes of it

-- the effect reads what is held there; each reads one register at most
abbrev pub Reads : Effect → Held → Type 0
Reads here held = ⊥
Reads nothing held = ⊥
Reads (held_by reg) held = Reg reg ≡ held
Reads (history_of mreg marks) held = MReg mreg ≡ held

-- what marks stand for
abbrev pub marked : (offset : ℕ) → (marks : List Bool) → List (Option ℕ)
marked offset marks = map (λ mark. if mark then Some offset else None) marks

-- what an effect gives at an offset, if what it reads is held in the bank
abbrev pub value_of : (offset : ℕ) → Bank → Effect → Value
value_of offset bank here = single (Some offset)
value_of offset bank nothing = single None
value_of offset bank (held_by reg) = single (bank.regs reg)
value_of offset bank (history_of mreg marks) = history (bank.mregs mreg ++ marked offset marks)

-- what an operation writes
abbrev pub target_of : Op → Held
target_of (Here target) = Reg target
target_of (Null target) = Reg target
target_of (Copy target source) = Reg target
target_of (MHere target) = MReg target
target_of (MNull target) = MReg target
target_of (MCopy target source) = MReg target

-- some operation of the list writes it, be it that it copies it to itself
abbrev pub Writes : List Op → Held → Type 0
Writes ops held = (op : Op) × Contains ops op × (target_of op ≡ held)

-- The list leaves in it something else than what it held: what the list does is not what no operation does. A copy of a register to
-- itself writes it, and alters nothing.
abbrev pub Alters : List Op → Held → Type 0
Alters ops held = effect_of ops held ≢ effect_of [] held

-- an operation that copies a register, or an m-register, to itself
abbrev pub copies_itself : Op → Bool
copies_itself (Copy target source) = nat_eq target source
copies_itself (MCopy target source) = nat_eq target source
copies_itself _ = false

-- an operation that gives the register the offset, nothing, or what a register held
abbrev pub sets : (reg : ℕ) → Op → Bool
sets reg (Here target) = nat_eq reg target
sets reg (Null target) = nat_eq reg target
sets reg (Copy target source) = nat_eq reg target
sets reg _ = false

-- an operation that gives the m-register a history
abbrev pub copies_into : (mreg : ℕ) → Op → Bool
copies_into mreg (MCopy target source) = nat_eq mreg target
copies_into mreg _ = false

-- a later operation of the list takes away what this one did; marks follow all copies, so they stay
abbrev pub is_overwritten : Op → (later : List Op) → Bool
is_overwritten (Here target) later = list_any (sets target) later
is_overwritten (Null target) later = list_any (sets target) later
is_overwritten (Copy target source) later = list_any (sets target) later
is_overwritten (MCopy target source) later = list_any (copies_into target) later
is_overwritten _ later = false

-- ---- other names

-- another name for each register and for each m-register
pub record Names : Type 0 where
  pub regs : ℕ → ℕ
  pub mregs : ℕ → ℕ

-- each has its own name
abbrev pub same_names : Names
same_names = record { regs = λ reg. reg; mregs = λ mreg. mreg }

-- the second names of what the first ones name
abbrev pub composed : (first second : Names) → Names
composed first second = record { regs = λ reg. second.regs (first.regs reg); mregs = λ mreg. second.mregs (first.mregs mreg) }

-- where a value is held, by its other name
abbrev pub renamed : Names → Held → Held
renamed names (Reg reg) = Reg (names.regs reg)
renamed names (MReg mreg) = MReg (names.mregs mreg)

-- an effect, where what it reads has another name
abbrev pub renamed_effect : Names → Effect → Effect
renamed_effect names here = here
renamed_effect names nothing = nothing
renamed_effect names (held_by reg) = held_by (names.regs reg)
renamed_effect names (history_of mreg marks) = history_of (names.mregs mreg) marks
