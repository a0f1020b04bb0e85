-- What lists of operations read for a register.
use Rattle.std.specs.Prelude.{ℕ, List, [], ◌∷◌, Option, Some, None, if◌then◌else◌, nat_eq}
use Rattle.lx_auto.specs.declared.automaton.Held.{Held}
use Rattle.lx_auto.specs.declared.automaton.Held.TheVariants.{Reg, MReg}
use Rattle.lx_auto.specs.declared.ops.Op.{Op}
use Rattle.lx_auto.specs.declared.ops.Op.TheVariants.{Here, Null, Copy}
use Rattle.lx_auto.specs.Effects.{Effect, here, nothing, held_by, history_of}

-- what an effect reads, if it reads something
abbrev pub read_by : Effect → Option Held
read_by here = None
read_by nothing = None
read_by (held_by reg) = Some (Reg reg)
read_by (history_of mreg marks) = Some (MReg mreg)

-- what is read for a register behind one more operation
abbrev pub read_behind : Op → (reg : ℕ) → (read : Option Held) → Option Held
read_behind (Here target) reg read = if nat_eq reg target then None else read
read_behind (Null target) reg read = if nat_eq reg target then None else read
read_behind (Copy target source) reg read = if nat_eq reg target then Some (Reg source) else read
read_behind _ reg read = read

-- the same of a list
abbrev pub read_after : List Op → (reg : ℕ) → (read : Option Held) → Option Held
read_after [] reg read = read
read_after (op ∷ ops) reg read = read_after ops reg (read_behind op reg read)
