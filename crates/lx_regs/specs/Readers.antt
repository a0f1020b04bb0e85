-- What lists of operations read for a register.
use Rattle.std.specs.Prelude.{Option, Some, None}
use Rattle.lx_auto.specs.declared.automaton.Held.{Held}
use Rattle.lx_auto.specs.declared.automaton.Held.TheVariants as held
use Rattle.lx_auto.specs.Effects.{Effect, here, nothing, held_by, history_of}

-- what an effect reads, if it reads something
abbrev pub read_by : Effect → Option Held
read_by here = None
read_by nothing = None
read_by (held_by reg) = Some (held.Reg reg)
read_by (history_of mreg marks) = Some (held.MReg mreg)
