-- What lists do to one register, as the program keeps it.
use Rattle.lx_auto.specs.Effects.{Effect, here, nothing, held_by, history_of}
use Rattle.lx_regs.specs.declared.outcomes.Outcome.{Outcome}
use Rattle.lx_regs.specs.declared.outcomes.Outcome.TheVariants.{Offset, Unset, Register, History}

-- the effect on a register or an m-register
abbrev pub effect_seen : Outcome → Effect
effect_seen Offset = here
effect_seen Unset = nothing
effect_seen (Register reg) = held_by reg
effect_seen (History mreg marks) = history_of mreg marks
