-- Registers and m-registers as keys of sets.
use Rattle.lx_auto.specs.declared.automaton.Held.{Held}
use Rattle.lx_auto.specs.declared.automaton.Held.TheVariants as held
use Rattle.lx_regs.specs.declared.keys.Key.{Key}
use Rattle.lx_regs.specs.declared.keys.Key.TheVariants as key

-- where a value is held, as a key
abbrev pub key_of : Held → Key
key_of (held.Reg reg) = key.Reg reg
key_of (held.MReg mreg) = key.MReg mreg

-- and back
abbrev pub held_of : Key → Held
held_of (key.Reg reg) = held.Reg reg
held_of (key.MReg mreg) = held.MReg mreg
