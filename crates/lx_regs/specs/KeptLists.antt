-- What is noted on the way through a list of operations: what it writes, and what it reads for what is wanted behind it.
use Rattle.std.specs.Prelude.{◌≡◌, List, Bool, true, false, not, ◌&&◌, ◌||◌, nat_eq}
use Rattle.std.specs.List.{list_any}
use Rattle.lx_auto.specs.declared.automaton.Held.{Held}
use Rattle.lx_auto.specs.declared.automaton.Held.TheVariants.{Reg, MReg}
use Rattle.lx_auto.specs.declared.ops.Op.{Op}
use Rattle.lx_auto.specs.declared.ops.Op.TheVariants.{Copy, MCopy}
use Rattle.lx_auto.specs.Effects.{copies_into, sets, target_of}
use Rattle.lx_regs.specs.declared.held_sets.HeldSet.{HeldSet}
use Rattle.lx_regs.specs.HeldSets.{has, is_same}

-- whether an operation takes away what was held there, which a mark does not
abbrev pub overwrites : Held → Op → Bool
overwrites (Reg reg) op = sets reg op
overwrites (MReg mreg) op = copies_into mreg op

-- whether an operation writes it
abbrev pub writes : Held → Op → Bool
writes held op = is_same held (target_of op)

-- whether an operation copies what is held there
abbrev pub copies_from : Held → Op → Bool
copies_from (Reg reg) (Copy target source) = nat_eq reg source
copies_from (MReg mreg) (MCopy target source) = nat_eq mreg source
copies_from _ _ = false

-- the list has it
abbrev pub IsListed : List Held → Held → Type 0
IsListed items held = list_any (is_same held) items ≡ true

-- the set has all that the list overwrites
abbrev pub AreWritten : HeldSet → List Op → Type 0
AreWritten written ops = (held : Held) → has written held ≡ list_any (overwrites held) ops

-- whether a list without operations of no use reads this for what is wanted: it copies it, or what is wanted stays as it is
abbrev pub is_read : (wanted : List Held) → List Op → Held → Bool
is_read wanted ops held = list_any (copies_from held) ops || (list_any (is_same held) wanted && not (list_any (overwrites held) ops))
