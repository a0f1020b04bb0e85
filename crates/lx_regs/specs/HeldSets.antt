-- Sets of registers and m-registers.
use Rattle.std.specs.Prelude.{◌≡◌, Bool, true, false, ◌||◌, nat_eq}
use Rattle.std.specs.BTreeSet.{contains}
use Rattle.std.specs.Ordering.{nat_cmp}
use Rattle.lx_auto.specs.declared.automaton.Held.{Held}
use Rattle.lx_auto.specs.declared.automaton.Held.TheVariants.{Reg, MReg}
use Rattle.lx_regs.specs.declared.held_sets.HeldSet.{HeldSet}

-- whether it is in the set
abbrev pub has : HeldSet → Held → Bool
has set (Reg reg) = contains nat_cmp set.regs reg
has set (MReg mreg) = contains nat_cmp set.mregs mreg

-- it is in the set
abbrev pub Has : HeldSet → Held → Type 0
Has set held = has set held ≡ true

-- whether both are one register or one m-register
abbrev pub is_same : (held other : Held) → Bool
is_same (Reg reg) (Reg other) = nat_eq reg other
is_same (MReg mreg) (MReg other) = nat_eq mreg other
is_same _ _ = false

-- one is added to the set
abbrev pub IsAdded : (before after : HeldSet) → Held → Type 0
IsAdded before after added = (held : Held) → has after held ≡ (has before held || is_same held added)
