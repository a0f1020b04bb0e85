-- What definitions see of copies in the code.
use Rattle.std.specs.Prelude.{◌≡◌, ℕ, List, map, true, nat_eq, if◌then◌else◌, reverse}
use Rattle.std.specs.BTreeSet.{BTreeSet, contains}
use Rattle.std.specs.Ordering.{nat_cmp}
use Rattle.lx_auto.specs.declared.ops.Op.{Op}
use Rattle.lx_sequence.specs.ParallelCopies.{Copies, copies, copies_into, marks, mcopies, writes}
use Rattle.lx_sequence.specs.declared.copy_sequences.CopyOp.{CopyOp}

-- a copy as its target and its source
abbrev pub seen_copy : CopyOp → ℕ × ℕ
seen_copy copy = (copy.target, copy.source)

abbrev pub seen_copies : List CopyOp → Copies
seen_copies copies = map seen_copy copies

-- a register is added to the registers that were noted
abbrev pub IsNoted : (before after : BTreeSet ℕ) → (reg : ℕ) → Type 0
IsNoted before after reg = (other : ℕ) → contains nat_cmp after other ≡ (if nat_eq other reg then true else contains nat_cmp before other)

-- what operations write, and the copies of them that count, the last one first
abbrev pub AreCopiesBehind : (written : BTreeSet ℕ) → List CopyOp → List Op → Type 0
AreCopiesBehind written list ops = ((reg : ℕ) → contains nat_cmp written reg ≡ writes reg ops) × (seen_copies (reverse list) ≡ copies ops)

-- and so for m-registers
abbrev pub AreMCopiesBehind : (written : BTreeSet ℕ) → List CopyOp → List Op → Type 0
AreMCopiesBehind written list ops = ((mreg : ℕ) → contains nat_cmp written mreg ≡ copies_into mreg ops) × (seen_copies (reverse list) ≡ mcopies ops)

-- what operations write, and the other writes that count, the last one first
abbrev pub AreMarksBehind : (written : BTreeSet ℕ) → List Op → List Op → Type 0
AreMarksBehind written list ops = ((reg : ℕ) → contains nat_cmp written reg ≡ writes reg ops) × (reverse list ≡ marks ops)
