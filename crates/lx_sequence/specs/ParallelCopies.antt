-- Operations that act at once, written as operations that act one by one, with one spare register of each sort.
use Rattle.std.specs.Prelude.{ℕ, zero, suc, List, [], ◌∷◌, ◌++◌, length, Option, Some, None, Bool, true, false, ◌||◌, nat_eq, if◌then◌else◌}
use Rattle.lx_auto.specs.declared.ops.Op.{Op}
use Rattle.lx_auto.specs.declared.ops.Op.TheVariants.{Here, Null, Copy, MHere, MNull, MCopy}

-- copies from one register into another: each is its target and its source
abbrev pub Copies : Type 0
Copies = List (ℕ × ℕ)

abbrev pub targets : Copies → List ℕ
targets [] = []
targets (copy ∷ copies) = copy.0 ∷ targets copies

abbrev pub sources : Copies → List ℕ
sources [] = []
sources (copy ∷ copies) = copy.1 ∷ sources copies

-- whether a number is in a list
abbrev pub is_in : ℕ → List ℕ → Bool
is_in number [] = false
is_in number (other ∷ others) = if nat_eq number other then true else is_in number others

-- ---- copies one by one

-- the copies, where what was held by one register is now held by another
abbrev pub read_from : (other : ℕ) → (old : ℕ) → Copies → Copies
read_from other old [] = []
read_from other old (copy ∷ copies) = (copy.0, if nat_eq copy.1 old then other else copy.1) ∷ read_from other old copies

-- the first copy into a register that no other copy reads, and the other copies
abbrev pub unread_target : (before : Copies) → Copies → Option ((ℕ × ℕ) × Copies)
unread_target before [] = None
unread_target before (copy ∷ behind) =
    if is_in copy.0 (sources (before ++ behind)) then unread_target (before ++ copy ∷ []) behind else Some (copy, before ++ behind)

-- first a copy into a register that no other copy reads; where there is none, the first target's content goes into the spare
abbrev pub next_copies : (spare : ℕ) → Option ((ℕ × ℕ) × Copies) → Copies → (Copies → Copies) → Copies
next_copies spare (Some found) copies onward = found.0 ∷ onward found.1
next_copies spare None [] onward = []
next_copies spare None (copy ∷ copies) onward = (spare, copy.0) ∷ copy ∷ onward (read_from spare copy.0 copies)

-- copies that do one by one what the given ones do at once; there are at most `count` of these
abbrev pub in_sequence : (count spare : ℕ) → Copies → Copies
in_sequence zero spare copies = []
in_sequence (suc count) spare copies = next_copies spare (unread_target [] copies) copies (in_sequence count spare)

-- ---- the parts of a list of operations

-- whether some operation of a list writes a register
abbrev pub writes : ℕ → List Op → Bool
writes reg [] = false
writes reg (Here target ∷ ops) = if nat_eq reg target then true else writes reg ops
writes reg (Null target ∷ ops) = if nat_eq reg target then true else writes reg ops
writes reg (Copy target source ∷ ops) = if nat_eq reg target then true else writes reg ops
writes reg (_ ∷ ops) = writes reg ops

-- whether some operation of a list copies into an m-register
abbrev pub copies_into : ℕ → List Op → Bool
copies_into mreg [] = false
copies_into mreg (MCopy target source ∷ ops) = if nat_eq mreg target then true else copies_into mreg ops
copies_into mreg (_ ∷ ops) = copies_into mreg ops

-- an element in front, unless a later one takes its place
abbrev pub unless_later : {A : Type 0} → Bool → A → List A → List A
unless_later true element list = list
unless_later false element list = element ∷ list

-- the copies between registers that count; one of a register to itself does nothing, but an earlier write still does not count
abbrev pub copies : List Op → Copies
copies [] = []
copies (Copy target source ∷ ops) = unless_later (nat_eq target source || writes target ops) (target, source) (copies ops)
copies (_ ∷ ops) = copies ops

-- the other writes to registers that count
abbrev pub marks : List Op → List Op
marks [] = []
marks (Here target ∷ ops) = unless_later (writes target ops) (Here target) (marks ops)
marks (Null target ∷ ops) = unless_later (writes target ops) (Null target) (marks ops)
marks (_ ∷ ops) = marks ops

-- the copies between m-registers that count, none to itself
abbrev pub mcopies : List Op → Copies
mcopies [] = []
mcopies (MCopy target source ∷ ops) = unless_later (nat_eq target source || copies_into target ops) (target, source) (mcopies ops)
mcopies (_ ∷ ops) = mcopies ops

-- what is put at the end of m-registers
abbrev pub added_marks : List Op → List Op
added_marks [] = []
added_marks (MHere target ∷ ops) = MHere target ∷ added_marks ops
added_marks (MNull target ∷ ops) = MNull target ∷ added_marks ops
added_marks (_ ∷ ops) = added_marks ops

abbrev pub copy_ops : Copies → List Op
copy_ops [] = []
copy_ops (copy ∷ copies) = Copy copy.0 copy.1 ∷ copy_ops copies

abbrev pub mcopy_ops : Copies → List Op
mcopy_ops [] = []
mcopy_ops (copy ∷ copies) = MCopy copy.0 copy.1 ∷ mcopy_ops copies

-- ---- the whole list

-- operations that do one by one what the given ones do at once, the spares aside
abbrev pub sequentialized : (spare mspare : ℕ) → List Op → List Op
sequentialized spare mspare ops =
    copy_ops (in_sequence (length (copies ops)) spare (copies ops))
    ++ (marks ops ++ (mcopy_ops (in_sequence (length (mcopies ops)) mspare (mcopies ops)) ++ added_marks ops))
