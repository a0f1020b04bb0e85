-- Operations one by one name the registers of the list and the spare.
use Rattle.std.specs.Prelude.{◌≡◌, ℕ, zero, suc, ◌<◌, ◌≤◌, List, [], ◌∷◌, ◌++◌, length, Option, Some, None, Bool, true, false, ◌||◌, nat_eq, refl, if◌then◌else◌}
use Rattle.std.proofs.Common.{ap, arith}
use Rattle.lx_auto.specs.Automaton.{AreOps}
use Rattle.lx_auto.specs.declared.ops.Op.{Op}
use Rattle.lx_auto.specs.declared.ops.Op.TheVariants.{Here, Null, Copy, MHere, MNull, MCopy}
use Rattle.lx_ccode.specs.declared.piece.Stmt.{Stmt}
use Rattle.lx_sequence.specs.ParallelCopies.{Copies, sources, is_in, read_from, unread_target, next_copies, in_sequence, writes, unless_later, copies, marks, mcopies, added_marks, copy_ops, mcopy_ops, sequentialized}
use Rattle.lx_layout.specs.Codes.{op_code, ops_code}
use Rattle.lx_layout.specs.Numbers.{AreBelow}

-- statements of operations, and then others
pub ops_code-append : (ops : List Op) (rest : List Stmt) → ops_code ops rest ≡ ops_code ops [] ++ rest
ops_code-append [] rest = refl
ops_code-append (op ∷ ops) rest = ap (λ l. op_code op ∷ l) (ops_code-append ops rest)

module _ (bound : ℕ) where
  -- the registers of copies are less than the bound
  abbrev Within : Copies → Type 0
  Within [] = Unit {0}
  Within (copy ∷ copies) = ((copy.0 < bound) × (copy.1 < bound)) × Within copies

  Within-append : (front back : Copies) → Within front → Within back → Within (front ++ back)
  Within-append [] back h g = g
  Within-append (copy ∷ front) back h g = (h.0, Within-append front back h.1 g)

  Within-read_from : (other old : ℕ) (list : Copies) → other < bound → Within list → Within (read_from other old list)
  Within-read_from other old [] lt h = tt
  Within-read_from other old (copy ∷ list) lt h = ((h.0.0, by (nat_eq copy.1 old) h.0.1), Within-read_from other old list lt h.1)
    where
      by : (b : Bool) → copy.1 < bound → (if b then other else copy.1) < bound
      by true less = lt
      by false less = less

  -- what is found, and what is left
  abbrev Found : Option ((ℕ × ℕ) × Copies) → Type 0
  Found None = Unit {0}
  Found (Some found) = ((found.0.0 < bound) × (found.0.1 < bound)) × Within found.1

  Found-unread_target : (before list : Copies) → Within before → Within list → Found (unread_target before list)
  Found-unread_target before [] h g = tt
  Found-unread_target before (copy ∷ list) h g =
      by (is_in copy.0 (sources (before ++ list))) (Found-unread_target (before ++ copy ∷ []) list (Within-append before (copy ∷ []) h (g.0, tt)) g.1)
    where
      by : (b : Bool) → Found (unread_target (before ++ copy ∷ []) list)
          → Found (if b then unread_target (before ++ copy ∷ []) list else Some (copy, before ++ list))
      by true later = later
      by false later = (g.0, Within-append before list h g.1)

  Within-in_sequence : (count spare : ℕ) (list : Copies) → spare < bound → Within list → Within (in_sequence count spare list)
  Within-in_sequence zero spare list lt h = tt
  Within-in_sequence (suc count) spare list lt h =
      by (unread_target [] list) list (Found-unread_target [] list tt h) h (λ some. λ w. Within-in_sequence count spare some lt w)
    where
      by : (found : Option ((ℕ × ℕ) × Copies)) (some : Copies) → Found found → Within some
          → ((others : Copies) → Within others → Within (in_sequence count spare others)) → Within (next_copies spare found some (in_sequence count spare))
      by (Some found) some f w again = (f.0, again found.1 f.1)
      by None [] f w again = tt
      by None (copy ∷ others) f w again =
          ((lt, w.0.0), (w.0, again (read_from spare copy.0 others) (Within-read_from spare copy.0 others lt w.1)))

  AreBelow-append : (front back : List Op) → AreBelow bound front → AreBelow bound back → AreBelow bound (front ++ back)
  AreBelow-append [] back h g = g
  AreBelow-append (op ∷ front) back h g = (h.0, AreBelow-append front back h.1 g)

  AreBelow-copy_ops : (list : Copies) → Within list → AreBelow bound (copy_ops list)
  AreBelow-copy_ops [] h = tt
  AreBelow-copy_ops (copy ∷ list) h = (h.0, AreBelow-copy_ops list h.1)

  AreBelow-mcopy_ops : (list : Copies) → AreBelow bound (mcopy_ops list)
  AreBelow-mcopy_ops [] = tt
  AreBelow-mcopy_ops (copy ∷ list) = (tt, AreBelow-mcopy_ops list)

  AreBelow-added_marks : (ops : List Op) → AreBelow bound (added_marks ops)
  AreBelow-added_marks [] = tt
  AreBelow-added_marks (MHere target ∷ ops) = (tt, AreBelow-added_marks ops)
  AreBelow-added_marks (MNull target ∷ ops) = (tt, AreBelow-added_marks ops)
  AreBelow-added_marks (_ ∷ ops) = AreBelow-added_marks ops

  AreBelow-marks : (ops : List Op) → AreBelow bound ops → AreBelow bound (marks ops)
  AreBelow-marks [] h = tt
  AreBelow-marks (Here target ∷ ops) h = by (writes target ops) (AreBelow-marks ops h.1)
    where
      by : (b : Bool) → AreBelow bound (marks ops) → AreBelow bound (unless_later b (Here target) (marks ops))
      by true g = g
      by false g = (h.0, g)
  AreBelow-marks (Null target ∷ ops) h = by (writes target ops) (AreBelow-marks ops h.1)
    where
      by : (b : Bool) → AreBelow bound (marks ops) → AreBelow bound (unless_later b (Null target) (marks ops))
      by true g = g
      by false g = (h.0, g)
  AreBelow-marks (_ ∷ ops) h = AreBelow-marks ops h.1

  Within-copies : (ops : List Op) → AreBelow bound ops → Within (copies ops)
  Within-copies [] h = tt
  Within-copies (Copy target source ∷ ops) h = by (nat_eq target source || writes target ops) (Within-copies ops h.1)
    where
      by : (b : Bool) → Within (copies ops) → Within (unless_later b (target, source) (copies ops))
      by true g = g
      by false g = (h.0, g)
  Within-copies (_ ∷ ops) h = Within-copies ops h.1

  pub AreBelow-sequentialized : (spare mspare : ℕ) (ops : List Op) → spare < bound → AreBelow bound ops → AreBelow bound (sequentialized spare mspare ops)
  AreBelow-sequentialized spare mspare ops lt h =
      AreBelow-append (copy_ops (in_sequence (length (copies ops)) spare (copies ops)))
      (marks ops ++ (mcopy_ops (in_sequence (length (mcopies ops)) mspare (mcopies ops)) ++ added_marks ops))
      (AreBelow-copy_ops (in_sequence (length (copies ops)) spare (copies ops)) (Within-in_sequence (length (copies ops)) spare (copies ops) lt (Within-copies ops h)))
      (AreBelow-append (marks ops) (mcopy_ops (in_sequence (length (mcopies ops)) mspare (mcopies ops)) ++ added_marks ops) (AreBelow-marks ops h)
      (AreBelow-append (mcopy_ops (in_sequence (length (mcopies ops)) mspare (mcopies ops))) (added_marks ops)
      (AreBelow-mcopy_ops (in_sequence (length (mcopies ops)) mspare (mcopies ops))) (AreBelow-added_marks ops)))

  -- the registers of an automaton
  pub AreOps-AreBelow : (regs mregs : ℕ) (ops : List Op) → regs ≤ bound → AreOps regs mregs ops → AreBelow bound ops
  AreOps-AreBelow regs mregs [] le h = tt
  AreOps-AreBelow regs mregs (Here target ∷ ops) le h = (omega (arith, h.0), AreOps-AreBelow regs mregs ops le h.1)
  AreOps-AreBelow regs mregs (Null target ∷ ops) le h = (omega (arith, h.0), AreOps-AreBelow regs mregs ops le h.1)
  AreOps-AreBelow regs mregs (Copy target source ∷ ops) le h =
      ((omega (arith, h.0.0), omega (arith, h.0.1)), AreOps-AreBelow regs mregs ops le h.1)
  AreOps-AreBelow regs mregs (MHere target ∷ ops) le h = (tt, AreOps-AreBelow regs mregs ops le h.1)
  AreOps-AreBelow regs mregs (MNull target ∷ ops) le h = (tt, AreOps-AreBelow regs mregs ops le h.1)
  AreOps-AreBelow regs mregs (MCopy target source ∷ ops) le h = (tt, AreOps-AreBelow regs mregs ops le h.1)
