-- Operations one by one name the m-registers of the list and the spare, and do not write m-register 0.
use Rattle.std.specs.Prelude.{ℕ, zero, suc, ◌<◌, ◌≤◌, List, [], ◌∷◌, ◌++◌, length, Option, Some, None, Bool, true, false, ◌||◌, nat_eq, if◌then◌else◌}
use Rattle.std.proofs.Common.{arith}
use Rattle.std.specs.List.{AllByRecursion}
use Rattle.lx_auto.specs.Automaton.{AreOps}
use Rattle.lx_auto.specs.declared.ops.Op.{Op}
use Rattle.lx_auto.specs.declared.ops.Op.TheVariants.{Here, Null, Copy, MHere, MNull, MCopy}
use Rattle.lx_sequence.specs.ParallelCopies.{Copies, sources, is_in, read_from, unread_target, next_copies, in_sequence, writes, copies_into, unless_later, copies, marks, mcopies, added_marks, copy_ops, mcopy_ops, sequentialized}
use Rattle.lx_layout.proofs.Operations.SequenceBounds.{AreBelow-sequentialized, AreOps-AreBelow}
use Rattle.lx_layout.proofs.Validity.EachElement.{each-append}
use Rattle.lx_layout.specs.Numbers.{AreBelow}

-- the m-registers of an operation are there, or the spare behind them
abbrev pub OwnHistories : (mregs : ℕ) → Op → Type 0
OwnHistories mregs (Here reg) = Unit {0}
OwnHistories mregs (Null reg) = Unit {0}
OwnHistories mregs (Copy reg source) = Unit {0}
OwnHistories mregs (MHere mreg) = (0 < mreg) × (mreg ≤ mregs)
OwnHistories mregs (MNull mreg) = (0 < mreg) × (mreg ≤ mregs)
OwnHistories mregs (MCopy mreg source) = ((0 < mreg) × (mreg ≤ mregs)) × (source ≤ mregs)

module _ (mregs : ℕ) where
  abbrev AreOwn : List Op → Type 0
  AreOwn ops = AllByRecursion (OwnHistories mregs) ops

  abbrev IsOwnCopy : ℕ × ℕ → Type 0
  IsOwnCopy copy = ((0 < copy.0) × (copy.0 ≤ mregs)) × (copy.1 ≤ mregs)

  abbrev OwnCopies : Copies → Type 0
  OwnCopies [] = Unit {0}
  OwnCopies (copy ∷ list) = IsOwnCopy copy × OwnCopies list

  own-append : (a b : Copies) → OwnCopies a → OwnCopies b → OwnCopies (a ++ b)
  own-append [] b h g = g
  own-append (copy ∷ a) b h g = (h.0, own-append a b h.1 g)

  own-copy_ops : (list : Copies) → AreOwn (copy_ops list)
  own-copy_ops [] = tt
  own-copy_ops (copy ∷ list) = (tt, own-copy_ops list)

  own-mcopy_ops : (list : Copies) → OwnCopies list → AreOwn (mcopy_ops list)
  own-mcopy_ops [] h = tt
  own-mcopy_ops (copy ∷ list) h = (h.0, own-mcopy_ops list h.1)

  own-marks : (ops : List Op) → AreOwn (marks ops)
  own-marks [] = tt
  own-marks (Here t ∷ ops) = by (writes t ops) (own-marks ops)
    where
      by : (y : Bool) → AreOwn (marks ops) → AreOwn (unless_later y (Here t) (marks ops))
      by true h = h
      by false h = (tt, h)
  own-marks (Null t ∷ ops) = by (writes t ops) (own-marks ops)
    where
      by : (y : Bool) → AreOwn (marks ops) → AreOwn (unless_later y (Null t) (marks ops))
      by true h = h
      by false h = (tt, h)
  own-marks (_ ∷ ops) = own-marks ops

  module _ (regs : ℕ) where
    own-added_marks : (ops : List Op) → AreOps regs mregs ops → AreOwn (added_marks ops)
    own-added_marks [] are = tt
    own-added_marks (MHere t ∷ ops) are = ((are.0.0, omega (arith, are.0.1)), own-added_marks ops are.1)
    own-added_marks (MNull t ∷ ops) are = ((are.0.0, omega (arith, are.0.1)), own-added_marks ops are.1)
    own-added_marks (_ ∷ ops) are = own-added_marks ops are.1

    own-mcopies : (ops : List Op) → AreOps regs mregs ops → OwnCopies (mcopies ops)
    own-mcopies [] are = tt
    own-mcopies (MCopy t s ∷ ops) are = by (nat_eq t s || copies_into t ops) (own-mcopies ops are.1)
      where
        by : (y : Bool) → OwnCopies (mcopies ops) → OwnCopies (unless_later y (t, s) (mcopies ops))
        by true h = h
        by false h = (((are.0.0.0, omega (arith, are.0.0.1)), omega (arith, are.0.1)), h)
    own-mcopies (_ ∷ ops) are = own-mcopies ops are.1

  own-read_from : (other old : ℕ) (list : Copies) → other ≤ mregs → OwnCopies list → OwnCopies (read_from other old list)
  own-read_from other old [] le h = tt
  own-read_from other old (copy ∷ list) le h = ((h.0.0, by (nat_eq copy.1 old)), own-read_from other old list le h.1)
    where
      by : (t : Bool) → (if t then other else copy.1) ≤ mregs
      by true = le
      by false = h.0.1

  abbrev OwnFound : Option ((ℕ × ℕ) × Copies) → Type 0
  OwnFound None = Unit {0}
  OwnFound (Some found) = IsOwnCopy found.0 × OwnCopies found.1

  own-found : (before list : Copies) → OwnCopies before → OwnCopies list → OwnFound (unread_target before list)
  own-found before [] h g = tt
  own-found before (copy ∷ list) h g =
      by (is_in copy.0 (sources (before ++ list))) (own-found (before ++ copy ∷ []) list (own-append before (copy ∷ []) h (g.0, tt)) g.1)
    where
      by : (t : Bool) → OwnFound (unread_target (before ++ copy ∷ []) list)
          → OwnFound (if t then unread_target (before ++ copy ∷ []) list else Some (copy, before ++ list))
      by true again = again
      by false again = (g.0, own-append before list h g.1)

  own-in_sequence : (count : ℕ) (list : Copies) → OwnCopies list → OwnCopies (in_sequence count mregs list)
  own-in_sequence zero list h = tt
  own-in_sequence (suc count) list h = by (unread_target [] list) list (own-found [] list tt h) h (λ some g. own-in_sequence count some g)
    where
      by : (o : Option ((ℕ × ℕ) × Copies)) (some : Copies) → OwnFound o → OwnCopies some
          → ((others : Copies) → OwnCopies others → OwnCopies (in_sequence count mregs others)) → OwnCopies (next_copies mregs o some (in_sequence count mregs))
      by (Some found) some f g again = (f.0, again found.1 f.1)
      by None [] f g again = tt
      by None (copy ∷ some) f g again =
          (((omega (arith, g.0.0.0, g.0.0.1), omega arith), g.0.0.1), (g.0, again (read_from mregs copy.0 some) (own-read_from mregs copy.0 some (omega arith) g.1)))

  pub own-sequentialized : (regs : ℕ) (ops : List Op) → AreOps regs mregs ops → AreOwn (sequentialized regs mregs ops)
  own-sequentialized regs ops are =
      each-append (OwnHistories mregs) (copy_ops (in_sequence (length (copies ops)) regs (copies ops)))
      (marks ops ++ (mcopy_ops (in_sequence (length (mcopies ops)) mregs (mcopies ops)) ++ added_marks ops))
      (own-copy_ops (in_sequence (length (copies ops)) regs (copies ops)))
      (each-append (OwnHistories mregs) (marks ops) (mcopy_ops (in_sequence (length (mcopies ops)) mregs (mcopies ops)) ++ added_marks ops) (own-marks ops)
      (each-append (OwnHistories mregs) (mcopy_ops (in_sequence (length (mcopies ops)) mregs (mcopies ops))) (added_marks ops)
      (own-mcopy_ops (in_sequence (length (mcopies ops)) mregs (mcopies ops))
      (own-in_sequence (length (mcopies ops)) (mcopies ops) (own-mcopies regs ops are)))
      (own-added_marks regs ops are)))

-- ---- both sorts

-- an operation names registers of an automaton, or the spare of its sort, and does not write m-register 0
abbrev pub IsOwnOp : (regs mregs : ℕ) → Op → Type 0
IsOwnOp regs mregs (Here reg) = reg ≤ regs
IsOwnOp regs mregs (Null reg) = reg ≤ regs
IsOwnOp regs mregs (Copy reg source) = (reg ≤ regs) × (source ≤ regs)
IsOwnOp regs mregs (MHere mreg) = (0 < mreg) × (mreg ≤ mregs)
IsOwnOp regs mregs (MNull mreg) = (0 < mreg) × (mreg ≤ mregs)
IsOwnOp regs mregs (MCopy mreg source) = ((0 < mreg) × (mreg ≤ mregs)) × (source ≤ mregs)

own-both : (regs mregs : ℕ) (ops : List Op) → AreBelow (suc regs) ops → AllByRecursion (OwnHistories mregs) ops → AllByRecursion (IsOwnOp regs mregs) ops
own-both regs mregs [] h g = tt
own-both regs mregs (Here r ∷ ops) h g = (omega (arith, h.0), own-both regs mregs ops h.1 g.1)
own-both regs mregs (Null r ∷ ops) h g = (omega (arith, h.0), own-both regs mregs ops h.1 g.1)
own-both regs mregs (Copy r s ∷ ops) h g = ((omega (arith, h.0.0), omega (arith, h.0.1)), own-both regs mregs ops h.1 g.1)
own-both regs mregs (MHere r ∷ ops) h g = (g.0, own-both regs mregs ops h.1 g.1)
own-both regs mregs (MNull r ∷ ops) h g = (g.0, own-both regs mregs ops h.1 g.1)
own-both regs mregs (MCopy r s ∷ ops) h g = (g.0, own-both regs mregs ops h.1 g.1)

pub own_ops : (regs mregs : ℕ) (ops : List Op) → AreOps regs mregs ops → AllByRecursion (IsOwnOp regs mregs) (sequentialized regs mregs ops)
own_ops regs mregs ops are =
    own-both regs mregs (sequentialized regs mregs ops)
    (AreBelow-sequentialized (suc regs) regs mregs ops (omega arith) (AreOps-AreBelow (suc regs) regs mregs ops (omega arith) are))
    (own-sequentialized mregs regs ops are)
