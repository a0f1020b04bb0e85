-- Operations on registers that are there, and the ones that do the same one by one: m-register 0 is not written.
use Rattle.std.specs.Prelude.{◌≡◌, ℕ, zero, suc, List, [], ◌∷◌, ◌++◌, length, Option, Some, None, Bool, true, false, ◌||◌, nat_eq, refl, if◌then◌else◌}
use Rattle.std.proofs.Common.{subst, arith}
use Rattle.lx_auto.specs.Automaton.{AreOps, IsWritable}
use Rattle.lx_auto.specs.declared.ops.Op.{Op}
use Rattle.lx_auto.specs.declared.ops.Op.TheVariants.{Here, Null, MHere, MNull, MCopy}
use Rattle.lx_sequence.specs.ParallelCopies.{Copies, sources, is_in, read_from, unread_target, next_copies, in_sequence, writes, copies_into, unless_later, copies, marks, mcopies, added_marks, copy_ops, mcopy_ops, sequentialized}
use Rattle.lx_layout.proofs.Runs.OperationSteps.{ArePositive}

pub ArePositive-append : (a b : List Op) → ArePositive a → ArePositive b → ArePositive (a ++ b)
ArePositive-append [] b h g = g
ArePositive-append (op ∷ a) b h g = (h.0, ArePositive-append a b h.1 g)

ArePositive-copy_ops : (l : Copies) → ArePositive (copy_ops l)
ArePositive-copy_ops [] = tt
ArePositive-copy_ops (c ∷ l) = (tt, ArePositive-copy_ops l)

ArePositive-marks : (ops : List Op) → ArePositive (marks ops)
ArePositive-marks [] = tt
ArePositive-marks (Here t ∷ ops) = by (writes t ops) (ArePositive-marks ops)
  where
    by : (y : Bool) → ArePositive (marks ops) → ArePositive (unless_later y (Here t) (marks ops))
    by true h = h
    by false h = (tt, h)
ArePositive-marks (Null t ∷ ops) = by (writes t ops) (ArePositive-marks ops)
  where
    by : (y : Bool) → ArePositive (marks ops) → ArePositive (unless_later y (Null t) (marks ops))
    by true h = h
    by false h = (tt, h)
ArePositive-marks (_ ∷ ops) = ArePositive-marks ops

ArePositive-added_marks : (regs mregs : ℕ) (ops : List Op) → AreOps regs mregs ops → ArePositive (added_marks ops)
ArePositive-added_marks regs mregs [] are = tt
ArePositive-added_marks regs mregs (MHere t ∷ ops) are = (are.0.0, ArePositive-added_marks regs mregs ops are.1)
ArePositive-added_marks regs mregs (MNull t ∷ ops) are = (are.0.0, ArePositive-added_marks regs mregs ops are.1)
ArePositive-added_marks regs mregs (_ ∷ ops) are = ArePositive-added_marks regs mregs ops are.1

-- each target may be written
abbrev AreWritable : (mregs : ℕ) → Copies → Type 0
AreWritable mregs [] = Unit {0}
AreWritable mregs (c ∷ l) = IsWritable 0 mregs c.0 × AreWritable mregs l

AreWritable-mcopies : (regs mregs : ℕ) (ops : List Op) → AreOps regs mregs ops → AreWritable mregs (mcopies ops)
AreWritable-mcopies regs mregs [] are = tt
AreWritable-mcopies regs mregs (MCopy t s ∷ ops) are = by (nat_eq t s || copies_into t ops) (AreWritable-mcopies regs mregs ops are.1)
  where
    by : (y : Bool) → AreWritable mregs (mcopies ops) → AreWritable mregs (unless_later y (t, s) (mcopies ops))
    by true h = h
    by false h = (are.0.0, h)
AreWritable-mcopies regs mregs (_ ∷ ops) are = AreWritable-mcopies regs mregs ops are.1

AreWritable-append : (mregs : ℕ) (a b : Copies) → AreWritable mregs a → AreWritable mregs b → AreWritable mregs (a ++ b)
AreWritable-append mregs [] b h g = g
AreWritable-append mregs (c ∷ a) b h g = (h.0, AreWritable-append mregs a b h.1 g)

AreWritable-read_from : (mregs other old : ℕ) (l : Copies) → AreWritable mregs l → AreWritable mregs (read_from other old l)
AreWritable-read_from mregs other old [] h = tt
AreWritable-read_from mregs other old (c ∷ l) h = (h.0, AreWritable-read_from mregs other old l h.1)

AreWritable-found : (mregs : ℕ) (pre l : Copies) (found : (ℕ × ℕ) × Copies) → AreWritable mregs pre → AreWritable mregs l
    → unread_target pre l ≡ Some found → IsWritable 0 mregs found.0.0 × AreWritable mregs found.1
AreWritable-found mregs pre [] found h g e = absurd (cc)
AreWritable-found mregs pre (c ∷ l) found h g e =
    by (is_in c.0 (sources (pre ++ l))) e (λ z. AreWritable-found mregs (pre ++ c ∷ []) l found (AreWritable-append mregs pre (c ∷ []) h
    (g.0, tt)) g.1 z)
  where
    by : (t : Bool) → (if t then unread_target (pre ++ c ∷ []) l else Some (c, pre ++ l)) ≡ Some found
        → (unread_target (pre ++ c ∷ []) l ≡ Some found → IsWritable 0 mregs found.0.0 × AreWritable mregs found.1)
        → IsWritable 0 mregs found.0.0 × AreWritable mregs found.1
    by true z again = again z
    by false z again = subst (λ o. OfSome o) z (g.0, AreWritable-append mregs pre l h g.1)
      where
        OfSome : Option ((ℕ × ℕ) × Copies) → Type 0
        OfSome None = ⊥
        OfSome (Some f) = IsWritable 0 mregs f.0.0 × AreWritable mregs f.1

ArePositive-mcopy_ops : (count mregs : ℕ) (l : Copies) → AreWritable mregs l → ArePositive (mcopy_ops (in_sequence count mregs l))
ArePositive-mcopy_ops zero mregs l h = tt
ArePositive-mcopy_ops (suc count) mregs l h = by (unread_target [] l) refl l h (λ k g. ArePositive-mcopy_ops count mregs k g)
  where
    by : (o : Option ((ℕ × ℕ) × Copies)) → unread_target [] l ≡ o → (k : Copies) → AreWritable mregs k
        → ((k : Copies) → AreWritable mregs k → ArePositive (mcopy_ops (in_sequence count mregs k)))
        → ArePositive (mcopy_ops (next_copies mregs o k (in_sequence count mregs)))
    by (Some found) e k g again = let w = AreWritable-found mregs [] l found tt h e in (w.0.0, again found.1 w.1)
    by None e [] g again = tt
    by None e (c ∷ k) g again = (omega (arith, g.0.0, g.0.1), (g.0.0, again (read_from mregs c.0 k) (AreWritable-read_from mregs mregs c.0 k g.1)))

pub ArePositive-sequentialized : (regs mregs : ℕ) (ops : List Op) → AreOps regs mregs ops → ArePositive (sequentialized regs mregs ops)
ArePositive-sequentialized regs mregs ops are =
    ArePositive-append (copy_ops (in_sequence (length (copies ops)) regs (copies ops)))
    (marks ops ++ (mcopy_ops (in_sequence (length (mcopies ops)) mregs (mcopies ops)) ++ added_marks ops))
    (ArePositive-copy_ops (in_sequence (length (copies ops)) regs (copies ops)))
    (ArePositive-append (marks ops) (mcopy_ops (in_sequence (length (mcopies ops)) mregs (mcopies ops)) ++ added_marks ops) (ArePositive-marks ops)
    (ArePositive-append (mcopy_ops (in_sequence (length (mcopies ops)) mregs (mcopies ops))) (added_marks ops)
    (ArePositive-mcopy_ops (length (mcopies ops)) mregs (mcopies ops) (AreWritable-mcopies regs mregs ops are))
    (ArePositive-added_marks regs mregs ops are)))
