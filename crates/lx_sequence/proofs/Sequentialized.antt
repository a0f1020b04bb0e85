-- A list of operations at once, sequentialized: done one after another, with one spare register of each sort.
use Rattle.std.specs.Prelude.{◌≡◌, ◌≢◌, ℕ, ◌≤◌, List, [], ◌∷◌, ◌++◌, length, Bool, true, false, ◌||◌, nat_eq, refl, if◌then◌else◌}
use Rattle.std.proofs.Common.{sym, ap, ◌∙◌, arith, eq-eqb, true≢false}
use Rattle.lx_auto.specs.Automaton.{AreOps}
use Rattle.lx_auto.specs.Bank.{Bank, bank_after, history_added, history_copied}
use Rattle.lx_auto.specs.declared.ops.Op.{Op}
use Rattle.lx_auto.specs.declared.ops.Op.TheVariants.{Here, Null, Copy, MHere, MNull, MCopy}
use Rattle.lx_sequence.specs.ParallelCopies.{targets, in_sequence, writes, copies_into, unless_later, copies, marks, mcopies, added_marks, copy_ops, mcopy_ops, sequentialized}
use Rattle.lx_sequence.specs.Turns.{ActsOneByOne, after_op, after_ops}
use Rattle.lx_sequence.proofs.CopySequences.{Fresh, AllApart, at_once, each_copy-in_sequence}
use Rattle.lx_sequence.proofs.OpParts.{after_ops-append, after_ops-copy_ops, after_ops-mcopy_ops, after_ops-marks, after_ops-added_marks, marked, or_copy, at_once-or_copy, value_after-parts, history_copied-parts}

-- the spares are in no operation
abbrev pub Clear : ℕ → ℕ → Op → Type 0
Clear sp msp (Here t) = sp ≢ t
Clear sp msp (Null t) = sp ≢ t
Clear sp msp (Copy t s) = (sp ≢ t) × (sp ≢ s)
Clear sp msp (MHere t) = msp ≢ t
Clear sp msp (MNull t) = msp ≢ t
Clear sp msp (MCopy t s) = (msp ≢ t) × (msp ≢ s)

abbrev pub AllClear : ℕ → ℕ → List Op → Type 0
AllClear sp msp [] = Unit {0}
AllClear sp msp (o ∷ os) = Clear sp msp o × AllClear sp msp os

Fresh-copies : (t : ℕ) (os : List Op) → writes t os ≡ false → Fresh t (targets (copies os))
Fresh-copies t [] e = tt
Fresh-copies t (Here x ∷ os) e = by (nat_eq t x) e (λ h. Fresh-copies t os h)
  where
    by : (z : Bool) → (if z then true else writes t os) ≡ false → (writes t os ≡ false → Fresh t (targets (copies os)))
        → Fresh t (targets (copies os))
    by true h again = absurd (true≢false h)
    by false h again = again h
Fresh-copies t (Null x ∷ os) e = by (nat_eq t x) e (λ h. Fresh-copies t os h)
  where
    by : (z : Bool) → (if z then true else writes t os) ≡ false → (writes t os ≡ false → Fresh t (targets (copies os)))
        → Fresh t (targets (copies os))
    by true h again = absurd (true≢false h)
    by false h again = again h
Fresh-copies t (Copy x s ∷ os) e = by (nat_eq t x) refl (nat_eq x s || writes x os) e (λ h. Fresh-copies t os h)
  where
    by : (z : Bool) → nat_eq t x ≡ z → (y : Bool) → (if z then true else writes t os) ≡ false → (writes t os ≡ false → Fresh t (targets (copies os)))
        → Fresh t (targets (unless_later y (x, s) (copies os)))
    by true q y h again = absurd (true≢false h)
    by false q true h again = again h
    by false q false h again = (λ z. true≢false (sym (eq-eqb t x z) ∙ q), again h)
Fresh-copies t (MHere x ∷ os) e = Fresh-copies t os e
Fresh-copies t (MNull x ∷ os) e = Fresh-copies t os e
Fresh-copies t (MCopy x s ∷ os) e = Fresh-copies t os e

pub AllApart-copies : (os : List Op) → AllApart (targets (copies os))
AllApart-copies [] = tt
AllApart-copies (Copy x s ∷ os) = by (nat_eq x s) (writes x os) refl (AllApart-copies os)
  where
    by : (z y : Bool) → writes x os ≡ y → AllApart (targets (copies os)) → AllApart (targets (unless_later (z || y) (x, s) (copies os)))
    by true y q h = h
    by false true q h = h
    by false false q h = (Fresh-copies x os q, h)
AllApart-copies (_ ∷ os) = AllApart-copies os

Fresh-spare : (sp msp : ℕ) (os : List Op) → AllClear sp msp os → Fresh sp (targets (copies os))
Fresh-spare sp msp [] h = tt
Fresh-spare sp msp (Copy x s ∷ os) h = by (nat_eq x s || writes x os) (Fresh-spare sp msp os h.1)
  where
    by : (y : Bool) → Fresh sp (targets (copies os)) → Fresh sp (targets (unless_later y (x, s) (copies os)))
    by true g = g
    by false g = (h.0.0, g)
Fresh-spare sp msp (_ ∷ os) h = Fresh-spare sp msp os h.1

Fresh-mcopies : (t : ℕ) (os : List Op) → copies_into t os ≡ false → Fresh t (targets (mcopies os))
Fresh-mcopies t [] e = tt
Fresh-mcopies t (MCopy x s ∷ os) e = by (nat_eq t x) refl (nat_eq x s || copies_into x os) e (λ h. Fresh-mcopies t os h)
  where
    by : (z : Bool) → nat_eq t x ≡ z → (y : Bool) → (if z then true else copies_into t os) ≡ false
        → (copies_into t os ≡ false → Fresh t (targets (mcopies os))) → Fresh t (targets (unless_later y (x, s) (mcopies os)))
    by true q y h again = absurd (true≢false h)
    by false q true h again = again h
    by false q false h again = (λ z. true≢false (sym (eq-eqb t x z) ∙ q), again h)
Fresh-mcopies t (_ ∷ os) e = Fresh-mcopies t os e

pub AllApart-mcopies : (os : List Op) → AllApart (targets (mcopies os))
AllApart-mcopies [] = tt
AllApart-mcopies (MCopy x s ∷ os) = by (nat_eq x s) (copies_into x os) refl (AllApart-mcopies os)
  where
    by : (z y : Bool) → copies_into x os ≡ y → AllApart (targets (mcopies os)) → AllApart (targets (unless_later (z || y) (x, s) (mcopies os)))
    by true y q h = h
    by false true q h = h
    by false false q h = (Fresh-mcopies x os q, h)
AllApart-mcopies (_ ∷ os) = AllApart-mcopies os

Fresh-mspare : (sp msp : ℕ) (os : List Op) → AllClear sp msp os → Fresh msp (targets (mcopies os))
Fresh-mspare sp msp [] h = tt
Fresh-mspare sp msp (MCopy x s ∷ os) h = by (nat_eq x s || copies_into x os) (Fresh-mspare sp msp os h.1)
  where
    by : (y : Bool) → Fresh msp (targets (mcopies os)) → Fresh msp (targets (unless_later y (x, s) (mcopies os)))
    by true g = g
    by false g = (h.0.0, g)
Fresh-mspare sp msp (_ ∷ os) h = Fresh-mspare sp msp os h.1

mregs-marks : (at : ℕ) (os : List Op) (k : Bank) → (after_ops at (marks os) k).mregs ≡ k.mregs
mregs-marks at [] k = refl
mregs-marks at (Here t ∷ os) k = by (writes t os) (mregs-marks at os k) (mregs-marks at os (after_op at (Here t) k))
  where
    by : (y : Bool) → (after_ops at (marks os) k).mregs ≡ k.mregs → (after_ops at (marks os) (after_op at (Here t) k)).mregs ≡ k.mregs
        → (after_ops at (unless_later y (Here t) (marks os)) k).mregs ≡ k.mregs
    by true h g = h
    by false h g = g
mregs-marks at (Null t ∷ os) k = by (writes t os) (mregs-marks at os k) (mregs-marks at os (after_op at (Null t) k))
  where
    by : (y : Bool) → (after_ops at (marks os) k).mregs ≡ k.mregs → (after_ops at (marks os) (after_op at (Null t) k)).mregs ≡ k.mregs
        → (after_ops at (unless_later y (Null t) (marks os)) k).mregs ≡ k.mregs
    by true h g = h
    by false h g = g
mregs-marks at (_ ∷ os) k = mregs-marks at os k

module _ (sp msp at : ℕ) (os : List Op) (clear : AllClear sp msp os) (k : Bank) where
  copied : List Op
  copied = copy_ops (in_sequence (length (copies os)) sp (copies os))

  mcopied : List Op
  mcopied = mcopy_ops (in_sequence (length (mcopies os)) msp (mcopies os))

  parts : after_ops at (sequentialized sp msp os) k ≡ after_ops at (added_marks os)
      (after_ops at mcopied (after_ops at (marks os) (after_ops at copied k)))
  unfolding copied mcopied
  parts =
      after_ops-append at copied (marks os ++ (mcopied ++ added_marks os)) k
      ∙ after_ops-append at (marks os) (mcopied ++ added_marks os) (after_ops at copied k)
      ∙ after_ops-append at mcopied (added_marks os) (after_ops at (marks os) (after_ops at copied k))

  -- the registers
  pub regs-sequentialized : (r : ℕ) → r ≢ sp → (after_ops at (sequentialized sp msp os) k).regs r ≡ (bank_after at os k).regs r
  unfolding copied mcopied
  regs-sequentialized r ne =
      let k1 : Bank = after_ops at copied k in
      let k2 : Bank = after_ops at (marks os) k1 in
      let k3 : Bank = after_ops at mcopied k2 in
      let e1 : k1.regs r ≡ or_copy (copies os) k.regs r (k.regs r) = ap (λ z. z.regs r)
      (after_ops-copy_ops at (in_sequence (length (copies os)) sp (copies os)) k)
      ∙ each_copy-in_sequence (length (copies os)) sp (copies os) k.regs r (omega arith) (AllApart-copies os) (Fresh-spare sp msp os clear) ne
      ∙ at_once-or_copy (copies os) k.regs r in
      ap (λ z. z.regs r) parts
      ∙ (after_ops-added_marks at os k3 r).0
      ∙ ap (λ z. z.regs r) (after_ops-mcopy_ops at (in_sequence (length (mcopies os)) msp (mcopies os)) k2)
      ∙ (after_ops-marks at os k1 r).0
      ∙ ap (λ v. marked at (marks os) r v) e1
      ∙ sym (value_after-parts at k.regs r k.mregs os)

  -- the m-registers
  pub mregs-sequentialized : (r : ℕ) → r ≢ msp → (after_ops at (sequentialized sp msp os) k).mregs r ≡ (bank_after at os k).mregs r
  unfolding copied mcopied
  mregs-sequentialized r ne =
      let k1 : Bank = after_ops at copied k in
      let k2 : Bank = after_ops at (marks os) k1 in
      let k3 : Bank = after_ops at mcopied k2 in
      let e1 : k2.mregs ≡ k.mregs = mregs-marks at os k1 ∙ ap (λ z. z.mregs) (after_ops-copy_ops at (in_sequence (length (copies os)) sp
      (copies os)) k) in
      let e2 : k3.mregs r ≡ history_copied k os r (k.mregs r) = ap (λ z. z.mregs r)
      (after_ops-mcopy_ops at (in_sequence (length (mcopies os)) msp (mcopies os)) k2)
      ∙ each_copy-in_sequence (length (mcopies os)) msp (mcopies os) k2.mregs r (omega arith) (AllApart-mcopies os)
      (Fresh-mspare sp msp os clear) ne ∙ ap (λ g. at_once (mcopies os) g r) e1 ∙ at_once-or_copy (mcopies os) k.mregs r
      ∙ sym (history_copied-parts k.mregs r k.regs os) in
      ap (λ z. z.mregs r) parts ∙ (after_ops-added_marks at os k3 r).1 ∙ ap (λ l. l ++ history_added at os r) e2

-- spares behind the registers that are there are in no operation
pub AllClear-ops : (regs mregs sp msp : ℕ) → regs ≤ sp → mregs ≤ msp → (os : List Op) → AreOps regs mregs os → AllClear sp msp os
AllClear-ops regs mregs sp msp le mle [] are = tt
AllClear-ops regs mregs sp msp le mle (Here t ∷ os) are = ((λ e. omega (arith, le, are.0)), AllClear-ops regs mregs sp msp le mle os are.1)
AllClear-ops regs mregs sp msp le mle (Null t ∷ os) are = ((λ e. omega (arith, le, are.0)), AllClear-ops regs mregs sp msp le mle os are.1)
AllClear-ops regs mregs sp msp le mle (Copy t s ∷ os) are =
    (((λ e. omega (arith, le, are.0.0)), (λ e. omega (arith, le, are.0.1))), AllClear-ops regs mregs sp msp le mle os are.1)
AllClear-ops regs mregs sp msp le mle (MHere t ∷ os) are =
    ((λ e. omega (arith, mle, are.0.1)), AllClear-ops regs mregs sp msp le mle os are.1)
AllClear-ops regs mregs sp msp le mle (MNull t ∷ os) are =
    ((λ e. omega (arith, mle, are.0.1)), AllClear-ops regs mregs sp msp le mle os are.1)
AllClear-ops regs mregs sp msp le mle (MCopy t s ∷ os) are =
    (((λ e. omega (arith, mle, are.0.0.1)), (λ e. omega (arith, mle, are.0.1))), AllClear-ops regs mregs sp msp le mle os are.1)

pub ActsOneByOne-sequentialized : (sp msp : ℕ) (os : List Op) → ActsOneByOne sp msp (sequentialized sp msp os) os
ActsOneByOne-sequentialized sp msp os =
    λ regs mregs are le mle at k.
    let clear = AllClear-ops regs mregs sp msp le mle os are in
    record { registers = regs-sequentialized sp msp at os clear k; histories = mregs-sequentialized sp msp at os clear k }
