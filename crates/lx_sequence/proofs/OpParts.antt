-- A list of operations at once is its copies, then its other writes; and what the parts do one by one.
use Rattle.std.specs.Prelude.{◌≡◌, ℕ, List, [], ◌∷◌, ◌++◌, Option, Some, None, Bool, true, false, ◌||◌, nat_eq, refl, if◌then◌else◌}
use Rattle.std.proofs.Common.{sym, ap, ◌∙◌, eqb-true, true≢false, append_assoc, append-nil}
use Rattle.lx_auto.specs.Bank.{Bank, history_added, history_copied, value_after}
use Rattle.lx_auto.specs.declared.ops.Op.{Op}
use Rattle.lx_auto.specs.declared.ops.Op.TheVariants.{Here, Null, Copy, MHere, MNull, MCopy}
use Rattle.lx_sequence.specs.ParallelCopies.{Copies, writes, copies_into, unless_later, copies, marks, mcopies, added_marks, copy_ops, mcopy_ops}
use Rattle.lx_sequence.specs.Turns.{after_op, after_ops}
use Rattle.lx_sequence.proofs.CopySequences.{at_once, each_copy}

-- one by one over a joined list
pub after_ops-append : (at : ℕ) (a b : List Op) (k : Bank) → after_ops at (a ++ b) k ≡ after_ops at b (after_ops at a k)
after_ops-append at [] b k = refl
after_ops-append at (o ∷ a) b k = after_ops-append at a b (after_op at o k)

pub after_ops-copy_ops : (at : ℕ) (l : Copies) (k : Bank) → after_ops at (copy_ops l) k ≡ record { regs = each_copy l k.regs; mregs = k.mregs }
after_ops-copy_ops at [] k = refl
after_ops-copy_ops at (c ∷ l) k = after_ops-copy_ops at l (after_op at (Copy c.0 c.1) k)

pub after_ops-mcopy_ops : (at : ℕ) (l : Copies) (k : Bank) → after_ops at (mcopy_ops l) k ≡ record { regs = k.regs; mregs = each_copy l k.mregs }
after_ops-mcopy_ops at [] k = refl
after_ops-mcopy_ops at (c ∷ l) k = after_ops-mcopy_ops at l (after_op at (MCopy c.0 c.1) k)

-- the writes that are no copies
abbrev pub marked : ℕ → List Op → ℕ → Option ℕ → Option ℕ
marked at [] r v = v
marked at (Here t ∷ os) r v = marked at os r (if nat_eq r t then Some at else v)
marked at (Null t ∷ os) r v = marked at os r (if nat_eq r t then None else v)
marked at (_ ∷ os) r v = marked at os r v

pub after_ops-marks : (at : ℕ) (os : List Op) (k : Bank) (r : ℕ)
    → ((after_ops at (marks os) k).regs r ≡ marked at (marks os) r (k.regs r)) × ((after_ops at (marks os) k).mregs r ≡ k.mregs r)
after_ops-marks at [] k r = (refl, refl)
after_ops-marks at (Here t ∷ os) k r = by (writes t os) (after_ops-marks at os k r) (after_ops-marks at os (after_op at (Here t) k) r)
  where
    by : (z : Bool) → ((after_ops at (marks os) k).regs r ≡ marked at (marks os) r (k.regs r)) × ((after_ops at (marks os) k).mregs r ≡ k.mregs r)
        → ((after_ops at (marks os) (after_op at (Here t) k)).regs r ≡ marked at (marks os) r ((after_op at (Here t) k).regs r)) ×
        ((after_ops at (marks os) (after_op at (Here t) k)).mregs r ≡ k.mregs r)
        → ((after_ops at (unless_later z (Here t) (marks os)) k).regs r ≡ marked at (unless_later z (Here t) (marks os)) r (k.regs r)) ×
        ((after_ops at (unless_later z (Here t) (marks os)) k).mregs r ≡ k.mregs r)
    by true h g = h
    by false h g = g
after_ops-marks at (Null t ∷ os) k r = by (writes t os) (after_ops-marks at os k r) (after_ops-marks at os (after_op at (Null t) k) r)
  where
    by : (z : Bool) → ((after_ops at (marks os) k).regs r ≡ marked at (marks os) r (k.regs r)) × ((after_ops at (marks os) k).mregs r ≡ k.mregs r)
        → ((after_ops at (marks os) (after_op at (Null t) k)).regs r ≡ marked at (marks os) r ((after_op at (Null t) k).regs r)) ×
        ((after_ops at (marks os) (after_op at (Null t) k)).mregs r ≡ k.mregs r)
        → ((after_ops at (unless_later z (Null t) (marks os)) k).regs r ≡ marked at (unless_later z (Null t) (marks os)) r (k.regs r)) ×
        ((after_ops at (unless_later z (Null t) (marks os)) k).mregs r ≡ k.mregs r)
    by true h g = h
    by false h g = g
after_ops-marks at (Copy t s ∷ os) k r = after_ops-marks at os k r
after_ops-marks at (MHere t ∷ os) k r = after_ops-marks at os k r
after_ops-marks at (MNull t ∷ os) k r = after_ops-marks at os k r
after_ops-marks at (MCopy t s ∷ os) k r = after_ops-marks at os k r

pub after_ops-added_marks : (at : ℕ) (os : List Op) (k : Bank) (r : ℕ)
    → ((after_ops at (added_marks os) k).regs r ≡ k.regs r) × ((after_ops at (added_marks os) k).mregs r ≡ k.mregs r ++ history_added at os r)
after_ops-added_marks at [] k r = (refl, sym (append-nil (k.mregs r)))
after_ops-added_marks at (Here t ∷ os) k r = after_ops-added_marks at os k r
after_ops-added_marks at (Null t ∷ os) k r = after_ops-added_marks at os k r
after_ops-added_marks at (Copy t s ∷ os) k r = after_ops-added_marks at os k r
after_ops-added_marks at (MCopy t s ∷ os) k r = after_ops-added_marks at os k r
after_ops-added_marks at (MHere t ∷ os) k r =
    let h = after_ops-added_marks at os (after_op at (MHere t) k) r in
    (h.0, h.1 ∙ by (nat_eq r t) refl)
  where
    by : (z : Bool) → nat_eq r t ≡ z → (if z then k.mregs t ++ Some at ∷ [] else k.mregs r) ++ history_added at os r ≡ k.mregs r ++
        ((if z then Some at ∷ [] else []) ++ history_added at os r)
    by true e = append_assoc (k.mregs t) (Some at ∷ []) (history_added at os r)
        ∙ ap (λ y. k.mregs y ++ (Some at ∷ history_added at os r)) (sym (eqb-true r t e))
    by false e = refl
after_ops-added_marks at (MNull t ∷ os) k r =
    let h = after_ops-added_marks at os (after_op at (MNull t) k) r in
    (h.0, h.1 ∙ by (nat_eq r t) refl)
  where
    by : (z : Bool) → nat_eq r t ≡ z → (if z then k.mregs t ++ None ∷ [] else k.mregs r) ++ history_added at os r ≡ k.mregs r ++
        ((if z then None ∷ [] else []) ++ history_added at os r)
    by true e = append_assoc (k.mregs t) (None ∷ []) (history_added at os r)
        ∙ ap (λ y. k.mregs y ++ (None ∷ history_added at os r)) (sym (eqb-true r t e))
    by false e = refl

-- with a default
abbrev pub or_copy : {A : Type 0} → Copies → (ℕ → A) → ℕ → A → A
or_copy [] f r v = v
or_copy (c ∷ l) f r v = if nat_eq r c.0 then f c.1 else or_copy l f r v

pub at_once-or_copy : {A : Type 0} (l : Copies) (f : ℕ → A) (r : ℕ) → at_once l f r ≡ or_copy l f r (f r)
at_once-or_copy [] f r = refl
at_once-or_copy (c ∷ l) f r = ap (λ z. if nat_eq r c.0 then f c.1 else z) (at_once-or_copy l f r)

module _ (at : ℕ) (f : ℕ → Option ℕ) (r : ℕ) where
  abbrev value : List Op → Option ℕ
  value os = marked at (marks os) r (or_copy (copies os) f r (f r))

  module _ (g : ℕ → List (Option ℕ)) where
    abbrev after : List Op → Option ℕ → Option ℕ
    after os v = value_after (record { regs = f; mregs = g }) at os r v

    -- a register that is written loses what it holds
    written : (os : List Op) (put v w : Option ℕ) (z : Bool) → (if z then true else writes r os) ≡ true
        → (writes r os ≡ true → after os v ≡ after os w) → after os (if z then put else v) ≡ after os (if z then put else w)
    written os put v w true h again = refl
    written os put v w false h again = again h

    after-written : (os : List Op) (v w : Option ℕ) → writes r os ≡ true → after os v ≡ after os w
    after-written [] v w e = absurd (true≢false (sym e))
    after-written (Here t ∷ os) v w e = written os (Some at) v w (nat_eq r t) e (λ h. after-written os v w h)
    after-written (Null t ∷ os) v w e = written os None v w (nat_eq r t) e (λ h. after-written os v w h)
    after-written (Copy t s ∷ os) v w e = written os (f s) v w (nat_eq r t) e (λ h. after-written os v w h)
    after-written (MHere t ∷ os) v w e = after-written os v w e
    after-written (MNull t ∷ os) v w e = after-written os v w e
    after-written (MCopy t s ∷ os) v w e = after-written os v w e

    -- one that is not written keeps it
    unwritten : (os : List Op) (put v : Option ℕ) (z : Bool) → (if z then true else writes r os) ≡ false
        → (writes r os ≡ false → after os v ≡ v) → after os (if z then put else v) ≡ v
    unwritten os put v true h again = absurd (true≢false h)
    unwritten os put v false h again = again h

    after-unwritten : (os : List Op) (v : Option ℕ) → writes r os ≡ false → after os v ≡ v
    after-unwritten [] v e = refl
    after-unwritten (Here t ∷ os) v e = unwritten os (Some at) v (nat_eq r t) e (λ h. after-unwritten os v h)
    after-unwritten (Null t ∷ os) v e = unwritten os None v (nat_eq r t) e (λ h. after-unwritten os v h)
    after-unwritten (Copy t s ∷ os) v e = unwritten os (f s) v (nat_eq r t) e (λ h. after-unwritten os v h)
    after-unwritten (MHere t ∷ os) v e = after-unwritten os v e
    after-unwritten (MNull t ∷ os) v e = after-unwritten os v e
    after-unwritten (MCopy t s ∷ os) v e = after-unwritten os v e

  -- an operation that puts something into a register
  abbrev Puts : ℕ → Op → Option ℕ → List Op → Type 0
  Puts t op put os = (v : Option ℕ) → marked at (op ∷ marks os) r v ≡ marked at (marks os) r (if nat_eq r t then put else v)

  mark-unwritten : (t : ℕ) (op : Op) (put v : Option ℕ) (os : List Op) → Puts t op put os → (z : Bool) → nat_eq r t ≡ z → (y : Bool)
      → (if z then true else writes r os) ≡ false → (writes r os ≡ false → marked at (marks os) r v ≡ v)
      → marked at (unless_later y op (marks os)) r v ≡ v
  mark-unwritten t op put v os puts true q y h again = absurd (true≢false h)
  mark-unwritten t op put v os puts false q true h again = again h
  mark-unwritten t op put v os puts false q false h again =
      puts v ∙ ap (λ z. marked at (marks os) r (if z then put else v)) q ∙ again h

  marked-unwritten : (os : List Op) (v : Option ℕ) → writes r os ≡ false → marked at (marks os) r v ≡ v
  marked-unwritten [] v e = refl
  marked-unwritten (Here t ∷ os) v e =
      mark-unwritten t (Here t) (Some at) v os (λ w. refl) (nat_eq r t) refl (writes t os) e (λ h. marked-unwritten os v h)
  marked-unwritten (Null t ∷ os) v e =
      mark-unwritten t (Null t) None v os (λ w. refl) (nat_eq r t) refl (writes t os) e (λ h. marked-unwritten os v h)
  marked-unwritten (Copy t s ∷ os) v e = by (nat_eq r t) e (λ h. marked-unwritten os v h)
    where
      by : (z : Bool) → (if z then true else writes r os) ≡ false → (writes r os ≡ false → marked at (marks os) r v ≡ v) → marked at (marks os) r v ≡ v
      by true h again = absurd (true≢false h)
      by false h again = again h
  marked-unwritten (MHere t ∷ os) v e = marked-unwritten os v e
  marked-unwritten (MNull t ∷ os) v e = marked-unwritten os v e
  marked-unwritten (MCopy t s ∷ os) v e = marked-unwritten os v e

  module _ (g : ℕ → List (Option ℕ)) where
    mark-parts : (t : ℕ) (op : Op) (put : Option ℕ) (os : List Op) → Puts t op put os → (z : Bool) → nat_eq r t ≡ z → (y : Bool) → writes t os ≡ y
        → after g os (f r) ≡ value os
        → after g os (if z then put else f r) ≡ marked at (unless_later y op (marks os)) r (or_copy (copies os) f r (f r))
    mark-parts t op put os puts true q true y again = after-written g os put (f r) (ap (λ n. writes n os) (eqb-true r t q) ∙ y) ∙ again
    mark-parts t op put os puts true q false y again =
        let none = ap (λ n. writes n os) (eqb-true r t q) ∙ y in
        let v = or_copy (copies os) f r (f r) in
        after-unwritten g os put none
        ∙ sym (puts v ∙ ap (λ z. marked at (marks os) r (if z then put else v)) q ∙ marked-unwritten os put none)
    mark-parts t op put os puts false q true y again = again
    mark-parts t op put os puts false q false y again =
        let v = or_copy (copies os) f r (f r) in
        again ∙ sym (puts v ∙ ap (λ z. marked at (marks os) r (if z then put else v)) q)

    -- what a register holds after all at once: the copies, then the other writes
    pub value_after-parts : (os : List Op) → after g os (f r) ≡ value os
    value_after-parts [] = refl
    value_after-parts (Here t ∷ os) =
        mark-parts t (Here t) (Some at) os (λ w. refl) (nat_eq r t) refl (writes t os) refl (value_after-parts os)
    value_after-parts (Null t ∷ os) =
        mark-parts t (Null t) None os (λ w. refl) (nat_eq r t) refl (writes t os) refl (value_after-parts os)
    value_after-parts (Copy t s ∷ os) = by (nat_eq r t) refl (nat_eq t s) refl (writes t os) refl (value_after-parts os)
      where
        by : (z : Bool) → nat_eq r t ≡ z → (x : Bool) → nat_eq t s ≡ x → (y : Bool) → writes t os ≡ y → after g os (f r) ≡ value os
            → after g os (if z then f s else f r) ≡ marked at (marks os) r (or_copy (unless_later (x || y) (t, s) (copies os)) f r (f r))
        by true q true x y w again = ap (λ n. after g os (f n)) (sym (eqb-true r t q ∙ eqb-true t s x)) ∙ again
        by true q false x true w again = after-written g os (f s) (f r) (ap (λ n. writes n os) (eqb-true r t q) ∙ w) ∙ again
        by true q false x false w again =
            let none = ap (λ n. writes n os) (eqb-true r t q) ∙ w in
            after-unwritten g os (f s) none
            ∙ sym (ap (λ z. marked at (marks os) r (if z then f s else or_copy (copies os) f r (f r))) q ∙ marked-unwritten os (f s) none)
        by false q true x y w again = again
        by false q false x true w again = again
        by false q false x false w again = again ∙ sym (ap (λ z. marked at (marks os) r (if z then f s else or_copy (copies os) f r (f r))) q)
    value_after-parts (MHere t ∷ os) = value_after-parts os
    value_after-parts (MNull t ∷ os) = value_after-parts os
    value_after-parts (MCopy t s ∷ os) = value_after-parts os

module _ (g : ℕ → List (Option ℕ)) (r : ℕ) (f : ℕ → Option ℕ) where
  abbrev copied : List Op → List (Option ℕ) → List (Option ℕ)
  copied os v = history_copied (record { regs = f; mregs = g }) os r v

  copied-over : (os : List Op) (v w : List (Option ℕ)) → copies_into r os ≡ true → copied os v ≡ copied os w
  copied-over [] v w e = absurd (true≢false (sym e))
  copied-over (MCopy t s ∷ os) v w e = by (nat_eq r t) e (λ h. copied-over os v w h)
    where
      by : (z : Bool) → (if z then true else copies_into r os) ≡ true → (copies_into r os ≡ true → copied os v ≡ copied os w)
          → copied os (if z then g s else v) ≡ copied os (if z then g s else w)
      by true h again = refl
      by false h again = again h
  copied-over (_ ∷ os) v w e = copied-over os v w e

  copied-kept : (os : List Op) (v : List (Option ℕ)) → copies_into r os ≡ false → copied os v ≡ v
  copied-kept [] v e = refl
  copied-kept (MCopy t s ∷ os) v e = by (nat_eq r t) e (λ h. copied-kept os v h)
    where
      by : (z : Bool) → (if z then true else copies_into r os) ≡ false → (copies_into r os ≡ false → copied os v ≡ v)
          → copied os (if z then g s else v) ≡ v
      by true h again = absurd (true≢false h)
      by false h again = again h
  copied-kept (_ ∷ os) v e = copied-kept os v e

  pub history_copied-parts : (os : List Op) → copied os (g r) ≡ or_copy (mcopies os) g r (g r)
  history_copied-parts [] = refl
  history_copied-parts (MCopy t s ∷ os) = by (nat_eq r t) refl (nat_eq t s) refl (copies_into t os) refl (history_copied-parts os)
    where
      by : (z : Bool) → nat_eq r t ≡ z → (x : Bool) → nat_eq t s ≡ x → (y : Bool) → copies_into t os ≡ y
          → copied os (g r) ≡ or_copy (mcopies os) g r (g r)
          → copied os (if z then g s else g r) ≡ or_copy (unless_later (x || y) (t, s) (mcopies os)) g r (g r)
      by true q true x y w again = ap (λ n. copied os (g n)) (sym (eqb-true r t q ∙ eqb-true t s x)) ∙ again
      by true q false x true w again = copied-over os (g s) (g r) (ap (λ n. copies_into n os) (eqb-true r t q) ∙ w) ∙ again
      by true q false x false w again =
          copied-kept os (g s) (ap (λ n. copies_into n os) (eqb-true r t q) ∙ w)
          ∙ sym (ap (λ z. if z then g s else or_copy (mcopies os) g r (g r)) q)
      by false q true x y w again = again
      by false q false x true w again = again
      by false q false x false w again = again ∙ sym (ap (λ z. if z then g s else or_copy (mcopies os) g r (g r)) q)
  history_copied-parts (_ ∷ os) = history_copied-parts os
