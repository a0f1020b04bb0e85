-- What stays of a list in ascending order, in which no operation takes away what an earlier one did.
use Rattle.std.proofs.Common.{◌≡◌, ℕ, suc, ◌<◌, ◌≤◌, List, [], ◌∷◌, ◌++◌, Bool, true, false, not, ◌&&◌, ◌||◌, refl, sym, ap, ◌∙◌, subst, append_assoc, arith}
use Rattle.std.specs.Prelude.{◌≢◌}
use Rattle.std.specs.List.{list_any}
use Rattle.std.proofs.lemmas.Bool.{ne_eqb}
use Rattle.lx_auto.specs.declared.ops.Op.{Op}
use Rattle.lx_auto.specs.declared.ops.Op.TheVariants.{Here, Null, Copy, MHere, MNull, MCopy}
use Rattle.lx_auto.specs.Effects.{copies_itself, is_overwritten, sets, target_of}
use Rattle.lx_regs.specs.declared.held_sets.HeldSet.{HeldSet}
use Rattle.lx_regs.specs.Dead.{KeepsWanted, goes, stays}
use Rattle.lx_regs.specs.HeldSets.{Has, has}
use Rattle.lx_regs.specs.IdleOps.{is_idle}
use Rattle.lx_regs.specs.OrderedOps.{AscendFrom, number_of}

-- an operation sets no register of another number
sets-other : (op : Op) (reg : ℕ) → reg ≢ number_of op → sets reg op ≡ false
sets-other (Here target) reg apart = ne_eqb reg target apart
sets-other (Null target) reg apart = ne_eqb reg target apart
sets-other (Copy target source) reg apart = ne_eqb reg target apart
sets-other (MHere target) reg apart = refl
sets-other (MNull target) reg apart = refl
sets-other (MCopy target source) reg apart = refl

-- registers below the least number are not set
unset-below : (least : ℕ) (ops : List Op) (reg : ℕ) → AscendFrom least ops → reg < least → list_any (sets reg) ops ≡ false
unset-below least [] reg order below = refl
unset-below least (op ∷ ops) reg order below =
    let from : least ≤ number_of op = order.1 in
    let first : sets reg op ≡ false = sets-other op reg (λ same. omega (arith, from, below, same)) in
    ap (λ b. b || list_any (sets reg) ops) first ∙ unset-below (suc (number_of op)) ops reg order.2 (omega (arith, from, below))

-- no later operation takes away what one did
pub is_overwritten-ascending : (least : ℕ) (op : Op) (ops : List Op) → AscendFrom least (op ∷ ops) → is_overwritten op ops ≡ false
is_overwritten-ascending least (Here target) ops order = unset-below (suc target) ops target order.2 (omega arith)
is_overwritten-ascending least (Null target) ops order = unset-below (suc target) ops target order.2 (omega arith)
is_overwritten-ascending least (Copy target source) ops order = unset-below (suc target) ops target order.2 (omega arith)
is_overwritten-ascending least (MHere target) ops order = refl
is_overwritten-ascending least (MNull target) ops order = refl
is_overwritten-ascending least (MCopy target source) ops order = absurd (cc order.0)

-- the later operations ascend, and what stays of them stays behind what was kept before
pub record KeepsOn (wanted : HeldSet) (ops kept later : List Op) : Type 0 where
  pub least : ℕ
  pub order : AscendFrom least later
  pub keeps : (rest : List Op) → KeepsWanted (Has wanted) later rest → KeepsWanted (Has wanted) ops (kept ++ rest)

-- what serves is wanted and no copy to itself
serves-both : (wanted itself : Bool) → (wanted && not itself) ≡ true → (wanted ≡ true) × (itself ≡ false)
serves-both true false is = (refl, refl)
serves-both true true is = absurd (cc is)
serves-both false itself is = absurd (cc is)

-- what is wanted and does not serve is a copy to itself
itself-else : (wanted itself : Bool) → (wanted && not itself) ≡ false → wanted ≡ true → itself ≡ true
itself-else true true is wants = refl
itself-else true false is wants = absurd (cc is)
itself-else false itself is wants = absurd (cc wants)

module _ (wanted : HeldSet) (ops kept : List Op) (op : Op) (later : List Op) (known : KeepsOn wanted ops kept (op ∷ later)) where
  -- only a copy to itself is idle
  idle : is_idle op later ≡ copies_itself op
  idle = ap (λ b. b || copies_itself op) (is_overwritten-ascending known.least op later known.order)

  pub on-stays : (has wanted (target_of op) && not (copies_itself op)) ≡ true → KeepsOn wanted ops (kept ++ op ∷ []) later
  on-stays serves =
      let both = serves-both (has wanted (target_of op)) (copies_itself op) serves in
      record {
        least = suc (number_of op);
        order = known.order.2;
        keeps = λ rest others. subst (KeepsWanted (Has wanted) ops) (sym (append_assoc kept (op ∷ []) rest))
            (known.keeps (op ∷ rest) (stays op later rest both.0 (idle ∙ both.1) others));
      }

  pub on-goes : (has wanted (target_of op) && not (copies_itself op)) ≡ false → KeepsOn wanted ops kept later
  on-goes serves = record {
    least = suc (number_of op);
    order = known.order.2;
    keeps = λ rest others. known.keeps rest
        (goes op later rest (λ wants. idle ∙ itself-else (has wanted (target_of op)) (copies_itself op) serves wants) others);
  }
