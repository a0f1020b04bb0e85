-- One operation more of a list, from its end.
use Rattle.std.proofs.Common.{◌≡◌, ◌⊎◌, inl, inr, ℕ, List, [], ◌∷◌, ◌++◌, Bool, true, false, not, ◌&&◌, ◌||◌, reverse, refl, sym, ap, ◌∙◌, subst}
use Rattle.std.proofs.lemmas.List.{reverse-append}
use Rattle.lx_auto.specs.declared.automaton.Held.TheVariants.{Reg, MReg}
use Rattle.lx_auto.specs.declared.ops.Op.{Op}
use Rattle.lx_auto.specs.declared.ops.Op.TheVariants.{Here, Null, Copy, MCopy}
use Rattle.lx_auto.specs.Effects.{copies_itself, is_overwritten, target_of}
use Rattle.lx_regs.specs.declared.held_sets.HeldSet.{HeldSet}
use Rattle.lx_regs.specs.Dead.{KeepsWanted, goes, stays}
use Rattle.lx_regs.specs.HeldSets.{Has, has}
use Rattle.lx_regs.specs.IdleOps.{is_idle}
use Rattle.lx_regs.specs.KeptLists.{AreWritten}

-- whether an operation writes what is wanted, and none behind it takes that away
abbrev pub stays_in : (wanted : HeldSet) → Op → (ops : List Op) → Bool
stays_in wanted op ops = has wanted (target_of op) && not (is_overwritten op ops)

-- whether an operation stays
abbrev pub acts_in : (wanted : HeldSet) → Op → (ops : List Op) → Bool
acts_in wanted op ops = has wanted (target_of op) && not (is_idle op ops)

neither : (wanted over itself : Bool) → ((wanted && not over) && not itself) ≡ (wanted && not (over || itself))
neither false over itself = refl
neither true false itself = refl
neither true true itself = refl

-- one that stays so far acts, unless it copies a register to itself
pub acts-is : (wanted : HeldSet) (op : Op) (ops : List Op) (last itself : Bool) → last ≡ stays_in wanted op ops → itself ≡ copies_itself op
    → (last && not itself) ≡ acts_in wanted op ops
acts-is wanted op ops last itself is copies =
    (λ i. is i && not (copies i)) ∙ neither (has wanted (target_of op)) (is_overwritten op ops) (copies_itself op)

module _ (wanted written : HeldSet) (ops : List Op) (are : AreWritten written ops) (is_wanted last : Bool) where
  pub copy-stays : (op : Op) (target source : ℕ) → op ≡ MCopy target source → is_wanted ≡ has wanted (MReg target)
      → last ≡ not (has written (MReg target)) → (is_wanted && last) ≡ stays_in wanted op ops
  copy-stays op target source is same same_last =
      subst (λ o. (is_wanted && last) ≡ stays_in wanted o ops) (sym is) (λ i. same i && (same_last ∙ ap not (are (MReg target))) i)

  pub set-stays : (op : Op) (target : ℕ) → (op ≡ Here target) ⊎ ((op ≡ Null target) ⊎ ((source : ℕ) × (op ≡ Copy target source)))
      → is_wanted ≡ has wanted (Reg target) → last ≡ not (has written (Reg target)) → (is_wanted && last) ≡ stays_in wanted op ops
  set-stays op target (inl is) same same_last =
      subst (λ o. (is_wanted && last) ≡ stays_in wanted o ops) (sym is) (λ i. same i && (same_last ∙ ap not (are (Reg target))) i)
  set-stays op target (inr (inl is)) same same_last =
      subst (λ o. (is_wanted && last) ≡ stays_in wanted o ops) (sym is) (λ i. same i && (same_last ∙ ap not (are (Reg target))) i)
  set-stays op target (inr (inr (source, is))) same same_last =
      subst (λ o. (is_wanted && last) ≡ stays_in wanted o ops) (sym is) (λ i. same i && (same_last ∙ ap not (are (Reg target))) i)

module _ (wanted : HeldSet) (op : Op) (ops kept : List Op) (keeps : KeepsWanted (Has wanted) ops (reverse kept)) where
  pub kept-stays : true ≡ acts_in wanted op ops → KeepsWanted (Has wanted) (op ∷ ops) (reverse (kept ++ op ∷ []))
  kept-stays is =
      subst (KeepsWanted (Has wanted) (op ∷ ops)) (sym (reverse-append kept (op ∷ [])))
      (stays op ops (reverse kept) (front (has wanted (target_of op)) (not (is_idle op ops)) is)
      (back (has wanted (target_of op)) (is_idle op ops) is) keeps)
    where
      front : (first second : Bool) → true ≡ (first && second) → first ≡ true
      front true second both = refl
      front false second both = sym both

      back : (first second : Bool) → true ≡ (first && not second) → second ≡ false
      back first false both = refl
      back true true both = both
      back false true both = absurd (cc both)

  pub kept-goes : false ≡ acts_in wanted op ops → KeepsWanted (Has wanted) (op ∷ ops) (reverse kept)
  kept-goes is = goes op ops (reverse kept) (over (has wanted (target_of op)) (is_idle op ops) is) keeps
    where
      over : (first second : Bool) → false ≡ (first && not second) → first ≡ true → second ≡ true
      over first true none wanted_here = refl
      over true false none wanted_here = none
      over false false none wanted_here = wanted_here
