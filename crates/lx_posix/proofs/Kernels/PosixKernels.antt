-- Kernels under the POSIX order by lengths are those under the order by recursion; a word has at most one; and two with the
-- same places and numbers go on alike.
use Rattle.lx_posix.specs.Numbers.{PosixPrecedes}
use Rattle.lx_posix.proofs.Orders.Ordered.{Earlier}
use Rattle.lx_posix.specs.KernelSteps.{IsStepOf, Pairs, Source, Stem}
use Rattle.lx_posix.specs.Walks.{after}
use Rattle.lx_posix.specs.PosixKernel.{IsPosixKernel, IsSameKernel}
use Rattle.std.specs.Prelude.{◌≡◌, ◌≢◌, ℕ, List, [], ◌∷◌, ◌++◌, Some, slice_get, refl}
use Rattle.std.proofs.Common.{sym, ap₂, ◌∙◌, subst, inl, inr, ⊎_elim}
use Rattle.lx_base.specs.declared.settings.Enc.{Enc}
use Rattle.lx_regex.specs.Term.{Term}
use Rattle.lx_regex.specs.Cut.{Cut, IsCut, SamePlace}
use Rattle.lx_regex.specs.Kernel.{IsKernel, SamePlaces}
use Rattle.lx_posix.proofs.Orders.CutOrder.{before_total}
use Rattle.lx_posix.proofs.Kernels.KernelStep.{earlier_asym, step_source}
use Rattle.lx_posix.proofs.Kernels.KernelFromWalks.{kernel_from_walks}
use Rattle.lx_posix.proofs.Counted.NumbersOfCuts.{first_of, before_of}
use Rattle.lx_posix.proofs.Kernels.PairedLists.{Member, pair_up, pairs_there, pairs_back, pairs_by}
use Rattle.lx_posix.proofs.Kernels.WholeStep.{whole_step, kernel_first}

pub none : (x : ℕ) (w : List ℕ) → x ∷ w ≡ [] → ⊥
none x w e = cc

module _ (enc : Enc) (rules : List Term) where
  pub earlier_to : (w : List ℕ) (j k : Cut) → IsCut enc rules w j → IsCut enc rules w k → Earlier enc rules j k → PosixPrecedes enc rules j k
  earlier_to w j k ij ik h = ⊎_elim (λ lt. inl lt) (λ b. inr (b.0, first_of enc rules w j k b.0 ij ik b.1)) h

  pub earlier_from : (w : List ℕ) (j k : Cut) → IsCut enc rules w j → IsCut enc rules w k → PosixPrecedes enc rules j k → Earlier enc rules j k
  earlier_from w j k ij ik h = ⊎_elim (λ lt. inl lt) (λ b. inr (b.0, before_of enc rules w j k b.0 ij ik b.1)) h

  pub to_posix : (x : ℕ) (w : List ℕ) (ks : List Cut) → IsKernel (Earlier enc rules) enc rules (x ∷ w) ks
      → IsPosixKernel enc rules (x ∷ w) ks
  to_posix x w ks kernel = record {
    start = λ e. absurd (none x w e);
    cuts = λ i cut ne at. kernel.cuts i cut ne at;
    every = λ cut ne is.
        let r = kernel.every cut ne is in
        (r.0, r.1, r.2, r.3, λ h. r.4 (earlier_from (x ∷ w) cut r.1 is (kernel.cuts r.0 r.1 ne r.2) h));
    ordered = λ i j cut other lt at at'.
        let r = kernel.ordered i j cut other lt at at' in
        (earlier_to (x ∷ w) cut other (kernel.cuts i cut (λ e. none x w e) at) (kernel.cuts j other (λ e. none x w e) at') r.0, r.1);
  }

  pub from_posix : (x : ℕ) (w : List ℕ) (ks : List Cut) → IsPosixKernel enc rules (x ∷ w) ks
      → IsKernel (Earlier enc rules) enc rules (x ∷ w) ks
  from_posix x w ks kernel = record {
    start = λ e. absurd (none x w e);
    cuts = λ i cut ne at. kernel.cuts i cut ne at;
    every = λ cut ne is.
        let r = kernel.every cut ne is in
        (r.0, r.1, r.2, r.3, λ h. r.4 (earlier_to (x ∷ w) cut r.1 is (kernel.cuts r.0 r.1 ne r.2) h));
    ordered = λ i j cut other lt at at'.
        let r = kernel.ordered i j cut other lt at at' in
        (earlier_from (x ∷ w) cut other (kernel.cuts i cut (λ e. none x w e) at) (kernel.cuts j other (λ e. none x w e) at') r.0, r.1);
  }

  -- a word has at most one kernel
  same_member :
      (x : ℕ) (w : List ℕ) (ks ls : List Cut) → IsKernel (Earlier enc rules) enc rules (x ∷ w) ks
      → IsKernel (Earlier enc rules) enc rules (x ∷ w) ls → (k : Cut) → Member Cut k ks → Member Cut k ls
  same_member x w ks ls a b k m =
      let ne : x ∷ w ≢ [] = λ e. none x w e in
      let is = a.cuts m.0 k ne m.1 in
      let r = b.every k ne is in
      let j = r.1 in
      let ij = b.cuts r.0 j ne r.2 in
      ⊎_elim
      (λ e. (r.0, r.2 ∙ ap₂ (λ m n. Some (record { rule = m; front = n })) r.3.rule e))
      (λ d. absurd (⊎_elim (λ h. kernel_first enc rules (x ∷ w) ks a ne m.0 k m.1 j ij r.3 (inr h)) (λ h. r.4 (inr h)) d))
      (before_total enc rules j k ij.possible.0 is.possible.0 r.3.rule ij.after_unit is.after_unit
      (ij.reads_word ∙ sym is.reads_word) ij.possible.1 is.possible.1)

  equal_pairs : (xs ys : List Cut) → Pairs Cut (λ k l. k ≡ l) xs ys → xs ≡ ys
  equal_pairs [] [] p = refl
  equal_pairs [] (y ∷ ys) p = absurd p
  equal_pairs (x ∷ xs) [] p = absurd p
  equal_pairs (x ∷ xs) (y ∷ ys) p = ap₂ (λ a b. a ∷ b) p.0 (equal_pairs xs ys p.1)

  pub posix_unique : (w : List ℕ) (ks ls : List Cut) → IsPosixKernel enc rules w ks → IsPosixKernel enc rules w ls → ks ≡ ls
  posix_unique [] ks ls a b = a.start refl ∙ sym (b.start refl)
  posix_unique (x ∷ w) ks ls p q =
      let a = from_posix x w ks p in
      let b = from_posix x w ls q in
      equal_pairs ks ls
      (pair_up
      Cut (Earlier enc rules) (λ k l. k ≡ l) ks ls (λ i j c d lt e f. (a.ordered i j c d lt e f).0) (λ i j c d lt e f. (b.ordered i j c d lt e f).0)
      (λ c d m n h k. earlier_asym enc rules c d ((a.cuts m.0 c (λ e. none x w e) m.1).reads_word ∙ sym (a.cuts n.0 d (λ e. none x w e) n.1).reads_word) h k)
      (λ c d m n h k. earlier_asym enc rules c d ((b.cuts m.0 c (λ e. none x w e) m.1).reads_word ∙ sym (b.cuts n.0 d (λ e. none x w e) n.1).reads_word) h k)
      (λ c d e f i j m n s t. (
        λ r. subst (λ z. Earlier enc rules z f) s (subst (λ z. Earlier enc rules c z) t r),
        λ r. subst (λ z. Earlier enc rules z d) (sym s) (subst (λ z. Earlier enc rules e z) (sym t) r),
      ))
      (λ c m. (c, same_member x w ks ls a b c m, refl)) (λ c m. (c, same_member x w ls ks b a c m, refl)))

  to_pairs : (ks ls : List Cut) → SamePlaces enc rules ks ls → Pairs Cut (λ c d. SamePlace enc rules c d) ks ls
  to_pairs [] [] p = tt
  to_pairs [] (b ∷ ls) p = absurd p
  to_pairs (a ∷ ks) [] p = absurd p
  to_pairs (a ∷ ks) (b ∷ ls) p = (p.0, to_pairs ks ls p.1)

  from_pairs : (ks ls : List Cut) → Pairs Cut (λ c d. SamePlace enc rules c d) ks ls → SamePlaces enc rules ks ls
  from_pairs [] [] p = tt
  from_pairs [] (b ∷ ls) p = absurd p
  from_pairs (a ∷ ks) [] p = absurd p
  from_pairs (a ∷ ks) (b ∷ ls) p = (p.0, from_pairs ks ls p.1)

  pub posix_goes_on :
      (x : ℕ) (w : List ℕ) (o : ℕ) (v : List ℕ) (u : ℕ) (ks ls kn ln : List Cut)
      → IsPosixKernel enc rules (x ∷ w) ks → IsPosixKernel enc rules (o ∷ v) ls → IsSameKernel enc rules ks ls
      → IsPosixKernel enc rules ((x ∷ w) ++ u ∷ []) kn → IsPosixKernel enc rules ((o ∷ v) ++ u ∷ []) ln
      → Pairs Cut (λ k l. Stem ks ls u k l) kn ln × IsSameKernel enc rules kn ln
  posix_goes_on x w o v u ks ls kn ln kernel other same next other_next =
      let s =
      whole_step enc rules x w o v u ks ls kn ln (from_posix x w ks kernel) (from_posix o v ls other)
      (record {
        there = λ i c e. pairs_there Cut (λ c d. SamePlace enc rules c d) ks ls (to_pairs ks ls same.0) i c e;
        back = λ i d e. pairs_back Cut (λ c d. SamePlace enc rules c d) ks ls (to_pairs ks ls same.0) i d e;
        numbers = λ i j n a b c d ea eb ec ed.
            let r = same.1 i j n a b c d ea eb ec ed in
            let ia = kernel.cuts i a (λ e. none x w e) ea in
            let ib = kernel.cuts j b (λ e. none x w e) eb in
            let ic = other.cuts i c (λ e. none o v e) ec in
            let id = other.cuts j d (λ e. none o v e) ed in (
              λ h. before_of enc rules (o ∷ v) c d n ic id (r.0 (first_of enc rules (x ∷ w) a b n ia ib h)),
              λ h. before_of enc rules (x ∷ w) a b n ia ib (r.1 (first_of enc rules (o ∷ v) c d n ic id h)),
            );
      })
      (from_posix x (w ++ u ∷ []) kn next) (from_posix o (v ++ u ∷ []) ln other_next) in
      let alike = s.1 in (
        s.0,
        (
          from_pairs kn ln (pairs_by Cut (λ c d. SamePlace enc rules c d) kn ln (λ i c e. alike.there i c e) (λ i d e. alike.back i d e)),
          λ i j n a b c d ea eb ec ed.
              let r = alike.numbers i j n a b c d ea eb ec ed in
              let ia = next.cuts i a (λ e. none x (w ++ u ∷ []) e) ea in
              let ib = next.cuts j b (λ e. none x (w ++ u ∷ []) e) eb in
              let ic = other_next.cuts i c (λ e. none o (v ++ u ∷ []) e) ec in
              let id = other_next.cuts j d (λ e. none o (v ++ u ∷ []) e) ed in (
                λ h. first_of enc rules (o ∷ (v ++ u ∷ [])) c d n ic id (r.0 (before_of enc rules (x ∷ (w ++ u ∷ [])) a b n ia ib h)),
                λ h. first_of enc rules (x ∷ (w ++ u ∷ [])) a b n ia ib (r.1 (before_of enc rules (o ∷ (v ++ u ∷ [])) c d n ic id h)),
              ),
        ),
      )

  -- the same for the step
  step_from : (w : List ℕ) (u : ℕ) (ks ls : List Cut) → IsStepOf (PosixPrecedes enc rules) enc rules w ks u ls
      → IsStepOf (Earlier enc rules) enc rules w ks u ls
  step_from w u ks ls step = record {
    listed = record {
      cuts = step.listed.cuts;
      every = λ i cut walk at is reads own.
          let r = step.listed.every i cut walk at is reads own in
          (r.0, r.1, r.2, r.3, λ h. r.4 (earlier_to (w ++ u ∷ []) (after cut walk) r.1 own (step.listed.cuts r.0 r.1 r.2) h));
    };
    ordered = λ i j cut other lt at at'.
        let r = step.ordered i j cut other lt at at' in
        (earlier_from (w ++ u ∷ []) cut other (step.listed.cuts i cut at) (step.listed.cuts j other at') r.0, r.1);
  }

  pub posix_from_walks :
      (x : ℕ) (w : List ℕ) (u : ℕ) (ks ls : List Cut) → IsPosixKernel enc rules (x ∷ w) ks
      → IsStepOf (PosixPrecedes enc rules) enc rules (x ∷ w) ks u ls → IsPosixKernel enc rules ((x ∷ w) ++ u ∷ []) ls
  posix_from_walks x w u ks ls kernel step =
      to_posix x (w ++ u ∷ []) ls (kernel_from_walks enc rules x w u ks ls (from_posix x w ks kernel) (step_from (x ∷ w) u ks ls step))

  pub posix_source :
      (x : ℕ) (w : List ℕ) (u : ℕ) (ks kn : List Cut) → IsPosixKernel enc rules (x ∷ w) ks
      → IsPosixKernel enc rules ((x ∷ w) ++ u ∷ []) kn → (i : ℕ) (k : Cut) → slice_get kn i ≡ Some k → Source ks u k
  posix_source x w u ks kn kernel next i k at =
      let n = from_posix x (w ++ u ∷ []) kn next in
      step_source enc rules x w u ks (from_posix x w ks kernel) k (next.cuts i k (λ e. none x (w ++ u ∷ []) e) at)
      (λ j ij same b. kernel_first enc rules ((x ∷ w) ++ u ∷ []) kn n (λ e. none x (w ++ u ∷ []) e) i k at j ij same b)
