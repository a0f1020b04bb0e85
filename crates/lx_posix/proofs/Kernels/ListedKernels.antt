-- Where the cuts of one more unit are listed, and it is decided which of them stand at one place, there is a kernel.
use Rattle.lx_posix.specs.KernelSteps.{AreListed, IsStepOf, PlacesAreDecided, sources}
use Rattle.lx_posix.specs.Numbers.{PosixPrecedes}
use Rattle.lx_posix.specs.PosixKernel.{IsPosixKernel}
use Rattle.lx_posix.specs.Walks.{after}
use Rattle.std.specs.Prelude.{◌≡◌, ℕ, ◌⊎◌, min, List, [], ◌∷◌, ◌++◌, Some, slice_get, refl}
use Rattle.std.proofs.Common.{sym, ap₂, ◌∙◌, subst, arith, append_assoc, append-nil, inl, inr, ⊎_elim}
use Rattle.std.proofs.lemmas.Bool.{cases_order}
use Rattle.lx_base.specs.declared.settings.Enc.{Enc}
use Rattle.lx_regex.specs.Cut.{Cut, IsCut, SamePlace}
use Rattle.lx_regex.specs.Term.{Term}
use Rattle.lx_posix.proofs.Counted.NumbersOfCuts.{before_of, first_of, unit_some}
use Rattle.lx_posix.proofs.Kernels.FirstUnit.{empty_kernel, first_kernel}
use Rattle.lx_posix.proofs.Kernels.KernelFromWalks.{place_on}
use Rattle.lx_posix.proofs.Kernels.KernelStep.{earlier_asym}
use Rattle.lx_posix.proofs.Kernels.PosixKernels.{earlier_from, posix_from_walks}
use Rattle.lx_posix.proofs.Kernels.SortedPlaces.{Distilled, In, at_in, first_ones, in_at, ordered_at}
use Rattle.lx_posix.proofs.Orders.CutOrder.{before_total}
use Rattle.lx_posix.proofs.Orders.NumberBetween.{number_between}

module _ (enc : Enc) (rules : List Term) where
  -- the order of the cuts at a word is total
  pub precedes_total : (w : List ℕ) (j k : Cut) → IsCut enc rules w j → IsCut enc rules w k
      → (j ≡ k) ⊎ (PosixPrecedes enc rules j k ⊎ PosixPrecedes enc rules k j)
  precedes_total w j k ij ik =
      ⊎_elim
      (λ e. ⊎_elim
      (λ f. inl (ap₂ (λ m n. record { rule = m; front = n }) e f))
      (λ d. inr (⊎_elim
      (λ b. inl (inr (b.0, first_of enc rules w j k b.0 ij ik b.1)))
      (λ b. inr (inr (b.0, first_of enc rules w k j b.0 ik ij b.1))) d))
      (before_total enc rules j k ij.possible.0 ik.possible.0 e ij.after_unit ik.after_unit (ij.reads_word ∙ sym ik.reads_word)
      ij.possible.1 ik.possible.1))
      (λ d. inr (⊎_elim (λ lt. inl (inl lt)) (λ gt. inr (inl gt)) d))
      (cases_order j.rule k.rule)

  pub precedes_trans : (w : List ℕ) (i j k : Cut) → IsCut enc rules w i → IsCut enc rules w j → IsCut enc rules w k
      → PosixPrecedes enc rules i j → PosixPrecedes enc rules j k → PosixPrecedes enc rules i k
  precedes_trans w i j k ii ij ik (inl a) (inl b) = inl (omega arith)
  precedes_trans w i j k ii ij ik (inl a) (inr b) = let z = b.1.one_rule in inl (omega arith)
  precedes_trans w i j k ii ij ik (inr a) (inl b) = let z = a.1.one_rule in inl (omega arith)
  precedes_trans w i j k ii ij ik (inr a) (inr b) =
      inr (
        min a.0 b.0,
        first_of enc rules w i k (min a.0 b.0) ii ik
            (number_between enc rules i j k a.0 b.0
            (unit_some enc rules i.front ii.after_unit) (ii.reads_word ∙ sym ij.reads_word) (ij.reads_word ∙ sym ik.reads_word)
            (before_of enc rules w i j a.0 ii ij a.1) (before_of enc rules w j k b.0 ij ik b.1)),
      )

  pub precedes_asym : (w : List ℕ) (j k : Cut) → IsCut enc rules w j → IsCut enc rules w k
      → PosixPrecedes enc rules j k → PosixPrecedes enc rules k j → ⊥
  precedes_asym w j k ij ik a b =
      earlier_asym enc rules j k (ij.reads_word ∙ sym ik.reads_word) (earlier_from enc rules w j k ij ik a)
      (earlier_from enc rules w k j ik ij b)

  place_self : (k : Cut) → SamePlace enc rules k k
  place_self k = record { rule = refl; part = refl; left = λ v. ((λ f. f), (λ f. f)) }

  pub listed_step :
      (w : List ℕ) (u : ℕ) (ks listed : List Cut) → AreListed (PosixPrecedes enc rules) enc rules w ks u listed
      → PlacesAreDecided enc rules (w ++ u ∷ [])
      → (next : List Cut) × IsStepOf (PosixPrecedes enc rules) enc rules w ks u next
  listed_step w u ks listed are decided =
      let v = w ++ u ∷ [] in
      let d =
      first_ones Cut
      (λ k. IsCut enc rules (w ++ u ∷ []) k) (λ j k. PosixPrecedes enc rules j k) (λ j k. SamePlace enc rules j k)
      (λ j k ij ik. precedes_total (w ++ u ∷ []) j k ij ik) (λ i j k ii ij ik a b. precedes_trans (w ++ u ∷ []) i j k ii ij ik a b)
      (λ j k ij ik a b. precedes_asym (w ++ u ∷ []) j k ij ik a b) decided
      (λ k ik. place_self k) (λ i j k a b. place_on enc rules i j k a b) listed member in (
        d.list,
        record {
          listed = record {
            cuts = λ i cut at. member cut (d.back cut (in_at Cut d.list i cut at));
            every = λ i cut walk at is reads own. found d (after cut walk) own (are.every i cut walk at is reads own);
          };
          ordered = λ i j cut other lt at at'.
              ordered_at Cut
              (λ j k. PosixPrecedes enc rules j k) (λ j k. SamePlace enc rules j k) d.list d.sorted d.apart i j cut other lt at at';
        },
      )
    where
      member : (k : Cut) → In Cut k listed → IsCut enc rules (w ++ u ∷ []) k
      member k m = let r = at_in Cut listed k m in are.cuts r.0 k r.1

      found : (d : Distilled Cut (λ j k. PosixPrecedes enc rules j k) (λ j k. SamePlace enc rules j k) listed) (k : Cut)
          → IsCut enc rules (w ++ u ∷ []) k
          → (j : ℕ) × (first : Cut) × (slice_get listed j ≡ Some first) × SamePlace enc rules first k
          × (PosixPrecedes enc rules k first → ⊥)
          → (j : ℕ) × (first : Cut) × (slice_get d.list j ≡ Some first) × SamePlace enc rules first k
          × (PosixPrecedes enc rules k first → ⊥)
      found d k is r =
          let o = d.on r.1 (in_at Cut listed r.0 r.1 r.2) in
          let at = at_in Cut d.list o.0 o.1 in
          let ir = are.cuts r.0 r.1 r.2 in
          let io = member o.0 (d.back o.0 o.1) in (
            at.0,
            o.0,
            at.1,
            place_on enc rules o.0 r.1 k o.2 r.3,
            λ h.
                ⊎_elim
                (λ e. o.3 (subst (λ n. PosixPrecedes enc rules n o.0) e h))
                (λ b. ⊎_elim (λ b. r.4 b) (λ b. o.3 (precedes_trans (w ++ u ∷ []) r.1 k o.0 ir is io b h)) b)
                (precedes_total (w ++ u ∷ []) k r.1 is ir),
          )

  pub each_kernel :
      ((w : List ℕ) → PlacesAreDecided enc rules w)
      → ((w : List ℕ) (ks : List Cut) (u : ℕ) → IsPosixKernel enc rules w ks
      → (listed : List Cut) × AreListed (PosixPrecedes enc rules) enc rules w (sources rules w ks) u listed)
      → (w : List ℕ) → (ks : List Cut) × IsPosixKernel enc rules w ks
  each_kernel decided lists w = from [] (record { rule = 0; front = [] } ∷ []) (empty_kernel enc rules _ refl) w
    where
      one : (w : List ℕ) (ks : List Cut) (u : ℕ) → IsPosixKernel enc rules w ks → (next : List Cut)
          × IsPosixKernel enc rules (w ++ u ∷ []) next
      one [] ks u is =
          let l = lists [] ks u is in
          let s = listed_step [] u (sources rules [] ks) l.0 l.1 (decided (u ∷ [])) in (s.0, first_kernel enc rules u s.0 s.1)
      one (x ∷ w) ks u is =
          let l = lists (x ∷ w) ks u is in
          let s = listed_step (x ∷ w) u ks l.0 l.1 (decided ((x ∷ w) ++ u ∷ [])) in (s.0, posix_from_walks enc rules x w u ks s.0 is s.1)

      from : (w : List ℕ) (ks : List Cut) → IsPosixKernel enc rules w ks → (v : List ℕ) → (next : List Cut)
          × IsPosixKernel enc rules (w ++ v) next
      from w ks is [] = (ks, subst (λ l. IsPosixKernel enc rules l ks) (sym (append-nil w)) is)
      from w ks is (u ∷ v) =
          let o = one w ks u is in
          let r = from (w ++ u ∷ []) o.0 o.1 v in
          (r.0, subst (λ l. IsPosixKernel enc rules l r.0) (append_assoc w (u ∷ []) v) r.1)
