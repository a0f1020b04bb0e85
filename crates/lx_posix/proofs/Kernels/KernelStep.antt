-- Where the first cuts after one more unit come from.
use Rattle.lx_posix.specs.KernelSteps.{Source}
use Rattle.lx_posix.proofs.Orders.Ordered.{Before, Earlier}
use Rattle.lx_posix.specs.Walks.{after, kept, lowest}
use Rattle.std.specs.Prelude.{◌≡◌, ◌≢◌, ℕ, min, List, [], ◌∷◌, ◌++◌, refl}
use Rattle.std.proofs.Common.{sym, ap, ap₂, ◌∙◌, subst, arith, inl, inr, ⊎_elim, append_assoc}
use Rattle.lx_base.specs.declared.settings.Enc.{Enc}
use Rattle.lx_regex.specs.Term.{Term}
use Rattle.lx_regex.specs.Script.{Symbol, reads, units}
use Rattle.lx_regex.specs.Cut.{Cut, EndsInUnit, GoesOn, IsCut, SamePlace}
use Rattle.lx_regex.specs.Kernel.{IsKernel}
use Rattle.lx_regex.proofs.KernelCuts.Cuts.{place_goes, place_back}
use Rattle.lx_regex.proofs.KernelCuts.Kernels.{Parted, part_at, ends_behind, place_longer}
use Rattle.lx_regex.proofs.Walks.PlainWalk.{units_append}
use Rattle.lx_posix.proofs.Fronts.PartDepth.{place_depth}
use Rattle.lx_posix.proofs.Orders.CutOrder.{before_total, before_asym, across}

pub ends_on : (a m : List Symbol) → EndsInUnit m → EndsInUnit (a ++ m)
ends_on a m is = (a ++ is.0, is.1, ap (λ k. a ++ k) is.2 ∙ sym (append_assoc a is.0 (reads is.1 ∷ [])))

module _ (enc : Enc) (rules : List Term) where
  pub earlier_asym : (j k : Cut) → units j.front ≡ units k.front → Earlier enc rules j k → Earlier enc rules k j → ⊥
  earlier_asym j k u (inl a) (inl b) = absurd (omega arith)
  earlier_asym j k u (inl a) (inr b) = let z = b.1.one_rule in absurd (omega arith)
  earlier_asym j k u (inr a) (inl b) = let z = a.1.one_rule in absurd (omega arith)
  earlier_asym j k u (inr a) (inr b) = before_asym enc rules j k a.0 b.0 u a.1 b.1

  pub goes_longer : (k : Cut) (mid rest : List Symbol) → GoesOn enc rules k (mid ++ rest) → GoesOn enc rules (after k mid) rest
  goes_longer k mid rest go = (go.0, go.1, go.2, go.3 ∙ sym (append_assoc k.front mid rest), go.4)

  pub goes_shorter :
      (k : Cut) (mid rest : List Symbol) → GoesOn enc rules (after k mid) rest → GoesOn enc rules k (mid ++ rest)
  goes_shorter k mid rest go = (go.0, go.1, go.2, go.3 ∙ append_assoc k.front mid rest, go.4)

  -- a walk from a cut is one from each cut at its place, of this word or another
  pub cut_on :
      (w w' : List ℕ) (u : ℕ) (j k : Cut) (walk : List Symbol) → SamePlace enc rules j k → IsCut enc rules w j → IsCut enc rules w' k
      → EndsInUnit walk → units walk ≡ u ∷ [] → (rest : List Symbol) → GoesOn enc rules (after j walk) rest
      → IsCut enc rules (w' ++ u ∷ []) (after k walk)
  cut_on w w' u j k walk same ij ik iw uw rest go = record {
    reads_word = units_append k.front walk ∙ ap₂ (λ m n. m ++ n) ik.reads_word uw;
    after_unit = ends_on k.front walk iw;
    possible = (
      rest,
      goes_longer k walk rest
          (place_goes enc rules j k same ij.after_unit ik.after_unit (walk ++ rest) (goes_shorter j walk rest go)),
    );
  }

  -- The first cut at a place after one more unit comes from a cut of the kernel of the word before.
  pub step_source :
      (x : ℕ) (w : List ℕ) (u : ℕ) (ks : List Cut) → IsKernel (Earlier enc rules) enc rules (x ∷ w) ks → (k : Cut)
      → IsCut enc rules ((x ∷ w) ++ u ∷ []) k
      → ((j : Cut) → IsCut enc rules ((x ∷ w) ++ u ∷ []) j → SamePlace enc rules j k → Earlier enc rules j k → ⊥) → Source ks u k
  step_source x w u ks kernel k is first =
      let p = part_at k.front x w (u ∷ []) is.reads_word in
      let a : Cut = record { rule = k.rule; front = p.fore ++ reads p.unit ∷ [] } in
      let rest = is.possible.0 in
      let go : GoesOn enc rules (after a p.mid) rest =
      subst (λ l. GoesOn enc rules (record { rule = k.rule; front = l }) rest) p.is is.possible.1 in
      let ga = goes_shorter a p.mid rest go in
      let ia : EndsInUnit a.front = (p.fore, p.unit, refl) in
      let ne : x ∷ w ≢ [] = λ e. some e in
      let r = kernel.every a ne (record { reads_word = p.first; after_unit = ia; possible = (p.mid ++ rest, ga) }) in
      let j = r.1 in
      let ij = kernel.cuts r.0 j ne r.2 in
      let same : units j.front ≡ units a.front = ij.reads_word ∙ sym p.first in
      let em : EndsInUnit p.mid =
      ends_behind a.front p.mid is.after_unit.0 is.after_unit.1
      (sym p.is ∙ is.after_unit.2) (λ e. none (sym p.then ∙ e)) in
      ⊎_elim
      (λ e.
      record {
        place = r.0;
        cut = j;
        walk = p.mid;
        stands = r.2;
        is =
            ap₂ (λ m n. record { rule = m; front = n }) (sym r.3.rule) (p.is ∙ ap (λ l. l ++ p.mid) (sym e));
        reads_unit = p.then;
        ends_in_unit = em;
      })
      (λ d. absurd (⊎_elim (λ b. ahead j ij p r.3 ga go em same b) (λ b. r.4 (inr b)) d))
      (before_total enc rules j a ij.possible.0 (p.mid ++ rest) r.3.rule ij.after_unit ia same ij.possible.1 ga)
    where
      some : x ∷ w ≡ [] → ⊥
      some e = cc

      none : u ∷ [] ≡ [] → ⊥
      none e = cc

      ahead : (j : Cut) → IsCut enc rules (x ∷ w) j → (p : Parted k.front (x ∷ w) (u ∷ []))
          → SamePlace enc rules j (record { rule = k.rule; front = p.fore ++ reads p.unit ∷ [] })
          → GoesOn enc rules (record { rule = k.rule; front = p.fore ++ reads p.unit ∷ [] }) (p.mid ++ is.possible.0)
          → GoesOn enc rules (record { rule = k.rule; front = (p.fore ++ reads p.unit ∷ []) ++ p.mid }) is.possible.0
          → EndsInUnit p.mid → units j.front ≡ units (p.fore ++ reads p.unit ∷ [])
          → ((n : ℕ) × Before enc rules j (record { rule = k.rule; front = p.fore ++ reads p.unit ∷ [] }) n) → ⊥
      ahead j ij p same ga go em us b =
          let a : Cut = record { rule = k.rule; front = p.fore ++ reads p.unit ∷ [] } in
          let rest = is.possible.0 in
          let ia : EndsInUnit a.front = (p.fore, p.unit, refl) in
          let gj =
          goes_longer j p.mid rest
          (place_goes enc rules a j (place_back enc rules j a same) ia ij.after_unit (p.mid ++ rest) ga) in
          let depths = place_depth enc rules j a ij.possible.0 same ij.after_unit ia ij.possible.1 in
          let even : kept j p.mid ≡ kept a p.mid = ap (λ d. lowest d d p.mid) depths in
          let ac =
          across enc rules j a p.mid p.mid rest rest u u b.0 ij.after_unit ia us em em p.then p.then gj go b.1 in
          let number = min b.0 (min (kept j p.mid) (kept a p.mid)) in
          let before : Before enc rules (after j p.mid) (after a p.mid) number = ac.1 (omega arith) in
          let place =
          subst
          (λ l. SamePlace enc rules (after j p.mid) (record { rule = k.rule; front = l })) (sym p.is)
          (place_longer enc rules j a p.mid same ij.after_unit ia) in
          first (after j p.mid) (record {
            reads_word = units_append j.front p.mid ∙ ap₂ (λ m n. m ++ n) ij.reads_word p.then;
            after_unit = ends_on j.front p.mid em;
            possible = (rest, gj);
          }) place (inr (number, subst (λ l. Before enc rules (after j p.mid) (record { rule = k.rule; front = l }) number) (sym p.is) before))
