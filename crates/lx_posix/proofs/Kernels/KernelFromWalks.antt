-- The first cuts of those that come from a kernel by walks to one more unit are the kernel after that unit.
use Rattle.lx_posix.specs.Walks.{after, kept, lowest}
use Rattle.lx_posix.proofs.Orders.Ordered.{Before, Earlier}
use Rattle.lx_posix.specs.KernelSteps.{IsStepOf}
use Rattle.std.specs.Prelude.{◌≡◌, ℕ, ◌<◌, min, List, [], ◌∷◌, ◌++◌, length, Some, slice_get, refl}
use Rattle.std.proofs.Common.{sym, ap, ap₂, ◌∙◌, subst, arith, inr, ⊎_elim}
use Rattle.lx_base.specs.declared.settings.Enc.{Enc}
use Rattle.lx_regex.specs.Term.{Term}
use Rattle.lx_regex.specs.Script.{reads, units}
use Rattle.lx_regex.specs.Cut.{Cut, EndsInUnit, GoesOn, IsCut, SamePlace}
use Rattle.lx_regex.specs.Kernel.{IsKernel}
use Rattle.lx_regex.proofs.KernelCuts.Cuts.{place_goes, place_back}
use Rattle.lx_regex.proofs.KernelCuts.Kernels.{part_at, ends_behind, place_longer}
use Rattle.lx_regex.proofs.Walks.PlainWalk.{units_append}
use Rattle.lx_posix.proofs.Fronts.PartDepth.{place_depth}
use Rattle.lx_posix.proofs.Orders.CutOrder.{before_total, across}
use Rattle.lx_posix.proofs.Orders.NumberBetween.{number_between}
use Rattle.lx_posix.proofs.Kernels.KernelStep.{ends_on, goes_longer, goes_shorter}

module _ (enc : Enc) (rules : List Term) where
  pub place_on : (i j k : Cut) → SamePlace enc rules i j → SamePlace enc rules j k → SamePlace enc rules i k
  place_on i j k a b =
      record {
        rule = a.rule ∙ b.rule;
        part = a.part ∙ b.part;
        left = λ v. ((λ f. (b.left v).0 ((a.left v).0 f)), (λ f. (a.left v).1 ((b.left v).1 f)));
      }

  pub kernel_from_walks :
      (x : ℕ) (w : List ℕ) (u : ℕ) (ks ls : List Cut) → IsKernel (Earlier enc rules) enc rules (x ∷ w) ks
      → IsStepOf (Earlier enc rules) enc rules (x ∷ w) ks u ls → IsKernel (Earlier enc rules) enc rules ((x ∷ w) ++ u ∷ []) ls
  kernel_from_walks x w u ks ls kernel step = record {
    start = λ e. absurd (none x (w ++ u ∷ []) e);
    cuts = λ i cut ne at. step.listed.cuts i cut at;
    every = λ cut ne is. found cut is;
    ordered = step.ordered;
  }
    where
      none : (x : ℕ) (w : List ℕ) → x ∷ w ≡ [] → ⊥
      none x w e = cc

      found : (k : Cut) → IsCut enc rules ((x ∷ w) ++ u ∷ []) k
          → (i : ℕ) × (first : Cut) × (slice_get ls i ≡ Some first) × SamePlace enc rules first k × (Earlier enc rules k first → ⊥)
      found k is =
          let p = part_at k.front x w (u ∷ []) is.reads_word in
          let a : Cut = record { rule = k.rule; front = p.fore ++ reads p.unit ∷ [] } in
          let rest = is.possible.0 in
          let go : GoesOn enc rules (after a p.mid) rest =
          subst (λ l. GoesOn enc rules (record { rule = k.rule; front = l }) rest) p.is is.possible.1 in
          let ga = goes_shorter enc rules a p.mid rest go in
          let ia : EndsInUnit a.front = (p.fore, p.unit, refl) in
          let r = kernel.every a (λ e. none x w e) (record { reads_word = p.first; after_unit = ia; possible = (p.mid ++ rest, ga) }) in
          let j = r.1 in
          let ij = kernel.cuts r.0 j (λ e. none x w e) r.2 in
          let same : units j.front ≡ units a.front = ij.reads_word ∙ sym p.first in
          let em : EndsInUnit p.mid =
          ends_behind a.front p.mid is.after_unit.0 is.after_unit.1
          (sym p.is ∙ is.after_unit.2) (λ e. none u [] (sym p.then ∙ e)) in
          let gj =
          goes_longer enc rules j p.mid rest
          (place_goes enc rules a j (place_back enc rules j a r.3) ia ij.after_unit (p.mid ++ rest) ga) in
          let jy : IsCut enc rules ((x ∷ w) ++ u ∷ []) (after j p.mid) =
          record {
            reads_word = units_append j.front p.mid ∙ ap₂ (λ m n. m ++ n) ij.reads_word p.then;
            after_unit = ends_on j.front p.mid em;
            possible = (rest, gj);
          } in
          let f = step.listed.every r.0 j p.mid r.2 em p.then jy in
          let jk : SamePlace enc rules (after j p.mid) k =
          subst
          (λ l. SamePlace enc rules (after j p.mid) (record { rule = k.rule; front = l })) (sym p.is)
          (place_longer enc rules j a p.mid r.3 ij.after_unit ia) in
          let fk = place_on f.1 (after j p.mid) k f.3 jk in
          let if' = step.listed.cuts f.0 f.1 f.2 in (
            f.0,
            f.1,
            f.2,
            fk,
            λ before.
                ⊎_elim
                (λ less. let e = fk.rule in absurd (omega arith))
                (λ b.
                ⊎_elim
                (λ e.
                let ek : k ≡ after j p.mid =
                ap₂ (λ m n. record { rule = m; front = n }) (sym r.3.rule) (p.is ∙ ap (λ l. l ++ p.mid) (sym e)) in
                f.4 (subst (λ n. Earlier enc rules n f.1) ek (inr b)))
                (λ d. ⊎_elim
                (λ n.
                let depths = place_depth enc rules j a ij.possible.0 r.3 ij.after_unit ia ij.possible.1 in
                let even : kept j p.mid ≡ kept a p.mid = ap (λ d. lowest d d p.mid) depths in
                let ac =
                across enc rules j a p.mid p.mid rest rest u u n.0 ij.after_unit ia same em em p.then p.then gj go n.1 in
                let number = min n.0 (min (kept j p.mid) (kept a p.mid)) in
                let ahead : Before enc rules (after j p.mid) (after a p.mid) number = ac.1 (omega arith) in
                let ahead' : Before enc rules (after j p.mid) k number =
                subst (λ l. Before enc rules (after j p.mid) (record { rule = k.rule; front = l }) number) (sym p.is) ahead in
                f.4 (inr (min number b.0, number_between enc rules (after j p.mid) k f.1 number b.0 (some (after j p.mid) jy) (jy.reads_word ∙ sym is.reads_word) (is.reads_word ∙ sym if'.reads_word) ahead' b.1)))
                (λ n. r.4 (inr n))
                d)
                (before_total enc rules j a ij.possible.0 (p.mid ++ rest) r.3.rule ij.after_unit ia same ij.possible.1 ga))
                before,
          )
        where
          some : (k : Cut) → IsCut enc rules ((x ∷ w) ++ u ∷ []) k → 0 < length (units k.front)
          some k is = let z = ap length is.reads_word in omega arith
