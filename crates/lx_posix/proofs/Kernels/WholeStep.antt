-- The kernel after one more unit, its numbers, and for each of its places the place it comes from and the walk, are functions
-- of the kernel with its numbers and that unit.
use Rattle.lx_posix.specs.KernelSteps.{Pairs, Source, Stem}
use Rattle.lx_posix.proofs.Orders.Ordered.{Before, Earlier}
use Rattle.lx_posix.specs.Walks.{after}
use Rattle.std.specs.Prelude.{◌≡◌, ◌≢◌, ℕ, List, [], ◌∷◌, ◌++◌, Some, slice_get, refl}
use Rattle.std.proofs.Common.{sym, ap, ap₂, ◌∙◌, subst, arith, inl, inr, ⊎_elim}
use Rattle.std.proofs.lemmas.Bool.{cases_order}
use Rattle.lx_base.specs.declared.settings.Enc.{Enc}
use Rattle.lx_regex.specs.Term.{Term}
use Rattle.lx_regex.specs.Script.{Symbol, units}
use Rattle.lx_regex.specs.Cut.{Cut, EndsInUnit, IsCut, SamePlace}
use Rattle.lx_regex.specs.Kernel.{IsKernel}
use Rattle.lx_regex.proofs.KernelCuts.Cuts.{place_back}
use Rattle.lx_regex.proofs.KernelCuts.Kernels.{place_longer}
use Rattle.lx_posix.proofs.Orders.CutOrder.{before_total}
use Rattle.lx_posix.proofs.Kernels.KernelStep.{earlier_asym, step_source, cut_on}
use Rattle.lx_posix.proofs.Kernels.AlikeKernels.{alike_across, alike_within}
use Rattle.lx_posix.proofs.Kernels.PairedLists.{Member, pairs_there, pairs_back, pair_up}

module _ (enc : Enc) (rules : List Term) where
  -- two kernels have the same places in order, and the same numbers
  pub record AreAlike (ks ls : List Cut) : Type 0 where
    pub there : (i : ℕ) (c : Cut) → slice_get ks i ≡ Some c → (d : Cut) × (slice_get ls i ≡ Some d) × SamePlace enc rules c d
    pub back : (i : ℕ) (d : Cut) → slice_get ls i ≡ Some d → (c : Cut) × (slice_get ks i ≡ Some c) × SamePlace enc rules c d
    pub numbers : (i j n : ℕ) (a b c d : Cut) → slice_get ks i ≡ Some a → slice_get ks j ≡ Some b → slice_get ls i ≡ Some c
        → slice_get ls j ≡ Some d → (Before enc rules a b n → Before enc rules c d n) × (Before enc rules c d n → Before enc rules a b n)

module _ (enc : Enc) (rules : List Term) where
  turn_alike : (ks ls : List Cut) → AreAlike enc rules ks ls → AreAlike enc rules ls ks
  turn_alike ks ls a = record {
    there = λ i c e. let r = a.back i c e in (r.0, r.1, place_back enc rules r.0 c r.2);
    back = λ i d e. let r = a.there i d e in (r.0, r.1, place_back enc rules d r.0 r.2);
    numbers = λ i j n x y z w e f g h. let r = a.numbers i j n z w x y g h e f in (r.1, r.0);
  }

  place_on : (i j k : Cut) → SamePlace enc rules i j → SamePlace enc rules j k → SamePlace enc rules i k
  place_on i j k a b =
      record {
        rule = a.rule ∙ b.rule;
        part = a.part ∙ b.part;
        left = λ v. ((λ f. (b.left v).0 ((a.left v).0 f)), (λ f. (a.left v).1 ((b.left v).1 f)));
      }

  same_cut : (ks : List Cut) (i j : ℕ) (a b : Cut) → i ≡ j → slice_get ks i ≡ Some a → slice_get ks j ≡ Some b → a ≡ b
  same_cut ks i j a b e f g = let s : Some a ≡ Some b = sym f ∙ ap (λ n. slice_get ks n) e ∙ g in cc

  alike_place : (ks ls : List Cut) → AreAlike enc rules ks ls → (i : ℕ) (c d : Cut) → slice_get ks i ≡ Some c → slice_get ls i ≡ Some d
      → SamePlace enc rules c d
  alike_place ks ls a i c d e f =
      let r = a.there i c e in
      subst (λ n. SamePlace enc rules c n) (same_cut ls i i r.0 d refl r.1 f) r.2

  -- each cut of a kernel is the first at its place
  pub kernel_first :
      (w : List ℕ) (ks : List Cut) → IsKernel (Earlier enc rules) enc rules w ks → w ≢ [] → (i : ℕ) (j : Cut) → slice_get ks i ≡ Some j
      → (k : Cut) → IsCut enc rules w k → SamePlace enc rules k j → Earlier enc rules k j → ⊥
  kernel_first w ks kernel ne i j at k is same before =
      let r = kernel.every k ne is in
      let twice = place_on j k r.1 (place_back enc rules k j same) (place_back enc rules r.1 k r.3) in
      ⊎_elim
      (λ e. r.4 (subst (λ n. Earlier enc rules k n) (same_cut ks i r.0 j r.1 e at r.2) before))
      (λ h.
      ⊎_elim
      (λ lt. (kernel.ordered i r.0 j r.1 lt at r.2).1 twice)
      (λ gt. (kernel.ordered r.0 i r.1 j gt r.2 at).1 (place_back enc rules j r.1 twice)) h)
      (cases_order i r.0)

  -- the order and the number of two cuts that come from two kernels alike
  stem_order :
      (w v : List ℕ) (u : ℕ) (ks ls : List Cut) → w ≢ [] → v ≢ [] → IsKernel (Earlier enc rules) enc rules w ks
      → IsKernel (Earlier enc rules) enc rules v ls → AreAlike enc rules ks ls
      → (i j m : ℕ) (a b c d : Cut) (y z : List Symbol) → slice_get ks i ≡ Some a → slice_get ks j ≡ Some b → slice_get ls i ≡ Some c
      → slice_get ls j ≡ Some d → EndsInUnit y → EndsInUnit z → units y ≡ u ∷ [] → units z ≡ u ∷ []
      → IsCut enc rules (w ++ u ∷ []) (after a y) → IsCut enc rules (w ++ u ∷ []) (after b z)
      → Before enc rules (after a y) (after b z) m → Before enc rules (after c y) (after d z) m
  stem_order w v u ks ls ne nf kernel other alike i j m a b c d y z ea eb ec ed iy iz uy uz cy cz before =
      let ia = kernel.cuts i a ne ea in
      let ib = kernel.cuts j b ne eb in
      let ic = other.cuts i c nf ec in
      let id = other.cuts j d nf ed in
      let sa = alike_place ks ls alike i a c ea ec in
      let sb = alike_place ks ls alike j b d eb ed in
      ⊎_elim
      (λ e.
      let ab = same_cut ks i j a b e ea eb in
      let cd = same_cut ls i j c d e ec ed in
      subst
      (λ n. Before enc rules (after c y) (after n z) m) cd
      (alike_within enc rules w v u m a c y z ia ic sa iy iz uy uz cy
      (subst (λ n. IsCut enc rules (w ++ u ∷ []) (after n z)) (sym ab) cz)
      (subst (λ n. Before enc rules (after a y) (after n z) m) (sym ab) before)))
      (λ r. ⊎_elim
      (λ lt. ⊎_elim
      (λ less. let x = before.one_rule in absurd (omega arith))
      (λ q.
      alike_across enc rules w v u q.0 m a b c d y z ia ib ic id sa sb iy iz uy uz cy cz
      (inl (q.1, (alike.numbers i j q.0 a b c d ea eb ec ed).0 q.1)) before)
      (kernel.ordered i j a b lt ea eb).0)
      (λ gt. ⊎_elim
      (λ less. let x = before.one_rule in absurd (omega arith))
      (λ q.
      alike_across enc rules w v u q.0 m a b c d y z ia ib ic id sa sb iy iz uy uz cy cz
      (inr (q.1, (alike.numbers j i q.0 b a d c eb ea ed ec).0 q.1)) before)
      (kernel.ordered j i b a gt eb ea).0)
      r)
      (cases_order i j)

  -- each cut of the one kernel after the unit has its like in the other
  like_of :
      (x : ℕ) (w : List ℕ) (o : ℕ) (v : List ℕ) (u : ℕ) (ks ls kn ln : List Cut)
      → IsKernel (Earlier enc rules) enc rules (x ∷ w) ks → IsKernel (Earlier enc rules) enc rules (o ∷ v) ls → AreAlike enc rules ks ls
      → IsKernel (Earlier enc rules) enc rules ((x ∷ w) ++ u ∷ []) kn → IsKernel (Earlier enc rules) enc rules ((o ∷ v) ++ u ∷ []) ln
      → (l : Cut) → Member Cut l kn → (l' : Cut) × Member Cut l' ln × Stem ks ls u l l'
  like_of x w o v u ks ls kn ln kernel other alike next other_next l member =
      let il = next.cuts member.0 l (λ e. none x (w ++ u ∷ []) e) member.1 in
      let s = step_source enc rules x w u ks kernel l il (λ j ij same b. kernel_first ((x ∷ w) ++ u ∷ []) kn next (λ e. none x (w ++ u ∷ []) e) member.0 l member.1 j ij same b) in
      let r = alike.there s.place s.cut s.stands in
      let c = s.cut in
      let c' = r.0 in
      let y = s.walk in
      let ic = kernel.cuts s.place c (λ e. none x w e) s.stands in
      let ic' = other.cuts s.place c' (λ e. none o v e) r.1 in
      let icy : IsCut enc rules ((x ∷ w) ++ u ∷ []) (after c y) = subst (λ n. IsCut enc rules ((x ∷ w) ++ u ∷ []) n) s.is il in
      let on = cut_on enc rules (x ∷ w) (o ∷ v) u c c' y r.2 ic ic' s.ends_in_unit s.reads_unit icy.possible.0 icy.possible.1 in
      let e = other_next.every (after c' y) (λ e. none o (v ++ u ∷ []) e) on in
      let m' = e.1 in
      let im' = other_next.cuts e.0 m' (λ e. none o (v ++ u ∷ []) e) e.2 in
      ⊎_elim
      (λ same. (
        m',
        (e.0, e.2),
        record {
          place = s.place;
          cut = c;
          other = c';
          walk = y;
          stands = s.stands;
          other_stands = r.1;
          is = s.is;
          other_is = ap₂ (λ m n. record { rule = m; front = n }) e.3.rule same;
          reads_unit = s.reads_unit;
          ends_in_unit = s.ends_in_unit;
        },
      ))
      (λ d. absurd (⊎_elim (λ b. lesser s icy r.0 r.1 r.2 on e.0 m' e.2 im' e.3 b) (λ b. e.4 (inr b)) d))
      (before_total enc rules m' (after c' y) im'.possible.0 on.possible.0 e.3.rule im'.after_unit on.after_unit
      (im'.reads_word ∙ sym on.reads_word) im'.possible.1 on.possible.1)
    where
      none : (x : ℕ) (w : List ℕ) → x ∷ w ≡ [] → ⊥
      none x w e = cc

      -- one before the like would come from one before the cut
      lesser :
          (s : Source ks u l) → IsCut enc rules ((x ∷ w) ++ u ∷ []) (after s.cut s.walk) → (c' : Cut) → slice_get ls s.place ≡ Some c' → SamePlace enc rules s.cut c'
          → IsCut enc rules ((o ∷ v) ++ u ∷ []) (after c' s.walk) → (i : ℕ) (m' : Cut) → slice_get ln i ≡ Some m' → IsCut enc rules ((o ∷ v) ++ u ∷ []) m'
          → SamePlace enc rules m' (after c' s.walk) → ((n : ℕ) × Before enc rules m' (after c' s.walk) n) → ⊥
      lesser s icy c' at' same on i m' im at same' b =
          let c = s.cut in
          let y = s.walk in
          let ic = kernel.cuts s.place c (λ e. none x w e) s.stands in
          let ic' = other.cuts s.place c' (λ e. none o v e) at' in
          let t = step_source enc rules o v u ls other m' at (λ j ij p b. kernel_first ((o ∷ v) ++ u ∷ []) ln other_next (λ e. none o (v ++ u ∷ []) e) i m' im j ij p b) in
          let d' = t.cut in
          let z = t.walk in
          let id' = other.cuts t.place d' (λ e. none o v e) t.stands in
          let q = alike.back t.place d' t.stands in
          let d = q.0 in
          let id = kernel.cuts t.place d (λ e. none x w e) q.1 in
          let idz' : IsCut enc rules ((o ∷ v) ++ u ∷ []) (after d' z) = subst (λ n. IsCut enc rules ((o ∷ v) ++ u ∷ []) n) t.is at in
          let idz =
          cut_on enc rules (o ∷ v) (x ∷ w) u d' d z (place_back enc rules d d' q.2) id' id t.ends_in_unit t.reads_unit
          idz'.possible.0 idz'.possible.1 in
          let b' : Before enc rules (after d' z) (after c' y) b.0 =
          subst (λ n. Before enc rules n (after c' y) b.0) t.is b.1 in
          let less : Before enc rules (after d z) (after c y) b.0 =
          stem_order
          (o ∷ v) (x ∷ w) u ls ks (λ e. none o v e) (λ e. none x w e) other kernel (turn_alike ks ls alike) t.place s.place b.0 d' c' d c z y
          t.stands at' q.1 s.stands t.ends_in_unit s.ends_in_unit t.reads_unit s.reads_unit idz' on b' in
          let p1 : SamePlace enc rules (after d z) (after d' z) = place_longer enc rules d d' z q.2 id.after_unit id'.after_unit in
          let p2 : SamePlace enc rules (after d' z) (after c' y) = subst (λ n. SamePlace enc rules n (after c' y)) t.is same' in
          let p3 : SamePlace enc rules (after c' y) (after c y) =
          place_longer enc rules c' c y (place_back enc rules c c' same) ic'.after_unit ic.after_unit in
          let p = place_on (after d z) (after d' z) (after c y) p1 (place_on (after d' z) (after c' y) (after c y) p2 p3) in
          kernel_first
          ((x ∷ w) ++ u ∷ []) kn next (λ e. none x (w ++ u ∷ []) e) member.0 l member.1 (after d z) idz
          (subst (λ n. SamePlace enc rules (after d z) n) (sym s.is) p)
          (subst (λ n. Earlier enc rules (after d z) n) (sym s.is) (inr (b.0, less)))

  turn_stem : (ks ls : List Cut) (u : ℕ) (k l : Cut) → Stem ks ls u k l → Stem ls ks u l k
  turn_stem ks ls u k l s = record {
    place = s.place;
    cut = s.other;
    other = s.cut;
    walk = s.walk;
    stands = s.other_stands;
    other_stands = s.stands;
    is = s.other_is;
    other_is = s.is;
    reads_unit = s.reads_unit;
    ends_in_unit = s.ends_in_unit;
  }

  stem_before :
      (w v : List ℕ) (u : ℕ) (ks ls : List Cut) → w ≢ [] → v ≢ [] → IsKernel (Earlier enc rules) enc rules w ks
      → IsKernel (Earlier enc rules) enc rules v ls → AreAlike enc rules ks ls
      → (m : ℕ) (a b c d : Cut) → Stem ks ls u a c → Stem ks ls u b d
      → IsCut enc rules (w ++ u ∷ []) a → IsCut enc rules (w ++ u ∷ []) b → Before enc rules a b m → Before enc rules c d m
  stem_before w v u ks ls ne nf kernel other alike m a b c d s t ia ib before =
      subst
      (λ n. Before enc rules n d m) (sym s.other_is)
      (subst
      (λ n. Before enc rules (after s.other s.walk) n m) (sym t.other_is)
      (stem_order w v u ks ls ne nf kernel other alike s.place t.place m s.cut t.cut s.other t.other s.walk t.walk
      s.stands t.stands s.other_stands t.other_stands s.ends_in_unit t.ends_in_unit s.reads_unit t.reads_unit
      (subst (λ n. IsCut enc rules (w ++ u ∷ []) n) s.is ia) (subst (λ n. IsCut enc rules (w ++ u ∷ []) n) t.is ib)
      (subst (λ n. Before enc rules n (after t.cut t.walk) m) s.is (subst (λ n. Before enc rules a n m) t.is before))))

  stem_place :
      (w v : List ℕ) (u : ℕ) (ks ls : List Cut) → w ≢ [] → v ≢ [] → IsKernel (Earlier enc rules) enc rules w ks
      → IsKernel (Earlier enc rules) enc rules v ls → AreAlike enc rules ks ls → (a c : Cut) → Stem ks ls u a c → SamePlace enc rules a c
  stem_place w v u ks ls ne nf kernel other alike a c s =
      let i = kernel.cuts s.place s.cut ne s.stands in
      let j = other.cuts s.place s.other nf s.other_stands in
      subst
      (λ n. SamePlace enc rules n c) (sym s.is)
      (subst
      (λ n. SamePlace enc rules (after s.cut s.walk) n) (sym s.other_is)
      (place_longer enc rules s.cut s.other s.walk (alike_place ks ls alike s.place s.cut s.other s.stands s.other_stands)
      i.after_unit j.after_unit))

  -- The fourth step for whole kernels: alike kernels are alike after one more unit, place by place from the same places by
  -- the same walks.
  pub whole_step :
      (x : ℕ) (w : List ℕ) (o : ℕ) (v : List ℕ) (u : ℕ) (ks ls kn ln : List Cut)
      → IsKernel (Earlier enc rules) enc rules (x ∷ w) ks → IsKernel (Earlier enc rules) enc rules (o ∷ v) ls → AreAlike enc rules ks ls
      → IsKernel (Earlier enc rules) enc rules ((x ∷ w) ++ u ∷ []) kn → IsKernel (Earlier enc rules) enc rules ((o ∷ v) ++ u ∷ []) ln
      → Pairs Cut (λ k l. Stem ks ls u k l) kn ln × AreAlike enc rules kn ln
  whole_step x w o v u ks ls kn ln kernel other alike next other_next = (
    pairs,
    record {
      there = λ i c e. let r = pairs_there Cut (λ k l. Stem ks ls u k l) kn ln pairs i c e in (r.0, r.1, stem_place (x ∷ w) (o ∷ v) u ks ls (λ e. none x w e) (λ e. none o v e) kernel other alike c r.0 r.2);
      back = λ i d e. let r = pairs_back Cut (λ k l. Stem ks ls u k l) kn ln pairs i d e in (r.0, r.1, stem_place (x ∷ w) (o ∷ v) u ks ls (λ e. none x w e) (λ e. none o v e) kernel other alike r.0 d r.2);
      numbers = λ i j n a b c d ea eb ec ed. (
        λ h. there_order n a b c d (stem i a c ea ec) (stem j b d eb ed) (cut_of i a ea) (cut_of j b eb) h,
        λ h. back_order n a b c d (stem i a c ea ec) (stem j b d eb ed) (other_cut i c ec) (other_cut j d ed) h,
      );
    },
  )
    where
      none : (x : ℕ) (w : List ℕ) → x ∷ w ≡ [] → ⊥
      none x w e = cc

      cut_of : (i : ℕ) (a : Cut) → slice_get kn i ≡ Some a → IsCut enc rules ((x ∷ w) ++ u ∷ []) a
      cut_of i a e = next.cuts i a (λ e. none x (w ++ u ∷ []) e) e

      other_cut : (i : ℕ) (a : Cut) → slice_get ln i ≡ Some a → IsCut enc rules ((o ∷ v) ++ u ∷ []) a
      other_cut i a e = other_next.cuts i a (λ e. none o (v ++ u ∷ []) e) e

      there_order : (m : ℕ) (a b c d : Cut) → Stem ks ls u a c → Stem ks ls u b d → IsCut enc rules ((x ∷ w) ++ u ∷ []) a → IsCut enc rules ((x ∷ w) ++ u ∷ []) b
          → Before enc rules a b m → Before enc rules c d m
      there_order m a b c d s t ia ib h = stem_before (x ∷ w) (o ∷ v) u ks ls (λ e. none x w e) (λ e. none o v e) kernel other alike m a b c d s t ia ib h

      back_order : (m : ℕ) (a b c d : Cut) → Stem ks ls u a c → Stem ks ls u b d → IsCut enc rules ((o ∷ v) ++ u ∷ []) c → IsCut enc rules ((o ∷ v) ++ u ∷ []) d
          → Before enc rules c d m → Before enc rules a b m
      back_order m a b c d s t ic id h = stem_before (o ∷ v) (x ∷ w) u ls ks (λ e. none o v e) (λ e. none x w e) other kernel (turn_alike ks ls alike) m c d a b (turn_stem ks ls u a c s) (turn_stem ks ls u b d t) ic id h

      -- rules are those of the places
      stem_rule : (a c : Cut) → Stem ks ls u a c → a.rule ≡ c.rule
      stem_rule a c s = (stem_place (x ∷ w) (o ∷ v) u ks ls (λ e. none x w e) (λ e. none o v e) kernel other alike a c s).rule

      earlier_there : (a b c d : Cut) → Stem ks ls u a c → Stem ks ls u b d → IsCut enc rules ((x ∷ w) ++ u ∷ []) a → IsCut enc rules ((x ∷ w) ++ u ∷ []) b
          → Earlier enc rules a b → Earlier enc rules c d
      earlier_there a b c d s t ia ib h =
          ⊎_elim
          (λ lt. let e = stem_rule a c s in let f = stem_rule b d t in inl (omega arith))
          (λ q. inr (q.0, there_order q.0 a b c d s t ia ib q.1)) h

      earlier_back : (a b c d : Cut) → Stem ks ls u a c → Stem ks ls u b d → IsCut enc rules ((o ∷ v) ++ u ∷ []) c → IsCut enc rules ((o ∷ v) ++ u ∷ []) d
          → Earlier enc rules c d → Earlier enc rules a b
      earlier_back a b c d s t ia ib h =
          ⊎_elim
          (λ lt. let e = stem_rule a c s in let f = stem_rule b d t in inl (omega arith))
          (λ q. inr (q.0, back_order q.0 a b c d s t ia ib q.1)) h

      pairs : Pairs Cut (λ k l. Stem ks ls u k l) kn ln
      pairs =
          pair_up Cut (Earlier enc rules) (λ k l. Stem ks ls u k l) kn ln
          (λ i j a b lt e f. (next.ordered i j a b lt e f).0) (λ i j a b lt e f. (other_next.ordered i j a b lt e f).0)
          (λ a b m n h k. earlier_asym enc rules a b ((cut_of m.0 a m.1).reads_word ∙ sym (cut_of n.0 b n.1).reads_word) h k)
          (λ a b m n h k. earlier_asym enc rules a b ((other_cut m.0 a m.1).reads_word ∙ sym (other_cut n.0 b n.1).reads_word) h k)
          (λ a b c d ma mb mc md s t. (
            λ h. earlier_there a b c d s t (cut_of ma.0 a ma.1) (cut_of mb.0 b mb.1) h,
            λ h. earlier_back a b c d s t (other_cut mc.0 c mc.1) (other_cut md.0 d md.1) h,
          ))
          (λ a m. like_of x w o v u ks ls kn ln kernel other alike next other_next a m)
          (λ c m. let r = like_of o v x w u ls ks ln kn other kernel (turn_alike ks ls alike) other_next next c m in (r.0, r.1, turn_stem ls ks u c r.0 r.2))

      stem : (i : ℕ) (a c : Cut) → slice_get kn i ≡ Some a → slice_get ln i ≡ Some c → Stem ks ls u a c
      stem i a c e f =
          let r = pairs_there Cut (λ k l. Stem ks ls u k l) kn ln pairs i a e in
          subst (λ n. Stem ks ls u a n) (same_cut ln i i r.0 c refl r.1 f) r.2
