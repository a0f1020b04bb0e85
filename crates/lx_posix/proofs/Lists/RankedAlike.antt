-- The same is kept after two words exactly where their kernels have the same places in order and the same numbers.
use Rattle.std.proofs.Common.{inl, inr, sym, ap, ap₂, ◌∙◌, subst, arith, ⊎_elim}
use Rattle.std.proofs.lemmas.Bool.{cases_lt, cases_order}
use Rattle.std.specs.Prelude.{◌≡◌, ℕ, zero, suc, ◌<◌, ◌≤◌, List, [], ◌∷◌, map, Some, slice_get, refl}
use Rattle.lx_base.specs.declared.settings.Enc.{Enc}
use Rattle.lx_regex.specs.Cut.{Cut, IsCut, SamePlace}
use Rattle.lx_regex.specs.Kernel.{SamePlaces}
use Rattle.lx_regex.specs.Script.{Symbol}
use Rattle.lx_regex.specs.Term.{Term}
use Rattle.lx_tnfa.specs.LeafReadings.{IsNth, NumbersLeaves}
use Rattle.lx_tnfa.proofs.Construction.NthLists.{nth_map, nth_unmap}
use Rattle.lx_tdfa.specs.Kernels.{Entry, cut_of, places, rule_of}
use Rattle.lx_tdfa.proofs.Values.ValueSteps.{forwards}
use Rattle.lx_tdfa.proofs.WordKernels.KernelsListed.{same_number, same_place}
use Rattle.lx_tdfa.proofs.WordKernels.RunCuts.{run_cut}
use Rattle.lx_posix.specs.Comparing.{Ranked, number_between, ranked_at}
use Rattle.lx_posix.specs.KernelLists.{places_of}
use Rattle.lx_posix.specs.Numbers.{IsFirstOf}
use Rattle.lx_posix.specs.PosixKernel.{IsSameKernel}
use Rattle.lx_posix.proofs.Counted.NumbersOfCuts.{before_of}
use Rattle.lx_posix.proofs.Fronts.PartDepth.{place_depth}
use Rattle.lx_posix.proofs.Kernels.ListedKernels.{precedes_asym}
use Rattle.lx_posix.proofs.Lists.RankedCuts.{AreRanked, InOrder}
use Rattle.lx_posix.proofs.Lists.RankedSteps.{Run, nth_of_slice, slice_of_nth}
use Rattle.lx_posix.proofs.Orders.CutOrder.{one_number}

ranked_equal : (r s : Ranked) → r.rule ≡ s.rule → r.place ≡ s.place → r.depth ≡ s.depth → r.number ≡ s.number → r ≡ s
ranked_equal r s a b c d =
    ap₂ (λ x y. record { rule = x; place = y; depth = r.depth; number = r.number }) a b
    ∙ ap₂ (λ x y. record { rule = s.rule; place = s.place; depth = x; number = y }) c d

-- lists of one length with the same elements are one
equal_lists : (ss ls : List Ranked) → places_of ss ≡ places_of ls
    → ((i p : ℕ) → IsNth (places_of ss) i p → ranked_at ss i ≡ ranked_at ls i) → ss ≡ ls
equal_lists [] [] e f = refl
equal_lists [] (l ∷ ls) e f = cc
equal_lists (s ∷ ss) [] e f = cc
equal_lists (s ∷ ss) (l ∷ ls) e f = ap₂ (λ x xs. x ∷ xs) (f 0 s.place refl) (equal_lists ss ls (cc) (λ i p h. f (suc i) p h))

next_number : (ss : List Ranked) (k : ℕ) → number_between ss k (suc k) ≡ (ranked_at ss (suc k)).number
next_number [] k = refl
next_number (s ∷ []) zero = refl
next_number (s ∷ r ∷ ss) zero = refl
next_number (s ∷ ss) (suc k) = next_number ss k

nth_before : {X : Type 0} (xs : List X) (i : ℕ) (x : X) → IsNth xs (suc i) x → (y : X) × IsNth xs i y
nth_before [] i x h = absurd h
nth_before (y ∷ xs) zero x h = (y, refl)
nth_before (y ∷ xs) (suc i) x h = nth_before xs i x h

module _ (enc : Enc) (rules : List Term) (next : ℕ → ℕ → List ℕ) (added : ℕ → ℕ → ℕ → List Symbol) (number : ℕ → List Symbol → ℕ)
    (numbers : NumbersLeaves enc rules next added number) where
  abbrev AreRight : List ℕ → List Entry → List Ranked → Type 0
  AreRight w es ss = AreRanked enc rules next added number numbers w es ss

  abbrev RunTo : List ℕ → Entry → Type 0
  RunTo w e = Run enc rules next added number numbers w e.keys e.front e.place

  entry_cut : (u : ℕ) (w : List ℕ) (e : Entry) → RunTo (u ∷ w) e → IsCut enc rules (forwards (u ∷ w)) (cut_of e)
  entry_cut u w e r = run_cut enc rules next added number numbers u w e.keys e.front e.place r

  one_of : (v : List ℕ) (j k : Cut) (n m : ℕ) → IsCut enc rules v j → IsCut enc rules v k → IsFirstOf enc rules j k n
      → IsFirstOf enc rules j k m → n ≡ m
  one_of v j k n m ij ik f g =
      one_number enc rules j k n m (ij.reads_word ∙ sym ik.reads_word) (before_of enc rules v j k n ij ik f)
      (before_of enc rules v j k m ij ik g)

  same_places : (u : ℕ) (w : List ℕ) (x : ℕ) (v : List ℕ) (es ls : List Entry) → ((i : ℕ) (e : Entry) → IsNth es i e → RunTo (u ∷ w) e)
      → ((i : ℕ) (e : Entry) → IsNth ls i e → RunTo (x ∷ v) e) → places es ≡ places ls
      → SamePlaces enc rules (map cut_of es) (map cut_of ls)
  same_places u w x v [] [] f g e = tt
  same_places u w x v [] (b ∷ ls) f g e = cc
  same_places u w x v (a ∷ es) [] f g e = cc
  same_places u w x v (a ∷ es) (b ∷ ls) f g e = (
    same_place enc rules next added number numbers u w x v a.keys b.keys a.front b.front a.place b.place (f 0 a refl) (g 0 b refl) (cc),
    same_places u w x v es ls (λ i c h. f (suc i) c h) (λ i c h. g (suc i) c h) (cc),
  )

  one_places : (u : ℕ) (w : List ℕ) (x : ℕ) (v : List ℕ) (es ls : List Entry) → ((i : ℕ) (e : Entry) → IsNth es i e → RunTo (u ∷ w) e)
      → ((i : ℕ) (e : Entry) → IsNth ls i e → RunTo (x ∷ v) e) → SamePlaces enc rules (map cut_of es) (map cut_of ls)
      → places es ≡ places ls
  one_places u w x v [] [] f g e = refl
  one_places u w x v [] (b ∷ ls) f g e = absurd e
  one_places u w x v (a ∷ es) [] f g e = absurd e
  one_places u w x v (a ∷ es) (b ∷ ls) f g e =
      ap₂ (λ p ps. p ∷ ps)
      (same_number enc rules next added number numbers u w x v a.keys b.keys a.front b.front a.place b.place (f 0 a refl) (g 0 b refl) e.0)
      (one_places u w x v es ls (λ i c h. f (suc i) c h) (λ i c h. g (suc i) c h) e.1)

  -- where the same is kept a number of the one kernel is one of the other
  number_on : (u : ℕ) (w : List ℕ) (x : ℕ) (v : List ℕ) (es ls : List Entry) (ss rs : List Ranked) → AreRight (u ∷ w) es ss
      → AreRight (x ∷ v) ls rs → ss ≡ rs → (i j n : ℕ) (a b c d : Entry) → IsNth es i a → IsNth es j b → IsNth ls i c → IsNth ls j d
      → IsFirstOf enc rules (cut_of a) (cut_of b) n → IsFirstOf enc rules (cut_of c) (cut_of d) n
  number_on u w x v es ls ss rs are ar same i j n a b c d ha hb hc hd f =
      ⊎_elim
      (λ e. absurd (itself (nth_one es i a b ha (subst (λ k. IsNth es k b) (sym e) hb))))
      (λ o. ⊎_elim (λ lt. less lt (are.order i j a b lt ha hb) (ar.order i j c d lt hc hd)) (λ gt. more (are.order j i b a gt hb ha)) o)
      (cases_order i j)
    where
      ia : IsCut enc rules (forwards (u ∷ w)) (cut_of a)
      ia = entry_cut u w a (are.run i a ha)

      ib : IsCut enc rules (forwards (u ∷ w)) (cut_of b)
      ib = entry_cut u w b (are.run j b hb)

      nth_one : {X : Type 0} (xs : List X) (k : ℕ) (y z : X) → IsNth xs k y → IsNth xs k z → y ≡ z
      nth_one [] k y z h l = absurd h
      nth_one (q ∷ xs) zero y z h l = sym h ∙ l
      nth_one (q ∷ xs) (suc k) y z h l = nth_one xs k y z h l

      itself : a ≡ b → ⊥
      itself e =
          let g : IsFirstOf enc rules (cut_of b) (cut_of a) n =
          subst (λ y. IsFirstOf enc rules (cut_of y) (cut_of a) n) e (subst (λ y. IsFirstOf enc rules (cut_of a) (cut_of y) n) (sym e) f) in
          precedes_asym enc rules (forwards (u ∷ w)) (cut_of a) (cut_of b) ia ib (inr (n, f)) (inr (n, g))

      more : InOrder enc rules next added number numbers (u ∷ w) b a (number_between ss j i) → IsFirstOf enc rules (cut_of c) (cut_of d) n
      more (inl lt) = let e = f.one_rule in absurd (omega arith)
      more (inr o) = absurd (precedes_asym enc rules (forwards (u ∷ w)) (cut_of a) (cut_of b) ia ib (inr (n, f)) (inr (_, o.3)))

      less : i < j → InOrder enc rules next added number numbers (u ∷ w) a b (number_between ss i j)
          → InOrder enc rules next added number numbers (x ∷ v) c d (number_between rs i j) → IsFirstOf enc rules (cut_of c) (cut_of d) n
      less lt (inl k) q = let e = f.one_rule in absurd (omega arith)
      less lt (inr o) (inl k) =
          let e : rule_of a.keys ≡ rule_of b.keys = o.0 in
          let p : rule_of c.keys ≡ rule_of a.keys = sym (ar.rule i c hc) ∙ ap (λ l. (ranked_at l i).rule) (sym same) ∙ are.rule i a ha in
          let q : rule_of d.keys ≡ rule_of b.keys = sym (ar.rule j d hd) ∙ ap (λ l. (ranked_at l j).rule) (sym same) ∙ are.rule j b hb in
          absurd (omega arith)
      less lt (inr o) (inr q) =
          let e : number_between rs i j ≡ n =
          ap (λ l. number_between l i j) (sym same) ∙ one_of (forwards (u ∷ w)) (cut_of a) (cut_of b)
          (number_between ss i j) n ia ib o.3 f in
          subst (λ m. IsFirstOf enc rules (cut_of c) (cut_of d) m) e q.3

  module _ (u : ℕ) (w : List ℕ) (x : ℕ) (v : List ℕ) (es ls : List Entry) (ss rs : List Ranked) (are : AreRight (u ∷ w) es ss)
      (ar : AreRight (x ∷ v) ls rs) where
    pub one_kernel : ss ≡ rs → IsSameKernel enc rules (map cut_of es) (map cut_of ls)
    one_kernel e = (
      same_places u w x v es ls are.run ar.run (sym are.places ∙ ap places_of e ∙ ar.places),
      λ i j n a b c d ha hb hc hd.
          let p = nth_unmap cut_of es i a (nth_of_slice (map cut_of es) i a ha) in
          let q = nth_unmap cut_of es j b (nth_of_slice (map cut_of es) j b hb) in
          let r = nth_unmap cut_of ls i c (nth_of_slice (map cut_of ls) i c hc) in
          let s = nth_unmap cut_of ls j d (nth_of_slice (map cut_of ls) j d hd) in (
            λ f. two (cut_of r.0) (cut_of s.0) c d r.2 s.2
                (number_on u w x v es ls ss rs are ar e i j n p.0 q.0 r.0 s.0 p.1 q.1 r.1 s.1
                (two a b (cut_of p.0) (cut_of q.0) (sym p.2) (sym q.2) f)),
            λ f. two (cut_of p.0) (cut_of q.0) a b p.2 q.2
                (number_on x v u w ls es rs ss ar are (sym e) i j n r.0 s.0 p.0 q.0 r.1 s.1 p.1 q.1
                (two c d (cut_of r.0) (cut_of s.0) (sym r.2) (sym s.2) f)),
          ),
    )
      where
        two : {n : ℕ} (a b c d : Cut) → a ≡ c → b ≡ d → IsFirstOf enc rules a b n → IsFirstOf enc rules c d n
        two {n} a b c d p q f = subst (λ k. IsFirstOf enc rules k d n) p (subst (λ k. IsFirstOf enc rules a k n) q f)

    pub one_list : IsSameKernel enc rules (map cut_of es) (map cut_of ls) → ss ≡ rs
    one_list same =
        equal_lists ss rs (are.places ∙ there ∙ sym ar.places)
        (λ i p h.
        let k : IsNth (places es) i p = subst (λ l. IsNth l i p) are.places h in
        let a = nth_unmap (λ (e : Entry). e.place) es i p k in
        let b = nth_unmap (λ (e : Entry). e.place) ls i p (subst (λ l. IsNth l i p) there k) in
        at i a.0 b.0 a.1 b.1 (a.2 ∙ sym b.2))
      where
        there : places es ≡ places ls
        there = one_places u w x v es ls are.run ar.run same.0

        cut_at : (qs : List Entry) (i : ℕ) (e : Entry) → IsNth qs i e → slice_get (map cut_of qs) i ≡ Some (cut_of e)
        cut_at qs i e h = slice_of_nth (map cut_of qs) i (cut_of e) (nth_map cut_of qs i e h)

        place_at : (i : ℕ) (a b : Entry) → IsNth es i a → IsNth ls i b → a.place ≡ b.place → SamePlace enc rules (cut_of a) (cut_of b)
        place_at i a b ha hb e =
            same_place enc rules next added number numbers u w x v a.keys b.keys a.front b.front a.place b.place (are.run i a ha)
            (ar.run i b hb) e

        one_before : (k : ℕ) (a : Entry) → IsNth es k a → (b : Entry) × IsNth ls k b × (a.place ≡ b.place)
        one_before k a h =
            let p : IsNth (places ls) k a.place =
            subst (λ l. IsNth l k a.place) there (nth_map (λ (e : Entry). e.place) es k a h) in
            let b = nth_unmap (λ (e : Entry). e.place) ls k a.place p in
            (b.0, b.1, sym b.2)

        number_at : (i : ℕ) (a b : Entry) → IsNth es i a → IsNth ls i b → rule_of a.keys ≡ rule_of b.keys
            → (ranked_at ss i).number ≡ (ranked_at rs i).number
        number_at zero a b ha hb e = are.first ∙ sym ar.first
        number_at (suc k) a b ha hb e =
            let c = nth_before es k a ha in
            let d = one_before k c.0 c.1 in
            let z = (place_at k c.0 d.0 c.1 d.1 d.2).rule in
            ⊎_elim
            (λ lt. are.alone k c.0 a c.1 ha lt ∙ sym (ar.alone k d.0 b d.1 hb (omega arith)))
            (λ le. go c.0 d.0 (are.order k (suc k) c.0 a (omega arith) c.1 ha) (ar.order k (suc k) d.0 b (omega arith) d.1 hb) c.1 d.1 le z)
            (cases_lt (rule_of c.0.keys) (rule_of a.keys))
          where
            go : (c d : Entry) → InOrder enc rules next added number numbers (u ∷ w) c a (number_between ss k (suc k))
                → InOrder enc rules next added number numbers (x ∷ v) d b (number_between rs k (suc k)) → IsNth es k c → IsNth ls k d
                → rule_of a.keys ≤ rule_of c.keys → rule_of c.keys ≡ rule_of d.keys
                → (ranked_at ss (suc k)).number ≡ (ranked_at rs (suc k)).number
            go c d (inl lt) q hc hd le z = absurd (omega arith)
            go c d (inr o) (inl lt) hc hd le z = let y = o.0 in absurd (omega arith)
            go c d (inr o) (inr q) hc hd le z =
                let f =
                (same.1 k (suc k) (number_between ss k (suc k)) (cut_of c) (cut_of a) (cut_of d) (cut_of b) (cut_at es k c hc)
                (cut_at es (suc k) a ha) (cut_at ls k d hd) (cut_at ls (suc k) b hb)).0 o.3 in
                sym (next_number ss k)
                ∙ one_of (forwards (x ∷ v)) (cut_of d) (cut_of b) (number_between ss k (suc k)) (number_between rs k (suc k)) q.1 q.2 f q.3
                ∙ next_number rs k

        at : (i : ℕ) (a b : Entry) → IsNth es i a → IsNth ls i b → a.place ≡ b.place → ranked_at ss i ≡ ranked_at rs i
        at i a b ha hb e =
            let s = place_at i a b ha hb e in
            let ia = entry_cut u w a (are.run i a ha) in
            let ib = entry_cut x v b (ar.run i b hb) in
            let deep = place_depth enc rules (cut_of a) (cut_of b) ia.possible.0 s ia.after_unit ib.after_unit ia.possible.1 in
            ranked_equal (ranked_at ss i) (ranked_at rs i)
            (are.rule i a ha ∙ s.rule ∙ sym (ar.rule i b hb))
            (are.place i a ha ∙ e ∙ sym (ar.place i b hb))
            (are.depth i a ha ∙ deep ∙ sym (ar.depth i b hb))
            (number_at i a b ha hb s.rule)
