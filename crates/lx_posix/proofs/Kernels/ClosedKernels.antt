-- Kernels of some words, from which one more unit leads to none but themselves, are all that there are.
use Rattle.lx_posix.specs.Numbers.{IsFirstOf}
use Rattle.lx_posix.specs.PosixKernel.{AreClosed, ArePosixKernels, HoldEveryKernel, IsPosixKernel, IsSameKernel}
use Rattle.std.specs.Prelude.{◌≡◌, ◌≢◌, ℕ, zero, suc, List, [], ◌∷◌, ◌++◌, Some, slice_get, refl}
use Rattle.std.proofs.Common.{sym, ap, ◌∙◌, subst, arith, append_assoc, append-nil}
use Rattle.lx_base.specs.declared.settings.Enc.{Enc}
use Rattle.lx_regex.specs.Automaton.{State, automaton}
use Rattle.lx_regex.specs.Cut.{Cut, IsCut, SamePlace, last_part}
use Rattle.lx_regex.specs.Kernel.{IsWord, SamePlaces}
use Rattle.lx_regex.specs.Reading.{IsReading}
use Rattle.lx_regex.specs.Script.{Symbol}
use Rattle.lx_regex.specs.Term.{Term}
use Rattle.lx_regex.proofs.KernelCuts.Cuts.{cutting_of, front_part, paired_rules, way_of}
use Rattle.lx_regex.proofs.Walks.Fronts.{Front, by_code, by_move, no_rows, within}
use Rattle.lx_posix.proofs.Kernels.CountedKernels.{place_there, same_on}
use Rattle.lx_posix.proofs.Kernels.PosixKernels.{posix_goes_on, posix_source, posix_unique}

-- two lists of one length, of which each two members at one number answer to each other
module _ (A B : Type 0) (P : A → B → Type 0) where
  abbrev AllPaired : List A → List B → Type 0
  AllPaired [] [] = Unit {0}
  AllPaired [] (y ∷ ys) = ⊥
  AllPaired (x ∷ xs) [] = ⊥
  AllPaired (x ∷ xs) (y ∷ ys) = P x y × AllPaired xs ys

  first_at : (xs : List A) (ys : List B) → AllPaired xs ys → (i : ℕ) (y : B) → slice_get ys i ≡ Some y
      → (x : A) × (slice_get xs i ≡ Some x) × P x y
  first_at [] [] a i y e = cc
  first_at [] (z ∷ ys) a i y e = absurd a
  first_at (x ∷ xs) [] a i y e = absurd a
  first_at (x ∷ xs) (z ∷ ys) a zero y e = let k : z ≡ y = cc in (x, refl, subst (λ n. P x n) k a.0)
  first_at (x ∷ xs) (z ∷ ys) a (suc i) y e = first_at xs ys a.1 i y e

  second_at : (xs : List A) (ys : List B) → AllPaired xs ys → (i : ℕ) (x : A) → slice_get xs i ≡ Some x
      → (y : B) × (slice_get ys i ≡ Some y) × P x y
  second_at [] [] a i x e = cc
  second_at [] (z ∷ ys) a i x e = absurd a
  second_at (z ∷ xs) [] a i x e = absurd a
  second_at (z ∷ xs) (y ∷ ys) a zero x e = let k : z ≡ x = cc in (y, refl, subst (λ n. P n y) k a.0)
  second_at (z ∷ xs) (y ∷ ys) a (suc i) x e = second_at xs ys a.1 i x e

-- a front stands in a leaf
front_leaf : (enc : Enc) (states : List State) (f : ℕ) (v : List ℕ) {s : ℕ} {l : List Symbol} → Front enc states f v s l
    → (r : State) × (d : List Symbol) × (us : List ℕ) × (slice_get states f ≡ Some r) × IsReading enc r d us
front_leaf enc states f v (by_move ms m h i a) = front_leaf enc states f v a
front_leaf enc states f v (by_code r d us h c a) = front_leaf enc states f v a
front_leaf enc states f v (within at r d u us h c) = (r, d, u ∷ (us ++ v), ap (λ n. slice_get states n) (sym at) ∙ h, c)

module _ (enc : Enc) (rules : List Term) where
  -- no cut stands in part 0
  pub in_some_part : (w : List ℕ) (k : Cut) → IsCut enc rules w k → last_part 0 k.front ≡ 0 → ⊥
  in_some_part w k is e =
      let c = cutting_of enc rules k.rule k.front is.possible.0 is.after_unit (way_of enc rules k is.possible.0 is.possible.1) in
      let f = front_part enc (automaton rules) (paired_rules rules 1) c.at c.left c.front 0 in
      let l = front_leaf enc (automaton rules) c.at c.left c.front in
      let z : c.at ≡ 0 = omega arith in
      no_rows enc (automaton rules) 0 [] l.0 refl (ap (λ n. slice_get (automaton rules) n) (sym z) ∙ l.3) l.4

  place_self : (k : Cut) → SamePlace enc rules k k
  place_self k = record { rule = refl; part = refl; left = λ v. ((λ f. f), (λ f. f)) }

  places_self : (ks : List Cut) → SamePlaces enc rules ks ks
  places_self [] = tt
  places_self (k ∷ ks) = (place_self k, places_self ks)

  same_self : (ks : List Cut) → IsSameKernel enc rules ks ks
  same_self ks = (
    places_self ks,
    λ i j n a b c d ea eb ec ed.
        let x : Some a ≡ Some c = sym ea ∙ ec in
        let y : Some b ≡ Some d = sym eb ∙ ed in
        let p : a ≡ c = cc in
        let q : b ≡ d = cc in
        (at p q, at (sym p) (sym q)),
  )
    where
      at : {n : ℕ} {a b c d : Cut} → a ≡ c → b ≡ d → IsFirstOf enc rules a b n → IsFirstOf enc rules c d n
      at {n} {a} {b} {c} {d} p q h =
          subst (λ z. IsFirstOf enc rules z d n) p (subst (λ z. IsFirstOf enc rules a z n) q h)

  paired : (words : List (List ℕ)) (kernels : List (List Cut)) → ArePosixKernels enc rules words kernels
      → AllPaired (List ℕ) (List Cut) (λ w k. IsPosixKernel enc rules w k) words kernels
  paired [] [] a = tt
  paired [] (k ∷ kernels) a = absurd a
  paired (w ∷ words) [] a = absurd a
  paired (w ∷ words) (k ∷ kernels) a = (a.1, paired words kernels a.3)

  word_front : (w v : List ℕ) → IsWord enc rules (w ++ v) → IsWord enc rules w × IsWord enc rules v
  word_front [] v h = (tt, h)
  word_front (x ∷ w) v h = let r = word_front w v h.1 in ((h.0, r.0), r.1)

  head : (x : ℕ) (w : List ℕ) → x ∷ w ≡ [] → ⊥
  head x w e = cc

  nothing : (i : ℕ) (k : Cut) → slice_get [] i ≡ Some k → ⊥
  nothing i k e = cc

  one_front : (i : ℕ) (k : Cut) → slice_get (record { rule = 0; front = [] } ∷ []) i ≡ Some k → last_part 0 k.front ≡ 0
  one_front zero k e =
      let z : record { rule = 0; front = [] } ≡ k = cc in ap (λ c. last_part 0 c.front) (sym z)
  one_front (suc i) k e = absurd (nothing i k e)

  place_pair : (ks ls : List Cut) → SamePlaces enc rules ks ls → (i : ℕ) (a b : Cut) → slice_get ks i ≡ Some a → slice_get ls i ≡ Some b
      → SamePlace enc rules a b
  place_pair [] [] p i a b e f = cc
  place_pair [] (y ∷ ls) p i a b e f = absurd p
  place_pair (x ∷ ks) [] p i a b e f = absurd p
  place_pair (x ∷ ks) (y ∷ ls) p zero a b e f =
      let z : x ≡ a = cc in
      let w : y ≡ b = cc in
      subst (λ n. SamePlace enc rules n b) z (subst (λ n. SamePlace enc rules x n) w p.0)
  place_pair (x ∷ ks) (y ∷ ls) p (suc i) a b e f = place_pair ks ls p.1 i a b e f

  some_cut : (ks : List Cut) → (ks ≢ []) → (k : Cut) × (slice_get ks 0 ≡ Some k)
  some_cut [] ne = absurd (ne refl)
  some_cut (k ∷ ks) ne = (k, refl)

  abbrev Found : (kernels : List (List Cut)) → List Cut → Type 0
  Found kernels ks = (i : ℕ) × (found : List Cut) × (slice_get kernels i ≡ Some found) × IsSameKernel enc rules ks found

  pub closed_all :
      (words : List (List ℕ)) (kernels : List (List Cut)) (start : ℕ) → ((w : List ℕ) → (ks : List Cut) × IsPosixKernel enc rules w ks)
      → ArePosixKernels enc rules words kernels → AreClosed enc rules words kernels → slice_get words start ≡ Some []
      → HoldEveryKernel enc rules kernels
  closed_all words kernels start each are closed first w ks word is ne = from [] w (λ ls h l m. begin ls l) ks word is ne
    where
      begin : (ks : List Cut) → IsPosixKernel enc rules [] ks → Found kernels ks
      begin ks is =
          let s = second_at (List ℕ) (List Cut) (λ w k. IsPosixKernel enc rules w k) words kernels
          (paired words kernels are) start [] first in
          let e = posix_unique enc rules [] s.0 ks s.2 is in
          (start, s.0, s.1, subst (λ n. IsSameKernel enc rules n s.0) e (same_self s.0))

      none : (ks : List Cut) (i : ℕ) (k : Cut) → slice_get ks i ≡ Some k → ks ≡ [] → ⊥
      none [] i k e z = cc
      none (c ∷ ks) i k e z = cc

      -- from the kernel that was found the unit leads to one that was found, too
      on : (x : ℕ) (w : List ℕ) (u : ℕ) (ks next : List Cut) → IsPosixKernel enc rules (x ∷ w) ks
          → IsPosixKernel enc rules ((x ∷ w) ++ u ∷ []) next → (i : ℕ) (found : List Cut) → IsSameKernel enc rules ks found
          → (place : ℕ) (cut : Cut) → slice_get ks place ≡ Some cut → IsWord enc rules (u ∷ []) → (next ≢ [])
          → (v : List ℕ) → slice_get words i ≡ Some v → IsPosixKernel enc rules v found → Found kernels next
      on x w u ks next is next_is i found same place cut at word ne [] stands own =
          let b = place_there enc rules ks found same.0 place cut at in
          let p = place_pair ks found same.0 place cut b.0 at b.1 in
          let z = own.start refl in
          let c : slice_get (record { rule = 0; front = [] } ∷ []) place ≡ Some b.0 = ap (λ l. slice_get l place) (sym z) ∙ b.1 in
          absurd (in_some_part (x ∷ w) cut (is.cuts place cut (λ e. head x w e) at) (p.part ∙ one_front place b.0 c))
      on x w u ks next is next_is i found same place cut at word ne (y ∷ v) stands own =
          let n = each ((y ∷ v) ++ u ∷ []) in
          let g = posix_goes_on enc rules x w y v u ks found next n.0 is own same next_is n.1 in
          let h = some_cut next ne in
          let b = place_there enc rules next n.0 g.1.0 0 h.0 h.1 in
          let r = closed i (y ∷ v) u n.0 stands word n.1 (λ e. none n.0 0 b.0 b.1 e) in
          (r.0, r.1, r.2, same_on enc rules next n.0 r.1 g.1 r.3)

      step : (w : List ℕ) → ((ks : List Cut) → IsWord enc rules w → IsPosixKernel enc rules w ks → (ks ≢ []) → Found kernels ks)
          → (u : ℕ) (ks : List Cut) → IsWord enc rules (w ++ u ∷ []) → IsPosixKernel enc rules (w ++ u ∷ []) ks → (ks ≢ [])
          → Found kernels ks
      step [] all u ks word is ne = closed start [] u ks first word is ne
      step (x ∷ w) all u ks word is ne =
          let k = each (x ∷ w) in
          let h = some_cut ks ne in
          let s = posix_source enc rules x w u k.0 ks k.1 is 0 h.0 h.1 in
          let parts = word_front (x ∷ w) (u ∷ []) word in
          let f = all k.0 parts.0 k.1 (λ e. none k.0 s.place s.cut s.stands e) in
          let o = first_at (List ℕ) (List Cut) (λ w k. IsPosixKernel enc rules w k) words kernels (paired words kernels are) f.0 f.1 f.2 in
          on x w u k.0 ks k.1 is f.0 f.1 f.3 s.place s.cut s.stands parts.1 ne o.0 o.1 o.2

      from : (w v : List ℕ) → ((ks : List Cut) → IsWord enc rules w → IsPosixKernel enc rules w ks → (ks ≢ []) → Found kernels ks)
          → (ks : List Cut) → IsWord enc rules (w ++ v) → IsPosixKernel enc rules (w ++ v) ks → (ks ≢ []) → Found kernels ks
      from w [] all ks word is ne =
          all ks (word_front w [] word).0 (subst (λ l. IsPosixKernel enc rules l ks) (append-nil w) is) ne
      from w (u ∷ v) all ks word is ne =
          let e : (w ++ u ∷ []) ++ v ≡ w ++ u ∷ v = append_assoc w (u ∷ []) v in
          from (w ++ u ∷ []) v (λ ls l h m. step w all u ls l h m) ks (subst (λ l. IsWord enc rules l) (sym e) word)
          (subst (λ l. IsPosixKernel enc rules l ks) (sym e) is) ne
