-- A kernel holds the cuts through which the least trees go.
use Rattle.std.specs.Prelude.{◌≡◌, ◌≢◌, ℕ, zero, suc, map, ◌<◌, ◌⊎◌, List, [], ◌∷◌, ◌++◌, Some, slice_get, refl}
use Rattle.std.proofs.Common.{sym, ap, ap₂, ◌∙◌, subst, arith, append_assoc, inl, inr, ⊎_elim}
use Rattle.std.proofs.lemmas.Bool.{cases_order}
use Rattle.lx_base.specs.declared.settings.Enc.{Enc}
use Rattle.lx_regex.specs.Cut.{Cut, EndsInUnit, Finishes, GoesOn, IsCut, Precedes, SamePlace, last_part}
use Rattle.lx_regex.specs.Dictionary.{IsBefore}
use Rattle.lx_regex.specs.Kernel.{IsKernel}
use Rattle.lx_regex.specs.Script.{Symbol, begins, choices, ends, picks, reads, sets, units, unsets}
use Rattle.lx_regex.specs.Term.{Term}
use Rattle.lx_regex.proofs.KernelCuts.Cuts.{cuts_differ, last_append, not_least, place_back, place_goes}
use Rattle.lx_regex.proofs.Walks.Fronts.{DiffersBefore, choices_append, differs-before}
use Rattle.lx_regex.proofs.Walks.PlainWalk.{units_append}
use Rattle.lx_regex.proofs.Walks.Scripts.{differs_is_before}

-- a list cut after the last of some of its units
pub record Parted (l : List Symbol) (w v : List ℕ) : Type 0 where
  pub fore : List Symbol
  pub unit : ℕ
  pub mid : List Symbol
  pub is : l ≡ (fore ++ reads unit ∷ []) ++ mid
  pub first : units (fore ++ reads unit ∷ []) ≡ w
  pub then : units mid ≡ v

behind_one : (y : Symbol) (l : List Symbol) (w v : List ℕ) → ((k : List Symbol) → units (y ∷ k) ≡ units k) → Parted l w v
    → Parted (y ∷ l) w v
behind_one y l w v quiet p =
    record {
      fore = y ∷ p.fore;
      unit = p.unit;
      mid = p.mid;
      is = ap (λ k. y ∷ k) p.is;
      first = quiet (p.fore ++ reads p.unit ∷ []) ∙ p.first;
      then = p.then;
    }

pub part_at : (l : List Symbol) (x : ℕ) (w v : List ℕ) → units l ≡ (x ∷ w) ++ v → Parted l (x ∷ w) v
part_at [] x w v e = cc
part_at (begins p ∷ l) x w v e = behind_one (begins p) l (x ∷ w) v (λ k. refl) (part_at l x w v e)
part_at (ends p ∷ l) x w v e = behind_one (ends p) l (x ∷ w) v (λ k. refl) (part_at l x w v e)
part_at (sets p ∷ l) x w v e = behind_one (sets p) l (x ∷ w) v (λ k. refl) (part_at l x w v e)
part_at (unsets p ∷ l) x w v e = behind_one (unsets p) l (x ∷ w) v (λ k. refl) (part_at l x w v e)
part_at (picks p ∷ l) x w v e = behind_one (picks p) l (x ∷ w) v (λ k. refl) (part_at l x w v e)
part_at (reads u ∷ l) x [] v e =
    let h : u ≡ x = cc in record { fore = []; unit = u; mid = l; is = refl; first = ap (λ k. k ∷ []) h; then = cc }
part_at (reads u ∷ l) x (y ∷ w) v e =
    let h : u ≡ x = cc in
    let p = part_at l y w v (cc) in
    record {
      fore = reads u ∷ p.fore;
      unit = p.unit;
      mid = p.mid;
      is = ap (λ k. reads u ∷ k) p.is;
      first = ap₂ (λ a b. a ∷ b) h p.first;
      then = p.then;
    }

-- the rest of a list that ends in a unit ends in it
pub ends_behind : (a m b : List Symbol) (u : ℕ) → a ++ m ≡ b ++ reads u ∷ [] → (units m ≡ [] → ⊥) → EndsInUnit m
ends_behind [] m b u e some = (b, u, e)
ends_behind (x ∷ a) m [] u e some = absurd (some (ap units (empty a m (cc))))
  where
    empty : (a m : List Symbol) → a ++ m ≡ [] → m ≡ []
    empty [] m e = e
    empty (x ∷ a) m e = cc
ends_behind (x ∷ a) m (y ∷ b) u e some = ends_behind a m b u (cc) some

ends_on : (a m : List Symbol) → EndsInUnit m → EndsInUnit (a ++ m)
ends_on a m is = (a ++ is.0, is.1, ap (λ k. a ++ k) is.2 ∙ sym (append_assoc a is.0 (reads is.1 ∷ [])))

module _ (enc : Enc) (rules : List Term) where
  place_on : (i j k : Cut) → SamePlace enc rules i j → SamePlace enc rules j k → SamePlace enc rules i k
  place_on i j k a b =
      record {
        rule = a.rule ∙ b.rule;
        part = a.part ∙ b.part;
        left = λ v. ((λ f. (b.left v).0 ((a.left v).0 f)), (λ f. (a.left v).1 ((b.left v).1 f)));
      }

  -- each cut of a kernel is the first at its place
  pub kernel_first :
      (w : List ℕ) (ks : List Cut) → IsKernel Precedes enc rules w ks → w ≢ [] → (i : ℕ) (j : Cut) → slice_get ks i ≡ Some j
      → (k : Cut) → IsCut enc rules w k → SamePlace enc rules j k → Precedes k j → ⊥
  kernel_first w ks kernel ne i j at k is same before =
      let r = kernel.every k ne is in
      let twice = place_on j k r.1 same (place_back enc rules r.1 k r.3) in
      ⊎_elim
      (λ e. let k' : j ≡ r.1 = same_cut e r.2 in r.4 (subst (λ n. Precedes k n) k' before))
      (λ h.
      ⊎_elim
      (λ lt. (kernel.ordered i r.0 j r.1 lt at r.2).1 twice)
      (λ gt. (kernel.ordered r.0 i r.1 j gt r.2 at).1 (place_back enc rules j r.1 twice)) h)
      (cases_order i r.0)
    where
      same_cut : {i' : ℕ} {j' : Cut} → i ≡ i' → slice_get ks i' ≡ Some j' → j ≡ j'
      same_cut {i'} {j'} e at' = let s : Some j ≡ Some j' = sym at ∙ ap (λ n. slice_get ks n) e ∙ at' in cc

  -- no plain script of the cut's rule over the same units has lesser choices
  abbrev pub HasNoLesser : Cut → List Symbol → Type 0
  HasNoLesser k rest =
      (j : Cut) (more : List Symbol) → j.rule ≡ k.rule → GoesOn enc rules j more → units (j.front ++ more) ≡ units (k.front ++ rest) → IsBefore (choices (j.front ++ more)) (choices (k.front ++ rest)) → ⊥

  -- where the least tree of some word is cut after w, the kernel of w has this cut
  pub kernel_best :
      (w : List ℕ) (ks : List Cut) → IsKernel Precedes enc rules w ks → w ≢ [] → (k : Cut) (rest : List Symbol)
      → IsCut enc rules w k → GoesOn enc rules k rest → HasNoLesser k rest
      → (i : ℕ) × (j : Cut) × (slice_get ks i ≡ Some j) × (j.rule ≡ k.rule) × (j.front ≡ k.front)
  kernel_best w ks kernel ne k rest is on least =
      let r = kernel.every k ne is in
      let j = r.1 in
      let ij = kernel.cuts r.0 j ne r.2 in
      let u : units j.front ≡ units k.front = ij.reads_word ∙ sym is.reads_word in
      ⊎_elim
      (λ e. (r.0, j, r.2, r.3.rule, e))
      (λ d. ⊎_elim
      (λ s.
      let n =
      not_least enc rules j k rest ij.possible.0 r.3 ij.after_unit is.after_unit u ij.possible.1 on
      (differs_is_before _ _ s) in
      absurd (least j rest r.3.rule n.0 n.1 n.2))
      (λ s. absurd (r.4 (inr (sym r.3.rule, differs_is_before _ _ s))))
      d)
      (cuts_differ enc rules j k ij.possible.0 rest r.3.rule ij.after_unit is.after_unit u ij.possible.1 on)

  -- more of a script in the front of a cut
  abbrev longer : Cut → List Symbol → Cut
  longer k mid = record { rule = k.rule; front = k.front ++ mid }

  goes_longer : (k : Cut) (mid rest : List Symbol) → GoesOn enc rules k (mid ++ rest) → GoesOn enc rules (longer k mid) rest
  goes_longer k mid rest go = (go.0, go.1, go.2, go.3 ∙ sym (append_assoc k.front mid rest), go.4)

  goes_shorter :
      (k : Cut) (mid rest : List Symbol) → GoesOn enc rules (longer k mid) rest → GoesOn enc rules k (mid ++ rest)
  goes_shorter k mid rest go = (go.0, go.1, go.2, go.3 ∙ append_assoc k.front mid rest, go.4)

  same_longer : (j k : Cut) (mid : List Symbol) → last_part 0 j.front ≡ last_part 0 k.front
      → last_part 0 (j.front ++ mid) ≡ last_part 0 (k.front ++ mid)
  same_longer j k mid e = last_append 0 j.front mid ∙ ap (λ p. last_part p mid) e ∙ sym (last_append 0 k.front mid)

  -- cuts at one place are at one place after the same symbols
  pub place_longer : (j k : Cut) (mid : List Symbol) → SamePlace enc rules j k → EndsInUnit j.front → EndsInUnit k.front
      → SamePlace enc rules (longer j mid) (longer k mid)
  place_longer j k mid same ij ik = record {
    rule = same.rule;
    part = same_longer j k mid same.part;
    left = λ v. (on j k same ij ik v, on k j (place_back enc rules j k same) ik ij v);
  }
    where
      on : (a b : Cut) → SamePlace enc rules a b → EndsInUnit a.front → EndsInUnit b.front → (v : List ℕ)
          → Finishes enc rules (longer a mid) v → Finishes enc rules (longer b mid) v
      on a b s ia ib v f =
          let p = last_part 0 (a.front ++ mid) in
          let go =
          goes_longer b mid _
          (place_goes enc rules a b s ia ib _ (goes_shorter a mid (map reads v ++ ends p ∷ f.0) f.1)) in
          (f.0, subst (λ q. GoesOn enc rules (longer b mid) (map reads v ++ ends q ∷ f.0)) (same_longer a b mid s.part) go)

  -- The first cut of a longer word at its place goes on from a cut of the kernel of the word before.
  pub kernel_step :
      (x : ℕ) (w : List ℕ) (y : ℕ) (v : List ℕ) (ks : List Cut) → IsKernel Precedes enc rules (x ∷ w) ks → (k : Cut)
      → IsCut enc rules ((x ∷ w) ++ y ∷ v) k
      → ((j : Cut) → IsCut enc rules ((x ∷ w) ++ y ∷ v) j → SamePlace enc rules j k → Precedes j k → ⊥)
      → (i : ℕ) × (j : Cut) × (mid : List Symbol) × (slice_get ks i ≡ Some j) × (j.rule ≡ k.rule)
      × (k.front ≡ j.front ++ mid) × (units mid ≡ y ∷ v)
  kernel_step x w y v ks kernel k is first =
      let p = part_at k.front x w (y ∷ v) is.reads_word in
      let a : Cut = record { rule = k.rule; front = p.fore ++ reads p.unit ∷ [] } in
      let rest = is.possible.0 in
      let go : GoesOn enc rules (longer a p.mid) rest =
      subst (λ l. GoesOn enc rules (record { rule = k.rule; front = l }) rest) p.is is.possible.1 in
      let ga = goes_shorter a p.mid rest go in
      let ia : EndsInUnit a.front = (p.fore, p.unit, refl) in
      let ne : x ∷ w ≢ [] = λ e. some e in
      let r = kernel.every a ne (record { reads_word = p.first; after_unit = ia; possible = (p.mid ++ rest, ga) }) in
      let j = r.1 in
      let ij = kernel.cuts r.0 j ne r.2 in
      let u : units j.front ≡ units a.front = ij.reads_word ∙ sym p.first in
      ⊎_elim
      (λ e. (r.0, j, p.mid, r.2, r.3.rule, p.is ∙ ap (λ l. l ++ p.mid) (sym e), p.then))
      (λ d. ⊎_elim
      (λ s. absurd (before j ij p r.3 ga s))
      (λ s. absurd (r.4 (inr (sym r.3.rule, differs_is_before _ _ s))))
      d)
      (cuts_differ enc rules j a ij.possible.0 (p.mid ++ rest) r.3.rule ij.after_unit ia u ij.possible.1 ga)
    where
      some : x ∷ w ≡ [] → ⊥
      some e = cc

      none : y ∷ v ≡ [] → ⊥
      none e = cc

      before : (j : Cut) → IsCut enc rules (x ∷ w) j → (p : Parted k.front (x ∷ w) (y ∷ v))
          → SamePlace enc rules j (record { rule = k.rule; front = p.fore ++ reads p.unit ∷ [] })
          → GoesOn enc rules (record { rule = k.rule; front = p.fore ++ reads p.unit ∷ [] }) (p.mid ++ is.possible.0)
          → DiffersBefore (choices j.front) (choices (p.fore ++ reads p.unit ∷ [])) → ⊥
      before j ij p same ga s =
          let a : Cut = record { rule = k.rule; front = p.fore ++ reads p.unit ∷ [] } in
          let rest = is.possible.0 in
          let ia : EndsInUnit a.front = (p.fore, p.unit, refl) in
          let on =
          goes_longer j p.mid rest
          (place_goes enc rules a j (place_back enc rules j a same) ia ij.after_unit (p.mid ++ rest) ga) in
          let ends' =
          ends_behind a.front p.mid is.after_unit.0 is.after_unit.1
          (sym p.is ∙ is.after_unit.2) (λ e. none (sym p.then ∙ e)) in
          let place =
          subst
          (λ l. SamePlace enc rules (longer j p.mid) (record { rule = k.rule; front = l })) (sym p.is)
          (place_longer j a p.mid same ij.after_unit ia) in
          let b = differs-before (choices j.front) (choices a.front) (choices p.mid) (choices p.mid) s in
          let b' : IsBefore (choices (j.front ++ p.mid)) (choices k.front) =
          subst
          (λ n. IsBefore n (choices k.front)) (sym (choices_append j.front p.mid))
          (subst
          (λ n. IsBefore (choices j.front ++ choices p.mid) n)
          (sym (ap choices p.is ∙ choices_append a.front p.mid)) b) in
          first (longer j p.mid) (record {
            reads_word = units_append j.front p.mid ∙ ap₂ (λ m n. m ++ n) ij.reads_word p.then;
            after_unit = ends_on j.front p.mid ends';
            possible = (rest, on);
          }) place (inr (same.rule, b'))

pub before_asym : (xs ys : List ℕ) → IsBefore xs ys → IsBefore ys xs → ⊥
before_asym [] [] a b = a
before_asym [] (y ∷ ys) a b = b
before_asym (x ∷ xs) [] a b = a
before_asym (x ∷ xs) (y ∷ ys) a b =
    ⊎_elim
    (λ lt. ⊎_elim (λ gt. absurd (omega arith)) (λ k. let e = k.0 in absurd (omega arith)) b)
    (λ k. let e = k.0 in ⊎_elim (λ gt. absurd (omega arith)) (λ j. before_asym xs ys k.1 j.1) b)
    a

pub precedes_asym : (j k : Cut) → Precedes j k → Precedes k j → ⊥
precedes_asym j k a b =
    ⊎_elim
    (λ lt. ⊎_elim (λ gt. absurd (omega arith)) (λ m. let e = m.0 in absurd (omega arith)) b)
    (λ m.
    let e = m.0 in ⊎_elim (λ gt. absurd (omega arith)) (λ n. before_asym (choices j.front) (choices k.front) m.1 n.1) b)
    a

-- two ascending lists with the same members are the same
module _ (A : Type 0) (R : A → A → Type 0) (asym : (x y : A) → R x y → R y x → ⊥) where
  abbrev Ascends : List A → Type 0
  Ascends xs = (i j : ℕ) (x y : A) → i < j → slice_get xs i ≡ Some x → slice_get xs j ≡ Some y → R x y

  abbrev Member : A → List A → Type 0
  Member x xs = (i : ℕ) × (slice_get xs i ≡ Some x)

  tail_ascends : (x : A) (xs : List A) → Ascends (x ∷ xs) → Ascends xs
  tail_ascends x xs h i j a b lt e f = h (suc i) (suc j) a b (omega arith) e f

  -- a member is the head, or stands behind it
  member_cases : (x : A) (xs : List A) (y : A) → Ascends (x ∷ xs) → Member y (x ∷ xs) → (y ≡ x) ⊎ (R x y × Member y xs)
  member_cases x xs y h m = at m.0 m.1
    where
      at : (i : ℕ) → slice_get (x ∷ xs) i ≡ Some y → (y ≡ x) ⊎ (R x y × Member y xs)
      at zero e = inl (cc)
      at (suc i) e = inr (h 0 (suc i) x y (omega arith) refl e, (i, e))

  tail_members :
      (x : A) (xs ys : List A) → Ascends (x ∷ xs) → Ascends (x ∷ ys) → ((z : A) → Member z (x ∷ xs) → Member z (x ∷ ys))
      → (z : A) → Member z xs → Member z ys
  tail_members x xs ys h k to z m =
      let r : R x z = h 0 (suc m.0) x z (omega arith) refl m.1 in
      ⊎_elim
      (λ e. absurd (asym x x (subst (λ n. R x n) e r) (subst (λ n. R x n) e r))) (λ q. q.1)
      (member_cases x ys z k (to z (suc m.0, m.1)))

  ascending_same : (xs ys : List A) → Ascends xs → Ascends ys → ((z : A) → Member z xs → Member z ys)
      → ((z : A) → Member z ys → Member z xs) → xs ≡ ys
  ascending_same [] [] h k to from = refl
  ascending_same [] (y ∷ ys) h k to from = let m = from y (0, refl) in absurd (no m.0 m.1)
    where
      no : (i : ℕ) → slice_get [] i ≡ Some y → ⊥
      no i e = cc
  ascending_same (x ∷ xs) [] h k to from = let m = to x (0, refl) in absurd (no m.0 m.1)
    where
      no : (i : ℕ) → slice_get [] i ≡ Some x → ⊥
      no i e = cc
  ascending_same (x ∷ xs) (y ∷ ys) h k to from =
      let e : x ≡ y =
      ⊎_elim
      (λ e. e) (λ a. ⊎_elim (λ e. sym e) (λ b. absurd (asym x y b.0 a.0)) (member_cases x xs y h (from y (0, refl))))
      (member_cases y ys x k (to x (0, refl))) in
      let k' : Ascends (x ∷ ys) = subst (λ n. Ascends (n ∷ ys)) (sym e) k in
      let to' : (z : A) → Member z (x ∷ xs) → Member z (x ∷ ys) =
      subst (λ n. (z : A) → Member z (x ∷ xs) → Member z (n ∷ ys)) (sym e) to in
      let from' : (z : A) → Member z (x ∷ ys) → Member z (x ∷ xs) =
      subst (λ n. (z : A) → Member z (n ∷ ys) → Member z (x ∷ xs)) (sym e) from in
      let t =
      ascending_same xs ys
      (tail_ascends x xs h) (tail_ascends y ys k) (tail_members x xs ys h k' to') (tail_members x ys xs k' h from') in
      ap₂ (λ a b. a ∷ b) e t

module _ (enc : Enc) (rules : List Term) where
  kernel_member :
      (w : List ℕ) (ks ls : List Cut) → IsKernel Precedes enc rules w ks → IsKernel Precedes enc rules w ls → w ≢ []
      → (k : Cut) → (i : ℕ) × (slice_get ks i ≡ Some k) → (i : ℕ) × (slice_get ls i ≡ Some k)
  kernel_member w ks ls a b ne k m =
      let is = a.cuts m.0 k ne m.1 in
      let r = b.every k ne is in
      let j = r.1 in
      let ij = b.cuts r.0 j ne r.2 in
      let first = kernel_first enc rules w ks a ne m.0 k m.1 j ij (place_back enc rules j k r.3) in
      let same : j.front ≡ k.front =
      ⊎_elim
      (λ e. e)
      (λ d.
      ⊎_elim
      (λ s. absurd (first (inr (r.3.rule, differs_is_before _ _ s))))
      (λ s. absurd (r.4 (inr (sym r.3.rule, differs_is_before _ _ s)))) d)
      (cuts_differ enc rules j k ij.possible.0 is.possible.0 r.3.rule ij.after_unit is.after_unit
      (ij.reads_word ∙ sym is.reads_word) ij.possible.1 is.possible.1) in
      (r.0, r.2 ∙ ap₂ (λ m n. Some (record { rule = m; front = n })) r.3.rule same)

  -- a word has one kernel
  pub kernel_is_unique :
      (w : List ℕ) (ks ls : List Cut) → IsKernel Precedes enc rules w ks → IsKernel Precedes enc rules w ls → ks ≡ ls
  kernel_is_unique [] ks ls a b = a.start refl ∙ sym (b.start refl)
  kernel_is_unique (x ∷ w) ks ls a b =
      ascending_same Cut Precedes precedes_asym ks ls
      (λ i j x y lt e f. (a.ordered i j x y lt e f).0) (λ i j x y lt e f. (b.ordered i j x y lt e f).0)
      (λ k m. kernel_member (x ∷ w) ks ls a b some k m) (λ k m. kernel_member (x ∷ w) ls ks b a some k m)
    where
      some : x ∷ w ≡ [] → ⊥
      some e = cc
