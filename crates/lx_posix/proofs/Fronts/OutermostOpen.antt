-- The positions that are open in both before the first difference are the outermost ones, and the first difference lasts.
use Rattle.std.specs.Prelude.{◌≡◌, ℕ, zero, suc, ◌-◌, ◌<◌, ◌≤◌, ◌⊎◌, List, [], ◌∷◌, refl}
use Rattle.std.proofs.Common.{sym, ap, ◌∙◌, subst, arith, inl, inr, ⊎_elim}
use Rattle.lx_regex.specs.Dictionary.{IsBefore}
use Rattle.lx_regex.specs.Posix.{Shape, absent, leaf, inner, Shapes, none, more, size, sizes, measure, shape_among, length_at}
use Rattle.lx_regex.proofs.PosixTrees.PosixShapes.{kids, head, tail, Open, OpenAt}
use Rattle.lx_regex.proofs.PosixTrees.PosixAhead.{Ahead, longer, under, behind, AheadAmong, now, on, len, at_kids, at_head}
use Rattle.lx_posix.proofs.Steps.OneMoreUnit.{ended_same, open_same, ended_head, closed_zero}

-- the position of the first difference
abbrev mutual
  pub place : {n : ℕ} {s s' : Shape} {k : ℕ} → Ahead n s s' k → List ℕ
  place (longer h) = []
  place (under e o a) = (place_among a).0 ∷ (place_among a).1
  place (behind e h a) = (place_among a).0 ∷ (place_among a).1

  pub place_among : {n : ℕ} {ks ks' : Shapes} {k : ℕ} → AheadAmong n ks ks' k → ℕ × List ℕ
  place_among (now a) = (0, place a)
  place_among (on same a) = (suc (place_among a).0, (place_among a).1)

-- q is a front of p, shorter than k
abbrev pub Outer : (k : ℕ) (p q : List ℕ) → Type 0
Outer zero p q = ⊥
Outer (suc k) p [] = Unit {0}
Outer (suc k) [] (j ∷ q) = ⊥
Outer (suc k) (i ∷ p) (j ∷ q) = (i ≡ j) × Outer k p q

abbrev pub op : ℕ × Shape → Type 0
op x = Open x.0 x.1

no_outer : (k : ℕ) (p q : List ℕ) → k ≡ 0 → Outer k p q → ⊥
no_outer zero p q z o = o
no_outer (suc k) p q z o = absurd (omega arith)

-- what has ended has nothing open
mutual
  pub ended_open : (n : ℕ) (s : Shape) (q : List ℕ) → size s < n → OpenAt n s q → ⊥
  ended_open n s [] h o = let a = o.1 in absurd (omega arith)
  ended_open n absent (i ∷ q) h o = let a = o.0 in absurd (omega arith)
  ended_open n (leaf m) (i ∷ q) h o = let a = o.0 in absurd (omega arith)
  ended_open n (inner ks) (i ∷ q) h o = ended_among n ks i q h o

  pub ended_among : (n : ℕ) (ks : Shapes) (i : ℕ) (q : List ℕ) → sizes ks < n → op (shape_among n ks i q) → ⊥
  ended_among n none i q h o = let a = o.0 in absurd (omega arith)
  ended_among n (more s ks) zero q h o = ended_open n s q (omega arith) o
  ended_among n (more s ks) (suc i) q h o = ended_among (n - size s) ks i q (omega arith) o

pub to_head : (n : ℕ) (ks : Shapes) (q : List ℕ) → op (shape_among n ks 0 q) → OpenAt n (head ks) q
to_head n none [] o = let a = o.0 in absurd (omega arith)
to_head n none (i ∷ q) o = o
to_head n (more s ks) q o = o

pub from_head : (n : ℕ) (ks : Shapes) (q : List ℕ) → OpenAt n (head ks) q → op (shape_among n ks 0 q)
from_head n none [] o = let a = o.0 in let b = o.1 in absurd (omega arith)
from_head n none (i ∷ q) o = o
from_head n (more s ks) q o = o

pub tail_at : (n : ℕ) (ks : Shapes) (i : ℕ) (q : List ℕ) → shape_among n ks (suc i) q ≡ shape_among (n - size (head ks)) (tail ks) i q
tail_at n none i q = refl
tail_at n (more s ks) i q = refl

pub other_tail : (n : ℕ) (s : Shape) (ks' : Shapes) (i : ℕ) (q : List ℕ) → size (head ks') ≡ size s → shape_among n ks' (suc i) q ≡ shape_among (n - size s) (tail ks') i q
other_tail n s ks' i q e = tail_at n ks' i q ∙ ap (λ m. shape_among (n - m) (tail ks') i q) e

-- The first step of the law: exactly the outermost k positions above the first difference are open in both before it.
mutual
  pub outer_open : {n : ℕ} {s s' : Shape} {k : ℕ} → (a : Ahead n s s' k) → (q : List ℕ) → Outer k (place a) q → OpenAt n s q × OpenAt n s' q × IsBefore q (place a)
  outer_open (longer h) q c = absurd c
  outer_open (behind {n} {s} {s'} {k} e h a) q c = absurd (no_outer k _ q (closed_zero (behind e h a) h) c)
  outer_open (under {n} {s} {s'} e o a) [] c = (o, open_same n s s' e o, tt)
  outer_open (under {n} {s} {s'} {k} e o a) (j ∷ q) c =
      let i = (place_among a).0 in
      let r = outer_among a q c.1 in
      (subst op (sym (at_kids n s j q)) (subst (λ m. op (shape_among n (kids s) m q)) c.0 r.0), subst op (sym (at_kids n s' j q)) (subst (λ m. op (shape_among n (kids s') m q)) c.0 r.1), inr (sym c.0, r.2))

  outer_among : {n : ℕ} {ks ks' : Shapes} {k : ℕ} → (a : AheadAmong n ks ks' k) → (q : List ℕ) → Outer k (place_among a).1 q → op (shape_among n ks (place_among a).0 q) × op (shape_among n ks' (place_among a).0 q) × IsBefore q (place_among a).1
  outer_among (now {n} {ks} {ks'} a) q c = let r = outer_open a q c in (from_head n ks q r.0, from_head n ks' q r.1, r.2)
  outer_among (on {n} {ks} {ks'} same a) q c =
      let r = outer_among a q c in
      let z = ended_same n (head ks) (head ks') (same []) (ended_head n (head ks) (tail ks) (tail ks') a) in
      (subst op (sym (tail_at n ks _ q)) r.0, subst op (sym (other_tail n (head ks) ks' _ q z)) r.1, r.2)

mutual
  pub open_outer : {n : ℕ} {s s' : Shape} {k : ℕ} → (a : Ahead n s s' k) → (q : List ℕ) → OpenAt n s q → IsBefore q (place a) → Outer k (place a) q
  open_outer (longer h) [] o b = absurd b
  open_outer (longer h) (j ∷ q) o b = absurd b
  open_outer (behind {n} {s} e h a) q o b = absurd (ended_open n s q h o)
  open_outer (under e o' a) [] o b = tt
  open_outer (under {n} {s} e o' a) (j ∷ q) o b = open_among a j q (subst op (at_kids n s j q) o) b

  open_among : {n : ℕ} {ks ks' : Shapes} {k : ℕ} → (a : AheadAmong n ks ks' k) → (j : ℕ) (q : List ℕ) → op (shape_among n ks j q) → (j < (place_among a).0) ⊎ ((j ≡ (place_among a).0) × IsBefore q (place_among a).1) → ((place_among a).0 ≡ j) × Outer k (place_among a).1 q
  open_among (now {n} {ks} a) zero q o b = (refl, open_outer a q (to_head n ks q o) (⊎_elim (λ lt. absurd (omega arith)) (λ r. r.1) b))
  open_among (now a) (suc j) q o b = ⊎_elim (λ lt. absurd (omega arith)) (λ r. let z = r.0 in absurd (omega arith)) b
  open_among (on {n} {ks} {ks'} same a) zero q o b = absurd (ended_open n (head ks) q (ended_head n (head ks) (tail ks) (tail ks') a) (to_head n ks q o))
  open_among (on {n} {ks} same a) (suc j) q o b =
      let r = open_among a j q (subst op (tail_at n ks j q) o) (⊎_elim (λ lt. inl (omega arith)) (λ r. let z = r.0 in inr (omega arith, r.1)) b) in
      (ap (λ m. suc m) r.0, r.1)

-- the same lengths before it
not_before : (q : List ℕ) → IsBefore q [] → ⊥
not_before [] h = h
not_before (i ∷ q) h = h

mutual
  pub first_place : {n : ℕ} {s s' : Shape} {k : ℕ} → (a : Ahead n s s' k) → (q : List ℕ) → IsBefore q (place a) → length_at n s q ≡ length_at n s' q
  first_place (longer h) q b = absurd (not_before q b)
  first_place (under e o a) [] b = e
  first_place (under {n} {s} {s'} e o a) (j ∷ q) b = ap len (at_kids n s j q) ∙ first_among a j q b ∙ sym (ap len (at_kids n s' j q))
  first_place (behind e h a) [] b = e
  first_place (behind {n} {s} {s'} e h a) (j ∷ q) b = ap len (at_kids n s j q) ∙ first_among a j q b ∙ sym (ap len (at_kids n s' j q))

  first_among : {n : ℕ} {ks ks' : Shapes} {k : ℕ} → (a : AheadAmong n ks ks' k) → (j : ℕ) (q : List ℕ) → (j < (place_among a).0) ⊎ ((j ≡ (place_among a).0) × IsBefore q (place_among a).1) → len (shape_among n ks j q) ≡ len (shape_among n ks' j q)
  first_among (now {n} {ks} {ks'} a) zero q b = at_head n ks q ∙ first_place a q (⊎_elim (λ lt. absurd (omega arith)) (λ r. r.1) b) ∙ sym (at_head n ks' q)
  first_among (now a) (suc j) q b = ⊎_elim (λ lt. absurd (omega arith)) (λ r. let z = r.0 in absurd (omega arith)) b
  first_among (on {n} {ks} {ks'} same a) zero q b = at_head n ks q ∙ same q ∙ sym (at_head n ks' q)
  first_among (on {n} {ks} {ks'} same a) (suc j) q b =
      let z = ended_same n (head ks) (head ks') (same []) (ended_head n (head ks) (tail ks) (tail ks') a) in
      ap len (tail_at n ks j q) ∙ first_among a j q (⊎_elim (λ lt. inl (omega arith)) (λ r. let z = r.0 in inr (omega arith, r.1)) b) ∙ sym (ap len (other_tail n (head ks) ks' j q z))

-- The second step: the first difference is one, the same way round, after any further units.
measure_lasts : (n N : ℕ) (s s' : Shape) → n ≤ N → measure n s' < measure n s → measure N s' < measure N s
measure_lasts zero N absent s' l h = absurd (omega arith)
measure_lasts zero N (leaf m) s' l h = absurd (omega arith)
measure_lasts zero N (inner ks) s' l h = absurd (omega arith)
measure_lasts (suc n) zero s s' l h = absurd (omega arith)
measure_lasts (suc n) (suc N) absent s' l h = absurd (omega arith)
measure_lasts (suc n) (suc N) (leaf m) absent l h = omega arith
measure_lasts (suc n) (suc N) (leaf m) (leaf m') l h = omega arith
measure_lasts (suc n) (suc N) (leaf m) (inner ks) l h = omega arith
measure_lasts (suc n) (suc N) (inner ks) absent l h = omega arith
measure_lasts (suc n) (suc N) (inner ks) (leaf m') l h = omega arith
measure_lasts (suc n) (suc N) (inner ks) (inner ks') l h = omega arith

lasts_kids : (N : ℕ) (s s' : Shape) (i : ℕ) (q : List ℕ) → len (shape_among N (kids s') i q) < len (shape_among N (kids s) i q) → length_at N s' (i ∷ q) < length_at N s (i ∷ q)
lasts_kids N s s' i q h = subst (λ x. len x < length_at N s (i ∷ q)) (sym (at_kids N s' i q)) (subst (λ x. len (shape_among N (kids s') i q) < len x) (sym (at_kids N s i q)) h)

mutual
  pub lasts : {n : ℕ} {s s' : Shape} {k : ℕ} → (N : ℕ) → n ≤ N → (a : Ahead n s s' k) → length_at N s' (place a) < length_at N s (place a)
  lasts N l (longer {n} {s} {s'} h) = measure_lasts n N s s' l h
  lasts N l (under {n} {s} {s'} e o a) = lasts_kids N s s' _ _ (lasts_among N l a)
  lasts N l (behind {n} {s} {s'} e h a) = lasts_kids N s s' _ _ (lasts_among N l a)

  lasts_among : {n : ℕ} {ks ks' : Shapes} {k : ℕ} → (N : ℕ) → n ≤ N → (a : AheadAmong n ks ks' k) → len (shape_among N ks' (place_among a).0 (place_among a).1) < len (shape_among N ks (place_among a).0 (place_among a).1)
  lasts_among N l (now {n} {ks} {ks'} a) = subst (λ x. x < len (shape_among N ks 0 (place a))) (sym (at_head N ks' (place a))) (subst (λ x. length_at N (head ks') (place a) < x) (sym (at_head N ks (place a))) (lasts N l a))
  lasts_among N l (on {n} {ks} {ks'} same a) =
      let z = ended_same n (head ks) (head ks') (same []) (ended_head n (head ks) (tail ks) (tail ks') a) in
      let i = (place_among a).0 in let q = (place_among a).1 in
      subst (λ x. len x < len (shape_among N ks (suc i) q)) (sym (other_tail N (head ks) ks' i q z)) (subst (λ x. len (shape_among (N - size (head ks)) (tail ks') i q) < len x) (sym (tail_at N ks i q)) (lasts_among (N - size (head ks)) (omega arith) a))
