-- The order of two cuts depends on their fronts alone, and stays under one common walk.
use Rattle.lx_posix.specs.Walks.{depth, lowest}
use Rattle.std.specs.Prelude.{◌≡◌, ℕ, zero, suc, ◌-◌, ◌<◌, min, List, [], ◌∷◌, ◌++◌, length, refl}
use Rattle.std.proofs.Common.{sym, ap, ◌∙◌, subst, arith, ⊎_elim}
use Rattle.lx_base.specs.declared.settings.Enc.{Enc}
use Rattle.lx_regex.specs.Term.{Term}
use Rattle.lx_regex.specs.Tree.{Tree}
use Rattle.lx_regex.specs.Script.{Symbol, begins, ends, reads, sets, unsets, picks, script, units}
use Rattle.lx_regex.specs.Posix.{Shape, Shapes, size, measure, shape_among, shape_of}
use Rattle.lx_regex.proofs.PosixTrees.PosixShapes.{kids, head, tail, Same}
use Rattle.lx_regex.proofs.PosixTrees.PosixAhead.{Ahead, longer, under, behind, AheadAmong, now, on, len, at_kids, at_head, at_tail, rest_same, SameAmong}
use Rattle.lx_posix.proofs.Steps.OneMoreUnit.{ended_same, open_same}
use Rattle.lx_posix.proofs.Steps.KeptByWalk.{low}
use Rattle.lx_posix.proofs.Orders.PosixLaws.{law_third}

kids_alike : (n : ℕ) (s s' : Shape) → Same n s s' → SameAmong n (kids s) (kids s')
kids_alike n s s' h i q = sym (ap len (at_kids n s i q)) ∙ h (i ∷ q) ∙ ap len (at_kids n s' i q)

heads_alike : (n : ℕ) (ks ks' : Shapes) → SameAmong n ks ks' → Same n (head ks) (head ks')
heads_alike n ks ks' h q = sym (at_head n ks q) ∙ h 0 q ∙ at_head n ks' q

tails_alike : (n : ℕ) (ks ks' : Shapes) → SameAmong n ks ks' → SameAmong (n - size (head ks)) (tail ks) (tail ks')
tails_alike n ks ks' h i q = sym (at_tail n ks i q) ∙ h (suc i) q ∙ at_tail n ks' i q ∙ ap (λ m. len (shape_among m (tail ks') i q)) (sym (rest_same n (head ks) (head ks') (heads_alike n ks ks' h [])))

-- The order and the number are those of the lengths.
mutual
  pub ahead_alike : {n : ℕ} {s s' r r' : Shape} {k : ℕ} → Same n s r → Same n s' r' → Ahead n s s' k → Ahead n r r' k
  ahead_alike {r} {r'} h h' (longer {n} {s} {s'} l) = longer (subst (λ x. x < measure n r) (h' []) (subst (λ x. measure n s' < x) (h []) l))
  ahead_alike {r} {r'} h h' (under {n} {s} {s'} e o a) = under (sym (h []) ∙ e ∙ h' []) (open_same n s r (h []) o) (among_alike (kids_alike n s r h) (kids_alike n s' r' h') a)
  ahead_alike {r} {r'} h h' (behind {n} {s} {s'} e l a) =
      let z = ended_same n s r (h []) l in
      behind (sym (h []) ∙ e ∙ h' []) (omega arith) (among_alike (kids_alike n s r h) (kids_alike n s' r' h') a)

  among_alike : {n : ℕ} {ks ks' js js' : Shapes} {k : ℕ} → SameAmong n ks js → SameAmong n ks' js' → AheadAmong n ks ks' k → AheadAmong n js js' k
  among_alike {js} {js'} h h' (now {n} {ks} {ks'} a) = now (ahead_alike (heads_alike n ks js h) (heads_alike n ks' js' h') a)
  among_alike {js} {js'} h h' (on {n} {ks} {ks'} {k} same a) =
      let x = heads_alike n ks js h in
      let x' = heads_alike n ks' js' h' in
      let z = rest_same n (head ks) (head js) (x []) in
      let z' = rest_same n (head ks) (head ks') (same []) in
      on (λ q. sym (x q) ∙ same q ∙ x' q)
      (subst (λ m. AheadAmong m (tail js) (tail js') k) z
      (among_alike (tails_alike n ks js h) (subst (λ m. SameAmong m (tail ks') (tail js')) (sym z') (tails_alike n ks' js' h')) a))

-- what is kept behind a front is a matter of its depth and the walk
pub low_at : (b : List Symbol) (u : ℕ) (l : List Symbol) (d n : ℕ) → length (units b) ≡ n → low (suc n) d (b ++ reads u ∷ l) ≡ lowest (depth d b) (depth d b) l
low_at [] u l d zero e = refl
low_at [] u l d (suc n) e = absurd (omega arith)
low_at (reads x ∷ b) u l d zero e = absurd (omega arith)
low_at (reads x ∷ b) u l d (suc n) e = low_at b u l d n (omega arith)
low_at (begins p ∷ b) u l d n e = low_at b u l (suc d) n e
low_at (ends p ∷ b) u l d n e = low_at b u l (d - 1) n e
low_at (sets t ∷ b) u l d n e = low_at b u l d n e
low_at (unsets t ∷ b) u l d n e = low_at b u l d n e
low_at (picks t ∷ b) u l d n e = low_at b u l d n e

pub lowest_front : (y : List Symbol) (v d m : ℕ) (r r' : List Symbol) → lowest d m (y ++ reads v ∷ r) ≡ lowest d m (y ++ reads v ∷ r')
lowest_front [] v d m r r' = refl
lowest_front (reads x ∷ y) v d m r r' = refl
lowest_front (begins p ∷ y) v d m r r' = lowest_front y v (suc d) m r r'
lowest_front (ends p ∷ y) v d m r r' = lowest_front y v (d - 1) (min m (d - 1)) r r'
lowest_front (sets t ∷ y) v d m r r' = lowest_front y v d m r r'
lowest_front (unsets t ∷ y) v d m r r' = lowest_front y v d m r r'
lowest_front (picks t ∷ y) v d m r r' = lowest_front y v d m r r'

module _ (enc : Enc) {e : Term} (p : ℕ) (t t' : Tree e) where
  -- The first step of the kernel: two cuts at one depth, continued by one walk, keep their order.
  pub law_swap : (n k : ℕ) (b b' y : List Symbol) (u u' v : ℕ) (r r' : List Symbol) →
      script enc p t ≡ b ++ reads u ∷ (y ++ reads v ∷ r) → script enc p t' ≡ b' ++ reads u' ∷ (y ++ reads v ∷ r') →
      length (units b) ≡ n → length (units b') ≡ n → depth 0 b ≡ depth 0 b' →
      suc n < size (shape_of enc t) → suc n < size (shape_of enc t') → Ahead (suc n) (shape_of enc t) (shape_of enc t') k →
      (k' : ℕ) × Ahead (suc (suc n)) (shape_of enc t) (shape_of enc t') k'
  law_swap n k b b' y u u' v r r' e e' z z' d l l' a =
      let h = ap (λ x. low (suc n) 0 x) e ∙ low_at b u _ 0 n z in
      let h' = ap (λ x. low (suc n) 0 x) e' ∙ low_at b' u' _ 0 n z' in
      let s : low (suc n) 0 (script enc p t) ≡ low (suc n) 0 (script enc p t') = h ∙ ap (λ x. lowest x x (y ++ reads v ∷ r)) d ∙ lowest_front y v (depth 0 b') (depth 0 b') r r' ∙ sym h' in
      ⊎_elim (λ x. (k, x.2)) (λ x. ⊎_elim (λ w. (_, w.2)) (λ w. ⊎_elim (λ i. let j = i.0 in absurd (omega arith)) (λ i. let j = i.0 in absurd (omega arith)) w) x) (law_third enc p t t' (suc n) k (omega arith) l l' a)
