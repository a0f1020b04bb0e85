-- Two walks from one place: they part at a fork, and the lengths that they make there decide.
use Rattle.std.specs.Prelude.{◌≡◌, ℕ, zero, suc, ◌-◌, ◌<◌, ◌≤◌, ◌⊎◌, List, [], ◌∷◌, nat_le, if◌then◌else◌, refl}
use Rattle.std.proofs.Common.{sym, ap, ◌∙◌, subst, arith, inl, inr, ⊎_elim, le-leb}
use Rattle.std.proofs.lemmas.Bool.{cases_lt, lt-leb}
use Rattle.lx_regex.specs.Posix.{Shape, absent, leaf, inner, Shapes, size, sizes, measure, shape_among, length_at}
use Rattle.lx_regex.proofs.PosixTrees.PosixShapes.{kids, head, tail, Open, Same}
use Rattle.lx_regex.proofs.PosixTrees.PosixAhead.{Ahead, longer, under, behind, AheadAmong, now, on, len, at_kids, at_head, at_tail, measure_zero, among_zero, SameAmong, same_kids, same_among}
use Rattle.lx_posix.proofs.Steps.OneMoreUnit.{head_tail, kids_size}

-- Within n units the ways of two shapes part under d positions that are open then; the first goes the way of the lesser
-- digit: it begins a child where the other begins a later one or none, or it goes on in a leaf where the other ends.
mutual
  pub data Fork : (n : ℕ) → Shape → Shape → (d : ℕ) → Type 0 where
    goes_on : {n m m' : ℕ} → m' < m → m' < n → Fork n (leaf m) (leaf m') 1
    tied : {n m m' : ℕ} → m' < m → 0 < n → n ≤ m' → Fork n (leaf m) (leaf m') 1
    within : {n : ℕ} {s s' : Shape} {d : ℕ} → 0 < measure n s → 0 < measure n s' → ForkAmong n (kids s) (kids s') d → Fork n s s' (suc d)

  pub data ForkAmong : (n : ℕ) → Shapes → Shapes → (d : ℕ) → Type 0 where
    child : {n : ℕ} {ks ks' : Shapes} → measure n (head ks') ≡ 0 → 0 < measure n (head ks) → ForkAmong n ks ks' 0
    in_head : {n : ℕ} {ks ks' : Shapes} {d : ℕ} → Fork n (head ks) (head ks') d → ForkAmong n ks ks' d
    behind_head : {n : ℕ} {ks ks' : Shapes} {d : ℕ} → head ks ≡ head ks' → ForkAmong (n - size (head ks)) (tail ks) (tail ks') d → ForkAmong n ks ks' d

-- one more where m units are no fewer than n
abbrev pub tick : (n m h : ℕ) → ℕ
tick n m h = if nat_le n m then suc h else 0

-- how many of the positions that are open at the fork are open after n units, in the one and in the other
abbrev mutual
  pub first_kept : {n : ℕ} {s s' : Shape} {d : ℕ} → Fork n s s' d → ℕ
  first_kept (goes_on {n} {m} {m'} l g) = tick n m 0
  first_kept (tied l z g) = 1
  first_kept (within {n} {s} {s'} a b f) = tick n (size s) (first_among f)

  pub first_among : {n : ℕ} {ks ks' : Shapes} {d : ℕ} → ForkAmong n ks ks' d → ℕ
  first_among (child a b) = 0
  first_among (in_head f) = first_kept f
  first_among (behind_head e f) = first_among f

abbrev mutual
  pub second_kept : {n : ℕ} {s s' : Shape} {d : ℕ} → Fork n s s' d → ℕ
  second_kept (goes_on {n} {m} {m'} l g) = tick n m' 0
  second_kept (tied l z g) = 1
  second_kept (within {n} {s} {s'} a b f) = tick n (size s') (second_among f)

  pub second_among : {n : ℕ} {ks ks' : Shapes} {d : ℕ} → ForkAmong n ks ks' d → ℕ
  second_among (child a b) = 0
  second_among (in_head f) = second_kept f
  second_among (behind_head e f) = second_among f

pub tick_case : (n m h : ℕ) → ((n ≤ m) × (tick n m h ≡ suc h)) ⊎ ((m < n) × (tick n m h ≡ 0))
tick_case n m h = ⊎_elim
    (λ lt. inr (lt, ap (λ b. if b then suc h else 0) (lt-leb n m lt)))
    (λ ge. inl (ge, ap (λ b. if b then suc h else 0) (le-leb n m ge)))
    (cases_lt m n)

-- the verdict, where h and h' of d positions are kept: in one leaf under different digits no length differs yet
abbrev pub Verdict : (n : ℕ) → Shape → Shape → (d h h' : ℕ) → Type 0
Verdict n s s' d h h' = ((h' < h) × Ahead n s s' h') ⊎ (((h ≡ h') × (Ahead n s s' h ⊎ ((0 < d) × (h ≡ d) × Same n s s'))) ⊎ ((h < h') × Ahead n s' s h))

abbrev VerdictAmong : (n : ℕ) → Shapes → Shapes → (d h h' : ℕ) → Type 0
VerdictAmong n ks ks' d h h' = ((h' < h) × AheadAmong n ks ks' h') ⊎ (((h ≡ h') × (AheadAmong n ks ks' h ⊎ ((0 < d) × (h ≡ d) × SameAmong n ks ks'))) ⊎ ((h < h') × AheadAmong n ks' ks h))

pub begun_open : (n : ℕ) (s : Shape) → 0 < measure n s → n ≤ size s → measure n s ≡ suc n
begun_open zero absent b h = absurd (omega arith)
begun_open zero (leaf m) b h = absurd (omega arith)
begun_open zero (inner ks) b h = absurd (omega arith)
begun_open (suc n) absent b h = absurd (omega arith)
begun_open (suc n) (leaf m) b h = omega arith
begun_open (suc n) (inner ks) b h = omega arith

pub begun_ended : (n : ℕ) (s : Shape) → 0 < measure n s → size s < n → measure n s ≡ suc (size s)
begun_ended zero s b h = absurd (omega arith)
begun_ended (suc n) absent b h = absurd (omega arith)
begun_ended (suc n) (leaf m) b h = omega arith
begun_ended (suc n) (inner ks) b h = omega arith

begun_some : (n : ℕ) (s : Shape) → 0 < measure n s → 0 < n
begun_some zero s b = let z = measure_zero s in absurd (omega arith)
begun_some (suc n) s b = omega arith

-- what both have ended within n + 1 units and were alike after n, is as long
ended_alike : (n : ℕ) (s s' : Shape) → 0 < measure (suc n) s → 0 < measure (suc n) s' → size s ≤ n → size s' ≤ n → measure n s ≡ measure n s' → size s ≡ size s'
ended_alike n absent s' b b' h h' e = absurd (omega arith)
ended_alike n (leaf m) absent b b' h h' e = absurd (omega arith)
ended_alike n (inner ks) absent b b' h h' e = absurd (omega arith)
ended_alike zero (leaf m) (leaf m') b b' h h' e = omega arith
ended_alike zero (leaf m) (inner ks') b b' h h' e = omega arith
ended_alike zero (inner ks) (leaf m') b b' h h' e = omega arith
ended_alike zero (inner ks) (inner ks') b b' h h' e = omega arith
ended_alike (suc n) (leaf m) (leaf m') b b' h h' e = omega arith
ended_alike (suc n) (leaf m) (inner ks') b b' h h' e = omega arith
ended_alike (suc n) (inner ks) (leaf m') b b' h h' e = omega arith
ended_alike (suc n) (inner ks) (inner ks') b b' h h' e = omega arith

fork_some : {n : ℕ} {s s' : Shape} {d : ℕ} → Fork n s s' d → 0 < n
fork_some (goes_on l g) = omega arith
fork_some (tied l z g) = z
fork_some (within {n} {s} a b f) = begun_some n s a

pub some_left : {n : ℕ} {ks ks' : Shapes} {d : ℕ} → ForkAmong n ks ks' d → 0 < n
some_left (child {n} {ks} {ks'} a b) = begun_some n (head ks) b
some_left (in_head f) = fork_some f
some_left (behind_head e f) = let z = some_left f in omega arith

pub leaf_longer : (n m m' : ℕ) → m' < n → m' < m → measure n (leaf m') < measure n (leaf m)
leaf_longer zero m m' g l = absurd (omega arith)
leaf_longer (suc n) m m' g l = omega arith

apart : (n m m' : ℕ) → m' < m → m ≤ n → m' ≤ n → measure n (leaf m) ≡ measure n (leaf m') → ⊥
apart zero m m' l a b h = absurd (omega arith)
apart (suc n) m m' l a b h = absurd (omega arith)

-- of what has ended nothing is kept
mutual
  pub first_none : {n : ℕ} {s s' : Shape} {d : ℕ} → (f : Fork n s s' d) → size s < n → first_kept f ≡ 0
  first_none (goes_on {n} {m} {m'} l g) h = ⊎_elim (λ a. let x = a.0 in absurd (omega arith)) (λ b. b.1) (tick_case n m 0)
  first_none (tied l z g) h = absurd (omega arith)
  first_none (within {n} {s} {s'} a b f) h = ⊎_elim (λ a. let x = a.0 in absurd (omega arith)) (λ b. b.1) (tick_case n (size s) (first_among f))

  pub first_none_among : {n : ℕ} {ks ks' : Shapes} {d : ℕ} → (f : ForkAmong n ks ks' d) → sizes ks < n → first_among f ≡ 0
  first_none_among (child a b) h = refl
  first_none_among (in_head {n} {ks} f) h = first_none f (let b = head_tail ks in omega arith)
  first_none_among (behind_head {n} {ks} e f) h = first_none_among f (let b = head_tail ks in omega arith)

  pub second_none : {n : ℕ} {s s' : Shape} {d : ℕ} → (f : Fork n s s' d) → size s' < n → second_kept f ≡ 0
  second_none (goes_on {n} {m} {m'} l g) h = ⊎_elim (λ a. let x = a.0 in absurd (omega arith)) (λ b. b.1) (tick_case n m' 0)
  second_none (tied l z g) h = absurd (omega arith)
  second_none (within {n} {s} {s'} a b f) h = ⊎_elim (λ a. let x = a.0 in absurd (omega arith)) (λ b. b.1) (tick_case n (size s') (second_among f))

  pub second_none_among : {n : ℕ} {ks ks' : Shapes} {d : ℕ} → (f : ForkAmong n ks ks' d) → sizes ks' < n → second_among f ≡ 0
  second_none_among (child a b) h = refl
  second_none_among (in_head {n} {ks} {ks'} f) h = second_none f (let b = head_tail ks' in omega arith)
  second_none_among (behind_head {n} {ks} {ks'} e f) h = second_none_among f (let b = head_tail ks' in let z = ap size e in omega arith)

-- one level up
raise : (n : ℕ) (s s' : Shape) (d h h' : ℕ) → measure n s ≡ measure n s' → Open n s → Open n s' → VerdictAmong n (kids s) (kids s') d h h' → Verdict n s s' (suc d) (suc h) (suc h')
raise n s s' d h h' e o o' v = ⊎_elim
    (λ a. inl (let x = a.0 in omega arith, under e o a.1))
    (λ r. inr (⊎_elim
    (λ a. inl (ap (λ m. suc m) a.0, ⊎_elim (λ b. inl (under e o b)) (λ b. inr (omega arith, ap (λ m. suc m) b.1, same_kids n s s' e b.2)) a.1))
    (λ a. inr (let x = a.0 in omega arith, under (sym e) o' a.1)) r)) v

flat : (n : ℕ) (s s' : Shape) (d h h' : ℕ) → measure n s ≡ measure n s' → size s < n → h ≡ 0 → h' ≡ 0 → VerdictAmong n (kids s) (kids s') d h h' → Verdict n s s' (suc d) 0 0
flat n s s' d h h' e l z z' v = ⊎_elim
    (λ a. let x = a.0 in absurd (omega arith))
    (λ r. ⊎_elim
    (λ a. ⊎_elim (λ b. inr (inl (refl, inl (behind e l (subst (λ m. AheadAmong n (kids s) (kids s') m) z b))))) (λ b. let x = b.0 in let y = b.1 in absurd (omega arith)) a.1)
    (λ a. let x = a.0 in absurd (omega arith)) r) v

verdict_as : (n : ℕ) (s s' : Shape) (d h h' g g' : ℕ) → h ≡ g → h' ≡ g' → Verdict n s s' d g g' → Verdict n s s' d h h'
verdict_as n s s' d h h' g g' e e' v = subst (λ m. Verdict n s s' d m h') (sym e) (subst (λ m. Verdict n s s' d g m) (sym e') v)

pub leaf_tied : (n m m' : ℕ) → n ≤ m → n ≤ m' → Same n (leaf m) (leaf m')
leaf_tied zero m m' h h' [] = refl
leaf_tied (suc n) m m' h h' [] = omega arith
leaf_tied n m m' h h' (i ∷ q) = refl

-- The fourth step of the law: two shapes that are alike after n units and part before the next.
mutual
  pub law_fork : {N : ℕ} {s s' : Shape} {d : ℕ} → (n : ℕ) → (f : Fork N s s' d) → N ≡ suc n → Same n s s' → Verdict N s s' d (first_kept f) (second_kept f)
  law_fork n (goes_on {n = N} {m} {m'} l g) e same = leaves n N m m' l g e (same [])
    where
      leaves : (n N m m' : ℕ) → m' < m → m' < N → N ≡ suc n → measure n (leaf m) ≡ measure n (leaf m') → Verdict N (leaf m) (leaf m') 1 (tick N m 0) (tick N m' 0)
      leaves n N m m' l g e h = ⊎_elim
          (λ a. ⊎_elim
          (λ b. let x = b.0 in absurd (omega arith))
          (λ b. let x = a.1 in let y = b.1 in inl (omega arith, subst (λ k. Ahead N (leaf m) (leaf m') k) (sym y) (longer (leaf_longer N m m' g l))))
          (tick_case N m' 0))
          (λ a. let x = a.0 in absurd (apart n m m' l (omega arith) (omega arith) h))
          (tick_case N m 0)
  law_fork n (tied {n = N} {m} {m'} l z g) e same = inr (inl (refl, inr (omega arith, refl, leaf_tied N m m' (omega arith) g)))
  law_fork n (within {n = N} {s} {s'} {d} b b' f) e same = by (law_fork_among n f e inside) (tick_case N (size s) (first_among f)) (tick_case N (size s') (second_among f))
    where
      inside : (i : ℕ) (q : List ℕ) → len (shape_among n (kids s) i q) ≡ len (shape_among n (kids s') i q)
      inside i q = sym (ap len (at_kids n s i q)) ∙ same (i ∷ q) ∙ ap len (at_kids n s' i q)

      alike : size s ≤ n → size s' ≤ n → size s ≡ size s'
      alike h h' = ended_alike n s s' (subst (λ m. 0 < measure m s) e b) (subst (λ m. 0 < measure m s') e b') h h' (same [])

      by : VerdictAmong N (kids s) (kids s') d (first_among f) (second_among f) → ((N ≤ size s) × (tick N (size s) (first_among f) ≡ suc (first_among f))) ⊎ ((size s < N) × (tick N (size s) (first_among f) ≡ 0)) → ((N ≤ size s') × (tick N (size s') (second_among f) ≡ suc (second_among f))) ⊎ ((size s' < N) × (tick N (size s') (second_among f) ≡ 0)) → Verdict N s s' (suc d) (tick N (size s) (first_among f)) (tick N (size s') (second_among f))
      by v (inl a) (inl a') = verdict_as N s s' (suc d) _ _ _ _ a.1 a'.1 (raise N s s' d _ _ (begun_open N s b a.0 ∙ sym (begun_open N s' b' a'.0)) (omega arith, a.0) (omega arith, a'.0) v)
      by v (inl a) (inr a') =
          let x = begun_open N s b a.0 in let y = begun_ended N s' b' a'.0 in let z = a'.0 in
          verdict_as N s s' (suc d) _ _ _ _ a.1 a'.1 (inl (omega arith, longer (omega arith)))
      by v (inr a) (inl a') =
          let x = begun_open N s' b' a'.0 in let y = begun_ended N s b a.0 in let z = a.0 in
          verdict_as N s s' (suc d) _ _ _ _ a.1 a'.1 (inr (inr (omega arith, longer (omega arith))))
      by v (inr a) (inr a') =
          let x = a.0 in let y = a'.0 in
          let k = kids_size s in let k' = kids_size s' in
          let z = alike (omega arith) (omega arith) in
          verdict_as N s s' (suc d) _ _ _ _ a.1 a'.1 (flat N s s' d _ _ (begun_ended N s b a.0 ∙ ap (λ m. suc m) z ∙ sym (begun_ended N s' b' a'.0)) a.0 (first_none_among f (omega arith)) (second_none_among f (omega arith)) v)

  law_fork_among : {N : ℕ} {ks ks' : Shapes} {d : ℕ} → (n : ℕ) → (f : ForkAmong N ks ks' d) → N ≡ suc n → ((i : ℕ) (q : List ℕ) → len (shape_among n ks i q) ≡ len (shape_among n ks' i q)) → VerdictAmong N ks ks' d (first_among f) (second_among f)
  law_fork_among n (child {n = N} {ks} {ks'} a b) e same = inr (inl (refl, inl (now (longer (omega arith)))))
  law_fork_among n (in_head {n = N} {ks} {ks'} {d} f) e same =
      ⊎_elim
      (λ a. inl (a.0, now a.1))
      (λ r. inr (⊎_elim
      (λ a. inl (a.0, ⊎_elim (λ b. inl (now b)) (λ b. inr (b.0, b.1, none_behind b.2 b.0 b.1)) a.1))
      (λ a. inr (a.0, now a.1)) r))
      (law_fork n f e heads)
    where
      heads : (q : List ℕ) → length_at n (head ks) q ≡ length_at n (head ks') q
      heads q = sym (at_head n ks q) ∙ same 0 q ∙ at_head n ks' q

      nothing : (m : ℕ) → m ≡ 0 → SameAmong m (tail ks) (tail ks')
      nothing m z i q = ap (λ x. len (shape_among x (tail ks) i q)) z ∙ among_zero (tail ks) i q ∙ sym (among_zero (tail ks') i q) ∙ sym (ap (λ x. len (shape_among x (tail ks') i q)) z)

      -- the head is open, so nothing has begun behind it
      none_behind : Same N (head ks) (head ks') → 0 < d → first_kept f ≡ d → SameAmong N ks ks'
      none_behind h z k = ⊎_elim
          (λ lt. let x = first_none f lt in absurd (omega arith))
          (λ ge. same_among N ks ks' h (nothing (N - size (head ks)) (omega arith)))
          (cases_lt (size (head ks)) N)
  law_fork_among n (behind_head {n = N} {ks} {ks'} {d} h f) e same =
      ⊎_elim
      (λ a. inl (a.0, on heads a.1))
      (λ r. inr (⊎_elim
      (λ a. inl (a.0, ⊎_elim (λ b. inl (on heads b)) (λ b. inr (b.0, b.1, same_among N ks ks' heads b.2)) a.1))
      (λ a. inr (a.0, on (λ q. sym (heads q)) (subst (λ m. AheadAmong m (tail ks') (tail ks) (first_among f)) (ap (λ s. N - size s) h) a.1))) r))
      (law_fork_among (n - size (head ks)) f (let z = some_left f in omega arith) tails)
    where
      heads : (q : List ℕ) → length_at N (head ks) q ≡ length_at N (head ks') q
      heads q = ap (λ s. length_at N s q) h

      tails : (i : ℕ) (q : List ℕ) → len (shape_among (n - size (head ks)) (tail ks) i q) ≡ len (shape_among (n - size (head ks)) (tail ks') i q)
      tails i q = sym (at_tail n ks i q) ∙ same (suc i) q ∙ at_tail n ks' i q ∙ ap (λ s. len (shape_among (n - size s) (tail ks') i q)) (sym h)
