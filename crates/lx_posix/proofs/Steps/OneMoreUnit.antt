-- One more unit: how the POSIX order of two cuts goes on.
use Rattle.std.specs.Prelude.{◌≡◌, ℕ, zero, suc, ◌+◌, ◌-◌, ◌<◌, ◌≤◌, ◌⊎◌, List, [], ◌∷◌, refl}
use Rattle.std.proofs.Common.{sym, ap, ◌∙◌, subst, arith, inl, inr, ⊎_elim}
use Rattle.std.proofs.lemmas.Bool.{cases_lt}
use Rattle.lx_regex.specs.Posix.{Shape, absent, leaf, inner, Shapes, none, more, size, sizes, measure, shape_among, length_at}
use Rattle.lx_regex.proofs.PosixTrees.PosixShapes.{kids, head, tail, Open, Same}
use Rattle.lx_regex.proofs.PosixTrees.PosixAhead.{Ahead, longer, under, behind, AheadAmong, now, on, len, none_among}

-- The outermost h of the open positions stay open under one more unit.
mutual
  pub data Kept : (n : ℕ) → Shape → (h : ℕ) → Type 0 where
    shut : {n : ℕ} {s : Shape} → size s ≤ n → Kept n s 0
    still : {n : ℕ} {s : Shape} {h : ℕ} → n < size s → KeptAmong n (kids s) h → Kept n s (suc h)

  pub data KeptAmong : (n : ℕ) → Shapes → (h : ℕ) → Type 0 where
    bottom : {n : ℕ} → KeptAmong n none 0
    this : {n : ℕ} {ks : Shapes} {h : ℕ} → n ≤ size (head ks) → Kept n (head ks) h → KeptAmong n ks h
    past : {n : ℕ} {ks : Shapes} {h : ℕ} → size (head ks) < n → KeptAmong (n - size (head ks)) (tail ks) h → KeptAmong n ks h

-- The outermost k open positions are the same in both, with nothing different before them.
mutual
  pub data Shared : (n : ℕ) → Shape → Shape → (k : ℕ) → Type 0 where
    any : {n : ℕ} {s s' : Shape} → Shared n s s' 0
    level : {n : ℕ} {s s' : Shape} {k : ℕ} → measure n s ≡ measure n s' → Open n s → Open n s' → SharedAmong n (kids s) (kids s') k → Shared n s s' (suc k)

  pub data SharedAmong : (n : ℕ) → Shapes → Shapes → (k : ℕ) → Type 0 where
    any_among : {n : ℕ} {ks ks' : Shapes} → SharedAmong n ks ks' 0
    here : {n : ℕ} {ks ks' : Shapes} {k : ℕ} → Shared n (head ks) (head ks') k → SharedAmong n ks ks' k
    later : {n : ℕ} {ks ks' : Shapes} {k : ℕ} → size (head ks) < n → Same n (head ks) (head ks') → SharedAmong (n - size (head ks)) (tail ks) (tail ks') k → SharedAmong n ks ks' k

pub head_tail : (ks : Shapes) → size (head ks) + sizes (tail ks) ≡ sizes ks
head_tail none = refl
head_tail (more s ks) = refl

pub kids_size : (s : Shape) → sizes (kids s) ≤ size s
kids_size absent = omega arith
kids_size (leaf m) = omega arith
kids_size (inner ks) = omega arith

-- lengths under one more unit
pub ended_same : (n : ℕ) (s s' : Shape) → measure n s ≡ measure n s' → size s < n → size s' ≡ size s
ended_same zero s s' e h = absurd (omega arith)
ended_same (suc n) absent absent e h = refl
ended_same (suc n) absent (leaf m) e h = absurd (omega arith)
ended_same (suc n) absent (inner ks) e h = absurd (omega arith)
ended_same (suc n) (leaf m) absent e h = absurd (omega arith)
ended_same (suc n) (leaf m) (leaf m') e h = omega arith
ended_same (suc n) (leaf m) (inner ks) e h = omega arith
ended_same (suc n) (inner ks) absent e h = absurd (omega arith)
ended_same (suc n) (inner ks) (leaf m) e h = omega arith
ended_same (suc n) (inner ks) (inner ks') e h = omega arith

pub open_same : (n : ℕ) (s s' : Shape) → measure n s ≡ measure n s' → Open n s → Open n s'
open_same n s s' e o = ⊎_elim (λ lt. let z = ended_same n s' s (sym e) lt in let a = o.1 in absurd (omega arith)) (λ ge. (o.0, ge)) (cases_lt (size s') n)

measure_step : (n : ℕ) (s : Shape) → size s < n → measure n s ≡ measure (suc n) s
measure_step zero s h = absurd (omega arith)
measure_step (suc n) absent h = refl
measure_step (suc n) (leaf m) h = omega arith
measure_step (suc n) (inner ks) h = omega arith

measure_longer : (n : ℕ) (s s' : Shape) → measure n s' < measure n s → measure (suc n) s' < measure (suc n) s
measure_longer zero absent s' h = absurd (omega arith)
measure_longer zero (leaf m) s' h = absurd (omega arith)
measure_longer zero (inner ks) s' h = absurd (omega arith)
measure_longer (suc n) absent s' h = absurd (omega arith)
measure_longer (suc n) (leaf m) absent h = omega arith
measure_longer (suc n) (leaf m) (leaf m') h = omega arith
measure_longer (suc n) (leaf m) (inner ks) h = omega arith
measure_longer (suc n) (inner ks) absent h = omega arith
measure_longer (suc n) (inner ks) (leaf m') h = omega arith
measure_longer (suc n) (inner ks) (inner ks') h = omega arith

-- both begun and both at least as long as what is read
pub measure_open : (n : ℕ) (s : Shape) → 0 < n → n ≤ size s → measure n s ≡ suc n
measure_open zero s h l = absurd (omega arith)
measure_open (suc n) absent h l = absurd (omega arith)
measure_open (suc n) (leaf m) h l = omega arith
measure_open (suc n) (inner ks) h l = omega arith

mutual
  pub stable : (n : ℕ) (s : Shape) (q : List ℕ) → size s < n → length_at n s q ≡ length_at (suc n) s q
  stable n s [] h = measure_step n s h
  stable n absent (i ∷ q) h = refl
  stable n (leaf m) (i ∷ q) h = refl
  stable n (inner ks) (i ∷ q) h = stable_among n ks i q h

  stable_among : (n : ℕ) (ks : Shapes) (i : ℕ) (q : List ℕ) → sizes ks < n → len (shape_among n ks i q) ≡ len (shape_among (suc n) ks i q)
  stable_among n none i q h = refl
  stable_among n (more s ks) zero q h = stable n s q (omega arith)
  stable_among n (more s ks) (suc i) q h =
      let z : suc (n - size s) ≡ suc n - size s = omega arith in
      stable_among (n - size s) ks i q (omega arith) ∙ ap (λ m. len (shape_among m ks i q)) z

pub same_step : (n : ℕ) (s s' : Shape) → size s < n → Same n s s' → Same (suc n) s s'
same_step n s s' h same q =
    let z = ended_same n s s' (same []) h in
    sym (stable n s q h) ∙ same q ∙ stable n s' q (omega arith)

rest_step : (n m : ℕ) → m < n → suc (n - m) ≡ suc n - m
rest_step n m h = omega arith

-- where something is ahead behind the head, the head has ended
pub ended_head : (n : ℕ) (s : Shape) (ks ks' : Shapes) {k : ℕ} → AheadAmong (n - size s) ks ks' k → size s < n
ended_head n s ks ks' a = ⊎_elim (λ lt. lt) (λ ge. absurd (none_among a (omega arith))) (cases_lt (size s) n)

-- in what has ended nothing is open
mutual
  pub closed_zero : {n : ℕ} {s s' : Shape} {k : ℕ} → Ahead n s s' k → size s < n → k ≡ 0
  closed_zero (longer h) l = refl
  closed_zero (under e o a) l = let b = o.1 in absurd (omega arith)
  closed_zero (behind {n} {s} e h a) l = closed_among a (let b = kids_size s in omega arith)

  pub closed_among : {n : ℕ} {ks ks' : Shapes} {k : ℕ} → AheadAmong n ks ks' k → sizes ks < n → k ≡ 0
  closed_among (now {n} {ks} a) l = closed_zero a (let b = head_tail ks in omega arith)
  closed_among (on {n} {ks} same a) l = closed_among a (let b = head_tail ks in omega arith)

pub open_both : {n : ℕ} {s s' : Shape} {k : ℕ} → Ahead n s s' k → 0 < k → Open n s × Open n s'
open_both (longer h) l = absurd (omega arith)
open_both (under {n} {s} {s'} e o a) l = (o, open_same n s s' e o)
open_both (behind {n} {s} e h a) l = let z = closed_among a (let b = kids_size s in omega arith) in absurd (omega arith)

-- a first difference under no open position stays
mutual
  pub settled : {n : ℕ} {s s' : Shape} {k : ℕ} → Ahead n s s' k → k ≡ 0 → Ahead (suc n) s s' k
  settled (longer {n} {s} {s'} h) z = longer (measure_longer n s s' h)
  settled (under e o a) z = absurd (omega arith)
  settled (behind {n} {s} {s'} e h a) z =
      let y = ended_same n s s' e h in
      behind (sym (measure_step n s h) ∙ e ∙ measure_step n s' (omega arith)) (omega arith) (settled_among a z)

  settled_among : {n : ℕ} {ks ks' : Shapes} {k : ℕ} → AheadAmong n ks ks' k → k ≡ 0 → AheadAmong (suc n) ks ks' k
  settled_among (now a) z = now (settled a z)
  settled_among (on {n} {ks} {ks'} {k} same a) z =
      let l = ended_head n (head ks) (tail ks) (tail ks') a in
      on (same_step n _ _ l same) (subst (λ m. AheadAmong m (tail ks) (tail ks') k) (rest_step n (size (head ks)) l) (settled_among a z))

-- what ends in both
mutual
  pub ending : {n : ℕ} {s s' : Shape} {k : ℕ} → Ahead n s s' k → size s ≤ n → size s' ≤ n → Ahead (suc n) s s' 0
  ending (longer {n} {s} {s'} h) l l' = longer (measure_longer n s s' h)
  ending (under {n} {s} {s'} e o a) l l' =
      let o' = open_same n s s' e o in
      let b = kids_size s in let b' = kids_size s' in let x = o.1 in let x' = o'.1 in
      behind (ends_with n s s' o.0 (omega arith) (omega arith)) (omega arith) (ending_among a (omega arith) (omega arith))
    where
      ends_with : (n : ℕ) (s s' : Shape) → 0 < n → size s ≡ n → size s' ≡ n → measure (suc n) s ≡ measure (suc n) s'
      ends_with n absent s' h e e' = absurd (omega arith)
      ends_with n (leaf m) absent h e e' = absurd (omega arith)
      ends_with n (leaf m) (leaf m') h e e' = omega arith
      ends_with n (leaf m) (inner ks') h e e' = omega arith
      ends_with n (inner ks) absent h e e' = absurd (omega arith)
      ends_with n (inner ks) (leaf m') h e e' = omega arith
      ends_with n (inner ks) (inner ks') h e e' = omega arith
  ending (behind {n} {s} {s'} {k} e h a) l l' =
      let y = ended_same n s s' e h in
      let z = closed_among a (let b = kids_size s in omega arith) in
      subst (λ m. Ahead (suc n) s s' m) z (settled (behind e h a) z)

  ending_among : {n : ℕ} {ks ks' : Shapes} {k : ℕ} → AheadAmong n ks ks' k → sizes ks ≤ n → sizes ks' ≤ n → AheadAmong (suc n) ks ks' 0
  ending_among (now {n} {ks} {ks'} a) l l' = let b = head_tail ks in let b' = head_tail ks' in now (ending a (omega arith) (omega arith))
  ending_among (on {n} {ks} {ks'} {k} same a) l l' =
      let h = ended_head n (head ks) (tail ks) (tail ks') a in
      let y = ended_same n (head ks) (head ks') (same []) h in
      let b = head_tail ks in let b' = head_tail ks' in
      on (same_step n _ _ h same) (subst (λ m. AheadAmong m (tail ks) (tail ks') 0) (rest_step n (size (head ks)) h) (ending_among a (omega arith) (omega arith)))

kept_tail : {n : ℕ} {ks : Shapes} {h : ℕ} → KeptAmong n ks h → size (head ks) < n → KeptAmong (n - size (head ks)) (tail ks) h
kept_tail bottom l = bottom
kept_tail (this g r) l = absurd (omega arith)
kept_tail (past g r) l = r

kept_head : {n : ℕ} {ks : Shapes} {h : ℕ} → KeptAmong n ks h → Open n (head ks) → Kept n (head ks) h
kept_head bottom o = let a = o.0 in let b = o.1 in absurd (omega arith)
kept_head (this g r) o = r
kept_head (past g r) o = let b = o.1 in absurd (omega arith)

both_open : (n : ℕ) (s s' : Shape) → n < size s → n < size s' → measure (suc n) s ≡ measure (suc n) s'
both_open n s s' h h' = measure_open (suc n) s (omega arith) (omega arith) ∙ sym (measure_open (suc n) s' (omega arith) (omega arith))

-- Both keep at least the k positions: order and number stay.
mutual
  pub stays : {n : ℕ} {s s' : Shape} {k h h' : ℕ} → Ahead n s s' k → Kept n s h → Kept n s' h' → k ≤ h → k ≤ h' → Ahead (suc n) s s' k
  stays (longer x) r r' l l' = settled (longer x) refl
  stays (behind {n} {s} e x a) r r' l l' = settled (behind e x a) (closed_zero (behind e x a) x)
  stays (under e o a) (shut x) r' l l' = absurd (omega arith)
  stays (under e o a) (still x r) (shut x') l l' = absurd (omega arith)
  stays (under {n} {s} {s'} e o a) (still x r) (still x' r') l l' = under (both_open n s s' x x') (omega arith, omega arith) (stays_among a r r' (omega arith) (omega arith))

  stays_among : {n : ℕ} {ks ks' : Shapes} {k h h' : ℕ} → AheadAmong n ks ks' k → KeptAmong n ks h → KeptAmong n ks' h' → k ≤ h → k ≤ h' → AheadAmong (suc n) ks ks' k
  stays_among (now {n} {ks} {ks'} {k} a) r r' l l' = now (⊎_elim (λ z. let o = open_both a z in stays a (kept_head r o.0) (kept_head r' o.1) l l') (λ z. settled a (omega arith)) (cases_lt 0 k))
  stays_among {h} {h'} (on {n} {ks} {ks'} {k} same a) r r' l l' =
      let x = ended_head n (head ks) (tail ks) (tail ks') a in
      let y = ended_same n (head ks) (head ks') (same []) x in
      let r2 = subst (λ m. KeptAmong m (tail ks') h') (ap (λ m. n - m) y) (kept_tail r' (omega arith)) in
      on (same_step n _ _ x same) (subst (λ m. AheadAmong m (tail ks) (tail ks') k) (rest_step n (size (head ks)) x) (stays_among a (kept_tail r x) r2 l l'))

-- Both keep the same number, less than k: the order stays, and that is the new number.
mutual
  pub evens : {n : ℕ} {s s' : Shape} {k h h' : ℕ} → Ahead n s s' k → Kept n s h → Kept n s' h' → h ≡ h' → h < k → Ahead (suc n) s s' h
  evens (longer x) r r' e l = absurd (omega arith)
  evens (behind e' x a) r r' e l = let z = closed_zero (behind e' x a) x in absurd (omega arith)
  evens (under e' o a) (shut x) (shut x') e l = ending (under e' o a) x x'
  evens (under e' o a) (shut x) (still x' r') e l = absurd (omega arith)
  evens (under e' o a) (still x r) (shut x') e l = absurd (omega arith)
  evens (under {n} {s} {s'} e' o a) (still x r) (still x' r') e l = under (both_open n s s' x x') (omega arith, omega arith) (evens_among a r r' (omega arith) (omega arith))

  evens_among : {n : ℕ} {ks ks' : Shapes} {k h h' : ℕ} → AheadAmong n ks ks' k → KeptAmong n ks h → KeptAmong n ks' h' → h ≡ h' → h < k → AheadAmong (suc n) ks ks' h
  evens_among (now a) r r' e l = let o = open_both a (omega arith) in now (evens a (kept_head r o.0) (kept_head r' o.1) e l)
  evens_among {h} {h'} (on {n} {ks} {ks'} {k} same a) r r' e l =
      let x = ended_head n (head ks) (tail ks) (tail ks') a in
      let y = ended_same n (head ks) (head ks') (same []) x in
      let r2 = subst (λ m. KeptAmong m (tail ks') h') (ap (λ m. n - m) y) (kept_tail r' (omega arith)) in
      on (same_step n _ _ x same) (subst (λ m. AheadAmong m (tail ks) (tail ks') h) (rest_step n (size (head ks)) x) (evens_among a (kept_tail r x) r2 e l))

-- One keeps more of the k positions: it comes first, and the lesser is the new number.
mutual
  pub gains : {n : ℕ} {s s' : Shape} {k h h' : ℕ} → Shared n s s' k → Kept n s h → Kept n s' h' → h' < h → h' < k → Ahead (suc n) s s' h'
  gains any r r' l l' = absurd (omega arith)
  gains (level e o o' c) (shut x) r' l l' = absurd (omega arith)
  gains (level {n} {s} {s'} e o o' c) (still x r) (shut x') l l' = longer (more_than n s s' o.0 x (let y = o'.1 in omega arith))
    where
      more_than : (n : ℕ) (s s' : Shape) → 0 < n → n < size s → size s' ≡ n → measure (suc n) s' < measure (suc n) s
      more_than n absent s' z h h' = absurd (omega arith)
      more_than n (leaf m) absent z h h' = omega arith
      more_than n (leaf m) (leaf m') z h h' = omega arith
      more_than n (leaf m) (inner ks') z h h' = omega arith
      more_than n (inner ks) absent z h h' = omega arith
      more_than n (inner ks) (leaf m') z h h' = omega arith
      more_than n (inner ks) (inner ks') z h h' = omega arith
  gains (level {n} {s} {s'} e o o' c) (still x r) (still x' r') l l' = under (both_open n s s' x x') (omega arith, omega arith) (gains_among c r r' (omega arith) (omega arith))

  gains_among : {n : ℕ} {ks ks' : Shapes} {k h h' : ℕ} → SharedAmong n ks ks' k → KeptAmong n ks h → KeptAmong n ks' h' → h' < h → h' < k → AheadAmong (suc n) ks ks' h'
  gains_among any_among r r' l l' = absurd (omega arith)
  gains_among (here c) r r' l l' = let o = shared_open c (omega arith) in now (gains c (kept_head r o.0) (kept_head r' o.1) l l')
  gains_among {h} {h'} (later {n} {ks} {ks'} x same c) r r' l l' =
      let y = ended_same n (head ks) (head ks') (same []) x in
      let r2 = subst (λ m. KeptAmong m (tail ks') h') (ap (λ m. n - m) y) (kept_tail r' (omega arith)) in
      on (same_step n _ _ x same) (subst (λ m. AheadAmong m (tail ks) (tail ks') h') (rest_step n (size (head ks)) x) (gains_among c (kept_tail r x) r2 l l'))

  pub shared_open : {n : ℕ} {s s' : Shape} {k : ℕ} → Shared n s s' k → 0 < k → Open n s × Open n s'
  shared_open any l = absurd (omega arith)
  shared_open (level e o o' c) l = (o, o')

-- the positions of the number are shared
mutual
  pub shared_of : {n : ℕ} {s s' : Shape} {k : ℕ} → Ahead n s s' k → Shared n s s' k
  shared_of (longer x) = any
  shared_of (under {n} {s} {s'} e o a) = level e o (open_same n s s' e o) (shared_among a)
  shared_of (behind {n} {s} {s'} e x a) = subst (λ k. Shared n s s' k) (sym (closed_zero (behind e x a) x)) any

  shared_among : {n : ℕ} {ks ks' : Shapes} {k : ℕ} → AheadAmong n ks ks' k → SharedAmong n ks ks' k
  shared_among (now a) = here (shared_of a)
  shared_among (on {n} {ks} {ks'} same a) = later (ended_head n (head ks) (tail ks) (tail ks') a) same (shared_among a)

mutual
  pub shared_sym : {n : ℕ} {s s' : Shape} {k : ℕ} → Shared n s s' k → Shared n s' s k
  shared_sym any = any
  shared_sym (level e o o' c) = level (sym e) o' o (shared_among_sym c)

  shared_among_sym : {n : ℕ} {ks ks' : Shapes} {k : ℕ} → SharedAmong n ks ks' k → SharedAmong n ks' ks k
  shared_among_sym any_among = any_among
  shared_among_sym (here c) = here (shared_sym c)
  shared_among_sym (later {n} {ks} {ks'} {k} x same c) =
      let y = ended_same n (head ks) (head ks') (same []) x in
      later (omega arith) (λ q. sym (same q)) (subst (λ m. SharedAmong m (tail ks') (tail ks) k) (sym (ap (λ m. n - m) y)) (shared_among_sym c))

-- The third step of the law.
pub law_step : {n : ℕ} {s s' : Shape} {k h h' : ℕ} → Ahead n s s' k → Kept n s h → Kept n s' h' →
    ((k ≤ h) × (k ≤ h') × Ahead (suc n) s s' k)
    ⊎ (((h ≡ h') × (h < k) × Ahead (suc n) s s' h)
    ⊎ (((h' < h) × (h' < k) × Ahead (suc n) s s' h')
    ⊎ ((h < h') × (h < k) × Ahead (suc n) s' s h)))
law_step {k} {h} {h'} a r r' =
    ⊎_elim
    (λ l. ⊎_elim
    (λ x. inr (inr (inr (x, l, gains (shared_sym (shared_of a)) r' r x l))))
    (λ x. ⊎_elim
    (λ y. inr (inr (inl (y, omega arith, gains (shared_of a) r r' y (omega arith)))))
    (λ y. inr (inl (omega arith, l, evens a r r' (omega arith) l)))
    (cases_lt h' h))
    (cases_lt h h'))
    (λ l. ⊎_elim
    (λ x. inr (inr (inl (omega arith, x, gains (shared_of a) r r' (omega arith) x))))
    (λ x. inl (l, x, stays a r r' l x))
    (cases_lt h' k))
    (cases_lt h k)
