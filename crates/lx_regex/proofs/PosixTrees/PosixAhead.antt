-- The POSIX order by recursion: which of two shapes is ahead, and how many positions are open in both before the first difference.
use Rattle.std.specs.Prelude.{◌≡◌, ℕ, zero, suc, ◌-◌, ◌<◌, ◌⊎◌, List, [], ◌∷◌, refl}
use Rattle.std.proofs.Common.{sym, ap, ◌∙◌, subst, arith, inl, inr, ⊎_elim}
use Rattle.std.proofs.lemmas.Bool.{cases_lt}
use Rattle.lx_regex.specs.Posix.{Shape, Shapes, absent, shape_among, shape_at, inner, leaf, length_at, measure, more, none, size}
use Rattle.lx_regex.proofs.PosixTrees.PosixShapes.{Open, Same, Wins, head, kids, tail}
use Rattle.lx_regex.specs.Dictionary.{IsBefore}

-- Of two shapes of which n units are read the first is ahead of the second; k positions are open in both before the first
-- difference.
mutual
  pub data Ahead : (n : ℕ) → Shape → Shape → (k : ℕ) → Type 0 where
    longer : {n : ℕ} {s s' : Shape} → measure n s' < measure n s → Ahead n s s' 0
    under : {n : ℕ} {s s' : Shape} {k : ℕ} → measure n s ≡ measure n s' → Open n s → AheadAmong n (kids s) (kids s') k
        → Ahead n s s' (suc k)
    behind : {n : ℕ} {s s' : Shape} {k : ℕ} → measure n s ≡ measure n s' → size s < n → AheadAmong n (kids s) (kids s') k
        → Ahead n s s' k

  pub data AheadAmong : (n : ℕ) → Shapes → Shapes → (k : ℕ) → Type 0 where
    now : {n : ℕ} {ks ks' : Shapes} {k : ℕ} → Ahead n (head ks) (head ks') k → AheadAmong n ks ks' k
    on : {n : ℕ} {ks ks' : Shapes} {k : ℕ} → Same n (head ks) (head ks')
        → AheadAmong (n - size (head ks)) (tail ks) (tail ks') k → AheadAmong n ks ks' k

abbrev pub len : ℕ × Shape → ℕ
len x = measure x.0 x.1

pub measure_zero : (s : Shape) → measure 0 s ≡ 0
measure_zero absent = refl
measure_zero (leaf m) = refl
measure_zero (inner ks) = refl

pub zero_less : (n m : ℕ) → n ≡ 0 → n - m ≡ 0
zero_less n m e = omega arith

mutual
  pub at_zero : (s : Shape) (q : List ℕ) → length_at 0 s q ≡ 0
  at_zero s [] = measure_zero s
  at_zero absent (i ∷ q) = refl
  at_zero (leaf m) (i ∷ q) = refl
  at_zero (inner ks) (i ∷ q) = among_zero ks i q

  pub among_zero : (ks : Shapes) (i : ℕ) (q : List ℕ) → len (shape_among 0 ks i q) ≡ 0
  among_zero none i q = refl
  among_zero (more s ks) zero q = at_zero s q
  among_zero (more s ks) (suc i) q = ap (λ m. len (shape_among m ks i q)) (zero_less 0 (size s) refl) ∙ among_zero ks i q

-- what the measure tells
pub at_kids : (n : ℕ) (s : Shape) (i : ℕ) (q : List ℕ) → shape_at n s (i ∷ q) ≡ shape_among n (kids s) i q
at_kids n absent i q = refl
at_kids n (leaf m) i q = refl
at_kids n (inner ks) i q = refl

pub at_head : (n : ℕ) (ks : Shapes) (q : List ℕ) → len (shape_among n ks 0 q) ≡ length_at n (head ks) q
at_head n none [] = refl
at_head n none (i ∷ q) = refl
at_head n (more s ks) q = refl

pub at_tail : (n : ℕ) (ks : Shapes) (i : ℕ) (q : List ℕ)
    → len (shape_among n ks (suc i) q) ≡ len (shape_among (n - size (head ks)) (tail ks) i q)
at_tail n none i q = refl
at_tail n (more s ks) i q = refl

-- where both are absent or both of one length
pub rest_same : (n : ℕ) (s s' : Shape) → measure n s ≡ measure n s' → n - size s ≡ n - size s'
rest_same zero s s' e = omega arith
rest_same (suc n) absent absent e = refl
rest_same (suc n) absent (leaf m) e = absurd (omega arith)
rest_same (suc n) absent (inner ks) e = absurd (omega arith)
rest_same (suc n) (leaf m) absent e = absurd (omega arith)
rest_same (suc n) (leaf m) (leaf m') e = omega arith
rest_same (suc n) (leaf m) (inner ks) e = omega arith
rest_same (suc n) (inner ks) absent e = absurd (omega arith)
rest_same (suc n) (inner ks) (leaf m) e = omega arith
rest_same (suc n) (inner ks) (inner ks') e = omega arith

-- an ahead shape wins
abbrev WinsAmong : (n : ℕ) → Shapes → Shapes → Type 0
WinsAmong n ks ks' =
    (i : ℕ) × (p : List ℕ) × (len (shape_among n ks' i p) < len (shape_among n ks i p))
    × ((j : ℕ) (q : List ℕ) → IsBefore (j ∷ q) (i ∷ p) → len (shape_among n ks j q) ≡ len (shape_among n ks' j q))

not_before : (q : List ℕ) → IsBefore q [] → ⊥
not_before [] h = h
not_before (i ∷ q) h = h

wins_kids : (n : ℕ) (s s' : Shape) → measure n s ≡ measure n s' → WinsAmong n (kids s) (kids s') → Wins n s s'
wins_kids n s s' e w = (
  w.0 ∷ w.1,
  subst
      (λ x. len x < length_at n s (w.0 ∷ w.1)) (sym (at_kids n s' w.0 w.1))
      (subst (λ x. len (shape_among n (kids s') w.0 w.1) < len x) (sym (at_kids n s w.0 w.1)) w.2),
  equal,
)
  where
    equal : (q : List ℕ) → IsBefore q (w.0 ∷ w.1) → length_at n s q ≡ length_at n s' q
    equal [] b = e
    equal (j ∷ q) b = ap len (at_kids n s j q) ∙ w.3 j q b ∙ sym (ap len (at_kids n s' j q))

mutual
  pub ahead_wins : {n : ℕ} {s s' : Shape} {k : ℕ} → Ahead n s s' k → Wins n s s'
  ahead_wins (longer h) = ([], h, λ q b. absurd (not_before q b))
  ahead_wins (under {n} {s} {s'} e o a) = wins_kids n s s' e (among_wins a)
  ahead_wins (behind {n} {s} {s'} e o a) = wins_kids n s s' e (among_wins a)

  among_wins : {n : ℕ} {ks ks' : Shapes} {k : ℕ} → AheadAmong n ks ks' k → WinsAmong n ks ks'
  among_wins (now {n} {ks} {ks'} a) = first (ahead_wins a)
    where
      first : Wins n (head ks) (head ks') → WinsAmong n ks ks'
      first w = (
        0,
        w.0,
        subst
            (λ x. x < len (shape_among n ks 0 w.0)) (sym (at_head n ks' w.0))
            (subst (λ x. length_at n (head ks') w.0 < x) (sym (at_head n ks w.0)) w.1),
        equal,
      )
        where
          equal :
              (j : ℕ) (q : List ℕ) → IsBefore (j ∷ q) (0 ∷ w.0) → len (shape_among n ks j q) ≡ len (shape_among n ks' j q)
          equal zero q b = at_head n ks q ∙ w.2 q (⊎_elim (λ lt. absurd (omega arith)) (λ r. r.1) b) ∙ sym (at_head n ks' q)
          equal (suc j) q b = ⊎_elim (λ lt. absurd (omega arith)) (λ r. let k = r.0 in absurd (omega arith)) b
  among_wins (on {n} {ks} {ks'} same a) = later (among_wins a)
    where
      later : WinsAmong (n - size (head ks)) (tail ks) (tail ks') → WinsAmong n ks ks'
      later w = (
        suc w.0,
        w.1,
        subst
            (λ x. x < len (shape_among n ks (suc w.0) w.1)) (sym (tail' w.0 w.1))
            (subst (λ x. len (shape_among (n - size (head ks)) (tail ks') w.0 w.1) < x) (sym (at_tail n ks w.0 w.1)) w.2),
        equal,
      )
        where
          tail' : (i : ℕ) (q : List ℕ)
              → len (shape_among n ks' (suc i) q) ≡ len (shape_among (n - size (head ks)) (tail ks') i q)
          tail' i q =
              at_tail n ks' i q
              ∙ ap (λ m. len (shape_among m (tail ks') i q)) (sym (rest_same n (head ks) (head ks') (same [])))

          equal : (j : ℕ) (q : List ℕ) → IsBefore (j ∷ q) (suc w.0 ∷ w.1)
              → len (shape_among n ks j q) ≡ len (shape_among n ks' j q)
          equal zero q b = at_head n ks q ∙ same q ∙ sym (at_head n ks' q)
          equal (suc j) q b =
              at_tail n ks j q ∙ w.3 j q (⊎_elim (λ lt. inl (omega arith)) (λ r. let k = r.0 in inr (omega arith, r.1)) b)
              ∙ sym (tail' j q)

-- of two shapes one is ahead, or all lengths are equal
abbrev pub SameAmong : (n : ℕ) → Shapes → Shapes → Type 0
SameAmong n ks ks' = (i : ℕ) (q : List ℕ) → len (shape_among n ks i q) ≡ len (shape_among n ks' i q)

pub same_kids : (n : ℕ) (s s' : Shape) → measure n s ≡ measure n s' → SameAmong n (kids s) (kids s') → Same n s s'
same_kids n s s' e h [] = e
same_kids n s s' e h (i ∷ q) = ap len (at_kids n s i q) ∙ h i q ∙ sym (ap len (at_kids n s' i q))

pub same_among :
    (n : ℕ) (ks ks' : Shapes) → Same n (head ks) (head ks') → SameAmong (n - size (head ks)) (tail ks) (tail ks')
    → SameAmong n ks ks'
same_among n ks ks' h a zero q = at_head n ks q ∙ h q ∙ sym (at_head n ks' q)
same_among n ks ks' h a (suc i) q =
    at_tail n ks i q ∙ a i q ∙ ap (λ m. len (shape_among m (tail ks') i q)) (rest_same n (head ks) (head ks') (h []))
    ∙ sym (at_tail n ks' i q)

abbrev pub Decided : (n : ℕ) → Shape → Shape → Type 0
Decided n s s' = Same n s s' ⊎ (((k : ℕ) × Ahead n s s' k) ⊎ ((k : ℕ) × Ahead n s' s k))

abbrev DecidedAmong : (n : ℕ) → Shapes → Shapes → Type 0
DecidedAmong n ks ks' = SameAmong n ks ks' ⊎ (((k : ℕ) × AheadAmong n ks ks' k) ⊎ ((k : ℕ) × AheadAmong n ks' ks k))

-- where nothing is read nothing is ahead
mutual
  pub none_ahead : {n : ℕ} {s s' : Shape} {k : ℕ} → Ahead n s s' k → n ≡ 0 → ⊥
  none_ahead (longer {n} {s} {s'} h) z =
      let x : measure n s ≡ 0 = ap (λ m. measure m s) z ∙ measure_zero s in omega arith
  none_ahead (under e o a) z = none_among a z
  none_ahead (behind e o a) z = none_among a z

  pub none_among : {n : ℕ} {ks ks' : Shapes} {k : ℕ} → AheadAmong n ks ks' k → n ≡ 0 → ⊥
  none_among (now a) z = none_ahead a z
  none_among (on {n} {ks} same a) z = none_among a (zero_less n (size (head ks)) z)

-- begun, it is open or has ended
inside : (n : ℕ) (s s' : Shape) (k : ℕ) → measure n s ≡ measure n s' → AheadAmong n (kids s) (kids s') k
    → (k' : ℕ) × Ahead n s s' k'
inside zero s s' k e a = absurd (none_among a refl)
inside (suc n) s s' k e a =
    ⊎_elim (λ lt. (k, behind e lt a)) (λ ge. (suc k, under e (omega arith, ge) a)) (cases_lt (size s) (suc n))

decide_head :
    (n : ℕ) (ks ks' : Shapes) → Decided n (head ks) (head ks') → DecidedAmong (n - size (head ks)) (tail ks) (tail ks')
    → DecidedAmong n ks ks'
decide_head n ks ks' d r = ⊎_elim (λ same. ⊎_elim
    (λ h. inl (same_among n ks ks' same h))
    (λ x.
    ⊎_elim
    (λ a. inr (inl (a.0, on same a.1)))
    (λ a. inr (inr (a.0, on (λ q. sym (same q)) (subst (λ m. AheadAmong m (tail ks') (tail ks) a.0) (rest_same n (head ks) (head ks') (same [])) a.1)))) x)
    r)
    (λ x. ⊎_elim (λ a. inr (inl (a.0, now a.1))) (λ a. inr (inr (a.0, now a.1))) x) d

decide_kids : (n : ℕ) (s s' : Shape) → DecidedAmong n (kids s) (kids s') → Decided n s s'
decide_kids n s s' d =
    ⊎_elim
    (λ lt. inr (inr (0, longer lt)))
    (λ ge. ⊎_elim (λ gt. inr (inl (0, longer gt))) (λ le. equal (omega arith)) (cases_lt (measure n s') (measure n s)))
    (cases_lt (measure n s) (measure n s'))
  where
    equal : measure n s ≡ measure n s' → Decided n s s'
    equal e =
        ⊎_elim
        (λ h. inl (same_kids n s s' e h))
        (λ x. ⊎_elim (λ a. inr (inl (inside n s s' a.0 e a.1))) (λ a. inr (inr (inside n s' s a.0 (sym e) a.1))) x) d

decide_none : (n : ℕ) (ks' : Shapes) → DecidedAmong n none ks'
decide_none n none = inl (λ i q. refl)
decide_none n (more s ks) =
    let z : n ≡ n - 0 = omega arith in
    decide_head n none (more s ks) (against s) (subst (λ m. DecidedAmong m none ks) z (decide_none n ks))
  where
    against : (s : Shape) → Decided n absent s
    against absent = inl (λ q. refl)
    against (leaf m) = decide_kids n absent (leaf m) (inl (λ i q. refl))
    against (inner ks) =
        ⊎_elim
        (λ z. inl (λ q. nothing q ∙ sym (ap (λ m. length_at m (inner ks) q) z ∙ at_zero (inner ks) q)))
        (λ lt. inr (inr (0, longer (begun n ks lt)))) (nat_cases n)
      where
        nothing : (q : List ℕ) → length_at n absent q ≡ 0
        nothing [] = refl
        nothing (i ∷ q) = refl

        nat_cases : (n : ℕ) → (n ≡ 0) ⊎ (0 < n)
        nat_cases zero = inl refl
        nat_cases (suc n) = inr (omega arith)

        begun : (n : ℕ) (ks : Shapes) → 0 < n → 0 < measure n (inner ks)
        begun zero ks lt = absurd (omega arith)
        begun (suc n) ks lt = omega arith

mutual
  pub decide : (n : ℕ) (s s' : Shape) → Decided n s s'
  decide n absent s' = decide_kids n absent s' (decide_none n (kids s'))
  decide n (leaf m) s' = decide_kids n (leaf m) s' (decide_none n (kids s'))
  decide n (inner ks) s' = decide_kids n (inner ks) s' (decide_among n ks (kids s'))

  decide_among : (n : ℕ) (ks ks' : Shapes) → DecidedAmong n ks ks'
  decide_among n none ks' = decide_none n ks'
  decide_among n (more s ks) ks' =
      decide_head n (more s ks) ks' (decide n s (head ks')) (decide_among (n - size s) ks (tail ks'))
