-- The least path of a search over states and levels is that of a path which visits no state twice, and the first of these.
use Rattle.std.proofs.Common.{inl, inr, sym, ap, ◌∙◌, subst, arith, ⊎_elim}
use Rattle.std.proofs.lemmas.Bool.{cases_lt}
use Rattle.std.specs.Prelude.{◌≡◌, ℕ, zero, suc, ◌+◌, ◌-◌, ◌<◌, ◌≤◌, ◌⊎◌, min, List, [], ◌∷◌, length, refl}
use native.Mathlib.Decide.{ℕ_discrete}
use Rattle.lx_regex.specs.Dictionary.{IsBefore}
use Rattle.lx_tnfa.specs.DepthFirst.{IsIn, successors}
use Rattle.lx_tnfa.specs.LeafReadings.{IsNth}
use Rattle.lx_tnfa.proofs.Construction.NthLists.{nth_read}
use Rattle.lx_posix.specs.LevelPaths.{IsPassed, LevelPath, PlainPath, level_choices, lowest_on, next_state}
use Rattle.lx_posix.specs.Levels.{raised}

module _ (graph : List (List ℕ)) (deep : ℕ → ℕ) where
  abbrev low : ℕ → List ℕ → ℕ
  low s ws = lowest_on graph deep s ws

  abbrev next : ℕ → ℕ → ℕ
  next s i = next_state graph deep s i

  pub next_is : (s i y : ℕ) → IsNth (successors graph s) i y → next_state graph deep s i ≡ y
  next_is s i y h = nth_read (successors graph s) i y 0 h

  pub low_least : (s : ℕ) (ws : List ℕ) → lowest_on graph deep s ws ≤ deep s
  low_least s [] = omega arith
  low_least s (i ∷ ws) = omega arith

  -- what was passed are states that are avoided, or this one at a lesser level
  abbrev Passed : List (ℕ × ℕ) → List ℕ → ℕ → ℕ → Type 0
  Passed passed avoided s c = (x k : ℕ) → IsPassed passed x k → IsIn avoided x ⊎ ((x ≡ s) × (k < c))

  not_passed : (passed : List (ℕ × ℕ)) (avoided : List ℕ) (s c : ℕ) → (IsIn avoided s → ⊥) → Passed passed avoided s c
      → IsPassed passed s c → ⊥
  not_passed passed avoided s c n h m = ⊎_elim (λ i. n i) (λ q. let z = q.1 in omega arith) (h s c m)

  raise_up : (n c e : ℕ) → n + c ≡ e → (passed : List (ℕ × ℕ)) (avoided : List ℕ) (s : ℕ) (rest : List ℕ) (t b : ℕ) → e ≤ deep s
      → (IsIn avoided s → ⊥) → Passed passed avoided s c
      → ((more : List (ℕ × ℕ)) → Passed more avoided s e → LevelPath graph deep more s e rest t b)
      → LevelPath graph deep passed s c (raised n rest) t b
  raise_up zero c e z passed avoided s rest t b le n h f =
      let q : e ≡ c = omega arith in
      subst (λ k. LevelPath graph deep passed s k rest t b) q (f passed (subst (λ k. Passed passed avoided s k) (sym q) h))
  raise_up (suc m) c e z passed avoided s rest t b le n h f = (
    not_passed passed avoided s c n h,
    omega arith,
    raise_up m (suc c) e (omega arith) ((s, c) ∷ passed) avoided s rest t b le n (λ x k p. on x k p) f,
  )
    where
      on : (x k : ℕ) → IsPassed ((s, c) ∷ passed) x k → IsIn avoided x ⊎ ((x ≡ s) × (k < suc c))
      on x k (inl q) = let y = q.1 in inr (sym q.0, omega arith)
      on x k (inr p) = ⊎_elim (λ i. inl i) (λ q. let y = q.1 in inr (q.0, omega arith)) (h x k p)

  -- the choices on a plain path are a path of the search
  pub plain_goes : (ws : List ℕ) (passed : List (ℕ × ℕ)) (avoided : List ℕ) (s c t : ℕ) → PlainPath graph deep avoided s ws t
      → c ≤ lowest_on graph deep s ws → Passed passed avoided s c
      → LevelPath graph deep passed s c (level_choices graph deep s c ws) t (deep t)
  plain_goes [] passed avoided s c t p le h =
      raise_up (deep s - c) c (deep s) (omega arith) passed avoided s [] t (deep t) (omega arith) p.0 h
      (λ more m. (not_passed more avoided s (deep s) p.0 m, p.1, ap deep p.1))
  plain_goes (i ∷ ws) passed avoided s c t p le h =
      let e : ℕ = min (deep s) (lowest_on graph deep (next_state graph deep s i) ws) in
      let y : ℕ = p.1.0 in
      let z = next_is s i p.1.0 p.1.1 in
      raise_up (e - c) c e (omega arith) passed avoided s (suc i ∷ level_choices graph deep (next_state graph deep s i) e ws) t (deep t)
      (omega arith) p.0 h
      (λ more m. (
        not_passed more avoided s e p.0 m,
        (
          next_state graph deep s i,
          subst (λ n. IsNth (successors graph s) i n) (sym z) p.1.1,
          (let l = low_least (next_state graph deep s i) ws in omega arith),
          plain_goes ws ((s, e) ∷ more) (s ∷ avoided) (next_state graph deep s i) e t
              (subst (λ n. PlainPath graph deep (s ∷ avoided) n ws t) (sym z) p.1.2) (omega arith) (λ x k q. on e more m x k q),
        ),
      ))
    where
      on : (e : ℕ) (more : List (ℕ × ℕ)) → Passed more avoided s e → (x k : ℕ) → IsPassed ((s, e) ∷ more) x k
          → IsIn (s ∷ avoided) x ⊎ ((x ≡ next_state graph deep s i) × (k < e))
      on e more m x k (inl q) = inl (inl q.0)
      on e more m x k (inr p) = ⊎_elim (λ i. inl (inr i)) (λ q. inl (inl (sym q.0))) (m x k p)

  -- the states of a plain path, and those of a path of the search
  abbrev Visits : ℕ → List ℕ → ℕ → Type 0
  Visits s [] x = s ≡ x
  Visits s (i ∷ ws) x = (s ≡ x) ⊎ Visits (next_state graph deep s i) ws x

  abbrev Meets : ℕ → List ℕ → ℕ → Type 0
  Meets s [] x = s ≡ x
  Meets s (zero ∷ cs) x = Meets s cs x
  Meets s (suc i ∷ cs) x = (s ≡ x) ⊎ Meets (next_state graph deep s i) cs x

  -- a path that does not visit a state avoids it too
  avoid_more : (ws : List ℕ) (avoided more : List ℕ) (s t z : ℕ) → PlainPath graph deep avoided s ws t → (Visits s ws z → ⊥)
      → ((x : ℕ) → IsIn more x → IsIn avoided x ⊎ (x ≡ z)) → PlainPath graph deep more s ws t
  avoid_more [] avoided more s t z p n h =
      (λ m. ⊎_elim (λ i. p.0 i) (λ q. n q) (h s m), p.1)
  avoid_more (i ∷ ws) avoided more s t z p n h = (
    λ m. ⊎_elim (λ i. p.0 i) (λ q. n (inl q)) (h s m),
    (
      p.1.0,
      p.1.1,
      avoid_more ws (s ∷ avoided) (s ∷ more) p.1.0 t z p.1.2
          (λ v. n (inr (subst (λ y. Visits y ws z) (sym (next_is s i p.1.0 p.1.1)) v)))
          (λ x m. elim m [ inl q ↦ inl (inl q) | inr q ↦ ⊎_elim (λ a. inl (inr a)) (λ b. inr b) (h x q) ]),
    ),
  )

  -- where a path of the search meets a state
  record Again (passed : List (ℕ × ℕ)) (x s c : ℕ) (cs : List ℕ) (t b : ℕ) : Type 0 where
    level : ℕ
    rest : List ℕ
    passed_there : List (ℕ × ℕ)
    path : LevelPath graph deep passed_there x level rest t b
    more : c ≤ level
    less : level ≤ deep x
    shorter : length rest ≤ length cs
    apart : IsPassed passed x level → ⊥
    within : (z : ℕ) → Meets x rest z → Meets s cs z

  head_apart : (passed : List (ℕ × ℕ)) (s c : ℕ) (cs : List ℕ) (t b : ℕ) → LevelPath graph deep passed s c cs t b → IsPassed passed s c → ⊥
  head_apart passed s c [] t b p = p.0
  head_apart passed s c (zero ∷ cs) t b p = p.0
  head_apart passed s c (suc i ∷ cs) t b p = p.0

  here_again : (x : ℕ) (cs : List ℕ) (passed : List (ℕ × ℕ)) (s c t b : ℕ) → LevelPath graph deep passed s c cs t b → c ≤ deep s → s ≡ x
      → Again passed x s c cs t b
  here_again x cs passed s c t b p le e = subst (λ y. Again passed y s c cs t b) e (record {
    level = c;
    rest = cs;
    passed_there = passed;
    path = p;
    more = omega arith;
    less = le;
    shorter = omega arith;
    apart = head_apart passed s c cs t b p;
    within = λ z m. m;
  })

  raise_again : (x : ℕ) (cs : List ℕ) (passed : List (ℕ × ℕ)) (s c t b : ℕ)
      → (Meets s cs x → ⊥) ⊎ Again ((s, c) ∷ passed) x s (suc c) cs t b → (Meets s cs x → ⊥) ⊎ Again passed x s c (zero ∷ cs) t b
  raise_again x cs passed s c t b (inl m) = inl m
  raise_again x cs passed s c t b (inr a) =
      let q = a.more in
      let r = a.shorter in
      inr (record {
        level = a.level;
        rest = a.rest;
        passed_there = a.passed_there;
        path = a.path;
        more = omega arith;
        less = a.less;
        shorter = omega arith;
        apart = λ k. a.apart (inr k);
        within = a.within;
      })

  move_again : (x i y : ℕ) (cs : List ℕ) (passed : List (ℕ × ℕ)) (s c t b : ℕ) → next_state graph deep s i ≡ y → (s ≡ x → ⊥)
      → (Meets y cs x → ⊥) ⊎ Again ((s, c) ∷ passed) x y c cs t b
      → ((s ≡ x) ⊎ Meets (next_state graph deep s i) cs x → ⊥) ⊎ Again passed x s c (suc i ∷ cs) t b
  move_again x i y cs passed s c t b z n (inl m) =
      inl (λ q. elim q [ inl e ↦ n e | inr k ↦ m (subst (λ w. Meets w cs x) z k) ])
  move_again x i y cs passed s c t b z n (inr a) =
      let r = a.shorter in
      inr (record {
        level = a.level;
        rest = a.rest;
        passed_there = a.passed_there;
        path = a.path;
        more = a.more;
        less = a.less;
        shorter = omega arith;
        apart = λ k. a.apart (inr k);
        within = λ v m. inr (subst (λ w. Meets w cs v) (sym z) (a.within v m));
      })

  here_or : {N A : Type 0} (s x : ℕ) → (s ≡ x → A) → ((s ≡ x → ⊥) → N ⊎ A) → N ⊎ A
  here_or {N} {A} s x f g = go (ℕ_discrete s x)
    where
      go : Dec (s ≡ x) → N ⊎ A
      go (yes e) = inr (f e)
      go (no n) = g n

  again : (x : ℕ) (cs : List ℕ) (passed : List (ℕ × ℕ)) (s c t b : ℕ) → LevelPath graph deep passed s c cs t b → c ≤ deep s
      → (Meets s cs x → ⊥) ⊎ Again passed x s c cs t b
  again x [] passed s c t b p le = here_or s x (here_again x [] passed s c t b p le) (λ n. inl n)
  again x (zero ∷ cs) passed s c t b p le =
      let r = again x cs ((s, c) ∷ passed) s (suc c) t b p.2 (omega arith) in
      here_or s x (here_again x (zero ∷ cs) passed s c t b p le) (λ n. raise_again x cs passed s c t b r)
  again x (suc i ∷ cs) passed s c t b p le =
      let r = again x cs ((s, c) ∷ passed) p.1.0 c t b p.1.3 p.1.2 in
      here_or s x (here_again x (suc i ∷ cs) passed s c t b p le)
      (λ n. move_again x i p.1.0 cs passed s c t b (next_is s i p.1.0 p.1.1) n r)

  -- a plain path whose choices come no later
  record Reduced (s c : ℕ) (cs : List ℕ) (t : ℕ) : Type 0 where
    way : List ℕ
    path : PlainPath graph deep [] s way t
    level : c ≤ lowest_on graph deep s way
    within : (x : ℕ) → Visits s way x → Meets s cs x
    least : (level_choices graph deep s c way ≡ cs) ⊎ IsBefore (level_choices graph deep s c way) cs

  pub raise_first : (s c : ℕ) (ws : List ℕ) → suc c ≤ lowest_on graph deep s ws
      → level_choices graph deep s c ws ≡ 0 ∷ level_choices graph deep s (suc c) ws
  raise_first s c [] le =
      let z : deep s - c ≡ suc (deep s - suc c) = omega arith in ap (λ n. raised n []) z
  raise_first s c (i ∷ ws) le =
      let e : ℕ = min (deep s) (lowest_on graph deep (next_state graph deep s i) ws) in
      let z : e - c ≡ suc (e - suc c) = omega arith in
      ap (λ n. raised n (suc i ∷ level_choices graph deep (next_state graph deep s i) e ws)) z

  pub raised_before : (s c i : ℕ) (ws cs : List ℕ) → suc c ≤ lowest_on graph deep s ws → IsBefore (level_choices graph deep s c ws) (suc i ∷ cs)
  raised_before s c i ws cs le = subst (λ l. IsBefore l (suc i ∷ cs)) (sym (raise_first s c ws le)) (inl (omega arith))

  reduce : (n : ℕ) (cs : List ℕ) → length cs ≤ n → (passed : List (ℕ × ℕ)) (s c t : ℕ) → c ≤ deep s
      → LevelPath graph deep passed s c cs t (deep t) → Reduced s c cs t
  reduce n [] len passed s c t le p =
      let d : deep s ≡ deep t = ap deep p.1 in
      let e = p.2 in
      let z : deep s - c ≡ 0 = omega arith in
      record {
        way = [];
        path = (λ m. m, p.1);
        level = le;
        within = λ x v. v;
        least = inl (ap (λ k. raised k []) z);
      }
  reduce zero (x ∷ cs) len passed s c t le p = absurd (omega arith)
  reduce (suc n) (zero ∷ cs) len passed s c t le p =
      let r = reduce n cs (omega arith) ((s, c) ∷ passed) s (suc c) t (omega arith) p.2 in
      record {
        way = r.way;
        path = r.path;
        level = let q = r.level in omega arith;
        within = r.within;
        least =
            ⊎_elim
            (λ e. inl (raise_first s c r.way r.level ∙ ap (λ l. 0 ∷ l) e))
            (λ b. inr (subst (λ l. IsBefore l (zero ∷ cs)) (sym (raise_first s c r.way r.level)) (inr (refl, b))))
            r.least;
      }
  reduce (suc n) (suc i ∷ cs) len passed s c t le p =
      ⊎_elim (λ m. straight m (reduce n cs (omega arith) ((s, c) ∷ passed) p.1.0 c t p.1.2 p.1.3))
      (λ a. round a (reduce n a.rest (let q = a.shorter in omega arith) a.passed_there s a.level t a.less a.path))
      (again s cs ((s, c) ∷ passed) p.1.0 c t (deep t) p.1.3 p.1.2)
    where
      y : ℕ
      y = p.1.0

      z : next_state graph deep s i ≡ y
      z = next_is s i p.1.0 p.1.1

      round : (a : Again ((s, c) ∷ passed) s y c cs t (deep t)) → Reduced s a.level a.rest t → Reduced s c (suc i ∷ cs) t
      round a r =
          let more = a.more in
          let other : c ≡ a.level → ⊥ = λ e. a.apart (inl (refl, e)) in
          let up : suc c ≤ a.level = ⊎_elim (λ lt. omega arith) (λ ge. absurd (other (omega arith))) (cases_lt c a.level) in
          let level = r.level in
          record {
            way = r.way;
            path = r.path;
            level = omega arith;
            within = λ x v. inr (subst (λ q. Meets q cs x) (sym z) (a.within x (r.within x v)));
            least = inr (raised_before s c i r.way cs (omega arith));
          }

      straight : (Meets y cs s → ⊥) → Reduced y c cs t → Reduced s c (suc i ∷ cs) t
      straight m r =
          let level : c ≤ min (deep s) (lowest_on graph deep (next_state graph deep s i) r.way) =
          subst (λ q. c ≤ min (deep s) (lowest_on graph deep q r.way)) (sym z) (let l = r.level in omega arith) in
          record {
            way = i ∷ r.way;
            path = (
              λ m. m,
              (
                y,
                p.1.1,
                avoid_more r.way [] (s ∷ []) y t s r.path (λ v. m (r.within s v))
                    (λ x k. elim k [ inl q ↦ inr (sym q) | inr q ↦ absurd q ]),
              ),
            );
            level = level;
            within = λ x v. elim v [
              | inl q ↦ inl q
              | inr q ↦ inr (subst (λ k. Meets k cs x) (sym z) (r.within x (subst (λ k. Visits k r.way x) z q)))
            ];
            least =
                ⊎_elim
                (λ lt. inr (raised_before s c i (i ∷ r.way) cs (omega arith)))
                (λ ge. same r (omega arith))
                (cases_lt c (min (deep s) (lowest_on graph deep (next_state graph deep s i) r.way)));
          }
        where
          same : (r : Reduced y c cs t) → min (deep s) (lowest_on graph deep (next_state graph deep s i) r.way) ≡ c
              → (level_choices graph deep s c (i ∷ r.way) ≡ suc i ∷ cs) ⊎ IsBefore (level_choices graph deep s c (i ∷ r.way)) (suc i ∷ cs)
          same r e =
              let d : c - c ≡ 0 = omega arith in
              let f : level_choices graph deep s c (i ∷ r.way) ≡ suc i ∷ level_choices graph deep y c r.way =
              ap (λ k. raised (k - c) (suc i ∷ level_choices graph deep (next_state graph deep s i) k r.way)) e
              ∙ ap (λ k. raised k (suc i ∷ level_choices graph deep (next_state graph deep s i) c r.way)) d
              ∙ ap (λ k. suc i ∷ level_choices graph deep k c r.way) z in
              ⊎_elim
              (λ q. inl (f ∙ ap (λ l. suc i ∷ l) q))
              (λ b. inr (subst (λ l. IsBefore l (suc i ∷ cs)) (sym f) (inr (refl, b))))
              r.least

  -- the least path of the search is that of a plain path, which is the first of these
  pub least_path : (s c : ℕ) (cs : List ℕ) (t : ℕ) → c ≤ deep s → LevelPath graph deep [] s c cs t (deep t)
      → ((other : List ℕ) → LevelPath graph deep [] s c other t (deep t) → IsBefore other cs → ⊥)
      → (way : List ℕ) × PlainPath graph deep [] s way t × (c ≤ lowest_on graph deep s way) × (level_choices graph deep s c way ≡ cs)
      × ((other : List ℕ) → PlainPath graph deep [] s other t → c ≤ lowest_on graph deep s other
      → IsBefore (level_choices graph deep s c other) cs → ⊥)
  least_path s c cs t le p least =
      let r = reduce (length cs) cs (omega arith) [] s c t le p in (
        r.way,
        r.path,
        r.level,
        ⊎_elim (λ e. e) (λ b. absurd (least _ (goes r.way r.path r.level) b)) r.least,
        λ other q l b. least _ (goes other q l) b,
      )
    where
      goes : (ws : List ℕ) → PlainPath graph deep [] s ws t → c ≤ lowest_on graph deep s ws
          → LevelPath graph deep [] s c (level_choices graph deep s c ws) t (deep t)
      goes ws q l = plain_goes ws [] [] s c t q l (λ x k m. absurd m)
