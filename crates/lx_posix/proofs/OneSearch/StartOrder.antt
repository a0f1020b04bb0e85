-- The starts of a search over states and levels: which there are, and that they are in order.
use Rattle.std.proofs.Common.{inl, inr, sym, ap, ap₂, ◌∙◌, subst, arith, le-leb, ⊎_elim}
use Rattle.std.proofs.lemmas.Bool.{cases_lt, cases_order, leb-false, leb-true, lt-leb, false≢true, true≢false}
use Rattle.std.specs.Prelude.{◌≡◌, ℕ, zero, suc, ◌+◌, ◌<◌, ◌≤◌, ◌⊎◌, min, List, [], ◌∷◌, Bool, true, false, not, refl}
use native.Mathlib.Decide.{ℕ_discrete}
use Rattle.lx_tnfa.specs.LeafReadings.{IsNth}
use Rattle.lx_tdfa.proofs.WordKernels.OrderedLists.{IsMember, IsRising, append_member_left, append_member_right, member_append, rising_nth}
use Rattle.lx_posix.specs.Comparing.{Ranked, least_number, number_between, ranked_at}
use Rattle.lx_posix.specs.Starts.{Start, is_start_first, level_starts, starts_of_place, starts_of_places}
use Rattle.lx_posix.proofs.Lists.Comparisons.{by_order-each}
use Rattle.lx_posix.proofs.Lists.InOrder.{order_back, order_has, order_rising}

-- the least of numbers up to one is that up to an earlier one, and from there on
least_in_parts : (ss : List Ranked) (j l : ℕ) → j < l → least_number ss l ≡ min (least_number ss j) (number_between ss j l)
least_in_parts [] j l lt = omega arith
least_in_parts (s ∷ ss) zero zero lt = absurd (omega arith)
least_in_parts (s ∷ ss) zero (suc l) lt = refl
least_in_parts (s ∷ ss) (suc j) zero lt = absurd (omega arith)
least_in_parts (s ∷ ss) (suc j) (suc l) lt = let h = least_in_parts ss j l (omega arith) in omega arith

pub number_in_parts : (ss : List Ranked) (i j l : ℕ) → i < j → j < l
    → number_between ss i l ≡ min (number_between ss i j) (number_between ss j l)
number_in_parts [] i j l lt lt' = omega arith
number_in_parts (s ∷ ss) i zero l lt lt' = absurd (omega arith)
number_in_parts (s ∷ ss) i (suc j) zero lt lt' = absurd (omega arith)
number_in_parts (s ∷ ss) zero (suc j) (suc l) lt lt' = least_in_parts ss j l (omega arith)
number_in_parts (s ∷ ss) (suc i) (suc j) (suc l) lt lt' = number_in_parts ss i j l (omega arith) (omega arith)

module _ (ss : List Ranked) where
  abbrev rule : Start → ℕ
  rule s = (ranked_at ss s.from).rule

  -- two starts of one rule in order
  pub record InRule (s t : Start) : Type 0 where
    pub from_first : s.from < t.from → min (number_between ss s.from t.from) t.level ≤ s.level
    pub from_one : s.from ≡ t.from → t.level ≤ s.level
    pub from_second : t.from < s.from → t.level < min (number_between ss t.from s.from) s.level

  pub record InOrder (s t : Start) : Type 0 where
    pub rules : rule s ≤ rule t
    pub within : rule s ≡ rule t → InRule s t

  first_before : (s t : Start) → is_start_first ss s t ≡ true → InOrder s t
  first_before s t =
      by_order-each (λ b. b ≡ true → InOrder s t) (rule s) (rule t) _ _ _
      (λ lt e. record { rules = omega arith; within = λ q. absurd (omega arith) })
      (λ q.
      by_order-each (λ b. b ≡ true → InOrder s t) s.from t.from _ _ _
      (λ lt e. record {
        rules = omega arith;
        within = λ q. record {
          from_first = λ l. leb-true (min (number_between ss s.from t.from) t.level) s.level e;
          from_one = λ l. absurd (omega arith);
          from_second = λ l. absurd (omega arith);
        };
      })
      (λ f e. record {
        rules = omega arith;
        within = λ q. record {
          from_first = λ l. absurd (omega arith);
          from_one = λ l. leb-true t.level s.level e;
          from_second = λ l. absurd (omega arith);
        };
      })
      (λ gt e. record {
        rules = omega arith;
        within = λ q. record {
          from_first = λ l. absurd (omega arith);
          from_one = λ l. absurd (omega arith);
          from_second = λ l. leb-false (min (number_between ss t.from s.from) s.level) t.level (denied _ e);
        };
      }))
      (λ gt e. absurd (false≢true e))
    where
      denied : (b : Bool) → not b ≡ true → b ≡ false
      denied true e = sym e
      denied false e = refl

  second_before : (s t : Start) → is_start_first ss s t ≡ false → InOrder t s
  second_before s t =
      by_order-each (λ b. b ≡ false → InOrder t s) (rule s) (rule t) _ _ _
      (λ lt e. absurd (true≢false e))
      (λ q.
      by_order-each (λ b. b ≡ false → InOrder t s) s.from t.from _ _ _
      (λ lt e. record {
        rules = omega arith;
        within = λ q. record {
          from_first = λ l. absurd (omega arith);
          from_one = λ l. absurd (omega arith);
          from_second = λ l. leb-false (min (number_between ss s.from t.from) t.level) s.level e;
        };
      })
      (λ f e. record {
        rules = omega arith;
        within = λ q. record {
          from_first = λ l. absurd (omega arith);
          from_one = λ l. let g = leb-false t.level s.level e in omega arith;
          from_second = λ l. absurd (omega arith);
        };
      })
      (λ gt e. record {
        rules = omega arith;
        within = λ q. record {
          from_first = λ l. leb-true (min (number_between ss t.from s.from) s.level) t.level (denied _ e);
          from_one = λ l. absurd (omega arith);
          from_second = λ l. absurd (omega arith);
        };
      }))
      (λ gt e. record { rules = omega arith; within = λ q. absurd (omega arith) })
    where
      denied : (b : Bool) → not b ≡ false → b ≡ true
      denied true e = refl
      denied false e = sym e

  -- the first of two in order is told to be so
  pub before_first : (s t : Start) → InOrder s t → is_start_first ss s t ≡ true
  before_first s t o =
      by_order-each (λ b. b ≡ true) (rule s) (rule t) _ _ _
      (λ lt. refl)
      (λ q.
      let r = o.within q in
      by_order-each (λ b. b ≡ true) s.from t.from _ _ _
      (λ lt. le-leb (min (number_between ss s.from t.from) t.level) s.level (r.from_first lt))
      (λ e. le-leb t.level s.level (r.from_one e))
      (λ gt. ap not (lt-leb (min (number_between ss t.from s.from) s.level) t.level (r.from_second gt))))
      (λ gt. let le = o.rules in absurd (omega arith))

  -- what is known of two starts by the order of their places
  ordered_places : (s t : Start) → InRule s t
      → ((s.from < t.from) × (min (number_between ss s.from t.from) t.level ≤ s.level))
      ⊎ (((s.from ≡ t.from) × (t.level ≤ s.level)) ⊎ ((t.from < s.from) × (t.level < min (number_between ss t.from s.from) s.level)))
  ordered_places s t r =
      ⊎_elim (λ e. inr (inl (e, r.from_one e)))
      (λ d. ⊎_elim (λ lt. inl (lt, r.from_first lt)) (λ gt. inr (inr (gt, r.from_second gt))) d) (cases_order s.from t.from)

  abbrev Places : Start → Start → Type 0
  Places s t =
      ((s.from < t.from) × (min (number_between ss s.from t.from) t.level ≤ s.level))
      ⊎ (((s.from ≡ t.from) × (t.level ≤ s.level)) ⊎ ((t.from < s.from) × (t.level < min (number_between ss t.from s.from) s.level)))

  first_on : (s t r : Start) → s.from < r.from → Places s t → Places t r → min (number_between ss s.from r.from) r.level ≤ s.level
  first_on s t r lt (inl p) (inl q) = let n = number_in_parts ss s.from t.from r.from p.0 q.0 in omega (arith, p.1, q.1)
  first_on s t r lt (inl p) (inr (inl q)) =
      let n = ap (λ c. number_between ss s.from c) q.0 in omega (arith, p.1, q.1)
  first_on s t r lt (inl p) (inr (inr q)) = let n = number_in_parts ss s.from r.from t.from lt q.0 in omega (arith, p.1, q.1)
  first_on s t r lt (inr (inl p)) (inl q) = let n = ap (λ a. number_between ss a r.from) p.0 in omega (arith, p.1, q.1)
  first_on s t r lt (inr (inl p)) (inr (inl q)) = absurd (omega (arith, p.0, q.0))
  first_on s t r lt (inr (inl p)) (inr (inr q)) = absurd (omega (arith, p.0, q.0))
  first_on s t r lt (inr (inr p)) (inl q) = let n = number_in_parts ss t.from s.from r.from p.0 lt in omega (arith, p.1, q.1)
  first_on s t r lt (inr (inr p)) (inr (inl q)) = absurd (omega (arith, p.0, q.0))
  first_on s t r lt (inr (inr p)) (inr (inr q)) = absurd (omega (arith, p.0, q.0))

  one_on : (s t r : Start) → s.from ≡ r.from → Places s t → Places t r → r.level ≤ s.level
  one_on s t r e (inl p) (inl q) = absurd (omega (arith, p.0, q.0))
  one_on s t r e (inl p) (inr (inl q)) = absurd (omega (arith, p.0, q.0))
  one_on s t r e (inl p) (inr (inr q)) = let n = ap (λ a. number_between ss a t.from) e in omega (arith, p.1, q.1)
  one_on s t r e (inr (inl p)) (inl q) = absurd (omega (arith, p.0, q.0))
  one_on s t r e (inr (inl p)) (inr (inl q)) = omega (arith, p.1, q.1)
  one_on s t r e (inr (inl p)) (inr (inr q)) = absurd (omega (arith, p.0, q.0))
  one_on s t r e (inr (inr p)) (inl q) = let n = ap (λ a. number_between ss t.from a) e in omega (arith, p.1, q.1)
  one_on s t r e (inr (inr p)) (inr (inl q)) = absurd (omega (arith, p.0, q.0))
  one_on s t r e (inr (inr p)) (inr (inr q)) = absurd (omega (arith, p.0, q.0))

  second_on : (s t r : Start) → r.from < s.from → Places s t → Places t r → r.level < min (number_between ss r.from s.from) s.level
  second_on s t r lt (inl p) (inl q) = absurd (omega (arith, p.0, q.0))
  second_on s t r lt (inl p) (inr (inl q)) = absurd (omega (arith, p.0, q.0))
  second_on s t r lt (inl p) (inr (inr q)) = let n = number_in_parts ss r.from s.from t.from lt p.0 in omega (arith, p.1, q.1)
  second_on s t r lt (inr (inl p)) (inl q) = absurd (omega (arith, p.0, q.0))
  second_on s t r lt (inr (inl p)) (inr (inl q)) = absurd (omega (arith, p.0, q.0))
  second_on s t r lt (inr (inl p)) (inr (inr q)) = let n = ap (λ a. number_between ss r.from a) p.0 in omega (arith, p.1, q.1)
  second_on s t r lt (inr (inr p)) (inl q) = let n = number_in_parts ss t.from r.from s.from q.0 lt in omega (arith, p.1, q.1)
  second_on s t r lt (inr (inr p)) (inr (inl q)) = let n = ap (λ c. number_between ss c s.from) q.0 in omega (arith, p.1, q.1)
  second_on s t r lt (inr (inr p)) (inr (inr q)) = let n = number_in_parts ss r.from t.from s.from q.0 p.0 in omega (arith, p.1, q.1)

  in_order_trans : (s t r : Start) → InOrder s t → InOrder t r → InOrder s r
  in_order_trans s t r a b =
      let le = a.rules in
      let le' = b.rules in
      record {
        rules = omega arith;
        within = λ q.
            let p = ordered_places s t (a.within (omega arith)) in
            let p' = ordered_places t r (b.within (omega arith)) in
            record {
              from_first = λ lt. first_on s t r lt p p';
              from_one = λ e. one_on s t r e p p';
              from_second = λ gt. second_on s t r gt p p';
            };
      }

  module _ (deep : ℕ → ℕ) where
    abbrev pub starts : List Start
    starts = level_starts deep ss

    pub starts_rise : IsRising InOrder starts
    starts_rise =
        order_rising (is_start_first ss) (λ s. Unit {0}) InOrder (λ s t p q e. first_before s t e) (λ s t p q e. second_before s t e)
        (λ s t r p q o a b. in_order_trans s t r a b) (starts_of_places deep 0 ss) (λ s m. tt)

    place_back : (i l : ℕ) (s : Start) → IsMember (starts_of_place i l) s → (s.from ≡ i) × (s.level ≤ l)
    place_back i zero s (inl e) = let z = ap (λ (x : Start). x.level) e in (ap (λ (x : Start). x.from) (sym e), omega arith)
    place_back i zero s (inr m) = absurd m
    place_back i (suc l) s (inl e) = let z = ap (λ (x : Start). x.level) e in (ap (λ (x : Start). x.from) (sym e), omega arith)
    place_back i (suc l) s (inr m) = let r = place_back i l s m in (r.0, omega (arith, r.1))

    place_has : (i l h : ℕ) → h ≤ l → IsMember (starts_of_place i l) (record { from = i; level = h })
    place_has i zero h le = let z : 0 ≡ h = omega arith in inl (ap (λ k. record { from = i; level = k }) z)
    place_has i (suc l) h le =
        ⊎_elim (λ lt. inr (place_has i l h (omega arith)))
        (λ ge. let z : suc l ≡ h = omega arith in inl (ap (λ k. record { from = i; level = k }) z)) (cases_lt h (suc l))

    -- the place of a start
    pub record Begins (i : ℕ) (rs : List Ranked) (s : Start) : Type 0 where
      pub index : ℕ
      pub ranked : Ranked
      pub at : IsNth rs index ranked
      pub from : s.from ≡ i + index
      pub level : s.level ≤ min ranked.depth (deep ranked.place)

    places_back : (i : ℕ) (rs : List Ranked) (s : Start) → IsMember (starts_of_places deep i rs) s → Begins i rs s
    places_back i [] s m = absurd m
    places_back i (r ∷ rs) s m =
        ⊎_elim
        (λ k.
        let b = place_back i (min r.depth (deep r.place)) s k in
        record { index = 0; ranked = r; at = refl; from = omega (arith, b.0); level = b.1 })
        (λ k.
        let b = places_back (suc i) rs s k in
        record { index = suc b.index; ranked = b.ranked; at = b.at; from = (let z = b.from in omega arith); level = b.level })
        (member_append (starts_of_place i (min r.depth (deep r.place))) (starts_of_places deep (suc i) rs) s m)

    places_have : (i : ℕ) (rs : List Ranked) (k h : ℕ) (r : Ranked) → IsNth rs k r → h ≤ min r.depth (deep r.place)
        → IsMember (starts_of_places deep i rs) (record { from = i + k; level = h })
    places_have i [] k h r at le = absurd at
    places_have i (x ∷ rs) zero h r at le =
        let z : i ≡ i + 0 = omega arith in
        append_member_left (starts_of_place i (min x.depth (deep x.place))) (starts_of_places deep (suc i) rs) _
        (subst (λ n. IsMember (starts_of_place i (min x.depth (deep x.place))) (record { from = n; level = h })) z
        (place_has i (min x.depth (deep x.place)) h (subst (λ (y : Ranked). h ≤ min y.depth (deep y.place)) (sym at) le)))
    places_have i (x ∷ rs) (suc k) h r at le =
        let z : suc i + k ≡ i + suc k = omega arith in
        append_member_right (starts_of_place i (min x.depth (deep x.place))) (starts_of_places deep (suc i) rs) _
        (subst (λ n. IsMember (starts_of_places deep (suc i) rs) (record { from = n; level = h })) z (places_have (suc i) rs k h r at le))

    pub start_place : (s : Start) → IsMember starts s → Begins 0 ss s
    start_place s m = places_back 0 ss s (order_back (is_start_first ss) (starts_of_places deep 0 ss) s m)

    pub start_has : (i h : ℕ) (r : Ranked) → IsNth ss i r → h ≤ min r.depth (deep r.place)
        → IsMember starts (record { from = i; level = h })
    start_has i h r at le =
        let z : 0 + i ≡ i = omega arith in
        order_has (is_start_first ss) (starts_of_places deep 0 ss) (record { from = i; level = h })
        (subst (λ n. IsMember (starts_of_places deep 0 ss) (record { from = n; level = h })) z (places_have 0 ss i h r at le))

    -- of two starts of one place that of the greater level stands first
    pub greater_first : (i j : ℕ) (s t : Start) → IsNth starts i s → IsNth starts j t → s.from ≡ t.from → t.level < s.level → i < j
    greater_first i j s t at at' e lt = ⊎_elim same (λ d. ⊎_elim (λ l. l) behind d) (cases_order i j)
      where
        one : (xs : List Start) (i : ℕ) → IsNth xs i s → IsNth xs i t → s ≡ t
        one [] i h k = absurd h
        one (x ∷ xs) zero h k = sym h ∙ k
        one (x ∷ xs) (suc i) h k = one xs i h k

        same : i ≡ j → i < j
        same q = let z = ap (λ (x : Start). x.level) (one starts i at (subst (λ n. IsNth starts n t) (sym q) at')) in absurd (omega arith)

        behind : j < i → i < j
        behind l =
            let o = rising_nth InOrder starts j i t s starts_rise at' at l in
            let z = (o.within (ap (λ n. (ranked_at ss n).rule) (sym e))).from_one (sym e) in
            absurd (omega arith)

-- where a start stands first
pub record FirstAt (xs : List Start) (s : Start) : Type 0 where
  pub index : ℕ
  pub at : IsNth xs index s
  pub before : (j : ℕ) → j < index → IsNth xs j s → ⊥

same_start : (s t : Start) → Dec (s ≡ t)
same_start s t = go (ℕ_discrete s.from t.from) (ℕ_discrete s.level t.level)
  where
    go : Dec (s.from ≡ t.from) → Dec (s.level ≡ t.level) → Dec (s ≡ t)
    go (yes e) (yes f) = yes (ap₂ (λ a b. record { from = a; level = b }) e f)
    go (no n) d = no (λ e. n (ap (λ (x : Start). x.from) e))
    go (yes e) (no n) = no (λ q. n (ap (λ (x : Start). x.level) q))

pub first_at : (xs : List Start) (s : Start) → IsMember xs s → FirstAt xs s
first_at [] s m = absurd m
first_at (x ∷ xs) s m = go (same_start x s) m (λ k. first_at xs s k)
  where
    go : Dec (x ≡ s) → IsMember (x ∷ xs) s → (IsMember xs s → FirstAt xs s) → FirstAt (x ∷ xs) s
    go (yes e) k f = record { index = 0; at = e; before = λ j lt h. omega arith }
    go (no n) (inl e) f = absurd (n e)
    go (no n) (inr k) f = let r = f k in record { index = suc r.index; at = r.at; before = λ j lt h. before r j lt h }
      where
        before : (r : FirstAt xs s) (j : ℕ) → j < suc r.index → IsNth (x ∷ xs) j s → ⊥
        before r zero lt h = n h
        before r (suc j) lt h = r.before j (omega arith) h
