-- What a sweep over all beginnings has found are the starts of the search, in order.
use Rattle.std.proofs.Common.{inl, inr, sym, ap, ap₂, ◌∙◌, subst, arith, ⊎_elim, length}
use Rattle.std.proofs.lemmas.Bool.{cases_lt, cases_order}
use Rattle.std.specs.Prelude.{◌≡◌, ℕ, zero, suc, ◌+◌, ◌-◌, ◌<◌, ◌≤◌, min, List, [], ◌∷◌, map, Bool, true, false, if◌then◌else◌, refl}
use Rattle.lx_tnfa.specs.LeafReadings.{IsNth}
use Rattle.lx_tnfa.specs.Tnfa.{Tnfa}
use Rattle.lx_tnfa.proofs.Searching.SearchBasics.{Each}
use Rattle.lx_tdfa.proofs.WordKernels.OrderedLists.{IsMember, IsRising, each_from, each_member, member_append, rising_append}
use Rattle.lx_posix.specs.Beginnings.{AreBeginnings, AreByRule, FollowsInRules}
use Rattle.lx_posix.specs.Comparing.{Ranked, least_number, number_between, ranked_at}
use Rattle.lx_posix.specs.KernelLists.{in_order, put_in_order}
use Rattle.lx_posix.specs.Starts.{Start, is_start_first, level_starts, starts_of_place, starts_of_places}
use Rattle.lx_posix.specs.Sweeps.{level_at, number_at, shown_start}
use Rattle.lx_posix.specs.declared.points.Beginning.{Beginning}
use Rattle.lx_posix.specs.declared.starts.Start.{Start as Found}
use Rattle.lx_posix.proofs.CodeStarts.SweptStarts.{IsSwept, IsSweptOn, Precedes, start_from}
use Rattle.lx_posix.proofs.Lists.InOrder.{order_back, put_back}
use Rattle.lx_posix.proofs.OneSearch.StartOrder.{InOrder, start_has, start_place, starts_rise}

-- two lists in one strict order that have the same members are one
module _ {A : Type 0} (R : A → A → Type 0) (asym : (x y : A) → R x y → R y x → ⊥) where
  heads : (x y : A) (xs ys : List A) → Each (R x) xs → Each (R y) ys → IsMember (y ∷ ys) x → IsMember (x ∷ xs) y → x ≡ y
  heads x y xs ys r s (inl e) n = sym e
  heads x y xs ys r s (inr m) (inl e) = e
  heads x y xs ys r s (inr m) (inr n) = absurd (asym x y (each_member (R x) xs y r n) (each_member (R y) ys x s m))

  in_tail : (x y : A) (xs ys : List A) → Each (R x) xs → x ≡ y → (z : A) → IsMember xs z → IsMember (y ∷ ys) z → IsMember ys z
  in_tail x y xs ys r e z m (inl f) =
      let o = subst (λ a. R x a) (sym (e ∙ f)) (each_member (R x) xs z r m) in absurd (asym x x o o)
  in_tail x y xs ys r e z m (inr n) = n

  pub same_list : (xs ys : List A) → IsRising R xs → IsRising R ys → ((z : A) → IsMember xs z → IsMember ys z)
      → ((z : A) → IsMember ys z → IsMember xs z) → xs ≡ ys
  same_list [] [] r s f g = refl
  same_list [] (y ∷ ys) r s f g = absurd (g y (inl refl))
  same_list (x ∷ xs) [] r s f g = absurd (f x (inl refl))
  same_list (x ∷ xs) (y ∷ ys) r s f g =
      let e = heads x y xs ys r.0 s.0 (f x (inl refl)) (g y (inl refl)) in
      ap₂ (λ a l. a ∷ l) e
      (same_list xs ys r.1 s.1 (λ z m. in_tail x y xs ys r.0 e z m (f z (inr m)))
      (λ z m. in_tail y x ys xs s.0 (sym e) z m (g z (inr m))))

module _ {A : Type 0} where
  rising_weaker : (R S : A → A → Type 0) (xs : List A) → ((x y : A) → IsMember xs x → IsMember xs y → R x y → S x y) → IsRising R xs
      → IsRising S xs
  rising_weaker R S [] f r = tt
  rising_weaker R S (x ∷ xs) f r = (
    each_from (S x) xs (λ y m. f x y (inl refl) (inr m) (each_member (R x) xs y r.0 m)),
    rising_weaker R S xs (λ y z m n. f y z (inr m) (inr n)) r.1,
  )

  rising_both : (R S : A → A → Type 0) (xs : List A) → IsRising R xs → IsRising S xs → IsRising (λ x y. R x y × S x y) xs
  rising_both R S [] r s = tt
  rising_both R S (x ∷ xs) r s = (
    each_from (λ y. R x y × S x y) xs (λ y m. (each_member (R x) xs y r.0 m, each_member (S x) xs y s.0 m)),
    rising_both R S xs r.1 s.1,
  )

  rising_map : {B : Type 0} (f : A → B) (R : B → B → Type 0) (xs : List A) → IsRising (λ x y. R (f x) (f y)) xs → IsRising R (map f xs)
  rising_map f R [] r = tt
  rising_map {B} f R (x ∷ xs) r = (each xs r.0, rising_map f R xs r.1)
    where
      each : (ys : List A) → Each (λ y. R (f x) (f y)) ys → Each (R (f x)) (map f ys)
      each [] e = tt
      each (y ∷ ys) e = (e.0, each ys e.1)

  member_map : {B : Type 0} (f : A → B) (xs : List A) (x : A) → IsMember xs x → IsMember (map f xs) (f x)
  member_map f [] x m = absurd m
  member_map f (y ∷ ys) x (inl e) = inl (ap f e)
  member_map f (y ∷ ys) x (inr m) = inr (member_map f ys x m)

  member_unmap : {B : Type 0} (f : A → B) (xs : List A) (y : B) → IsMember (map f xs) y → (x : A) × IsMember xs x × (f x ≡ y)
  member_unmap f [] y m = absurd m
  member_unmap f (x ∷ xs) y (inl e) = (x, inl refl, e)
  member_unmap f (x ∷ xs) y (inr m) = let r = member_unmap f xs y m in (r.0, inr r.1, r.2)

  abbrev Differs : A → A → Type 0
  Differs x y = x ≡ y → ⊥

  -- a list with no member twice is put in order to such a list
  module _ (is_first : A → A → Bool) where
    put_once : (x : A) (ys : List A) → Each (Differs x) ys → IsRising Differs ys → IsRising Differs (put_in_order is_first x ys)
    put_once x [] e r = (tt, tt)
    put_once x (y ∷ ys) e r = go (is_first x y) (put_once x ys e.1 r.1)
      where
        go : (b : Bool) → IsRising Differs (put_in_order is_first x ys)
            → IsRising Differs (if b then x ∷ y ∷ ys else y ∷ put_in_order is_first x ys)
        go true later = (e, r)
        go false later = (
          each_from (Differs y) (put_in_order is_first x ys)
              (λ z m. ⊎_elim (λ k q. e.0 (k ∙ sym q)) (λ k. each_member (Differs y) ys z r.0 k) (put_back is_first x ys z m)),
          later,
        )

    order_once : (xs : List A) → IsRising Differs xs → IsRising Differs (in_order is_first xs)
    order_once [] r = tt
    order_once (x ∷ xs) r =
        put_once x (in_order is_first xs)
        (each_from (Differs x) (in_order is_first xs) (λ z m. each_member (Differs x) xs z r.0 (order_back is_first xs z m)))
        (order_once xs r.1)

-- the starts of places are different ones
place_once : (from level : ℕ) → IsRising Differs (starts_of_place from level)
place_once from zero = (tt, tt)
place_once from (suc level) = (
  each_from (Differs (record { from = from; level = suc level })) (starts_of_place from level)
      (λ s m e. let b = (place_back_level from level s m) in let z = ap (λ (x : Start). x.level) e in omega arith),
  place_once from level,
)
  where
    place_back_level : (i l : ℕ) (s : Start) → IsMember (starts_of_place i l) s → s.level ≤ l
    place_back_level i zero s (inl e) = let z = ap (λ (x : Start). x.level) e in omega arith
    place_back_level i zero s (inr m) = absurd m
    place_back_level i (suc l) s (inl e) = let z = ap (λ (x : Start). x.level) e in omega arith
    place_back_level i (suc l) s (inr m) = let z = place_back_level i l s m in omega arith

place_from : (i l : ℕ) (s : Start) → IsMember (starts_of_place i l) s → s.from ≡ i
place_from i zero s (inl e) = ap (λ (x : Start). x.from) (sym e)
place_from i zero s (inr m) = absurd m
place_from i (suc l) s (inl e) = ap (λ (x : Start). x.from) (sym e)
place_from i (suc l) s (inr m) = place_from i l s m

places_from : (deep : ℕ → ℕ) (i : ℕ) (rs : List Ranked) (s : Start) → IsMember (starts_of_places deep i rs) s → i ≤ s.from
places_from deep i [] s m = absurd m
places_from deep i (r ∷ rs) s m =
    ⊎_elim (λ k. let e = place_from i (min r.depth (deep r.place)) s k in omega arith)
    (λ k. let h = places_from deep (suc i) rs s k in omega arith)
    (member_append (starts_of_place i (min r.depth (deep r.place))) (starts_of_places deep (suc i) rs) s m)

places_once : (deep : ℕ → ℕ) (i : ℕ) (rs : List Ranked) → IsRising Differs (starts_of_places deep i rs)
places_once deep i [] = tt
places_once deep i (r ∷ rs) =
    rising_append Differs (starts_of_place i (min r.depth (deep r.place))) (starts_of_places deep (suc i) rs)
    (place_once i (min r.depth (deep r.place))) (places_once deep (suc i) rs)
    (λ s t m n e.
    let a = place_from i (min r.depth (deep r.place)) s m in
    let b = places_from deep (suc i) rs t n in
    let z = ap (λ (x : Start). x.from) e in
    omega arith)

-- the number of two is the least of those between
least_most : (ss : List Ranked) (k l : ℕ) → k ≤ l → least_number ss l ≤ (ranked_at ss k).number
least_most [] k l le = omega arith
least_most (s ∷ ss) zero zero le = omega arith
least_most (s ∷ ss) zero (suc l) le = omega arith
least_most (s ∷ ss) (suc k) zero le = absurd (omega arith)
least_most (s ∷ ss) (suc k) (suc l) le = let h = least_most ss k l (omega arith) in omega arith

between_most : (ss : List Ranked) (i k j : ℕ) → i < k → k ≤ j → number_between ss i j ≤ (ranked_at ss k).number
between_most [] i k j lt le = omega arith
between_most (s ∷ ss) i zero j lt le = absurd (omega arith)
between_most (s ∷ ss) i (suc k) zero lt le = absurd (omega arith)
between_most (s ∷ ss) zero (suc k) (suc j) lt le = least_most ss k j (omega arith)
between_most (s ∷ ss) (suc i) (suc k) (suc j) lt le = between_most ss i k j (omega arith) (omega arith)

least_over : (ss : List Ranked) (h l : ℕ) → ((k : ℕ) → k ≤ l → h < (ranked_at ss k).number) → h < least_number ss l
least_over [] h l f = f 0 (omega arith)
least_over (s ∷ ss) h zero f = f 0 (omega arith)
least_over (s ∷ ss) h (suc l) f =
    let a = f 0 (omega arith) in
    let b = least_over ss h l (λ k le. f (suc k) (omega arith)) in
    omega arith

between_over : (ss : List Ranked) (h i j : ℕ) → i < j → ((k : ℕ) → i < k → k ≤ j → h < (ranked_at ss k).number)
    → h < number_between ss i j
between_over [] h i j lt f = f j lt (omega arith)
between_over (s ∷ ss) h i zero lt f = absurd (omega arith)
between_over (s ∷ ss) h zero (suc j) lt f = least_over ss h j (λ k le. f (suc k) (omega arith) (omega arith))
between_over (s ∷ ss) h (suc i) (suc j) lt f = between_over ss h i j (omega arith) (λ k a b. f (suc k) (omega arith) (omega arith))

-- the rules of places
abbrev rule_of_place : List Ranked → ℕ → ℕ
rule_of_place ss i = (ranked_at ss i).rule

rules_follow : (ss : List Ranked) (i : ℕ) → AreByRule ss → suc i < length ss → FollowsInRules (ranked_at ss i) (ranked_at ss (suc i))
rules_follow [] i b lt = absurd (omega arith)
rules_follow (s ∷ []) i b lt = absurd (omega arith)
rules_follow (s ∷ t ∷ ss) zero b lt = b.0
rules_follow (s ∷ t ∷ ss) (suc i) b lt = rules_follow (t ∷ ss) i b.1 (omega arith)

rules_rise : (ss : List Ranked) (i n : ℕ) → AreByRule ss → i + n < length ss → rule_of_place ss i ≤ rule_of_place ss (i + n)
rules_rise ss i zero b lt = let z : i + 0 ≡ i = omega arith in let e = ap (rule_of_place ss) z in omega arith
rules_rise ss i (suc n) b lt =
    let z : i + suc n ≡ suc (i + n) = omega arith in
    let e = ap (rule_of_place ss) z in
    let h = rules_rise ss i n b (omega arith) in
    ⊎_elim (λ q. omega arith) (λ q. let l = q.0 in omega arith) (rules_follow ss (i + n) b (omega arith))

rules_same : (ss : List Ranked) (i n : ℕ) → AreByRule ss → i + n < length ss
    → ((k : ℕ) → i < k → k ≤ i + n → 0 < (ranked_at ss k).number) → rule_of_place ss i ≡ rule_of_place ss (i + n)
rules_same ss i zero b lt f = let z : i ≡ i + 0 = omega arith in ap (rule_of_place ss) z
rules_same ss i (suc n) b lt f =
    let z : suc (i + n) ≡ i + suc n = omega arith in
    rules_same ss i n b (omega arith) (λ k gt le. f k gt (omega arith))
    ∙ ⊎_elim (λ q. q) (λ q. let some = f (suc (i + n)) (omega arith) (omega arith) in let none = q.1 in absurd (omega arith))
    (rules_follow ss (i + n) b (omega arith))
    ∙ ap (rule_of_place ss) z

-- what the beginnings are
level_is : (tnfa : Tnfa) (deep : ℕ → ℕ) (bs : List Beginning) (ss : List Ranked) → AreBeginnings tnfa deep bs ss → (i : ℕ) (r : Ranked)
    → IsNth ss i r → level_at bs i ≡ min r.depth (deep r.place)
level_is tnfa deep [] [] are i r at = absurd at
level_is tnfa deep [] (s ∷ ss) are i r at = absurd are
level_is tnfa deep (b ∷ bs) [] are i r at = absurd are
level_is tnfa deep (b ∷ bs) (s ∷ ss) are zero r at =
    ap₂ (λ x y. min x y) are.0.«open» are.0.depth ∙ ap (λ (x : Ranked). min x.depth (deep x.place)) at
level_is tnfa deep (b ∷ bs) (s ∷ ss) are (suc i) r at = level_is tnfa deep bs ss are.1 i r at

number_is : (tnfa : Tnfa) (deep : ℕ → ℕ) (bs : List Beginning) (ss : List Ranked) → AreBeginnings tnfa deep bs ss → (i : ℕ)
    → number_at bs i ≡ (ranked_at ss i).number
number_is tnfa deep [] [] are i = refl
number_is tnfa deep [] (s ∷ ss) are i = absurd are
number_is tnfa deep (b ∷ bs) [] are i = absurd are
number_is tnfa deep (b ∷ bs) (s ∷ ss) are zero = are.0.number
number_is tnfa deep (b ∷ bs) (s ∷ ss) are (suc i) = number_is tnfa deep bs ss are.1 i

as_many : (tnfa : Tnfa) (deep : ℕ → ℕ) (bs : List Beginning) (ss : List Ranked) → AreBeginnings tnfa deep bs ss → length bs ≡ length ss
as_many tnfa deep [] [] are = refl
as_many tnfa deep [] (s ∷ ss) are = absurd are
as_many tnfa deep (b ∷ bs) [] are = absurd are
as_many tnfa deep (b ∷ bs) (s ∷ ss) are = ap (λ n. suc n) (as_many tnfa deep bs ss are.1)

pub none_behind : (bs : List Beginning) → number_at bs (length bs) ≡ 0
none_behind [] = refl
none_behind (b ∷ bs) = none_behind bs

ranked_within : (ss : List Ranked) (i : ℕ) → i < length ss → (r : Ranked) × IsNth ss i r
ranked_within [] i lt = absurd (omega arith)
ranked_within (s ∷ ss) zero lt = (s, refl)
ranked_within (s ∷ ss) (suc i) lt = ranked_within ss i (omega arith)

nth_within : (ss : List Ranked) (i : ℕ) (r : Ranked) → IsNth ss i r → i < length ss
nth_within [] i r at = absurd at
nth_within (s ∷ ss) zero r at = omega arith
nth_within (s ∷ ss) (suc i) r at = let h = nth_within ss i r at in omega arith

-- of two in order both ways the second is the first
one_start : (ss : List Ranked) (s t : Start) → InOrder ss s t → InOrder ss t s → s ≡ t
one_start ss s t a b =
    let x = a.rules in
    let y = b.rules in
    let in_first = a.within (omega arith) in
    let in_second = b.within (omega arith) in
    ⊎_elim
    (λ e.
    let p = in_first.from_one e in
    let q = in_second.from_one (sym e) in
    ap₂ (λ i h. record { from = i; level = h }) e (omega arith))
    (λ d. ⊎_elim
    (λ lt. let p = in_first.from_first lt in let q = in_second.from_second lt in absurd (omega arith))
    (λ gt. let p = in_first.from_second gt in let q = in_second.from_first gt in absurd (omega arith)) d)
    (cases_order s.from t.from)

module _ (tnfa : Tnfa) (deep : ℕ → ℕ) (bs : List Beginning) (ss : List Ranked) (are : AreBeginnings tnfa deep bs ss) (by_rule : AreByRule ss)
  where
    abbrev Strict : Start → Start → Type 0
    Strict s t = InOrder ss s t × (s ≡ t → ⊥)

    strict_asym : (s t : Start) → Strict s t → Strict t s → ⊥
    strict_asym s t a b = a.1 (one_start ss s t a.0 b.0)

    rises : (i j : ℕ) → i ≤ j → j < length ss → rule_of_place ss i ≤ rule_of_place ss j
    rises i j le lt =
        let z : i + (j - i) ≡ j = omega arith in
        subst (λ n. rule_of_place ss i ≤ rule_of_place ss n) z (rules_rise ss i (j - i) by_rule (omega arith))

    same_rule : (i j : ℕ) → i ≤ j → j < length ss → ((k : ℕ) → i < k → k ≤ j → 0 < (ranked_at ss k).number)
        → rule_of_place ss i ≡ rule_of_place ss j
    same_rule i j le lt f =
        let z : i + (j - i) ≡ j = omega arith in
        subst (λ n. rule_of_place ss i ≡ rule_of_place ss n) z
        (rules_same ss i (j - i) by_rule (omega arith) (λ k gt le. f k gt (omega arith)))

    over_number : (h k : ℕ) → h < number_at bs k → h < (ranked_at ss k).number
    over_number h k lt = subst (λ n. h < n) (number_is tnfa deep bs ss are k) lt

    strict : (s t : Found) → s.from < length ss → t.from < length ss → Precedes (number_at bs) (level_at bs) s t
        → Strict (shown_start s) (shown_start t)
    strict s t in_s in_t (inl p) =
        let e = number_is tnfa deep bs ss are p.0 in
        let gt = p.1 in
        let le = p.2 in
        let low = p.3 in (
          record {
            rules = rises s.from t.from (omega arith) in_t;
            within = λ q. record {
              from_first = λ lt. let m = between_most ss s.from p.0 t.from p.1 p.2 in omega arith;
              from_one = λ f. absurd (omega arith);
              from_second = λ l. absurd (omega arith);
            };
          },
          λ q. let z = ap (λ (x : Start). x.from) q in omega arith,
        )
    strict s t in_s in_t (inr (inl p)) =
        let lt = p.0 in (
          record {
            rules =
                ⊎_elim
                (λ less.
                let z = same_rule t.from s.from (omega arith) in_s (λ k gt le. let o = over_number t.level k (p.1 k gt le) in omega arith) in
                omega arith)
                (λ more. rises s.from t.from more in_t) (cases_lt t.from s.from);
            within = λ q. record {
              from_first = λ l. omega arith;
              from_one = λ f. omega arith;
              from_second = λ l.
                  let o = between_over ss t.level t.from s.from l (λ k gt le. over_number t.level k (p.1 k gt le)) in omega arith;
            };
          },
          λ q. let z = ap (λ (x : Start). x.level) q in omega arith,
        )
    strict s t in_s in_t (inr (inr p)) =
        let e = p.0 in
        let lt = p.1 in (
          record {
            rules = rises s.from t.from (omega arith) in_t;
            within = λ q. record {
              from_first = λ l. omega arith;
              from_one = λ f. omega arith;
              from_second = λ l. absurd (omega arith);
            };
          },
          λ q. let z = ap (λ (x : Start). x.from) q in omega arith,
        )

    module _ (found : List Found) (levels : List (List ℕ)) (swept : IsSwept (number_at bs) (level_at bs) (length bs) 0 found levels) where
      inside : (s : Found) → IsMember found s → s.from < length ss
      inside s m =
          let g = (swept.gone s m).1 in
          let n = as_many tnfa deep bs ss are in
          let a = g.1 in
          let b = g.2 in
          omega arith

      found_rise : IsRising Strict (map shown_start found)
      found_rise =
          rising_map shown_start Strict found
          (rising_weaker (Precedes (number_at bs) (level_at bs)) (λ s t. Strict (shown_start s) (shown_start t)) found
          (λ s t m n p. strict s t (inside s m) (inside t n) p) swept.rising)

      listed_rise : IsRising Strict (level_starts deep ss)
      listed_rise =
          rising_both (InOrder ss) Differs (level_starts deep ss) (starts_rise ss deep)
          (order_once (is_start_first ss) (starts_of_places deep 0 ss) (places_once deep 0 ss))

      found_listed : (s : Start) → IsMember (map shown_start found) s → IsMember (level_starts deep ss) s
      found_listed s m =
          let u = member_unmap shown_start found s m in
          let r = ranked_within ss u.0.from (inside u.0 u.1) in
          let low = (swept.gone u.0 u.1).0 in
          let e = level_is tnfa deep bs ss are u.0.from r.0 r.1 in
          subst (λ x. IsMember (level_starts deep ss) x) u.2 (start_has ss deep u.0.from u.0.level r.0 r.1 (omega arith))

      listed_found : (s : Start) → IsMember (level_starts deep ss) s → IsMember (map shown_start found) s
      listed_found s m =
          let b = start_place ss deep s m in
          let lt = nth_within ss b.index b.ranked b.at in
          let n = as_many tnfa deep bs ss are in
          let e = level_is tnfa deep bs ss are b.index b.ranked b.at in
          let from : s.from ≡ b.index = (let z = b.from in omega arith) in
          let level = b.level in
          subst (λ i. IsMember (map shown_start found) (record { from = i; level = s.level })) (sym from)
          (member_map shown_start found (start_from b.index s.level)
          (⊎_elim (λ k. k) (λ k. absurd (subst (λ l. IsMember l b.index) (swept.unused s.level (omega arith)) k))
          (swept.every b.index s.level (omega arith) (omega arith))))

      pub found_is : map shown_start found ≡ level_starts deep ss
      found_is =
          same_list Strict strict_asym (map shown_start found) (level_starts deep ss) found_rise listed_rise found_listed listed_found

-- of a whole sweep
pub all_found : (bs : List Beginning) (places used : ℕ) (found : List Found) (levels : List (List ℕ)) → IsSweptOn bs places used found levels
    → places ≡ length bs → (tnfa : Tnfa) (deep : ℕ → ℕ) (ss : List Ranked) → AreBeginnings tnfa deep bs ss → AreByRule ss
    → map shown_start found ≡ level_starts deep ss
all_found bs places used found levels is whole tnfa deep ss are by_rule =
    let none = none_behind bs in
    let number = ap (number_at bs) whole in
    let low = is.low in
    let unused : used ≡ 0 = omega arith in
    found_is tnfa deep bs ss are by_rule found levels
    (subst (λ n. IsSwept (number_at bs) (level_at bs) n 0 found levels) whole
    (subst (λ n. IsSwept (number_at bs) (level_at bs) places n found levels) unused is.swept))
