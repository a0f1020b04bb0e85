-- Lists by recursion: their members, elements by their index, and ascending lists. And the order of runs by their keys.
use Rattle.std.proofs.Common.{inl, inr, sym, ap₂, ◌∙◌, subst, arith}
use Rattle.std.specs.Prelude.{◌≡◌, ℕ, zero, suc, ◌+◌, ◌<◌, ◌⊎◌, List, [], ◌∷◌, ◌++◌, refl}
use Rattle.lx_regex.specs.Dictionary.{IsBefore}
use Rattle.lx_tnfa.specs.LeafReadings.{IsNth}
use Rattle.lx_tnfa.proofs.Searching.SimplePaths.{IsAt}
use Rattle.lx_tnfa.proofs.Searching.SearchBasics.{Each}
use Rattle.lx_tnfa.proofs.Searching.SearchUnique.{IsBefore-cases, IsBefore-irrefl, IsBefore-trans, three_cases}
use Rattle.lx_tdfa.specs.Kernels.{Key}

-- x is one of the list
abbrev pub IsMember : {X : Type 0} → List X → X → Type 0
IsMember [] x = ⊥
IsMember (y ∷ ys) x = (y ≡ x) ⊎ IsMember ys x

pub each_member : {X : Type 0} (P : X → Type 0) (xs : List X) (x : X) → Each P xs → IsMember xs x → P x
each_member P [] x h m = absurd m
each_member P (y ∷ ys) x h (inl e) = subst P e h.0
each_member P (y ∷ ys) x h (inr m) = each_member P ys x h.1 m

pub each_from : {X : Type 0} (P : X → Type 0) (xs : List X) → ((x : X) → IsMember xs x → P x) → Each P xs
each_from P [] f = tt
each_from P (y ∷ ys) f = (f y (inl refl), each_from P ys (λ x m. f x (inr m)))

pub nth_member : {X : Type 0} (xs : List X) (n : ℕ) (x : X) → IsNth xs n x → IsMember xs x
nth_member [] n x h = absurd h
nth_member (y ∷ ys) zero x h = inl h
nth_member (y ∷ ys) (suc n) x h = inr (nth_member ys n x h)

pub member_nth : {X : Type 0} (xs : List X) (x : X) → IsMember xs x → (n : ℕ) × IsNth xs n x
member_nth [] x m = absurd m
member_nth (y ∷ ys) x (inl e) = (0, e)
member_nth (y ∷ ys) x (inr m) = let r = member_nth ys x m in (suc r.0, r.1)

pub nth_same : {X : Type 0} (xs : List X) (n : ℕ) (x y : X) → IsNth xs n x → IsNth xs n y → x ≡ y
nth_same [] n x y h k = absurd h
nth_same (z ∷ xs) zero x y h k = sym h ∙ k
nth_same (z ∷ xs) (suc n) x y h k = nth_same xs n x y h k

pub at_nth : (i : ℕ) (cs : List ℕ) (w c : ℕ) → IsAt i cs w c → (n : ℕ) × (w ≡ i + n) × IsNth cs n c
at_nth i [] w c a = absurd a
at_nth i (x ∷ xs) w c (inl e) = let h = e.0 in (0, omega arith, e.1)
at_nth i (x ∷ xs) w c (inr a) =
    let r = at_nth (suc i) xs w c a in
    let h : w ≡ suc i + r.0 = r.1 in
    (suc r.0, omega arith, r.2)

pub nth_at : (i : ℕ) (cs : List ℕ) (n c : ℕ) → IsNth cs n c → IsAt i cs (i + n) c
nth_at i [] n c h = absurd h
nth_at i (x ∷ xs) zero c h = inl (omega arith, h)
nth_at i (x ∷ xs) (suc n) c h =
    let e : suc i + n ≡ i + suc n = omega arith in
    inr (subst (λ k. IsAt (suc i) xs k c) e (nth_at (suc i) xs n c h))

pub at_zero_nth : (cs : List ℕ) (w c : ℕ) → IsAt 0 cs w c → IsNth cs w c
at_zero_nth cs w c a =
    let r = at_nth 0 cs w c a in
    let h : w ≡ 0 + r.0 = r.1 in
    let e : r.0 ≡ w = omega arith in
    subst (λ k. IsNth cs k c) e r.2

pub nth_at_zero : (cs : List ℕ) (n c : ℕ) → IsNth cs n c → IsAt 0 cs n c
nth_at_zero cs n c h =
    let e : 0 + n ≡ n = omega arith in
    subst (λ k. IsAt 0 cs k c) e (nth_at 0 cs n c h)

-- each stands before all that follow it
abbrev pub IsRising : {X : Type 0} → (X → X → Type 0) → List X → Type 0
IsRising L [] = Unit {0}
IsRising L (x ∷ xs) = Each (L x) xs × IsRising L xs

pub rising_nth : {X : Type 0} (L : X → X → Type 0) (xs : List X) (i j : ℕ) (x y : X) → IsRising L xs → IsNth xs i x → IsNth xs j y → i < j → L x y
rising_nth L [] i j x y r h k l = absurd h
rising_nth L (z ∷ xs) i zero x y r h k l = absurd (omega arith)
rising_nth L (z ∷ xs) zero (suc j) x y r h k l = subst (λ a. L a y) h (each_member (L z) xs y r.0 (nth_member xs j y k))
rising_nth L (z ∷ xs) (suc i) (suc j) x y r h k l = rising_nth L xs i j x y r.1 h k (omega arith)

pub rising_append : {X : Type 0} (L : X → X → Type 0) (xs ys : List X) → IsRising L xs → IsRising L ys
    → ((x y : X) → IsMember xs x → IsMember ys y → L x y) → IsRising L (xs ++ ys)
rising_append L [] ys r s f = s
rising_append L (x ∷ xs) ys r s f = (both (L x) xs ys r.0 (each_from (L x) ys (λ y m. f x y (inl refl) m)), rising_append L xs ys r.1 s (λ a b m n. f a b (inr m) n))
  where
    both : {X : Type 0} (P : X → Type 0) (xs ys : List X) → Each P xs → Each P ys → Each P (xs ++ ys)
    both P [] ys h k = k
    both P (x ∷ xs) ys h k = (h.0, both P xs ys h.1 k)

pub member_append : {X : Type 0} (xs ys : List X) (x : X) → IsMember (xs ++ ys) x → IsMember xs x ⊎ IsMember ys x
member_append [] ys x m = inr m
member_append (z ∷ xs) ys x (inl e) = inl (inl e)
member_append (z ∷ xs) ys x (inr m) = go (member_append xs ys x m)
  where
    go : IsMember xs x ⊎ IsMember ys x → (((z ≡ x) ⊎ IsMember xs x) ⊎ IsMember ys x)
    go (inl a) = inl (inr a)
    go (inr b) = inr b

pub append_member_left : {X : Type 0} (xs ys : List X) (x : X) → IsMember xs x → IsMember (xs ++ ys) x
append_member_left [] ys x m = absurd m
append_member_left (z ∷ xs) ys x (inl e) = inl e
append_member_left (z ∷ xs) ys x (inr m) = inr (append_member_left xs ys x m)

pub append_member_right : {X : Type 0} (xs ys : List X) (x : X) → IsMember ys x → IsMember (xs ++ ys) x
append_member_right [] ys x m = m
append_member_right (z ∷ xs) ys x m = inr (append_member_right xs ys x m)

abbrev pub IsLesserKey : Key → Key → Type 0
IsLesserKey k l = IsBefore k.way l.way ⊎ ((k.way ≡ l.way) × (k.pick < l.pick))

pub lesser_key_trans : (j k l : Key) → IsLesserKey j k → IsLesserKey k l → IsLesserKey j l
lesser_key_trans j k l (inl a) (inl b) = inl (IsBefore-trans j.way k.way l.way a b)
lesser_key_trans j k l (inl a) (inr b) = inl (subst (λ w. IsBefore j.way w) b.0 a)
lesser_key_trans j k l (inr a) (inl b) = inl (subst (λ w. IsBefore w l.way) (sym a.0) b)
lesser_key_trans j k l (inr a) (inr b) = inr (a.0 ∙ b.0, omega (arith, a.1, b.1))

pub lesser_key_self : (k : Key) → IsLesserKey k k → ⊥
lesser_key_self k (inl a) = IsBefore-irrefl k.way a
lesser_key_self k (inr a) = omega (arith, a.1)

pub key_cases : (k l : Key) → IsLesserKey k l ⊎ ((k ≡ l) ⊎ IsLesserKey l k)
key_cases k l = go (IsBefore-cases k.way l.way) (three_cases k.pick l.pick)
  where
    go : IsBefore k.way l.way ⊎ ((k.way ≡ l.way) ⊎ IsBefore l.way k.way) → (k.pick < l.pick) ⊎ ((k.pick ≡ l.pick) ⊎ (l.pick < k.pick))
        → IsLesserKey k l ⊎ ((k ≡ l) ⊎ IsLesserKey l k)
    go (inl a) t = inl (inl a)
    go (inr (inr b)) t = inr (inr (inl b))
    go (inr (inl e)) (inl a) = inl (inr (e, a))
    go (inr (inl e)) (inr (inl a)) = inr (inl (ap₂ (λ w n. record { way = w; pick = n }) e a))
    go (inr (inl e)) (inr (inr b)) = inr (inr (inr (sym e, b)))

-- the keys of one run come before those of another, each with the last segment first: the first segment that differs decides
abbrev pub IsLesser : List Key → List Key → Type 0
IsLesser [] ls = ⊥
IsLesser (k ∷ ks) [] = ⊥
IsLesser (k ∷ ks) (l ∷ ls) = IsLesser ks ls ⊎ ((ks ≡ ls) × IsLesserKey k l)

pub lesser_trans : (j k l : List Key) → IsLesser j k → IsLesser k l → IsLesser j l
lesser_trans [] k l a b = absurd a
lesser_trans (x ∷ j) [] l a b = absurd a
lesser_trans (x ∷ j) (y ∷ k) [] a b = absurd b
lesser_trans (x ∷ j) (y ∷ k) (z ∷ l) (inl a) (inl b) = inl (lesser_trans j k l a b)
lesser_trans (x ∷ j) (y ∷ k) (z ∷ l) (inl a) (inr b) = inl (subst (λ w. IsLesser j w) b.0 a)
lesser_trans (x ∷ j) (y ∷ k) (z ∷ l) (inr a) (inl b) = inl (subst (λ w. IsLesser w l) (sym a.0) b)
lesser_trans (x ∷ j) (y ∷ k) (z ∷ l) (inr a) (inr b) = inr (a.0 ∙ b.0, lesser_key_trans x y z a.1 b.1)

pub lesser_self : (k : List Key) → IsLesser k k → ⊥
lesser_self [] a = a
lesser_self (x ∷ k) (inl a) = lesser_self k a
lesser_self (x ∷ k) (inr a) = lesser_key_self x a.1
