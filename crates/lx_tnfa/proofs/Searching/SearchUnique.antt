-- The order of choices is a total order, and the laws determine the search's list.
use Rattle.std.specs.Prelude.{◌≡◌, ℕ, zero, suc, ◌<◌, ◌⊎◌, List, [], ◌∷◌, refl, length, Contains, map, get_or}
use Rattle.std.proofs.Common.{inl, inr, sym, ap₂, ◌∙◌, subst, arith}
use Rattle.lx_regex.specs.Dictionary.{IsBefore}
use Rattle.lx_tnfa.specs.DepthFirst.{Found}
use Rattle.lx_tnfa.proofs.Searching.SearchBasics.{Each}
use Rattle.lx_tnfa.proofs.Searching.SearchLaws.{IsAscending}

pub IsBefore-irrefl : (x : List ℕ) → IsBefore x x → ⊥
IsBefore-irrefl [] b = b
IsBefore-irrefl (x ∷ xs) (inl l) = omega arith
IsBefore-irrefl (x ∷ xs) (inr b) = IsBefore-irrefl xs b.1

pub IsBefore-trans : (x y z : List ℕ) → IsBefore x y → IsBefore y z → IsBefore x z
IsBefore-trans [] [] z a b = absurd a
IsBefore-trans [] (y ∷ ys) [] a b = absurd b
IsBefore-trans [] (y ∷ ys) (z ∷ zs) a b = tt
IsBefore-trans (x ∷ xs) [] z a b = absurd a
IsBefore-trans (x ∷ xs) (y ∷ ys) [] a b = absurd b
IsBefore-trans (x ∷ xs) (y ∷ ys) (z ∷ zs) (inl a) (inl b) = inl (omega arith)
IsBefore-trans (x ∷ xs) (y ∷ ys) (z ∷ zs) (inl a) (inr b) = inl (omega (arith, b.0))
IsBefore-trans (x ∷ xs) (y ∷ ys) (z ∷ zs) (inr a) (inl b) = inl (omega (arith, a.0))
IsBefore-trans (x ∷ xs) (y ∷ ys) (z ∷ zs) (inr a) (inr b) = inr (a.0 ∙ b.0, IsBefore-trans xs ys zs a.1 b.1)

pub three_cases : (x y : ℕ) → (x < y) ⊎ ((x ≡ y) ⊎ (y < x))
three_cases x y = grind arith

pub IsBefore-cases : (x y : List ℕ) → IsBefore x y ⊎ ((x ≡ y) ⊎ IsBefore y x)
IsBefore-cases [] [] = inr (inl refl)
IsBefore-cases [] (y ∷ ys) = inl tt
IsBefore-cases (x ∷ xs) [] = inr (inr tt)
IsBefore-cases (x ∷ xs) (y ∷ ys) = go (three_cases x y) (IsBefore-cases xs ys)
  where
    go : (x < y) ⊎ ((x ≡ y) ⊎ (y < x)) → IsBefore xs ys ⊎ ((xs ≡ ys) ⊎ IsBefore ys xs) → IsBefore (x ∷ xs) (y ∷ ys) ⊎ (((x ∷ xs) ≡ (y ∷ ys)) ⊎ IsBefore (y ∷ ys) (x ∷ xs))
    go (inl l) r = inl (inl l)
    go (inr (inr l)) r = inr (inr (inl l))
    go (inr (inl e)) (inl b) = inl (inr (e, b))
    go (inr (inl e)) (inr (inl f)) = inr (inl (ap₂ (λ a b. a ∷ b) e f))
    go (inr (inl e)) (inr (inr b)) = inr (inr (inr (sym e, b)))

abbrev pub IsListed : List Found → Found → Type 0
IsListed [] e = ⊥
IsListed (x ∷ xs) e = (x ≡ e) ⊎ IsListed xs e

pub Each-lists : (P : Found → Type 0) (es : List Found) (e : Found) → Each P es → IsListed es e → P e
Each-lists P [] e h m = absurd m
Each-lists P (x ∷ es) e h (inl q) = subst P q h.0
Each-lists P (x ∷ es) e h (inr m) = Each-lists P es e h.1 m

pub ascending_unique : (es fs : List Found) → IsAscending es → IsAscending fs → ((e : Found) → IsListed es e → IsListed fs e) → ((e : Found) → IsListed fs e → IsListed es e) → es ≡ fs
ascending_unique [] [] a b f g = refl
ascending_unique [] (y ∷ fs) a b f g = absurd (g y (inl refl))
ascending_unique (x ∷ es) [] a b f g = absurd (f x (inl refl))
ascending_unique (x ∷ es) (y ∷ fs) a b f g =
    let same : x ≡ y = heads (f x (inl refl)) (g y (inl refl)) in
    ap₂ (λ u us. u ∷ us) same (ascending_unique es fs a.1 b.1 (λ e m. fwd same e m (f e (inr m))) (λ e m. back same e m (g e (inr m))))
  where
    later : (z : Found) (zs : List Found) → Each (λ u. IsBefore z.choices u.choices) zs → (e : Found) → IsListed zs e → IsBefore z.choices e.choices
    later z zs h e m = Each-lists (λ u. IsBefore z.choices u.choices) zs e h m

    heads : IsListed (y ∷ fs) x → IsListed (x ∷ es) y → x ≡ y
    heads (inl p) q = sym p
    heads (inr p) (inl q) = q
    heads (inr p) (inr q) =
        absurd (IsBefore-irrefl x.choices (IsBefore-trans x.choices y.choices x.choices (later x es a.0 y q) (later y fs b.0 x p)))

    fwd : x ≡ y → (e : Found) → IsListed es e → IsListed (y ∷ fs) e → IsListed fs e
    fwd same e m (inr k) = k
    fwd same e m (inl k) = absurd (IsBefore-irrefl e.choices (subst (λ (z : Found). IsBefore z.choices e.choices) (same ∙ k) (later x es a.0 e m)))

    back : x ≡ y → (e : Found) → IsListed fs e → IsListed (x ∷ es) e → IsListed es e
    back same e m (inr k) = k
    back same e m (inl k) = absurd (IsBefore-irrefl e.choices (subst (λ (z : Found). IsBefore z.choices e.choices) (sym same ∙ k) (later y fs b.0 e m)))

-- P says which choices reach which states
abbrev pub IsLeastOf : (Found → Type 0) → List Found → Type 0
IsLeastOf P es = Each P es × ((e : Found) → P e → Contains (map (λ f. f.state) es) e.state) × Each (λ e. (ws : List ℕ) → P (record { state = e.state; choices = ws }) → IsBefore ws e.choices → ⊥) es × IsAscending es

pub listed_of : (es : List Found) (t : ℕ) → Contains (map (λ f. f.state) es) t → (e : Found) × IsListed es e × (e.state ≡ t)
listed_of [] t r = absurd (omega (arith, r.1))
listed_of (x ∷ es) t r = go r.0 r.1 r.2 (listed_of es t)
  where
    go : (k : ℕ) → k < length (map (λ f. f.state) (x ∷ es)) → get_or (map (λ f. f.state) (x ∷ es)) k t ≡ t → (Contains (map (λ f. f.state) es) t → (e : Found) × IsListed es e × (e.state ≡ t)) → (e : Found) × IsListed (x ∷ es) e × (e.state ≡ t)
    go zero l q f = (x, inl refl, q)
    go (suc k) l q f = let h : (e : Found) × IsListed es e × (e.state ≡ t) = f (k, omega arith, q) in (h.0, inr h.1, h.2)

pub least_within : (P : Found → Type 0) (es fs : List Found) → IsLeastOf P es → IsLeastOf P fs → (e : Found) → IsListed es e → IsListed fs e
least_within P es fs A B e m =
    let p : P e = Each-lists P es e A.0 m in
    let h : (f : Found) × IsListed fs f × (f.state ≡ e.state) = listed_of fs e.state (B.1 e p) in
    let pe : P (record { state = h.0.state; choices = e.choices }) = subst (λ x. P (record { state = x; choices = e.choices })) (sym h.2) p in
    let pf : P (record { state = e.state; choices = h.0.choices }) = subst (λ x. P (record { state = x; choices = h.0.choices })) h.2 (Each-lists P fs h.0 B.0 h.1) in
    let nf : IsBefore e.choices h.0.choices → ⊥ = Each-lists (λ d. (ws : List ℕ) → P (record { state = d.state; choices = ws }) → IsBefore ws d.choices → ⊥) fs h.0 B.2 h.1 e.choices pe in
    let ne : IsBefore h.0.choices e.choices → ⊥ = Each-lists (λ d. (ws : List ℕ) → P (record { state = d.state; choices = ws }) → IsBefore ws d.choices → ⊥) es e A.2 m h.0.choices pf in
    subst (λ d. IsListed fs d) (same h.0 h.2 (IsBefore-cases h.0.choices e.choices) ne nf) h.1
  where
    same : (f : Found) → f.state ≡ e.state → IsBefore f.choices e.choices ⊎ ((f.choices ≡ e.choices) ⊎ IsBefore e.choices f.choices) → (IsBefore f.choices e.choices → ⊥) → (IsBefore e.choices f.choices → ⊥) → f ≡ e
    same f q (inl b) n k = absurd (n b)
    same f q (inr (inl c)) n k = λ i. record { state = q i; choices = c i }
    same f q (inr (inr b)) n k = absurd (k b)

pub least_unique : (P : Found → Type 0) (es fs : List Found) → IsLeastOf P es → IsLeastOf P fs → es ≡ fs
least_unique P es fs A B = ascending_unique es fs A.3 B.3 (least_within P es fs A B) (least_within P fs es B A)
