-- What is in lists that are put together or turned.
use Rattle.std.proofs.Common.{◌≡◌, ℕ, zero, suc, ◌<◌, ◌⊎◌, inl, inr, arith, List, [], ◌∷◌, ◌++◌, length, get_or, sym, subst}
use Rattle.std.proofs.lemmas.List.{reverse-append}
use Rattle.std.specs.Prelude.{Contains, reverse}
use Rattle.lx_tnfa.specs.DepthFirst.{IsIn}

pub is_in : (xs : List ℕ) (x : ℕ) → Contains xs x → IsIn xs x
is_in [] x c = absurd (omega (arith, c.1))
is_in (y ∷ xs) x c = at c.0 c.1 c.2 (is_in xs x)
  where
    at : (k : ℕ) → k < length (y ∷ xs) → get_or (y ∷ xs) k x ≡ x → (Contains xs x → IsIn xs x) → IsIn (y ∷ xs) x
    at zero lt e later = inl e
    at (suc k) lt e later = inr (later (k, omega arith, e))

pub contains : (xs : List ℕ) (x : ℕ) → IsIn xs x → Contains xs x
contains [] x m = absurd m
contains (y ∷ xs) x (inl e) = (0, omega arith, e)
contains (y ∷ xs) x (inr m) = let r = contains xs x m in (suc r.0, omega (arith, r.1), r.2)

pub in_front : (xs ys : List ℕ) (x : ℕ) → IsIn xs x → IsIn (xs ++ ys) x
in_front [] ys x m = absurd m
in_front (y ∷ xs) ys x (inl e) = inl e
in_front (y ∷ xs) ys x (inr m) = inr (in_front xs ys x m)

pub behind : (xs ys : List ℕ) (x : ℕ) → IsIn ys x → IsIn (xs ++ ys) x
behind [] ys x m = m
behind (y ∷ xs) ys x m = inr (behind xs ys x m)

pub either_part : (xs ys : List ℕ) (x : ℕ) → IsIn (xs ++ ys) x → IsIn xs x ⊎ IsIn ys x
either_part [] ys x m = inr m
either_part (y ∷ xs) ys x (inl e) = inl (inl e)
either_part (y ∷ xs) ys x (inr m) = at (either_part xs ys x m)
  where
    at : IsIn xs x ⊎ IsIn ys x → IsIn (y ∷ xs) x ⊎ IsIn ys x
    at (inl k) = inl (inr k)
    at (inr k) = inr k

pub in_reverse : (xs : List ℕ) (x : ℕ) → IsIn xs x → IsIn (reverse xs) x
in_reverse [] x m = m
in_reverse (y ∷ xs) x (inl e) = subst (λ l. IsIn l x) (sym (reverse-append (y ∷ []) xs)) (behind (reverse xs) (y ∷ []) x (inl e))
in_reverse (y ∷ xs) x (inr m) = subst (λ l. IsIn l x) (sym (reverse-append (y ∷ []) xs)) (in_front (reverse xs) (y ∷ []) x (in_reverse xs x m))
