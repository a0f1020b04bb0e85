-- What is put into a set, where contracts see each member through a view.
use Rattle.std.proofs.Common.{◌≡◌, ℕ, zero, suc, ◌<◌, arith, Bool, true, false, not, List, [], ◌∷◌, ◌++◌, map, length, get_or, refl, sym, ◌∙◌}
use Rattle.std.proofs.lemmas.Bool.{false≢true}
use Rattle.std.specs.Bool.{MatchBool}
use Rattle.std.specs.List.{list_any}
use Rattle.std.specs.Prelude.{Contains, ◌||◌, if◌then◌else◌}

-- a test that is true exactly at members that look alike finds those that are there
module _ {X Y : Type 0} (view : X → Y) (same : X → X → Bool) (is_same : (x other : X) → same x other ≡ true → view x ≡ view other)
    (alike : (x other : X) → view x ≡ view other → same x other ≡ true) where
  any_contained : (xs : List X) (x : X) → list_any (same x) xs ≡ true → Contains (map view xs) (view x)
  any_contained [] x e = absurd (false≢true e)
  any_contained (other ∷ xs) x e = at (same x other) refl e (any_contained xs x)
    where
      at : (b : Bool) → same x other ≡ b → (b || list_any (same x) xs) ≡ true → (list_any (same x) xs ≡ true → Contains (map view xs) (view x))
          → Contains (view other ∷ map view xs) (view x)
      at true s any later = (0, omega arith, sym (is_same x other s))
      at false s any later = let r = later any in (suc r.0, omega (arith, r.1), r.2)

  contained_any : (xs : List X) (x : X) → Contains (map view xs) (view x) → list_any (same x) xs ≡ true
  contained_any [] x c = absurd (omega (arith, c.1))
  contained_any (other ∷ xs) x c = at (same x other) refl c.0 c.1 c.2 (contained_any xs x)
    where
      at : (b : Bool) → same x other ≡ b → (k : ℕ) → k < length (view other ∷ map view xs) → get_or (view other ∷ map view xs) k (view x) ≡ view x
          → (Contains (map view xs) (view x) → list_any (same x) xs ≡ true) → (b || list_any (same x) xs) ≡ true
      at true s k lt is later = refl
      at false s zero lt is later = absurd (false≢true (sym s ∙ alike x other (sym is)))
      at false s (suc k) lt is later = later (k, omega arith, is)

  pub added : (old new : List X) (x : X) (fresh : Bool) → fresh ≡ not (list_any (same x) old)
      → new ≡ (if list_any (same x) old then old else old ++ x ∷ [])
      → MatchBool fresh (¬ Contains (map view old) (view x) × (new ≡ old ++ x ∷ [])) (Contains (map view old) (view x) × (new ≡ old))
  added old new x fresh is put = at (list_any (same x) old) refl fresh is put
    where
      at : (b : Bool) → list_any (same x) old ≡ b → (fresh : Bool) → fresh ≡ not b → new ≡ (if b then old else old ++ x ∷ [])
          → MatchBool fresh (¬ Contains (map view old) (view x) × (new ≡ old ++ x ∷ [])) (Contains (map view old) (view x) × (new ≡ old))
      at true any true e put = absurd (false≢true (sym e))
      at true any false e put = (any_contained old x any, put)
      at false any true e put = ((λ there. false≢true (sym any ∙ contained_any old x there)), put)
      at false any false e put = absurd (false≢true e)
