-- Steps through lists of which the elements at one place are related.
use Rattle.std.proofs.Common.{◌≡◌, ℕ, zero, suc, ◌+◌, ◌<◌, ◌≤◌, List, [], ◌∷◌, length, drop, get_or, refl, subst, add-one, sym, arith}
use Rattle.std.proofs.Math.ListN.{drop_of_length-le}
use Rattle.std.specs.Prelude.{map}
use Rattle.lx_regs.specs.Pairs.{AllPairs}

module _ {X Y : Type 0} (AreRelated : X → Y → Type 0) where
  at_suc : (items : List X) (others : List Y) (index : ℕ) (item : X) (other : Y) → index < length items → index < length others
      → AreRelated (get_or items index item) (get_or others index other)
      → AllPairs AreRelated (drop (suc index) items) (drop (suc index) others)
      → AllPairs AreRelated (drop index items) (drop index others)
  at_suc [] others index item other within within_others related rest = absurd (omega arith)
  at_suc (first ∷ items) [] index item other within within_others related rest = absurd (omega arith)
  at_suc (first ∷ items) (head ∷ others) zero item other within within_others related rest = (related, rest)
  at_suc (first ∷ items) (head ∷ others) (suc index) item other within within_others related rest =
      at_suc items others index item other (omega arith) (omega arith) related rest

  -- the pairs from a place on, by the pair there and those behind it
  pub AllPairs-step : (items : List X) (others : List Y) (index : ℕ) (item : X) (other : Y) → index < length items → index < length others
      → AreRelated (get_or items index item) (get_or others index other)
      → AllPairs AreRelated (drop (index + 1) items) (drop (index + 1) others)
      → AllPairs AreRelated (drop index items) (drop index others)
  AllPairs-step items others index item other within within_others related rest =
      at_suc items others index item other within within_others related
      (subst (λ place. AllPairs AreRelated (drop place items) (drop place others)) (add-one index) rest)

  -- there are none behind the ends
  pub AllPairs-end : (items : List X) (others : List Y) (index : ℕ) → length items ≤ index → length others ≤ index
      → AllPairs AreRelated (drop index items) (drop index others)
  AllPairs-end items others index past past_others =
      subst (λ rest. AllPairs AreRelated rest (drop index others)) (sym (drop_of_length-le items past))
      (subst (AllPairs AreRelated []) (sym (drop_of_length-le others past_others)) tt)

  -- two functions that agree on related elements
  pub map-pairs : {Z : Type 0} (f : X → Z) (g : Y → Z) (items : List X) (others : List Y)
      → ((item : X) (other : Y) → AreRelated item other → g other ≡ f item) → AllPairs AreRelated items others → map g others ≡ map f items
  map-pairs f g [] [] agree related = refl
  map-pairs f g [] (other ∷ others) agree related = absurd related
  map-pairs f g (item ∷ items) [] agree related = absurd related
  map-pairs f g (item ∷ items) (other ∷ others) agree related =
      λ i. agree item other related.0 i ∷ map-pairs f g items others agree related.1 i

  -- a list without its other
  pub pairs-length : (items : List X) (others : List Y) → AllPairs AreRelated items others → length others ≡ length items
  pairs-length [] [] related = refl
  pairs-length [] (other ∷ others) related = absurd related
  pairs-length (item ∷ items) [] related = absurd related
  pairs-length (item ∷ items) (other ∷ others) related = let rest = pairs-length items others related.1 in omega (arith, rest)
