-- Kernels: the places of all cuts at a word, in their order; and the limits on them.
use Rattle.std.specs.Prelude.{◌≡◌, ◌≢◌, ℕ, ◌<◌, ◌≤◌, ◌⊎◌, List, [], ◌∷◌, length, Some, slice_get, sum_by}
use Rattle.lx_base.specs.declared.limits.TheConstants.{KERNEL_LIMIT, PLACE_LIMIT}
use Rattle.lx_base.specs.declared.settings.Enc.{Enc}
use Rattle.lx_base.specs.Spelling.{greatest_unit}
use Rattle.lx_regex.specs.Term.{Term}
use Rattle.lx_regex.specs.Cut.{Cut, IsCut, SamePlace, Precedes}

-- The kernel of a word under an order of cuts: for each place of its cuts, once, the first of the cuts there, in order. The
-- empty word has the one place of part 0, in which no rule has begun.
pub record IsKernel (Earlier : Cut → Cut → Type 0) (enc : Enc) (rules : List Term) (word : List ℕ) (kernel : List Cut) : Type 0 where
  pub start : word ≡ [] → kernel ≡ record { rule = 0; front = [] } ∷ []
  pub cuts : (i : ℕ) (cut : Cut) → word ≢ [] → slice_get kernel i ≡ Some cut → IsCut enc rules word cut
  pub every : (cut : Cut) → word ≢ [] → IsCut enc rules word cut
      → (i : ℕ) × (first : Cut) × (slice_get kernel i ≡ Some first) × SamePlace enc rules first cut × (Earlier cut first → ⊥)
  pub ordered : (i j : ℕ) (cut other : Cut) → i < j → slice_get kernel i ≡ Some cut → slice_get kernel j ≡ Some other
      → Earlier cut other × (SamePlace enc rules cut other → ⊥)

module _ (enc : Enc) (rules : List Term) where
  -- each unit of the word is one of the encoding
  abbrev pub IsWord : List ℕ → Type 0
  IsWord [] = Unit {0}
  IsWord (unit ∷ word) = (unit ≤ greatest_unit enc) × IsWord word

  -- these are the leftmost greedy kernels of the words, and none of them is empty
  abbrev pub AreKernels : (words : List (List ℕ)) → (kernels : List (List Cut)) → Type 0
  AreKernels [] [] = Unit {0}
  AreKernels [] (kernel ∷ kernels) = ⊥
  AreKernels (word ∷ words) [] = ⊥
  AreKernels (word ∷ words) (kernel ∷ kernels) =
      IsWord word × IsKernel Precedes enc rules word kernel × (kernel ≢ []) × AreKernels words kernels

  -- two kernels have the same places in the same order
  abbrev pub SamePlaces : List Cut → List Cut → Type 0
  SamePlaces [] [] = Unit {0}
  SamePlaces [] (other ∷ others) = ⊥
  SamePlaces (cut ∷ cuts) [] = ⊥
  SamePlaces (cut ∷ cuts) (other ∷ others) = SamePlace enc rules cut other × SamePlaces cuts others

  -- none of the others has the same places as this kernel
  abbrev pub DiffersFrom : List Cut → List (List Cut) → Type 0
  DiffersFrom kernel [] = Unit {0}
  DiffersFrom kernel (other ∷ others) = (SamePlaces kernel other → ⊥) × DiffersFrom kernel others

  -- all the kernels are different
  abbrev pub AllDiffer : List (List Cut) → Type 0
  AllDiffer [] = Unit {0}
  AllDiffer (kernel ∷ kernels) = DiffersFrom kernel kernels × AllDiffer kernels

  -- some words have kernels that are all different, and are more than 4,096 or have more than 1,048,576 places together
  abbrev pub HasTooManyKernels : Type 0
  HasTooManyKernels =
      (words : List (List ℕ)) × (kernels : List (List Cut))
      × AreKernels words kernels × AllDiffer kernels × ((KERNEL_LIMIT < length words) ⊎ (PLACE_LIMIT < sum_by length kernels))
