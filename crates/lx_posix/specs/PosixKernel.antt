-- Kernels under the POSIX order, which differ also by their numbers, and the limits on them.
use Rattle.std.specs.Prelude.{◌≡◌, ◌≢◌, ℕ, ◌<◌, ◌⊎◌, ◌↔◌, List, [], ◌∷◌, ◌++◌, length, Some, slice_get, sum_by}
use Rattle.lx_base.specs.declared.limits.TheConstants.{KERNEL_LIMIT, PLACE_LIMIT}
use Rattle.lx_base.specs.declared.settings.Enc.{Enc}
use Rattle.lx_regex.specs.Term.{Term}
use Rattle.lx_regex.specs.Tree.{Tree}
use Rattle.lx_regex.specs.Cut.{Cut}
use Rattle.lx_regex.specs.Order.{posix}
use Rattle.lx_regex.specs.Least.{IsLeast}
use Rattle.lx_regex.specs.Kernel.{IsKernel, IsWord, SamePlaces}
use Rattle.lx_posix.specs.Numbers.{IsFirstOf, PosixPrecedes}

-- the best tree of a word under the POSIX order: the plain one that is first
abbrev pub IsBestPosix : Enc → (part : ℕ) → (e : Term) → List ℕ → Tree e → Type 0
IsBestPosix enc part e word tree = IsLeast posix enc part e word tree

module _ (enc : Enc) (rules : List Term) where
  abbrev pub IsPosixKernel : (word : List ℕ) → List Cut → Type 0
  IsPosixKernel word kernel = IsKernel (PosixPrecedes enc rules) enc rules word kernel

  -- with every two places of one rule the two kernels keep one number
  abbrev pub SameNumbers : List Cut → List Cut → Type 0
  SameNumbers kernel other =
      (i j number : ℕ) (first second third fourth : Cut) → slice_get kernel i ≡ Some first → slice_get kernel j ≡ Some second
      → slice_get other i ≡ Some third → slice_get other j ≡ Some fourth
      → IsFirstOf enc rules first second number ↔ IsFirstOf enc rules third fourth number

  -- the same places in the same order, with the same numbers
  abbrev pub IsSameKernel : List Cut → List Cut → Type 0
  IsSameKernel kernel other = SamePlaces enc rules kernel other × SameNumbers kernel other

  -- these are the kernels of the words, and none of them is empty
  abbrev pub ArePosixKernels : (words : List (List ℕ)) → (kernels : List (List Cut)) → Type 0
  ArePosixKernels [] [] = Unit {0}
  ArePosixKernels [] (kernel ∷ kernels) = ⊥
  ArePosixKernels (word ∷ words) [] = ⊥
  ArePosixKernels (word ∷ words) (kernel ∷ kernels) =
      IsWord enc rules word × IsPosixKernel word kernel × (kernel ≢ []) × ArePosixKernels words kernels

  abbrev pub DiffersFromAll : List Cut → List (List Cut) → Type 0
  DiffersFromAll kernel [] = Unit {0}
  DiffersFromAll kernel (other ∷ others) = (IsSameKernel kernel other → ⊥) × DiffersFromAll kernel others

  abbrev pub AllDifferByNumbers : List (List Cut) → Type 0
  AllDifferByNumbers [] = Unit {0}
  AllDifferByNumbers (kernel ∷ kernels) = DiffersFromAll kernel kernels × AllDifferByNumbers kernels

  -- some words have kernels that are all different, and are more than 4,096 or have more than 1,048,576 places together
  abbrev pub HasTooManyPosixKernels : Type 0
  HasTooManyPosixKernels =
      (words : List (List ℕ)) × (kernels : List (List Cut))
      × ArePosixKernels words kernels × AllDifferByNumbers kernels × ((KERNEL_LIMIT < length words) ⊎ (PLACE_LIMIT < sum_by length kernels))

  -- each kernel of a word that is not empty is the same as one of these
  abbrev pub HoldEveryKernel : (kernels : List (List Cut)) → Type 0
  HoldEveryKernel kernels =
      (word : List ℕ) (kernel : List Cut) → IsWord enc rules word → IsPosixKernel word kernel → (kernel ≢ [])
      → (i : ℕ) × (found : List Cut) × (slice_get kernels i ≡ Some found) × IsSameKernel kernel found

  -- what comes from the kernels of these words by one more unit of the encoding is empty, or the same as one of these kernels
  abbrev pub AreClosed : (words : List (List ℕ)) → (kernels : List (List Cut)) → Type 0
  AreClosed words kernels =
      (i : ℕ) (word : List ℕ) (unit : ℕ) (next : List Cut) → slice_get words i ≡ Some word → IsWord enc rules (unit ∷ [])
      → IsPosixKernel (word ++ unit ∷ []) next → (next ≢ [])
      → (j : ℕ) × (found : List Cut) × (slice_get kernels j ≡ Some found) × IsSameKernel next found
