-- Words after which different places and numbers are kept.
use Rattle.std.specs.Prelude.{◌≡◌, ◌≢◌, ℕ, ◌<◌, ◌≤◌, ◌⊎◌, suc, List, [], ◌∷◌, ◌++◌, length, map, Some, slice_get, sum_by}
use Rattle.lx_base.specs.Spelling.{greatest_unit}
use Rattle.lx_base.specs.declared.limits.TheConstants.{KERNEL_LIMIT, PLACE_LIMIT}
use Rattle.lx_base.specs.declared.settings.Enc.{Enc}
use Rattle.lx_regex.specs.Kernel.{IsWord}
use Rattle.lx_regex.specs.Term.{Term}
use Rattle.lx_tnfa.specs.Tnfa.{Tnfa}
use Rattle.lx_posix.specs.Comparing.{Ranked}
use Rattle.lx_posix.specs.KernelLists.{ranks_after}

module _ (enc : Enc) (rules : List Term) (tnfa : Tnfa) where
  abbrev pub DiffersFromRanks : List Ranked → (words : List (List ℕ)) → Type 0
  DiffersFromRanks ranks [] = Unit {0}
  DiffersFromRanks ranks (word ∷ words) = (ranks ≢ ranks_after tnfa rules word) × DiffersFromRanks ranks words

  -- none of these words is empty, and after each something else is kept
  abbrev pub HaveDifferentRanks : (words : List (List ℕ)) → Type 0
  HaveDifferentRanks [] = Unit {0}
  HaveDifferentRanks (word ∷ words) =
      IsWord enc rules word × (word ≢ []) × (ranks_after tnfa rules word ≢ []) × DiffersFromRanks (ranks_after tnfa rules word) words
      × HaveDifferentRanks words

  -- after one more unit than the empty word or than one of these nothing is kept, or the same as after one of these
  abbrev pub HaveAllRanks : (words : List (List ℕ)) → Type 0
  HaveAllRanks words =
      (i : ℕ) (word : List ℕ) (unit : ℕ) → slice_get ([] ∷ words) i ≡ Some word → unit ≤ greatest_unit enc
      → (ranks_after tnfa rules (word ++ unit ∷ []) ≢ [])
      → (j : ℕ) × (found : List ℕ) × (slice_get words j ≡ Some found)
      × (ranks_after tnfa rules (word ++ unit ∷ []) ≡ ranks_after tnfa rules found)

  -- with the start there are more lists or more places than the limits
  abbrev pub AreTooManyRanks : (words : List (List ℕ)) → Type 0
  AreTooManyRanks words =
      (KERNEL_LIMIT < suc (length words)) ⊎ (PLACE_LIMIT < suc (sum_by length (map (ranks_after tnfa rules) words)))
