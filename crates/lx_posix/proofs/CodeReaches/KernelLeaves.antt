-- The beginnings of a kernel that are within leaves are places of the leaves.
use Rattle.std.specs.Prelude.{ℕ, ◌+◌, ◌-◌, ◌*◌, List, [], ◌∷◌, map, All, Bool, true, false, if◌then◌else◌}
use Rattle.lx_regex.specs.Term.{Term}
use Rattle.lx_tnfa.specs.PlaceNumbers.{is_finished}
use Rattle.lx_tnfa.specs.Tnfa.{Tnfa, state_at}
use Rattle.lx_tnfa.proofs.Searching.SearchBasics.{Each}
use Rattle.lx_tnfa.proofs.Searching.SearchPaths.{All-from_each, Each-from_all}
use Rattle.lx_tdfa.specs.Steps.{IsInLeaf}
use Rattle.lx_posix.specs.Comparing.{Ranked}
use Rattle.lx_posix.specs.KeptKernels.{Keeps, places_in}
use Rattle.lx_posix.specs.Reaching.{IsLeafPoint, beginning_of, beginnings_of, first_begin}
use Rattle.lx_posix.specs.declared.kept.Kept.{Kept}
use Rattle.lx_posix.specs.declared.points.Beginning.{Beginning}
use Rattle.lx_posix.specs.declared.points.Point.TheVariants.{State, Within}

module _ (tnfa : Tnfa) where
  abbrev pub BeginsInLeaf : Beginning → Type 0
  BeginsInLeaf beginning = IsLeafPoint tnfa beginning.at

  first_leaves : (begins : List ℕ) → Each BeginsInLeaf (map first_begin begins)
  first_leaves [] = tt
  first_leaves (begin ∷ begins) = (tt, first_leaves begins)

  abbrev ended : Kept → Beginning
  ended kept = record { at = State (2 * kept.place.part + 1); depth = kept.depth - 1; «open» = kept.depth; number = kept.number }

  abbrev halfway : Kept → Beginning
  halfway kept = record { at = Within kept.place; depth = kept.depth; «open» = kept.depth; number = kept.number }

  one_leaf : (kept : Kept) → IsInLeaf tnfa kept.place → BeginsInLeaf (beginning_of tnfa kept)
  one_leaf kept within = by (is_finished tnfa.classes (state_at tnfa kept.place) kept.place.rest.0)
    where
      by : (b : Bool) → BeginsInLeaf (if b then ended kept else halfway kept)
      by true = tt
      by false = within

  kept_leaves : (kernel : List Kept) → Each (IsInLeaf tnfa) (places_in kernel) → Each BeginsInLeaf (map (beginning_of tnfa) kernel)
  kept_leaves [] within = tt
  kept_leaves (kept ∷ kernel) within = (one_leaf kept within.0, kept_leaves kernel within.1)

  pub kernel_leaves : (rules : List Term) (first : Bool) (kernel : List Kept) (ranks : List Ranked) → Keeps tnfa rules first kernel ranks
      → All (λ (beginning : Beginning). IsLeafPoint tnfa beginning.at) (beginnings_of tnfa first kernel)
  kernel_leaves rules true kernel ranks keeps = All-from_each BeginsInLeaf (map first_begin tnfa.begins) (first_leaves tnfa.begins)
  kernel_leaves rules false kernel ranks keeps =
      All-from_each BeginsInLeaf (map (beginning_of tnfa) kernel)
      (kept_leaves kernel (Each-from_all (IsInLeaf tnfa) (places_in kernel) keeps.1))
