-- The closure of a kernel, as the code has it, and how a kernel goes on by it.
use Rattle.std.specs.Prelude.{◌≡◌, ℕ, ◌<◌, ◌≤◌, ◌^◌, List, [], ◌∷◌, map, Option, Some, None, Bool, All, length, slice_index_or}
use Rattle.lx_base.specs.declared.limits.TheConstants.{PLACE_LIMIT}
use Rattle.lx_base.specs.declared.settings.Enc.{Enc}
use Rattle.lx_regex.specs.Automaton.{automaton}
use Rattle.lx_regex.specs.ClassLimits.{AllClassesFit}
use Rattle.lx_regex.specs.Kernel.{IsWord}
use Rattle.lx_regex.specs.Pattern.{Pattern, terms_of}
use Rattle.lx_tnfa.specs.Tnfa.{IsTnfaOf, Tnfa}
use Rattle.lx_tnfa.specs.declared.places.Place.{Place}
use Rattle.lx_tdfa.specs.Graph.{graph_of}
use Rattle.lx_tdfa.specs.Steps.{Ending, next_steps, places_of, step_indices}
use Rattle.lx_tdfa.specs.Table.{Onward}
use Rattle.lx_posix.specs.Beginnings.{AreBeginnings}
use Rattle.lx_posix.specs.Finding.{IsFoundAt, shown_found}
use Rattle.lx_posix.specs.KeptKernels.{IsAfter}
use Rattle.lx_posix.specs.KernelLists.{ranks_after}
use Rattle.lx_posix.specs.LevelPaths.{AreDepths}
use Rattle.lx_posix.specs.LevelSearch.{ArePlaceDepths, level_search}
use Rattle.lx_posix.specs.Reaching.{beginnings_of, origins_of, reaches_of}
use Rattle.lx_posix.specs.WayNumbers.{IsFound, number_of_ways}
use Rattle.lx_posix.specs.declared.closures.Closure.{Closure}
use Rattle.lx_posix.specs.declared.kept.Kept.{Kept}
use Rattle.lx_posix.specs.declared.points.Beginning.{Beginning}
use Rattle.lx_posix.specs.declared.points.Point.TheVariants.{State}
use Rattle.lx_posix.specs.declared.search.Found.{Found}

-- it holds for each rule list of which this is the automaton
abbrev pub Under : Tnfa → (Enc → List Pattern → Type 0) → Type 0
Under tnfa Holds =
    (enc : Enc) (patterns : List Pattern) → IsTnfaOf enc patterns tnfa → AllClassesFit enc (terms_of patterns) → Holds enc patterns

-- the kernel is that of some word
abbrev pub IsReachedUnder : Tnfa → (first : Bool) → List Kept → Type 0
IsReachedUnder tnfa first kernel =
    Under tnfa (λ enc patterns. (word : List ℕ) × IsWord enc (terms_of patterns) word × IsAfter tnfa (terms_of patterns) first kernel word)

-- these are the ways that the search finds from the kernel of a word
pub record AreWaysOf (enc : Enc) (patterns : List Pattern) (tnfa : Tnfa) (beginnings : List Beginning) (founds : List Found) (word : List ℕ) : Type 0 where
  pub deep : ℕ → ℕ
  pub width : ℕ
  pub depths : AreDepths (automaton (terms_of patterns)) deep
  pub placed : ArePlaceDepths (automaton (terms_of patterns)) (ranks_after tnfa (terms_of patterns) word) deep
  pub small : (state : ℕ) → deep state < width
  pub narrow : width < 2 ^ 32
  pub begin : AreBeginnings tnfa deep beginnings (ranks_after tnfa (terms_of patterns) word)
  pub listed : map (shown_found tnfa) founds
      ≡ level_search (graph_of (automaton (terms_of patterns))) deep width (ranks_after tnfa (terms_of patterns) word)
  pub found : All (IsFoundAt tnfa beginnings deep) founds

-- the closure of a kernel
pub record IsClosure (tnfa : Tnfa) (first : Bool) (kernel : List Kept) (closure : Closure) : Type 0 where
  pub begin : closure.beginnings.items ≡ beginnings_of tnfa first kernel
  pub ways : Under tnfa (λ enc patterns. (word : List ℕ) → IsAfter tnfa (terms_of patterns) first kernel word
      → AreWaysOf enc patterns tnfa closure.beginnings.items closure.founds.items word)
  pub reaches : closure.targets.reaches.items ≡ reaches_of tnfa first closure.beginnings.items closure.founds.items
  pub origins : closure.targets.origins.items ≡ origins_of tnfa first closure.beginnings.items 0 closure.founds.items

-- the closure of a kernel that is that of some word
pub record IsClosureReached (tnfa : Tnfa) (first : Bool) (closure : Closure) : Type 0 where
  pub kernel : List Kept
  pub reached : IsReachedUnder tnfa first kernel
  pub short : length kernel ≤ PLACE_LIMIT
  pub is : IsClosure tnfa first kernel closure

-- ---- how a kernel goes on

-- a target has this index, and its way is there
pub record HasWay (closure : Closure) (index : ℕ) : Type 0 where
  pub target : index < length closure.targets.origins.items
  pub way : slice_index_or closure.targets.origins.items index 0 < length closure.founds.items

-- the way, if there is one, begins at one of the beginnings
abbrev pub IsFoundIfSome : Tnfa → List Beginning → Option Found → Type 0
IsFoundIfSome tnfa beginnings None = Unit {0}
IsFoundIfSome tnfa beginnings (Some found) = IsFound tnfa beginnings found

-- the way to the target with this index
abbrev pub way_to : Closure → (index : ℕ) → Found
way_to closure index =
    slice_index_or closure.founds.items (slice_index_or closure.targets.origins.items index 0)
    (record { from = 0; at = State 0; depth = 0; way = [] })

-- the number of a way with the one before it, if there is one
abbrev pub number_behind : Tnfa → List Beginning → Option Found → Found → ℕ
number_behind tnfa beginnings None found = 0
number_behind tnfa beginnings (Some last) found = number_of_ways tnfa beginnings last found

module _ (tnfa : Tnfa) (closure : Closure) where
  -- what is kept of places to which ways lead, by the targets with these indices, behind another way
  abbrev pub kept_behind : (last : Option Found) → List Place → (indices : List ℕ) → List Kept
  kept_behind last [] indices = []
  kept_behind last (place ∷ places) [] = []
  kept_behind last (place ∷ places) (index ∷ indices) =
      record {
        place = place;
        depth = (way_to closure index).depth;
        number = number_behind tnfa closure.beginnings.items last (way_to closure index);
      }
      ∷ kept_behind (Some (way_to closure index)) places indices

  -- the kernel after one more unit
  abbrev pub next_kernel : (unit : ℕ) → List Kept
  next_kernel unit =
      kept_behind None (places_of (next_steps tnfa unit closure.targets.reaches.items)) (step_indices tnfa unit closure.targets.reaches.items)

  -- how the kernel goes on, with this end of a rule
  abbrev pub onward_of : Option Ending → Onward (List Kept)
  onward_of ending = record {
    steps = λ unit. next_steps tnfa unit closure.targets.reaches.items;
    next = next_kernel;
    ending = ending;
  }
