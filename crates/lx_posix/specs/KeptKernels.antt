-- Kernels as the code keeps them, and of which words they are.
use Rattle.std.specs.Prelude.{◌≡◌, ◌≢◌, ℕ, suc, ◌-◌, ◌*◌, ◌%◌, ◌≤◌, ◌⊎◌, List, [], ◌∷◌, ◌++◌, map, length, Some, Bool, true, false, All, nat_lt, slice_get, if◌then◌else◌}
use Rattle.lx_base.specs.Spelling.{greatest_unit}
use Rattle.lx_base.specs.declared.settings.Enc.{Enc}
use Rattle.lx_regex.specs.Automaton.{automaton}
use Rattle.lx_regex.specs.Kernel.{IsWord}
use Rattle.lx_regex.specs.Term.{Term, parts}
use Rattle.lx_tnfa.specs.PlaceNumbers.{place_number}
use Rattle.lx_tnfa.specs.Tnfa.{Tnfa}
use Rattle.lx_tnfa.specs.declared.places.Place.{Place}
use Rattle.lx_tdfa.specs.Graph.{rule_starts}
use Rattle.lx_tdfa.specs.Steps.{IsInLeaf, start_place}
use Rattle.lx_tdfa.specs.Table.{is_first}
use Rattle.lx_posix.specs.Comparing.{Ranked}
use Rattle.lx_posix.specs.KernelLists.{first_ranks, ranks_after}
use Rattle.lx_posix.specs.declared.kept.Kept.{Kept}

-- the rule of a state, which is counted from the first one of these rules on
abbrev pub rule_among : List Term → (state : ℕ) → ℕ
rule_among [] state = 0
rule_among (e ∷ rules) state = if nat_lt state (2 * parts e) then 0 else suc (rule_among rules (state - 2 * parts e))

-- the rule in which the place with this number stands
abbrev pub rule_at : List Term → (place : ℕ) → ℕ
rule_at rules place = rule_among rules (place % length (automaton rules) - 2)

-- what is kept of a place
abbrev pub rank_of : Tnfa → List Term → Kept → Ranked
rank_of tnfa rules kept = record {
  rule = rule_at rules (place_number tnfa (2 * kept.place.part) kept.place.rest.0);
  place = place_number tnfa (2 * kept.place.part) kept.place.rest.0;
  depth = kept.depth;
  number = kept.number;
}

-- the places of a kernel
abbrev pub places_in : List Kept → List Place
places_in kernel = map (λ (kept : Kept). kept.place) kernel

-- the kernel of the empty word: the start, before the beginnings of the rules
abbrev pub start_kernel : List Kept
start_kernel = record { place = start_place; depth = 0; number = 0 } ∷ []

-- a kernel keeps these; the first one is that of the start
abbrev pub Keeps : Tnfa → List Term → (first : Bool) → List Kept → List Ranked → Type 0
Keeps tnfa rules true kernel ranks = (kernel ≡ start_kernel) × (ranks ≡ first_ranks 0 (rule_starts rules))
Keeps tnfa rules false kernel ranks = (map (rank_of tnfa rules) kernel ≡ ranks) × All (IsInLeaf tnfa) (places_in kernel)

-- it is that of a word
pub record IsAfter (tnfa : Tnfa) (rules : List Term) (first : Bool) (kernel : List Kept) (word : List ℕ) : Type 0 where
  pub keeps : Keeps tnfa rules first kernel (ranks_after tnfa rules word)
  pub empty : first ≡ true → word ≡ []
  pub later : first ≡ false → word ≢ []
  pub some : kernel ≢ []

module _ (enc : Enc) (rules : List Term) (tnfa : Tnfa) where
  -- the kernel with this number in a table is that of some word
  abbrev pub IsReached : (number : ℕ) → List Kept → Type 0
  IsReached number kernel = (word : List ℕ) × IsWord enc rules word × IsAfter tnfa rules (is_first number) kernel word

  abbrev pub AreReached : (kernels : List (List Kept)) → Type 0
  AreReached kernels = (number : ℕ) (kernel : List Kept) → slice_get kernels number ≡ Some kernel → IsReached number kernel

  -- after one more unit than a word of which a kernel of the table is, nothing is kept, or the table has the kernel of that
  abbrev pub AreClosed : (kernels : List (List Kept)) → Type 0
  AreClosed kernels =
      (number : ℕ) (kernel : List Kept) (word : List ℕ) (unit : ℕ) → slice_get kernels number ≡ Some kernel
      → IsAfter tnfa rules (is_first number) kernel word → unit ≤ greatest_unit enc
      → (ranks_after tnfa rules (word ++ unit ∷ []) ≡ [])
      ⊎ ((later : ℕ) × (next : List Kept) × (slice_get kernels (suc later) ≡ Some next) × IsAfter tnfa rules false next (word ++ unit ∷ []))
