-- Rounds of refinement.
use Rattle.std.specs.Prelude.{◌≡◌, ◌⊎◌, ℕ, ◌<◌, List, [], ◌∷◌, ◌++◌, length, Bool, true, slice_index}
use Rattle.lx_auto.specs.declared.automaton.Auto.{Auto}
use Rattle.lx_auto.specs.MetStates.{is_marked}
use Rattle.lx_auto.specs.Points.{IsMet}
use Rattle.lx_min.specs.declared.looks.Look.{Look}
use Rattle.lx_min.specs.declared.partitions.Partition.{Partition}
use Rattle.lx_min.specs.declared.rounds.Round.{Round}
use Rattle.lx_min.specs.declared.signatures.Signature.{Signature}
use Rattle.lx_min.specs.Joined.{class_in}
use Rattle.lx_min.specs.Merges.{AreClassesApart}
use Rattle.lx_min.specs.Partitions.{seen_classes}
use Rattle.lx_min.specs.Signatures.{AreChosen, HasSign}

-- no two of the chosen states are of one class
abbrev pub AreOwn : List Look → Partition → Type 0
AreOwn looks partition =
    (place : ℕ) → place < length partition.chosen.items
    → (slice_index partition.chosen.items place < length looks)
    × ((other : ℕ) → other < length partition.chosen.items
    → class_in partition.class.items (slice_index partition.chosen.items place)
    ≡ class_in partition.class.items (slice_index partition.chosen.items other) → place ≡ other)

-- each of the states is marked
abbrev pub AreMarked : (marks : List Bool) → (states : List ℕ) → Type 0
AreMarked marks states = (place : ℕ) → place < length states → is_marked marks (slice_index states place) ≡ true

-- signatures only come behind those that are there, and the state is chosen or it is not
pub record Takes (before after : Round) (state : ℕ) : Type 0 where
  pub more : List Signature
  pub signatures : after.signatures.keys ≡ before.signatures.keys ++ more
  pub chosen : (after.chosen.items ≡ before.chosen.items) ⊎ (after.chosen.items ≡ before.chosen.items ++ state ∷ [])

-- Each marked state is in the class of its signature by the given partition, in which no two classes are one; the states chosen before
-- stay so.
pub record IsRefined (marks : List Bool) (looks : List Look) (given next : Partition) : Type 0 where
  pub signatures : List Signature
  pub more : List ℕ
  pub kept : next.chosen.items ≡ given.chosen.items ++ more
  pub chosen : AreChosen (class_in given.class.items) looks signatures next.chosen.items
  pub marked : AreMarked marks next.chosen.items
  pub fit : length next.class.items ≡ length looks
  pub signed : (state : ℕ) → is_marked marks state ≡ true
      → HasSign (class_in given.class.items) looks signatures (class_in next.class.items state) state

-- state 0 is chosen first, and a word tells states of different classes apart
pub record IsBegun (auto : Auto) (partition : Partition) : Type 0 where
  pub some : 0 < length partition.chosen.items
  pub first : slice_index partition.chosen.items 0 ≡ 0
  pub apart : AreClassesApart auto (seen_classes partition)

-- state 0 is chosen for class 0, classes have chosen states of their own, and a word tells states of different classes apart
pub record IsPartition (auto : Auto) (partition : Partition) : Type 0 where
  pub fit : length partition.class.items ≡ length auto.states
  pub some : 0 < length partition.chosen.items
  pub first : slice_index partition.chosen.items 0 ≡ 0
  pub within : (state : ℕ) → IsMet auto state → class_in partition.class.items state < length partition.chosen.items
  pub chosen : (class : ℕ) → class < length partition.chosen.items
      → IsMet auto (slice_index partition.chosen.items class)
      × (class_in partition.class.items (slice_index partition.chosen.items class) ≡ class)
  pub apart : AreClassesApart auto (seen_classes partition)
