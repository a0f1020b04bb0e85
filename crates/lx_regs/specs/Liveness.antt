-- What is kept of the live registers of an automaton.
use Rattle.std.specs.Bool.{MatchBool}
use Rattle.std.specs.Prelude.{◌≡◌, ◌⊎◌, ℕ, ◌<◌, List, [], length, Bool, true, false, Contains, nat_eq, slice_index, slice_index_or}
use Rattle.lx_auto.specs.declared.automaton.Held.{Held}
use Rattle.lx_regs.specs.declared.items.Item.{Item}
use Rattle.lx_regs.specs.declared.live.Usage.{Usage}
use Rattle.lx_regs.specs.declared.reached.Pair.{Pair}
use Rattle.lx_regs.specs.Items.{MayBeLeft}
use Rattle.lx_regs.specs.Keys.{held_of}

-- the usages at a state
abbrev pub usages_at : (lists : List (List Usage)) → (state : ℕ) → List Usage
usages_at lists state = slice_index_or lists state []

-- the lists have the items, each at its state
pub record AreSorted (count : ℕ) (items : List Item) (lists : List (List Usage)) : Type 0 where
  pub fit : length lists ≡ count
  pub sound : (state : ℕ) (usage : Usage) → Contains (usages_at lists state) usage
      → Contains items (record { state = state; group = usage.group; key = usage.key })
  pub complete : (item : Item) → item.state < count → Contains items item
      → Contains (usages_at lists item.state) (record { group = item.group; key = item.key })

-- just the states of pairs are marked
pub record AreMarked (count : ℕ) (pairs : List Pair) (marks : List Bool) : Type 0 where
  pub fit : length marks ≡ count
  pub sound : (state : ℕ) → slice_index_or marks state false ≡ true → (left : ℕ) × Contains pairs (record { state = state; left = left })
  pub complete : (pair : Pair) → Contains pairs pair → pair.state < count → slice_index_or marks pair.state false ≡ true

-- ---- behind an edge

-- behind an edge out of the state one of the group may have been left last, or the group is 0
abbrev pub MayBeThere : (numbers : List ℕ) → List Pair → (state group : ℕ) → Type 0
MayBeThere numbers pairs state group = MatchBool (nat_eq (slice_index numbers state) 0) (MayBeLeft pairs state group)
    ((group ≡ 0) ⊎ (group ≡ slice_index numbers state))

-- these are the registers of such usages
pub record AreHeldBehind (numbers : List ℕ) (pairs : List Pair) (state : ℕ) (usages : List Usage) (registers : List Held) : Type 0 where
  pub sound : (held : Held) → Contains registers held
      → (usage : Usage) × Contains usages usage × (held_of usage.key ≡ held) × MayBeThere numbers pairs state usage.group
  pub complete : (usage : Usage) → Contains usages usage → MayBeThere numbers pairs state usage.group
      → Contains registers (held_of usage.key)

-- the register of the usage is added, if it may be there
pub record AddsUsage (numbers : List ℕ) (pairs : List Pair) (state : ℕ) (usage : Usage) (old new : List Held) : Type 0 where
  pub kept : (held : Held) → Contains old held → Contains new held
  pub sound : (held : Held) → Contains new held
      → Contains old held ⊎ ((held_of usage.key ≡ held) × MayBeThere numbers pairs state usage.group)
  pub complete : MayBeThere numbers pairs state usage.group → Contains new (held_of usage.key)
