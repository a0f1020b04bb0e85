-- Registers that are live at a state, with the groups with which they are.
use Rattle.std.specs.Prelude.{◌≡◌, ◌≢◌, ◌⊎◌, ℕ, ◌<◌, List, [], ◌∷◌, length, Option, Some, None, Contains, nat_eq, if◌then◌else◌, slice_index, slice_index_or}
use Rattle.lx_auto.specs.declared.automaton.Accept.{Accept}
use Rattle.lx_auto.specs.declared.automaton.Auto.{Auto}
use Rattle.lx_auto.specs.declared.automaton.Edge.{Edge}
use Rattle.lx_auto.specs.declared.automaton.Held.{Held}
use Rattle.lx_auto.specs.declared.ops.Op.{Op}
use Rattle.lx_auto.specs.Automaton.{IsHeld, state_of}
use Rattle.lx_auto.specs.Effects.{effect_of, effect_of_both}
use Rattle.lx_auto.specs.Live.{IsLive}
use Rattle.lx_regs.specs.declared.arrows.Arrow.{Arrow}
use Rattle.lx_regs.specs.declared.items.Item.{Item}
use Rattle.lx_regs.specs.declared.keys.Key.{Key}
use Rattle.lx_regs.specs.declared.reached.Pair.{Pair}
use Rattle.lx_regs.specs.Growth.{IsDueForSome}
use Rattle.lx_regs.specs.Keys.{held_of}
use Rattle.lx_regs.specs.LeftGroups.{group_left, keys_in}
use Rattle.lx_regs.specs.Readers.{read_by}

-- where the register of an item is live: whatever was left (0), or where a state of the group was left last
abbrev pub IsWhere : (numbers : List ℕ) → (group : ℕ) → (left : Option ℕ) → Type 0
IsWhere numbers group left = group ≢ 0 → group_left numbers left ≡ group

-- the item is right: its register is live wherever it says
pub record IsItem (auto : Auto) (numbers : List ℕ) (item : Item) : Type 0 where
  pub live : (left : Option ℕ) → IsWhere numbers item.group left
      → IsLive auto (record { state = item.state; left = left }) (held_of item.key)
  pub state : item.state < length auto.states
  pub held : IsHeld auto.regs auto.mregs (held_of item.key)
  pub group : Contains (0 ∷ numbers) item.group

-- ---- what is live to begin with

-- what the list reads for the value is live at the state, whatever was left
abbrev pub IsReadAt : (state : ℕ) → List Op → (value : Held) → Item → Type 0
IsReadAt state ops value item = (item.state ≡ state) × (item.group ≡ 0) × (read_by (effect_of ops value) ≡ Some (held_of item.key))

-- the same of some value of what is accepted
abbrev pub IsAcceptedBy : (state : ℕ) → Option Accept → Item → Type 0
IsAcceptedBy state None item = ⊥
IsAcceptedBy state (Some accept) item = IsDueForSome accept.values (IsReadAt state accept.ops) item

-- the same of what the item's state accepts
abbrev pub IsAccepted : Auto → Item → Type 0
IsAccepted auto item = IsAcceptedBy item.state (state_of auto.states item.state).accept item

-- the key at the pair
abbrev pub IsAt : Pair → Key → Item → Type 0
IsAt pair key item = item ≡ record { state = pair.state; group = pair.left; key = key }

-- a value of the group of the pair, where its state does not accept
abbrev pub IsLeft : (numbers : List ℕ) → (lists : List (List Key)) → Pair → Item → Type 0
IsLeft numbers lists pair item = (slice_index numbers pair.state ≡ 0) × IsDueForSome (keys_in lists pair.left) (IsAt pair) item

-- the items are right, and they have all of these
pub record IsBegun (auto : Auto) (numbers : List ℕ) (lists : List (List Key)) (pairs : List Pair) (items : List Item) : Type 0 where
  pub sound : (item : Item) → Contains items item → IsItem auto numbers item
  pub accepts : (item : Item) → IsAccepted auto item → Contains items item
  pub left : (item : Item) → IsDueForSome pairs (IsLeft numbers lists) item → Contains items item

-- ---- what is live before an edge

-- where a register is live before an edge out of a state of one group, if it is live behind the edge where the second group says
abbrev pub group_before : (own group : ℕ) → Option ℕ
group_before own group = if nat_eq own 0 then Some group else if nat_eq group 0 then Some 0 else if nat_eq own group then Some 0 else None

-- some walk comes to the state where a state of the group was left last
abbrev pub MayBeLeft : List Pair → (state group : ℕ) → Type 0
MayBeLeft pairs state group = (group ≡ 0) ⊎ Contains pairs (record { state = state; left = group })

-- for the item's register both lists read that of the prior one
pub record Passes (numbers : List ℕ) (pairs : List Pair) (item : Item) (from : ℕ) (leave ops : List Op) (prior : Item) : Type 0 where
  pub state : prior.state ≡ from
  pub group : group_before (slice_index numbers from) item.group ≡ Some prior.group
  pub left : MayBeLeft pairs from prior.group
  pub read : read_by (effect_of_both leave ops (held_of item.key)) ≡ Some (held_of prior.key)

-- the same of an arrow, by what states do where they are left
abbrev pub PassesBy : (numbers : List ℕ) → List Pair → (leaves : List (List Op)) → Item → Arrow → (prior : Item) → Type 0
PassesBy numbers pairs leaves item arrow prior =
    Passes numbers pairs item arrow.state (slice_index_or leaves arrow.state []) arrow.reader prior

-- an item before some edge to the item's state
abbrev pub IsPrior : Auto → (numbers : List ℕ) → List Pair → (item prior : Item) → Type 0
IsPrior auto numbers pairs item prior = (edge : Edge) × Contains (state_of auto.states prior.state).edges edge × (edge.to ≡ item.state)
    × Passes numbers pairs item prior.state (state_of auto.states prior.state).leave edge.ops prior

-- ---- all of it

-- the items are right, they have what is live to begin with, and what is live before an edge
pub record AreItems (auto : Auto) (numbers : List ℕ) (lists : List (List Key)) (pairs : List Pair) (items : List Item) : Type 0 where
  pub begun : IsBegun auto numbers lists pairs items
  pub closed : (item prior : Item) → Contains items item → IsPrior auto numbers pairs item prior → Contains items prior
