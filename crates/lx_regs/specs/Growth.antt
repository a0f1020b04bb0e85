-- Lists of what a search has found, which grow at their end.
use Rattle.std.specs.Prelude.{◌≡◌, ◌⊎◌, ℕ, ◌<◌, ◌≤◌, List, ◌++◌, length, Bool, Contains, slice_index_or}
use Rattle.std.specs.Bool.{Decides}

-- the test is true exactly of equal items
abbrev pub TellsEqual : {X : Type 0} → (X → X → Bool) → Type 0
TellsEqual {X} same = (x other : X) → Decides (same x other) (x ≡ other)

-- behind what was found stands the rest, and with it just what was due is found
pub record Grows {X : Type 0} (IsDue : X → Type 0) (old new : List X) : Type 0 where
  pub rest : List X
  pub behind : new ≡ old ++ rest
  pub sound : (x : X) → Contains new x → Contains old x ⊎ IsDue x
  pub complete : (x : X) → IsDue x → Contains new x

-- what is due for some item of a list
abbrev pub IsDueForSome : {X Y : Type 0} → List X → (X → Y → Type 0) → Y → Type 0
IsDueForSome {X} items IsDue y = (x : X) × Contains items x × IsDue x y

-- what was found is right, and what is next to the first so many is found
pub record IsSearch {X : Type 0} (IsRight : X → Type 0) (IsNext : X → X → Type 0) (found : List X) (done : ℕ) : Type 0 where
  pub within : done ≤ length found
  pub right : (x : X) → Contains found x → IsRight x
  pub closed : (place : ℕ) (x next : X) → place < done → IsNext (slice_index_or found place x) next → Contains found next
