-- What is known of states in a round of refinement.
use Rattle.std.specs.Prelude.{◌≡◌, ℕ, ◌<◌, List, length, map, Some, slice_get, slice_index}
use Rattle.lx_min.specs.declared.joined.Step.{Step}
use Rattle.lx_min.specs.declared.looks.Look.{Look}
use Rattle.lx_min.specs.declared.signatures.Signature.{Signature}
use Rattle.lx_min.specs.Joined.{joined, step_of}

-- the class of a state, the number of what it accepts, and its edges as joined steps to classes
pub record Sign : Type 0 where
  pub class : ℕ
  pub accept : ℕ
  pub steps : List Step

-- a signature as the program keeps it
abbrev pub seen_sign : Signature → Sign
seen_sign signature = record { class = signature.class; accept = signature.accept; steps = signature.steps.items }

-- signatures of which no two are equal
abbrev pub AreDistinct : List Signature → Type 0
AreDistinct signatures =
    (place other : ℕ) (first second : Signature) → slice_get signatures place ≡ Some first → slice_get signatures other ≡ Some second
    → seen_sign first ≡ seen_sign second → place ≡ other

-- by the class of each state
module _ (class : ℕ → ℕ) where
  -- the signature of a state that looks so
  abbrev pub sign_of : Look → (state : ℕ) → Sign
  sign_of look state = record { class = class state; accept = look.accept; steps = joined (map (step_of class) look.ways.items) }

  -- the signature at the place is that of the state
  pub record HasSign (looks : List Look) (signatures : List Signature) (place state : ℕ) : Type 0 where
    pub look : Look
    pub looks_so : slice_get looks state ≡ Some look
    pub signature : Signature
    pub stands : slice_get signatures place ≡ Some signature
    pub same : seen_sign signature ≡ sign_of look state

  -- the signatures of the chosen states, of which no two are equal
  pub record AreChosen (looks : List Look) (signatures : List Signature) (chosen : List ℕ) : Type 0 where
    pub distinct : AreDistinct signatures
    pub count : length chosen ≡ length signatures
    pub signed : (place : ℕ) → place < length chosen → HasSign looks signatures place (slice_index chosen place)
