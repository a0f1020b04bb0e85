-- What a sink does with the bytes that are put to it.
use Rattle.std.specs.Prelude.{◌≡◌, ℕ, ◌<◌, ◌≤◌, List, ◌++◌, length, take, Option}
use Rattle.std.specs.Option.{option_map}
use Rattle.lx_files.specs.Counts.{Rose}
use Rattle.lx_files.specs.Held.{IsFront}
use Rattle.lx_files.specs.declared.sinks.PutAnswer.{PutAnswer}
use Rattle.lx_files.specs.declared.sinks.PutAnswer.TheVariants.{Failed, Memory}

-- what was given, where that is told, and then these bytes
abbrev pub given_then : Option (List ℕ) → List ℕ → Option (List ℕ)
given_then given bytes = option_map (λ front. front ++ bytes) given

-- a front of the bytes was taken, of this length, which is positive where there are bytes
pub record Takes (given given' : Option (List ℕ)) (bytes : List ℕ) (count : ℕ) : Type 0 where
  pub within : count ≤ length bytes
  pub progress : 0 < length bytes → 0 < count
  pub front_given : given' ≡ given_then given (take count bytes)

-- a put is refused: because the count of its faults rose, or for want of memory
abbrev pub RefusesPut : (before after : ℕ) → PutAnswer → Type 0
RefusesPut before after Failed = Rose before after
RefusesPut before after Memory = Unit {0}

-- a put that is refused for want of memory is counted among those that were
abbrev pub WantsMemory : (before after : ℕ) → PutAnswer → Type 0
WantsMemory before after Failed = Unit {0}
WantsMemory before after Memory = Rose before after

-- a front of the text was given, and nothing else
abbrev pub GivesFront : Option (List ℕ) → Option (List ℕ) → List ℕ → Type 0
GivesFront given given' text = (front : List ℕ) × IsFront front text × (given' ≡ given_then given front)
