-- What the code of determinization holds.
use Rattle.std.specs.Prelude.{◌≡◌, ◌≢◌, ℕ, ◌<◌, ◌≤◌, ◌⊎◌, max, List, [], ◌∷◌, ◌++◌, map, length, sum_by, Vec, AllPairs, Contains}
use Rattle.lx_base.specs.declared.limits.TheConstants.{KERNEL_LIMIT, PLACE_LIMIT}
use Rattle.lx_base.specs.declared.faults.Fault.TheVariants.{TooManyStates}
use Rattle.lx_base.specs.declared.faults.Stop.{Stop}
use Rattle.lx_base.specs.declared.faults.Stop.TheVariants as stop
use Rattle.lx_base.specs.declared.places.Pos.{Pos}
use Rattle.lx_tdfa.specs.declared.steps.Ending as held
use Rattle.lx_tdfa.specs.declared.steps.Step as held_step
use Rattle.lx_tdfa.specs.Steps.{Ending, Step}

-- the lists that a set holds
abbrev pub lists_of : {P A : Type 0} → List (Vec P A) → List (List P)
lists_of lists = map (λ list. list.items) lists

-- the most places that a list has
abbrev pub most_places : {P : Type 0} → List (List P) → ℕ
most_places [] = 0
most_places (list ∷ lists) = max (length list) (most_places lists)

-- not more lists, and not more places, than an automaton may have
pub record IsWithin {P : Type 0} (lists : List (List P)) : Type 0 where
  pub few : length lists ≤ KERNEL_LIMIT
  pub few_places : sum_by length lists ≤ PLACE_LIMIT

-- a list came behind the others, or was there
abbrev pub Adds : {P : Type 0} → (old : List (List P)) → List P → (new : List (List P)) → Type 0
Adds old list new = ((new ≡ old) × Contains old list) ⊎ ((new ≡ old ++ list ∷ []) × (Contains old list → ⊥))

-- there are too many lists, or too many places in them
abbrev pub AreMany : {P : Type 0} → List (List P) → Type 0
AreMany lists = (KERNEL_LIMIT < length lists) ⊎ (PLACE_LIMIT < sum_by length lists)

-- and all are different
pub record AreTooMany {P : Type 0} (lists : List (List P)) : Type 0 where
  pub apart : AllPairs (λ list other. list ≢ other) lists
  pub many : AreMany lists

-- it stops where memory runs out, or by the fault of too many states, and then for this reason
abbrev pub StopsBy : Pos → (reason : Type 0) → Stop → Type 0
StopsBy at reason stop.Memory = Unit {0}
StopsBy at reason (stop.Fault fault) = (fault ≡ TooManyStates at) × reason

-- what the definitions see of a step and of an ending
abbrev pub seen_step : held_step.Step → Step
seen_step step = record { from = step.reach.now.from; events = step.reach.now.events; to = step.to }

abbrev pub seen_ending : held.Ending → Ending
seen_ending ending = record { rule = ending.rule; from = ending.reach.now.from; events = ending.reach.now.events }
