-- Breadth-first searches in the order of units, over any graph where a unit leads from a state to one state at most. Words are
-- walked from state 0.
use Rattle.std.specs.Prelude.{◌≡◌, ◌≢◌, ℕ, zero, suc, ◌<◌, ◌⊎◌, List, [], ◌∷◌, ◌++◌, Option, Some, None}

-- what comes of a state, if there is one
abbrev pub and_then : Option ℕ → (ℕ → Option ℕ) → Option ℕ
and_then None onward = None
and_then (Some state) onward = onward state

-- the state behind a word that is walked from a state, if the graph has it
abbrev pub walk : (step : (state unit : ℕ) → Option ℕ) → (state : ℕ) → (word : List ℕ) → Option ℕ
walk step state [] = Some state
walk step state (unit ∷ word) = and_then (step state unit) (λ next. walk step next word)

-- What a search has found: at each of so many places a state, the place of the one from which it was found, and the unit that leads
-- from there.
pub record Trace : Type 0 where
  pub count : ℕ
  pub state : ℕ → ℕ
  pub parent : ℕ → ℕ
  pub unit : ℕ → ℕ

-- the word of a place: the units on the way to it, which has so many steps at most
abbrev pub word_within : Trace → (steps place : ℕ) → List ℕ
word_within trace zero place = []
word_within trace (suc steps) zero = []
word_within trace (suc steps) (suc place) = word_within trace steps (trace.parent (suc place)) ++ trace.unit (suc place) ∷ []

abbrev pub word_at : Trace → (place : ℕ) → List ℕ
word_at trace place = word_within trace place place

-- a step from a place by a unit comes before the one from another place by another unit
abbrev pub IsEarlier : (place unit bound end : ℕ) → Type 0
IsEarlier place unit bound end = (place < bound) ⊎ ((place ≡ bound) × (unit < end))

module _ (step : (state unit : ℕ) → Option ℕ) (trace : Trace) where
  -- state 0 stands first, and each later place comes by a step from an earlier one, in the order of these steps
  pub record IsTrace : Type 0 where
    pub some : 0 < trace.count
    pub start : trace.state 0 ≡ 0
    pub parents : (place : ℕ) → 0 < place → place < trace.count → trace.parent place < place
    pub steps : (place : ℕ) → 0 < place → place < trace.count
        → step (trace.state (trace.parent place)) (trace.unit place) ≡ Some (trace.state place)
    pub order : (place other : ℕ) → 0 < place → place < other → other < trace.count
        → IsEarlier (trace.parent place) (trace.unit place) (trace.parent other) (trace.unit other)

  -- the state stands first, or was found by a step before this one
  abbrev pub StandsBy : (bound end state : ℕ) → Type 0
  StandsBy bound end state =
      (place : ℕ) × (place < trace.count) × (trace.state place ≡ state)
      × (0 < place → IsEarlier (trace.parent place) (trace.unit place) bound end)

  -- where a step before this one leads, a state stands that was found by then
  abbrev pub ArePassed : (bound end : ℕ) → Type 0
  ArePassed bound end =
      (place unit state : ℕ) → place < trace.count → IsEarlier place unit bound end → step (trace.state place) unit ≡ Some state
      → StandsBy place (suc unit) state

  -- no two places have one state
  abbrev pub AreApart : Type 0
  AreApart = (place other : ℕ) → place < other → other < trace.count → trace.state place ≢ trace.state other

  -- a search that is at its end: where a step from a state that it has found leads, a state stands that was found by then
  pub record IsSearched : Type 0 where
    pub traced : IsTrace
    pub passed : (place unit state : ℕ) → place < trace.count → step (trace.state place) unit ≡ Some state
        → StandsBy place (suc unit) state
