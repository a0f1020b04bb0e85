-- What is asked of numbers for the places of an automaton: those within leaves, and those at which leaves are finished.
use Rattle.std.specs.Prelude.{◌≡◌, ℕ, zero, suc, ◌+◌, ◌<◌, ◌≤◌, ◌↔◌, List, [], ◌∷◌, ◌++◌, map, length, Some, slice_get}
use Rattle.lx_base.specs.declared.settings.Enc.{Enc}
use Rattle.lx_regex.specs.Automaton.{State, automaton}
use Rattle.lx_regex.specs.Reading.{IsReading}
use Rattle.lx_regex.specs.Script.{Symbol, choices, reads, units}
use Rattle.lx_regex.specs.Term.{Term}
use Rattle.lx_regex.specs.Walk.{Walk, mark}

-- this is the element with this index
abbrev pub IsNth : {X : Type 0} → List X → (index : ℕ) → X → Type 0
IsNth [] index x = ⊥
IsNth (first ∷ others) zero x = first ≡ x
IsNth (first ∷ others) (suc index) x = IsNth others index x

-- a unit was read
abbrev pub HasBegun : List Symbol → Type 0
HasBegun symbols = units symbols ≡ [] → ⊥

module _ (enc : Enc) (rules : List Term) where
  -- in the leaf at this state these symbols were read, and the units that are left finish it
  pub record IsLeft (leaf : ℕ) (symbols : List Symbol) (left : List ℕ) : Type 0 where
    pub row : State
    pub choice : List Symbol
    pub read : List ℕ
    pub at : slice_get (automaton rules) leaf ≡ Some row
    pub is : symbols ≡ choice ++ map reads read
    pub reading : IsReading enc row choice (read ++ left)

  -- The numbers after a number and a unit, the symbols that each of these ways adds, and the number of the place in a leaf
  -- behind what was read in it. A number of a state is that of the place at which the leaf before it is finished.
  pub record NumbersLeaves (after : ℕ → ℕ → List ℕ) (added : ℕ → ℕ → ℕ → List Symbol) (number : ℕ → List Symbol → ℕ) : Type 0 where
    -- a state reads a unit where it is a leaf behind which an end can be reached: for each way to read it there is a number
    pub leaf_sound : (state unit index next : ℕ) → state < length (automaton rules) → IsNth (after state unit) index next
        → (row : State) × (choice : List Symbol) × (left : List ℕ) × (slice_get (automaton rules) state ≡ Some row)
        × IsReading enc row choice (unit ∷ left) × (next ≡ number state (choice ++ reads unit ∷ []))
        × (added state unit index ≡ mark state ∷ (choice ++ reads unit ∷ [])) × Walk (automaton rules) 0 (state + 1)
    pub leaf_has : (state unit : ℕ) (row : State) (choice : List Symbol) (left : List ℕ) → slice_get (automaton rules) state ≡ Some row
        → IsReading enc row choice (unit ∷ left) → Walk (automaton rules) 0 (state + 1)
        → (index : ℕ) × IsNth (after state unit) index (number state (choice ++ reads unit ∷ []))
        × (added state unit index ≡ mark state ∷ (choice ++ reads unit ∷ []))
    -- within a leaf there is one way to read a unit, or none
    pub mid_sound : (leaf : ℕ) (symbols : List Symbol) (left : List ℕ) (unit index next : ℕ) → IsLeft leaf symbols left → HasBegun symbols
        → length (automaton rules) ≤ number leaf symbols → IsNth (after (number leaf symbols) unit) index next
        → (later : List ℕ) × IsLeft leaf (symbols ++ reads unit ∷ []) later × (next ≡ number leaf (symbols ++ reads unit ∷ []))
        × (added (number leaf symbols) unit index ≡ reads unit ∷ []) × (index ≡ 0)
    pub mid_has : (leaf : ℕ) (symbols : List Symbol) (unit : ℕ) (left : List ℕ) → IsLeft leaf symbols (unit ∷ left) → HasBegun symbols
        → IsNth (after (number leaf symbols) unit) 0 (number leaf (symbols ++ reads unit ∷ []))
        × (added (number leaf symbols) unit 0 ≡ reads unit ∷ []) × (length (automaton rules) ≤ number leaf symbols)
    -- behind a finished leaf it is the number of the next state
    pub full : (leaf : ℕ) (symbols : List Symbol) → IsLeft leaf symbols [] → HasBegun symbols → number leaf symbols ≡ leaf + 1
    -- one number is one place, and one place has one number
    pub same : (leaf other : ℕ) (symbols others : List Symbol) (left behind : List ℕ) → IsLeft leaf symbols left → IsLeft other others behind
        → HasBegun symbols → HasBegun others → number leaf symbols ≡ number other others
        → (leaf ≡ other) × ((later : List ℕ) → IsLeft leaf symbols later → IsLeft other others later)
    pub exact : (leaf : ℕ) (symbols others : List Symbol) (left behind : List ℕ) → IsLeft leaf symbols left → IsLeft leaf others behind
        → HasBegun symbols → HasBegun others → ((later : List ℕ) → IsLeft leaf symbols later ↔ IsLeft leaf others later)
        → number leaf symbols ≡ number leaf others
    -- the ways to read a unit stand in the order of their choices
    pub order : (state unit index later next other : ℕ) → IsNth (after state unit) index next → IsNth (after state unit) later other
        → index < later
        → (choice second : ℕ) × (rest others : List ℕ) × (choices (added state unit index) ≡ choice ∷ rest)
        × (choices (added state unit later) ≡ second ∷ others) × (choice < second)
