-- The longest runs of units that go one way.
use Rattle.std.specs.Prelude.{◌≡◌, ◌≢◌, ℕ, zero, suc, ◌≤◌, Bool, true, List, [], ◌∷◌, length, Option, Some, None, nat_le, ◌==◌, if◌then◌else◌}
use Rattle.lx_auto.specs.Automaton.{edge_on}
use Rattle.lx_auto.specs.declared.automaton.Edge.{Edge}
use Rattle.lx_dispatch.specs.TransitionClasses.{Split, Stretch, edge_class, first_class, same_place, transition_classes}

-- neighbours go different ways: each stretch another way than the next one, and the last one another way than the units behind it
abbrev pub AreDifferent : List Stretch → (last : Option ℕ) → Type 0
AreDifferent [] last = Unit {0}
AreDifferent (stretch ∷ stretches) last = (stretch.class ≢ first_class stretches last) × AreDifferent stretches last

-- It is told which units count, and these go up to a greatest one.
module _ (counts : ℕ → Bool) (top : ℕ) where
  -- a unit counts that is at least a lowest one and at most a greatest one
  abbrev pub HasUnit : (low greatest : ℕ) → Type 0
  HasUnit low greatest = (unit : ℕ) × (low ≤ unit) × (unit ≤ greatest) × (counts unit ≡ true)

  -- In each stretch a unit counts, and also in the units behind the last one. The first stretch begins with a lowest unit, and each other one behind the one before.
  abbrev pub EachHasUnit : (low : ℕ) → List Stretch → Type 0
  EachHasUnit low [] = HasUnit low top
  EachHasUnit low (stretch ∷ stretches) = HasUnit low stretch.greatest × EachHasUnit (suc stretch.greatest) stretches

  -- The tests of a split end the longest runs of units that go one way: in each run a unit counts, and neighbours go different ways.
  pub record AreLongestRuns (split : Split) : Type 0 where
    pub each : EachHasUnit 0 split.tests
    pub different : AreDifferent split.tests split.last

-- ---- what a reader reads

-- the unit is at most a greatest one, or is the one that stands at the end of the input
abbrev pub is_read : (eof : Option ℕ) → (greatest unit : ℕ) → Bool
is_read None greatest unit = nat_le unit greatest
is_read (Some eof) greatest unit = if unit == eof then true else nat_le unit greatest

-- A unit goes as its edge, if there is one. The one at the end of the input goes a way of its own, behind the classes of the edges.
abbrev pub reader_way : (eof : Option ℕ) → List Edge → (unit : ℕ) → Option ℕ
reader_way None edges unit = edge_class (transition_classes edges) (edge_on edges unit)
reader_way (Some eof) edges unit =
    if unit == eof then Some (length (transition_classes edges)) else edge_class (transition_classes edges) (edge_on edges unit)

-- ---- how many runs

-- how often, in a row of ways behind one, another way comes next
abbrev pub changes : (way : Option ℕ) → List (Option ℕ) → ℕ
changes way [] = 0
changes way (next ∷ ways) = if same_place way next then changes next ways else suc (changes next ways)

-- how many runs of one way each stand in the row
abbrev pub run_count : List (Option ℕ) → ℕ
run_count [] = 0
run_count (way ∷ ways) = suc (changes way ways)

-- the ways of those that count of so many units, from a lowest one on
abbrev pub ways_from : (counts : ℕ → Bool) → (way : ℕ → Option ℕ) → (low count : ℕ) → List (Option ℕ)
ways_from counts way low zero = []
ways_from counts way low (suc count) =
    if counts low then way low ∷ ways_from counts way (suc low) count else ways_from counts way (suc low) count

-- in how many runs those units up to a greatest one that count go one way
abbrev pub runs_up_to : (counts : ℕ → Bool) → (way : ℕ → Option ℕ) → (top : ℕ) → ℕ
runs_up_to counts way top = run_count (ways_from counts way 0 (suc top))
