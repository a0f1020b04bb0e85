-- Tests of a unit as a tree, and what is asked of such a tree.
use Rattle.std.specs.Prelude.{◌≡◌, ◌⊎◌, ℕ, suc, ◌+◌, ◌*◌, ◌^◌, ◌≤◌, Bool, max, List, [], ◌∷◌, length, map, Option, nat_le, ◌==◌, if◌then◌else◌}
use Rattle.std.specs.List.{AllByRecursion}
use Rattle.lx_ccode.specs.Machine.{has_unit}
use Rattle.lx_dispatch.specs.TransitionClasses.{Split, Stretch}

-- ---- questions

-- what a test asks of a unit: whether it is at most a greatest one, or is one unit, or is in the set with a number
pub data Question : Type 0 where
  at_most : (greatest : ℕ) → Question
  is : (unit : ℕ) → Question
  among : (set : ℕ) → Question

-- whether the answer is yes, if it is known what is in a set
abbrev pub holds : (sets : (set unit : ℕ) → Bool) → Question → (unit : ℕ) → Bool
holds sets (at_most greatest) unit = nat_le unit greatest
holds sets (is one) unit = unit == one
holds sets (among set) unit = sets set unit

-- ---- trees

-- How units go: all of them by one class; or those of which a question holds by a class or by a tree of lower tests, and others by another
-- tree; or each by the first of cases that has it, and others by a last class.
pub data TestTree (A : Type 0) : Type 0 where
  leaf : (class : A) → TestTree A
  test : (question : Question) → (class : A) → (high : TestTree A) → TestTree A
  fork : (question : Question) → (low high : TestTree A) → TestTree A
  switch : (cases : List (List ℕ × A)) → (last : A) → TestTree A

-- how a unit goes by cases
abbrev pub case_way : {A : Type 0} → List (List ℕ × A) → (last : A) → (unit : ℕ) → A
case_way [] last unit = last
case_way (case ∷ cases) last unit = if has_unit case.0 unit then case.1 else case_way cases last unit

-- the same cases with other ways
abbrev pub cases_by : {A B : Type 0} → (A → B) → List (List ℕ × A) → List (List ℕ × B)
cases_by way [] = []
cases_by way (case ∷ cases) = (case.0, way case.1) ∷ cases_by way cases

-- how a unit goes
abbrev pub picked : {A : Type 0} → (sets : (set unit : ℕ) → Bool) → TestTree A → (unit : ℕ) → A
picked sets (leaf class) unit = class
picked sets (test question class high) unit = if holds sets question unit then class else picked sets high unit
picked sets (fork question low high) unit = if holds sets question unit then picked sets low unit else picked sets high unit
picked sets (switch cases last) unit = case_way cases last unit

-- how many tests come at most before the way of a unit is known
abbrev pub depth : {A : Type 0} → TestTree A → ℕ
depth (leaf class) = 0
depth (test question class high) = suc (depth high)
depth (fork question low high) = suc (max (depth low) (depth high))
depth (switch cases last) = 1

-- what one statement asks: a question, or by which of cases a unit goes, of which each has some units
pub data Asked : Type 0 where
  by_question : (question : Question) → Asked
  by_cases : (units : List (List ℕ)) → Asked

module _ {A : Type 0} (G : Asked → Type 0) (W : A → Type 0) where
  -- of what is asked, and of where units go
  abbrev pub EachTest : TestTree A → Type 0
  EachTest (leaf class) = W class
  EachTest (test question class high) = G (by_question question) × W class × EachTest high
  EachTest (fork question low high) = G (by_question question) × EachTest low × EachTest high
  EachTest (switch cases last) = G (by_cases (map (λ case. case.0) cases)) × AllByRecursion (λ case. W case.1) cases × W last

-- it is asked whether a unit is at most a greatest one of some sort
abbrev pub AsksAtMost : (G : ℕ → Type 0) → Asked → Type 0
AsksAtMost G (by_question (at_most greatest)) = G greatest
AsksAtMost G _ = ⊥

-- the tree asks for greatest units alone, and has no switch
abbrev pub IsPlain : {A : Type 0} → TestTree A → Type 0
IsPlain tree = EachTest (AsksAtMost (λ greatest. Unit {0})) (λ class. Unit {0}) tree

-- ---- a tree of the tests of a split

-- how a unit goes by stretches: by the class of the first one up to whose greatest unit it comes, or as those behind the last one
abbrev pub class_on : List Stretch → (last : Option ℕ) → (unit : ℕ) → Option ℕ
class_on [] last unit = last
class_on (stretch ∷ stretches) last unit = if nat_le unit stretch.greatest then stretch.class else class_on stretches last unit

-- how it goes by a split
abbrev pub split_class : Split → (unit : ℕ) → Option ℕ
split_class split unit = class_on split.tests split.last unit

-- each stretch ends no earlier than the one before it, and the first one no earlier than with `low`
abbrev pub Ascend : (low : ℕ) → List Stretch → Type 0
Ascend low [] = Unit {0}
Ascend low (stretch ∷ stretches) = (low ≤ stretch.greatest) × Ascend stretch.greatest stretches

-- one of the stretches ends with the unit
abbrev pub HasEnd : List Stretch → (unit : ℕ) → Type 0
HasEnd [] unit = ⊥
HasEnd (stretch ∷ stretches) unit = (unit ≡ stretch.greatest) ⊎ HasEnd stretches unit

-- the units of one of the stretches, or those behind the last one, go so
abbrev pub HasWay : List Stretch → (last class : Option ℕ) → Type 0
HasWay [] last class = class ≡ last
HasWay (stretch ∷ stretches) last class = (class ≡ stretch.class) ⊎ HasWay stretches last class

-- by the tree each unit up to a greatest one goes as the split says
abbrev pub PicksAs : (top : ℕ) → (sets : (set unit : ℕ) → Bool) → Split → TestTree (Option ℕ) → Type 0
PicksAs top sets split tree = (unit : ℕ) → unit ≤ top → picked sets tree unit ≡ split_class split unit

-- the tree asks for units with which stretches of the split end alone, and leads where some units go by the split alone
abbrev pub EndsWithin : Split → TestTree (Option ℕ) → Type 0
EndsWithin split tree = EachTest (AsksAtMost (HasEnd split.tests)) (HasWay split.tests split.last) tree

-- A tree of the tests of a split. Each stretch of it is a run of units that go one way, and so are the units behind the last one.
pub record IsTreeOf (split : Split) (tree : TestTree (Option ℕ)) : Type 0 where
  pub picks : (sets : (set unit : ℕ) → Bool) (unit : ℕ) → picked sets tree unit ≡ split_class split unit
  pub ends : EndsWithin split tree
  -- no unit is tested more often than the number of the runs has binary digits
  pub few : 2 ^ depth tree ≤ 2 * suc (length split.tests) + 1

-- the same of a tree that tests no unit more often than this
pub record IsTreeWithin (most : ℕ) (split : Split) (tree : TestTree (Option ℕ)) : Type 0 where
  pub picks : (sets : (set unit : ℕ) → Bool) (unit : ℕ) → picked sets tree unit ≡ split_class split unit
  pub ends : EndsWithin split tree
  pub few : depth tree ≤ most
