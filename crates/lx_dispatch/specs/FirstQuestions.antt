-- First questions before a tree of tests, and what is asked of both.
use Rattle.std.specs.Prelude.{◌≡◌, ℕ, suc, ◌+◌, ◌*◌, ◌^◌, ◌<◌, ◌≤◌, Bool, false, List, [], ◌∷◌, length, map, Option, Some, None, if◌then◌else◌}
use Rattle.std.specs.List.{AllByRecursion}
use Rattle.lx_ccode.specs.Machine.{is_among}
use Rattle.lx_ccode.specs.Validity.{IsByte}
use Rattle.lx_dispatch.specs.Dispatch.{AsksRest, TestsWithin}
use Rattle.lx_dispatch.specs.LeftUnits.{any_holds, left_split}
use Rattle.lx_dispatch.specs.TestTrees.{EachTest, HasWay, Question, TestTree, among, at_most, class_on, depth, holds, is, picked, split_class}
use Rattle.lx_dispatch.specs.TransitionClasses.{Split, Stretch, same_place}
use Rattle.lx_dispatch.specs.Views.{seen_question, seen_stretch}
use Rattle.lx_dispatch.specs.declared.first_questions.FirstQuestion.{FirstQuestion}
use Rattle.lx_dispatch.specs.declared.unit_splits.Stretch as held

abbrev pub seen_first : List FirstQuestion → List (Question × Option ℕ)
seen_first first = map (λ one. (seen_question one.question, one.class)) first

abbrev pub questions_of : List (Question × Option ℕ) → List Question
questions_of first = map (λ one. one.0) first

-- how a unit goes: by the first question that holds, or else another way
abbrev pub first_way : (sets : (set unit : ℕ) → Bool) → List (Question × Option ℕ) → (other : Option ℕ) → (unit : ℕ) → Option ℕ
first_way sets [] other unit = other
first_way sets (one ∷ first) other unit = if holds sets one.0 unit then one.1 else first_way sets first other unit

-- whether the unit is some byte, or is in a set of a table that has so many bytes
abbrev pub IsFirstQuestion : (room : ℕ) → Question → Type 0
IsFirstQuestion room (at_most unit) = ⊥
IsFirstQuestion room (is unit) = IsByte unit
IsFirstQuestion room (among set) = 32 * set < room

-- first questions lead each unit from a lowest one up to a greatest one, of those up to 0xFF, as stretches do
abbrev pub LeadFrom : (sets : (set unit : ℕ) → Bool) → List (Question × Option ℕ) → (low top : ℕ) → List Stretch → (last : Option ℕ) → Type 0
LeadFrom sets first low top stretches last =
    (unit : ℕ) → low ≤ unit → unit ≤ top → unit ≤ 0xFF → first_way sets first (class_on stretches last unit) unit ≡ class_on stretches last unit

-- each of some first questions may be asked, and some units go its way by a split
abbrev pub AreAsked : (room : ℕ) → Split → List (Question × Option ℕ) → Type 0
AreAsked room split first = AllByRecursion (λ one. IsFirstQuestion room one.0 × HasWay split.tests split.last one.1) first

-- At most five first questions lead each unit as a split does.
pub record AreFirst (table : List ℕ) (top : ℕ) (split : Split) (first : List (Question × Option ℕ)) : Type 0 where
  pub few : length first ≤ 5
  pub each : AreAsked (length table) split first
  pub lead : (unit : ℕ) → unit ≤ top → first_way (is_among table) first (split_class split unit) unit ≡ split_class split unit

-- A tree for the units on which first questions have not decided.
pub record IsRestOf (table : List ℕ) (top greatest : ℕ) (split : Split) (first : List (Question × Option ℕ)) (tree : TestTree (Option ℕ)) : Type 0 where
  pub picks : (unit : ℕ) → unit ≤ top → any_holds (is_among table) (questions_of first) unit ≡ false → picked (is_among table) tree unit ≡ split_class split unit
  pub within : TestsWithin (length table) greatest split tree
  pub others : EachTest AsksRest (λ class. Unit {0}) tree
  pub few : 2 ^ depth tree ≤ 2 * suc (length (left_split (any_holds (is_among table) (questions_of first)) top split).tests) + 1

-- the test of a stretch that waits for the way of the next units, if one waits and these go another way
abbrev pub waiting_tests : Option held.Stretch → (class : Option ℕ) → List Stretch
waiting_tests None class = []
waiting_tests (Some stretch) class = if same_place stretch.class class then [] else seen_stretch stretch ∷ []
