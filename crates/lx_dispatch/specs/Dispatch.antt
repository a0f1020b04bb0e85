-- What is promised of the tests of a unit, by the format of the text in which they stand.
use Rattle.std.specs.Prelude.{◌≡◌, ℕ, suc, ◌+◌, ◌*◌, ◌^◌, ◌<◌, ◌≤◌, Bool, true, false, max, List, [], ◌∷◌, ◌++◌, length, map, Option, Some, None}
use Rattle.std.specs.List.{AllByRecursion}
use Rattle.lx_base.specs.declared.settings.Format.{Format}
use Rattle.lx_base.specs.declared.settings.Format.TheVariants.{Two, Three}
use Rattle.lx_ccode.specs.Machine.{is_among}
use Rattle.lx_ccode.specs.Validity.{AreUnitsOnce, IsByte}
use Rattle.lx_dispatch.specs.LeftUnits.{any_holds, left_split}
use Rattle.lx_dispatch.specs.TestTrees.{Asked, EachTest, HasEnd, HasWay, IsPlain, PicksAs, Question, TestTree, among, at_most, by_cases, by_question, depth, is, test}
use Rattle.lx_dispatch.specs.TransitionClasses.{Split, Stretch}

-- the greatest unit that is read, where one may stand at the end of the input
abbrev pub top_of : (eof : Option ℕ) → (greatest : ℕ) → ℕ
top_of None greatest = greatest
top_of (Some eof) greatest = max eof greatest

-- ---- what is asked

-- the units of all cases, in order
abbrev pub all_units : List (List ℕ) → List ℕ
all_units [] = []
all_units (units ∷ others) = units ++ all_units others

-- there is a case, each has a unit, the units are bytes, and none stands twice
pub record AreCases (units : List (List ℕ)) : Type 0 where
  pub some : 0 < length units
  pub each : AllByRecursion (λ own. (0 < length own) × AllByRecursion IsByte own) units
  pub once : AreUnitsOnce (all_units units)

-- Of a unit up to a greatest one, with a table of sets that has so many bytes, it may be asked whether it is at most one with which a stretch ends,
-- whether it is some byte, whether it is in a set of the table, and where units are bytes, by which of cases it goes.
abbrev pub MayAsk : (room greatest : ℕ) → List Stretch → Asked → Type 0
MayAsk room greatest stretches (by_question (at_most unit)) = HasEnd stretches unit
MayAsk room greatest stretches (by_question (is unit)) = IsByte unit
MayAsk room greatest stretches (by_question (among set)) = 32 * set < room
MayAsk room greatest stretches (by_cases units) = (greatest ≡ 0xFF) × AreCases units

-- that is asked alone, and the tree leads where some units go by the split alone
abbrev pub TestsWithin : (room greatest : ℕ) → Split → TestTree (Option ℕ) → Type 0
TestsWithin room greatest split tree = EachTest (MayAsk room greatest split.tests) (HasWay split.tests split.last) tree

-- ---- how often

-- questions before a tree, each with the way of the units of which it is the first that holds
abbrev pub fronted : {A : Type 0} → List (Question × A) → TestTree A → TestTree A
fronted [] rest = rest
fronted (one ∷ first) rest = test one.0 one.1 (fronted first rest)

-- the question is whether a unit is one unit, or in a set
abbrev pub is_first : Question → Bool
is_first (at_most unit) = false
is_first (is unit) = true
is_first (among set) = true

-- no such question is asked
abbrev pub AsksRest : Asked → Type 0
AsksRest (by_question question) = is_first question ≡ false
AsksRest (by_cases units) = Unit {0}

-- At most five such questions come first. Behind them no unit is tested more often than the number of the runs that they leave has binary digits.
pub record IsFronted (sets : (set unit : ℕ) → Bool) (top : ℕ) (split : Split) (tree : TestTree (Option ℕ)) : Type 0 where
  pub first : List (Question × Option ℕ)
  pub rest : TestTree (Option ℕ)
  pub is : tree ≡ fronted first rest
  pub at_most_five : length first ≤ 5
  pub sorts : AllByRecursion (λ one. is_first one.0 ≡ true) first
  pub others : EachTest AsksRest (λ class. Unit {0}) rest
  pub few : 2 ^ depth rest ≤ 2 * suc (length (left_split (any_holds sets (map (λ one. one.0) first)) top split).tests) + 1

-- In format 2 it is asked for greatest units alone, and no unit is tested more often than the number of all runs has binary digits.
pub record IsFew (split : Split) (tree : TestTree (Option ℕ)) : Type 0 where
  pub plain : IsPlain tree
  pub few : 2 ^ depth tree ≤ 2 * suc (length split.tests) + 1

abbrev pub TestsFew : Format → (sets : (set unit : ℕ) → Bool) → (top : ℕ) → Split → TestTree (Option ℕ) → Type 0
TestsFew Two sets top split tree = IsFew split tree
TestsFew Three sets top split tree = IsFronted sets top split tree

-- ---- the whole

-- A tree of the tests of a split, in text of a format with a table of sets, for units up to a greatest one and one that may stand at the end of the input.
pub record AreTestsOf (format : Format) (table : List ℕ) (eof : Option ℕ) (greatest : ℕ) (split : Split) (tree : TestTree (Option ℕ)) : Type 0 where
  pub picks : PicksAs (top_of eof greatest) (is_among table) split tree
  pub within : TestsWithin (length table) greatest split tree
  pub few : TestsFew format (is_among table) (top_of eof greatest) split tree

-- the table has 256 bytes for each eight sets, of which there are at most 64
abbrev pub IsTable : List ℕ → Type 0
IsTable table = (groups : ℕ) × (length table ≡ 256 * groups) × (groups ≤ 8) × AllByRecursion IsByte table
