-- The tests that are left end the longest runs of the units on which it is not decided.
use Rattle.std.specs.Prelude.{◌≡◌, ℕ, zero, suc, ◌+◌, ◌-◌, ◌<◌, ◌≤◌, ◌&&◌, not, Bool, true, false, List, [], ◌∷◌, Option, Some, None, unwrap_or, if◌then◌else◌, refl}
use Rattle.std.proofs.Common.{ap, ◌∙◌, arith, true≢false}
use Rattle.lx_dispatch.specs.LeftUnits.{all_between, all_from, left_before, left_from, left_split}
use Rattle.lx_dispatch.specs.Runs.{AreDifferent, AreLongestRuns, EachHasUnit, HasUnit}
use Rattle.lx_dispatch.specs.TestTrees.{Ascend, class_on, split_class}
use Rattle.lx_dispatch.specs.TransitionClasses.{Split, Stretch, first_class, same_place}
use Rattle.lx_dispatch.proofs.LeftWays.{Leads, leads-left, split_class-left_split}
use Rattle.lx_dispatch.proofs.LongestRuns.{RiseTo, RiseTo-within, rise-each, same_place-other}

-- ---- units

-- where not all are of some sort, one is not
other-from : (test : ℕ → Bool) (low count : ℕ) → all_from test low count ≡ false
    → (unit : ℕ) × (low ≤ unit) × (unit < low + count) × (test unit ≡ false)
other-from test low zero some = absurd (true≢false some)
other-from test low (suc count) some = by (test low) refl some (λ h. other-from test (suc low) count h)
  where
    by : (t : Bool) → test low ≡ t → (t && all_from test (suc low) count) ≡ false
        → (all_from test (suc low) count ≡ false → (unit : ℕ) × (suc low ≤ unit) × (unit < suc low + count) × (test unit ≡ false))
        → (unit : ℕ) × (low ≤ unit) × (unit < low + suc count) × (test unit ≡ false)
    by false is some again = (low, omega arith, omega arith, is)
    by true is some again = let h = again some in (h.0, omega (arith, h.1), omega (arith, h.2), h.3)

all-from : (test : ℕ → Bool) (low count : ℕ) → ((unit : ℕ) → low ≤ unit → unit < low + count → test unit ≡ true) → all_from test low count ≡ true
all-from test low zero each = refl
all-from test low (suc count) each =
    ap (λ t. t && all_from test (suc low) count) (each low (omega arith) (omega arith))
    ∙ all-from test (suc low) count (λ unit from to. each unit (omega (arith, from)) (omega (arith, to)))

module _ (decided : ℕ → Bool) (top : ℕ) where
  abbrev left : ℕ → Bool
  left unit = not (decided unit)

  has-between : (low greatest : ℕ) → all_between decided low greatest ≡ false → HasUnit left top low greatest
  has-between low greatest some =
      let h = other-from decided low (suc greatest - low) some in (h.0, h.1, omega (arith, h.1, h.2), ap not h.3)

  -- ---- stretches

  ascend-rise : (from low : ℕ) (list : List Stretch) → from ≤ low → RiseTo top low list → Ascend from list
  ascend-rise from low [] le rise = tt
  ascend-rise from low (stretch ∷ list) le rise =
      (omega (arith, le, rise.0), ascend-rise stretch.greatest (suc stretch.greatest) list (omega arith) rise.1)

  each-earlier : (low high : ℕ) (list : List Stretch) → low ≤ high → EachHasUnit left top high list → EachHasUnit left top low list
  each-earlier low high [] le each = (each.0, omega (arith, le, each.1), each.2, each.3)
  each-earlier low high (stretch ∷ list) le each = ((each.0.0, omega (arith, le, each.0.1), each.0.2, each.0.3), each.1)

  -- the runs from a lowest unit on, if some are left
  abbrev AreRunsFrom : (low : ℕ) → Split → Type 0
  AreRunsFrom low split = EachHasUnit left top low split.tests × AreDifferent split.tests split.last

  abbrev AreSomeFrom : (low : ℕ) → Option Split → Type 0
  AreSomeFrom low None = Unit {0}
  AreSomeFrom low (Some split) = AreRunsFrom low split

  runs-before : (low : ℕ) (stretch : Stretch) (split : Option Split) → HasUnit left top low stretch.greatest → stretch.greatest ≤ top
      → AreSomeFrom (suc stretch.greatest) split → AreRunsFrom low (left_before decided top stretch split)
  runs-before low stretch None has within runs = ((has.0, has.1, omega (arith, has.2, within), has.3), tt)
  runs-before low stretch (Some split) has within runs = by (same_place stretch.class (first_class split.tests split.last)) refl
    where
      by : (t : Bool) → same_place stretch.class (first_class split.tests split.last) ≡ t
          → AreRunsFrom low (if t then split else record { tests = stretch ∷ split.tests; last = split.last })
      by true e = (each-earlier low (suc stretch.greatest) split.tests (omega (arith, has.1, has.2)) runs.0, runs.1)
      by false e = ((has, runs.0), (same_place-other stretch.class (first_class split.tests split.last) e, runs.1))

  runs-earlier : (low high : ℕ) (split : Option Split) → low ≤ high → AreSomeFrom high split → AreSomeFrom low split
  runs-earlier low high None le runs = tt
  runs-earlier low high (Some split) le runs = (each-earlier low high split.tests le runs.0, runs.1)

  runs-left : (low : ℕ) (list : List Stretch) (last : Option ℕ) → RiseTo top low list → AreSomeFrom low (left_from decided top low list last)
  runs-left low [] last rise = by (all_between decided low top) refl
    where
      by : (t : Bool) → all_between decided low top ≡ t → AreSomeFrom low (if t then None else Some (record { tests = []; last = last }))
      by true e = tt
      by false e = (has-between low top e, tt)
  runs-left low (stretch ∷ list) last rise =
      by (all_between decided low stretch.greatest) refl (runs-left (suc stretch.greatest) list last rise.1)
    where
      by : (t : Bool) → all_between decided low stretch.greatest ≡ t
          → AreSomeFrom (suc stretch.greatest) (left_from decided top (suc stretch.greatest) list last)
          → AreSomeFrom low (if t then left_from decided top (suc stretch.greatest) list last
          else Some (left_before decided top stretch (left_from decided top (suc stretch.greatest) list last)))
      by true e runs =
          runs-earlier low (suc stretch.greatest) (left_from decided top (suc stretch.greatest) list last) (omega (arith, rise.0)) runs
      by false e runs =
          let more = RiseTo-within top (suc stretch.greatest) list rise.1 in
          runs-before low stretch (left_from decided top (suc stretch.greatest) list last) (has-between low stretch.greatest e)
          (omega (arith, more)) runs

  -- ---- where it is decided on all units

  all-between : ((unit : ℕ) → unit ≤ top → decided unit ≡ true) → (low greatest : ℕ) → greatest ≤ top → all_between decided low greatest ≡ true
  all-between each low greatest within =
      all-from decided low (suc greatest - low) (λ unit from to. each unit (omega (arith, from, to, within)))

  none-left : ((unit : ℕ) → unit ≤ top → decided unit ≡ true) → (low : ℕ) (list : List Stretch) (last : Option ℕ) → RiseTo top low list
      → left_from decided top low list last ≡ None
  none-left each low [] last rise =
      ap (λ (t : Bool). if t then None else Some (record { tests = []; last = last })) (all-between each low top (omega arith))
  none-left each low (stretch ∷ list) last rise =
      let more = RiseTo-within top (suc stretch.greatest) list rise.1 in
      ap (λ (t : Bool). if t then left_from decided top (suc stretch.greatest) list last
      else Some (left_before decided top stretch (left_from decided top (suc stretch.greatest) list last)))
      (all-between each low stretch.greatest (omega (arith, more)))
      ∙ none-left each (suc stretch.greatest) list last rise.1

-- ---- the split that is left

pub longest-left_split : (counts decided : ℕ → Bool) (top unit : ℕ) (split : Split) → EachHasUnit counts top 0 split.tests → unit ≤ top
    → decided unit ≡ false → AreLongestRuns (λ unit. not (decided unit)) top (left_split decided top split)
longest-left_split counts decided top unit split each le open_ =
    let rise = rise-each counts top 0 split.tests each in
    by (left_from decided top 0 split.tests split.last) (runs-left decided top 0 split.tests split.last rise)
    (leads-left decided top 0 split.tests split.last 0 unit (ascend-rise decided top 0 0 split.tests (omega arith) rise) (omega arith) le open_)
  where
    by : (found : Option Split) → AreSomeFrom decided top 0 found → Leads decided top unit (class_on split.tests split.last unit) found
        → AreLongestRuns (λ unit. not (decided unit)) top (unwrap_or found (record { tests = []; last = split.last }))
    by None runs leads = absurd leads
    by (Some own) runs leads = record { each = runs.0; different = runs.1 }

pub split_class-left : (counts decided : ℕ → Bool) (top unit : ℕ) (split : Split) → EachHasUnit counts top 0 split.tests → unit ≤ top
    → decided unit ≡ false → split_class (left_split decided top split) unit ≡ split_class split unit
split_class-left counts decided top unit split each le open_ =
    split_class-left_split decided top split unit
    (ascend-rise decided top 0 0 split.tests (omega arith) (rise-each counts top 0 split.tests each)) le open_

pub none-left_split : (counts decided : ℕ → Bool) (top : ℕ) (split : Split) → EachHasUnit counts top 0 split.tests
    → ((unit : ℕ) → unit ≤ top → decided unit ≡ true) → (left_split decided top split).tests ≡ []
none-left_split counts decided top split has each =
    ap (λ (found : Option Split). (unwrap_or found (record { tests = []; last = split.last })).tests)
    (none-left decided top each 0 split.tests split.last (rise-each counts top 0 split.tests has))
