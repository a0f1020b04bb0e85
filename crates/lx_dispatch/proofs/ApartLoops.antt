-- One unit taken out of the tests of a split, stretch by stretch.
use Rattle.std.proofs.Common.{◌≡◌, ℕ, suc, ◌+◌, ◌-◌, ◌<◌, ◌≤◌, Bool, true, false, if◌then◌else◌, List, [], ◌∷◌, ◌++◌, length, drop, get_or, Option, Some, add-one, refl, sym, ap, ◌∙◌, nat_le, nat_lt, arith}
use Rattle.std.proofs.Math.ListN.{drop_of_length-le}
use Rattle.std.proofs.lemmas.Bool.{le-leb, lt-leb}
use Rattle.std.proofs.lemmas.List.{append-nil, append_assoc, drop_more}
use Rattle.lx_dispatch.specs.UnitApart.{apart_from, stretch_behind, tests_before, unit_last, unit_stretch, unit_then, units_before, with_test}
use Rattle.lx_dispatch.specs.Views.{seen_stretch, seen_stretches}
use Rattle.lx_dispatch.specs.TransitionClasses.{Split, Stretch}
use Rattle.lx_dispatch.specs.declared.unit_splits.Stretch as held

module _ (greatest apart place : ℕ) where
  units_before-tests : (low : ℕ) (class : Option ℕ) (split : Split)
      → (units_before greatest apart place low class split).tests ≡ tests_before apart low class ++ split.tests
  units_before-tests low class split = by (nat_lt low apart)
    where
      by : (t : Bool) → (if t then with_test (record { greatest = apart - 1; class = class }) split else split).tests
          ≡ (if t then record { greatest = apart - 1; class = class } ∷ [] else []) ++ split.tests
      by true = refl
      by false = refl

  units_before-last : (low : ℕ) (class : Option ℕ) (split : Split) → (units_before greatest apart place low class split).last ≡ split.last
  units_before-last low class split = by (nat_lt low apart)
    where
      by : (t : Bool) → (if t then with_test (record { greatest = apart - 1; class = class }) split else split).last ≡ split.last
      by true = refl
      by false = refl

  -- what was split so far, and what is still to come of the whole
  module _ (stretches : List held.Stretch) (index : ℕ) (low : ℕ) (last : Option ℕ) (front : List Stretch) (whole : Split)
      (before_tests : front ++ (apart_from greatest apart place low (seen_stretches (drop index stretches)) last).tests ≡ whole.tests)
      (before_last : (apart_from greatest apart place low (seen_stretches (drop index stretches)) last).last ≡ whole.last) where
    -- the units before the one that is taken out, and a split behind them
    told : (class : Option ℕ) (split : Split) (middle : List Stretch)
        → apart_from greatest apart place low (seen_stretches (drop index stretches)) last ≡ units_before greatest apart place low class split
        → middle ≡ front ++ tests_before apart low class → (middle ++ split.tests ≡ whole.tests) × (split.last ≡ whole.last)
    told class split middle is written = (
      ap (λ (l : List Stretch). l ++ split.tests) written ∙ append_assoc front (tests_before apart low class) split.tests
          ∙ ap (λ (l : List Stretch). front ++ l) (sym (units_before-tests low class split))
          ∙ ap (λ (s : Split). front ++ s.tests) (sym is) ∙ before_tests,
      sym (units_before-last low class split) ∙ ap (λ (s : Split). s.last) (sym is) ∙ before_last,
    )

    module _ (none : held.Stretch) (within : index < length stretches) where
      abbrev stretch : held.Stretch
      stretch = get_or stretches index none

      abbrev others : List Stretch
      others = seen_stretches (drop (index + 1) stretches)

      abbrev with_unit : Split
      with_unit = unit_then greatest apart place (stretch_behind greatest apart place (seen_stretch stretch) others) last

      abbrev chosen : Bool → Split
      chosen t = if t then units_before greatest apart place low stretch.class with_unit
          else with_test (seen_stretch stretch) (apart_from greatest apart place (suc stretch.greatest) others last)

      here : (t : Bool) → nat_le apart stretch.greatest ≡ t
          → apart_from greatest apart place low (seen_stretches (drop index stretches)) last ≡ chosen t
      here t is = ap (λ l. apart_from greatest apart place low (seen_stretches l) last) (drop_more stretches index none within) ∙ ap chosen is

      pub apart_from-reached : apart ≤ stretch.greatest → (middle tests : List Stretch) → middle ≡ front ++ tests_before apart low stretch.class
          → tests ≡ middle ++ unit_stretch apart place ∷ stretch_behind 0 apart place (seen_stretch stretch) others
          → (tests ≡ whole.tests) × (last ≡ whole.last)
      apart_from-reached reached middle tests written appended =
          let both = told stretch.class with_unit middle (here true (le-leb apart stretch.greatest reached)) written in
          (appended ∙ both.0, both.1)

      pub apart_from-passed : stretch.greatest < apart → (next : ℕ) → next ≡ stretch.greatest + 1
          → ((front ++ seen_stretch stretch ∷ []) ++ (apart_from greatest apart place next others last).tests ≡ whole.tests)
          × ((apart_from greatest apart place next others last).last ≡ whole.last)
      apart_from-passed passed next next_is =
          let is = here false (lt-leb apart stretch.greatest passed) in
          let same = ap (λ n. apart_from greatest apart place n others last) (next_is ∙ add-one stretch.greatest) in (
            append_assoc front (seen_stretch stretch ∷ []) (apart_from greatest apart place next others last).tests
                ∙ ap (λ (s : Split). front ++ seen_stretch stretch ∷ s.tests) same ∙ ap (λ (s : Split). front ++ s.tests) (sym is) ∙ before_tests,
            ap (λ (s : Split). s.last) same ∙ ap (λ (s : Split). s.last) (sym is) ∙ before_last,
          )

    module _ (ended : length stretches ≤ index) (middle : List Stretch) (written : middle ≡ front ++ tests_before apart low last) where
      behind : apart_from greatest apart place low (seen_stretches (drop index stretches)) last
          ≡ units_before greatest apart place low last (unit_last greatest apart place last)
      behind = ap (λ l. apart_from greatest apart place low (seen_stretches l) last) (drop_of_length-le stretches ended)

      chosen_last : (t : Bool) → nat_lt apart greatest ≡ t
          → unit_last greatest apart place last ≡ (if t then unit_then greatest apart place [] last else record { tests = []; last = Some place })
      chosen_last t is = ap (λ (b : Bool). if b then unit_then greatest apart place [] last else record { tests = []; last = Some place }) is

      pub apart_from-greatest : greatest ≤ apart → (middle ≡ whole.tests) × (Some place ≡ whole.last)
      apart_from-greatest least =
          let end : Split = record { tests = []; last = Some place } in
          let both = told last end middle
          (behind ∙ ap (units_before greatest apart place low last) (chosen_last false (lt-leb (suc apart) greatest (omega arith)))) written in
          (sym (append-nil middle) ∙ both.0, both.1)

      pub apart_from-last : apart < greatest → (tests : List Stretch) → tests ≡ middle ++ unit_stretch apart place ∷ []
          → (tests ≡ whole.tests) × (last ≡ whole.last)
      apart_from-last more tests appended =
          let both = told last (unit_then greatest apart place [] last) middle
          (behind ∙ ap (units_before greatest apart place low last) (chosen_last true (le-leb (suc apart) greatest more))) written in
          (appended ∙ both.0, both.1)
