-- Where one unit is taken out of the tests of a state, they stay in ascending order.
use Rattle.std.specs.Prelude.{◌≡◌, ℕ, suc, ◌-◌, ◌<◌, ◌≤◌, Bool, true, false, List, [], ◌∷◌, length, Option, Some, None, nat_le, nat_lt, if◌then◌else◌, refl}
use Rattle.std.proofs.Common.{arith, leb-true, leb-false}
use Rattle.lx_auto.specs.Automaton.{AreApart}
use Rattle.lx_auto.specs.declared.automaton.Edge.{Edge}
use Rattle.lx_dispatch.specs.TestTrees.{Ascend}
use Rattle.lx_dispatch.specs.TransitionClasses.{Split, Stretch, edge_split, transition_classes}
use Rattle.lx_dispatch.specs.UnitApart.{apart_from, reader_split, stretch_behind, unit_last, unit_then, units_before, with_test}
use Rattle.lx_dispatch.proofs.Splits.{Ascend-edge_split}
use Rattle.lx_dispatch.proofs.SplitTrees.{Ascend-earlier}

module _ (greatest apart place : ℕ) where
  ascends-before : (from low : ℕ) (class : Option ℕ) (split : Split) → from ≤ low → from ≤ apart
      → ((g : ℕ) → g ≤ apart → Ascend g split.tests) → Ascend from (units_before greatest apart place low class split).tests
  ascends-before from low class split le top order = by (nat_lt low apart) refl
    where
      by : (t : Bool) → nat_lt low apart ≡ t
          → Ascend from (if t then with_test (record { greatest = apart - 1; class = class }) split else split).tests
      by true h = let less : low < apart = grind (arith, h) in (omega (arith, less, le), order (apart - 1) (omega (arith, less)))
      by false h = order from top

  ascends-last : (last : Option ℕ) (g : ℕ) → g ≤ apart → Ascend g (unit_last greatest apart place last).tests
  ascends-last last g le = by (nat_lt apart greatest)
    where
      by : (t : Bool) → Ascend g (if t then unit_then greatest apart place [] last else record { tests = []; last = Some place }).tests
      by true = (le, tt)
      by false = tt

  ascends-behind : (stretch : Stretch) (list : List Stretch) → apart ≤ stretch.greatest → Ascend stretch.greatest list
      → Ascend apart (stretch_behind greatest apart place stretch list)
  ascends-behind stretch list le order = by (nat_lt apart stretch.greatest) refl
    where
      by : (t : Bool) → nat_lt apart stretch.greatest ≡ t → Ascend apart (if t then stretch ∷ list else list)
      by true h = (le, order)
      by false h = let top : stretch.greatest ≤ apart = grind (arith, h) in Ascend-earlier apart stretch.greatest list le order

  ascends-apart : (from low : ℕ) (list : List Stretch) (last : Option ℕ) → Ascend from list → from ≤ low → from ≤ apart
      → Ascend from (apart_from greatest apart place low list last).tests
  ascends-apart from low [] last order le top =
      ascends-before from low last (unit_last greatest apart place last) le top (ascends-last last)
  ascends-apart from low (stretch ∷ list) last order le top =
      by (nat_le apart stretch.greatest) refl (λ more. ascends-apart stretch.greatest (suc stretch.greatest) list last order.1 (omega arith) more)
    where
      by : (t : Bool) → nat_le apart stretch.greatest ≡ t
          → (stretch.greatest ≤ apart → Ascend stretch.greatest (apart_from greatest apart place (suc stretch.greatest) list last).tests)
          → Ascend from (if t then units_before greatest apart place low stretch.class
          (unit_then greatest apart place (stretch_behind greatest apart place stretch list) last)
          else with_test stretch (apart_from greatest apart place (suc stretch.greatest) list last)).tests
      by true h again =
          let reached : apart ≤ stretch.greatest = leb-true apart stretch.greatest h in
          ascends-before from low stretch.class (unit_then greatest apart place (stretch_behind greatest apart place stretch list) last) le top
          (λ g most. (most, ascends-behind stretch list reached order.1))
      by false h again =
          let more : stretch.greatest < apart = leb-false apart stretch.greatest h in (order.0, again (omega (arith, more)))

pub Ascend-reader_split : (eof : Option ℕ) (greatest : ℕ) (edges : List Edge) → AreApart edges → Ascend 0 (reader_split eof greatest edges).tests
Ascend-reader_split None greatest edges apart = Ascend-edge_split greatest edges apart
Ascend-reader_split (Some unit) greatest edges apart =
    ascends-apart greatest unit (length (transition_classes edges)) 0 0 (edge_split greatest edges).tests (edge_split greatest edges).last
    (Ascend-edge_split greatest edges apart) (omega arith) (omega arith)
