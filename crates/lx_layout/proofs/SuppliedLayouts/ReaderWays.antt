-- Where the tests of a reader lead: to one of the classes of its state, to the end, or to the blocks for the unit at the end.
use Rattle.std.specs.Prelude.{◌≡◌, ℕ, suc, ◌+◌, ◌-◌, ◌≤◌, Bool, true, false, List, [], ◌∷◌, length, Option, Some, None, nat_le, nat_lt, if◌then◌else◌}
use Rattle.std.proofs.Common.{inl, inr, sym, subst, arith}
use Rattle.lx_auto.specs.declared.automaton.Edge.{Edge}
use Rattle.lx_layout.specs.SuppliedLayout.{at_end_size, size_at_end}
use Rattle.lx_layout.specs.Supplies.{Reader, Supply}
use Rattle.lx_dispatch.specs.TestTrees.{HasWay}
use Rattle.lx_dispatch.specs.TransitionClasses.{Split, Stretch, edge_split, stretches, transition_classes}
use Rattle.lx_dispatch.specs.UnitApart.{apart_from, reader_split, stretch_behind, unit_last, unit_then, units_before, with_test}
use Rattle.lx_layout.proofs.Validity.LayoutFits.{AreClasses, AreClasses-split_of, AreClasses-stretches, HaveClasses-onto, IsClass}

-- the unit at the end has a place of its own
abbrev pub end_places : Option ℕ → ℕ
end_places None = 0
end_places (Some eof) = 1

-- the classes of a split are of so many
abbrev pub AreWays : (count : ℕ) → Split → Type 0
AreWays count split = AreClasses count split.tests × IsClass count split.last

IsClass-more : (count : ℕ) (class : Option ℕ) → IsClass count class → IsClass (suc count) class
IsClass-more count None is = tt
IsClass-more count (Some place) is = omega (arith, is)

AreClasses-more : (count : ℕ) (list : List Stretch) → AreClasses count list → AreClasses (suc count) list
AreClasses-more count [] are = tt
AreClasses-more count (stretch ∷ list) are = (IsClass-more count stretch.class are.0, AreClasses-more count list are.1)

module _ (greatest apart count : ℕ) where
  ways-before : (low : ℕ) (class : Option ℕ) (split : Split) → IsClass (suc count) class → AreWays (suc count) split
      → AreWays (suc count) (units_before greatest apart count low class split)
  ways-before low class split is are = by (nat_lt low apart)
    where
      by : (t : Bool) → AreWays (suc count) (if t then with_test (record { greatest = apart - 1; class = class }) split else split)
      by true = ((is, are.0), are.1)
      by false = are

  ways-then : (list : List Stretch) (last : Option ℕ) → AreClasses (suc count) list → IsClass (suc count) last
      → AreWays (suc count) (unit_then greatest apart count list last)
  ways-then list last are is = ((omega arith, are), is)

  ways-last : (last : Option ℕ) → IsClass (suc count) last → AreWays (suc count) (unit_last greatest apart count last)
  ways-last last is = by (nat_lt apart greatest)
    where
      by : (t : Bool) → AreWays (suc count) (if t then unit_then greatest apart count [] last else record { tests = []; last = Some count })
      by true = ways-then [] last tt is
      by false = (tt, omega arith)

  ways-behind : (stretch : Stretch) (list : List Stretch) → AreClasses (suc count) (stretch ∷ list)
      → AreClasses (suc count) (stretch_behind greatest apart count stretch list)
  ways-behind stretch list are = by (nat_lt apart stretch.greatest)
    where
      by : (t : Bool) → AreClasses (suc count) (if t then stretch ∷ list else list)
      by true = are
      by false = are.1

  ways-apart : (low : ℕ) (list : List Stretch) (last : Option ℕ) → AreClasses (suc count) list → IsClass (suc count) last
      → AreWays (suc count) (apart_from greatest apart count low list last)
  ways-apart low [] last are is = ways-before low last (unit_last greatest apart count last) is (ways-last last is)
  ways-apart low (stretch ∷ list) last are is =
      by (nat_le apart stretch.greatest) (ways-apart (suc stretch.greatest) list last are.1 is)
    where
      by : (t : Bool) → AreWays (suc count) (apart_from greatest apart count (suc stretch.greatest) list last)
          → AreWays (suc count) (if t then units_before greatest apart count low stretch.class
          (unit_then greatest apart count (stretch_behind greatest apart count stretch list) last)
          else with_test stretch (apart_from greatest apart count (suc stretch.greatest) list last))
      by true again =
          ways-before low stretch.class (unit_then greatest apart count (stretch_behind greatest apart count stretch list) last) are.0
          (ways-then (stretch_behind greatest apart count stretch list) last (ways-behind stretch list are) is)
      by false again = ((are.0, again.0), again.1)

ways-edges : (greatest : ℕ) (edges : List Edge) → AreWays (length (transition_classes edges)) (edge_split greatest edges)
ways-edges greatest edges =
    AreClasses-split_of (length (transition_classes edges)) greatest (stretches (transition_classes edges) 0 edges)
    (AreClasses-stretches (transition_classes edges) 0 edges (HaveClasses-onto edges []))

ways-reader : (eof : Option ℕ) (greatest : ℕ) (edges : List Edge)
    → AreWays (end_places eof + length (transition_classes edges)) (reader_split eof greatest edges)
ways-reader None greatest edges =
    let e : length (transition_classes edges) ≡ 0 + length (transition_classes edges) = omega arith in
    subst (λ n. AreWays n (edge_split greatest edges)) e (ways-edges greatest edges)
ways-reader (Some eof) greatest edges =
    let are = ways-edges greatest edges in
    let e : suc (length (transition_classes edges)) ≡ 1 + length (transition_classes edges) = omega arith in
    subst (λ n. AreWays n (reader_split (Some eof) greatest edges)) e
    (ways-apart greatest eof (length (transition_classes edges)) 0 (edge_split greatest edges).tests (edge_split greatest edges).last
    (AreClasses-more (length (transition_classes edges)) (edge_split greatest edges).tests are.0)
    (IsClass-more (length (transition_classes edges)) (edge_split greatest edges).last are.1))

HasWay-class : (count : ℕ) (list : List Stretch) (last class : Option ℕ) → AreClasses count list → IsClass count last → HasWay list last class
    → IsClass count class
HasWay-class count [] last class are is e = subst (IsClass count) (sym e) is
HasWay-class count (stretch ∷ list) last class are is (inl e) = subst (IsClass count) (sym e) are.0
HasWay-class count (stretch ∷ list) last class are is (inr h) = HasWay-class count list last class are.1 is h

-- each way of a reader's tests is one of so many, or the end
pub reader_way : (eof : Option ℕ) (greatest : ℕ) (edges : List Edge) (class : Option ℕ)
    → HasWay (reader_split eof greatest edges).tests (reader_split eof greatest edges).last class
    → IsClass (end_places eof + length (transition_classes edges)) class
reader_way eof greatest edges class has =
    let split : Split = reader_split eof greatest edges in
    let are = ways-reader eof greatest edges in
    HasWay-class (end_places eof + length (transition_classes edges)) split.tests split.last class are.0 are.1 has

-- what reads has as many blocks for the end at least
pub places-size : (supply : Supply) → end_places supply.eof ≤ at_end_size supply
places-size supply = by supply.eof supply.tries supply.stored
  where
    by : (eof : Option ℕ) (tries : Bool) (stored : Option (Reader → ℕ)) → end_places eof ≤ size_at_end eof tries stored
    by None tries stored = omega arith
    by (Some eof) false stored = omega arith
    by (Some eof) true None = omega arith
    by (Some eof) true (Some number) = omega arith
