-- The tests of a state where the unit at the end of the input goes a way of its own.
use Rattle.std.specs.Prelude.{ℕ, suc, ◌-◌, List, [], ◌∷◌, Option, Some, None, length, nat_le, nat_lt, if◌then◌else◌}
use Rattle.lx_auto.specs.declared.automaton.Edge.{Edge}
use Rattle.lx_dispatch.specs.TransitionClasses.{Split, Stretch, edge_split, transition_classes}

-- a stretch before others
abbrev pub with_test : Stretch → Split → Split
with_test stretch split = record { tests = stretch ∷ split.tests; last = split.last }

-- the stretch of the units from a lowest one on that come before a unit, if there are some; and that of the unit itself, whose class is at a place
abbrev pub tests_before : (apart low : ℕ) → (class : Option ℕ) → List Stretch
tests_before apart low class = if nat_lt low apart then record { greatest = apart - 1; class = class } ∷ [] else []

abbrev pub unit_stretch : (apart place : ℕ) → Stretch
unit_stretch apart place = record { greatest = apart; class = Some place }

-- One unit is taken out of stretches, and goes as the class at some place. It is a stretch of its own, whatever its neighbours are.
module _ (greatest apart place : ℕ) where
  -- the units from a lowest one on that come before it
  abbrev pub units_before : (low : ℕ) → (class : Option ℕ) → Split → Split
  units_before low class split =
      if nat_lt low apart then with_test (record { greatest = apart - 1; class = class }) split else split

  -- the unit itself, and then the rest of its stretch
  abbrev pub stretch_behind : Stretch → List Stretch → List Stretch
  stretch_behind stretch stretches = if nat_lt apart stretch.greatest then stretch ∷ stretches else stretches

  abbrev pub unit_then : List Stretch → (last : Option ℕ) → Split
  unit_then stretches last = with_test (record { greatest = apart; class = Some place }) (record { tests = stretches; last = last })

  -- among the units behind the last stretch; where it is the greatest one it needs no test
  abbrev pub unit_last : (last : Option ℕ) → Split
  unit_last last = if nat_lt apart greatest then unit_then [] last else record { tests = []; last = Some place }

  abbrev pub apart_from : (low : ℕ) → List Stretch → (last : Option ℕ) → Split
  apart_from low [] last = units_before low last (unit_last last)
  apart_from low (stretch ∷ stretches) last =
      if nat_le apart stretch.greatest then units_before low stretch.class (unit_then (stretch_behind stretch stretches) last)
      else with_test stretch (apart_from (suc stretch.greatest) stretches last)

-- the tests of a state for units up to a greatest one; the unit at the end, if one is, has the place behind those of the classes
abbrev pub reader_split : (eof : Option ℕ) → (greatest : ℕ) → List Edge → Split
reader_split None greatest edges = edge_split greatest edges
reader_split (Some unit) greatest edges =
    apart_from greatest unit (length (transition_classes edges)) 0 (edge_split greatest edges).tests (edge_split greatest edges).last
