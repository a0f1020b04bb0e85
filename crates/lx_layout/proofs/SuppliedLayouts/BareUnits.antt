-- Where the tests of a state lead to no class, some unit has no edge.
use Rattle.std.specs.Prelude.{◌≡◌, ◌⊎◌, ℕ, suc, ◌+◌, ◌-◌, ◌<◌, ◌≤◌, Bool, true, false, List, [], ◌∷◌, length, Option, Some, None, nat_le, nat_lt, refl, if◌then◌else◌}
use Rattle.std.proofs.Common.{inl, inr, ◌∙◌, arith, leb-false}
use Rattle.lx_auto.specs.Automaton.{AreApartFrom, edge_on}
use Rattle.lx_auto.specs.declared.automaton.Edge.{Edge}
use Rattle.lx_auto.proofs.Edges.{edge_on-before, edge_on-below, edge_on-past}
use Rattle.lx_dispatch.specs.TestTrees.{HasWay}
use Rattle.lx_dispatch.specs.TransitionClasses.{Split, Stretch, before, class_place, edge_split, first_class, same_place, split_of, stretches, transition_classes}
use Rattle.lx_dispatch.specs.UnitApart.{apart_from, reader_split, stretch_behind, unit_last, unit_then, units_before, with_test}

-- some units go to no class
abbrev HasNone : Split → Type 0
HasNone split = HasWay split.tests split.last None

-- ---- without the unit at the end

-- a unit from a lowest one on has no edge
abbrev IsBare : (low greatest : ℕ) → List Edge → Type 0
IsBare low greatest edges = (unit : ℕ) × (low ≤ unit) × (unit ≤ greatest) × (edge_on edges unit ≡ None)

none-before : (stretch : Stretch) (split : Split) → HasNone (before stretch split) → (None ≡ stretch.class) ⊎ HasNone split
none-before stretch split has = by (same_place stretch.class (first_class split.tests split.last)) has
  where
    by : (t : Bool) → HasNone (if t then split else record { tests = stretch ∷ split.tests; last = split.last }) → (None ≡ stretch.class) ⊎ HasNone split
    by true has = inr has
    by false (inl e) = inl e
    by false (inr h) = inr h

none-stretches : (classes : List Edge) (low greatest : ℕ) (edges : List Edge) → AreApartFrom low edges → low ≤ greatest
    → HasNone (split_of greatest (stretches classes low edges)) → IsBare low greatest edges
none-stretches classes low greatest [] apart le has = (low, omega arith, le, refl)
none-stretches classes low greatest (edge ∷ edges) apart le has =
    by (nat_lt low edge.lo) refl has (λ more h. none-stretches classes (edge.hi + 1) greatest edges apart.2 more h)
  where
    own : Stretch
    own = record { greatest = edge.hi; class = Some (class_place classes edge) }

    rest : List Stretch
    rest = stretches classes (edge.hi + 1) edges

    behind : IsBare (edge.hi + 1) greatest edges → IsBare low greatest (edge ∷ edges)
    behind bare =
        let past = bare.1 in
        let below = apart.0 in
        let one = apart.1 in
        (bare.0, omega (arith, past, below, one), bare.2, edge_on-past edge edges bare.0 (omega (arith, past)) ∙ bare.3)

    Again : Type 0
    Again = edge.hi + 1 ≤ greatest → HasNone (split_of greatest rest) → IsBare (edge.hi + 1) greatest edges

    join : (t : Bool) → nat_le greatest edge.hi ≡ t
        → HasNone (if t then record { tests = []; last = Some (class_place classes edge) } else before own (split_of greatest rest))
        → Again → IsBare low greatest (edge ∷ edges)
    join true e has again = absurd (cc)
    join false e has again = either (none-before own (split_of greatest rest) has)
      where
        either : (None ≡ own.class) ⊎ HasNone (split_of greatest rest) → IsBare low greatest (edge ∷ edges)
        either (inl z) = absurd (cc)
        either (inr h) = let lt = leb-false greatest edge.hi e in behind (again (omega (arith, lt)) h)

    by : (t : Bool) → nat_lt low edge.lo ≡ t
        → HasNone (split_of greatest (if t then record { greatest = edge.lo - 1; class = None } ∷ own ∷ rest else own ∷ rest))
        → Again → IsBare low greatest (edge ∷ edges)
    by true e has again =
        let lt : low < edge.lo = grind (arith, e) in
        let one = apart.1 in
        (low, omega arith, le, edge_on-below edge edges low lt ∙ edge_on-before (edge.hi + 1) edges low apart.2 (omega (arith, lt, one)))
    by false e has again = join (nat_le greatest edge.hi) refl has again

-- ---- with it

module _ (greatest apart place : ℕ) where
  none-units_before : (low : ℕ) (class : Option ℕ) (split : Split) → HasNone (units_before greatest apart place low class split)
      → (None ≡ class) ⊎ HasNone split
  none-units_before low class split has = by (nat_lt low apart) has
    where
      by : (t : Bool) → HasNone (if t then with_test (record { greatest = apart - 1; class = class }) split else split) → (None ≡ class) ⊎ HasNone split
      by true (inl e) = inl e
      by true (inr h) = inr h
      by false h = inr h

  none-unit_then : (list : List Stretch) (last : Option ℕ) → HasNone (unit_then greatest apart place list last) → HasWay list last None
  none-unit_then list last (inl e) = absurd (cc)
  none-unit_then list last (inr h) = h

  none-unit_last : (last : Option ℕ) → HasNone (unit_last greatest apart place last) → None ≡ last
  none-unit_last last has = by (nat_lt apart greatest) has
    where
      by : (t : Bool) → HasNone (if t then unit_then greatest apart place [] last else record { tests = []; last = Some place }) → None ≡ last
      by true has = none-unit_then [] last has
      by false e = absurd (cc)

  none-behind : (stretch : Stretch) (list : List Stretch) (last : Option ℕ) → HasWay (stretch_behind greatest apart place stretch list) last None
      → HasWay (stretch ∷ list) last None
  none-behind stretch list last has = by (nat_lt apart stretch.greatest) has
    where
      by : (t : Bool) → HasWay (if t then stretch ∷ list else list) last None → HasWay (stretch ∷ list) last None
      by true has = has
      by false has = inr has

  none-apart : (low : ℕ) (list : List Stretch) (last : Option ℕ) → HasNone (apart_from greatest apart place low list last) → HasWay list last None
  none-apart low [] last has = either (none-units_before low last (unit_last greatest apart place last) has)
    where
      either : (None ≡ last) ⊎ HasNone (unit_last greatest apart place last) → None ≡ last
      either (inl e) = e
      either (inr h) = none-unit_last last h
  none-apart low (stretch ∷ list) last has = by (nat_le apart stretch.greatest) has (λ h. none-apart (suc stretch.greatest) list last h)
    where
      rest : Split
      rest = unit_then greatest apart place (stretch_behind greatest apart place stretch list) last

      either : (None ≡ stretch.class) ⊎ HasNone rest → HasWay (stretch ∷ list) last None
      either (inl e) = inl e
      either (inr h) = none-behind stretch list last (none-unit_then (stretch_behind greatest apart place stretch list) last h)

      by : (t : Bool)
          → HasNone (if t then units_before greatest apart place low stretch.class rest
          else with_test stretch (apart_from greatest apart place (suc stretch.greatest) list last))
          → (HasNone (apart_from greatest apart place (suc stretch.greatest) list last) → HasWay list last None) → HasWay (stretch ∷ list) last None
      by true has again = either (none-units_before low stretch.class rest has)
      by false (inl e) again = inl e
      by false (inr h) again = inr (again h)

-- ---- of what reads

pub bare_unit : (eof : Option ℕ) (greatest : ℕ) (edges : List Edge) → AreApartFrom 0 edges
    → HasWay (reader_split eof greatest edges).tests (reader_split eof greatest edges).last None
    → (unit : ℕ) × (unit ≤ greatest) × (edge_on edges unit ≡ None)
bare_unit eof greatest edges apart has = by eof has
  where
    plain : HasNone (edge_split greatest edges) → (unit : ℕ) × (unit ≤ greatest) × (edge_on edges unit ≡ None)
    plain h = let bare = none-stretches (transition_classes edges) 0 greatest edges apart (omega arith) h in (bare.0, bare.2, bare.3)

    by : (eof : Option ℕ) → HasWay (reader_split eof greatest edges).tests (reader_split eof greatest edges).last None
        → (unit : ℕ) × (unit ≤ greatest) × (edge_on edges unit ≡ None)
    by None has = plain has
    by (Some unit) has =
        plain (none-apart greatest unit (length (transition_classes edges)) 0 (edge_split greatest edges).tests (edge_split greatest edges).last has)
