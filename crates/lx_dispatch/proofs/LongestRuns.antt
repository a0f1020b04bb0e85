-- The tests of a state end the longest runs of units that go one way.
use Rattle.std.specs.Prelude.{◌≡◌, ◌≢◌, ◌⊎◌, ℕ, suc, ◌+◌, ◌-◌, ◌<◌, ◌≤◌, Bool, true, false, max, List, [], ◌∷◌, length, Option, Some, None, nat_le, nat_lt, ◌==◌, refl, if◌then◌else◌}
use Rattle.std.specs.List.{AllByRecursion}
use Rattle.std.proofs.Common.{inl, inr, sym, ap, subst, ◌∙◌, arith, eqb-true, eq-eqb, le-leb, leb-true, leb-false, true≢false}
use Rattle.lx_auto.specs.Automaton.{AreApart, AreApartFrom, edge_on}
use Rattle.lx_auto.specs.declared.automaton.Edge.{Edge}
use Rattle.lx_dispatch.specs.Dispatch.{top_of}
use Rattle.lx_dispatch.specs.Runs.{AreDifferent, AreLongestRuns, EachHasUnit, HasUnit, is_read, reader_way}
use Rattle.lx_dispatch.specs.TestTrees.{split_class}
use Rattle.lx_dispatch.specs.TransitionClasses.{Split, Stretch, before, class_place, edge_class, edge_split, first_class, has_class, same_place, split_of, stretches, transition_classes}
use Rattle.lx_dispatch.specs.UnitApart.{apart_from, reader_split, stretch_behind, unit_last, unit_then, units_before, with_test}
use Rattle.lx_dispatch.proofs.ApartWays.{apart_others, apart_own}
use Rattle.lx_dispatch.proofs.ClassLists.{class_place-found, has_class-all}
use Rattle.lx_dispatch.proofs.Splits.{class_on-edge_split}

-- ---- stretches that end with ever greater units

-- from a lowest unit on, each stretch has a unit
abbrev Rise : (low : ℕ) → List Stretch → Type 0
Rise low [] = Unit {0}
Rise low (stretch ∷ list) = (low ≤ stretch.greatest) × Rise (suc stretch.greatest) list

-- so have those behind the last one, up to a greatest unit
abbrev pub RiseTo : (top low : ℕ) → List Stretch → Type 0
RiseTo top low [] = low ≤ top
RiseTo top low (stretch ∷ list) = (low ≤ stretch.greatest) × RiseTo top (suc stretch.greatest) list

Rise-earlier : (low high : ℕ) (list : List Stretch) → low ≤ high → Rise high list → Rise low list
Rise-earlier low high [] le rise = tt
Rise-earlier low high (stretch ∷ list) le rise = (omega (arith, le, rise.0), rise.1)

RiseTo-earlier : (top low high : ℕ) (list : List Stretch) → low ≤ high → RiseTo top high list → RiseTo top low list
RiseTo-earlier top low high [] le rise = omega (arith, le, rise)
RiseTo-earlier top low high (stretch ∷ list) le rise = (omega (arith, le, rise.0), rise.1)

pub RiseTo-within : (top low : ℕ) (list : List Stretch) → RiseTo top low list → low ≤ top
RiseTo-within top low [] rise = rise
RiseTo-within top low (stretch ∷ list) rise =
    let more = RiseTo-within top (suc stretch.greatest) list rise.1 in omega (arith, rise.0, more)

pub rise-each : (counts : ℕ → Bool) (top low : ℕ) (list : List Stretch) → EachHasUnit counts top low list → RiseTo top low list
rise-each counts top low [] each = omega (arith, each.1, each.2)
rise-each counts top low (stretch ∷ list) each =
    (omega (arith, each.0.1, each.0.2), rise-each counts top (suc stretch.greatest) list each.1)

Rise-stretches : (classes : List Edge) (low : ℕ) (edges : List Edge) → AreApartFrom low edges → Rise low (stretches classes low edges)
Rise-stretches classes low [] apart = tt
Rise-stretches classes low (edge ∷ edges) apart = by (nat_lt low edge.lo) refl (Rise-stretches classes (edge.hi + 1) edges apart.2)
  where
    by : (t : Bool) → nat_lt low edge.lo ≡ t → Rise (edge.hi + 1) (stretches classes (edge.hi + 1) edges)
        → Rise low (if t then record { greatest = edge.lo - 1; class = None } ∷ record
        { greatest = edge.hi; class = Some (class_place classes edge) } ∷ stretches classes (edge.hi + 1) edges
        else record { greatest = edge.hi; class = Some (class_place classes edge) } ∷ stretches classes (edge.hi + 1) edges)
    by true h again =
        let below : low < edge.lo = grind (arith, h) in (
          omega (arith, below),
          (
            omega (arith, below, apart.1),
            Rise-earlier (suc edge.hi) (edge.hi + 1) (stretches classes (edge.hi + 1) edges) (omega arith) again,
          ),
        )
    by false h again =
        (omega (arith, apart.0, apart.1), Rise-earlier (suc edge.hi) (edge.hi + 1) (stretches classes (edge.hi + 1) edges) (omega arith) again)

RiseTo-split_of : (greatest low : ℕ) (list : List Stretch) → Rise low list → low ≤ greatest → RiseTo greatest low (split_of greatest list).tests
RiseTo-split_of greatest low [] rise le = le
RiseTo-split_of greatest low (stretch ∷ list) rise le =
    by (nat_le greatest stretch.greatest) refl (λ more. RiseTo-split_of greatest (suc stretch.greatest) list rise.1 more)
  where
    join : (t : Bool) → RiseTo greatest (suc stretch.greatest) (split_of greatest list).tests
        → RiseTo greatest low (if t then split_of greatest list else record
        { tests = stretch ∷ (split_of greatest list).tests; last = (split_of greatest list).last }).tests
    join true again = RiseTo-earlier greatest low (suc stretch.greatest) (split_of greatest list).tests (omega (arith, rise.0)) again
    join false again = (rise.0, again)

    by : (t : Bool) → nat_le greatest stretch.greatest ≡ t
        → (suc stretch.greatest ≤ greatest → RiseTo greatest (suc stretch.greatest) (split_of greatest list).tests)
        → RiseTo greatest low (if t then record { tests = []; last = stretch.class } else before stretch (split_of greatest list)).tests
    by true h again = le
    by false h again =
        join (same_place stretch.class (first_class (split_of greatest list).tests (split_of greatest list).last))
        (again (leb-false greatest stretch.greatest h))

RiseTo-edge_split : (greatest : ℕ) (edges : List Edge) → AreApart edges → RiseTo greatest 0 (edge_split greatest edges).tests
RiseTo-edge_split greatest edges apart =
    RiseTo-split_of greatest 0 (stretches (transition_classes edges) 0 edges) (Rise-stretches (transition_classes edges) 0 edges apart) (omega arith)

-- ---- neighbours of different ways

pub same_place-itself : (place : Option ℕ) → same_place place place ≡ true
same_place-itself None = refl
same_place-itself (Some place) = eq-eqb place place refl

pub same_place-other : (place other : Option ℕ) → same_place place other ≡ false → place ≢ other
same_place-other place other e = λ same. true≢false (sym (same_place-itself place) ∙ ap (λ way. same_place place way) same ∙ e)

AreDifferent-split_of : (greatest : ℕ) (list : List Stretch) → AreDifferent (split_of greatest list).tests (split_of greatest list).last
AreDifferent-split_of greatest [] = tt
AreDifferent-split_of greatest (stretch ∷ list) = by (nat_le greatest stretch.greatest) (AreDifferent-split_of greatest list)
  where
    join : (t : Bool) → same_place stretch.class (first_class (split_of greatest list).tests (split_of greatest list).last) ≡ t
        → AreDifferent (split_of greatest list).tests (split_of greatest list).last
        → AreDifferent (if t then split_of greatest list else record
        { tests = stretch ∷ (split_of greatest list).tests; last = (split_of greatest list).last }).tests
        (if t then split_of greatest list else record
        { tests = stretch ∷ (split_of greatest list).tests; last = (split_of greatest list).last }).last
    join true e again = again
    join false e again =
        (same_place-other stretch.class (first_class (split_of greatest list).tests (split_of greatest list).last) e, again)

    by : (t : Bool) → AreDifferent (split_of greatest list).tests (split_of greatest list).last
        → AreDifferent (if t then record { tests = []; last = stretch.class } else before stretch (split_of greatest list)).tests
        (if t then record { tests = []; last = stretch.class } else before stretch (split_of greatest list)).last
    by true again = tt
    by false again = join (same_place stretch.class (first_class (split_of greatest list).tests (split_of greatest list).last)) refl again

-- ---- stretches of which none goes some way

module _ (way : Option ℕ) where
  abbrev Avoid : List Stretch → (last : Option ℕ) → Type 0
  Avoid [] last = last ≢ way
  Avoid (stretch ∷ list) last = (stretch.class ≢ way) × Avoid list last

  Avoid-first : (list : List Stretch) (last : Option ℕ) → Avoid list last → first_class list last ≢ way
  Avoid-first [] last avoid = avoid
  Avoid-first (stretch ∷ list) last avoid = avoid.0

  Avoid-split_of : (greatest : ℕ) (list : List Stretch) → Avoid list None → Avoid (split_of greatest list).tests (split_of greatest list).last
  Avoid-split_of greatest [] avoid = avoid
  Avoid-split_of greatest (stretch ∷ list) avoid = by (nat_le greatest stretch.greatest) (Avoid-split_of greatest list avoid.1)
    where
      join : (t : Bool) → Avoid (split_of greatest list).tests (split_of greatest list).last
          → Avoid (if t then split_of greatest list else record
          { tests = stretch ∷ (split_of greatest list).tests; last = (split_of greatest list).last }).tests
          (if t then split_of greatest list else record
          { tests = stretch ∷ (split_of greatest list).tests; last = (split_of greatest list).last }).last
      join true again = again
      join false again = (avoid.0, again)

      by : (t : Bool) → Avoid (split_of greatest list).tests (split_of greatest list).last
          → Avoid (if t then record { tests = []; last = stretch.class } else before stretch (split_of greatest list)).tests
          (if t then record { tests = []; last = stretch.class } else before stretch (split_of greatest list)).last
      by true again = avoid.0
      by false again = join (same_place stretch.class (first_class (split_of greatest list).tests (split_of greatest list).last)) again

none-other : (place : ℕ) → let none : Option ℕ = None in none ≢ Some place
none-other place = λ same. cc

Avoid-stretches : (classes : List Edge) (low : ℕ) (edges : List Edge) → AllByRecursion (λ edge. has_class classes edge ≡ true) edges
    → Avoid (Some (length classes)) (stretches classes low edges) None
Avoid-stretches classes low [] has = none-other (length classes)
Avoid-stretches classes low (edge ∷ edges) has = by (nat_lt low edge.lo) (Avoid-stretches classes (edge.hi + 1) edges has.1)
  where
    own : Some (class_place classes edge) ≢ Some (length classes)
    own = λ same. let e : class_place classes edge ≡ length classes = cc in
        let within = class_place-found classes edge has.0 in omega (arith, e, within)

    by : (t : Bool) → Avoid (Some (length classes)) (stretches classes (edge.hi + 1) edges) None
        → Avoid (Some (length classes)) (if t then record { greatest = edge.lo - 1; class = None } ∷ record
        { greatest = edge.hi; class = Some (class_place classes edge) } ∷ stretches classes (edge.hi + 1) edges
        else record { greatest = edge.hi; class = Some (class_place classes edge) } ∷ stretches classes (edge.hi + 1) edges) None
    by true again = (none-other (length classes), (own, again))
    by false again = (own, again)

-- no edge is of the class of the unit at the end
Avoid-edge_split : (greatest : ℕ) (edges : List Edge)
    → Avoid (Some (length (transition_classes edges))) (edge_split greatest edges).tests (edge_split greatest edges).last
Avoid-edge_split greatest edges =
    Avoid-split_of (Some (length (transition_classes edges))) greatest (stretches (transition_classes edges) 0 edges)
    (Avoid-stretches (transition_classes edges) 0 edges (has_class-all edges []))

-- ---- a unit that is taken out

is_read-own : (eof greatest : ℕ) → is_read (Some eof) greatest eof ≡ true
is_read-own eof greatest = ap (λ t. if t then true else nat_le eof greatest) (eq-eqb eof eof refl)

is_read-within : (eof greatest unit : ℕ) → unit ≤ greatest → is_read (Some eof) greatest unit ≡ true
is_read-within eof greatest unit le = by (unit == eof) (le-leb unit greatest le)
  where
    by : (t : Bool) → nat_le unit greatest ≡ true → (if t then true else nat_le unit greatest) ≡ true
    by true h = refl
    by false h = h

module _ (greatest apart place : ℕ) where
  abbrev counts : ℕ → Bool
  counts = is_read (Some apart) greatest

  abbrev top : ℕ
  top = max apart greatest

  -- how a unit is taken out of stretches, where it is known whether it is in the first one
  abbrev chosen : (low : ℕ) → Stretch → List Stretch → (last : Option ℕ) → Bool → Split
  chosen low stretch list last t = if t then units_before greatest apart place low stretch.class
      (unit_then greatest apart place (stretch_behind greatest apart place stretch list) last)
      else with_test stretch (apart_from greatest apart place (suc stretch.greatest) list last)

  has-low : (low high : ℕ) → low ≤ greatest → low ≤ high → HasUnit counts top low high
  has-low low high le within = (low, omega arith, within, is_read-within apart greatest low le)

  has-own : (low high : ℕ) → low ≤ apart → apart ≤ high → HasUnit counts top low high
  has-own low high le within = (apart, le, within, is_read-own apart greatest)

  each-rising : (low : ℕ) (list : List Stretch) → RiseTo greatest low list → EachHasUnit counts top low list
  each-rising low [] rise = has-low low top rise (omega (arith, rise))
  each-rising low (stretch ∷ list) rise =
      let more = RiseTo-within greatest (suc stretch.greatest) list rise.1 in
      (has-low low stretch.greatest (omega (arith, rise.0, more)) rise.0, each-rising (suc stretch.greatest) list rise.1)

  each-before : (low : ℕ) (class : Option ℕ) (split : Split) → low ≤ greatest → low ≤ apart → EachHasUnit counts top apart split.tests
      → EachHasUnit counts top low (units_before greatest apart place low class split).tests
  each-before low class split within le each = by (nat_lt low apart) refl
    where
      by : (t : Bool) → nat_lt low apart ≡ t
          → EachHasUnit counts top low (if t then with_test (record { greatest = apart - 1; class = class }) split else split).tests
      by true h =
          let less : low < apart = grind (arith, h) in
          let next : apart ≡ suc (apart - 1) = omega (arith, less) in
          (has-low low (apart - 1) within (omega (arith, less)), subst (λ n. EachHasUnit counts top n split.tests) next each)
      by false h =
          let most : apart ≤ low = grind (arith, h) in
          let same : apart ≡ low = omega (arith, most, le) in
          subst (λ n. EachHasUnit counts top n split.tests) same each

  each-last : (last : Option ℕ) → EachHasUnit counts top apart (unit_last greatest apart place last).tests
  each-last last = by (nat_lt apart greatest) refl
    where
      by : (t : Bool) → nat_lt apart greatest ≡ t
          → EachHasUnit counts top apart (if t then unit_then greatest apart place [] last else record { tests = []; last = Some place }).tests
      by true h =
          let less : apart < greatest = grind (arith, h) in
          (has-own apart apart (omega arith) (omega arith), has-low (suc apart) top less (omega (arith, less)))
      by false h = has-own apart top (omega arith) (omega arith)

  each-behind : (stretch : Stretch) (list : List Stretch) → apart ≤ stretch.greatest → RiseTo greatest (suc stretch.greatest) list
      → EachHasUnit counts top (suc apart) (stretch_behind greatest apart place stretch list)
  each-behind stretch list le rise = each-rising (suc apart) (stretch_behind greatest apart place stretch list) (by (nat_lt apart stretch.greatest) refl)
    where
      by : (t : Bool) → nat_lt apart stretch.greatest ≡ t → RiseTo greatest (suc apart) (if t then stretch ∷ list else list)
      by true h = let less : apart < stretch.greatest = grind (arith, h) in (less, rise)
      by false h = RiseTo-earlier greatest (suc apart) (suc stretch.greatest) list (omega (arith, le)) rise

  each-apart : (low : ℕ) (list : List Stretch) (last : Option ℕ) → RiseTo greatest low list → low ≤ apart
      → EachHasUnit counts top low (apart_from greatest apart place low list last).tests
  each-apart low [] last rise le = each-before low last (unit_last greatest apart place last) rise le (each-last last)
  each-apart low (stretch ∷ list) last rise le =
      by (nat_le apart stretch.greatest) refl (λ more. each-apart (suc stretch.greatest) list last rise.1 more)
    where
      within : low ≤ greatest
      within = let more = RiseTo-within greatest (suc stretch.greatest) list rise.1 in omega (arith, rise.0, more)

      by : (t : Bool) → nat_le apart stretch.greatest ≡ t
          → (suc stretch.greatest ≤ apart → EachHasUnit counts top (suc stretch.greatest) (apart_from greatest apart place (suc stretch.greatest) list last).tests)
          → EachHasUnit counts top low (chosen low stretch list last t).tests
      by true h again =
          let reached : apart ≤ stretch.greatest = leb-true apart stretch.greatest h in
          each-before low stretch.class (unit_then greatest apart place (stretch_behind greatest apart place stretch list) last) within le
          (has-own apart apart (omega arith) (omega arith), each-behind stretch list reached rise.1)
      by false h again = (has-low low stretch.greatest within rise.0, again (leb-false apart stretch.greatest h))

  -- neighbours
  differ-before : (low : ℕ) (class : Option ℕ) (split : Split) → class ≢ first_class split.tests split.last → AreDifferent split.tests split.last
      → AreDifferent (units_before greatest apart place low class split).tests (units_before greatest apart place low class split).last
  differ-before low class split other differ = by (nat_lt low apart)
    where
      by : (t : Bool) → AreDifferent (if t then with_test (record { greatest = apart - 1; class = class }) split else split).tests
          (if t then with_test (record { greatest = apart - 1; class = class }) split else split).last
      by true = (other, differ)
      by false = differ

  -- the first units go as before, or are the unit itself
  first-before : (low : ℕ) (class : Option ℕ) (split : Split) → first_class split.tests split.last ≡ Some place
      → (first_class (units_before greatest apart place low class split).tests (units_before greatest apart place low class split).last ≡ class)
      ⊎ (first_class (units_before greatest apart place low class split).tests (units_before greatest apart place low class split).last ≡ Some place)
  first-before low class split own = by (nat_lt low apart)
    where
      by : (t : Bool)
          → (first_class (if t then with_test (record { greatest = apart - 1; class = class }) split else split).tests
          (if t then with_test (record { greatest = apart - 1; class = class }) split else split).last ≡ class)
          ⊎ (first_class (if t then with_test (record { greatest = apart - 1; class = class }) split else split).tests
          (if t then with_test (record { greatest = apart - 1; class = class }) split else split).last ≡ Some place)
      by true = inl refl
      by false = inr own

  first-last : (last : Option ℕ)
      → first_class (unit_last greatest apart place last).tests (unit_last greatest apart place last).last ≡ Some place
  first-last last = by (nat_lt apart greatest)
    where
      by : (t : Bool) → first_class (if t then unit_then greatest apart place [] last else record { tests = []; last = Some place }).tests
          (if t then unit_then greatest apart place [] last else record { tests = []; last = Some place }).last ≡ Some place
      by true = refl
      by false = refl

  first-apart : (low : ℕ) (list : List Stretch) (last : Option ℕ)
      → (first_class (apart_from greatest apart place low list last).tests (apart_from greatest apart place low list last).last ≡ first_class list last)
      ⊎ (first_class (apart_from greatest apart place low list last).tests (apart_from greatest apart place low list last).last ≡ Some place)
  first-apart low [] last = first-before low last (unit_last greatest apart place last) (first-last last)
  first-apart low (stretch ∷ list) last = by (nat_le apart stretch.greatest)
    where
      by : (t : Bool) → (first_class (chosen low stretch list last t).tests (chosen low stretch list last t).last ≡ stretch.class) ⊎ (first_class (chosen low stretch list last t).tests (chosen low stretch list last t).last ≡ Some place)
      by true = first-before low stretch.class (unit_then greatest apart place (stretch_behind greatest apart place stretch list) last) refl
      by false = inl refl

  differ-last : (last : Option ℕ) → last ≢ Some place
      → AreDifferent (unit_last greatest apart place last).tests (unit_last greatest apart place last).last
  differ-last last other = by (nat_lt apart greatest)
    where
      by : (t : Bool) → AreDifferent (if t then unit_then greatest apart place [] last else record { tests = []; last = Some place }).tests
          (if t then unit_then greatest apart place [] last else record { tests = []; last = Some place }).last
      by true = (λ same. other (sym same), tt)
      by false = tt

  differ-then : (stretch : Stretch) (list : List Stretch) (last : Option ℕ) → Avoid (Some place) (stretch ∷ list) last → AreDifferent (stretch ∷ list) last
      → AreDifferent (unit_then greatest apart place (stretch_behind greatest apart place stretch list) last).tests last
  differ-then stretch list last avoid differ = by (nat_lt apart stretch.greatest)
    where
      by : (t : Bool) → (Some place ≢ first_class (if t then stretch ∷ list else list) last) × AreDifferent (if t then stretch ∷ list else list) last
      by true = (λ same. avoid.0 (sym same), differ)
      by false = (λ same. Avoid-first (Some place) list last avoid.1 (sym same), differ.1)

  differ-apart : (low : ℕ) (list : List Stretch) (last : Option ℕ) → Avoid (Some place) list last → AreDifferent list last
      → AreDifferent (apart_from greatest apart place low list last).tests (apart_from greatest apart place low list last).last
  differ-apart low [] last avoid differ =
      differ-before low last (unit_last greatest apart place last) (λ same. avoid (same ∙ first-last last)) (differ-last last avoid)
  differ-apart low (stretch ∷ list) last avoid differ =
      by (nat_le apart stretch.greatest) (differ-apart (suc stretch.greatest) list last avoid.1 differ.1)
    where
      other : (way : Option ℕ) → (way ≡ first_class list last) ⊎ (way ≡ Some place) → stretch.class ≢ way
      other way (inl e) = λ same. differ.0 (same ∙ e)
      other way (inr e) = λ same. avoid.0 (same ∙ e)

      by : (t : Bool)
          → AreDifferent (apart_from greatest apart place (suc stretch.greatest) list last).tests
          (apart_from greatest apart place (suc stretch.greatest) list last).last
          → AreDifferent (chosen low stretch list last t).tests (chosen low stretch list last t).last
      by true again =
          differ-before low stretch.class (unit_then greatest apart place (stretch_behind greatest apart place stretch list) last)
          avoid.0 (differ-then stretch list last avoid differ)
      by false again = (
        other (first_class (apart_from greatest apart place (suc stretch.greatest) list last).tests
            (apart_from greatest apart place (suc stretch.greatest) list last).last) (first-apart (suc stretch.greatest) list last),
        again,
      )

-- ---- the split of a reader

each-read : (greatest low : ℕ) (list : List Stretch) → RiseTo greatest low list → EachHasUnit (is_read None greatest) greatest low list
each-read greatest low [] rise = (low, omega arith, rise, le-leb low greatest rise)
each-read greatest low (stretch ∷ list) rise =
    let more = RiseTo-within greatest (suc stretch.greatest) list rise.1 in
    ((low, omega arith, rise.0, le-leb low greatest (omega (arith, rise.0, more))), each-read greatest (suc stretch.greatest) list rise.1)

pub longest-reader_split : (eof : Option ℕ) (greatest : ℕ) (edges : List Edge) → AreApart edges
    → AreLongestRuns (is_read eof greatest) (top_of eof greatest) (reader_split eof greatest edges)
longest-reader_split None greatest edges apart = record {
  each = each-read greatest 0 (edge_split greatest edges).tests (RiseTo-edge_split greatest edges apart);
  different = AreDifferent-split_of greatest (stretches (transition_classes edges) 0 edges);
}
longest-reader_split (Some eof) greatest edges apart =
    let place = length (transition_classes edges) in
    let split = edge_split greatest edges in record {
      each = each-apart greatest eof place 0 split.tests split.last (RiseTo-edge_split greatest edges apart) (omega arith);
      different = differ-apart greatest eof place 0 split.tests split.last (Avoid-edge_split greatest edges)
          (AreDifferent-split_of greatest (stretches (transition_classes edges) 0 edges));
    }

pub split_class-reader_split : (eof : Option ℕ) (greatest : ℕ) (edges : List Edge) (unit : ℕ) → AreApart edges → is_read eof greatest unit ≡ true
    → split_class (reader_split eof greatest edges) unit ≡ reader_way eof edges unit
split_class-reader_split None greatest edges unit apart read = class_on-edge_split greatest edges unit apart (leb-true unit greatest read)
split_class-reader_split (Some eof) greatest edges unit apart read = by (unit == eof) refl read
  where
    by : (t : Bool) → (unit == eof) ≡ t → (if t then true else nat_le unit greatest) ≡ true
        → split_class (reader_split (Some eof) greatest edges) unit
        ≡ (if t then Some (length (transition_classes edges)) else edge_class (transition_classes edges) (edge_on edges unit))
    by true is read =
        ap (λ n. split_class (reader_split (Some eof) greatest edges) n) (eqb-true unit eof is)
        ∙ apart_own greatest eof (length (transition_classes edges)) 0 (edge_split greatest edges).tests (edge_split greatest edges).last
    by false is read =
        let le : unit ≤ greatest = leb-true unit greatest read in
        apart_others greatest eof (length (transition_classes edges)) 0 (edge_split greatest edges).tests (edge_split greatest edges).last unit (omega arith) le
        (λ same. true≢false (sym (eq-eqb unit eof same) ∙ is))
        ∙ class_on-edge_split greatest edges unit apart le
