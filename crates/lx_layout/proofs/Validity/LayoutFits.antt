-- Each block of a layout ends once, and its jumps go to blocks that are there.
use Rattle.std.specs.Prelude.{◌≡◌, ℕ, ◌+◌, ◌-◌, ◌<◌, List, [], ◌∷◌, ◌++◌, length, Option, Some, None, Bool, true, false, nat_le, nat_lt, refl, if◌then◌else◌}
use Rattle.std.proofs.lemmas.Option.{slice_get_within}
use Rattle.std.specs.List.{AllByRecursion}
use Rattle.lx_auto.specs.declared.automaton.Edge.{Edge}
use Rattle.lx_dispatch.specs.TransitionClasses.{Stretch, before, first_class, has_class, same_place, split_of, stretches, class_place, classes_onto}
use Rattle.lx_dispatch.proofs.ClassLists.{has_class-last, has_class-onto, class_found}

-- ---- transition classes

-- each edge's class is found
abbrev pub HaveClasses : List Edge → List Edge → Type 0
HaveClasses classes [] = Unit {0}
HaveClasses classes (edge ∷ edges) = (has_class classes edge ≡ true) × HaveClasses classes edges

pub HaveClasses-onto : (edges found : List Edge) → HaveClasses (classes_onto found edges) edges
HaveClasses-onto [] found = tt
HaveClasses-onto (edge ∷ edges) found = by (has_class found edge) refl (λ classes. HaveClasses-onto edges classes)
  where
    by : (t : Bool) → has_class found edge ≡ t → ((classes : List Edge) → HaveClasses (classes_onto classes edges) edges)
        → HaveClasses (classes_onto (if t then found else found ++ edge ∷ []) edges) (edge ∷ edges)
    by true e again = (has_class-onto edges found edge e, again found)
    by false e again = (has_class-onto edges (found ++ edge ∷ []) edge (has_class-last found edge), again (found ++ edge ∷ []))

-- a class is one of so many, if there is one
abbrev pub IsClass : (count : ℕ) → Option ℕ → Type 0
IsClass count None = Unit {0}
IsClass count (Some place) = place < count

abbrev pub AreClasses : (count : ℕ) → List Stretch → Type 0
AreClasses count list = AllByRecursion (λ (stretch : Stretch). IsClass count stretch.class) list

pub AreClasses-stretches : (classes : List Edge) (low : ℕ) (edges : List Edge) → HaveClasses classes edges → AreClasses (length classes) (stretches classes low edges)
AreClasses-stretches classes low [] h = tt
AreClasses-stretches classes low (edge ∷ edges) h = by (nat_lt low edge.lo) (AreClasses-stretches classes (edge.hi + 1) edges h.1)
  where
    own : class_place classes edge < length classes
    own = let f = class_found classes edge h.0 in slice_get_within classes (class_place classes edge) f.0 f.1

    by : (t : Bool) → AreClasses (length classes) (stretches classes (edge.hi + 1) edges)
        → AreClasses (length classes) (if t then record { greatest = edge.lo - 1; class = None } ∷ record {
          greatest = edge.hi;
          class = Some
              (class_place classes edge);
        } ∷ stretches classes (edge.hi + 1) edges
        else record { greatest = edge.hi; class = Some (class_place classes edge) } ∷ stretches classes (edge.hi + 1) edges)
    by true again = (tt, (own, again))
    by false again = (own, again)

pub AreClasses-split_of : (count greatest : ℕ) (list : List Stretch) → AreClasses count list
    → AreClasses count (split_of greatest list).tests × IsClass count (split_of greatest list).last
AreClasses-split_of count greatest [] h = (tt, tt)
AreClasses-split_of count greatest (stretch ∷ list) h = by (nat_le greatest stretch.greatest) (AreClasses-split_of count greatest list h.1)
  where
    join : (t : Bool) → AreClasses count (split_of greatest list).tests × IsClass count (split_of greatest list).last
        → AreClasses count (if t then split_of greatest list else record
        { tests = stretch ∷ (split_of greatest list).tests; last = (split_of greatest list).last }).tests
        × IsClass count (if t then split_of greatest list else record
        { tests = stretch ∷ (split_of greatest list).tests; last = (split_of greatest list).last }).last
    join true again = again
    join false again = ((h.0, again.0), again.1)

    by : (t : Bool) → AreClasses count (split_of greatest list).tests × IsClass count (split_of greatest list).last
        → AreClasses count (if t then record { tests = []; last = stretch.class } else before stretch (split_of greatest list)).tests
        × IsClass count (if t then record { tests = []; last = stretch.class } else before stretch (split_of greatest list)).last
    by true again = (tt, h.0)
    by false again = join (same_place stretch.class (first_class (split_of greatest list).tests (split_of greatest list).last)) again
