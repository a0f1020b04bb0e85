-- The tests of a unit, stretch by stretch.
use Rattle.std.proofs.Common.{◌≡◌, ℕ, ◌+◌, ◌-◌, ◌<◌, ◌≤◌, Bool, true, false, if◌then◌else◌, List, [], ◌∷◌, ◌++◌, length, drop, get_or, Option, Some, None, refl, sym, ap, subst, ◌∙◌, eqb-true, nat_le, nat_lt}
use Rattle.std.proofs.Math.ListN.{drop_of_length-le}
use Rattle.std.proofs.lemmas.Bool.{false≢true, le-leb, lt-leb}
use Rattle.std.proofs.lemmas.List.{append-nil, append_assoc, drop_more}
use Rattle.lx_auto.specs.declared.automaton.Edge.{Edge}
use Rattle.lx_dispatch.specs.UnitApart.{tests_before}
use Rattle.lx_dispatch.specs.Views.{seen_stretch, seen_stretches}
use Rattle.lx_dispatch.specs.TransitionClasses.{Split, Stretch, before, class_place, first_class, same_place, split_of, stretches}
use Rattle.lx_dispatch.specs.declared.unit_splits.Stretch as held

pub same_place-same : (place other : Option ℕ) → same_place place other ≡ true → place ≡ other
same_place-same None None e = refl
same_place-same None (Some other) e = absurd (false≢true e)
same_place-same (Some place) None e = absurd (false≢true e)
same_place-same (Some place) (Some other) e = ap (λ n. Some n) (eqb-true place other e)

-- a split begins with the class of its first stretch
first_class-split_of : (greatest : ℕ) (stretches : List Stretch)
    → first_class (split_of greatest stretches).tests (split_of greatest stretches).last ≡ first_class stretches None
first_class-split_of greatest [] = refl
first_class-split_of greatest (stretch ∷ stretches) =
    by (nat_le greatest stretch.greatest) (same_place stretch.class (first_class (split_of greatest stretches).tests (split_of greatest stretches).last)) refl
  where
    merged : (same : Bool) (rest : Split) → same_place stretch.class (first_class rest.tests rest.last) ≡ same
        → first_class (if same then rest else record { tests = stretch ∷ rest.tests; last = rest.last }).tests
        (if same then rest else record { tests = stretch ∷ rest.tests; last = rest.last }).last ≡ stretch.class
    merged true rest e = sym (same_place-same stretch.class (first_class rest.tests rest.last) e)
    merged false rest e = refl

    by : (t same : Bool) → same_place stretch.class (first_class (split_of greatest stretches).tests (split_of greatest stretches).last) ≡ same
        → first_class (if t then record { tests = []; last = stretch.class } else before stretch (split_of greatest stretches)).tests
        (if t then record { tests = []; last = stretch.class } else before stretch (split_of greatest stretches)).last ≡ stretch.class
    by true same e = refl
    by false same e =
        subst (λ (b : Bool). first_class (if b then split_of greatest stretches else record { tests = stretch ∷ (split_of greatest stretches).tests; last = (split_of greatest stretches).last }).tests
        (if b then split_of greatest stretches else record { tests = stretch ∷ (split_of greatest stretches).tests; last = (split_of greatest stretches).last }).last ≡ stretch.class)
        (sym e) (merged same (split_of greatest stretches) e)

module _ (greatest : ℕ) (stretches : List held.Stretch) (index : ℕ) (none : held.Stretch) (within : index < length stretches) (front : List Stretch)
    (tests : List Stretch) (last : Option ℕ) (before_tests : front ++ (split_of greatest (seen_stretches (drop index stretches))).tests ≡ tests)
    (before_last : (split_of greatest (seen_stretches (drop index stretches))).last ≡ last) where
  abbrev stretch : held.Stretch
  stretch = get_or stretches index none

  abbrev rest : Split
  rest = split_of greatest (seen_stretches (drop (index + 1) stretches))

  abbrev joined : Bool → Split
  joined same = if same then rest else record { tests = seen_stretch stretch ∷ rest.tests; last = rest.last }

  split_here : stretch.greatest < greatest → (same : Bool)
      → same ≡ same_place stretch.class (first_class (seen_stretches (drop (index + 1) stretches)) None)
      → split_of greatest (seen_stretches (drop index stretches)) ≡ joined same
  split_here behind same is =
      ap (λ l. split_of greatest (seen_stretches l)) (drop_more stretches index none within)
      ∙ ap (λ (t : Bool). if t then record { tests = []; last = stretch.class } else before (seen_stretch stretch) rest) (lt-leb greatest stretch.greatest behind)
      ∙ ap (λ w. joined (same_place stretch.class w)) (first_class-split_of greatest (seen_stretches (drop (index + 1) stretches)))
      ∙ ap joined (sym is)

  pub split_of-added : stretch.greatest < greatest
      → (next : Option ℕ) → next ≡ first_class (seen_stretches (drop (index + 1) stretches)) None → false ≡ same_place stretch.class next
      → ((front ++ seen_stretch stretch ∷ []) ++ rest.tests ≡ tests) × (rest.last ≡ last)
  split_of-added behind next next_is is =
      let here = split_here behind false (is ∙ ap (λ w. same_place stretch.class w) next_is) in (
        append_assoc front (seen_stretch stretch ∷ []) rest.tests ∙ ap (λ (s : Split). front ++ s.tests) (sym here) ∙ before_tests,
        ap (λ (s : Split). s.last) (sym here) ∙ before_last,
      )

  pub split_of-saved : stretch.greatest < greatest
      → (next : Option ℕ) → next ≡ first_class (seen_stretches (drop (index + 1) stretches)) None → true ≡ same_place stretch.class next
      → (front ++ rest.tests ≡ tests) × (rest.last ≡ last)
  split_of-saved behind next next_is is =
      let here = split_here behind true (is ∙ ap (λ w. same_place stretch.class w) next_is) in
      (ap (λ (s : Split). front ++ s.tests) (sym here) ∙ before_tests, ap (λ (s : Split). s.last) (sym here) ∙ before_last)

  -- where the greatest unit is among those of the stretch
  pub split_of-reached : greatest ≤ stretch.greatest → (front ≡ tests) × (stretch.class ≡ last)
  split_of-reached within_it =
      let here : split_of greatest (seen_stretches (drop index stretches)) ≡ record { tests = []; last = stretch.class } =
      ap (λ l. split_of greatest (seen_stretches l)) (drop_more stretches index none within)
      ∙ ap (λ (t : Bool). if t then record { tests = []; last = stretch.class } else before (seen_stretch stretch) rest) (le-leb greatest stretch.greatest within_it) in (
        sym (append-nil front) ∙ ap (λ (s : Split). front ++ s.tests) (sym here) ∙ before_tests,
        ap (λ (s : Split). s.last) (sym here) ∙ before_last,
      )

-- one more edge: the units before it, and its own
pub stretches-next : (classes edges : List Edge) (index : ℕ) (edge : Edge) (low : ℕ) (front middle after whole : List Stretch) → index < length edges
    → edge ≡ get_or edges index edge → middle ≡ front ++ tests_before edge.lo low None
    → after ≡ middle ++ record { greatest = edge.hi; class = Some (class_place classes edge) } ∷ []
    → front ++ stretches classes low (drop index edges) ≡ whole → after ++ stretches classes (edge.hi + 1) (drop (index + 1) edges) ≡ whole
stretches-next classes edges index edge low front middle after whole within is written appended so_far =
    let own : Stretch = record { greatest = edge.hi; class = Some (class_place classes edge) } in
    let rest = stretches classes (edge.hi + 1) (drop (index + 1) edges) in
    let here : drop index edges ≡ edge ∷ drop (index + 1) edges = drop_more edges index edge within ∙ ap (λ e. e ∷ drop (index + 1) edges) (sym is) in
    ap (λ (l : List Stretch). l ++ rest) appended ∙ append_assoc middle (own ∷ []) rest ∙ ap (λ (l : List Stretch). l ++ own ∷ rest) written
    ∙ append_assoc front (tests_before edge.lo low None) (own ∷ rest) ∙ ap (λ (l : List Stretch). front ++ l) (sym (by (nat_lt low edge.lo)))
    ∙ ap (λ l. front ++ stretches classes low l) (sym here) ∙ so_far
  where
    by : (t : Bool) → (if t then record { greatest = edge.lo - 1; class = None } ∷ record { greatest = edge.hi; class = Some (class_place classes edge) } ∷ stretches classes (edge.hi + 1) (drop (index + 1) edges)
        else record { greatest = edge.hi; class = Some (class_place classes edge) } ∷ stretches classes (edge.hi + 1) (drop (index + 1) edges))
        ≡ (if t then record { greatest = edge.lo - 1; class = None } ∷ [] else []) ++ record { greatest = edge.hi; class = Some (class_place classes edge) } ∷ stretches classes (edge.hi + 1) (drop (index + 1) edges)
    by true = refl
    by false = refl

-- behind the last stretch
pub split_of-ended : (greatest : ℕ) (stretches : List held.Stretch) (index : ℕ) (front tests : List Stretch) (last : Option ℕ) → length stretches ≤ index
    → front ++ (split_of greatest (seen_stretches (drop index stretches))).tests ≡ tests
    → (split_of greatest (seen_stretches (drop index stretches))).last ≡ last → (front ≡ tests) × (None ≡ last)
split_of-ended greatest stretches index front tests last ended before_tests before_last =
    let none : drop index stretches ≡ [] = drop_of_length-le stretches ended in (
      sym (append-nil front) ∙ ap (λ (l : List held.Stretch). front ++ (split_of greatest (seen_stretches l)).tests) (sym none) ∙ before_tests,
      ap (λ (l : List held.Stretch). (split_of greatest (seen_stretches l)).last) (sym none) ∙ before_last,
    )
