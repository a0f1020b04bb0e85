-- The tests of a state lead each unit to the class of its edge.
use Rattle.std.specs.Prelude.{◌≡◌, ℕ, ◌+◌, ◌-◌, ◌<◌, ◌≤◌, List, [], ◌∷◌, Option, Some, None, Bool, true, false, nat_le, nat_lt, refl, if◌then◌else◌}
use Rattle.std.proofs.Common.{sym, ap, ◌∙◌, arith, eqb-true, le-leb, leb-true, leb-false, true≢false}
use Rattle.lx_auto.specs.Automaton.{AreApartFrom, edge_on}
use Rattle.lx_auto.specs.declared.automaton.Edge.{Edge}
use Rattle.lx_auto.proofs.Edges.{edge_on-before, edge_on-here, edge_on-past}
use Rattle.lx_dispatch.specs.TestTrees.{Ascend, PicksAs, TestTree, class_on, picked}
use Rattle.lx_dispatch.specs.TransitionClasses.{Stretch, before, edge_class, edge_split, first_class, same_place, split_of, stretches, class_place, transition_classes}
use Rattle.lx_dispatch.proofs.SplitTrees.{Ascend-earlier}

-- ---- stretches

class_on-stretches : (classes : List Edge) (low : ℕ) (edges : List Edge) (unit : ℕ) → AreApartFrom low edges → low ≤ unit
    → class_on (stretches classes low edges) None unit ≡ edge_class classes (edge_on edges unit)
class_on-stretches classes low [] unit apart from = refl
class_on-stretches classes low (edge ∷ edges) unit apart from =
    gaps (nat_lt low edge.lo) refl (λ more. class_on-stretches classes (edge.hi + 1) edges unit apart.2 more)
  where
    own : edge.lo ≤ unit → (edge.hi + 1 ≤ unit → class_on (stretches classes (edge.hi + 1) edges) None unit ≡ edge_class classes (edge_on edges unit))
        → class_on (record { greatest = edge.hi; class = Some (class_place classes edge) } ∷ stretches classes (edge.hi + 1) edges) None unit ≡ edge_class classes
        (edge_on (edge ∷ edges) unit)
    own above again = by (nat_le unit edge.hi) refl
      where
        by : (t : Bool) → nat_le unit edge.hi ≡ t
            → (if t then Some (class_place classes edge) else class_on (stretches classes (edge.hi + 1) edges) None unit) ≡ edge_class classes
            (edge_on (edge ∷ edges) unit)
        by true h = ap (λ o. edge_class classes o) (sym (edge_on-here edge edges unit above (leb-true unit edge.hi h)))
        by false h =
            let past : edge.hi < unit = leb-false unit edge.hi h in
            again (omega arith) ∙ ap (λ o. edge_class classes o) (sym (edge_on-past edge edges unit past))

    gaps : (t : Bool) → nat_lt low edge.lo ≡ t → (edge.hi + 1 ≤ unit → class_on (stretches classes (edge.hi + 1) edges) None unit ≡ edge_class classes
        (edge_on edges unit))
        → class_on (if t then record { greatest = edge.lo - 1; class = None } ∷ record
        { greatest = edge.hi; class = Some (class_place classes edge) } ∷ stretches classes (edge.hi + 1) edges
        else record { greatest = edge.hi; class = Some (class_place classes edge) } ∷ stretches classes (edge.hi + 1) edges) None unit ≡ edge_class classes
        (edge_on (edge ∷ edges) unit)
    gaps false h again = let below : edge.lo ≤ low = grind (arith, h) in own (omega arith) again
    gaps true h again = by (nat_le unit (edge.lo - 1)) refl
      where
        below : low < edge.lo
        below = grind (arith, h)

        by : (t : Bool) → nat_le unit (edge.lo - 1) ≡ t
            → (if t then None else class_on (record { greatest = edge.hi; class = Some (class_place classes edge) } ∷ stretches classes
            (edge.hi + 1) edges) None unit) ≡ edge_class classes (edge_on (edge ∷ edges) unit)
        by true g =
            let le : unit ≤ edge.lo - 1 = leb-true unit (edge.lo - 1) g in
            let from_lo : AreApartFrom edge.lo (edge ∷ edges) = (omega arith, apart.1, apart.2) in
            ap (λ o. edge_class classes o) (sym (edge_on-before edge.lo (edge ∷ edges) unit from_lo (omega (arith, le, below))))
        by false g = let lt : edge.lo - 1 < unit = leb-false unit (edge.lo - 1) g in own (omega (arith, lt, below)) again

-- ---- tests

Ascend-stretches : (classes : List Edge) (low : ℕ) (edges : List Edge) → AreApartFrom low edges → Ascend low (stretches classes low edges)
Ascend-stretches classes low [] apart = tt
Ascend-stretches classes low (edge ∷ edges) apart = by (nat_lt low edge.lo) refl (Ascend-stretches classes (edge.hi + 1) edges apart.2)
  where
    by : (t : Bool) → nat_lt low edge.lo ≡ t → Ascend (edge.hi + 1) (stretches classes (edge.hi + 1) edges)
        → Ascend low (if t then record { greatest = edge.lo - 1; class = None } ∷ record
        { greatest = edge.hi; class = Some (class_place classes edge) } ∷ stretches classes (edge.hi + 1) edges
        else record { greatest = edge.hi; class = Some (class_place classes edge) } ∷ stretches classes (edge.hi + 1) edges)
    by true h again =
        let below : low < edge.lo = grind (arith, h) in (
          omega (arith, below),
          (
            omega (arith, apart.1),
            Ascend-earlier edge.hi (edge.hi + 1) (stretches classes (edge.hi + 1) edges)
                (omega arith) again,
          ),
        )
    by false h again = (
      omega (arith, apart.0, apart.1),
      Ascend-earlier edge.hi (edge.hi + 1) (stretches classes (edge.hi + 1) edges)
          (omega arith) again,
    )

-- so do those that are tested
Ascend-split_of : (greatest low : ℕ) (list : List Stretch) → Ascend low list → Ascend low (split_of greatest list).tests
Ascend-split_of greatest low [] h = tt
Ascend-split_of greatest low (stretch ∷ list) h = by (nat_le greatest stretch.greatest) (Ascend-split_of greatest stretch.greatest list h.1)
  where
    join : (t : Bool) → Ascend stretch.greatest (split_of greatest list).tests
        → Ascend low (if t then split_of greatest list else record
        { tests = stretch ∷ (split_of greatest list).tests; last = (split_of greatest list).last }).tests
    join true again = Ascend-earlier low stretch.greatest (split_of greatest list).tests h.0 again
    join false again = (h.0, again)

    by : (t : Bool) → Ascend stretch.greatest (split_of greatest list).tests
        → Ascend low (if t then record { tests = []; last = stretch.class } else before stretch (split_of greatest list)).tests
    by true again = tt
    by false again = join (same_place stretch.class (first_class (split_of greatest list).tests (split_of greatest list).last)) again

same_place-same : (a b : Option ℕ) → same_place a b ≡ true → a ≡ b
same_place-same None None e = refl
same_place-same None (Some y) e = absurd (true≢false (sym e))
same_place-same (Some x) None e = absurd (true≢false (sym e))
same_place-same (Some x) (Some y) e = ap Some (eqb-true x y e)

pub class_on-first : (low unit : ℕ) (tests : List Stretch) (last : Option ℕ) → Ascend low tests → unit ≤ low
    → class_on tests last unit ≡ first_class tests last
class_on-first low unit [] last h le = refl
class_on-first low unit (stretch ∷ tests) last h le =
    ap (λ t. if t then stretch.class else class_on tests last unit) (le-leb unit stretch.greatest (omega (arith, h.0, le)))

class_on-split_of : (greatest low : ℕ) (list : List Stretch) (unit : ℕ) → Ascend low list → unit ≤ greatest
    → class_on (split_of greatest list).tests (split_of greatest list).last unit ≡ class_on list None unit
class_on-split_of greatest low [] unit h le = refl
class_on-split_of greatest low (stretch ∷ list) unit h le =
    by (nat_le greatest stretch.greatest) refl (class_on-split_of greatest stretch.greatest list unit h.1 le)
  where
    join : (t : Bool) → same_place stretch.class (first_class (split_of greatest list).tests (split_of greatest list).last) ≡ t
        → class_on (split_of greatest list).tests (split_of greatest list).last unit ≡ class_on list None unit
        → class_on (if t then split_of greatest list else record
        { tests = stretch ∷ (split_of greatest list).tests; last = (split_of greatest list).last }).tests
        (if t then split_of greatest list else record {
          tests = stretch ∷
              (split_of greatest list).tests;
          last = (split_of greatest list).last;
        }).last unit
        ≡ class_on (stretch ∷ list) None unit
    join false e again = ap (λ o. if nat_le unit stretch.greatest then stretch.class else o) again
    join true e again = at (nat_le unit stretch.greatest) refl
      where
        at : (t : Bool) → nat_le unit stretch.greatest ≡ t → class_on (split_of greatest list).tests (split_of greatest list).last unit ≡
            (if t then stretch.class else class_on list None unit)
        at true g =
            class_on-first stretch.greatest unit (split_of greatest list).tests (split_of greatest list).last
            (Ascend-split_of greatest stretch.greatest list h.1) (leb-true unit stretch.greatest g)
            ∙ sym (same_place-same stretch.class (first_class (split_of greatest list).tests (split_of greatest list).last) e)
        at false g = again

    by : (t : Bool) → nat_le greatest stretch.greatest ≡ t → class_on (split_of greatest list).tests
        (split_of greatest list).last unit ≡ class_on list None unit
        → class_on (if t then record { tests = []; last = stretch.class } else before stretch (split_of greatest list)).tests
        (if t then record { tests = []; last = stretch.class } else before stretch (split_of greatest list)).last unit
        ≡ class_on (stretch ∷ list) None unit
    by true e again =
        let g : greatest ≤ stretch.greatest = leb-true greatest stretch.greatest e in
        ap (λ t. if t then stretch.class else class_on list None unit) (sym (le-leb unit stretch.greatest (omega arith)))
    by false e again = join (same_place stretch.class (first_class (split_of greatest list).tests (split_of greatest list).last)) refl again

pub class_on-edge_split : (greatest : ℕ) (edges : List Edge) (unit : ℕ) → AreApartFrom 0 edges → unit ≤ greatest
    → class_on (edge_split greatest edges).tests (edge_split greatest edges).last unit ≡ edge_class (transition_classes edges) (edge_on edges unit)
class_on-edge_split greatest edges unit apart le =
    class_on-split_of greatest 0 (stretches (transition_classes edges) 0 edges) unit (Ascend-stretches (transition_classes edges) 0 edges apart) le
    ∙ class_on-stretches (transition_classes edges) 0 edges unit apart (omega arith)

pub Ascend-edge_split : (greatest : ℕ) (edges : List Edge) → AreApartFrom 0 edges → Ascend 0 (edge_split greatest edges).tests
Ascend-edge_split greatest edges apart =
    Ascend-split_of greatest 0 (stretches (transition_classes edges) 0 edges) (Ascend-stretches (transition_classes edges) 0 edges apart)

-- a tree of the tests of a state
pub picked-tree : (sets : (set unit : ℕ) → Bool) (greatest : ℕ) (edges : List Edge) (tree : TestTree (Option ℕ)) (unit : ℕ)
    → PicksAs greatest sets (edge_split greatest edges) tree → AreApartFrom 0 edges → unit ≤ greatest → picked sets tree unit ≡ edge_class (transition_classes edges) (edge_on edges unit)
picked-tree sets greatest edges tree unit picks apart le = picks unit le ∙ class_on-edge_split greatest edges unit apart le
