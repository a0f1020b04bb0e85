-- Each transition class of edges is that of some edge, which is on a unit.
use Rattle.std.specs.Prelude.{◌≡◌, ℕ, suc, ◌+◌, ◌<◌, ◌≤◌, Bool, true, false, Contains, List, [], ◌∷◌, ◌++◌, length, Some, nat_lt, refl, if◌then◌else◌}
use Rattle.std.proofs.Common.{sym, ap, ◌∙◌, subst, arith, length-append, true≢false}
use Rattle.std.specs.List.{AllByRecursion}
use Rattle.lx_auto.specs.Automaton.{AreApartFrom, edge_on}
use Rattle.lx_auto.specs.declared.automaton.Edge.{Edge}
use Rattle.lx_auto.proofs.Edges.{edge_on-found}
use Rattle.lx_dispatch.specs.TransitionClasses.{class_place, classes_onto, has_class, same_class, transition_classes}
use Rattle.lx_dispatch.proofs.ClassLists.{has_class-last, same_class-itself}
use Rattle.lx_layout.proofs.SuppliedLayouts.OwnBlocks.{all-contained}

-- ---- places of classes

class_place-append : (classes more : List Edge) (edge : Edge) → has_class classes edge ≡ true
    → class_place (classes ++ more) edge ≡ class_place classes edge
class_place-append [] more edge has = absurd (true≢false (sym has))
class_place-append (class ∷ classes) more edge has = by (same_class class edge) has (λ h. class_place-append classes more edge h)
  where
    by : (t : Bool) → (if t then true else has_class classes edge) ≡ true
        → (has_class classes edge ≡ true → class_place (classes ++ more) edge ≡ class_place classes edge)
        → (if t then 0 else suc (class_place (classes ++ more) edge)) ≡ (if t then 0 else suc (class_place classes edge))
    by true has again = refl
    by false has again = ap suc (again has)

has_class-more : (classes more : List Edge) (edge : Edge) → has_class classes edge ≡ true → has_class (classes ++ more) edge ≡ true
has_class-more [] more edge has = absurd (true≢false (sym has))
has_class-more (class ∷ classes) more edge has = by (same_class class edge) has (λ h. has_class-more classes more edge h)
  where
    by : (t : Bool) → (if t then true else has_class classes edge) ≡ true
        → (has_class classes edge ≡ true → has_class (classes ++ more) edge ≡ true)
        → (if t then true else has_class (classes ++ more) edge) ≡ true
    by true has again = refl
    by false has again = again has

-- what was found keeps its place
class_place-kept : (edges found : List Edge) (edge : Edge) → has_class found edge ≡ true
    → class_place (classes_onto found edges) edge ≡ class_place found edge
class_place-kept [] found edge has = refl
class_place-kept (next ∷ edges) found edge has = by (has_class found next) (λ more h. class_place-kept edges more edge h)
  where
    by : (t : Bool) → ((more : List Edge) → has_class more edge ≡ true → class_place (classes_onto more edges) edge ≡ class_place more edge)
        → class_place (classes_onto (if t then found else found ++ next ∷ []) edges) edge ≡ class_place found edge
    by true again = again found has
    by false again =
        again (found ++ next ∷ []) (has_class-more found (next ∷ []) edge has) ∙ class_place-append found (next ∷ []) edge has

-- a new class stands behind the others
class_place-last : (classes : List Edge) (edge : Edge) → has_class classes edge ≡ false
    → class_place (classes ++ edge ∷ []) edge ≡ length classes
class_place-last [] edge none = ap (λ t. if t then 0 else 1) (same_class-itself edge)
class_place-last (class ∷ classes) edge none = by (same_class class edge) none (λ h. class_place-last classes edge h)
  where
    by : (t : Bool) → (if t then true else has_class classes edge) ≡ false
        → (has_class classes edge ≡ false → class_place (classes ++ edge ∷ []) edge ≡ length classes)
        → (if t then 0 else suc (class_place (classes ++ edge ∷ []) edge)) ≡ suc (length classes)
    by true none again = absurd (true≢false none)
    by false none again = ap suc (again none)

-- what holds of the place of each edge's class holds of each place
places-onto : (P : ℕ → Type 0) (whole edges found : List Edge) → classes_onto found edges ≡ whole → ((k : ℕ) → k < length found → P k)
    → AllByRecursion (λ edge. P (class_place whole edge)) edges → (k : ℕ) → k < length whole → P k
places-onto P whole [] found is h all k lt = h k (subst (λ (l : List Edge). k < length l) (sym is) lt)
places-onto P whole (edge ∷ edges) found is h all k lt =
    by (has_class found edge) refl is (λ more same each. places-onto P whole edges more same each all.1 k lt)
  where
    by : (t : Bool) → has_class found edge ≡ t → classes_onto (if t then found else found ++ edge ∷ []) edges ≡ whole
        → ((more : List Edge) → classes_onto more edges ≡ whole → ((k : ℕ) → k < length more → P k) → P k) → P k
    by true has same again = again found same h
    by false has same again =
        again (found ++ edge ∷ []) same
        (λ j within. one j within (nat_lt j (length found)) refl)
      where
        at : class_place whole edge ≡ length found
        at =
            ap (λ l. class_place l edge) (sym same)
            ∙ class_place-kept edges (found ++ edge ∷ []) edge (has_class-last found edge) ∙ class_place-last found edge has

        one : (j : ℕ) → j < length (found ++ edge ∷ []) → (t : Bool) → nat_lt j (length found) ≡ t → P j
        one j within true less = let lt : j < length found = grind (arith, less) in h j lt
        one j within false less =
            let le : length found ≤ j = grind (arith, less) in
            let l = length-append found (edge ∷ []) in
            let e : class_place whole edge ≡ j = omega (arith, le, l, within, at) in
            subst P e all.0

pub each_class : (P : ℕ → Type 0) (edges : List Edge) → AllByRecursion (λ edge. P (class_place (transition_classes edges) edge)) edges
    → (k : ℕ) → k < length (transition_classes edges) → P k
each_class P edges all k lt = places-onto P (transition_classes edges) edges [] refl (λ j within. absurd (omega (arith, within))) all k lt

-- ---- edges and their units

pub each-contained : {A : Type 0} (P : A → Type 0) (xs : List A) → ((x : A) → Contains xs x → P x) → AllByRecursion P xs
each-contained P [] f = tt
each-contained P (x ∷ xs) f = (
  f x (0, omega arith, refl),
  each-contained P xs (λ y has. f y (suc has.0, (let lt = has.1 in omega (arith, lt)), has.2)),
)

ordered : (low : ℕ) (edges : List Edge) → AreApartFrom low edges → AllByRecursion (λ (edge : Edge). edge.lo ≤ edge.hi) edges
ordered low [] apart = tt
ordered low (edge ∷ edges) apart = (apart.1, ordered (edge.hi + 1) edges apart.2)

-- each edge is on its first unit
pub first_unit : (edges : List Edge) (edge : Edge) → AreApartFrom 0 edges → Contains edges edge
    → (edge.lo ≤ edge.hi) × (edge_on edges edge.lo ≡ Some edge)
first_unit edges edge apart has =
    let le : edge.lo ≤ edge.hi = all-contained (λ (edge : Edge). edge.lo ≤ edge.hi) edges edge (ordered 0 edges apart) has in
    (le, edge_on-found edges has.0 edge has.1 (sym has.2) edge.lo apart (omega arith) le)
