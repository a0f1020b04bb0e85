-- Each edge's class is found among the classes of edges, and leads as the edge does.
use Rattle.std.specs.Prelude.{◌≡◌, ◌<◌, ◌≤◌, ℕ, suc, length, List, [], ◌∷◌, ◌++◌, ◌+◌, Some, Bool, true, false, nat_eq, ◌&&◌, refl, slice_get, drop, if◌then◌else◌}
use Rattle.std.specs.List.{AllByRecursion}
use Rattle.std.proofs.Common.{◌∙◌, sym, ap, ap₂, subst, arith, get_or, eqb-true, eq-eqb, true≢false}
use Rattle.std.proofs.lemmas.List.{drop_more}
use Rattle.lx_auto.specs.Automaton.{edge_on, has_unit}
use Rattle.lx_auto.specs.declared.automaton.Edge.{Edge}
use Rattle.lx_auto.specs.declared.ops.Op.{Op}
use Rattle.lx_auto.specs.declared.ops.Op.TheVariants.{Here, Null, Copy, MHere, MNull, MCopy}
use Rattle.lx_dispatch.specs.TransitionClasses.{has_class, same_op, same_ops, same_class, class_place, transition_classes, classes_onto}

and-left : (a b : Bool) → a && b ≡ true → a ≡ true
and-left true b e = refl
and-left false b e = absurd (true≢false (sym e))

and-right : (a b : Bool) → a && b ≡ true → b ≡ true
and-right true b e = e
and-right false b e = absurd (true≢false (sym e))

and-both : (a b : Bool) → a ≡ true → b ≡ true → a && b ≡ true
and-both true b e f = f
and-both false b e f = absurd (true≢false (sym e))

same_op-same : (op other : Op) → same_op op other ≡ true → op ≡ other
same_op-same (Here a) (Here b) e = ap Here (eqb-true a b e)
same_op-same (Null a) (Null b) e = ap Null (eqb-true a b e)
same_op-same (Copy a s) (Copy b t) e = ap₂ Copy (eqb-true a b (and-left (nat_eq a b) (nat_eq s t) e))
    (eqb-true s t (and-right (nat_eq a b) (nat_eq s t) e))
same_op-same (MHere a) (MHere b) e = ap MHere (eqb-true a b e)
same_op-same (MNull a) (MNull b) e = ap MNull (eqb-true a b e)
same_op-same (MCopy a s) (MCopy b t) e = ap₂ MCopy (eqb-true a b (and-left (nat_eq a b) (nat_eq s t) e))
    (eqb-true s t (and-right (nat_eq a b) (nat_eq s t) e))
same_op-same _ _ e = absurd (true≢false (sym e))

same_op-itself : (op : Op) → same_op op op ≡ true
same_op-itself (Here a) = eq-eqb a a refl
same_op-itself (Null a) = eq-eqb a a refl
same_op-itself (Copy a s) = and-both (nat_eq a a) (nat_eq s s) (eq-eqb a a refl) (eq-eqb s s refl)
same_op-itself (MHere a) = eq-eqb a a refl
same_op-itself (MNull a) = eq-eqb a a refl
same_op-itself (MCopy a s) = and-both (nat_eq a a) (nat_eq s s) (eq-eqb a a refl) (eq-eqb s s refl)

same_ops-same : (ops others : List Op) → same_ops ops others ≡ true → ops ≡ others
same_ops-same [] [] e = refl
same_ops-same [] (other ∷ others) e = absurd (true≢false (sym e))
same_ops-same (op ∷ ops) [] e = absurd (true≢false (sym e))
same_ops-same (op ∷ ops) (other ∷ others) e =
    let head = same_op-same op other (and-left (same_op op other) (same_ops ops others) e) in
    let tail = same_ops-same ops others (and-right (same_op op other) (same_ops ops others) e) in
    ap₂ (λ x l. x ∷ l) head tail

same_ops-itself : (ops : List Op) → same_ops ops ops ≡ true
same_ops-itself [] = refl
same_ops-itself (op ∷ ops) = and-both (same_op op op) (same_ops ops ops) (same_op-itself op) (same_ops-itself ops)

pub same_class-itself : (edge : Edge) → same_class edge edge ≡ true
same_class-itself edge = and-both (nat_eq edge.to edge.to) (same_ops edge.ops edge.ops) (eq-eqb edge.to edge.to refl) (same_ops-itself edge.ops)

pub same_class-to : (edge other : Edge) → same_class edge other ≡ true → edge.to ≡ other.to
same_class-to edge other e = eqb-true edge.to other.to (and-left (nat_eq edge.to other.to) (same_ops edge.ops other.ops) e)

pub same_class-ops : (edge other : Edge) → same_class edge other ≡ true → edge.ops ≡ other.ops
same_class-ops edge other e = same_ops-same edge.ops other.ops (and-right (nat_eq edge.to other.to) (same_ops edge.ops other.ops) e)

-- the class of an edge that has one
pub class_found : (classes : List Edge) (edge : Edge) → has_class classes edge ≡ true
    → (class : Edge) × (slice_get classes (class_place classes edge) ≡ Some class) × (same_class class edge ≡ true)
class_found [] edge e = absurd (true≢false (sym e))
class_found (class ∷ classes) edge e = by (same_class class edge) refl e (λ h. class_found classes edge h)
  where
    by : (t : Bool) → same_class class edge ≡ t → (if t then true else has_class classes edge) ≡ true
        → (has_class classes edge ≡ true → (found : Edge) × (slice_get classes (class_place classes edge) ≡ Some found) × (same_class found edge ≡ true))
        → (found : Edge) × (slice_get (class ∷ classes) (if t then 0 else suc (class_place classes edge)) ≡ Some found) × (same_class found edge ≡ true)
    by true is e again = (class, refl, is)
    by false is e again = let h = again e in (h.0, h.1, h.2)

has_class-append : (classes more : List Edge) (edge : Edge) → has_class classes edge ≡ true → has_class (classes ++ more) edge ≡ true
has_class-append [] more edge e = absurd (true≢false (sym e))
has_class-append (class ∷ classes) more edge e = by (same_class class edge) e (λ h. has_class-append classes more edge h)
  where
    by : (t : Bool) → (if t then true else has_class classes edge) ≡ true → (has_class classes edge ≡ true → has_class (classes ++ more) edge ≡ true)
        → (if t then true else has_class (classes ++ more) edge) ≡ true
    by true e again = refl
    by false e again = again e

pub has_class-last : (classes : List Edge) (edge : Edge) → has_class (classes ++ edge ∷ []) edge ≡ true
has_class-last [] edge = ap (λ t. if t then true else false) (same_class-itself edge)
has_class-last (class ∷ classes) edge = by (same_class class edge) (has_class-last classes edge)
  where
    by : (t : Bool) → has_class (classes ++ edge ∷ []) edge ≡ true → (if t then true else has_class (classes ++ edge ∷ []) edge) ≡ true
    by true e = refl
    by false e = e

-- an edge has a class among some where the class has a place
pub has_class-none : (classes : List Edge) (edge : Edge) → length classes ≤ class_place classes edge → has_class classes edge ≡ false
has_class-none [] edge past = refl
has_class-none (class ∷ classes) edge past = by (same_class class edge) past (λ h. has_class-none classes edge h)
  where
    by : (t : Bool) → suc (length classes) ≤ (if t then 0 else suc (class_place classes edge))
        → (length classes ≤ class_place classes edge → has_class classes edge ≡ false) → (if t then true else has_class classes edge) ≡ false
    by true past again = absurd (omega (arith, past))
    by false past again = again (omega (arith, past))

pub has_class-some : (classes : List Edge) (edge : Edge) → class_place classes edge < length classes → has_class classes edge ≡ true
has_class-some [] edge within = absurd (omega (arith, within))
has_class-some (class ∷ classes) edge within = by (same_class class edge) within (λ h. has_class-some classes edge h)
  where
    by : (t : Bool) → (if t then 0 else suc (class_place classes edge)) < suc (length classes)
        → (class_place classes edge < length classes → has_class classes edge ≡ true) → (if t then true else has_class classes edge) ≡ true
    by true within again = refl
    by false within again = again (omega (arith, within))

-- the classes behind one more edge, where it is known whether its class is one of them
pub classes_onto-looked : (edges : List Edge) (index : ℕ) (edge : Edge) → index < length edges → edge ≡ get_or edges index edge
    → (found new whole : List Edge) → classes_onto found (drop index edges) ≡ whole → (t : Bool) → has_class found edge ≡ t
    → new ≡ (if t then found else found ++ edge ∷ []) → classes_onto new (drop (index + 1) edges) ≡ whole
classes_onto-looked edges index edge within is found new whole before t has put =
    ap (λ l. classes_onto l (drop (index + 1) edges)) (put ∙ ap (λ (b : Bool). if b then found else found ++ edge ∷ []) (sym has))
    ∙ ap (λ l. classes_onto found l) (sym (drop_more edges index edge within ∙ ap (λ e. e ∷ drop (index + 1) edges) (sym is)))
    ∙ before

-- what was found stays found
pub has_class-onto : (edges found : List Edge) (edge : Edge) → has_class found edge ≡ true → has_class (classes_onto found edges) edge ≡ true
has_class-onto [] found edge e = e
has_class-onto (next ∷ edges) found edge e = by (has_class found next) (λ more h. has_class-onto edges more edge h)
  where
    by : (t : Bool) → ((more : List Edge) → has_class more edge ≡ true → has_class (classes_onto more edges) edge ≡ true)
        → has_class (classes_onto (if t then found else found ++ next ∷ []) edges) edge ≡ true
    by true again = again found e
    by false again = again (found ++ next ∷ []) (has_class-append found (next ∷ []) edge e)

-- each edge's class is found
has_class-edge : (edges found : List Edge) (unit : ℕ) (edge : Edge) → edge_on edges unit ≡ Some edge → has_class (classes_onto found edges) edge ≡ true
has_class-edge [] found unit edge on = absurd (cc)
has_class-edge (next ∷ edges) found unit edge on =
    by (has_unit next unit) on (λ h. has_class-edge edges (if has_class found next then found else found ++ next ∷ []) unit edge h)
  where
    own : (t : Bool) → has_class found next ≡ t → has_class (if t then found else found ++ next ∷ []) next ≡ true
    own true e = e
    own false e = has_class-last found next

    by : (t : Bool) → (if t then Some next else edge_on edges unit) ≡ Some edge
        → (edge_on edges unit ≡ Some edge → has_class (classes_onto (if has_class found next then found else found ++ next ∷ []) edges) edge ≡ true)
        → has_class (classes_onto (if has_class found next then found else found ++ next ∷ []) edges) edge ≡ true
    by true on again =
        let same : next ≡ edge = cc in
        subst (λ e. has_class (classes_onto (if has_class found next then found else found ++ next ∷ []) edges) e ≡ true) same
        (has_class-onto edges (if has_class found next then found else found ++ next ∷ []) next (own (has_class found next) refl))
    by false on again = again on

pub has_class-on : (edges : List Edge) (unit : ℕ) (edge : Edge) → edge_on edges unit ≡ Some edge → has_class (transition_classes edges) edge ≡ true
has_class-on edges unit edge on = has_class-edge edges [] unit edge on

-- the first edge's class stays the first
class_place-onto : (edges more : List Edge) (first edge : Edge) → same_class first edge ≡ true → class_place (classes_onto (first ∷ more) edges) edge ≡ 0
class_place-onto [] more first edge e = ap (λ t. if t then 0 else suc (class_place more edge)) e
class_place-onto (next ∷ edges) more first edge e = by (has_class (first ∷ more) next) (λ others. class_place-onto edges others first edge e)
  where
    by : (t : Bool) → ((others : List Edge) → class_place (classes_onto (first ∷ others) edges) edge ≡ 0)
        → class_place (classes_onto (if t then first ∷ more else (first ∷ more) ++ next ∷ []) edges) edge ≡ 0
    by true again = again more
    by false again = again (more ++ next ∷ [])

pub class_place-first : (edge : Edge) (edges : List Edge) → class_place (transition_classes (edge ∷ edges)) edge ≡ 0
class_place-first edge edges = class_place-onto edges [] edge edge (same_class-itself edge)

-- so is that of each of the edges, and its place is one of theirs
pub has_class-all : (edges found : List Edge) → AllByRecursion (λ edge. has_class (classes_onto found edges) edge ≡ true) edges
has_class-all [] found = tt
has_class-all (next ∷ edges) found = (
  has_class-onto edges (if has_class found next then found else found ++ next ∷ []) next (own (has_class found next) refl),
  has_class-all edges (if has_class found next then found else found ++ next ∷ []),
)
  where
    own : (t : Bool) → has_class found next ≡ t → has_class (if t then found else found ++ next ∷ []) next ≡ true
    own true e = e
    own false e = has_class-last found next

pub class_place-found : (classes : List Edge) (edge : Edge) → has_class classes edge ≡ true → class_place classes edge < length classes
class_place-found [] edge e = absurd (true≢false (sym e))
class_place-found (class ∷ classes) edge e = by (same_class class edge) e (λ h. class_place-found classes edge h)
  where
    by : (t : Bool) → (if t then true else has_class classes edge) ≡ true → (has_class classes edge ≡ true → class_place classes edge < length classes)
        → (if t then 0 else suc (class_place classes edge)) < suc (length classes)
    by true e again = omega arith
    by false e again = let h = again e in omega (arith, h)
