-- The transition classes of a state: edges that lead to one state by one list of operations are one class; and the tests of a unit for them.
use Rattle.std.specs.Prelude.{ℕ, suc, ◌+◌, ◌-◌, Bool, true, false, List, [], ◌∷◌, ◌++◌, Option, Some, None, nat_eq, nat_le, nat_lt, ◌&&◌, if◌then◌else◌}
use Rattle.lx_auto.specs.declared.automaton.Edge.{Edge}
use Rattle.lx_auto.specs.declared.ops.Op.{Op}
use Rattle.lx_auto.specs.declared.ops.Op.TheVariants.{Here, Null, Copy, MHere, MNull, MCopy}

abbrev pub same_op : Op → Op → Bool
same_op (Here reg) (Here other) = nat_eq reg other
same_op (Null reg) (Null other) = nat_eq reg other
same_op (Copy reg source) (Copy other from) = nat_eq reg other && nat_eq source from
same_op (MHere mreg) (MHere other) = nat_eq mreg other
same_op (MNull mreg) (MNull other) = nat_eq mreg other
same_op (MCopy mreg source) (MCopy other from) = nat_eq mreg other && nat_eq source from
same_op _ _ = false

abbrev pub same_ops : List Op → List Op → Bool
same_ops [] [] = true
same_ops [] (other ∷ others) = false
same_ops (op ∷ ops) [] = false
same_ops (op ∷ ops) (other ∷ others) = same_op op other && same_ops ops others

-- the edges are of one class
abbrev pub same_class : Edge → Edge → Bool
same_class edge other = nat_eq edge.to other.to && same_ops edge.ops other.ops

abbrev pub has_class : List Edge → Edge → Bool
has_class [] edge = false
has_class (class ∷ classes) edge = if same_class class edge then true else has_class classes edge

-- the transition classes of edges, behind those that were found before: each is the first edge of it
abbrev pub classes_onto : (found : List Edge) → List Edge → List Edge
classes_onto found [] = found
classes_onto found (edge ∷ edges) = classes_onto (if has_class found edge then found else found ++ edge ∷ []) edges

abbrev pub transition_classes : List Edge → List Edge
transition_classes edges = classes_onto [] edges

-- the place of an edge's class
abbrev pub class_place : List Edge → Edge → ℕ
class_place [] edge = 0
class_place (class ∷ classes) edge = if same_class class edge then 0 else suc (class_place classes edge)

-- the place of an edge's class, if there is an edge
abbrev pub edge_class : List Edge → Option Edge → Option ℕ
edge_class classes None = None
edge_class classes (Some edge) = Some (class_place classes edge)

-- ---- units

-- units up to a greatest one are of the class at this place, or of none
pub record Stretch : Type 0 where
  pub greatest : ℕ
  pub class : Option ℕ

-- before an edge's units come those that no edge has
abbrev pub gap : (low lo : ℕ) → List Stretch → List Stretch
gap low lo stretches = if nat_lt low lo then record { greatest = lo - 1; class = None } ∷ stretches else stretches

-- the units from a lowest one on by edges, whose classes are known; behind the last edge no class is left
abbrev pub stretches : (classes : List Edge) → (low : ℕ) → List Edge → List Stretch
stretches classes low [] = []
stretches classes low (edge ∷ edges) =
    gap low edge.lo (record { greatest = edge.hi; class = Some (class_place classes edge) } ∷ stretches classes (edge.hi + 1) edges)

-- what is tested, and how the units go behind the last test
pub record Split : Type 0 where
  pub tests : List Stretch
  pub last : Option ℕ

abbrev pub same_place : Option ℕ → Option ℕ → Bool
same_place None None = true
same_place None (Some other) = false
same_place (Some place) None = false
same_place (Some place) (Some other) = nat_eq place other

-- how the first units go
abbrev pub first_class : List Stretch → (last : Option ℕ) → Option ℕ
first_class [] last = last
first_class (stretch ∷ stretches) last = stretch.class

-- a stretch before others; it is not tested apart where the next one is of the same class
abbrev pub before : Stretch → Split → Split
before stretch split =
    if same_place stretch.class (first_class split.tests split.last) then split else record { tests = stretch ∷ split.tests; last = split.last }

-- the tests for units up to a greatest one
abbrev pub split_of : (greatest : ℕ) → List Stretch → Split
split_of greatest [] = record { tests = []; last = None }
split_of greatest (stretch ∷ stretches) =
    if nat_le greatest stretch.greatest then record { tests = []; last = stretch.class } else before stretch (split_of greatest stretches)

-- the tests of a state for units up to a greatest one
abbrev pub edge_split : (greatest : ℕ) → List Edge → Split
edge_split greatest edges = split_of greatest (stretches (transition_classes edges) 0 edges)
