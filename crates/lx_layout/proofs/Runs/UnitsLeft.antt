-- The units that are left of a stream, and the edges that are on units.
use Rattle.std.specs.Prelude.{◌≡◌, ℕ, zero, suc, ◌<◌, List, [], ◌∷◌, length, drop, Contains, Some, Bool, true, false, ◌||◌, slice_get, if◌then◌else◌}
use Rattle.std.proofs.Common.{sym, ap, ◌∙◌, arith}
use Rattle.std.proofs.Math.Bool.{or-true}
use Rattle.std.specs.List.{list_any}
use Rattle.lx_auto.specs.Automaton.{edge_on, has_unit}
use Rattle.lx_auto.specs.declared.automaton.Edge.{Edge}

-- a unit that is left of a stream is the one at the cursor
pub left_unit : (pos unit : ℕ) (more stream : List ℕ) → unit ∷ more ≡ drop pos stream
    → (pos < length stream) × (slice_get stream pos ≡ Some unit) × (more ≡ drop (suc pos) stream)
left_unit zero unit more [] left = absurd (let h = left in cc)
left_unit (suc pos) unit more [] left = absurd (let h = left in cc)
left_unit zero unit more (other ∷ stream) left =
    let e : unit ≡ other = cc in let f : more ≡ stream = cc in (omega arith, ap Some (sym e), f)
left_unit (suc pos) unit more (other ∷ stream) left = let rest = left_unit pos unit more stream left in (omega (arith, rest.0), rest.1, rest.2)

-- the edge on a unit is one of the edges
pub list_any-edge_on : (test : Edge → Bool) (edges : List Edge) (unit : ℕ) (edge : Edge) → edge_on edges unit ≡ Some edge → test edge ≡ true
    → list_any test edges ≡ true
list_any-edge_on test [] unit edge on passes = absurd (cc)
list_any-edge_on test (first ∷ edges) unit edge on passes =
    by (has_unit first unit) on (λ later. list_any-edge_on test edges unit edge later passes)
  where
    by : (t : Bool) → (if t then Some first else edge_on edges unit) ≡ Some edge → (edge_on edges unit ≡ Some edge → list_any test edges ≡ true)
        → test first || list_any test edges ≡ true
    by true on again = let same : first ≡ edge = cc in ap (λ e. test e || list_any test edges) same ∙ ap (λ t. t || list_any test edges) passes
    by false on again = ap (λ t. test first || t) (again on) ∙ or-true (test first)

contains_behind : (first edge : Edge) (edges : List Edge) → Contains edges edge → Contains (first ∷ edges) edge
contains_behind first edge edges has = (suc has.0, omega (arith, has.1), has.2)

pub edge_on-one : (edges : List Edge) (unit : ℕ) (edge : Edge) → edge_on edges unit ≡ Some edge → Contains edges edge
edge_on-one [] unit edge on = absurd (cc)
edge_on-one (first ∷ edges) unit edge on = by (has_unit first unit) on (λ later. edge_on-one edges unit edge later)
  where
    by : (t : Bool) → (if t then Some first else edge_on edges unit) ≡ Some edge → (edge_on edges unit ≡ Some edge → Contains edges edge)
        → Contains (first ∷ edges) edge
    by true on again = let same : first ≡ edge = cc in (0, omega arith, same)
    by false on again = contains_behind first edge edges (again on)
