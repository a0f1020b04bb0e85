-- An edge is on a unit exactly where it is one of the edges and its range has the unit.
use Rattle.std.proofs.Common.{◌≡◌, ℕ, suc, ◌≤◌, ◌↔◌, List, [], ◌∷◌, Contains, Some, Bool, true, false, refl, nat_le, ◌&&◌, if◌then◌else◌, sym, subst, arith}
use Rattle.std.proofs.lemmas.Bool.{leb-true}
use Rattle.lx_auto.specs.declared.automaton.Auto.{Auto}
use Rattle.lx_auto.specs.declared.automaton.Edge.{Edge}
use Rattle.lx_auto.specs.Automaton.{AreApart, IsAuto, edge_on, state_of}
use Rattle.lx_auto.proofs.Edges.{edge_on-found}
use Rattle.lx_auto.proofs.States.{state_formed}

abbrev pub IsOn : List Edge → ℕ → Edge → Type 0
IsOn edges unit edge = Contains edges edge × (edge.lo ≤ unit) × (unit ≤ edge.hi)

later : (first : Edge) (edges : List Edge) (unit : ℕ) (edge : Edge) → IsOn edges unit edge → IsOn (first ∷ edges) unit edge
later first edges unit edge ((place, within, is), from, to) = ((suc place, omega arith, is), from, to)

pub edge_on-is : (edges : List Edge) (unit : ℕ) (edge : Edge) → edge_on edges unit ≡ Some edge → IsOn edges unit edge
edge_on-is [] unit edge on = absurd (cc on)
edge_on-is (first ∷ edges) unit edge on =
    at (nat_le first.lo unit) (nat_le unit first.hi) refl refl on (edge_on-is edges unit edge)
  where
    at : (a b : Bool) → nat_le first.lo unit ≡ a → nat_le unit first.hi ≡ b → (if a && b then Some first else edge_on edges unit) ≡ Some edge
        → (edge_on edges unit ≡ Some edge → IsOn edges unit edge) → IsOn (first ∷ edges) unit edge
    at true true from to on rest =
        let same : first ≡ edge = cc on in
        subst (λ e. IsOn (first ∷ edges) unit e) same ((0, omega arith, refl), leb-true first.lo unit from, leb-true unit first.hi to)
    at true false from to on rest = later first edges unit edge (rest on)
    at false b from to on rest = later first edges unit edge (rest on)

pub is-edge_on : (edges : List Edge) (unit : ℕ) (edge : Edge) → AreApart edges → IsOn edges unit edge → edge_on edges unit ≡ Some edge
is-edge_on edges unit edge apart ((place, within, is), from, to) = edge_on-found edges place edge within (sym is) unit apart from to

pub one_edge : (auto : Auto) (state unit : ℕ) (edge : Edge) → IsAuto auto
    → (edge_on (state_of auto.states state).edges unit ≡ Some edge) ↔ IsOn (state_of auto.states state).edges unit edge
one_edge auto state unit edge is =
    let edges = (state_of auto.states state).edges in
    (λ on. edge_on-is edges unit edge on, λ on. is-edge_on edges unit edge (state_formed auto state is).apart on)
