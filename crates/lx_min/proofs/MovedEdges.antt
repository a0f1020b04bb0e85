-- Edges that are moved to classes, and the edges of states that are alike.
use Rattle.std.proofs.Common.{◌≡◌, ℕ, zero, suc, ◌+◌, ◌≤◌, List, [], ◌∷◌, Option, Some, None, Bool, true, false, refl, if◌then◌else◌, Contains, sym, ◌∙◌, subst, arith}
use Rattle.std.specs.Prelude.{map, option_map}
use Rattle.lx_auto.specs.declared.automaton.Edge.{Edge}
use Rattle.lx_auto.specs.declared.automaton.State.{State}
use Rattle.lx_auto.specs.Automaton.{AreApart, AreApartFrom, edge_on, has_unit}
use Rattle.lx_auto.specs.ToldApart.{DoTheSame}
use Rattle.lx_auto.proofs.OneEdge.{edge_on-is, is-edge_on}
use Rattle.lx_auto.proofs.SameLists.{Contains-map}
use Rattle.lx_min.specs.Merges.{AreAlike, MoveAlike, moved_edge, moved_state}

-- some unit is on each edge
pub edge-unit : (low : ℕ) (edges : List Edge) (edge : Edge) → AreApartFrom low edges → Contains edges edge → edge.lo ≤ edge.hi
edge-unit low [] edge apart (place, within, is) = absurd (omega arith)
edge-unit low (first ∷ edges) edge apart (zero, within, is) = subst (λ (e : Edge). e.lo ≤ e.hi) is apart.1
edge-unit low (first ∷ edges) edge apart (suc place, within, is) =
    edge-unit (first.hi + 1) edges edge apart.2 (place, omega arith, is)

-- by the class of each state
module _ (class : ℕ → ℕ) where
  pub edge_on-moved : (edges : List Edge) (unit : ℕ)
      → edge_on (map (moved_edge class) edges) unit ≡ option_map (moved_edge class) (edge_on edges unit)
  edge_on-moved [] unit = refl
  edge_on-moved (edge ∷ edges) unit = at (has_unit edge unit) (edge_on-moved edges unit)
    where
      at : (b : Bool) → edge_on (map (moved_edge class) edges) unit ≡ option_map (moved_edge class) (edge_on edges unit)
          → (if b then Some (moved_edge class edge) else edge_on (map (moved_edge class) edges) unit)
          ≡ option_map (moved_edge class) (if b then Some edge else edge_on edges unit)
      at true rest = refl
      at false rest = rest

  pub AreApartFrom-moved : (low : ℕ) (edges : List Edge) → AreApartFrom low edges → AreApartFrom low (map (moved_edge class) edges)
  AreApartFrom-moved low [] apart = tt
  AreApartFrom-moved low (edge ∷ edges) apart = (apart.0, apart.1, AreApartFrom-moved (edge.hi + 1) edges apart.2)

  -- an edge of another state to the class to which the edge leads, and both do the same on the way
  abbrev pub HasEdgeLike : (state other : State) → Edge → Type 0
  HasEdgeLike state other edge = (second : Edge) × Contains other.edges second × DoTheSame state.leave other.leave
      × DoTheSame edge.ops second.ops × (second.to ≡ class edge.to)

  -- of two states that are alike the moved one has an edge like each edge of the other
  pub edge-moved : (state other : State) → AreApart state.edges → AreAlike class state other → (edge : Edge) → Contains state.edges edge
      → HasEdgeLike state (moved_state class other) edge
  edge-moved state other apart alike edge has =
      let nonempty = edge-unit 0 state.edges edge apart has in
      at (edge_on state.edges edge.lo) (edge_on other.edges edge.lo)
      (is-edge_on state.edges edge.lo edge apart (has, omega arith, nonempty)) refl (alike.moves edge.lo)
    where
      at : (found next : Option Edge) → found ≡ Some edge → edge_on other.edges edge.lo ≡ next → MoveAlike class state other found next
          → HasEdgeLike state (moved_state class other) edge
      at None next found on move = absurd (cc found)
      at (Some first) None found on move = absurd move
      at (Some first) (Some second) found on move =
          let same : first ≡ edge = cc found in (
            moved_edge class second,
            Contains-map (moved_edge class) other.edges second (edge_on-is other.edges edge.lo second on).0,
            move.0,
            subst (λ (e : Edge). DoTheSame e.ops second.ops) same move.1,
            sym move.2 ∙ (λ i. class (same i).to),
          )
