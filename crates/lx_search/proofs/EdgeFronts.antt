-- Edges from the first on: which units they are on, once some of them are passed.
use Rattle.std.proofs.Common.{◌≡◌, ℕ, ◌+◌, ◌<◌, ◌≤◌, List, ◌∷◌, length, get_or, drop, Some, None, refl, sym, ap, ◌∙◌, subst, arith}
use Rattle.std.proofs.lemmas.List.{drop_all, drop_more}
use Rattle.lx_auto.specs.declared.automaton.Edge.{Edge}
use Rattle.lx_auto.specs.Automaton.{AreApart, AreApartFrom, edge_on}
use Rattle.lx_auto.proofs.Edges.{edge_on-before, edge_on-here, edge_on-past}

-- the first edges are passed: the others are on no unit below `low`, and from there on they decide
pub record IsPassed (edges : List Edge) (count low : ℕ) : Type 0 where
  pub apart : AreApartFrom low (drop count edges)
  pub rest : (unit : ℕ) → low ≤ unit → edge_on edges unit ≡ edge_on (drop count edges) unit

pub passed-none : (edges : List Edge) → AreApart edges → IsPassed edges 0 0
passed-none edges apart = record { apart = apart; rest = λ unit from. refl }

module _ (edges : List Edge) (count low : ℕ) (edge : Edge) (passed : IsPassed edges count low) (within : count < length edges)
    (is : edge ≡ get_or edges count edge) where
  rest_is : drop count edges ≡ edge ∷ drop (count + 1) edges
  rest_is = drop_more edges count edge within ∙ ap (λ e. e ∷ drop (count + 1) edges) (sym is)

  apart_is : AreApartFrom low (edge ∷ drop (count + 1) edges)
  apart_is = subst (AreApartFrom low) rest_is passed.apart

  pub edge-low : low ≤ edge.lo
  edge-low = apart_is.0

  pub edge-high : edge.lo ≤ edge.hi
  edge-high = apart_is.1

  pub edge-below : (unit : ℕ) → low ≤ unit → unit < edge.lo → edge_on edges unit ≡ None
  edge-below unit from below =
      let later : AreApartFrom edge.lo (edge ∷ drop (count + 1) edges) = (omega arith, apart_is.1, apart_is.2) in
      passed.rest unit from ∙ ap (λ l. edge_on l unit) rest_is
      ∙ edge_on-before edge.lo (edge ∷ drop (count + 1) edges) unit later below

  pub edge-on : (unit : ℕ) → edge.lo ≤ unit → unit ≤ edge.hi → edge_on edges unit ≡ Some edge
  edge-on unit from to =
      let low_is : low ≤ edge.lo = edge-low in
      passed.rest unit (omega arith) ∙ ap (λ l. edge_on l unit) rest_is ∙ edge_on-here edge (drop (count + 1) edges) unit from to

  pub edges-more : IsPassed edges (count + 1) (edge.hi + 1)
  edges-more = record {
    apart = apart_is.2;
    rest = λ unit from.
        let low_is : low ≤ edge.lo = edge-low in
        let high_is : edge.lo ≤ edge.hi = edge-high in
        passed.rest unit (omega arith) ∙ ap (λ l. edge_on l unit) rest_is ∙ edge_on-past edge (drop (count + 1) edges) unit (omega arith);
  }

-- where all are passed none is on a unit
pub passed-all : (edges : List Edge) (count low unit : ℕ) → IsPassed edges count low → length edges ≤ count → low ≤ unit
    → edge_on edges unit ≡ None
passed-all edges count low unit passed all from =
    passed.rest unit from ∙ ap (λ l. edge_on l unit) (drop_all count edges all)
