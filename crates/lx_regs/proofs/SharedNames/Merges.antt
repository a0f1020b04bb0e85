-- The graph of the colours of a graph, as it is built number by number.
use Rattle.std.proofs.Common.{◌≡◌, ℕ, ◌+◌, ◌<◌, ◌≤◌, List, [], ◌∷◌, ◌++◌, Contains, sym, ◌∙◌, subst, arith}
use Rattle.std.proofs.Common.{inl, inr}
use Rattle.std.proofs.lemmas.Bool.{cases_lt}
use Rattle.std.proofs.lemmas.List.Elements.{Contains-append_left, Contains-push, Contains-push_cases}
use Rattle.std.specs.Prelude.{◌⊎◌, map, slice_index}
use Rattle.lx_auto.proofs.SameLists.{Contains-map, map-Contains}
use Rattle.lx_regs.specs.declared.graphs.Graph.{Graph}
use Rattle.lx_regs.specs.Colours.{IsMerged}
use Rattle.lx_regs.specs.Graphs.{AreNeighbours, IsGraph, IsPair, Joins, JoinsEach, list_at, size_of}

pub joins_each-pushed : (old middle new : Graph) (first : ℕ) (others : List ℕ) (second : ℕ) → JoinsEach old middle first others
    → Joins middle new first second → JoinsEach old new first (others ++ second ∷ [])
joins_each-pushed old middle new first others second each one = record {
  formed = one.graph;
  size = one.size ∙ each.size;
  joined = λ other has. joined other (Contains-push_cases others second other has);
  kept = λ number other near. one.kept number other (each.kept number other near);
  only = λ number other near. only number other (one.only number other near);
}
  where
    joined : (other : ℕ) → Contains others other ⊎ (second ≡ other) → AreNeighbours new first other
    joined other (inl before) = one.kept first other (each.joined other before)
    joined other (inr same) = subst (λ n. AreNeighbours new first n) same one.joined

    earlier : (number other : ℕ) → AreNeighbours old number other ⊎ ((last : ℕ) × Contains others last × IsPair first last number other)
        → AreNeighbours old number other ⊎ ((last : ℕ) × Contains (others ++ second ∷ []) last × IsPair first last number other)
    earlier number other (inl near) = inl near
    earlier number other (inr (last, has, pair)) = inr (last, Contains-append_left others (second ∷ []) last has, pair)

    only : (number other : ℕ) → AreNeighbours middle number other ⊎ IsPair first second number other
        → AreNeighbours old number other ⊎ ((last : ℕ) × Contains (others ++ second ∷ []) last × IsPair first last number other)
    only number other (inl near) = earlier number other (each.only number other near)
    only number other (inr pair) = inr (second, Contains-push others second, pair)

-- the graph of the colours, as far as the numbers below a bound go
pub record MergesBelow (graph : Graph) (colours : List ℕ) (bound : ℕ) (merged : Graph) : Type 0 where
  pub formed : IsGraph merged
  pub size : size_of merged ≡ size_of graph
  pub has : (number other : ℕ) → number < bound → AreNeighbours graph number other
      → AreNeighbours merged (slice_index colours number) (slice_index colours other)
  pub only : (colour other : ℕ) → AreNeighbours merged colour other
      → (number neighbour : ℕ) × AreNeighbours graph number neighbour × (slice_index colours number ≡ colour)
      × (slice_index colours neighbour ≡ other)

module _ (graph : Graph) (is : IsGraph graph) (colours : List ℕ) where
  pub merges-begin : (merged : Graph) → IsGraph merged → size_of merged ≡ size_of graph
      → ((number other : ℕ) → AreNeighbours merged number other → ⊥) → MergesBelow graph colours 0 merged
  merges-begin merged formed size none = record {
    formed = formed;
    size = size;
    has = λ number other below. absurd (omega arith);
    only = λ colour other near. absurd (none colour other near);
  }

  pub merges-pushed : (bound : ℕ) (merged new : Graph) → MergesBelow graph colours bound merged
      → JoinsEach merged new (slice_index colours bound) (map (slice_index colours) (list_at graph.neighbours.items bound))
      → MergesBelow graph colours (bound + 1) new
  merges-pushed bound merged new below each = record {
    formed = each.formed;
    size = each.size ∙ below.size;
    has = λ number other within near. has number other near (cases_lt number bound) within;
    only = λ colour other near. only colour other (each.only colour other near);
  }
    where
      here : (other : ℕ) → AreNeighbours graph bound other → AreNeighbours new (slice_index colours bound) (slice_index colours other)
      here other near =
          each.joined (slice_index colours other) (Contains-map (slice_index colours) (list_at graph.neighbours.items bound) other near)

      has : (number other : ℕ) → AreNeighbours graph number other → (number < bound) ⊎ (bound ≤ number) → number < bound + 1
          → AreNeighbours new (slice_index colours number) (slice_index colours other)
      has number other near (inl earlier) within =
          each.kept (slice_index colours number) (slice_index colours other) (below.has number other earlier near)
      has number other near (inr later) within =
          let same : bound ≡ number = omega arith in
          subst (λ n. AreNeighbours new (slice_index colours n) (slice_index colours other)) same
          (here other (subst (λ n. AreNeighbours graph n other) (sym same) near))

      from_pair : (colour other second : ℕ) → Contains (map (slice_index colours) (list_at graph.neighbours.items bound)) second
          → IsPair (slice_index colours bound) second colour other
          → (number neighbour : ℕ) × AreNeighbours graph number neighbour × (slice_index colours number ≡ colour)
          × (slice_index colours neighbour ≡ other)
      from_pair colour other second has pair =
          let found = map-Contains (slice_index colours) (list_at graph.neighbours.items bound) second has in
          at found.0 found.1 found.2 pair
        where
          at : (neighbour : ℕ) → AreNeighbours graph bound neighbour → slice_index colours neighbour ≡ second
              → IsPair (slice_index colours bound) second colour other
              → (number neighbour : ℕ) × AreNeighbours graph number neighbour × (slice_index colours number ≡ colour)
              × (slice_index colours neighbour ≡ other)
          at neighbour near colour_is (inl same) = (bound, neighbour, near, sym same.0, colour_is ∙ sym same.1)
          at neighbour near colour_is (inr same) =
              (neighbour, bound, is.both_ways bound neighbour near, colour_is ∙ sym same.0, sym same.1)

      only : (colour other : ℕ)
          → AreNeighbours merged colour other
          ⊎ ((second : ℕ) × Contains (map (slice_index colours) (list_at graph.neighbours.items bound)) second
          × IsPair (slice_index colours bound) second colour other)
          → (number neighbour : ℕ) × AreNeighbours graph number neighbour × (slice_index colours number ≡ colour)
          × (slice_index colours neighbour ≡ other)
      only colour other (inl near) = below.only colour other near
      only colour other (inr (second, has, pair)) = from_pair colour other second has pair

  pub merges-end : (bound : ℕ) (merged : Graph) → size_of graph ≤ bound → MergesBelow graph colours bound merged
      → IsMerged graph colours merged
  merges-end bound merged all below = record {
    formed = below.formed;
    size = below.size;
    has = λ number other near.
        let within = is.within other number (is.both_ways number other near) in below.has number other (omega arith) near;
    only = below.only;
  }
