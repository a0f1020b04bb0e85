-- On a cycle without a number walks read any number of units, so none is reached from a state for which units suffice.
use Rattle.std.proofs.Common.{◌≡◌, ℕ, zero, suc, ◌<◌, ◌≤◌, ◌⊎◌, inl, inr, List, [], length, sym, ap, ◌∙◌, subst, arith}
use Rattle.std.specs.Prelude.{◌≢◌, Contains, slice_index}
use Rattle.std.proofs.lemmas.Bool.{cases_eq}
use Rattle.lx_auto.specs.declared.automaton.Auto.{Auto}
use Rattle.lx_fill.specs.Checks.{AreChecks, Graph, Leads, by_edge, onward, LeadsUnchecked, unchecked_edge, unchecked_onward, Reads, goes_on, graph_of, stops}

module _ (graph : Graph) (number : ℕ → ℕ) where
  -- some walk from the state reads so many units or more
  abbrev ReadsAbove : ℕ → ℕ → Type 0
  ReadsAbove state units = (more : ℕ) × (units ≤ more) × Reads graph number state more

  along : (state last : ℕ) → LeadsUnchecked graph number state last → (units : ℕ) → Reads graph number last units → ReadsAbove state (suc units)
  along state last (unchecked_edge _ _ m none) units walk = (suc units, omega arith, goes_on state last units m none walk)
  along state last (unchecked_onward _ middle _ leads m none) units walk =
      let longer = along state middle leads (suc units) (goes_on middle last units m none walk) in (longer.0, omega (arith, longer.1), longer.2)

  first_edge : (state last : ℕ) → LeadsUnchecked graph number state last → (next : ℕ) × Contains (graph state) next
  first_edge state last (unchecked_edge _ _ m none) = (last, m)
  first_edge state last (unchecked_onward _ middle _ leads m none) = first_edge state middle leads

  ends_unchecked : (state last : ℕ) → LeadsUnchecked graph number state last → number last ≡ 0
  ends_unchecked state last (unchecked_edge _ _ m none) = none
  ends_unchecked state last (unchecked_onward _ middle _ leads m none) = none

  around : (state : ℕ) → LeadsUnchecked graph number state state → (units : ℕ) → ReadsAbove state units
  around state cycle zero = let edge = first_edge state state cycle in (1, omega arith, stops state edge.0 edge.1)
  around state cycle (suc units) =
      let before = around state cycle units in
      let longer = along state state cycle before.0 before.2 in
      (longer.0, omega (arith, longer.1, before.1), longer.2)

  -- a state with a number from which all is read that is read from this state
  abbrev HasSource : ℕ → Type 0
  HasSource state = (source : ℕ) × (number source ≢ 0) × ((units : ℕ) → Reads graph number state units → ReadsAbove source units)

  itself : (state : ℕ) → number state ≢ 0 → HasSource state
  itself state some = (state, some, λ units walk. (units, omega arith, walk))

  onto : (state next : ℕ) → HasSource state → Contains (graph state) next → HasSource next
  onto state next source m = elim (cases_eq (number next) 0) [
    | inl none ↦ (
      source.0,
      source.1,
      λ units walk.
          let longer = source.2 (suc units) (goes_on state next units m none walk) in (longer.0, omega (arith, longer.1), longer.2),
    )
    | inr some ↦ itself next some
  ]

  reached : number 0 ≢ 0 → (state : ℕ) → Leads graph 0 state → HasSource state
  reached start state (by_edge _ _ m) = onto 0 state (itself 0 start) m
  reached start state (onward _ last _ leads m) = onto last state (reached start last leads) m

  leaves_start : (state : ℕ) → Leads graph 0 state → (next : ℕ) × Contains (graph 0) next
  leaves_start state (by_edge _ _ m) = (state, m)
  leaves_start state (onward _ last _ leads m) = leaves_start last leads

has_edges : (states : List ℕ) (next : ℕ) → Contains states next → states ≢ []
has_edges states next m none = let within : m.0 < 0 = subst (λ l. m.0 < length l) none m.1 in omega arith

pub reached_cycle-checked : (auto : Auto) (checks : List ℕ) (state : ℕ) → AreChecks auto checks → (state ≡ 0) ⊎ Leads (graph_of auto) 0 state
    → LeadsUnchecked (graph_of auto) (slice_index checks) state state → ⊥
reached_cycle-checked auto checks state are reaches cycle = at reaches
  where
    graph : Graph
    graph = graph_of auto

    number : ℕ → ℕ
    number = slice_index checks

    no_source : HasSource graph number state → ⊥
    no_source source =
        let long = around graph number state cycle (suc (number source.0)) in
        let longer = source.2 long.0 long.2 in
        let most = are.most source.0 source.1 longer.0 longer.2 in
        omega (arith, long.1, longer.1, most)

    at : (state ≡ 0) ⊎ Leads graph 0 state → ⊥
    at (inl is_start) =
        let edge = first_edge graph number state state cycle in
        let some = has_edges (graph state) edge.0 edge.1 in
        are.start (subst (λ s. graph s ≢ []) is_start some) (ap number (sym is_start) ∙ ends_unchecked graph number state state cycle)
    at (inr leads) =
        let edge = leaves_start graph number state leads in
        no_source (reached graph number (are.start (has_edges (graph 0) edge.0 edge.1)) state leads)
