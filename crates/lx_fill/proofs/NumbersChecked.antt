-- The longest walks at the chosen states are checks.
use Rattle.std.proofs.Common.{◌≡◌, ℕ, ◌<◌, ◌≤◌, ◌⊎◌, inl, inr, arith, Bool, true, false, if◌then◌else◌, List, [], ◌∷◌, length, get_or, refl, sym, ap, ◌∙◌, subst}
use Rattle.std.specs.Prelude.{◌≢◌, Contains}
use Rattle.std.proofs.lemmas.Bool.{cases_Bool, cases_lt}
use Rattle.std.proofs.lemmas.List.{get_or_past}
use Rattle.lx_auto.specs.declared.automaton.Auto.{Auto}
use Rattle.lx_fill.specs.Checks.{AreChecks, Graph, Leads, by_edge, onward, Reads, ends, stops, meets, goes_on, graph_of}
use Rattle.lx_fill.specs.Longest.{AreLongest, IsLongest, mark}
use Rattle.lx_fill.specs.Search.{IsChoice, chosen_at}

-- what walks read hangs only on where numbers stand
reads-alike : (graph : Graph) (number other : ℕ → ℕ) → ((state : ℕ) → number state ≡ 0 → other state ≡ 0) → ((state : ℕ) → other state ≡ 0 → number state ≡ 0)
    → (state units : ℕ) → Reads graph number state units → Reads graph other state units
reads-alike graph number other to back state _ (ends _ none) = ends state none
reads-alike graph number other to back state _ (stops _ next m) = stops state next m
reads-alike graph number other to back state _ (meets _ next m some) = meets state next m (λ none. some (back next none))
reads-alike graph number other to back state _ (goes_on _ next units m none walk) =
    goes_on state next units m (to next none) (reads-alike graph number other to back next units walk)

-- a state on a cycle has an edge
first-edge : (graph : Graph) (state last : ℕ) → Leads graph state last → (next : ℕ) × Contains (graph state) next
first-edge graph state last (by_edge _ _ m) = (last, m)
first-edge graph state last (onward _ middle _ leads m) = first-edge graph state middle leads

one-of : (states : List ℕ) → states ≢ [] → (next : ℕ) × Contains states next
one-of [] some = absurd (some refl)
one-of (state ∷ states) some = (state, (0, omega arith, refl))

module _ (auto : Auto) (chosen : List Bool) (order known numbers : List ℕ) (choice : IsChoice (graph_of auto) (length auto.states) chosen order)
    (longest : AreLongest (graph_of auto) (length auto.states) chosen known)
    (are : (state : ℕ) → get_or numbers state 0 ≡ (if chosen_at chosen state then get_or known state 0 else 0)) where
  at_chosen : (state : ℕ) → chosen_at chosen state ≡ true → get_or numbers state 0 ≡ get_or known state 0
  at_chosen state e = are state ∙ ap (λ b. if b then get_or known state 0 else 0) e

  at_other : (state : ℕ) → chosen_at chosen state ≡ false → get_or numbers state 0 ≡ 0
  at_other state e = are state ∙ ap (λ b. if b then get_or known state 0 else 0) e

  chosen-within : (state : ℕ) → chosen_at chosen state ≡ true → state < length auto.states
  chosen-within state e = elim (cases_lt state (length auto.states)) [
    | inl lt ↦ lt
    | inr ge ↦ let fit = choice.marks.fit in let both : true ≡ false = sym e ∙ get_or_past chosen state false (omega (arith, fit)) in absurd cc
  ]

  chosen-edge : (state : ℕ) → chosen_at chosen state ≡ true → (next : ℕ) × Contains (graph_of auto state) next
  chosen-edge state e = at (choice.marks.cycle state e)
    where
      at : ((state ≡ 0) × (graph_of auto 0 ≢ [])) ⊎ Leads (graph_of auto) state state → (next : ℕ) × Contains (graph_of auto state) next
      at (inl start) = one-of (graph_of auto state) (subst (λ s. graph_of auto s ≢ []) (sym start.0) start.1)
      at (inr leads) = first-edge (graph_of auto) state state leads

  longest-at : (state : ℕ) → chosen_at chosen state ≡ true → IsLongest (graph_of auto) chosen state (get_or numbers state 0)
  longest-at state e =
      subst (λ n. IsLongest (graph_of auto) chosen state n) (sym (at_chosen state e)) (longest.longest state (chosen-within state e))

  numbered : (state : ℕ) → chosen_at chosen state ≡ true → get_or numbers state 0 ≢ 0
  numbered state e none =
      let edge = chosen-edge state e in
      let some : 1 ≤ get_or numbers state 0 = (longest-at state e).0 1 (stops state edge.0 edge.1) in
      omega (arith, none)

  only_chosen : (state : ℕ) → get_or numbers state 0 ≢ 0 → chosen_at chosen state ≡ true
  only_chosen state some = elim (cases_Bool (chosen_at chosen state)) [
    | inl e ↦ e
    | inr e ↦ absurd (some (at_other state e))
  ]

  unmarked : (state : ℕ) → get_or numbers state 0 ≡ 0 → mark chosen state ≡ 0
  unmarked state none = elim (cases_Bool (chosen_at chosen state)) [
    | inl e ↦ absurd (numbered state e none)
    | inr e ↦ ap (λ b. if b then 1 else 0) e
  ]

  unnumbered : (state : ℕ) → mark chosen state ≡ 0 → get_or numbers state 0 ≡ 0
  unnumbered state none = elim (cases_Bool (chosen_at chosen state)) [
    | inl e ↦ let one : mark chosen state ≡ 1 = ap (λ b. if b then 1 else 0) e in absurd (omega (arith, one, none))
    | inr e ↦ at_other state e
  ]

  pub numbers-checked : length numbers ≡ length auto.states → AreChecks auto numbers
  numbers-checked long = record {
    each_state = long;
    few = λ state. of_known (chosen_at chosen state) state (are state);
    start = λ some. numbered 0 (choice.marks.start some);
    cycle = λ state some other. round state other (choice.marks.cycle state (only_chosen state some));
    most = λ state some units walk.
        (longest-at state (only_chosen state some)).0 units
        (reads-alike (graph_of auto) (λ s. get_or numbers s 0) (mark chosen) unmarked unnumbered state units walk);
    exact = λ state some.
        reads-alike (graph_of auto) (mark chosen) (λ s. get_or numbers s 0) unnumbered unmarked state (get_or numbers state 0)
        (longest-at state (only_chosen state some)).1;
  }
    where
      of_known : (t : Bool) (state : ℕ) → get_or numbers state 0 ≡ (if t then get_or known state 0 else 0) → get_or numbers state 0 ≤ length auto.states
      of_known true state e = let few = longest.few state in omega (arith, e, few)
      of_known false state e = omega (arith, e)

      round : (state : ℕ) → state ≢ 0 → ((state ≡ 0) × (graph_of auto 0 ≢ [])) ⊎ Leads (graph_of auto) state state → Leads (graph_of auto) state state
      round state other (inl start) = absurd (other start.0)
      round state other (inr leads) = leads
