-- The most units over the edges of a state are those of the longest walk from it, where those from the states behind are known.
use Rattle.std.proofs.Common.{◌≡◌, ℕ, zero, suc, ◌+◌, ◌<◌, ◌≤◌, ◌⊎◌, inl, inr, arith, Bool, true, false, if◌then◌else◌, List, [], ◌∷◌, length, get_or, set, refl, sym, ap, ◌∙◌, subst}
use Rattle.std.specs.Prelude.{◌≢◌, Contains}
use Rattle.std.proofs.lemmas.Bool.{cases_Bool, cases_eq, cases_lt}
use Rattle.std.proofs.lemmas.Grind.{get_or_default_zero}
use Rattle.std.proofs.lemmas.List.{get_or-set_same, get_or-set_other}
use Rattle.std.proofs.lemmas.List.Elements.{Contains-get_or}
use Rattle.lx_fill.specs.Checks.{Graph, Reads, ends, stops, meets, goes_on}
use Rattle.lx_fill.specs.Longest.{AreLongest, IsLongest, edge_units, mark, most_units}
use Rattle.lx_fill.specs.Search.{AreChosen, IsChoice, StandsBelow, chosen_at}

module _ (chosen : List Bool) (known : List ℕ) where
  edge-marked : (next : ℕ) → chosen_at chosen next ≡ true → edge_units chosen known next ≡ 1
  edge-marked next e = ap (λ b. if b then 1 else suc (get_or known next 0)) e

  edge-plain : (next : ℕ) → chosen_at chosen next ≡ false → edge_units chosen known next ≡ suc (get_or known next 0)
  edge-plain next e = ap (λ b. if b then 1 else suc (get_or known next 0)) e

  edge-some : (next : ℕ) → 1 ≤ edge_units chosen known next
  edge-some next = elim (cases_Bool (chosen_at chosen next)) [
    | inl e ↦ omega (arith, edge-marked next e)
    | inr e ↦ omega (arith, edge-plain next e)
  ]

  most-above : (states : List ℕ) (place : ℕ) → place < length states → edge_units chosen known (get_or states place 0) ≤ most_units chosen known states
  most-above [] place lt = absurd (omega arith)
  most-above (state ∷ states) zero lt = omega arith
  most-above (state ∷ states) (suc place) lt =
      let rest : edge_units chosen known (get_or states place 0) ≤ most_units chosen known states = most-above states place (omega arith) in omega arith

  most-over : (states : List ℕ) (next : ℕ) → Contains states next → edge_units chosen known next ≤ most_units chosen known states
  most-over states next m =
      subst (λ s. edge_units chosen known s ≤ most_units chosen known states) (sym (get_or_default_zero states m.0 next m.1) ∙ m.2)
      (most-above states m.0 m.1)

  most-reached : (states : List ℕ) → (states ≡ []) ⊎ ((place : ℕ) × (place < length states) × (most_units chosen known states ≡ edge_units chosen known (get_or states place 0)))
  most-reached [] = inl refl
  most-reached (state ∷ states) = by (most-reached states) (cases_lt (edge_units chosen known state) (most_units chosen known states))
    where
      by : (states ≡ []) ⊎ ((place : ℕ) × (place < length states) × (most_units chosen known states ≡ edge_units chosen known (get_or states place 0)))
          → (edge_units chosen known state < most_units chosen known states) ⊎ (most_units chosen known states ≤ edge_units chosen known state)
          → ((state ∷ states) ≡ []) ⊎ ((place : ℕ) × (place < length (state ∷ states))
          × (most_units chosen known (state ∷ states) ≡ edge_units chosen known (get_or (state ∷ states) place 0)))
      by rest (inr ge) = inr (0, omega arith, omega arith)
      by (inl none) (inl lt) = absurd (let q : most_units chosen known states ≡ 0 = ap (most_units chosen known) none in omega arith)
      by (inr found) (inl lt) = inr (suc found.0, omega (arith, found.1), omega (arith, found.2, lt))

  pub most-bound : (bound : ℕ) → ((state : ℕ) → get_or known state 0 ≤ bound) → (states : List ℕ) → most_units chosen known states ≤ suc bound
  most-bound bound small [] = omega arith
  most-bound bound small (state ∷ states) =
      let rest : most_units chosen known states ≤ suc bound = most-bound bound small states in
      let here : get_or known state 0 ≤ bound = small state in
      elim (cases_Bool (chosen_at chosen state)) [
        | inl e ↦ omega (arith, edge-marked state e)
        | inr e ↦ omega (arith, edge-plain state e)
      ]

  -- a longest walk goes over an edge, and then is a longest one where it does not meet a chosen state
  pub longest-by_edges : (graph : Graph) (state : ℕ)
      → ((next : ℕ) → Contains (graph state) next → chosen_at chosen next ≡ false → IsLongest graph chosen next (get_or known next 0))
      → IsLongest graph chosen state (most_units chosen known (graph state))
  longest-by_edges graph state behind = (most, exact (most-reached (graph state)))
    where
      not_marked : (next : ℕ) → mark chosen next ≡ 0 → chosen_at chosen next ≡ false
      not_marked next zero_mark = elim (cases_Bool (chosen_at chosen next)) [
        | inl e ↦ absurd (let one : mark chosen next ≡ 1 = ap (λ b. if b then 1 else 0) e in omega arith)
        | inr e ↦ e
      ]

      most : (units : ℕ) → Reads graph (mark chosen) state units → units ≤ most_units chosen known (graph state)
      most _ (ends _ none) = omega arith
      most _ (stops _ next m) = let some = edge-some next in let over = most-over (graph state) next m in omega (arith, some, over)
      most _ (meets _ next m is_marked) = let some = edge-some next in let over = most-over (graph state) next m in omega (arith, some, over)
      most _ (goes_on _ next units m zero_mark walk) =
          let plain = not_marked next zero_mark in
          let le = (behind next m plain).0 units walk in
          let over = most-over (graph state) next m in
          omega (arith, le, over, edge-plain next plain)

      exact : (graph state ≡ []) ⊎ ((place : ℕ) × (place < length (graph state)) × (most_units chosen known (graph state) ≡ edge_units chosen known (get_or (graph state) place 0)))
          → Reads graph (mark chosen) state (most_units chosen known (graph state))
      exact (inl none) = subst (λ n. Reads graph (mark chosen) state n) (sym (ap (most_units chosen known) none)) (ends state none)
      exact (inr found) =
          let next = get_or (graph state) found.0 0 in
          let m : Contains (graph state) next = Contains-get_or (graph state) found.0 0 found.1 in
          elim (cases_Bool (chosen_at chosen next)) [
            | inl e ↦
                let one : mark chosen next ≡ 1 = ap (λ b. if b then 1 else 0) e in
                subst (λ n. Reads graph (mark chosen) state n) (sym (found.2 ∙ edge-marked next e)) (meets state next m (λ q. absurd (omega (arith, one, q))))
            | inr e ↦
                subst (λ n. Reads graph (mark chosen) state n) (sym (found.2 ∙ edge-plain next e))
                (goes_on state next (get_or known next 0) m (ap (λ b. if b then 1 else 0) e) (behind next m e).1)
          ]

-- the states are looked at in the order in which a search closed them
module _ (graph : Graph) (count : ℕ) (chosen : List Bool) (order known : List ℕ) (are : AreChosen graph count chosen order) (fit : length known ≡ count) (place : ℕ) (within : place < length order)
    (longest : (earlier : ℕ) → earlier < place → IsLongest graph chosen (get_or order earlier 0) (get_or known (get_or order earlier 0) 0)) where
  longest-next : IsLongest graph chosen (get_or order place 0) (most_units chosen known (graph (get_or order place 0)))
  longest-next = longest-by_edges chosen known graph (get_or order place 0) behind
    where
      behind : (next : ℕ) → Contains (graph (get_or order place 0)) next → chosen_at chosen next ≡ false → IsLongest graph chosen next (get_or known next 0)
      behind next m plain = at (are.earlier place next within m)
        where
          at : (chosen_at chosen next ≡ true) ⊎ StandsBelow order place next → IsLongest graph chosen next (get_or known next 0)
          at (inl e) = let both : true ≡ false = sym e ∙ plain in absurd cc
          at (inr stands) = subst (λ s. IsLongest graph chosen s (get_or known s 0)) stands.2 (longest stands.0 stands.1)

  pub longest-more : (earlier : ℕ) → earlier < place + 1
      → IsLongest graph chosen (get_or order earlier 0)
      (get_or (set known (get_or order place 0) (most_units chosen known (graph (get_or order place 0)))) (get_or order earlier 0) 0)
  longest-more earlier lt = elim (cases_eq (get_or order earlier 0) state) [
    | inl same ↦
        subst (λ s. IsLongest graph chosen s (get_or (set known state units) s 0)) (sym same)
        (subst (λ n. IsLongest graph chosen state n) (sym here) longest-next)
    | inr apart ↦
        let other : earlier ≢ place = λ e. apart (ap (λ k. get_or order k 0) e) in
        subst (λ n. IsLongest graph chosen (get_or order earlier 0) n) (sym (get_or-set_other known state (get_or order earlier 0) units 0 apart))
        (longest earlier (omega (arith, other)))
  ]
    where
      state : ℕ
      state = get_or order place 0

      units : ℕ
      units = most_units chosen known (graph (get_or order place 0))

      here : get_or (set known state units) state 0 ≡ units
      here = let in_states = are.within place within in get_or-set_same known state units 0 (omega (arith, fit, in_states))

pub small-more : (graph : Graph) (chosen : List Bool) (known : List ℕ) (state place : ℕ) → state < length known → ((other : ℕ) → get_or known other 0 ≤ place)
    → (other : ℕ) → get_or (set known state (most_units chosen known (graph state))) other 0 ≤ place + 1
small-more graph chosen known state place within small other = elim (cases_eq other state) [
  | inl same ↦
      let bound = most-bound chosen known place small (graph state) in
      let read = ap (λ s. get_or (set known state (most_units chosen known (graph state))) s 0) same ∙ get_or-set_same known state (most_units chosen known (graph state)) 0 within in
      omega (arith, bound, read)
  | inr apart ↦
      let read = get_or-set_other known state other (most_units chosen known (graph state)) 0 apart in
      omega (arith, read, small other)
]

pub all-longest : (graph : Graph) (count : ℕ) (chosen : List Bool) (order known : List ℕ) → IsChoice graph count chosen order → length known ≡ count
    → ((state : ℕ) → get_or known state 0 ≤ count)
    → ((place : ℕ) → place < length order → IsLongest graph chosen (get_or order place 0) (get_or known (get_or order place 0) 0))
    → AreLongest graph count chosen known
all-longest graph count chosen order known choice fit few longest = record {
  fit = fit;
  few = few;
  longest = λ state lt. let stands = choice.every state lt in
      subst (λ s. IsLongest graph chosen s (get_or known s 0)) stands.2 (longest stands.0 stands.1);
}
