-- The checks of an automaton are enough, with those of the states to which no match comes.
use Rattle.std.specs.Prelude.{◌≡◌, ◌≢◌, ℕ, suc, ◌≤◌, Bool, true, false, ◌&&◌, not, nat_eq, List, [], ◌∷◌, length, slice_index, Contains, refl, if◌then◌else◌}
use Rattle.std.proofs.Common.{◌∙◌, ap, arith, subst, sym, eqb-true}
use Rattle.std.proofs.lemmas.Bool.{eqb-false, ne_eqb}
use Rattle.lx_auto.specs.declared.automaton.Auto.{Auto}
use Rattle.lx_fill.specs.Checks.{AreChecks, Graph, Reads, ends, goes_on, graph_of, meets, stops}
use Rattle.lx_layout.specs.Parts.{checked}
use Rattle.lx_layout.specs.RightInMode.{AreEnough}

-- the same numbers let the same walks read
reads_alike : (graph : Graph) (number other : ℕ → ℕ) → ((state : ℕ) → number state ≡ other state) → (state units : ℕ)
    → Reads graph number state units → Reads graph other state units
reads_alike graph number other same state units (ends at none) = ends at none
reads_alike graph number other same state units (stops at next has) = stops at next has
reads_alike graph number other same state units (meets at next has some) = meets at next has (λ e. some (same next ∙ e))
reads_alike graph number other same state units (goes_on at next rest has none h) =
    goes_on at next rest has (sym (same next) ∙ none) (reads_alike graph number other same next rest h)

module _ (graph : Graph) (number : ℕ → ℕ) where
  nothing : (state next : ℕ) → graph state ≡ [] → Contains (graph state) next → ⊥
  nothing state next none has =
      let h : Contains [] next = subst (λ l. Contains l next) none has in
      omega (arith, h.1)

  -- without an edge no unit is read
  reads_none : (state units : ℕ) → graph state ≡ [] → Reads graph number state units → units ≡ 0
  reads_none state units none (ends at is) = refl
  reads_none state units none (stops at next has) = absurd (nothing at next none has)
  reads_none state units none (meets at next has some) = absurd (nothing at next none has)
  reads_none state units none (goes_on at next rest has is h) = absurd (nothing at next none has)

  -- where all states but one without an edge have a number, one unit is enough
  reads_one : (state units : ℕ) → graph 0 ≡ [] → ((other : ℕ) → number other ≡ 0 → other ≡ 0) → Reads graph number state units → units ≤ 1
  reads_one state units none first (ends at is) = omega arith
  reads_one state units none first (stops at next has) = omega arith
  reads_one state units none first (meets at next has some) = omega arith
  reads_one state units none first (goes_on at next rest has is h) =
      let z : rest ≡ 0 = reads_none next rest (subst (λ n. graph n ≡ []) (sym (first next is)) none) h in
      omega (arith, z)

module _ (auto : Auto) (checks : List ℕ) (are : AreChecks auto checks) where
  pub no_edge : slice_index checks 0 ≡ 0 → graph_of auto 0 ≡ []
  no_edge zeroth = by (graph_of auto 0) refl
    where
      by : (list : List ℕ) → graph_of auto 0 ≡ list → graph_of auto 0 ≡ []
      by [] e = e
      by (next ∷ others) e = absurd (are.start (λ none. let clash = sym e ∙ none in cc) zeroth)

  -- where the start has no edge it has no number
  pub no_check : graph_of auto 0 ≡ [] → slice_index checks 0 ≡ 0
  no_check none = by (nat_eq (slice_index checks 0) 0) refl
    where
      by : (t : Bool) → nat_eq (slice_index checks 0) 0 ≡ t → slice_index checks 0 ≡ 0
      by true e = eqb-true (slice_index checks 0) 0 e
      by false e = reads_none (graph_of auto) (slice_index checks) 0 (slice_index checks 0) none (are.exact 0 (eqb-false (slice_index checks 0) 0 e))

  -- no check is for more units than there are states
  pub checks_few : (number : ℕ) → checked checks number ≤ suc (length auto.states)
  checks_few number = by (nat_eq (slice_index checks 0) 0 && not (nat_eq number 0))
    where
      by : (t : Bool) → (if t then 1 else slice_index checks number) ≤ suc (length auto.states)
      by true = omega arith
      by false = let few = are.few number in omega (arith, few)

  if_some : (t : Bool) (number : ℕ) → t ≡ false → (if t && not (nat_eq number 0) then 1 else slice_index checks number) ≡ slice_index checks number
  if_some false number e = refl
  if_some true number e = absurd (cc)

  if_none : (t u : Bool) (number : ℕ) → t ≡ true → u ≡ false → (if t && not u then 1 else slice_index checks number) ≡ 1
  if_none true false number e f = refl
  if_none true true number e f = absurd (cc)
  if_none false u number e f = absurd (cc)

  if_start : (t u : Bool) → u ≡ true → (if t && not u then 1 else slice_index checks 0) ≡ slice_index checks 0
  if_start true true e = refl
  if_start false true e = refl
  if_start t false e = absurd (cc)

  -- that of the start is that of the list
  of_start : checked checks 0 ≡ slice_index checks 0
  of_start = if_start (nat_eq (slice_index checks 0) 0) (nat_eq 0 0) refl

  pub checks_enough : AreEnough auto (checked checks)
  checks_enough = by (nat_eq (slice_index checks 0) 0) refl
    where
      by : (t : Bool) → nat_eq (slice_index checks 0) 0 ≡ t → AreEnough auto (checked checks)
      by false some =
          let same : (state : ℕ) → checked checks state ≡ slice_index checks state
          = λ state. if_some (nat_eq (slice_index checks 0) 0) state some in
          record {
            start = λ edge e. are.start edge (sym of_start ∙ e);
            most = λ state checks_some others reads.
                subst (λ n. others ≤ n) (sym (same state))
                (are.most state (λ e. checks_some (same state ∙ e)) others
                (reads_alike (graph_of auto) (checked checks) (slice_index checks) same state others reads));
          }
      by true none =
          let zeroth : slice_index checks 0 ≡ 0 = eqb-true (slice_index checks 0) 0 none in
          let one : (state : ℕ) → state ≢ 0 → checked checks state ≡ 1
          = λ state other. if_none (nat_eq (slice_index checks 0) 0) (nat_eq state 0) state none (ne_eqb state 0 other) in
          let first : (other : ℕ) → checked checks other ≡ 0 → other ≡ 0 = λ other e. zero_only (nat_eq other 0) other refl e (one other) in
          record {
            start = λ edge e. edge (no_edge zeroth);
            most = λ state some others reads.
                subst (λ n. others ≤ n) (sym (one state (λ e. some (ap (λ n. checked checks n) e ∙ of_start ∙ zeroth))))
                (reads_one (graph_of auto) (checked checks) state others (no_edge zeroth) first reads);
          }
        where
          zero_only : (t : Bool) (other : ℕ) → nat_eq other 0 ≡ t → checked checks other ≡ 0 → (other ≢ 0 → checked checks other ≡ 1) → other ≡ 0
          zero_only true other is e f = eqb-true other 0 is
          zero_only false other is e f = let one = f (eqb-false other 0 is) in absurd (let clash = sym one ∙ e in cc)
