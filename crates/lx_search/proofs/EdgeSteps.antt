-- How a search goes on by the edges of an automaton.
use Rattle.std.proofs.Common.{◌≡◌, inl, inr, ℕ, suc, ◌+◌, ◌<◌, ◌≤◌, [], ◌∷◌, ◌++◌, length, get_or, set, Some, None, true, false, sym, ap, ◌∙◌, subst, arith}
use Rattle.std.proofs.lemmas.Bool.{cases_lt}
use Rattle.lx_auto.specs.Automaton.{state_of}
use Rattle.lx_auto.specs.MetStates.{is_marked}
use Rattle.lx_auto.specs.declared.automaton.Auto.{Auto}
use Rattle.lx_auto.specs.declared.automaton.Edge.{Edge}
use Rattle.lx_search.proofs.EdgeFronts.{IsPassed, edge-below, edge-high, edge-low, edge-on, edges-more, passed-all}
use Rattle.lx_search.proofs.Scopes.{next_in-leads, next_in-none, next_in-some}
use Rattle.lx_search.proofs.SearchSteps.{at-front, found-more, next-place, passed-on, stands-last}
use Rattle.lx_search.specs.Found.{found_at}
use Rattle.lx_search.specs.Progress.{Extends, IsAtEdge, IsSearch, IsSearchOf, Stands}
use Rattle.lx_search.specs.Scopes.{is_outside, next_in}
use Rattle.lx_search.specs.declared.scope.Scope.{Scope}
use Rattle.lx_search.specs.declared.search.Found.{Found}
use Rattle.lx_search.specs.declared.search.Search.{Search}
use Rattle.lx_tdfa.specs.KernelStates.{next, target_of}

-- ---- an edge

module _ (scope : Scope) (auto : Auto) (search : Search) (place : ℕ) (edge : Edge) (at : IsAtEdge scope auto search place edge) where
  abbrev here : ℕ
  here = (found_at search.found.items place).state

  abbrev new : Found
  new = record { state = edge.to; parent = place; unit = edge.lo }

  -- where a unit up to the edge's last leads, the edge does
  leads-by : (unit state : ℕ) → at.bound ≤ unit → unit < edge.hi + 1 → next_in scope auto here unit ≡ Some state
      → (edge.to ≡ state) × (is_outside scope auto state ≡ false)
  leads-by unit state from to leads = elim (cases_lt unit edge.lo) [
    | inl below ↦ absurd (never (sym (next_in-none scope auto here unit (at.below unit from below)) ∙ leads))
    | inr ge ↦
        let led = next_in-leads scope auto here unit state leads in
        let both : Some edge.to ≡ Some state = sym (at.on unit ge (omega arith)) ∙ led.0 in (cc, led.1)
  ]
    where
      never : None ≡ Some state → ⊥
      never is_some = cc

  take-stands : ((state : ℕ) → edge.to ≡ state → is_outside scope auto state ≡ false → Stands search.found.items state)
      → IsSearch scope auto search place (edge.hi + 1)
  take-stands stand =
      let low : at.bound ≤ edge.lo = at.low in
      let high : edge.lo ≤ edge.hi = at.high in
      passed-on (next_in scope auto) (length auto.states) search.marks.items search.found.items place at.bound (edge.hi + 1) at.so_far (omega arith)
      (λ unit state from to leads. let led = leads-by unit state from to leads in stand state led.0 led.1)

  pub take-marked : is_marked search.marks.items edge.to ≡ true → IsSearch scope auto search place (edge.hi + 1)
  take-marked marked =
      take-stands (λ state same inside. subst (Stands search.found.items) same (at.so_far.listed edge.to marked))

  pub take-outside : is_outside scope auto edge.to ≡ true → IsSearch scope auto search place (edge.hi + 1)
  take-outside outside = take-stands (λ state same inside. absurd (never state same inside))
    where
      never : (state : ℕ) → edge.to ≡ state → is_outside scope auto state ≡ false → ⊥
      never state same inside = let both : true ≡ false = sym outside ∙ ap (is_outside scope auto) same ∙ inside in cc

  pub take-new : is_marked search.marks.items edge.to ≡ false → is_outside scope auto edge.to ≡ false
      → IsSearchOf (next_in scope auto) (length auto.states) (set search.marks.items edge.to true)
      (search.found.items ++ new ∷ []) place (edge.hi + 1)
  take-new unmarked inside =
      let high : edge.lo ≤ edge.hi = at.high in
      let low : at.bound ≤ edge.lo = at.low in
      let one = found-more (next_in scope auto) (length auto.states) search.marks.items search.found.items place at.bound edge.lo edge.to at.so_far
      at.within low at.target unmarked
      (λ unit from below. next_in-none scope auto here unit (at.below unit from below))
      (next_in-some scope auto here edge.lo edge.to (at.on edge.lo (omega arith) high) inside) in
      passed-on (next_in scope auto) (length auto.states) (set search.marks.items edge.to true) (search.found.items ++ new ∷ []) place (suc edge.lo)
      (edge.hi + 1) one (omega arith)
      (λ unit state from to steps.
      let led = leads-by unit state (omega arith) to
      (subst (λ (f : Found). next_in scope auto f.state unit ≡ Some state) (at-front search.found.items new place at.within) steps) in
      subst (Stands (search.found.items ++ new ∷ [])) led.0 (stands-last search.found.items new))

-- ---- the edges of a place

-- so many edges of the state at a place are passed
pub record IsPassing (scope : Scope) (auto : Auto) (search : Search) (place state count : ℕ) : Type 0 where
  pub bound : ℕ
  pub so_far : IsSearch scope auto search place bound
  pub within : place < length search.found.items
  pub here : (found_at search.found.items place).state ≡ state
  pub passed : IsPassed (state_of auto.states state).edges count bound

module _ (scope : Scope) (auto : Auto) (search : Search) (place state count : ℕ) (edge : Edge)
    (is : IsPassing scope auto search place state count) (lt : count < length (state_of auto.states state).edges)
    (read : edge ≡ get_or (state_of auto.states state).edges count edge) where
  pub at-edge : edge.to < length auto.states → IsAtEdge scope auto search place edge
  at-edge target = record {
    bound = is.bound;
    so_far = is.so_far;
    within = is.within;
    low = edge-low (state_of auto.states state).edges count is.bound edge is.passed lt read;
    high = edge-high (state_of auto.states state).edges count is.bound edge is.passed lt read;
    target = target;
    below = λ unit from below.
        ap (λ s. next auto s unit) is.here
        ∙ ap target_of (edge-below (state_of auto.states state).edges count is.bound edge is.passed lt read unit from below);
    on = λ unit from to.
        ap (λ s. next auto s unit) is.here
        ∙ ap target_of (edge-on (state_of auto.states state).edges count is.bound edge is.passed lt read unit from to);
  }

  pub passing-more : (after : Search) → IsSearch scope auto after place (edge.hi + 1) → Extends search after
      → IsPassing scope auto after place state (count + 1)
  passing-more after so_far extends =
      let long : length search.found.items ≤ length after.found.items = extends.long in
      let before : place < length search.found.items = is.within in
      record {
        bound = edge.hi + 1;
        so_far = so_far;
        within = omega arith;
        here = ap (λ (f : Found). f.state) (extends.same place is.within) ∙ is.here;
        passed = edges-more (state_of auto.states state).edges count is.bound edge is.passed lt read;
      }

pub passing-all : (scope : Scope) (auto : Auto) (search : Search) (place state count : ℕ) → IsPassing scope auto search place state count
    → length (state_of auto.states state).edges ≤ count → IsSearch scope auto search (place + 1) 0
passing-all scope auto search place state count is all =
    next-place (next_in scope auto) (length auto.states) search.marks.items search.found.items place is.bound is.so_far
    (λ unit from. next_in-none scope auto (found_at search.found.items place).state unit
    (ap (λ s. next auto s unit) is.here
    ∙ ap target_of (passed-all (state_of auto.states state).edges count is.bound unit is.passed all from)))
