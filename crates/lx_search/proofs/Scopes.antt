-- Where a unit leads through states within a scope.
use Rattle.std.proofs.Common.{◌≡◌, ℕ, Option, Some, None, Bool, true, false, refl, ap, ◌∙◌, subst, if◌then◌else◌}
use Rattle.lx_auto.specs.declared.automaton.Auto.{Auto}
use Rattle.lx_search.specs.Scopes.{accepts, is_outside, next_in, quiet}
use Rattle.lx_search.specs.declared.scope.Scope.TheVariants.{Every, Quiet}
use Rattle.lx_search.specs.declared.scope.Scope.{Scope}
use Rattle.lx_tdfa.specs.KernelStates.{next}

pub quiet-leads : (auto : Auto) (found : Option ℕ) (state : ℕ) → quiet auto found ≡ Some state → (found ≡ Some state) × (accepts auto state ≡ false)
quiet-leads auto None state is = absurd (cc is)
quiet-leads auto (Some other) state is = at (accepts auto other) refl is
  where
    at : (b : Bool) → accepts auto other ≡ b → (if b then None else Some other) ≡ Some state
        → (Some other ≡ Some state) × (accepts auto state ≡ false)
    at true is_so led = absurd (cc led)
    at false is_so led = (led, let same : other ≡ state = cc led in subst (λ s. accepts auto s ≡ false) same is_so)

pub next_in-leads : (scope : Scope) (auto : Auto) (state unit to : ℕ) → next_in scope auto state unit ≡ Some to
    → (next auto state unit ≡ Some to) × (is_outside scope auto to ≡ false)
next_in-leads Every auto state unit to leads = (leads, refl)
next_in-leads Quiet auto state unit to leads = quiet-leads auto (next auto state unit) to leads

pub next_in-none : (scope : Scope) (auto : Auto) (state unit : ℕ) → next auto state unit ≡ None → next_in scope auto state unit ≡ None
next_in-none Every auto state unit none = none
next_in-none Quiet auto state unit none = ap (quiet auto) none

pub next_in-some : (scope : Scope) (auto : Auto) (state unit to : ℕ) → next auto state unit ≡ Some to → is_outside scope auto to ≡ false
    → next_in scope auto state unit ≡ Some to
next_in-some Every auto state unit to leads inside = leads
next_in-some Quiet auto state unit to leads inside = ap (quiet auto) leads ∙ ap (λ b. if b then None else Some to) inside
