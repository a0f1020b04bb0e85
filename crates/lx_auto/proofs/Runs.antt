-- Runs unit by unit.
use Rattle.std.proofs.Common.{◌≡◌, ℕ, ◌<◌, List, [], ◌∷◌, ◌++◌, length, Option, Some, None, refl, subst, ◌∙◌}
use Rattle.lx_auto.specs.declared.automaton.Auto.{Auto}
use Rattle.lx_auto.specs.declared.automaton.Edge.{Edge}
use Rattle.lx_auto.specs.Automaton.{IsAuto, edge_on, state_of}
use Rattle.lx_auto.specs.Bank.{bank_after}
use Rattle.lx_auto.specs.Run.{Standing, and_then, at_start, behind_edge, by_edge, run, step}
use Rattle.lx_auto.proofs.Banks.{bank_after-0}
use Rattle.lx_auto.proofs.States.{edge_on-leads, state_formed}

and_then-none : (found : Option Standing) → and_then found Some ≡ found
and_then-none None = refl
and_then-none (Some standing) = refl

pub run-append : (auto : Auto) (standing : Standing) (front back : List ℕ)
    → run auto standing (front ++ back) ≡ and_then (run auto standing front) (λ next. run auto next back)
run-append auto standing [] back = refl
run-append auto standing (unit ∷ front) back = at (step auto standing unit) (λ next. run-append auto next front back)
  where
    at : (found : Option Standing) → ((next : Standing) → run auto next (front ++ back) ≡ and_then (run auto next front) (λ last. run auto last back))
        → and_then found (λ next. run auto next (front ++ back))
        ≡ and_then (and_then found (λ next. run auto next front)) (λ last. run auto last back)
    at None rest = refl
    at (Some next) rest = rest next

-- one unit more
pub run-one_more : (auto : Auto) (standing : Standing) (front : List ℕ) (unit : ℕ)
    → run auto standing (front ++ unit ∷ []) ≡ and_then (run auto standing front) (λ last. step auto last unit)
run-one_more auto standing front unit =
    run-append auto standing front (unit ∷ []) ∙ (λ i. and_then (run auto standing front) (λ last. and_then-none (step auto last unit) i))

-- a standing in a state of the automaton, with nothing in m-register 0
abbrev IsWithin : Auto → Standing → Type 0
IsWithin auto standing = (standing.state < length auto.states) × (standing.bank.mregs 0 ≡ [])

step-within : (auto : Auto) (standing : Standing) (unit : ℕ) (next : Standing) → IsAuto auto → IsWithin auto standing
    → step auto standing unit ≡ Some next → IsWithin auto next
step-within auto standing unit next is within stepped =
    at (edge_on (state_of auto.states standing.state).edges unit) refl stepped
  where
    at : (found : Option Edge) → edge_on (state_of auto.states standing.state).edges unit ≡ found
        → by_edge (state_of auto.states standing.state) standing found ≡ Some next → IsWithin auto next
    at None on stepped = absurd (cc stepped)
    at (Some edge) on stepped =
        let formed = state_formed auto standing.state is in
        let leads = edge_on-leads auto.regs auto.mregs (length auto.states) (state_of auto.states standing.state).edges unit edge formed.lead on in
        let same : behind_edge (state_of auto.states standing.state) standing edge ≡ next = cc stepped in
        let left = bank_after-0 auto.regs auto.mregs standing.offset (state_of auto.states standing.state).leave standing.bank formed.leave within.1 in
        subst (λ s. IsWithin auto s) same
        (leads.0, bank_after-0 auto.regs auto.mregs standing.offset edge.ops (bank_after standing.offset (state_of auto.states standing.state).leave standing.bank) leads.1 left)

run-within : (auto : Auto) (word : List ℕ) (standing behind : Standing) → IsAuto auto → IsWithin auto standing
    → run auto standing word ≡ Some behind → IsWithin auto behind
run-within auto [] standing behind is within ran = let same : standing ≡ behind = cc ran in subst (λ s. IsWithin auto s) same within
run-within auto (unit ∷ word) standing behind is within ran =
    at (step auto standing unit) refl ran (λ next. run-within auto word next behind is)
  where
    at : (found : Option Standing) → step auto standing unit ≡ found → and_then found (λ next. run auto next word) ≡ Some behind
        → ((next : Standing) → IsWithin auto next → run auto next word ≡ Some behind → IsWithin auto behind) → IsWithin auto behind
    at None stepped ran rest = absurd (cc ran)
    at (Some next) stepped ran rest = rest next (step-within auto standing unit next is within stepped) ran

pub run_stays : (auto : Auto) (offset : ℕ) (word : List ℕ) (behind : Standing) → IsAuto auto → run auto (at_start offset) word ≡ Some behind
    → (behind.state < length auto.states) × (behind.bank.mregs 0 ≡ [])
run_stays auto offset word behind is ran = run-within auto word (at_start offset) behind is (is.start, refl) ran
