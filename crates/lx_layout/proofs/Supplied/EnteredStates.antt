-- To which states a match comes: those to which edges lead, and those without an edge.
use Rattle.std.specs.Prelude.{◌≡◌, ℕ, zero, suc, ◌<◌, true, false, List, [], length, Option, Some, None, nat_eq, ◌||◌, refl}
use Rattle.std.proofs.Common.{ap, ◌∙◌, true≢false}
use Rattle.std.proofs.Math.Bool.{or-true}
use Rattle.std.specs.List.{list_any}
use Rattle.std.proofs.lemmas.List.Folds.{list_any_at}
use Rattle.lx_auto.specs.Automaton.{edge_on, state_of}
use Rattle.lx_auto.specs.declared.automaton.Auto.{Auto}
use Rattle.lx_auto.specs.declared.automaton.Edge.{Edge}
use Rattle.lx_auto.specs.declared.automaton.State.{State}
use Rattle.lx_layout.specs.Halting.{is_entered, is_led_to}
use Rattle.lx_layout.proofs.Runs.UnitsLeft.{list_any-edge_on}

-- where an edge leads
pub entered-edge : (end_rule : Option ℕ) (auto : Auto) (number unit : ℕ) (edge : Edge) → number < length auto.states
    → edge_on (state_of auto.states number).edges unit ≡ Some edge → is_entered end_rule auto edge.to ≡ true
entered-edge None auto number unit edge lt on = refl
entered-edge (Some rule) auto number unit edge lt on = by edge.to refl
  where
    led : edge.to ≡ 0 → is_led_to auto.states 0 ≡ true
    led zeroth =
        list_any_at (λ (state : State). list_any (λ (edge : Edge). nat_eq edge.to 0) state.edges) auto.states number
        (record { edges = []; accept = None; leave = [] }) lt
        (list_any-edge_on (λ (edge : Edge). nat_eq edge.to 0) (state_of auto.states number).edges unit edge on (ap (λ n. nat_eq n 0) zeroth))

    by : (to : ℕ) → edge.to ≡ to → is_entered (Some rule) auto to ≡ true
    by zero e =
        ap (λ t. nat_eq (length (state_of auto.states 0).edges) 0 || t) (led e) ∙ or-true (nat_eq (length (state_of auto.states 0).edges) 0)
    by (suc to) e = refl

-- a state without an edge
pub entered-lone : (end_rule : Option ℕ) (auto : Auto) (number : ℕ) → (state_of auto.states number).edges ≡ [] → is_entered end_rule auto number ≡ true
entered-lone None auto number none = refl
entered-lone (Some rule) auto zero none = ap (λ (l : List Edge). nat_eq (length l) 0 || is_led_to auto.states 0) none
entered-lone (Some rule) auto (suc number) none = refl

-- all others are state 0 behind an entry that stands apart
pub record IsBehindEntry (end_rule : Option ℕ) (auto : Auto) (number : ℕ) : Type 0 where
  pub zeroth : number ≡ 0
  pub rule : ℕ
  pub some : end_rule ≡ Some rule
  pub never : is_entered (Some rule) auto 0 ≡ false

pub behind_entry : (end_rule : Option ℕ) (auto : Auto) (number : ℕ) → is_entered end_rule auto number ≡ false → IsBehindEntry end_rule auto number
behind_entry None auto number never = absurd (true≢false never)
behind_entry (Some rule) auto zero never = record { zeroth = refl; rule = rule; some = refl; never = never }
behind_entry (Some rule) auto (suc number) never = absurd (true≢false never)
