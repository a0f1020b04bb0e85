-- No word tells a state apart from itself, and what tells two states apart does so in either order.
use Rattle.std.proofs.Common.{◌≡◌, ℕ, List, Option, Some, None, refl, sym, ap, ◌∙◌, subst}
use Rattle.lx_auto.specs.declared.automaton.Accept.{Accept}
use Rattle.lx_auto.specs.declared.automaton.Auto.{Auto}
use Rattle.lx_auto.specs.declared.automaton.Edge.{Edge}
use Rattle.lx_auto.specs.declared.automaton.State.{State}
use Rattle.lx_auto.specs.declared.ops.Op.{Op}
use Rattle.lx_auto.specs.Automaton.{edge_on, state_of}
use Rattle.lx_auto.specs.ToldApart.{AcceptTheSame, AreToldApart, DoTheSame, MoveTheSame, by_accepts, by_moves, further_on}

pub DoTheSame-itself : (ops : List Op) → DoTheSame ops ops
DoTheSame-itself ops = λ held. refl

pub DoTheSame-turned : (ops others : List Op) → DoTheSame ops others → DoTheSame others ops
DoTheSame-turned ops others same = λ held. sym (same held)

pub AcceptTheSame-itself : (accept : Option Accept) → AcceptTheSame accept accept
AcceptTheSame-itself None = tt
AcceptTheSame-itself (Some accept) = (refl, refl, DoTheSame-itself accept.ops)

pub AcceptTheSame-turned : (accept other : Option Accept) → AcceptTheSame accept other → AcceptTheSame other accept
AcceptTheSame-turned None None same = tt
AcceptTheSame-turned None (Some other) same = absurd same
AcceptTheSame-turned (Some accept) None same = absurd same
AcceptTheSame-turned (Some accept) (Some other) (rule, values, ops) = (sym rule, sym values, DoTheSame-turned accept.ops other.ops ops)

pub MoveTheSame-itself : (state : State) (edge : Option Edge) → MoveTheSame state state edge edge
MoveTheSame-itself state None = tt
MoveTheSame-itself state (Some edge) = (DoTheSame-itself state.leave, DoTheSame-itself edge.ops)

pub MoveTheSame-turned : (state other : State) (first second : Option Edge) → MoveTheSame state other first second
    → MoveTheSame other state second first
MoveTheSame-turned state other None None same = tt
MoveTheSame-turned state other None (Some second) same = absurd same
MoveTheSame-turned state other (Some first) None same = absurd same
MoveTheSame-turned state other (Some first) (Some second) (leaves, edges) =
    (DoTheSame-turned state.leave other.leave leaves, DoTheSame-turned first.ops second.ops edges)

module _ (auto : Auto) where
  one-edge : (state unit : ℕ) (first second : Edge) → edge_on (state_of auto.states state).edges unit ≡ Some first
      → edge_on (state_of auto.states state).edges unit ≡ Some second → first ≡ second
  one-edge state unit first second is also = let both : Some first ≡ Some second = sym is ∙ also in cc

  pub AreToldApart-itself : (state other : ℕ) (word : List ℕ) → state ≡ other → AreToldApart auto state other word → ⊥
  AreToldApart-itself state other _ same (by_accepts _ _ differ) =
      differ (subst (λ s. AcceptTheSame (state_of auto.states state).accept (state_of auto.states s).accept) same
      (AcceptTheSame-itself (state_of auto.states state).accept))
  AreToldApart-itself state other _ same (by_moves _ _ unit differ) =
      differ (subst (λ s. MoveTheSame (state_of auto.states state) (state_of auto.states s) (edge_on (state_of auto.states state).edges unit)
      (edge_on (state_of auto.states s).edges unit)) same
      (MoveTheSame-itself (state_of auto.states state) (edge_on (state_of auto.states state).edges unit)))
  AreToldApart-itself state other _ same (further_on _ _ unit first second word is also apart) =
      AreToldApart-itself first.to second.to word
      (ap (λ (e : Edge). e.to) (one-edge state unit first second is
      (subst (λ s. edge_on (state_of auto.states s).edges unit ≡ Some second) (sym same) also))) apart

  pub AreToldApart-turned : (state other : ℕ) (word : List ℕ) → AreToldApart auto state other word → AreToldApart auto other state word
  AreToldApart-turned state other _ (by_accepts _ _ differ) =
      by_accepts other state (λ same. differ
      (AcceptTheSame-turned (state_of auto.states other).accept (state_of auto.states state).accept same))
  AreToldApart-turned state other _ (by_moves _ _ unit differ) =
      by_moves other state unit (λ same. differ (MoveTheSame-turned (state_of auto.states other) (state_of auto.states state)
      (edge_on (state_of auto.states other).edges unit) (edge_on (state_of auto.states state).edges unit) same))
  AreToldApart-turned state other _ (further_on _ _ unit first second word is also apart) =
      further_on other state unit second first word also is (AreToldApart-turned first.to second.to word apart)
