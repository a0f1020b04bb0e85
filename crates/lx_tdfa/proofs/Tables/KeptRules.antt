-- What stays within an automaton that fits the rules fits them.
use Rattle.std.proofs.Common.{◌≡◌, ℕ, zero, suc, ◌+◌, ◌<◌, ◌≤◌, List, [], ◌∷◌, length, get_or, Option, Some, None, Bool, true, false, refl, sym, ap, ◌∙◌, subst, arith, nat_le, ◌&&◌}
use Rattle.std.specs.Prelude.{All}
use Rattle.std.proofs.lemmas.Bool.{le-leb, leb-true}
use Rattle.std.proofs.lemmas.List.Elements.{All-contains, Contains-get_or}
use Rattle.lx_base.specs.Spelling.{greatest_unit}
use Rattle.lx_base.specs.declared.settings.Enc.{Enc}
use Rattle.lx_auto.specs.Automaton.{AreApartFrom, IsAuto, has_unit, state_of}
use Rattle.lx_auto.specs.SameRun.{HasSameRun}
use Rattle.lx_auto.specs.Shapes.{HasAcceptLike, HasEdgeOn, StaysWithin}
use Rattle.lx_auto.specs.declared.automaton.Accept.{Accept}
use Rattle.lx_auto.specs.declared.automaton.Auto.{Auto}
use Rattle.lx_auto.specs.declared.automaton.Edge.{Edge}
use Rattle.lx_auto.specs.declared.automaton.State.{State}
use Rattle.lx_auto.proofs.States.{state_formed}
use Rattle.lx_regex.specs.Order.{Policy}
use Rattle.lx_regex.specs.Pattern.{Pattern}
use Rattle.lx_tdfa.specs.Promise.{FitsRules, IsAutoUnder, IsByRule}
use Rattle.lx_tdfa.proofs.Tables.SameAutomata.{same_automaton}

-- ---- states by their numbers

state_of-at : (states : List State) (place : ℕ) (other : State) → place < length states → get_or states place other ≡ state_of states place
state_of-at [] place other within = absurd (omega arith)
state_of-at (state ∷ states) zero other within = refl
state_of-at (state ∷ states) (suc place) other within = state_of-at states place other (omega arith)

-- what holds of all states holds by their numbers, if it holds of a state that is not there
all-states : (P : State → Type 0) (states : List State) → P (state_of [] 0) → All P states → (number : ℕ) → P (state_of states number)
all-states P [] missing all number = missing
all-states P (state ∷ states) missing all zero = all 0 state (omega arith)
all-states P (state ∷ states) missing all (suc number) =
    all-states P states missing (λ place other within. all (suc place) other (omega arith)) number

-- ---- edges

below : (low : ℕ) (edges : List Edge) (place : ℕ) (other : Edge) → AreApartFrom low edges → place < length edges
    → (get_or edges place other).lo ≤ (get_or edges place other).hi
below low [] place other apart within = absurd (omega arith)
below low (edge ∷ edges) zero other apart within = apart.1
below low (edge ∷ edges) (suc place) other apart within = below (edge.hi + 1) edges place other apart.2 (omega arith)

-- an edge has its greatest unit
greatest-on : (edge : Edge) → edge.lo ≤ edge.hi → has_unit edge edge.hi ≡ true
greatest-on edge from = ap (λ b. b && nat_le edge.hi edge.hi) (le-leb edge.lo edge.hi from) ∙ le-leb edge.hi edge.hi (omega arith)

on-below : (edge : Edge) (unit : ℕ) → has_unit edge unit ≡ true → unit ≤ edge.hi
on-below edge unit on = at (nat_le edge.lo unit) (nat_le unit edge.hi) refl on
  where
    at : (a b : Bool) → nat_le unit edge.hi ≡ b → (a && b) ≡ true → unit ≤ edge.hi
    at true true is both = leb-true unit edge.hi is
    at true false is both = absurd (cc both)
    at false b is both = absurd (cc both)

module _ (enc : Enc) (patterns : List Pattern) (auto given : Auto) (formed : IsAuto auto) (fits : FitsRules enc patterns given)
    (within : StaysWithin given auto) where
  given-units : (number : ℕ) → All (λ (edge : Edge). edge.hi ≤ greatest_unit enc) (state_of given.states number).edges
  given-units number =
      all-states (λ (state : State). All (λ (edge : Edge). edge.hi ≤ greatest_unit enc) state.edges) given.states
      (λ place other none. absurd (omega arith)) fits.units number

  unit-fits : (unit : ℕ) → HasEdgeOn given unit → unit ≤ greatest_unit enc
  unit-fits unit (state, edge, has, on) =
      let least : unit ≤ edge.hi = on-below edge unit on in
      let most : edge.hi ≤ greatest_unit enc =
      All-contains (λ (edge : Edge). edge.hi ≤ greatest_unit enc) (state_of given.states state).edges edge (given-units state) has in
      omega arith

  edges-fit : (number : ℕ) → All (λ (edge : Edge). edge.hi ≤ greatest_unit enc) (state_of auto.states number).edges
  edges-fit number place other there =
      let edges = (state_of auto.states number).edges in
      let edge = get_or edges place other in
      unit-fits edge.hi (within.units number edge.hi edge (Contains-get_or edges place other there)
      (greatest-on edge (below 0 edges place other (state_formed auto number formed).apart there)))

  by_rule-like : (accept : Accept) → HasAcceptLike given accept → IsByRule enc patterns (Some accept)
  by_rule-like accept (state, other, is, rule, sorts) =
      let theirs : IsByRule enc patterns (Some other) =
      subst (IsByRule enc patterns) is (all-states (λ (state : State). IsByRule enc patterns state.accept) given.states tt fits.rules state) in
      (theirs.0, theirs.1, sym rule ∙ theirs.2, sym sorts ∙ theirs.3)

  accept-fits : (number : ℕ) → IsByRule enc patterns (state_of auto.states number).accept
  accept-fits number = at (state_of auto.states number).accept refl
    where
      at : (accept : Option Accept) → (state_of auto.states number).accept ≡ accept → IsByRule enc patterns accept
      at None is = tt
      at (Some accept) is = by_rule-like accept (within.accepts number accept is)

  pub FitsRules-within : FitsRules enc patterns auto
  FitsRules-within = record {
    formed = formed;
    units = λ place other there.
        subst (λ (state : State). All (λ (edge : Edge). edge.hi ≤ greatest_unit enc) state.edges)
        (sym (state_of-at auto.states place other there)) (edges-fit place);
    rules = λ place other there.
        subst (λ (state : State). IsByRule enc patterns state.accept) (sym (state_of-at auto.states place other there)) (accept-fits place);
    agreed = within.agreed fits.agreed;
  }

-- an automaton that runs as one of a rule list and stays within it is one of this list too
pub IsAutoUnder-within : (policy : Policy) (enc : Enc) (patterns : List Pattern) (auto given : Auto) → IsAutoUnder policy enc patterns given
    → IsAuto auto → HasSameRun auto given → StaysWithin given auto → IsAutoUnder policy enc patterns auto
IsAutoUnder-within policy enc patterns auto given is formed same within =
    same_automaton policy enc patterns auto given is same (FitsRules-within enc patterns auto given formed is.fits within)
