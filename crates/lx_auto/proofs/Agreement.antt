-- Accepts that agree on the places of values, told by the numbers of states.
use Rattle.std.proofs.Common.{◌≡◌, ℕ, zero, suc, List, [], ◌∷◌, Some, refl, ap, ◌∙◌}
use Rattle.std.specs.Prelude.{slice_get}
use Rattle.lx_auto.specs.declared.automaton.Accept.{Accept}
use Rattle.lx_auto.specs.declared.automaton.State.{State}
use Rattle.lx_auto.specs.Automaton.{state_of}
use Rattle.lx_auto.specs.Shapes.{AreAgreed}

-- the same, where a state that is not there accepts nothing
abbrev pub AgreeByNumber : List State → Type 0
AgreeByNumber states =
    (number other : ℕ) (accept same : Accept) → (state_of states number).accept ≡ Some accept → (state_of states other).accept ≡ Some same
    → accept.rule ≡ same.rule → accept.values ≡ same.values

state_of-there : (states : List State) (number : ℕ) (state : State) → slice_get states number ≡ Some state → state_of states number ≡ state
state_of-there [] number state is = absurd (cc is)
state_of-there (first ∷ states) zero state is = cc is
state_of-there (first ∷ states) (suc number) state is = state_of-there states number state is

-- a state that accepts is there
pub accepting-there : (states : List State) (number : ℕ) (accept : Accept) → (state_of states number).accept ≡ Some accept
    → slice_get states number ≡ Some (state_of states number)
accepting-there [] number accept is = absurd (cc is)
accepting-there (first ∷ states) zero accept is = refl
accepting-there (first ∷ states) (suc number) accept is = accepting-there states number accept is

pub AreAgreed-by_number : (states : List State) → AreAgreed states → AgreeByNumber states
AreAgreed-by_number states agreed number other accept same accepts also rule =
    agreed number other (state_of states number) (state_of states other) accept same (accepting-there states number accept accepts)
    (accepting-there states other same also) accepts also rule

pub AreAgreed-of_numbers : (states : List State) → AgreeByNumber states → AreAgreed states
AreAgreed-of_numbers states agree number other first second accept same is also accepts others rule =
    agree number other accept same (ap (λ (s : State). s.accept) (state_of-there states number first is) ∙ accepts)
    (ap (λ (s : State). s.accept) (state_of-there states other second also) ∙ others) rule
