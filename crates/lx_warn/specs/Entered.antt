-- Which rules are entered, by the states of an automaton that words lead to.
use Rattle.std.specs.Prelude.{◌≡◌, ℕ, zero, suc, ◌<◌, ◌⊎◌, List, [], ◌∷◌, ◌++◌, Option, Some, None, Bool, true, false, ◌==◌, ◌&&◌, Contains, if◌then◌else◌}
use Rattle.std.specs.List.{list_any}
use Rattle.lx_auto.specs.Automaton.{state_of}
use Rattle.lx_auto.specs.MetStates.{is_marked}
use Rattle.lx_auto.specs.declared.automaton.Accept.{Accept}
use Rattle.lx_auto.specs.declared.automaton.Auto.{Auto}
use Rattle.lx_auto.specs.declared.automaton.Edge.{Edge}
use Rattle.lx_base.specs.declared.settings.Enc.{Enc}
use Rattle.lx_search.specs.Scopes.{accepts}
use Rattle.lx_warn.specs.Graph.{IsGap}
use Rattle.lx_warn.specs.declared.lists.Warning.TheVariants.{Unreachable, Empty, Undefined}
use Rattle.lx_warn.specs.declared.lists.Warning.{Warning}

-- the number of the rule that is accepted
abbrev pub number_of : Option Accept → Option ℕ
number_of None = None
number_of (Some accept) = Some accept.rule

-- whether a later state than the start, or the start where it counts
abbrev pub counts : (start : Bool) → (state : ℕ) → Bool
counts start zero = start
counts start (suc state) = true

module _ (auto : Auto) (marks : List Bool) where
  -- the rule that is entered by a state that is marked
  abbrev pub rule_at : (start : Bool) → (state : ℕ) → Option ℕ
  rule_at start state = if is_marked marks state && counts start state then number_of (state_of auto.states state).accept else None

  -- the state is marked and has an edge to the start
  abbrev pub LeadsToStart : (state : ℕ) → Type 0
  LeadsToStart state = (is_marked marks state ≡ true) × ((edge : Edge) × Contains (state_of auto.states state).edges edge × (edge.to ≡ 0))

  -- some state does
  abbrev pub ReturnsToStart : Type 0
  ReturnsToStart = (state : ℕ) × LeadsToStart state

module _ (enc : Enc) (auto : Auto) where
  -- on some unit the start has no edge, or one to a state that accepts nothing
  abbrev pub MayStopAtOnce : Type 0
  MayStopAtOnce =
      ((unit : ℕ) × IsGap auto enc 0 unit)
      ⊎ ((edge : Edge) × Contains (state_of auto.states 0).edges edge × (accepts auto edge.to ≡ false))

  -- the start enters its rule: there is no rule at the end of the input, or it may stop at once, or a state leads back to it
  abbrev pub StartEnters : (marks : List Bool) → (at_end : Option ℕ) → Type 0
  StartEnters marks at_end = (at_end ≡ None) ⊎ (MayStopAtOnce ⊎ ReturnsToStart auto marks)

-- the number is the first one's, or a state below the bound enters its rule
abbrev pub IsEnteredBelow : (rule : ℕ → Option ℕ) → (at_end : Option ℕ) → (bound number : ℕ) → Type 0
IsEnteredBelow rule at_end bound number = (at_end ≡ Some number) ⊎ ((state : ℕ) × (state < bound) × (rule state ≡ Some number))

-- these are the numbers of the rules that are entered, by states below the bound
pub record AreEntered (rule : ℕ → Option ℕ) (at_end : Option ℕ) (bound : ℕ) (numbers : List ℕ) : Type 0 where
  pub sound : (number : ℕ) → Contains numbers number → IsEnteredBelow rule at_end bound number
  pub complete : (number : ℕ) → IsEnteredBelow rule at_end bound number → Contains numbers number

-- the number of a rule as a list, if there is one
abbrev pub listed : Option ℕ → List ℕ
listed None = []
listed (Some number) = number ∷ []

-- the number is one of some
abbrev pub has_number : List ℕ → (number : ℕ) → Bool
has_number numbers number = list_any (λ other. other == number) numbers

-- the number is this one, if there is one
abbrev pub is_number : Option ℕ → (number : ℕ) → Bool
is_number None number = false
is_number (Some other) number = other == number

-- the warnings of the rule with a number, where these are entered, and this is the rule of the start
abbrev pub warnings_of : (entered : List ℕ) → (start : Option ℕ) → (number : ℕ) → List Warning
warnings_of entered start number =
    if has_number entered number then (if is_number start number then Empty number ∷ [] else []) else Unreachable number ∷ []

-- the warning of a word, if there is one
abbrev pub word_warnings : Option (List ℕ) → List Warning
word_warnings None = []
word_warnings (Some word) = Undefined word ∷ []

-- those of several rules
abbrev pub rule_warnings : (entered : List ℕ) → (start : Option ℕ) → (numbers : List ℕ) → List Warning
rule_warnings entered start [] = []
rule_warnings entered start (number ∷ numbers) = warnings_of entered start number ++ rule_warnings entered start numbers
