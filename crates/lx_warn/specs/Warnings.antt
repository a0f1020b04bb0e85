-- What is warned of: rules that no stream enters, empty matches, and the first word that can go on to no match.
use Rattle.std.specs.Prelude.{◌≡◌, ◌≢◌, ◌↔◌, ℕ, ◌<◌, ◌≤◌, List, [], ◌∷◌, ◌++◌, length, Option, Some, None, Contains, slice_get}
use Rattle.std.specs.List.{AllByRecursion}
use Rattle.lx_base.specs.declared.settings.Enc.{Enc}
use Rattle.lx_regex.specs.Cut.{BeginsMatch}
use Rattle.lx_regex.specs.Kernel.{IsWord}
use Rattle.lx_regex.specs.Match.{IsMatch, Takes, matched}
use Rattle.lx_regex.specs.Order.{Policy}
use Rattle.lx_regex.specs.Pattern.{Pattern, terms_of, with_terms}
use Rattle.lx_regex.specs.Values.{Value}
use Rattle.lx_tdfa.specs.Words.{ComesBefore}
use Rattle.lx_warn.specs.declared.lists.Warning.{Warning}
use Rattle.lx_warn.specs.declared.lists.Warning.TheVariants.{Unreachable, Empty, Undefined}

-- the rule of a warning, if it is of one
abbrev pub rule_of : Warning → Option ℕ
rule_of (Unreachable number) = Some number
rule_of (Empty number) = Some number
rule_of (Undefined word) = None

-- a lesser rule comes before a greater one, and each before what is of none
abbrev pub IsLesser : Option ℕ → Option ℕ → Type 0
IsLesser None other = ⊥
IsLesser (Some number) None = Unit {0}
IsLesser (Some number) (Some other) = number < other

-- each warning comes before all behind it
abbrev pub AreInOrder : List Warning → Type 0
AreInOrder [] = Unit {0}
AreInOrder (warning ∷ warnings) =
    AllByRecursion (λ (other : Warning). IsLesser (rule_of warning) (rule_of other)) warnings × AreInOrder warnings

module _ (patterns : List Pattern) where
  -- a rule of the list has the number
  abbrev pub HasNumber : (number : ℕ) → Type 0
  HasNumber number = (pattern : Pattern) × Contains patterns pattern × (pattern.number ≡ number)

-- some stream of the encoding's units has, from some start in it on, a match by the rule with this number
pub record IsChosen (policy : Policy) (enc : Enc) (patterns : List Pattern) (number : ℕ) : Type 0 where
  pub stream : List ℕ
  pub start : ℕ
  pub cursor : ℕ
  pub values : List Value
  pub units : IsWord enc (terms_of patterns) stream
  pub within : start ≤ length stream
  pub has_match : IsMatch policy enc patterns stream start (matched number cursor values)

module _ (enc : Enc) (patterns : List Pattern) where
  -- the first rule that takes the empty word has the number
  pub record TakesEmptyFirst (number : ℕ) : Type 0 where
    pub place : ℕ
    pub pattern : Pattern
    pub is : slice_get (with_terms patterns) place ≡ Some pattern
    pub numbered : pattern.number ≡ number
    pub takes : Takes enc patterns place []
    pub first : (earlier : ℕ) → earlier < place → Takes enc patterns earlier [] → ⊥

  -- A dead word: it begins no match, each of its shorter fronts does, and no rule takes a front of it.
  pub record IsDead (word : List ℕ) : Type 0 where
    pub units : IsWord enc (terms_of patterns) word
    pub longer : word ≢ []
    pub dead : BeginsMatch enc (terms_of patterns) word → ⊥
    pub fronts : (front back : List ℕ) → word ≡ front ++ back → back ≢ [] → BeginsMatch enc (terms_of patterns) front
    pub untaken : (front back : List ℕ) (place : ℕ) → word ≡ front ++ back → Takes enc patterns place front → ⊥

  -- a dead word before which no other one comes
  pub record IsFirstDead (word : List ℕ) : Type 0 where
    pub is_dead : IsDead word
    pub first : (other : List ℕ) → IsDead other → ComesBefore other word → ⊥

-- The warnings of a rule list: each rule that no stream enters; the rule of the empty match, if some stream has that; the first dead
-- word, if there is one; and no other, in the order of the rules' numbers, with the word last.
pub record AreWarnings (policy : Policy) (enc : Enc) (patterns : List Pattern) (list : List Warning) : Type 0 where
  pub unreachable : (number : ℕ) → Contains list (Unreachable number)
      ↔ (HasNumber patterns number × (IsChosen policy enc patterns number → ⊥))
  pub empty : (number : ℕ) → Contains list (Empty number)
      ↔ (TakesEmptyFirst enc patterns number × IsChosen policy enc patterns number)
  pub undefined : (word : List ℕ) → Contains list (Undefined word) ↔ IsFirstDead enc patterns word
  pub order : AreInOrder list
