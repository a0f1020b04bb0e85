-- What is promised of the automaton of a rule list.
use Rattle.std.specs.Prelude.{◌≡◌, ℕ, ◌+◌, ◌<◌, ◌≤◌, ◌↔◌, List, [], map, length, Option, Some, None, All, Contains, IsSome, slice_get}
use Rattle.lx_base.specs.Spelling.{greatest_unit}
use Rattle.lx_base.specs.declared.settings.Enc.{Enc}
use Rattle.lx_auto.specs.Automaton.{IsAuto}
use Rattle.lx_auto.specs.Bank as bank
use Rattle.lx_auto.specs.Bank.{Bank}
use Rattle.lx_auto.specs.Run.{Found, Standing, found_at, found_behind, or_else, run, start_with, step}
use Rattle.lx_auto.specs.Shapes.{AreAgreed, is_history}
use Rattle.lx_auto.specs.declared.automaton.Accept.{Accept}
use Rattle.lx_auto.specs.declared.automaton.Auto.{Auto}
use Rattle.lx_auto.specs.declared.automaton.Edge.{Edge}
use Rattle.lx_auto.specs.declared.automaton.State.{State}
use Rattle.lx_regex.specs.Cut.{BeginsMatch}
use Rattle.lx_regex.specs.Kernel.{IsWord}
use Rattle.lx_regex.specs.Least.{IsLeast}
use Rattle.lx_regex.specs.Match.{Takes, part_at}
use Rattle.lx_regex.specs.Order.{Policy, greedy}
use Rattle.lx_regex.specs.Pattern.{Pattern, sorts_of, terms_of, with_terms}
use Rattle.lx_regex.specs.Script.{script}
use Rattle.lx_regex.specs.Tree.{Tree}
use Rattle.lx_regex.specs.Values.{Value, history, single, values_of}

-- a value that a run reads, as the value of a tag
abbrev pub tag_value : bank.Value → Value
tag_value (bank.single offset) = single offset
tag_value (bank.history offsets) = history offsets

module _ (enc : Enc) (patterns : List Pattern) where
  -- a state accepts by a rule of the list, with a value of its kind for each tag
  abbrev pub IsByRule : Option Accept → Type 0
  IsByRule None = Unit {0}
  IsByRule (Some accept) =
      (pattern : Pattern) × Contains (with_terms patterns) pattern × (accept.rule ≡ pattern.number)
      × (map is_history accept.values ≡ sorts_of pattern)

  -- an automaton fits a rule list: what is asked of its states, also of those that no word reaches
  pub record FitsRules (auto : Auto) : Type 0 where
    pub formed : IsAuto auto
    -- no edge has a unit over the encoding's greatest
    pub units : All (λ (state : State). All (λ (edge : Edge). edge.hi ≤ greatest_unit enc) state.edges) auto.states
    -- what is accepted is a rule of the list
    pub rules : All (λ (state : State). IsByRule state.accept) auto.states
    -- accepts of one rule hold the values of its tags in the same places
    pub agreed : AreAgreed auto.states

-- the trees that are meant are those of a policy
module _ (policy : Policy) (enc : Enc) (patterns : List Pattern) where
  -- what is found behind a word that is read from a start on: the first rule that takes the word, with its number and the values of
  -- its least tree
  pub record IsBest (start : ℕ) (word : List ℕ) (found : Found) : Type 0 where
    pub place : ℕ
    pub pattern : Pattern
    pub is : slice_get (with_terms patterns) place ≡ Some pattern
    pub first : (earlier : ℕ) → earlier < place → Takes enc patterns earlier word → ⊥
    pub rule : found.rule ≡ pattern.number
    pub offset : found.offset ≡ start + length word
    pub tree : Tree pattern.term
    pub least : IsLeast policy enc (part_at patterns place) pattern.term word tree
    pub values : map tag_value found.values ≡ values_of start (script enc (part_at patterns place) tree) 0 (sorts_of pattern)

  -- nothing is found exactly where no rule takes the word
  abbrev pub FindsBest : (start : ℕ) → (word : List ℕ) → Option Found → Type 0
  FindsBest start word None = (place : ℕ) → Takes enc patterns place word → ⊥
  FindsBest start word (Some found) = IsBest start word found

  -- The automaton of a rule list. What registers hold where a match begins is all one, but that the history of m-register 0 is empty.
  pub record IsAutoUnder (auto : Auto) : Type 0 where
    pub fits : FitsRules enc patterns auto
    -- there is a run exactly on the words that begin a match
    pub begins : (start : ℕ) (bank : Bank) (word : List ℕ) → bank.mregs 0 ≡ [] → IsWord enc (terms_of patterns) word
        → IsSome (run auto (start_with start bank) word) ↔ BeginsMatch enc (terms_of patterns) word
    -- where it stands, the first rule that takes the word is found, with the values of its best tree
    pub best : (start : ℕ) (bank : Bank) (word : List ℕ) (behind : Standing) → bank.mregs 0 ≡ []
        → run auto (start_with start bank) word ≡ Some behind → FindsBest start word (found_at auto behind)
    -- with one more unit, if nothing is found there, what was found before it is read from the registers still
    pub kept : (start : ℕ) (bank : Bank) (word : List ℕ) (behind next : Standing) (unit : ℕ) → bank.mregs 0 ≡ []
        → run auto (start_with start bank) word ≡ Some behind → step auto behind unit ≡ Some next
        → found_behind auto next ≡ or_else (found_at auto next) (found_behind auto behind)

-- the automaton of a rule list where the trees that are meant are leftmost greedy
abbrev pub IsAutoOf : Enc → List Pattern → Auto → Type 0
IsAutoOf enc patterns auto = IsAutoUnder greedy enc patterns auto
