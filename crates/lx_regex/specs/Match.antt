-- The match of a rule list on a stream, from a start on.
use Rattle.std.specs.Prelude.{◌≡◌, ℕ, ◌+◌, ◌<◌, ◌≤◌, List, [], ◌++◌, length, drop, Some, slice_get}
use Rattle.lx_base.specs.declared.settings.Enc.{Enc}
use Rattle.lx_regex.specs.Tree.{Tree}
use Rattle.lx_regex.specs.Script.{script}
use Rattle.lx_regex.specs.Order.{Policy}
use Rattle.lx_regex.specs.Least.{HasTree, IsLeast}
use Rattle.lx_regex.specs.Cut.{rule_part, BeginsMatch}
use Rattle.lx_regex.specs.Values.{Value, values_of, cursor_behind}
use Rattle.lx_regex.specs.Pattern.{Pattern, with_terms, terms_of, end_rule, sorts_of}

-- what a match answers: the number of a rule, the cursor and the values of the rule's tags; or no rule, and the cursor
pub data Outcome : Type 0 where
  matched : (rule cursor : ℕ) (values : List Value) → Outcome
  unmatched : (cursor : ℕ) → Outcome

-- the stream goes on with this word at the start
abbrev pub IsWordAt : (stream : List ℕ) (start : ℕ) → List ℕ → Type 0
IsWordAt stream start word = (rest : List ℕ) × (drop start stream ≡ word ++ rest)

-- the part of a rule, by its place among those that have an expression
abbrev pub part_at : List Pattern → (place : ℕ) → ℕ
part_at patterns place = rule_part (terms_of patterns) place

-- the rule at this place has a tree for the word
abbrev pub Takes : Enc → List Pattern → (place : ℕ) → List ℕ → Type 0
Takes enc patterns place word =
    (pattern : Pattern) × (slice_get (with_terms patterns) place ≡ Some pattern)
    × HasTree enc (part_at patterns place) pattern.term word

module _ (policy : Policy) (enc : Enc) (patterns : List Pattern) (stream : List ℕ) (start : ℕ) where
  -- there is a rule `$`, and nothing is left
  abbrev pub IsEnd : (rule : ℕ) → Type 0
  IsEnd rule = (start ≡ length stream) × (end_rule patterns ≡ Some rule)

  -- the longest word that some rule takes, and the first rule that takes it
  pub record IsLongestFirst (word : List ℕ) (place : ℕ) : Type 0 where
    pub is_word : IsWordAt stream start word
    pub takes : Takes enc patterns place word
    pub longest : (other : List ℕ) (taker : ℕ) → IsWordAt stream start other → Takes enc patterns taker other
        → length other ≤ length word
    pub first : (earlier : ℕ) → earlier < place → Takes enc patterns earlier word → ⊥

  -- the longest word that begins a match, where no word has a rule that takes it
  pub record IsLongestBegun (word : List ℕ) : Type 0 where
    pub is_word : IsWordAt stream start word
    pub begins : BeginsMatch enc (terms_of patterns) word
    pub longest : (other : List ℕ) → IsWordAt stream start other → BeginsMatch enc (terms_of patterns) other
        → length other ≤ length word
    pub untaken : (other : List ℕ) (taker : ℕ) → IsWordAt stream start other → Takes enc patterns taker other → ⊥

  -- what a rule answers with the tree that is meant: its number, the cursor, and the values of its tags
  pub record IsAnswer (pattern : Pattern) (part : ℕ) (word : List ℕ) (cursor : ℕ) (values : List Value) : Type 0 where
    pub tree : Tree pattern.term
    pub least : IsLeast policy enc part pattern.term word tree
    pub stands : cursor_behind start word (script enc part tree) pattern.slash ≡ Some cursor
    pub valued : values ≡ values_of start (script enc part tree) 0 (sorts_of pattern)

  -- At the end the rule `$`, if there is one; else the first rule that takes the longest word that any rule takes; else no rule.
  pub data IsMatch : Outcome → Type 0 where
    at_end : (rule : ℕ) → IsEnd rule → IsMatch (matched rule start [])
    by_rule : (word : List ℕ) (place : ℕ) (pattern : Pattern) (cursor : ℕ) (values : List Value)
        → ((rule : ℕ) → IsEnd rule → ⊥) → IsLongestFirst word place → slice_get (with_terms patterns) place ≡ Some pattern
        → IsAnswer pattern (part_at patterns place) word cursor values → IsMatch (matched pattern.number cursor values)
    by_none : (word : List ℕ)
        → ((rule : ℕ) → IsEnd rule → ⊥) → IsLongestBegun word → IsMatch (unmatched (start + length word))
