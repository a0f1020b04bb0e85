-- Which scanners can be written in a piece with conditions: the ends of their rules, their checks, and the unit at the end of their input.
use Rattle.std.specs.Prelude.{◌≡◌, ℕ, ◌+◌, ◌*◌, ◌≤◌, IfSome, IsSome, List, length, Option, Some, None, true}
use Rattle.std.specs.List.{AllByRecursion, list_any}
use Rattle.lx_auto.specs.declared.automaton.Accept.{Accept}
use Rattle.lx_auto.specs.declared.automaton.State.{State}
use Rattle.lx_base.specs.Letters.{IsIdentifier, equal_words}
use Rattle.lx_base.specs.Names.{Spellings}
use Rattle.lx_ccode.specs.Validity.{IsLabel, IsLine, IsShort}
use Rattle.lx_layout.specs.Endings.{Ending}
use Rattle.lx_layout.specs.Parts.{Part}
use Rattle.lx_layout.specs.Written.{MayStand}

-- a condition that a rule goes to is an identifier, and one of these
abbrev pub IsOneOf : (conds : List (List ℕ)) → Option (List ℕ) → Type 0
IsOneOf conds None = Unit {0}
IsOneOf conds (Some cond) = IsIdentifier cond × (list_any (equal_words cond) conds ≡ true)

-- the length of an action can be written; without an action the rule goes to a condition
abbrev pub ActsOrGoes : (action goes_to : Option (List ℕ)) → Type 0
ActsOrGoes None goes_to = IsSome goes_to
ActsOrGoes (Some action) goes_to = IsShort (length action)

-- the end of a rule can be written beside these spellings, in a piece with these conditions
pub record CanBeWritten (names : Spellings) (conds : List (List ℕ)) (ending : Ending) : Type 0 where
  pub tags : MayStand names ending.slash 0 ending.tags
  pub groups : ending.groups ≤ 65
  pub goes : IsOneOf conds ending.goes_to
  pub acts : ActsOrGoes ending.action ending.goes_to
  pub line : IsLine ending.line

module _ (names : Spellings) (conds : List (List ℕ)) (endings : ℕ → Ending) where
  -- so can that of the rule with a number, and so can the number
  pub record RuleCanBeWritten (rule : ℕ) : Type 0 where
    pub short : IsShort rule
    pub ending : CanBeWritten names conds (endings rule)

  -- and that of an accept's rule; no value is held beside those of the rule's tags and groups
  pub record AcceptCanBeWritten (accept : Accept) : Type 0 where
    pub rule : RuleCanBeWritten accept.rule
    pub values : length accept.values ≤ length (endings accept.rule).tags + 2 * (endings accept.rule).groups

  -- the ends of all rules by which states accept can be written
  abbrev pub AcceptsCanBeWritten : List State → Type 0
  AcceptsCanBeWritten states = AllByRecursion (λ (state : State). IfSome state.accept AcceptCanBeWritten) states

-- a scanner can be written in such a piece
pub record PartCanBeWritten (names : Spellings) (conds : List (List ℕ)) (part : Part) : Type 0 where
  pub label : IsLabel part.given.cond
  pub checks : (number : ℕ) → IsShort (part.given.demand.check number)
  pub eof : IfSome part.given.demand.eof IsShort
  pub accepts : AcceptsCanBeWritten names conds part.given.endings part.given.auto.states
  pub end_rule : IfSome part.given.end_rule (RuleCanBeWritten names conds part.given.endings)

abbrev pub PartsCanBeWritten : Spellings → (conds : List (List ℕ)) → List Part → Type 0
PartsCanBeWritten names conds parts = AllByRecursion (PartCanBeWritten names conds) parts
