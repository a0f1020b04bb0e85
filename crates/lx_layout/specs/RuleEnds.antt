-- What the rules of a scanner do at their ends, as the code has it.
use Rattle.std.specs.Prelude.{◌≡◌, ℕ, ◌+◌, ◌*◌, ◌≤◌, List, [], ◌∷◌, length, Option, None, IsSome, false, nat_eq, if◌then◌else◌}
use Rattle.lx_auto.specs.declared.automaton.Accept.{Accept}
use Rattle.lx_auto.specs.declared.automaton.Held.{Held}
use Rattle.lx_layout.specs.Endings.{Ending}
use Rattle.lx_layout.specs.NumberIndexes.{first_place, noted_place}
use Rattle.lx_layout.specs.Rules.{names_of}
use Rattle.lx_layout.specs.declared.rule_ends.EndIndex.{EndIndex}
use Rattle.lx_layout.specs.declared.rule_ends.RuleEnd.{RuleEnd}

abbrev pub ending_of : RuleEnd → Ending
ending_of end = record {
  tags = names_of end.rule.now.tags;
  slash = end.rule.now.slash;
  groups = end.rule.now.groups;
  goes_to = end.goes.now;
  action = end.action.now;
  line = end.line;
  forgets = false;
}

-- where there is no rule
abbrev pub no_ending : Ending
no_ending = record { tags = []; slash = None; groups = 0; goes_to = None; action = None; line = None; forgets = false }

-- the ending of the first rule with a number
abbrev pub endings_of : List RuleEnd → (number : ℕ) → Ending
endings_of [] number = no_ending
endings_of (end ∷ ends) number = if nat_eq number end.rule.now.number then ending_of end else endings_of ends number

-- its place
abbrev pub end_place : List RuleEnd → (number : ℕ) → Option ℕ
end_place ends number = first_place (λ (end : RuleEnd). end.rule.now.number) ends number

-- some rule has this number
abbrev pub HasEnd : List RuleEnd → (number : ℕ) → Type 0
HasEnd ends number = IsSome (end_place ends number)

-- the index has the places of the rules
abbrev pub AreEndsIndexed : EndIndex → Type 0
AreEndsIndexed index = (number : ℕ) → noted_place index.places number ≡ end_place index.ends.now number

-- the end of a rule is told, and each of its tags and groups has a value
pub record IsToldRule (ends : List RuleEnd) (rule : ℕ) (held : List Held) : Type 0 where
  pub end : HasEnd ends rule
  pub groups : (endings_of ends rule).groups ≤ 65
  pub values : length held ≡ length (endings_of ends rule).tags + 2 * (endings_of ends rule).groups

-- so is that of an accept's rule
abbrev pub HasToldEnd : List RuleEnd → Accept → Type 0
HasToldEnd ends accept = IsToldRule ends accept.rule accept.values
