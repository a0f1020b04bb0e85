-- An automaton that is made rule by rule.
use Rattle.std.specs.Prelude.{◌≡◌, ℕ, ◌^◌, ◌<◌, List, [], ◌∷◌, ◌*◌, ◌++◌, map, length, replicate, Option, Some, None, Bool, slice_index, if◌then◌else◌}
use Rattle.lx_regex.specs.Automaton.{State, table, final}
use Rattle.lx_regex.specs.Pattern.{Pattern, is_end, pattern_of, sorts_of}
use Rattle.lx_regex.specs.Term.{parts}
use Rattle.lx_regex.specs.declared.rules.Rule.{Rule}
use Rattle.lx_tnfa.specs.Rows.{Builds, HasRoom, IsBuildable}
use Rattle.lx_tnfa.specs.declared.making.Making.{Making}
use Rattle.lx_tnfa.specs.declared.tnfa.RuleTags.{RuleTags}

-- the rules as contracts see them
abbrev pub seen_tags : List RuleTags → List (ℕ × List Bool)
seen_tags rules = map (λ (rule : RuleTags). (rule.number, rule.many.items)) rules

-- the number of the rule at an index; 0 for the rule list itself
abbrev pub number_at : List (ℕ × List Bool) → (index : Option ℕ) → ℕ
number_at rules None = 0
number_at rules (Some index) = slice_index (map (λ (rule : ℕ × List Bool). rule.0) rules) index

-- for each part the number of its rule
abbrev pub seen_owners : List (ℕ × List Bool) → List (Option ℕ) → List ℕ
seen_owners rules owners = map (number_at rules) owners

-- the states of a rule that is this part
abbrev pub rule_states : Pattern → (part : ℕ) → List State
rule_states pattern part = if is_end pattern.kind then [] else table pattern.term part final

-- how many parts a rule has
abbrev pub rule_size : Pattern → ℕ
rule_size pattern = if is_end pattern.kind then 0 else parts pattern.term

-- the state at the beginning of a rule that is this part; the rule `$` has none
abbrev pub rule_beginning : Pattern → (part : ℕ) → List ℕ
rule_beginning pattern part = if is_end pattern.kind then [] else 2 * part ∷ []

-- a rule with an expression can be added
pub record CanAdd (making : Making) (rule : Rule) : Type 0 where
  pub tags : length rule.tags < 2 ^ 32
  pub rules : length making.rules.items < 2 ^ 32
  pub room : HasRoom making.building (length making.owners.items) (parts (pattern_of rule).term)
  pub term : IsBuildable making.building.classes.enc (pattern_of rule).term

-- a rule came to those that were there
pub record AddsRule (old new : Making) (rule : Rule) : Type 0 where
  pub rules : seen_tags new.rules.items ≡ seen_tags old.rules.items ++ (rule.number, sorts_of (pattern_of rule)) ∷ []
  pub owners : new.owners.items ≡ old.owners.items ++ replicate (rule_size (pattern_of rule)) (Some (length old.rules.items))
  pub begins : new.begins.items ≡ old.begins.items ++ rule_beginning (pattern_of rule) (length old.owners.items)
  pub states : Builds old.building new.building (rule_states (pattern_of rule) (length old.owners.items))
