-- What a piece's run tells of a match.
use Rattle.std.specs.Prelude.{ℕ, zero, suc, List, [], ◌∷◌, ◌++◌, Option, Some, None, slice_get}
use Rattle.lx_ccode.specs.Machine as machine
use Rattle.lx_ccode.specs.Machine.{by_jump, by_rule, condition, group_count, group_end, no_rule, stuck, tag_history, tag_offset}
use Rattle.lx_ccode.specs.Runs.{Ended}
use Rattle.lx_regex.specs.Match.{Outcome, matched, unmatched}
use Rattle.lx_regex.specs.Values.{Value, history, single}
use Rattle.lx_layout.specs.Endings.{Ending, is_slash, unless}

abbrev pub tag_given : Value → (name : List ℕ) → machine.Value
tag_given (single offset) name = tag_offset name offset
tag_given (history offsets) name = tag_history name offsets

abbrev pub end_given : Value → (place : ℕ) → List machine.Value → List machine.Value
end_given (single offset) place others = group_end place offset ∷ others
end_given (history offsets) place others = others

abbrev pub ends_given : List Value → (place : ℕ) → List machine.Value
ends_given [] place = []
ends_given (value ∷ values) place = end_given value place (ends_given values (suc place))

abbrev pub groups_given : (groups : ℕ) → List Value → List machine.Value
groups_given zero values = []
groups_given (suc groups) values = group_count (suc groups) ∷ ends_given values 0

-- the values of the tags in the order of their numbers, and then those of the groups
abbrev pub values_given : Ending → (number : ℕ) → (names : List (List ℕ)) → List Value → List machine.Value
values_given ending number [] values = groups_given ending.groups values
values_given ending number (name ∷ names) [] = []
values_given ending number (name ∷ names) (value ∷ values) =
    unless (is_slash ending.slash number) (tag_given value name) (values_given ending (suc number) names values)

abbrev pub cond_behind : Option (List ℕ) → (cond : List ℕ) → List ℕ
cond_behind None cond = cond
cond_behind (Some next) cond = next

abbrev pub cond_given : Option (List ℕ) → List machine.Value
cond_given None = []
cond_given (Some cond) = condition cond ∷ []

abbrev pub outcome_by : (rule : ℕ) → (action : Option (List ℕ)) → machine.Outcome
outcome_by rule None = by_jump rule
outcome_by rule (Some action) = by_rule rule

-- of a match by a rule in a condition, with the cursor behind it
abbrev pub told_by : (endings : ℕ → Ending) → (cond : List ℕ) → (rule cursor : ℕ) → List Value → Ended
told_by endings cond rule cursor values = record {
  outcome = outcome_by rule (endings rule).action;
  cursor = cursor;
  cond = cond_behind (endings rule).goes_to cond;
  values = values_given (endings rule) 0 (endings rule).tags values ++ cond_given (endings rule).goes_to;
}

-- of a match of the rules
abbrev pub told_of : (endings : ℕ → Ending) → (cond : List ℕ) → Outcome → Ended
told_of endings cond (matched rule cursor values) = told_by endings cond rule cursor values
told_of endings cond (unmatched cursor) = record { outcome = no_rule; cursor = cursor; cond = cond; values = [] }

-- ---- of a match by an automaton, where the trailing context is not taken off yet

-- the value of the trailing context's tag
abbrev pub slash_value : Option ℕ → List Value → Option Value
slash_value None values = None
slash_value (Some number) values = slice_get values number

-- the cursor once it is put back there; none where the tag has no offset
abbrev pub put_back : Option Value → (offset : ℕ) → Option ℕ
put_back None offset = Some offset
put_back (Some (single cursor)) offset = cursor
put_back (Some (history offsets)) offset = Some offset

abbrev pub told_with : (endings : ℕ → Ending) → (cond : List ℕ) → (rule offset : ℕ) → List Value → (cursor : Option ℕ) → Ended
told_with endings cond rule offset values None = record {
  outcome = stuck;
  cursor = offset;
  cond = cond;
  values = values_given (endings rule) 0 (endings rule).tags values;
}
told_with endings cond rule offset values (Some cursor) = told_by endings cond rule cursor values

-- of a rule with values, where the match ends at an offset
abbrev pub told_at : (endings : ℕ → Ending) → (cond : List ℕ) → (rule offset : ℕ) → List Value → Ended
told_at endings cond rule offset values =
    told_with endings cond rule offset values (put_back (slash_value (endings rule).slash values) offset)
