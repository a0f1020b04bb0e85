-- What is told of the match of a word.
use Rattle.std.specs.Prelude.{◌≡◌, ℕ, List, [], map, Option, Some, None}
use Rattle.lx_regex.specs.Match.{Outcome, matched, unmatched}
use Rattle.lx_regex.specs.Values.{Value, history, single}
use Rattle.lx_rules.specs.Numbered.{numbered_act}
use Rattle.lx_rules.specs.declared.resolved.Act.{Act}
use Rattle.lx_cover.specs.declared.matches.CoverMatch.{CoverMatch}
use Rattle.lx_cover.specs.declared.matches.CoverMatch.TheVariants.{Rule, Jump, NoRule}
use Rattle.lx_cover.specs.declared.values.TagValue.{TagValue}
use Rattle.lx_cover.specs.declared.values.TagValue.TheVariants.{Single, History}

-- a value as that of a tag
abbrev pub value_of : TagValue → Value
value_of (Single offset) = single offset
value_of (History offsets) = history offsets

-- a rule by its action: without one it is a jump
abbrev pub told_by : (code : Option (List ℕ)) → (number cursor : ℕ) → CoverMatch
told_by None number cursor = Jump number cursor
told_by (Some code) number cursor = Rule number cursor

-- the same by what the rule does, if it does something
abbrev pub told_of : Option Act → (number cursor : ℕ) → CoverMatch
told_of None number cursor = Jump number cursor
told_of (Some act) number cursor = told_by act.code number cursor

-- the rule with a number, by what rules do
abbrev pub told : List Act → (number cursor : ℕ) → CoverMatch
told acts number cursor = told_of (numbered_act acts number) number cursor

-- a match is told, with the values of the rule's tags
abbrev pub Tells : List Act → Outcome → CoverMatch → List TagValue → Type 0
Tells acts (matched number cursor those) answer values = (answer ≡ told acts number cursor) × (map value_of values ≡ those)
Tells acts (unmatched cursor) answer values = (answer ≡ NoRule cursor) × (values ≡ [])
