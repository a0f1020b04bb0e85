-- The rule at the end of the input, and the cursor behind a match.
use Rattle.std.specs.Prelude.{ℕ, List, [], ◌∷◌, Option, Some, None, slice_get, nat_eq, if◌then◌else◌}
use Rattle.lx_regex.specs.Pattern.{end_rule, patterns_of}
use Rattle.lx_regex.specs.Values.{Value, history, single}
use Rattle.lx_regex.specs.declared.rules.Rule.{Rule}

-- the number of the rule `$`, if there is one and the word is empty
abbrev pub end_at : List Rule → (word : List ℕ) → Option ℕ
end_at rules [] = end_rule (patterns_of rules)
end_at rules (unit ∷ word) = None

-- the tag of the trailing context of the first rule with a number
abbrev pub slash_of : List Rule → (number : ℕ) → Option ℕ
slash_of [] number = None
slash_of (rule ∷ rules) number = if nat_eq rule.number number then rule.slash else slash_of rules number

-- the offset that a value holds, and else the end
abbrev pub offset_in : Option Value → (end : ℕ) → ℕ
offset_in None end = end
offset_in (Some (single None)) end = end
offset_in (Some (single (Some offset))) end = offset
offset_in (Some (history offsets)) end = end

-- the end of the match, or the value of the tag of its trailing context
abbrev pub cursor_at : (slash : Option ℕ) → List Value → (end : ℕ) → ℕ
cursor_at None values end = end
cursor_at (Some number) values end = offset_in (slice_get values number) end
