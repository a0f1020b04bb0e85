-- The warnings of a source: what the scanners are warned of, and the line that tells each.
use Rattle.std.specs.Prelude.{◌≡◌, ℕ, Bool, true, false, List, [], ◌∷◌, ◌++◌, map, codes, Option, Some, None, if◌then◌else◌}
use Rattle.std.specs.Fmt.{decimal}
use Rattle.lx_base.specs.Message.{HasFile, heading}
use Rattle.lx_base.specs.Text.{joined}
use Rattle.lx_base.specs.declared.places.Pos.{Pos}
use Rattle.lx_base.specs.declared.settings.Options.{Options}
use Rattle.lx_ccode.specs.Text.{hexadecimal}
use Rattle.lx_rules.specs.Numbered.{numbered_act}
use Rattle.lx_regex.specs.Pattern.{patterns_of}
use Rattle.lx_rules.specs.declared.resolved.Act.{Act}
use Rattle.lx_rules.specs.declared.resolved.Resolved.{Resolved}
use Rattle.lx_rules.specs.declared.resolved.Scanner.{Scanner}
use Rattle.lx_warn.specs.Warnings.{AreWarnings}
use Rattle.lx_warn.specs.declared.lists.Warning.{Warning}
use Rattle.lx_warn.specs.declared.lists.Warning.TheVariants.{Unreachable, Empty, Undefined}
use Rattle.lx_compile.specs.Options.{policy_of, tells_warnings}
use Rattle.lx_compile.specs.declared.made.Made.{Made}
use Rattle.lx_compile.specs.declared.made.Made.TheVariants.{Scanners}
use Rattle.lx_compile.specs.declared.warned.PlacedWarning.{PlacedWarning}

-- ---- what is warned of

-- where an action stands; without one, where the block opens
abbrev pub act_place : (at : Pos) → Option Act → Pos
act_place at None = at
act_place at (Some act) = act.at

-- where a warning of a scanner stands: one of a rule at the action with its number, and one of a word where the block opens
abbrev pub warning_place : (at : Pos) → List Act → Warning → Pos
warning_place at acts (Unreachable number) = act_place at (numbered_act acts number)
warning_place at acts (Empty number) = act_place at (numbered_act acts number)
warning_place at acts (Undefined word) = at

-- a warning of the scanner of a condition, at its place
abbrev pub placed : (at : Pos) → List Act → (cond : Option (List ℕ)) → Warning → PlacedWarning
placed at acts cond warning = record { at = warning_place at acts warning; cond = cond; warning = warning }

-- the warnings of scanners, one scanner behind another, each at its place: those that there are of its rules, by the trees that are meant
abbrev pub AreWarningsOf : Options → (at : Pos) → List Act → List Scanner → List PlacedWarning → Type 0
AreWarningsOf options at acts [] warnings = warnings ≡ []
AreWarningsOf options at acts (scanner ∷ scanners) warnings =
    (own : List Warning) × (others : List PlacedWarning) × AreWarnings (policy_of options) options.enc (patterns_of scanner.set.rules) own
    × AreWarningsOf options at acts scanners others × (warnings ≡ map (placed at acts scanner.cond) own ++ others)

-- the same where warnings are asked for, and else none
abbrev pub AreWarnedWhere : (asked : Bool) → Options → (at : Pos) → List Act → List Scanner → List PlacedWarning → Type 0
AreWarnedWhere true options at acts scanners warnings = AreWarningsOf options at acts scanners warnings
AreWarnedWhere false options at acts scanners warnings = warnings ≡ []

-- the warnings of the scanners of a block that opens at a place
abbrev pub AreWarned : Options → (at : Pos) → Resolved → List PlacedWarning → Type 0
AreWarned options at resolved warnings = AreWarnedWhere (tells_warnings options) options at resolved.acts resolved.scanners warnings

-- those that stand with what is made of a part
abbrev pub warnings_in : Made → List PlacedWarning
warnings_in (Scanners piece checks warnings cover groups) = warnings
warnings_in other = []

-- the file of a warning's place stands in the list of names
abbrev pub IsPlacedWarning : (names : List (List ℕ)) → PlacedWarning → Type 0
IsPlacedWarning names placed = HasFile names (Some placed.at)

-- those of all that is made, in order
abbrev pub warnings_of : List Made → List PlacedWarning
warnings_of [] = []
warnings_of (one ∷ made) = warnings_in one ++ warnings_of made

-- the same where warnings are asked for, and else none
abbrev pub told_warnings : Options → List Made → List PlacedWarning
told_warnings options made = if tells_warnings options then warnings_of made else []

-- the same options, by which no warnings are asked for
abbrev pub quiet_options : Options → Options
quiet_options options = record options { warn = false }

-- what is made, but for its warnings
abbrev pub quiet_one : Made → Made
quiet_one (Scanners piece checks warnings cover groups) = Scanners piece checks [] cover groups
quiet_one other = other

abbrev pub quiet_made : List Made → List Made
quiet_made [] = []
quiet_made (one ∷ made) = quiet_one one ∷ quiet_made made

-- ---- how it is told

-- code units, each behind a space
abbrev pub units_text : List ℕ → List ℕ
units_text [] = []
units_text (unit ∷ word) = joined (codes " 0x" ∷ hexadecimal unit ∷ []) (units_text word)

-- what is said of the rule with this number
abbrev pub rule_text : (number : ℕ) → (what : List ℕ) → List ℕ
rule_text number what = joined (codes "rule " ∷ decimal number ∷ what ∷ []) []

-- what a warning says, its place and its condition aside
abbrev pub saying : Warning → List ℕ
saying (Unreachable number) = rule_text number (codes " is never chosen")
saying (Empty number) = rule_text number (codes " matches the empty string")
saying (Undefined word) = joined (codes "no rule after" ∷ []) (units_text word)

-- in which condition
abbrev pub condition_text : Option (List ℕ) → List ℕ
condition_text None = []
condition_text (Some name) = joined (codes " in condition " ∷ name ∷ []) []

-- `FILE:LINE:COL: warning: TEXT` and a line feed, where files of these names were met
abbrev pub warning_text : (names : List (List ℕ)) → PlacedWarning → List ℕ
warning_text names placed =
    joined (heading names (Some placed.at) ∷ codes " warning: " ∷ saying placed.warning ∷ condition_text placed.cond ∷ codes "\n" ∷ []) []

-- the lines of warnings, one behind another
abbrev pub warning_lines : (names : List (List ℕ)) → List PlacedWarning → List ℕ
warning_lines names [] = []
warning_lines names (one ∷ warnings) = warning_text names one ++ warning_lines names warnings
