-- The covering words of scanners, and the text that tells them, each with its match.
use Rattle.std.specs.Prelude.{◌≡◌, ℕ, suc, Bool, true, false, List, [], ◌∷◌, ◌++◌, length, drop, codes, Option, Some, None, if◌then◌else◌}
use Rattle.std.specs.Fmt.{decimal}
use Rattle.lx_base.specs.Text.{joined}
use Rattle.lx_base.specs.declared.settings.Options.{Options}
use Rattle.lx_ccode.specs.Text.{hexadecimal}
use Rattle.lx_cover.specs.Cover.{IsCover}
use Rattle.lx_gen.specs.Generated.{endings_by}
use Rattle.lx_layout.specs.Endings.{Ending, is_slash}
use Rattle.lx_regex.specs.Match.{IsMatch, Outcome, matched, unmatched}
use Rattle.lx_regex.specs.Pattern.{patterns_of, terms_of}
use Rattle.lx_regex.specs.Values.{Value, history, single}
use Rattle.lx_rules.specs.declared.resolved.Act.{Act}
use Rattle.lx_rules.specs.declared.resolved.Resolved.{Resolved}
use Rattle.lx_rules.specs.declared.resolved.Scanner.{Scanner}
use Rattle.lx_run.specs.Values.{history_text, offset_text}
use Rattle.lx_compile.specs.Options.{asks_for_cover, policy_of}
use Rattle.lx_compile.specs.Warnings.{units_text}
use Rattle.lx_compile.specs.declared.made.Made.{Made}
use Rattle.lx_compile.specs.declared.made.Made.TheVariants.{Scanners}

-- ---- how a match is told

-- the units of a word with spaces between them, and `-` for the empty word
abbrev pub word_text : List ℕ → List ℕ
word_text [] = codes "-"
word_text (unit ∷ word) = joined (codes "0x" ∷ hexadecimal unit ∷ units_text word ∷ []) []

-- what a match gave a tag
abbrev pub tag_text : (name : List ℕ) → Value → List ℕ
tag_text name (single offset) = joined (codes " " ∷ name ∷ codes "=" ∷ offset_text offset ∷ []) []
tag_text name (history offsets) = joined (codes " " ∷ name ∷ codes "=[" ∷ history_text offsets ∷ codes "]" ∷ []) []

-- the tags that have these names, in the order of their numbers from one on, if they have values; that of the trailing context is not told
abbrev pub tags_text : (slash : Option ℕ) → (number : ℕ) → (names : List (List ℕ)) → List Value → List ℕ
tags_text slash number [] values = []
tags_text slash number (name ∷ names) [] = []
tags_text slash number (name ∷ names) (value ∷ values) =
    (if is_slash slash number then [] else tag_text name value) ++ tags_text slash (suc number) names values

-- where a group begins or ends
abbrev pub end_text : Value → List ℕ
end_text (single offset) = offset_text offset
end_text (history offsets) = history_text offsets

-- groups, each of which has two values
abbrev pub groups_text : List Value → List ℕ
groups_text [] = []
groups_text (from ∷ []) = []
groups_text (from ∷ to ∷ values) =
    joined (codes " (" ∷ end_text from ∷ codes "," ∷ end_text to ∷ codes ")" ∷ []) (groups_text values)

-- the condition that a rule goes to
abbrev pub goes_text : Option (List ℕ) → List ℕ
goes_text None = []
goes_text (Some cond) = joined (codes " => " ∷ cond ∷ []) []

-- a rule with an action is entered, and one without is a jump
abbrev pub entry_text : (action : Option (List ℕ)) → List ℕ
entry_text None = codes "jump "
entry_text (Some action) = codes "rule "

-- a match by a rule that ends so: its number, where it begins and ends, its tags, its groups, and the condition behind it
abbrev pub rule_text : Ending → (number cursor : ℕ) → List Value → List ℕ
rule_text ending number cursor values =
    joined (entry_text ending.action ∷ decimal number ∷ codes " 0 " ∷ decimal cursor ∷ tags_text ending.slash 0 ending.tags values
    ∷ groups_text (drop (length ending.tags) values) ∷ goes_text ending.goes_to ∷ []) []

-- what a match of a word gave, where rules end so
abbrev pub match_text : (endings : ℕ → Ending) → Outcome → List ℕ
match_text endings (matched number cursor values) = rule_text (endings number) number cursor values
match_text endings (unmatched cursor) = joined (codes "none 0 " ∷ decimal cursor ∷ []) []

-- the line of a word
abbrev pub word_line : (endings : ℕ → Ending) → List ℕ → Outcome → List ℕ
word_line endings word outcome = joined (word_text word ∷ codes " : " ∷ match_text endings outcome ∷ codes "\n" ∷ []) []

-- the line above the words of a scanner, whose piece has a number: with the name of its condition, if it has one
abbrev pub scanner_line : (number : ℕ) → (cond : Option (List ℕ)) → List ℕ
scanner_line number None = joined (codes "scanner " ∷ decimal number ∷ codes "\n" ∷ []) []
scanner_line number (Some cond) = joined (codes "scanner " ∷ decimal number ∷ codes " " ∷ cond ∷ codes "\n" ∷ []) []

-- ---- what is told

module _ (options : Options) (acts : List Act) (scanner : Scanner) where
  -- a line tells a word with its match, by the trees that are meant
  abbrev pub IsWordLine : (word line : List ℕ) → Type 0
  IsWordLine word line =
      (outcome : Outcome) × IsMatch (policy_of options) options.enc (patterns_of scanner.set.rules) word 0 outcome
      × (line ≡ word_line (endings_by None acts scanner.set.rules) word outcome)

  -- so do the lines of words, one behind another
  abbrev pub AreWordLines : (words : List (List ℕ)) → (text : List ℕ) → Type 0
  AreWordLines [] text = text ≡ []
  AreWordLines (word ∷ words) text =
      (line : List ℕ) × (rest : List ℕ) × IsWordLine word line × AreWordLines words rest × (text ≡ line ++ rest)

  -- the text of a scanner's covering words, all of them and each once, in their order
  abbrev pub IsCoverText : (number : ℕ) → (text : List ℕ) → Type 0
  IsCoverText number text =
      (words : List (List ℕ)) × (lines : List ℕ) × IsCover options.enc (terms_of (patterns_of scanner.set.rules)) words
      × AreWordLines words lines × (text ≡ scanner_line number scanner.cond ++ lines)

  -- the same where they are asked for, and else nothing
  abbrev pub IsCoveredWhere : (asked : Bool) → (number : ℕ) → (text : List ℕ) → Type 0
  IsCoveredWhere true number text = IsCoverText number text
  IsCoveredWhere false number text = text ≡ []

-- the texts of the scanners of a block, one behind another
abbrev pub AreCoveredBy : Options → (number : ℕ) → List Act → List Scanner → (text : List ℕ) → Type 0
AreCoveredBy options number acts [] text = text ≡ []
AreCoveredBy options number acts (scanner ∷ scanners) text =
    (own : List ℕ) × (rest : List ℕ) × IsCoveredWhere options acts scanner (asks_for_cover options) number own
    × AreCoveredBy options number acts scanners rest × (text ≡ own ++ rest)

-- the same of the block whose piece has the number
abbrev pub AreCovered : Options → (number : ℕ) → Resolved → (text : List ℕ) → Type 0
AreCovered options number resolved text = AreCoveredBy options number resolved.acts resolved.scanners text

-- the text that stands with what is made of a part
abbrev pub cover_in : Made → List ℕ
cover_in (Scanners piece checks warnings cover groups) = cover
cover_in other = []

-- the text of all that is made
abbrev pub cover_of : List Made → List ℕ
cover_of [] = []
cover_of (one ∷ made) = cover_in one ++ cover_of made
