-- What holds of what a block of scanners resolves to, whatever it says.
use Rattle.std.specs.Prelude.{◌≡◌, ℕ, zero, suc, Bool, true, false, List, [], ◌∷◌, ◌++◌, Option, Some, None, IfSome, is_some}
use Rattle.std.specs.List.{AllByRecursion, list_any}
use Rattle.lx_base.specs.Names.{AreAllowed, IsTagName, Spellings, begins_table, label_prefix}
use Rattle.lx_base.specs.declared.settings.Format.TheVariants.{Three}
use Rattle.lx_base.specs.declared.settings.Options.{Options}
use Rattle.lx_regex.specs.Kinds.{HasRightKinds}
use Rattle.lx_regex.specs.Pattern.{is_end}
use Rattle.lx_regex.specs.declared.rules.Rule.{Rule}
use Rattle.lx_regex.specs.declared.rules.Tag.{Tag}
use Rattle.lx_rules.specs.Allowed.{IsUnitAtEnd}
use Rattle.lx_rules.specs.Blocks.{SpellingsDiffer, begins_block_label}
use Rattle.lx_rules.specs.FitScanners.{FitsLimits}
use Rattle.lx_rules.specs.Linked.{AreLinked}
use Rattle.lx_rules.specs.Within.{IsScannerWithin}
use Rattle.lx_rules.specs.declared.resolved.Resolved.{Resolved}
use Rattle.lx_rules.specs.declared.resolved.Scanner.{Scanner}

-- a scanner has a rule `$`
abbrev pub has_end : Scanner → Bool
has_end scanner = list_any (λ (rule : Rule). is_end rule.kind) scanner.set.rules

-- a rule `$` gives nothing: it has no tags, no trailing context and no groups
abbrev pub IsBareEnd : Rule → Type 0
IsBareEnd rule = is_end rule.kind ≡ true → (rule.tags ≡ []) × (rule.slash ≡ None) × (rule.groups ≡ 0)

-- so do those of scanners
abbrev pub HaveBareEnds : List Scanner → Type 0
HaveBareEnds scanners = AllByRecursion (λ (scanner : Scanner). AllByRecursion IsBareEnd scanner.set.rules) scanners

-- each tag but that of the slash, if there is one, has a name that it may have beside the spellings; that of the slash has none
abbrev pub HaveNames : Spellings → (slash : Option ℕ) → List Tag → Type 0
HaveNames names slash [] = Unit {0}
HaveNames names None (tag ∷ tags) = IsTagName names tag.name × HaveNames names None tags
HaveNames names (Some zero) (tag ∷ tags) = (tag.name ≡ []) × HaveNames names None tags
HaveNames names (Some (suc slash)) (tag ∷ tags) = IsTagName names tag.name × HaveNames names (Some slash) tags

-- so have the tags of each rule
abbrev pub HaveTagNames : Spellings → List Rule → Type 0
HaveTagNames names rules = AllByRecursion (λ (rule : Rule). HaveNames names rule.slash rule.tags) rules

-- no tag of a rule is called as the table of sets
abbrev pub NamesNoTable : Rule → Type 0
NamesNoTable rule = AllByRecursion (λ (tag : Tag). begins_table tag.name ≡ false) rule.tags

-- the label of a scanner's condition, if it has one, does not begin as the label of a block
abbrev pub IsLabeledApart : Spellings → Scanner → Type 0
IsLabeledApart names scanner = IfSome scanner.cond (λ cond. begins_block_label (label_prefix names ++ cond) ≡ false)

-- The spellings are ones that a scanner may have, and differ; a code unit at the end is one of the encoding. An automaton can be built
-- of each scanner: it is within the limits, its rules have different numbers, and their tags, slashes and groups stand in their
-- expressions. It has a rule `$` exactly where a code unit stands at the end, and such a rule gives nothing. Its tags have names that they
-- may have, but for those of slashes, which have none; and they are of the same kinds in the rules' expressions and among the rules'
-- tags, those of slashes s-tags. In text of format 3 no tag is called as the table of sets, and no label of a
-- condition begins as the label of a block. Scanners and actions belong together.
pub record IsWellFormed (options : Options) (resolved : Resolved) : Type 0 where
  pub spellings : AreAllowed resolved.config.names
  pub differ : SpellingsDiffer options.custom options.format resolved.config.names
  pub eof : IsUnitAtEnd options.enc resolved.config.eof
  pub fits : FitsLimits resolved
  pub scanners : AllByRecursion (IsScannerWithin options.enc) resolved.scanners
  pub ends : AllByRecursion (λ (scanner : Scanner). has_end scanner ≡ is_some resolved.config.eof) resolved.scanners
  pub bare : HaveBareEnds resolved.scanners
  pub tags : AllByRecursion (λ (scanner : Scanner). HaveTagNames resolved.config.names scanner.set.rules) resolved.scanners
  pub kinds : AllByRecursion (λ (scanner : Scanner). AllByRecursion HasRightKinds scanner.set.rules) resolved.scanners
  pub no_table : options.format ≡ Three → AllByRecursion (λ (scanner : Scanner). AllByRecursion NamesNoTable scanner.set.rules) resolved.scanners
  pub labels : options.format ≡ Three → AllByRecursion (IsLabeledApart resolved.config.names) resolved.scanners
  pub linked : AreLinked options.conds resolved
