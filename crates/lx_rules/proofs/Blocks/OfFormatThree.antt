-- What a block of scanners resolves to in text of format 3: no tag is called as the table of sets, and no label of a condition begins as
-- the label of a block.
use Rattle.std.proofs.Common.{◌≡◌, ℕ, Bool, true, false, List, [], ◌∷◌, ◌++◌, map, Option, sym, ap, ◌∙◌, subst}
use Rattle.std.proofs.lemmas.Bool.{or_parts}
use Rattle.std.specs.Prelude.{IfSome, is_some}
use Rattle.std.specs.List.{AllByRecursion, list_any}
use Rattle.lx_base.specs.Letters.{IsIdentifier}
use Rattle.lx_base.specs.Names.{Spellings, begins_table, label_prefix}
use Rattle.lx_base.specs.declared.settings.Format.{Format}
use Rattle.lx_base.specs.declared.settings.Format.TheVariants.{Three}
use Rattle.lx_exprs.specs.Checks.{tag_names}
use Rattle.lx_regex.specs.declared.rules.Rule.{Rule}
use Rattle.lx_regex.specs.declared.rules.Tag.{Tag}
use Rattle.lx_rules.specs.Blocks.{AreScanners, MayBeNamed, MayBeTag, begins_block_label, cond_name, given_names, is_labeled_as_block, names_of, rules_of}
use Rattle.lx_rules.specs.Rules.{RuleOf}
use Rattle.lx_rules.specs.WellFormed.{IsLabeledApart, NamesNoTable}
use Rattle.lx_rules.specs.declared.resolved.Scanner.{Scanner}
use Rattle.lx_rules.proofs.ScannerSets.BuiltScanners.{all_of_scanner}

-- the tags of rules have names that they may have beside the spellings
tags_named : (format : Format) (names : Spellings) (has_slash : Bool) (tags : List Tag) → AllByRecursion (MayBeTag format names has_slash) tags
    → AllByRecursion (MayBeNamed names has_slash) tags
tags_named format names has_slash [] may = tt
tags_named format names has_slash (tag ∷ tags) may = (may.0.0, tags_named format names has_slash tags may.1)

pub each_may_be_named : (format : Format) (names : Spellings) (rules : List RuleOf)
    → AllByRecursion (λ (rule : RuleOf). AllByRecursion (MayBeTag format names (is_some rule.slash)) rule.meaning.tags) rules
    → AllByRecursion (λ (rule : RuleOf). AllByRecursion (MayBeNamed names (is_some rule.slash)) rule.meaning.tags) rules
each_may_be_named format names [] may = tt
each_may_be_named format names (rule ∷ rules) may =
    (tags_named format names (is_some rule.slash) rule.meaning.tags may.0, each_may_be_named format names rules may.1)

-- no tag of a list is called as the table of sets
abbrev NoTable : List Tag → Type 0
NoTable tags = AllByRecursion (λ (tag : Tag). begins_table tag.name ≡ false) tags

tags_apart : (format : Format) (names : Spellings) (has_slash : Bool) (tags : List Tag) → format ≡ Three
    → AllByRecursion (MayBeTag format names has_slash) tags → NoTable tags
tags_apart format names has_slash [] three may = tt
tags_apart format names has_slash (tag ∷ tags) three may = (may.0.1 three, tags_apart format names has_slash tags three may.1)

-- so it is of a rule
abbrev NamesNone : RuleOf → Type 0
NamesNone rule = NoTable rule.meaning.tags

each_apart : (format : Format) (names : Spellings) (rules : List RuleOf) → format ≡ Three
    → AllByRecursion (λ (rule : RuleOf). AllByRecursion (MayBeTag format names (is_some rule.slash)) rule.meaning.tags) rules
    → AllByRecursion NamesNone rules
each_apart format names [] three may = tt
each_apart format names (rule ∷ rules) three may =
    (tags_apart format names (is_some rule.slash) rule.meaning.tags three may.0, each_apart format names rules three may.1)

-- tags of the same names are not called so, either
same_apart : (built tags : List Tag) → tag_names built ≡ tag_names tags → NoTable tags → NoTable built
same_apart [] tags same apart = tt
same_apart (one ∷ built) [] same apart = absurd (let h = same in cc)
same_apart (one ∷ built) (tag ∷ tags) same apart =
    let first : one.name ≡ tag.name = let h = same in cc in
    let rest : tag_names built ≡ tag_names tags = let h = same in cc in (ap begins_table first ∙ apart.0, same_apart built tags rest apart.1)

rules_apart : (built : List Rule) (rules : List RuleOf) → map given_names built ≡ map names_of rules → AllByRecursion NamesNone rules
    → AllByRecursion NamesNoTable built
rules_apart [] rules same apart = tt
rules_apart (one ∷ built) [] same apart = absurd (let h = same in cc)
rules_apart (one ∷ built) (rule ∷ rules) same apart =
    let first : given_names one ≡ names_of rule = let h = same in cc in
    let rest : map given_names built ≡ map names_of rules = let h = same in cc in
    (same_apart one.tags rule.meaning.tags first apart.0, rules_apart built rules rest apart.1)

module _ (named : Bool) (rules : List RuleOf) where
  scanners_apart : (conds : List (List ℕ)) (scanners : List Scanner) → AllByRecursion NamesNone rules → AreScanners named rules conds scanners
      → AllByRecursion (λ (scanner : Scanner). AllByRecursion NamesNoTable scanner.set.rules) scanners
  scanners_apart [] [] apart are = tt
  scanners_apart [] (scanner ∷ scanners) apart are = absurd are
  scanners_apart (cond ∷ conds) [] apart are = absurd are
  scanners_apart (cond ∷ conds) (scanner ∷ scanners) apart are = (
    rules_apart scanner.set.rules (rules_of cond rules) are.0.names (all_of_scanner NamesNone cond rules apart),
    scanners_apart conds scanners apart are.1,
  )

  -- no tag of a scanner is called as the table
  pub no_table_tags : (format : Format) (names : Spellings) (conds : List (List ℕ)) (scanners : List Scanner) → format ≡ Three
      → AllByRecursion (λ (rule : RuleOf). AllByRecursion (MayBeTag format names (is_some rule.slash)) rule.meaning.tags) rules
      → AreScanners named rules conds scanners
      → AllByRecursion (λ (scanner : Scanner). AllByRecursion NamesNoTable scanner.set.rules) scanners
  no_table_tags format names conds scanners three may are = scanners_apart conds scanners (each_apart format names rules three may) are

  -- the label of a condition that is an identifier
  label_apart : (names : Spellings) (use_conds : Bool) (cond : List ℕ) → is_labeled_as_block names cond ≡ false
      → IfSome (cond_name use_conds cond) IsIdentifier → IfSome (cond_name use_conds cond) (λ cond. begins_block_label (label_prefix names ++ cond) ≡ false)
  label_apart names true [] apart identifier = absurd identifier
  label_apart names true (letter ∷ cond) apart identifier = apart
  label_apart names false cond apart identifier = tt

  -- no label of a scanner's condition begins as the label of a block
  pub labels_apart : (names : Spellings) (conds : List (List ℕ)) (scanners : List Scanner) → list_any (is_labeled_as_block names) conds ≡ false
      → AllByRecursion (λ (scanner : Scanner). IfSome scanner.cond IsIdentifier) scanners → AreScanners named rules conds scanners
      → AllByRecursion (IsLabeledApart names) scanners
  labels_apart names [] [] apart identifiers are = tt
  labels_apart names [] (scanner ∷ scanners) apart identifiers are = absurd are
  labels_apart names (cond ∷ conds) [] apart identifiers are = absurd are
  labels_apart names (cond ∷ conds) (scanner ∷ scanners) apart identifiers are =
      let both = or_parts (is_labeled_as_block names cond) (list_any (is_labeled_as_block names) conds) apart in (
        subst (λ (label : Option (List ℕ)). IfSome label (λ cond. begins_block_label (label_prefix names ++ cond) ≡ false)) (sym are.0.name)
            (label_apart names named cond both.0 (subst (λ (label : Option (List ℕ)). IfSome label IsIdentifier) are.0.name identifiers.0)),
        labels_apart names conds scanners both.1 identifiers.1 are.1,
      )
