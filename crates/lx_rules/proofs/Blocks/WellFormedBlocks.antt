-- What a block of scanners resolves to is well formed.
use Rattle.std.proofs.Common.{◌≡◌, ◌≢◌, ℕ, zero, suc, ◌≤◌, inl, inr, Bool, true, false, List, [], ◌∷◌, map, length, Option, None, Some, Ok, refl, sym, ap, ap₂, ◌∙◌, subst}
use Rattle.std.specs.Prelude.{◌||◌, is_some}
use Rattle.std.specs.List.{AllByRecursion, list_any}
use Rattle.std.proofs.lemmas.List.Elements.{recursion_from_All}
use Rattle.lx_base.specs.Names.{Spellings, IsTagName}
use Rattle.lx_base.specs.declared.blocks.BlockKind.{BlockKind}
use Rattle.lx_base.specs.declared.blocks.BlockKind.TheVariants.{Rules}
use Rattle.lx_base.specs.declared.places.Pos.{Pos}
use Rattle.lx_base.specs.declared.settings.Enc.{Enc}
use Rattle.lx_base.specs.declared.settings.Format.TheVariants.{Three}
use Rattle.lx_base.specs.declared.settings.Options.{Options}
use Rattle.lx_exprs.specs.Checks.{tag_names}
use Rattle.lx_exprs.specs.Defined.{Meaning}
use Rattle.lx_forms.specs.Lexemes.{lexemes_of}
use Rattle.lx_parse.specs.Blocks.{IsBody, form_of}
use Rattle.lx_parse.specs.Sorts.{sorts_of}
use Rattle.lx_parse.specs.declared.items.Item.{Item}
use Rattle.lx_regex.specs.Kinds.{HasRightKinds}
use Rattle.lx_regex.specs.Pattern as regex
use Rattle.lx_regex.specs.Pattern.{Pattern, is_end}
use Rattle.lx_regex.specs.declared.rules.Rule.{Rule}
use Rattle.lx_regex.specs.declared.rules.Tag.{Tag}
use Rattle.lx_rules.specs.Blocks.{AreScanners, HasRules, IsResolved, IsResolvedAs, LabelsDiffer, MayBeNamed, MayBeTag, Resolves, ScannerChecks, StandsUnder, conditions_of, given_names, names_of, of_scanners, of_use, pattern_of, rules_of, scanner_fault, scanners_fault, to_keep}
use Rattle.lx_rules.specs.Environments.{Environment, config_of}
use Rattle.lx_rules.specs.FitScanners.{FitsLimits, IsFit}
use Rattle.lx_rules.specs.Linked.{AreLinked}
use Rattle.lx_rules.specs.Items.{State, end_meaning, first_state}
use Rattle.lx_rules.specs.Rules.{RuleOf}
use Rattle.lx_rules.specs.WellFormed.{HaveBareEnds, HaveNames, HaveTagNames, IsBareEnd, IsLabeledApart, IsWellFormed, NamesNoTable, has_end}
use Rattle.lx_rules.specs.Within.{IsScannerWithin}
use Rattle.lx_rules.specs.declared.resolved.Config.{Config}
use Rattle.lx_rules.specs.declared.resolved.Resolved.{Resolved}
use Rattle.lx_rules.specs.declared.resolved.Scanner.{Scanner}
use Rattle.lx_token.specs.Tokens.{tokens_of}
use Rattle.lx_token.specs.declared.list.Token.{Token}
use Rattle.lx_rules.proofs.Spellings.AllowedSettings.{no_clash, resolved-differ, resolved-eof, resolved-spelled, scanner_checks, stands-settings}
use Rattle.lx_rules.proofs.ScannerSets.BuiltScanners.{all_of_scanner}
use Rattle.lx_rules.proofs.Rules.EndRules.{IsEndRule}
use Rattle.lx_rules.proofs.Blocks.ItemFits.{IsStateWithin, goes_within}
use Rattle.lx_rules.proofs.Blocks.ItemRuns.{body-alike}
use Rattle.lx_rules.proofs.ScannerSets.LinkedScanners.{block_linked}
use Rattle.lx_rules.proofs.CondSets.ListForms.{body_lists}
use Rattle.lx_rules.proofs.Rules.NamedRules.{AreNamedBut, HasNames, first_named, goes_named, stands_named}
use Rattle.lx_rules.proofs.Rules.NamedTags.{tokens_of-marked}
use Rattle.lx_rules.proofs.Blocks.Readiness.{first_sound, first_within, stands_ready}
use Rattle.lx_rules.proofs.Blocks.OfFormatThree.{each_may_be_named, labels_apart, no_table_tags}
use Rattle.lx_rules.proofs.ScannerSets.ScannerFits.{resolved_within, scanners_checked}
use Rattle.lx_rules.proofs.ScannerSets.ScannerLimits.{or_none, scanner_ended}
use Rattle.lx_rules.proofs.Rules.RuleFits.{IsRuleMeant, IsSlashIn}
use Rattle.lx_rules.proofs.Rules.FittingRules.{all_apart, goes_sound}

-- ---- the rules of a scanner

-- a tag with a name has one that it may have
own_name : (names : Spellings) (has_slash : Bool) (tag : Tag) → MayBeNamed names has_slash tag → tag.name ≢ [] → IsTagName names tag.name
own_name names false tag may named = may
own_name names true tag (inl none) named = absurd (named none)
own_name names true tag (inr is) named = is

-- tags that may be named so, and that have names but for that of the slash
have_names : (names : Spellings) (has_slash : Bool) (slash : Option ℕ) (tags : List Tag) → AllByRecursion (MayBeNamed names has_slash) tags
    → AreNamedBut slash tags → HaveNames names slash tags
have_names names has_slash slash [] may named = tt
have_names names has_slash None (tag ∷ tags) may named =
    (own_name names has_slash tag may.0 named.0, have_names names has_slash None tags may.1 named.1)
have_names names has_slash (Some zero) (tag ∷ tags) may named = (named.0, have_names names has_slash None tags may.1 named.1)
have_names names has_slash (Some (suc slash)) (tag ∷ tags) may named =
    (own_name names has_slash tag may.0 named.0, have_names names has_slash (Some slash) tags may.1 named.1)

-- tags of the same names have them, too
tags_named : (names : Spellings) (slash : Option ℕ) (built tags : List Tag) → tag_names built ≡ tag_names tags → HaveNames names slash tags
    → HaveNames names slash built
tags_named names slash [] tags same are = tt
tags_named names slash (one ∷ built) [] same are = absurd (let h = same in cc)
tags_named names None (one ∷ built) (tag ∷ tags) same are =
    let first : one.name ≡ tag.name = let h = same in cc in
    let rest : tag_names built ≡ tag_names tags = let h = same in cc in
    (subst (IsTagName names) (sym first) are.0, tags_named names None built tags rest are.1)
tags_named names (Some zero) (one ∷ built) (tag ∷ tags) same are =
    let first : one.name ≡ tag.name = let h = same in cc in
    let rest : tag_names built ≡ tag_names tags = let h = same in cc in (first ∙ are.0, tags_named names None built tags rest are.1)
tags_named names (Some (suc slash)) (one ∷ built) (tag ∷ tags) same are =
    let first : one.name ≡ tag.name = let h = same in cc in
    let rest : tag_names built ≡ tag_names tags = let h = same in cc in
    (subst (IsTagName names) (sym first) are.0, tags_named names (Some slash) built tags rest are.1)

-- the tags of a rule have names that they may have
abbrev IsRuleNamed : Spellings → RuleOf → Type 0
IsRuleNamed names rule = HaveNames names rule.slash rule.meaning.tags

each_named : (names : Spellings) (rules : List RuleOf)
    → AllByRecursion (λ (rule : RuleOf). AllByRecursion (MayBeNamed names (is_some rule.slash)) rule.meaning.tags) rules
    → AllByRecursion HasNames rules → AllByRecursion (IsRuleNamed names) rules
each_named names [] may named = tt
each_named names (rule ∷ rules) may named =
    (have_names names (is_some rule.slash) rule.slash rule.meaning.tags may.0 named.0, each_named names rules may.1 named.1)

rules_named : (names : Spellings) (built : List Rule) (rules : List RuleOf) → map given_names built ≡ map names_of rules
    → map regex.pattern_of built ≡ map pattern_of rules → AllByRecursion (IsRuleNamed names) rules → HaveTagNames names built
rules_named names [] rules same patterns are = tt
rules_named names (one ∷ built) [] same patterns are = absurd (let h = same in cc)
rules_named names (one ∷ built) (rule ∷ rules) same patterns are =
    let first : given_names one ≡ names_of rule = let h = same in cc in
    let rest : map given_names built ≡ map names_of rules = let h = same in cc in
    let pattern : regex.pattern_of one ≡ pattern_of rule = let h = patterns in cc in
    let others : map regex.pattern_of built ≡ map pattern_of rules = let h = patterns in cc in
    let slash : one.slash ≡ rule.slash = ap (λ (p : Pattern). p.slash) pattern in (
      tags_named names one.slash one.tags rule.meaning.tags first
          (subst (λ (s : Option ℕ). HaveNames names s rule.meaning.tags) (sym slash) are.0),
      rules_named names built rules rest others are.1,
    )

-- a rule that is built is `$` where it is to be
ends-built : (built : List Rule) (rules : List RuleOf) → map regex.pattern_of built ≡ map pattern_of rules
    → list_any (λ (rule : Rule). is_end rule.kind) built ≡ list_any (λ (rule : RuleOf). is_end rule.kind) rules
ends-built [] [] same = refl
ends-built [] (rule ∷ rules) same = absurd (let h = same in cc)
ends-built (one ∷ built) [] same = absurd (let h = same in cc)
ends-built (one ∷ built) (rule ∷ rules) same =
    let first : regex.pattern_of one ≡ pattern_of rule = let h = same in cc in
    let rest : map regex.pattern_of built ≡ map pattern_of rules = let h = same in cc in
    ap₂ (λ here later. here || later) (ap (λ (p : Pattern). is_end p.kind) first) (ends-built built rules rest)

-- a rule `$` means nothing, and has no trailing context
abbrev IsBare : RuleOf → Type 0
IsBare rule = is_end rule.kind ≡ true → (rule.meaning ≡ end_meaning) × (rule.slash ≡ None)

-- a trailing context has a tag, and what stands in the place of an expression of `$` has none
bare_slash : (slash : Option ℕ) → IsSlashIn end_meaning slash → slash ≡ None
bare_slash None is = refl
bare_slash (Some slash) is = absurd (let h : None ≡ Some false = is.0 in cc)

rule_bare : (enc : Enc) (rule : RuleOf) → IsRuleMeant enc rule.meaning rule.slash → IsEndRule rule → IsBare rule
rule_bare enc rule meant end = λ e. (end e, bare_slash rule.slash (subst (λ (m : Meaning). IsSlashIn m rule.slash) (end e) meant.slashed))

each_bare : (enc : Enc) (rules : List RuleOf) → AllByRecursion (λ (rule : RuleOf). IsRuleMeant enc rule.meaning rule.slash) rules
    → AllByRecursion IsEndRule rules → AllByRecursion IsBare rules
each_bare enc [] meant ends = tt
each_bare enc (rule ∷ rules) meant ends = (rule_bare enc rule meant.0 ends.0, each_bare enc rules meant.1 ends.1)

no_tags : (tags : List Tag) → map (λ (tag : Tag). tag.many) tags ≡ [] → tags ≡ []
no_tags [] none = refl
no_tags (tag ∷ tags) none = absurd (let h = none in cc)

-- so a rule `$` that is built gives nothing
built_bare : (one : Rule) (rule : RuleOf) → regex.pattern_of one ≡ pattern_of rule → IsBare rule → IsBareEnd one
built_bare one rule same bare = λ e.
    let kind : is_end one.kind ≡ is_end rule.kind = ap (λ (p : Pattern). is_end p.kind) same in
    let is = bare (sym kind ∙ e) in (
      no_tags one.tags (ap (λ (p : Pattern). p.many) same ∙ ap (λ (m : Meaning). map (λ (tag : Tag). tag.many) m.tags) is.0),
      ap (λ (p : Pattern). p.slash) same ∙ is.1,
      ap (λ (p : Pattern). p.groups) same ∙ ap (λ (m : Meaning). m.groups) is.0,
    )

rules_bare : (built : List Rule) (rules : List RuleOf) → map regex.pattern_of built ≡ map pattern_of rules → AllByRecursion IsBare rules
    → AllByRecursion IsBareEnd built
rules_bare [] rules same bare = tt
rules_bare (one ∷ built) [] same bare = absurd (let h = same in cc)
rules_bare (one ∷ built) (rule ∷ rules) same bare =
    let first : regex.pattern_of one ≡ pattern_of rule = let h = same in cc in
    let rest : map regex.pattern_of built ≡ map pattern_of rules = let h = same in cc in
    (built_bare one rule first bare.0, rules_bare built rules rest bare.1)

-- tags are of their kinds in scanners that are fit
each_kinds : (acts : ℕ) (scanners : List Scanner) → AllByRecursion (IsFit acts) scanners
    → AllByRecursion (λ (scanner : Scanner). AllByRecursion HasRightKinds scanner.set.rules) scanners
each_kinds acts [] are = tt
each_kinds acts (scanner ∷ scanners) are = (are.0.kinds, each_kinds acts scanners are.1)

-- ---- the scanners of a block

module _ (at : Pos) (state : State) (named : Bool) where
  abbrev eof : Option ℕ
  eof = (config_of state.settings).eof

  all_end : (conds : List (List ℕ)) (scanners : List Scanner) → scanners_fault at eof state.rules conds ≡ None
      → AreScanners named state.rules conds scanners → AllByRecursion (λ (scanner : Scanner). has_end scanner ≡ is_some eof) scanners
  all_end [] [] none are = tt
  all_end [] (scanner ∷ scanners) none are = absurd are
  all_end (cond ∷ conds) [] none are = absurd are
  all_end (cond ∷ conds) (scanner ∷ scanners) none are =
      let rules = rules_of cond state.rules in
      let found = or_none (scanner_fault at eof rules) (scanners_fault at eof state.rules conds) none in
      (ends-built scanner.set.rules rules are.0.patterns ∙ scanner_ended at eof rules found.0, all_end conds scanners found.1 are.1)

  all_bare : (conds : List (List ℕ)) (scanners : List Scanner) → AllByRecursion IsBare state.rules → AreScanners named state.rules conds scanners
      → HaveBareEnds scanners
  all_bare [] [] bare are = tt
  all_bare [] (scanner ∷ scanners) bare are = absurd are
  all_bare (cond ∷ conds) [] bare are = absurd are
  all_bare (cond ∷ conds) (scanner ∷ scanners) bare are = (
    rules_bare scanner.set.rules (rules_of cond state.rules) are.0.patterns (all_of_scanner IsBare cond state.rules bare),
    all_bare conds scanners bare are.1,
  )

  all_named : (names : Spellings) (conds : List (List ℕ)) (scanners : List Scanner)
      → AllByRecursion (IsRuleNamed names) state.rules → AreScanners named state.rules conds scanners
      → AllByRecursion (λ (scanner : Scanner). HaveTagNames names scanner.set.rules) scanners
  all_named names [] [] tags are = tt
  all_named names [] (scanner ∷ scanners) tags are = absurd are
  all_named names (cond ∷ conds) [] tags are = absurd are
  all_named names (cond ∷ conds) (scanner ∷ scanners) tags are = (
    rules_named names scanner.set.rules (rules_of cond state.rules) are.0.names are.0.patterns
        (all_of_scanner (IsRuleNamed names) cond state.rules tags),
    all_named names conds scanners tags are.1,
  )

-- a block that is no rules block resolves to its scanners
scanner_ends : (kind : BlockKind) → HasRules kind → (named : Bool) (state : State) (resolved : Resolved) → (kind ≡ Rules → ⊥)
    → IsResolvedAs kind named state resolved → IsResolved named state resolved
scanner_ends kind of_scanners named state resolved other is = is
scanner_ends kind to_keep named state resolved other is = absurd (other refl)
scanner_ends kind of_use named state resolved other is = is

-- what a block of scanners resolves to is well formed
module _ (options : Options) (kind : BlockKind) (at start : Pos) (environment after : Environment) (body : List ℕ) (tokens : List Token)
    (items : List Item) (resolved : Resolved) (has : HasRules kind) (other : kind ≢ Rules) (stands : StandsUnder options environment)
    (short : length body ≤ 16777216) (tokens_are : tokens_of body start ≡ Ok tokens) (items_are : IsBody (form_of kind) (sorts_of kind body tokens) items)
    (is : Resolves options kind at environment (lexemes_of body tokens) items after resolved) (fits : FitsLimits resolved) where
  abbrev state : State
  state = is.state

  abbrev conds : List (List ℕ)
  conds = conditions_of state.rules

  checked : ScannerChecks options.custom options.format at state None
  checked = scanner_checks kind has options.custom options.format at state other is.checked

  are : IsResolved options.conds state resolved
  are = scanner_ends kind has options.conds state resolved other is.ends

  within : IsStateWithin options state
  within =
      let ready = stands_ready options environment stands in
      goes_within options (lexemes_of body tokens) (first_state kind environment) state items (first_within options environment ready kind has) is.goes

  bare : HaveBareEnds resolved.scanners
  bare = all_bare at state options.conds conds resolved.scanners (each_bare options.enc state.rules within.rules within.ends) are.scanners

  scanners : AllByRecursion (IsScannerWithin options.enc) resolved.scanners
  scanners =
      let lexemes = lexemes_of body tokens in
      let first = first_state kind environment in
      let ready = stands_ready options environment stands in
      let lists = body_lists body start tokens items tokens_are (body-alike kind has body tokens items items_are) in
      let sound = goes_sound options lexemes first state items (first_sound options environment ready kind has) lists.0 lists.1 is.goes in
      resolved_within options kind has at state resolved within
      (all_apart options.conds state.rules sound) is.checked is.ends fits

  ends : AllByRecursion (λ (scanner : Scanner). has_end scanner ≡ is_some resolved.config.eof) resolved.scanners
  ends = subst (λ (config : Config). AllByRecursion (λ (scanner : Scanner). has_end scanner ≡ is_some config.eof) resolved.scanners) (sym are.config)
      (all_end at state options.conds conds resolved.scanners (scanners_checked options.custom options.format at state checked) are.scanners)

  -- the tags of the rules are named
  named : AllByRecursion HasNames state.rules
  named =
      let before = stands_named options environment stands in
      (goes_named options (lexemes_of body tokens) (tokens_of-marked body start tokens tokens_are) (first_state kind environment) state items
      (first_named environment before kind has) is.goes).rules

  -- the tags of the rules may have their names, and the conditions their labels
  may_be_tags : AllByRecursion (λ (rule : RuleOf). AllByRecursion (MayBeTag options.format (config_of state.settings).names (is_some rule.slash)) rule.meaning.tags) state.rules
  may_be_tags = (no_clash options.custom options.format at state checked).1

  labels_differ : LabelsDiffer options.format (config_of state.settings).names conds
  labels_differ = (no_clash options.custom options.format at state checked).2

  belong : AreLinked options.conds resolved
  belong = block_linked options kind at start environment after body tokens items resolved has stands tokens_are items_are is

  tags : AllByRecursion (λ (scanner : Scanner). HaveTagNames resolved.config.names scanner.set.rules) resolved.scanners
  tags =
      let names = (config_of state.settings).names in
      subst (λ (config : Config). AllByRecursion (λ (scanner : Scanner). HaveTagNames config.names scanner.set.rules) resolved.scanners) (sym are.config)
      (all_named at state options.conds names conds resolved.scanners
      (each_named names state.rules (each_may_be_named options.format names state.rules may_be_tags) named) are.scanners)

  no_table : options.format ≡ Three → AllByRecursion (λ (scanner : Scanner). AllByRecursion NamesNoTable scanner.set.rules) resolved.scanners
  no_table three =
      no_table_tags options.conds state.rules options.format (config_of state.settings).names conds resolved.scanners three may_be_tags are.scanners

  labels : options.format ≡ Three → AllByRecursion (IsLabeledApart resolved.config.names) resolved.scanners
  labels three =
      subst (λ (config : Config). AllByRecursion (IsLabeledApart config.names) resolved.scanners) (sym are.config)
      (labels_apart options.conds state.rules (config_of state.settings).names conds resolved.scanners (labels_differ three) belong.identifiers are.scanners)

  pub well_formed : IsWellFormed options resolved
  well_formed =
      let settings = stands-settings options environment stands in record {
        spellings = resolved-spelled options kind has at environment after body tokens items resolved short settings is;
        differ = resolved-differ options kind has at environment after (lexemes_of body tokens) items resolved other is;
        eof = resolved-eof options kind has at environment after body tokens items resolved short settings is;
        fits = fits;
        scanners = scanners;
        ends = ends;
        bare = bare;
        tags = tags;
        kinds = each_kinds (length resolved.acts) resolved.scanners (recursion_from_All (IsFit (length resolved.acts)) resolved.scanners fits.scanners);
        no_table = no_table;
        labels = labels;
        linked = belong;
      }
