-- The scanners that a block resolves to are within the limits, and their classes fit the encoding.
use Rattle.std.proofs.Common.{◌≡◌, ◌≢◌, ℕ, ◌+◌, ◌-◌, ◌*◌, ◌≤◌, Bool, true, false, List, [], ◌∷◌, length, map, Option, None, Some, inl, inr, refl, sym, ap, ap₂, ◌∙◌, subst, arith}
use Rattle.std.specs.List.{AllByRecursion}
use Rattle.std.specs.Prelude.{nat_le, not, if◌then◌else◌}
use Rattle.std.proofs.lemmas.Bool.{OnFalse_from}
use Rattle.std.proofs.lemmas.List.{length-append, length-map}
use Rattle.std.proofs.lemmas.List.Elements.{recursion_from_All}
use Rattle.lx_regex.specs.ClassLimits.{AllClassesFit}
use Rattle.lx_base.specs.declared.blocks.BlockKind.{BlockKind}
use Rattle.lx_base.specs.declared.places.Pos.{Pos}
use Rattle.lx_base.specs.declared.settings.Enc.{Enc}
use Rattle.lx_base.specs.declared.settings.Options.{Options}
use Rattle.lx_regex.specs.Limits as limits
use Rattle.lx_regex.specs.Limits.{AreRegular, HaveDifferentNumbers, IsRegular, IsSlashOf, NoneHasNumber, StandsAmong, StandsIn, end_count}
use Rattle.lx_regex.specs.Term.{Term, Terms, empty, class, any_unit, cat, alt, repeat, tag, group, nil, cons}
use Rattle.lx_regex.specs.Pattern as regex
use Rattle.lx_regex.specs.Pattern.{Pattern, is_end, terms_of}
use Rattle.lx_regex.specs.Values.{group_ends}
use Rattle.lx_regex.proofs.PartTables.RuleParts.{length-group_ends}
use Rattle.lx_regex.specs.declared.rules.Rule.{Rule}
use Rattle.lx_regex.specs.declared.rules.Tag.{Tag}
use Rattle.lx_rules.specs.declared.resolved.Resolved.{Resolved}
use Rattle.lx_rules.specs.declared.resolved.Scanner.{Scanner}
use Rattle.lx_rules.specs.Blocks as blocks
use Rattle.lx_base.specs.declared.settings.Format.{Format}
use Rattle.lx_rules.specs.Blocks.{AreScanners, BlockChecks, ClashCheck, HasRules, IsResolvedAs, IsScanner, of_scanners, of_use, to_keep, conditions_of, every, lonely_fault, nesting_of, not_of_kind, of_kind, rules_of, scanner_fault, scanners_fault, targets_fault, ScannerChecks}
use Rattle.lx_exprs.specs.Checks.{Check, Finds, Then}
use Rattle.lx_exprs.specs.Defined.{Meaning, is_built, whole, whole_room}
use Rattle.lx_rules.specs.Conditions.{AreConds}
use Rattle.lx_rules.specs.Environments.{config_of}
use Rattle.lx_rules.specs.Items.{State}
use Rattle.lx_rules.specs.Rules.{RuleOf}
use Rattle.lx_rules.specs.FitScanners.{FitsLimits, IsFit}
use Rattle.lx_exprs.specs.Within.{IsPlain}
use Rattle.lx_rules.specs.Within.{IsScannerWithin}
use Rattle.lx_rules.proofs.ScannerSets.BuiltScanners.{all_of_scanner}
use Rattle.lx_rules.proofs.CondSets.CondNames.{AreOthers, conditions_of-others}
use Rattle.lx_rules.proofs.ScannerSets.ScannerLimits.{or_none, scanner_limited}
use Rattle.lx_exprs.specs.Meanings.{all_behind, behind}
use Rattle.lx_regex.specs.Script.{merge_tags}
use Rattle.lx_exprs.proofs.Classes.ClassFits.{classes_fit, plain-behind}
use Rattle.lx_exprs.proofs.TagLists.TagNumbers.{long-behind, merge_tags-numbers, numbers_from-shifted, tags_in-behind}
use Rattle.lx_exprs.proofs.Forms.ClassForms.{then-none}
use Rattle.lx_rules.proofs.Rules.EndRules.{IsEndRule, end_once, end_total, tags_of-others}
use Rattle.lx_rules.proofs.Blocks.ItemFits.{IsStateWithin}
use Rattle.lx_rules.proofs.Rules.RuleFits.{IsRuleMeant, IsSlashIn}
use Rattle.lx_rules.proofs.Rules.RuleNumbers.{Differ, differ_of_scanner}

-- what is asked of one rule, where it is not `$`
record IsRuleWithin (enc : Enc) (rule : RuleOf) : Type 0 where
  plain : is_end rule.kind ≡ false → IsPlain enc (whole rule.meaning.shape)
  regular : is_end rule.kind ≡ false → IsRegular (blocks.pattern_of rule)
  count : length rule.meaning.tags + 2 * (rule.meaning.groups - 1) ≤ rule.meaning.count

abbrev AreWithin : Enc → List RuleOf → Type 0
AreWithin enc rules = AllByRecursion (IsRuleWithin enc) rules

-- the rules of a scanner with these patterns
abbrev HaveRules : List Rule → List RuleOf → Type 0
HaveRules built rules = map regex.pattern_of built ≡ map blocks.pattern_of rules

no_rule : {A : Type 0} (built : Rule) (others : List Rule) → HaveRules (built ∷ others) [] → A
no_rule built others same = absurd (let h = same in cc)

no_built : {A : Type 0} (rule : RuleOf) (rules : List RuleOf) → HaveRules [] (rule ∷ rules) → A
no_built rule rules same = absurd (let h = same in cc)

first_same : (built : Rule) (others : List Rule) (rule : RuleOf) (rules : List RuleOf) → HaveRules (built ∷ others) (rule ∷ rules)
    → regex.pattern_of built ≡ blocks.pattern_of rule
first_same built others rule rules same = let h = same in cc

rest_same : (built : Rule) (others : List Rule) (rule : RuleOf) (rules : List RuleOf) → HaveRules (built ∷ others) (rule ∷ rules)
    → HaveRules others rules
rest_same built others rule rules same = let h = same in cc

-- `$` stands for `$`
same_ends : (built : Rule) (others : List Rule) (rule : RuleOf) (rules : List RuleOf) → HaveRules (built ∷ others) (rule ∷ rules)
    → is_end built.kind ≡ is_end rule.kind
same_ends built others rule rules same = ap (λ (p : Pattern). is_end p.kind) (first_same built others rule rules same)

-- a meaning within the limits is built
built_within : (meaning : Meaning) → meaning.size ≤ 4096 → meaning.nesting ≤ 256 → meaning.count ≤ 128 → is_built whole_room meaning ≡ true
built_within meaning size nesting count =
    let s : nat_le meaning.size 4096 ≡ true = search (arith, size) in
    let n : nat_le meaning.nesting 256 ≡ true = search (arith, nesting) in
    let c : nat_le meaning.count 128 ≡ true = search (arith, count) in rw (s, n, c) refl

-- a rule has as many sorts as tags, two for each group
sorts_many : (rule : RuleOf) → length rule.meaning.tags + 2 * rule.meaning.groups ≡ length (regex.sorts_of (blocks.pattern_of rule))
sorts_many rule =
    let all = length-append (map (λ (tag : Tag). tag.many) rule.meaning.tags) (group_ends rule.meaning.groups) in
    let ends = length-group_ends rule.meaning.groups in
    let named = length-map rule.meaning.tags (λ (tag : Tag). tag.many) in omega (arith, all, ends, named)

-- the slash stands in the rule's term, too
among_behind : (tags slash : ℕ) (members : Terms) → StandsAmong slash members → StandsAmong slash (all_behind tags members)
among_behind tags slash nil is = is
among_behind tags slash (cons member members) (inl is) = inl (ap (behind tags) is)
among_behind tags slash (cons member members) (inr is) = inr (among_behind tags slash members is)

in_behind : (tags slash : ℕ) (term : Term) → StandsIn slash term → StandsIn slash (behind tags term)
in_behind tags slash (cat members) is = among_behind tags slash members is
in_behind tags slash empty is = absurd is
in_behind tags slash (class ranges) is = absurd is
in_behind tags slash any_unit is = absurd is
in_behind tags slash (alt members) is = absurd is
in_behind tags slash (repeat body low high) is = absurd is
in_behind tags slash (tag number) is = absurd is
in_behind tags slash (group opening closing body) is = absurd is

slash_behind : (rule : RuleOf) → IsSlashIn rule.meaning rule.slash → IsSlashOf (blocks.pattern_of rule) rule.slash
slash_behind rule is = of rule.slash is
  where
    of : (slash : Option ℕ) → IsSlashIn rule.meaning slash → IsSlashOf (blocks.pattern_of rule) slash
    of None is = tt
    of (Some slash) is = (is.0, in_behind (length rule.meaning.tags) slash (whole rule.meaning.shape) is.1)

module _ (enc : Enc) where
  -- rules `$` are counted in both
  ends_same : (built : List Rule) (rules : List RuleOf) → HaveRules built rules → end_count built ≡ end_total rules
  ends_same [] [] same = refl
  ends_same [] (rule ∷ rules) same = no_built rule rules same
  ends_same (one ∷ built) [] same = no_rule one built same
  ends_same (one ∷ built) (rule ∷ rules) same =
      at (is_end rule.kind) (same_ends one built rule rules same) (ends_same built rules (rest_same one built rule rules same))
    where
      at : (b : Bool) → is_end one.kind ≡ b → end_count built ≡ end_total rules
          → end_count (one ∷ built) ≡ length (if b then rule ∷ of_kind is_end rules else of_kind is_end rules)
      at true e later = rw (e) (omega (arith, later))
      at false e later = rw (e) (omega (arith, later))

  regular_all : (built : List Rule) (rules : List RuleOf) → HaveRules built rules → AreWithin enc rules → AreRegular built
  regular_all [] rules same are = tt
  regular_all (one ∷ built) [] same are = no_rule one built same
  regular_all (one ∷ built) (rule ∷ rules) same are = (
    OnFalse_from (is_end one.kind) (IsRegular (regex.pattern_of one))
        (λ is. subst IsRegular (sym (first_same one built rule rules same)) (are.0.regular (sym (same_ends one built rule rules same) ∙ is))),
    regular_all built rules (rest_same one built rule rules same) are.1,
  )

  -- tags are counted in both
  tags_same : (built : List Rule) (rules : List RuleOf) → HaveRules built rules → AreWithin enc rules → limits.tags_of built ≤ blocks.tags_of rules
  tags_same [] [] same are = omega arith
  tags_same [] (rule ∷ rules) same are = no_built rule rules same
  tags_same (one ∷ built) [] same are = no_rule one built same
  tags_same (one ∷ built) (rule ∷ rules) same are =
      let later = tags_same built rules (rest_same one built rule rules same) are.1 in
      let first = first_same one built rule rules same in
      let groups : one.groups ≡ rule.meaning.groups = ap (λ (p : Pattern). p.groups) first in
      let many = ap (λ (p : Pattern). length p.many) first in
      let given = length-map one.tags (λ (tag : Tag). tag.many) in
      let named = length-map rule.meaning.tags (λ (tag : Tag). tag.many) in
      let count : length one.tags ≡ length rule.meaning.tags = sym given ∙ many ∙ named in
      let least = are.0.count in omega (arith, count, groups, least, later)

  none_has : (number : ℕ) (built : List Rule) (rules : List RuleOf) → HaveRules built rules
      → AllByRecursion (λ (other : RuleOf). other.act.number ≢ number) rules → NoneHasNumber number built
  none_has number [] rules same none = tt
  none_has number (one ∷ built) [] same none = no_rule one built same
  none_has number (one ∷ built) (rule ∷ rules) same none =
      let is = ap (λ (p : Pattern). p.number) (first_same one built rule rules same) in
      (λ held. none.0 (sym is ∙ held), none_has number built rules (rest_same one built rule rules same) none.1)

  different : (built : List Rule) (rules : List RuleOf) → HaveRules built rules → Differ rules → HaveDifferentNumbers built
  different [] rules same differ = tt
  different (one ∷ built) [] same differ = no_rule one built same
  different (one ∷ built) (rule ∷ rules) same differ =
      let is = ap (λ (p : Pattern). p.number) (first_same one built rule rules same) in
      let rest = rest_same one built rule rules same in (
        subst (λ number. NoneHasNumber number built) (sym is) (none_has rule.act.number built rules rest differ.0),
        different built rules rest differ.1,
      )

  -- classes fit
  fit_all : (rules : List RuleOf) → AreWithin enc rules → AllClassesFit enc (terms_of (map blocks.pattern_of rules))
  fit_all [] are = tt
  fit_all (rule ∷ rules) are = at (is_end rule.kind) refl (fit_all rules are.1)
    where
      at : (b : Bool) → is_end rule.kind ≡ b → AllClassesFit enc (terms_of (map blocks.pattern_of rules))
          → AllClassesFit enc (terms_of (map blocks.pattern_of (rule ∷ rules)))
      at true e later = rw e later
      at false e later =
          rw e (
            classes_fit enc (behind (length rule.meaning.tags) (whole rule.meaning.shape))
                (plain-behind enc (length rule.meaning.tags) (whole rule.meaning.shape) (are.0.plain e)),
            later,
          )

  -- a rule is as is asked where it is within the limits
  rule_within : (rule : RuleOf) → IsRuleMeant enc rule.meaning rule.slash → rule.meaning.size ≤ 4096 → rule.meaning.nesting ≤ 256 → rule.meaning.count ≤ 128
      → IsRuleWithin enc rule
  rule_within rule meant size nesting tags =
      let built = built_within rule.meaning size nesting tags in
      let numbered = meant.numbered built in
      let many = length rule.meaning.tags in
      let groups = rule.meaning.groups in record {
        plain = λ other. meant.plain;
        regular = λ other. record {
          sequences = long-behind many (whole rule.meaning.shape) numbered.sequences;
          tags =
              tags_in-behind many (whole rule.meaning.shape)
              ∙ ap₂ merge_tags numbered.tags (ap (map (λ n. n + many)) numbered.ends ∙ numbers_from-shifted many 0 (2 * groups))
              ∙ merge_tags-numbers 0 many (2 * groups) ∙ ap (limits.numbers_from 0) (sorts_many rule);
          slash = slash_behind rule meant.slashed;
        };
        count = meant.count built;
      }

  end_within : (rule : RuleOf) → IsEndRule rule → is_end rule.kind ≡ true → IsRuleWithin enc rule
  end_within rule end e = record {
    plain = λ other. absurd (let h : true ≡ false = sym e ∙ other in cc);
    regular = λ other. absurd (let h : true ≡ false = sym e ∙ other in cc);
    count = subst (λ (m : Meaning). length m.tags + 2 * (m.groups - 1) ≤ m.count) (sym (end e)) (omega arith);
  }

  -- each rule is so where all of them but `$` are within the limits
  rules_within : (rules : List RuleOf) → AllByRecursion (λ (rule : RuleOf). IsRuleMeant enc rule.meaning rule.slash) rules → AllByRecursion IsEndRule rules
      → blocks.size_of (not_of_kind is_end rules) ≤ 4096 → nesting_of (not_of_kind is_end rules) ≤ 256 → blocks.tags_of (not_of_kind is_end rules) ≤ 128
      → AreWithin enc rules
  rules_within [] meant ends size nesting tags = tt
  rules_within (rule ∷ rules) meant ends size nesting tags = at (is_end rule.kind) refl size nesting tags (rules_within rules meant.1 ends.1)
    where
      at : (b : Bool) → is_end rule.kind ≡ b → blocks.size_of (if not b then rule ∷ not_of_kind is_end rules else not_of_kind is_end rules) ≤ 4096
          → nesting_of (if not b then rule ∷ not_of_kind is_end rules else not_of_kind is_end rules) ≤ 256
          → blocks.tags_of (if not b then rule ∷ not_of_kind is_end rules else not_of_kind is_end rules) ≤ 128
          → (blocks.size_of (not_of_kind is_end rules) ≤ 4096 → nesting_of (not_of_kind is_end rules) ≤ 256
          → blocks.tags_of (not_of_kind is_end rules) ≤ 128 → AreWithin enc rules)
          → AreWithin enc (rule ∷ rules)
      at true e size nesting tags later = (end_within rule ends.0 e, later size nesting tags)
      at false e size nesting tags later = (
        rule_within rule meant.0 (omega (arith, size)) (omega (arith, nesting)) (omega (arith, tags)),
        later (omega (arith, size)) (omega (arith, nesting)) (omega (arith, tags)),
      )

module _ (options : Options) (place : Pos) (state : State) (within : IsStateWithin options state) (conds_are : AllByRecursion (λ (rule : RuleOf). AreConds rule.conds) state.rules) (named : Bool) (acts : ℕ) where
  -- the scanner of a condition whose checks find nothing
  scanner_within : (eof : Option ℕ) (cond : List ℕ) (scanner : Scanner) → cond ≢ every → scanner_fault place eof (rules_of cond state.rules) ≡ None
      → IsScanner named state.rules cond scanner → IsFit acts scanner → IsScannerWithin options.enc scanner
  scanner_within eof cond scanner other none is fit =
      let rules = rules_of cond state.rules in
      let most = scanner_limited place eof rules none in
      let bare = all_of_scanner IsEndRule cond state.rules within.ends in
      let all = rules_within options.enc rules (all_of_scanner (λ (rule : RuleOf). IsRuleMeant options.enc rule.meaning rule.slash) cond state.rules within.rules) bare
      most.size most.nesting most.tags in
      let same : HaveRules scanner.set.rules rules = is.patterns in
      let tags = tags_same options.enc scanner.set.rules rules same all in
      let counted = tags_of-others rules bare in
      let ends = ends_same options.enc scanner.set.rules rules same in
      let once = end_once cond state.rules within.once in record {
        limits = record {
          size = fit.size;
          tags = let le = most.tags in omega (arith, tags, counted, le);
          ends = omega (arith, ends, once);
          numbers = different options.enc scanner.set.rules rules same (differ_of_scanner cond state.rules other conds_are within.differ);
          regular = regular_all options.enc scanner.set.rules rules same all;
        };
        classes = subst (λ patterns. AllClassesFit options.enc (terms_of patterns)) (sym same) (fit_all options.enc rules all);
      }

  scanners_within : (eof : Option ℕ) (conds : List (List ℕ)) (scanners : List Scanner) → AreOthers conds → scanners_fault place eof state.rules conds ≡ None
      → AreScanners named state.rules conds scanners → AllByRecursion (IsFit acts) scanners → AllByRecursion (IsScannerWithin options.enc) scanners
  scanners_within eof [] [] others none are fit = tt
  scanners_within eof [] (scanner ∷ scanners) others none are fit = absurd are
  scanners_within eof (cond ∷ conds) [] others none are fit = absurd are
  scanners_within eof (cond ∷ conds) (scanner ∷ scanners) others none are fit =
      let found = or_none (scanner_fault place eof (rules_of cond state.rules)) (scanners_fault place eof state.rules conds) none in
      (scanner_within eof cond scanner others.0 found.0 are.0 fit.0, scanners_within eof conds scanners others.1 found.1 are.1 fit.1)

-- the checks of the scanners of a block find nothing where all checks do
pub scanners_checked : (custom : Bool) (format : Format) (place : Pos) (state : State) → ScannerChecks custom format place state None
    → scanners_fault place (config_of state.settings).eof state.rules (conditions_of state.rules) ≡ None
scanners_checked custom format place state checked =
    let Scanners : Check = Finds (scanners_fault place (config_of state.settings).eof state.rules (conditions_of state.rules)) in
    let Targets : Check = Finds (targets_fault state.rules (conditions_of state.rules)) in
    let Lonely : Check = Finds (lonely_fault place state.rules (conditions_of state.rules)) in
    let one = then-none (ClashCheck custom format place (config_of state.settings).names state.rules) (Then Lonely (Then Targets Scanners)) checked in
    let two = then-none Lonely (Then Targets Scanners) one.1 in
    sym (then-none Targets Scanners two.1).1

-- the scanners of a block are as is asked where what is known before its items is
pub resolved_within :
    (options : Options) (kind : BlockKind) → HasRules kind → (place : Pos) (state : State) (resolved : Resolved) → IsStateWithin options state
    → AllByRecursion (λ (rule : RuleOf). AreConds rule.conds) state.rules → BlockChecks options.custom options.format kind place state None → IsResolvedAs kind options.conds state resolved → FitsLimits resolved
    → AllByRecursion (IsScannerWithin options.enc) resolved.scanners
resolved_within options kind to_keep place state resolved within conds checked is fine = subst (AllByRecursion (IsScannerWithin options.enc)) (sym is.0) tt
resolved_within options kind of_scanners place state resolved within conds checked is fine =
    scanners_within options place state within conds options.conds (length resolved.acts) (config_of state.settings).eof (conditions_of state.rules) resolved.scanners (conditions_of-others state.rules)
    (scanners_checked options.custom options.format place state checked) is.scanners (recursion_from_All (IsFit (length resolved.acts)) resolved.scanners fine.scanners)
resolved_within options kind of_use place state resolved within conds checked is fine =
    scanners_within options place state within conds options.conds (length resolved.acts) (config_of state.settings).eof (conditions_of state.rules) resolved.scanners (conditions_of-others state.rules)
    (scanners_checked options.custom options.format place state checked) is.scanners (recursion_from_All (IsFit (length resolved.acts)) resolved.scanners fine.scanners)
