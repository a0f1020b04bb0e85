-- A block whose checks find nothing resolves: each of its scanners can be built.
use Rattle.std.proofs.Common.{◌≡◌, ℕ, ◌≤◌, Bool, true, false, not, List, [], ◌∷◌, ◌++◌, map, length, Option, None, refl, sym, ap, ap₂, ◌∙◌, arith}
use Rattle.std.specs.List.{AllByRecursion, list_any}
use Rattle.std.specs.Prelude.{if◌then◌else◌}
use Rattle.lx_base.specs.declared.places.Pos.{Pos}
use Rattle.lx_regex.specs.Pattern as regex
use Rattle.lx_regex.specs.Pattern.{Pattern, is_end, patterns_of}
use Rattle.lx_regex.specs.Term.{Term}
use Rattle.lx_regex.specs.declared.rules.Rule.{Rule}
use Rattle.lx_regex.specs.declared.rules.Tag.{Tag}
use Rattle.lx_base.specs.declared.settings.Format.{Format}
use Rattle.lx_rules.specs.Blocks.{AreScanners, ClashCheck, ScannerChecks, IsResolved, IsScanner, cond_name, conditions_of, every, given_names, lonely_fault, names_of, not_of_kind, of_kind, own_or, pattern_of, rules_of, rules_under, scanner_fault, scanner_rules, scanners_fault, shared_beside, size_of, targets_fault}
use Rattle.lx_exprs.specs.Checks.{Check, Finds, Then, is_among}
use Rattle.lx_exprs.specs.Defined.{term_of_meaning}
use Rattle.lx_rules.specs.Environments.{config_of}
use Rattle.lx_rules.specs.Items.{State, is_default}
use Rattle.lx_rules.specs.Rules.{RuleOf}
use Rattle.lx_rules.specs.declared.resolved.Resolved.{Resolved}
use Rattle.lx_rules.specs.declared.resolved.Scanner.{Scanner}
use Rattle.lx_rules.proofs.ScannerSets.BuildableMeanings.{IsRuleBuildable}
use Rattle.lx_exprs.specs.Meanings.{behind}
use Rattle.lx_exprs.proofs.Contents.TermsBehind.{term_of-behind}
use Rattle.lx_rules.proofs.ScannerSets.BuiltTerms.{Expressed, expressed}
use Rattle.lx_exprs.proofs.Forms.ClassForms.{then-none}
use Rattle.lx_rules.proofs.Rules.RuleNumbers.{all_both, all_filtered}
use Rattle.lx_rules.proofs.ScannerSets.ScannerLimits.{or_none, scanner_limited}

-- what holds of all rules holds of those of a scanner
module _ (P : RuleOf → Type 0) where
  all_own : (own shared : List RuleOf) → AllByRecursion P own → AllByRecursion P shared → AllByRecursion P (own_or own shared)
  all_own [] shared here there = there
  all_own (rule ∷ own) shared here there = here

  all_shared : (own shared : List RuleOf) → AllByRecursion P shared → AllByRecursion P (shared_beside own shared)
  all_shared own shared all = at (list_any (λ (rule : RuleOf). is_end rule.kind) own)
    where
      at : (b : Bool) → AllByRecursion P (if b then not_of_kind is_end shared else shared)
      at true = all_filtered P (λ (rule : RuleOf). not (is_end rule.kind)) shared all
      at false = all

  all_in_scanner : (own shared : List RuleOf) → AllByRecursion P own → AllByRecursion P shared → AllByRecursion P (scanner_rules own shared)
  all_in_scanner own shared here there =
      let plain = λ (rules : List RuleOf) (all : AllByRecursion P rules). all_filtered P (λ (rule : RuleOf). not (is_default rule.kind)) rules all in
      let default = λ (rules : List RuleOf) (all : AllByRecursion P rules). all_filtered P (λ (rule : RuleOf). is_default rule.kind) rules all in
      all_both P (not_of_kind is_default own ++ not_of_kind is_default (shared_beside own shared))
      (own_or (of_kind is_default own) (of_kind is_default shared))
      (all_both P (not_of_kind is_default own) (not_of_kind is_default (shared_beside own shared)) (plain own here)
      (plain (shared_beside own shared) (all_shared own shared there)))
      (all_own (of_kind is_default own) (of_kind is_default shared) (default own here) (default shared there))

  pub all_of_scanner : (cond : List ℕ) (rules : List RuleOf) → AllByRecursion P rules → AllByRecursion P (rules_of cond rules)
  all_of_scanner cond rules all =
      all_in_scanner (rules_under cond rules) (rules_under every rules)
      (all_filtered P (λ (rule : RuleOf). is_among cond rule.conds) rules all) (all_filtered P (λ (rule : RuleOf). is_among every rule.conds) rules all)

-- each rule counts for no more than all of them, `$` aside
each_small : (rules : List RuleOf) → AllByRecursion IsRuleBuildable rules → size_of (not_of_kind is_end rules) ≤ 4096
    → AllByRecursion (λ (rule : RuleOf). rule.meaning.size ≤ 4096) rules
each_small [] buildable most = tt
each_small (rule ∷ rules) buildable most = at (is_end rule.kind) refl most (each_small rules buildable.1)
  where
    at : (b : Bool) → is_end rule.kind ≡ b → size_of (if not b then rule ∷ not_of_kind is_end rules else not_of_kind is_end rules) ≤ 4096
        → (size_of (not_of_kind is_end rules) ≤ 4096 → AllByRecursion (λ (rule : RuleOf). rule.meaning.size ≤ 4096) rules)
        → AllByRecursion (λ (rule : RuleOf). rule.meaning.size ≤ 4096) (rule ∷ rules)
    at true e most later = (buildable.0.small e, later most)
    at false e most later = (omega (arith, most), later (omega (arith, most)))

-- the rules of a scanner whose checks find nothing are small
scanner_small : (at : Pos) (eof : Option ℕ) (rules : List RuleOf) → AllByRecursion IsRuleBuildable rules → scanner_fault at eof rules ≡ None
    → AllByRecursion (λ (rule : RuleOf). rule.meaning.size ≤ 4096) rules
scanner_small at eof rules buildable none = each_small rules buildable (scanner_limited at eof rules none).size

-- the rule of an expression that stands for its meaning
abbrev built_rule : (rule : RuleOf) → Expressed (term_of_meaning rule.meaning) → Rule
built_rule rule expr = record {
  number = rule.act.number;
  kind = rule.kind;
  expr = expr.0;
  tags = rule.meaning.tags;
  slash = rule.slash;
  groups = rule.meaning.groups;
}

rule_pattern : (rule : RuleOf) (expr : Expressed (term_of_meaning rule.meaning)) → regex.pattern_of (built_rule rule expr) ≡ pattern_of rule
rule_pattern rule expr =
    ap make (term_of-behind expr.0 (length rule.meaning.tags) ∙ ap (behind (length rule.meaning.tags)) expr.1)
  where
    make : Term → Pattern
    make term = record {
      number = rule.act.number;
      kind = rule.kind;
      term = term;
      many = map (λ (tag : Tag). tag.many) rule.meaning.tags;
      slash = rule.slash;
      groups = rule.meaning.groups;
    }

-- rules with the patterns and the names that are wanted
abbrev AreBuilt : List RuleOf → List Rule → Type 0
AreBuilt rules built = (patterns_of built ≡ map pattern_of rules) × (map given_names built ≡ map names_of rules)

rules_built : (rules : List RuleOf) → AllByRecursion IsRuleBuildable rules
    → AllByRecursion (λ (rule : RuleOf). rule.meaning.size ≤ 4096) rules → (built : List Rule) × AreBuilt rules built
rules_built [] buildable small = ([], (refl, refl))
rules_built (rule ∷ rules) buildable small =
    let expr = expressed (term_of_meaning rule.meaning) (buildable.0.meaning.expressible small.0) in
    let others = rules_built rules buildable.1 small.1 in (
      built_rule rule expr ∷ others.0,
      (
        ap₂ (λ (p : Pattern) (l : List Pattern). p ∷ l) (rule_pattern rule expr) others.1.0,
        ap (λ (l : List (List (List ℕ))). names_of rule ∷ l) others.1.1,
      ),
    )

module _ (named : Bool) (at : Pos) (eof : Option ℕ) (rules : List RuleOf) (buildable : AllByRecursion IsRuleBuildable rules) where
  scanner_built : (cond : List ℕ) → scanner_fault at eof (rules_of cond rules) ≡ None → (scanner : Scanner) × IsScanner named rules cond scanner
  scanner_built cond none =
      let all = all_of_scanner IsRuleBuildable cond rules buildable in
      let built = rules_built (rules_of cond rules) all (scanner_small at eof (rules_of cond rules) all none) in (
        record { cond = cond_name named cond; set = record { rules = built.0 } },
        record { name = refl; patterns = built.1.0; names = built.1.1 },
      )

  scanners_built : (conds : List (List ℕ)) → scanners_fault at eof rules conds ≡ None → (scanners : List Scanner) × AreScanners named rules conds scanners
  scanners_built [] none = ([], tt)
  scanners_built (cond ∷ conds) none =
      let both = or_none (scanner_fault at eof (rules_of cond rules)) (scanners_fault at eof rules conds) none in
      let one = scanner_built cond both.0 in
      let others = scanners_built conds both.1 in (one.0 ∷ others.0, (one.1, others.1))

-- what a block resolves to
pub block_built : (named custom : Bool) (format : Format) (at : Pos) (state : State) → ScannerChecks custom format at state None
    → AllByRecursion IsRuleBuildable state.rules
    → (resolved : Resolved) × IsResolved named state resolved
block_built named custom format at state checked buildable =
    let Scanners : Check = Finds (scanners_fault at (config_of state.settings).eof state.rules (conditions_of state.rules)) in
    let Targets : Check = Finds (targets_fault state.rules (conditions_of state.rules)) in
    let Lonely : Check = Finds (lonely_fault at state.rules (conditions_of state.rules)) in
    let one = then-none (ClashCheck custom format at (config_of state.settings).names state.rules) (Then Lonely (Then Targets Scanners)) checked in
    let two = then-none Lonely (Then Targets Scanners) one.1 in
    let three = then-none Targets Scanners two.1 in
    let built = scanners_built named at (config_of state.settings).eof state.rules buildable (conditions_of state.rules) (sym three.1) in (
      record {
        scanners = built.0;
        acts = map (λ (rule : RuleOf). rule.act) state.rules;
        config = config_of state.settings;
      },
      record { scanners = built.1; acts = refl; config = refl },
    )
