-- The block of a generated source resolves without a fault, to one scanner of the generated rules.
use Rattle.std.proofs.Common.{◌≡◌, ◌∙◌, ℕ, ◌≤◌, false, List, [], ◌∷◌, Some, None, Ok, Err, inl, inr, refl, sym, ap, subst, arith}
use Rattle.lx_base.specs.declared.blocks.BlockKind.TheVariants as block
use Rattle.lx_base.specs.declared.faults.Fault.{Fault}
use Rattle.lx_base.specs.declared.places.Pos.{Pos}
use Rattle.lx_regex.specs.Pattern.{patterns_of, terms_of}
use Rattle.lx_rules.proofs.Blocks.OneItem.{Goes-one}
use Rattle.lx_rules.specs.Blocks.{AreScanners, IsBlockFault, IsScanner, Resolves}
use Rattle.lx_rules.specs.Environments.{Environment, first_environment}
use Rattle.lx_rules.specs.Items.{Goes, State, first_state}
use Rattle.lx_rules.specs.Rules.{RuleOf}
use Rattle.lx_rules.specs.declared.resolved.Resolved.{Resolved}
use Rattle.lx_rules.specs.declared.resolved.Scanner.{Scanner}
use Rattle.lx_source.proofs.SourceItems.{source_items}
use Rattle.lx_source.proofs.SourceLexemes.{source_lexemes}
use Rattle.lx_source.proofs.SourceRules.{AreRules, checks_clear, one_condition, scanner_terms}
use Rattle.lx_source.proofs.SourceStates.{Ends, source-ends}
use Rattle.lx_source.specs.GeneratedRules.{rule_terms}
use Rattle.lx_source.specs.Sources.{source_options}

-- the scanner of the one condition
record HasOne (rules : List RuleOf) (scanners : List Scanner) : Type 0 where
  scanner : Scanner
  all : scanners ≡ scanner ∷ []
  is : IsScanner false rules [] scanner

one-scanner : (rules : List RuleOf) (scanners : List Scanner) → AreScanners false rules ([] ∷ []) scanners → HasOne rules scanners
one-scanner rules [] are = absurd are
one-scanner rules (scanner ∷ []) are = record { scanner = scanner; all = refl; is = are.0 }
one-scanner rules (scanner ∷ next ∷ scanners) are = absurd are.1

-- one scanner, whose rules have the generated terms
pub record IsGenerated (rules : ℕ) (scanners : List Scanner) : Type 0 where
  pub scanner : Scanner
  pub all : scanners ≡ scanner ∷ []
  pub terms : terms_of (patterns_of scanner.set.rules) ≡ rule_terms rules

module _ (rules : ℕ) (few : rules ≤ 200) (at start : Pos) where
  ends_here : Ends rules start
  ends_here = source-ends rules start (omega arith)

  -- what is known behind the items
  abbrev IsKnown : State → Type 0
  IsKnown state = Goes source_options (source_lexemes rules start) (first_state block.Code first_environment) (source_items rules) (Ok state)

  known_one : (state : State) → IsKnown state → ends_here.after ≡ state
  known_one state goes = let same = Goes-one source_options (source_lexemes rules start) ends_here.goes (Ok state) goes in cc

  rules_known : (state : State) → IsKnown state → AreRules 1 rules state.rules
  rules_known state goes = subst (λ (s : State). AreRules 1 rules s.rules) (known_one state goes) ends_here.are

  pub no_block_fault : (fault : Fault)
      → IsBlockFault source_options block.Code at first_environment (source_lexemes rules start) (source_items rules) fault → ⊥
  no_block_fault fault (inl waits) = let same : None ≡ Some fault = waits in cc
  no_block_fault fault (inr (opened, inl goes)) =
      let same = Goes-one source_options (source_lexemes rules start) ends_here.goes (Err fault) goes in cc
  no_block_fault fault (inr (opened, inr found)) =
      checks_clear rules few found.0.rules (rules_known found.0 found.1) at found.0 refl
      (ap (λ (s : State). s.settings) (sym (known_one found.0 found.1)) ∙ ends_here.settings) fault found.2

  pub scanner_generated : (after : Environment) (resolved : Resolved)
      → Resolves source_options block.Code at first_environment (source_lexemes rules start) (source_items rules) after resolved
      → IsGenerated rules resolved.scanners
  scanner_generated after resolved is =
      let are = rules_known is.state is.goes in
      let one = one-scanner is.state.rules resolved.scanners
      (subst (λ (l : List (List ℕ)). AreScanners false is.state.rules l resolved.scanners)
      (one_condition rules few is.state.rules are) is.ends.scanners) in
      record {
        scanner = one.scanner;
        all = one.all;
        terms = ap terms_of one.is.patterns ∙ scanner_terms rules few is.state.rules are;
      }
