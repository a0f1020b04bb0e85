-- The items of a block have one first fault, or leave one thing known; and so a block has one fault, or none.
use Rattle.std.proofs.Common.{◌≡◌, ℕ, suc, ◌-◌, Bool, true, false, List, [], ◌∷◌, length, Option, Some, None, Result, Ok, Err, refl, sym, ap, ap₂, subst, inl, inr, ◌∙◌}
use Rattle.std.specs.Prelude.{not, ◌==◌}
use Rattle.std.specs.Option.{option_map}
use Rattle.lx_base.specs.Names.{Spellings}
use Rattle.lx_base.specs.declared.blocks.BlockKind.{BlockKind}
use Rattle.lx_base.specs.declared.faults.Fault.{Fault}
use Rattle.lx_base.specs.declared.faults.Fault.TheVariants.{BadValue}
use Rattle.lx_base.specs.declared.places.Pos.{Pos}
use Rattle.lx_base.specs.declared.settings.Options.{Options}
use Rattle.lx_parse.specs.declared.items.Item.{Item}
use Rattle.lx_parse.specs.declared.items.Item.TheVariants.{Define, Configure, Rule, Text}
use Rattle.lx_regex.specs.declared.rules.Kind.{Kind}
use Rattle.lx_rules.specs.Blocks.{AreScanners, BlockChecks, ClashCheck, HasRules, IsBlockFault, IsFaultWithin, IsResolvedAs, NoClash, Resolves, ScannerChecks, conditions_of, environment_behind, lonely_fault, no_rules_fault, of_scanners, of_use, scanners_fault, targets_fault, to_keep}
use Rattle.lx_exprs.specs.Checks.{Then, Finds, are_groups}
use Rattle.lx_rules.specs.Configurations.{config_fault}
use Rattle.lx_exprs.specs.Defined.{Definition, Meaning, IsDefined, definition_of}
use Rattle.lx_exprs.specs.Meanings.{IsMeaning}
use Rattle.lx_rules.specs.Environments.{Environment, config_of, with_setting}
use Rattle.lx_rules.specs.declared.environment.Setting.{Setting}
use Rattle.lx_exprs.specs.Expressions.{ExpressionChecks}
use Rattle.lx_regex.specs.Pattern.{is_end}
use Rattle.lx_rules.specs.Items.{Goes, ends, refused, next, HeadChecks, HeadSort, any, end, expression, IsAfter, IsHead, ItemChecks, ListChecks, State, TargetChecks, conds_of, first_of, first_state, head_sort, is_default, twice, unless, rule_of, with_definition, with_rule, with_settings, RuleMeaning, alone, as_rule, behind_slash, trailing}
use Rattle.lx_rules.specs.Rules.{RuleOf}
use Rattle.lx_forms.specs.Lexemes.{Lexeme, nth_lexeme, sort_at}
use Rattle.lx_rules.specs.declared.resolved.Resolved.{Resolved}
use Rattle.lx_rules.specs.declared.resolved.Scanner.{Scanner}
use Rattle.lx_rules.specs.Likeness.{AreAlike, HaveSameRules}
use Rattle.lx_exprs.proofs.Forms.OneCheck.{FindsOne, FindsOne-Finds, FindsOne-Then, FindsOne-by, behind_meaning-one, context-one, definition-one, expression-one, expression_meaning-one}

scanners-alike : (named : Bool) (rules : List RuleOf) (conds : List (List ℕ)) (scanners others : List Scanner) → AreScanners named rules conds scanners
    → AreScanners named rules conds others → HaveSameRules scanners others
scanners-alike named rules [] [] [] are are_other = tt
scanners-alike named rules [] [] (other ∷ others) are are_other = absurd are_other
scanners-alike named rules [] (scanner ∷ scanners) others are are_other = absurd are
scanners-alike named rules (cond ∷ conds) [] others are are_other = absurd are
scanners-alike named rules (cond ∷ conds) (scanner ∷ scanners) [] are are_other = absurd are_other
scanners-alike named rules (cond ∷ conds) (scanner ∷ scanners) (other ∷ others) are are_other = (
  record {
    cond = are.0.name ∙ sym are_other.0.name;
    patterns = are.0.patterns ∙ sym are_other.0.patterns;
    names = are.0.names ∙ sym are_other.0.names;
  },
  scanners-alike named rules conds scanners others are.1 are_other.1,
)

module _ (options : Options) (lexemes : List Lexeme) where
  list-one : (is_absent : Bool) (at : Pos) → FindsOne (ListChecks options lexemes is_absent at)
  list-one true at = FindsOne-Finds (unless (not options.conds) at)
  list-one false at = FindsOne-Finds (unless options.conds at)

  target-one : (goes : Option ℕ) → FindsOne (TargetChecks options lexemes goes)
  target-one None = FindsOne-Finds None
  target-one (Some goes) = FindsOne-Finds (unless options.conds (nth_lexeme lexemes (goes - 1)).at)

  head-one : (state : State) (given : HeadSort) (conds : List (List ℕ)) (head : ℕ) (slash : Option ℕ) (until : ℕ)
      → FindsOne (HeadChecks options lexemes state given conds head slash until)
  head-one state any conds head slash until =
      FindsOne-Finds (twice (nth_lexeme lexemes head).at (first_of is_default conds state.rules))
  head-one state end conds head slash until =
      FindsOne-Finds (twice (nth_lexeme lexemes head).at (first_of is_end conds state.rules))
  head-one state expression conds head None until = expression-one options state.definitions lexemes head until
  head-one state expression conds head (Some slash) until = context-one options state.definitions lexemes head slash until

  -- the checks of an item find one fault, or none
  item-one : (state : State) (item : Item) → FindsOne (ItemChecks options lexemes state item)
  item-one state (Define name from until) =
      let lexeme = nth_lexeme lexemes name in
      let first = option_map (λ (definition : Definition). definition.at) (definition_of state.definitions lexeme.text) in
      FindsOne-Then (Finds (twice lexeme.at first)) (ExpressionChecks options lexemes state.definitions from until)
      (FindsOne-Finds (twice lexeme.at first)) (expression-one options state.definitions lexemes from until)
  item-one state (Configure name value) = FindsOne-Finds (config_fault options.enc (nth_lexeme lexemes name) (nth_lexeme lexemes value))
  item-one state (Rule first head slash until goes code) =
      let List' = ListChecks options lexemes (first == head) (nth_lexeme lexemes first).at in
      let Head = HeadChecks options lexemes state (head_sort (sort_at (nth_lexeme lexemes head))) (conds_of options lexemes first head) head slash until in
      let Target = TargetChecks options lexemes goes in
      FindsOne-Then List' (Then Head Target) (list-one (first == head) (nth_lexeme lexemes first).at)
      (FindsOne-Then Head Target
      (head-one state (head_sort (sort_at (nth_lexeme lexemes head))) (conds_of options lexemes first head) head slash until) (target-one goes))
  item-one state (Text value) = FindsOne-Finds None

  -- a head has one kind and one meaning, if it has one
  abbrev Heads : State → HeadSort → (head : ℕ) → (slash : Option ℕ) → (until : ℕ) → Type 0
  Heads state given head slash until =
      (kind other : Kind) (meaning meant : RuleMeaning)
      → IsHead options lexemes state.definitions given head slash until kind meaning
      → IsHead options lexemes state.definitions given head slash until other meant → (kind ≡ other) × (meaning ≡ meant)

  head_meaning-one : (state : State) (given : HeadSort) (head : ℕ) (slash : Option ℕ) (until : ℕ) → Heads state given head slash until
  head_meaning-one state any head slash until = λ kind other meaning meant is is_other. (is.0 ∙ sym is_other.0, is.1 ∙ sym is_other.1)
  head_meaning-one state end head slash until = λ kind other meaning meant is is_other. (is.0 ∙ sym is_other.0, is.1 ∙ sym is_other.1)
  head_meaning-one state expression head None until = λ kind other meaning meant is is_other. (
    is.0 ∙ sym is_other.0,
    is.1.4
        ∙ ap (λ meaning. alone (as_rule (are_groups options state.definitions) meaning))
        (expression_meaning-one options state.definitions lexemes head until is.1.0 is_other.1.0 is.1.1 is_other.1.1 is.1.2 is_other.1.2 is.1.3 is_other.1.3)
        ∙ sym is_other.1.4,
  )
  head_meaning-one state expression head (Some slash) until = λ kind other meaning meant is is_other.
      let definitions = state.definitions in
      let first =
      expression_meaning-one options definitions lexemes head slash is.1.0 is_other.1.0 is.1.2 is_other.1.2 is.1.4 is_other.1.4 is.1.6 is_other.1.6 in
      let second =
      behind_meaning-one options definitions lexemes (behind_slash is_other.1.2) (suc slash) until is.1.1 is_other.1.1 is.1.3 is_other.1.3 is.1.5 is_other.1.5
      (subst (λ (m : Meaning). IsMeaning options definitions false (behind_slash m) is.1.1 is.1.3) first is.1.7) is_other.1.7 in (
        is.0 ∙ sym is_other.0,
        is.1.8 ∙ ap₂ (trailing (are_groups options definitions)) first second ∙ sym is_other.1.8,
      )

  -- behind an item one thing is known
  after-one : (state : State) (item : Item) (after other : State) → IsAfter options lexemes state item after
      → IsAfter options lexemes state item other → after ≡ other
  after-one state (Define name from until) after other is is_other =
      let lexeme = nth_lexeme lexemes name in
      let same = expression_meaning-one options state.definitions lexemes from until is.0 is_other.0 is.1 is_other.1 is.3 is_other.3 is.4 is_other.4 in
      let defined = definition-one lexeme.text lexeme.at is_other.1 is.2 is_other.2
      (subst (λ (meaning : Meaning). IsDefined lexeme.text lexeme.at meaning is.2) same is.5) is_other.5 in
      is.6
      ∙ ap (with_definition state) defined
      ∙ sym is_other.6
  after-one state (Configure name value) after other is is_other =
      let same : is.0 ≡ is_other.0 = let found = sym is.1 ∙ is_other.1 in cc in
      is.2 ∙ ap (λ (setting : Setting). with_settings state (with_setting state.settings setting)) same ∙ sym is_other.2
  after-one state (Rule first head slash until goes code) after other is is_other =
      let same = head_meaning-one state (head_sort (sort_at (nth_lexeme lexemes head))) head slash until is.0 is_other.0 is.1 is_other.1 is.2 is_other.2 in
      is.3
      ∙ ap₂ (λ (kind : Kind) (meaning : RuleMeaning). with_rule state (rule_of options lexemes (suc (length state.rules)) first head goes code kind meaning)) same.0 same.1
      ∙ sym is_other.3
  after-one state (Text value) after other is is_other = is ∙ sym is_other

  ends-one : {state : State} {other : Result State Fault} → Goes options lexemes state [] other → Ok state ≡ other
  ends-one ends = refl

  -- items come to one end
  pub Goes-one : {state : State} {items : List Item} {result : Result State Fault} → Goes options lexemes state items result
      → (other : Result State Fault) → Goes options lexemes state items other → result ≡ other
  Goes-one ends other goes = ends-one goes
  Goes-one (refused {state = state} {item = item} {items = items} fault checks) other goes = by other goes
    where
      by : (other : Result State Fault) → Goes options lexemes state (item ∷ items) other → Err fault ≡ other
      by other (refused found checks_other) = let same = (item-one state item).one (Some fault) (Some found) checks checks_other in cc
      by other (next after checks_other becomes goes) = absurd (let same = (item-one state item).one (Some fault) None checks checks_other in cc)
  Goes-one (next {state = state} {item = item} {items = items} {result = result} after checks becomes goes) other goes_other =
      by other goes_other (λ other goes_other. Goes-one goes other goes_other)
    where
      by : (other : Result State Fault) → Goes options lexemes state (item ∷ items) other
          → ((other : Result State Fault) → Goes options lexemes after items other → result ≡ other) → result ≡ other
      by other (refused found checks_other) later = absurd (let same = (item-one state item).one None (Some found) checks checks_other in cc)
      by other (next after_other checks_other becomes_other goes_other) later =
          later other
          (subst (λ (s : State). Goes options lexemes s items other) (sym (after-one state item after after_other becomes becomes_other)) goes_other)

  -- what one block resolves to is alike
  resolved-alike : (kind : BlockKind) → HasRules kind → (state : State) (resolved another : Resolved) → IsResolvedAs kind options.conds state resolved
      → IsResolvedAs kind options.conds state another → AreAlike resolved another
  resolved-alike kind to_keep state resolved another is is_other = record {
    acts = is.1 ∙ sym is_other.1;
    config = is.2 ∙ sym is_other.2;
    scanners = subst (λ l. HaveSameRules l another.scanners) (sym is.0) (subst (HaveSameRules []) (sym is_other.0) tt);
  }
  resolved-alike kind of_scanners state resolved another is is_other = record {
    acts = is.acts ∙ sym is_other.acts;
    config = is.config ∙ sym is_other.config;
    scanners = scanners-alike options.conds state.rules (conditions_of state.rules) resolved.scanners another.scanners is.scanners is_other.scanners;
  }
  resolved-alike kind of_use state resolved another is is_other = record {
    acts = is.acts ∙ sym is_other.acts;
    config = is.config ∙ sym is_other.config;
    scanners = scanners-alike options.conds state.rules (conditions_of state.rules) resolved.scanners another.scanners is.scanners is_other.scanners;
  }

  module _ (at : Pos) where
    clash-one : (names : Spellings) (rules : List RuleOf) → FindsOne (ClashCheck options.custom options.format at names rules)
    clash-one names rules = FindsOne-by (NoClash options.custom options.format names rules) (NoClash options.custom options.format names rules → ⊥) None (Some (BadValue at)) (λ holds fails. fails holds)

    scanners-one : (state : State) → FindsOne (ScannerChecks options.custom options.format at state)
    scanners-one state =
        let names = (config_of state.settings).names in
        let conds = conditions_of state.rules in
        let Lonely = Finds (lonely_fault at state.rules conds) in
        let Targets = Finds (targets_fault state.rules conds) in
        let eof = (config_of state.settings).eof in
        let Scanners = Finds (scanners_fault at eof state.rules conds) in
        FindsOne-Then (ClashCheck options.custom options.format at names state.rules) (Then Lonely (Then Targets Scanners)) (clash-one names state.rules)
        (FindsOne-Then Lonely (Then Targets Scanners) (FindsOne-Finds (lonely_fault at state.rules conds))
        (FindsOne-Then Targets Scanners (FindsOne-Finds (targets_fault state.rules conds)) (FindsOne-Finds (scanners_fault at eof state.rules conds))))

    -- so have those of a block of any kind that has rules
    block-one : (kind : BlockKind) → HasRules kind → (state : State) → FindsOne (BlockChecks options.custom options.format kind at state)
    block-one kind of_scanners state = scanners-one state
    block-one kind to_keep state = FindsOne-Finds (no_rules_fault at state.rules)
    block-one kind of_use state = scanners-one state

    module _ (environment : Environment) (items : List Item) (kind : BlockKind) (has : HasRules kind) where
      -- what is known behind all items is one thing
      state-one : (state other : State) → Goes options lexemes (first_state kind environment) items (Ok state)
          → Goes options lexemes (first_state kind environment) items (Ok other) → state ≡ other
      state-one state other goes goes_other = let same = Goes-one goes (Ok other) goes_other in cc

      checks-one : (state other : State) (fault found : Option Fault) → Goes options lexemes (first_state kind environment) items (Ok state)
          → Goes options lexemes (first_state kind environment) items (Ok other) → BlockChecks options.custom options.format kind at state fault
          → BlockChecks options.custom options.format kind at other found → fault ≡ found
      checks-one state other fault found goes goes_other checks checks_other =
          (block-one kind has state).one fault found checks
          (subst (λ (s : State). BlockChecks options.custom options.format kind at s found) (sym (state-one state other goes goes_other)) checks_other)

      -- a block has one fault behind its opener, if it has one
      abbrev HasFault : Fault → Type 0
      HasFault fault = IsFaultWithin options kind at environment lexemes items fault

      fault-one : (fault other : Fault) → HasFault fault → HasFault other → fault ≡ other
      fault-one fault other (inl goes) (inl goes_other) = let same = Goes-one goes (Err other) goes_other in cc
      fault-one fault other (inl goes) (inr found) = absurd (let same = Goes-one goes (Ok found.0) found.1 in cc)
      fault-one fault other (inr found) (inl goes) = absurd (let same = Goes-one goes (Ok found.0) found.1 in cc)
      fault-one fault other (inr found) (inr found_other) =
          let same = checks-one found.0 found_other.0 (Some fault) (Some other) found.1 found_other.1 found.2 found_other.2 in cc

      -- a block has one fault, if it has one
      pub IsBlockFault-one : (fault other : Fault) → IsBlockFault options kind at environment lexemes items fault
          → IsBlockFault options kind at environment lexemes items other → fault ≡ other
      IsBlockFault-one fault other (inl waits) (inl waits_other) = let same = sym waits ∙ waits_other in cc
      IsBlockFault-one fault other (inl waits) (inr found) = absurd (let same = sym waits ∙ found.0 in cc)
      IsBlockFault-one fault other (inr found) (inl waits) = absurd (let same = sym waits ∙ found.0 in cc)
      IsBlockFault-one fault other (inr found) (inr found_other) = fault-one fault other found.1 found_other.1

      abbrev ResolvesTo : Environment → Resolved → Type 0
      ResolvesTo after resolved = Resolves options kind at environment lexemes items after resolved

      -- a block that resolves has none
      pub resolves_or_not : (after : Environment) (resolved : Resolved) (fault : Fault) → ResolvesTo after resolved
          → IsBlockFault options kind at environment lexemes items fault → ⊥
      resolves_or_not after resolved fault is (inl waits) = let same = sym waits ∙ is.opening in cc
      resolves_or_not after resolved fault is (inr (opened, inl goes)) = let same = Goes-one is.goes (Err fault) goes in cc
      resolves_or_not after resolved fault is (inr (opened, inr found)) =
          let same = checks-one is.state found.0 None (Some fault) is.goes found.1 is.checked found.2 in cc

      -- a block leaves one environment, and what it resolves to is alike
      pub Resolves-one : (after other : Environment) (resolved another : Resolved) → ResolvesTo after resolved
          → ResolvesTo other another → (after ≡ other) × AreAlike resolved another
      Resolves-one after other resolved another is is_other =
          let same = state-one is.state is_other.state is.goes is_other.goes in (
            is.after_is ∙ ap (environment_behind kind environment) same ∙ sym is_other.after_is,
            resolved-alike kind has is.state resolved another is.ends (subst (λ (s : State). IsResolvedAs kind options.conds s another) (sym same) is_other.ends),
          )
