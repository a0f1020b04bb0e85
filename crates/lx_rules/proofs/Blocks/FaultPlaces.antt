-- The faults of the items of a block, and of the checks behind them, stand in its file.
use Rattle.std.proofs.Common.{◌≡◌, ◌⊎◌, ◌∙◌, append_assoc, append-nil, ℕ, suc, ◌-◌, Bool, true, false, List, [], ◌∷◌, ◌++◌, ◌<◌, arith, length, Option, Some, None, Result, Ok, Err, refl, sym, ap, subst, inl, inr}
use Rattle.std.specs.Prelude.{◌||◌, nat_lt, ◌==◌, if◌then◌else◌, not, IfSome}
use Rattle.std.specs.List.{AllByRecursion, list_any}
use Rattle.std.specs.Option.{option_map, option_or}
use Rattle.lx_base.specs.Names.{Spellings}
use Rattle.lx_base.specs.declared.blocks.BlockKind.{BlockKind}
use Rattle.lx_base.specs.declared.faults.Fault.{Fault}
use Rattle.lx_base.specs.declared.faults.Fault.TheVariants.{BadValue, Condition, NoRules, Redefined, TooManyParts}
use Rattle.lx_base.specs.declared.places.Pos.{Pos}
use Rattle.lx_base.specs.declared.settings.Options.{Options}
use Rattle.lx_parse.specs.Blocks.{IsBody, form_of}
use Rattle.lx_parse.specs.Places.{EachHasPlaces, HasPlaces}
use Rattle.lx_parse.specs.Sorts.{sorts_of}
use Rattle.lx_parse.proofs.ItemPlaces.{body_has_places}
use Rattle.lx_parse.specs.declared.items.Item.{Item}
use Rattle.lx_parse.specs.declared.items.Item.TheVariants.{Define, Configure, Rule, Text}
use Rattle.lx_rules.specs.Blocks.{BlockChecks, ClashCheck, HasRules, IsBlockFault, IsTargetFault, ScannerChecks, conditions_of, no_rules_fault, of_scanners, of_use, opening_fault, to_keep, pair_fault, is_bare, limits_fault, lonely_fault, nesting_of, not_of_kind, rules_of, scanner_fault, scanners_fault, size_of, tags_of as tag_count, target_fault, targets_fault}
use Rattle.lx_exprs.specs.Checks.{Then, Finds, is_among}
use Rattle.lx_rules.specs.Configurations.{config_fault, config_kind, kind_fault, set_by, value_fault}
use Rattle.lx_rules.specs.declared.configurations.ConfigKind.{ConfigKind}
use Rattle.lx_rules.specs.declared.environment.Setting.{Setting}
use Rattle.lx_base.specs.declared.settings.Enc.{Enc}
use Rattle.lx_exprs.specs.Defined.{Definition, definition_of, kept}
use Rattle.lx_rules.specs.Environments.{Environment, KeptBlock, config_of}
use Rattle.lx_exprs.specs.Expressions.{ExpressionChecks}
use Rattle.lx_exprs.specs.FaultPlaces.{StandsIn}
use Rattle.lx_regex.specs.Pattern.{is_end}
use Rattle.lx_rules.specs.Items.{Goes, ends, refused, next, HeadChecks, HeadSort, any, end, expression, head_sort, IsAfter, ItemChecks, ListChecks, State, TargetChecks, conds_of, first_of, first_state, is_default, twice, unless}
use Rattle.lx_rules.specs.Rules.{RuleOf}
use Rattle.lx_forms.specs.Lexemes.{Lexeme, StandInFile, lexemes_of, nth_lexeme, sort_at}
use Rattle.lx_forms.proofs.FilePlaces.{nth_lexeme-file, tokens_of-file}
use Rattle.lx_token.specs.Tokens.{tokens_of}
use Rattle.lx_token.specs.declared.list.Token.{Token}
use Rattle.lx_exprs.proofs.Forms.FaultPlaces.{FindsIn, FindsIn-Finds, FindsIn-Then, IsFoundIn, context-file, expression-file, file-found, if-file, option_map-file, option_or-file}

module _ (file : ℕ) where
  -- a target stands in the file, if there is one
  abbrev pub AreTargetsIn : List RuleOf → Type 0
  AreTargetsIn rules = AllByRecursion (λ (rule : RuleOf). IfSome rule.target (λ (at : Pos). at.file ≡ file)) rules

  targets-append : (rules : List RuleOf) (rule : RuleOf) → AreTargetsIn rules → IfSome rule.target (λ (at : Pos). at.file ≡ file)
      → AreTargetsIn (rules ++ rule ∷ [])
  targets-append [] rule are is = (is, tt)
  targets-append (first ∷ rules) rule are is = (are.0, targets-append rules rule are.1 is)

  -- behind the rules before the items stand some more, whose targets stand in the file
  abbrev AreTargetsBehind : (front rules : List RuleOf) → Type 0
  AreTargetsBehind front rules = (own : List RuleOf) × (rules ≡ front ++ own) × AreTargetsIn own

  targets-more : (front rules : List RuleOf) (rule : RuleOf) → AreTargetsBehind front rules → IfSome rule.target (λ (at : Pos). at.file ≡ file)
      → AreTargetsBehind front (rules ++ rule ∷ [])
  targets-more front rules rule are is =
      (are.0 ++ rule ∷ [], ap (λ l. l ++ rule ∷ []) are.1 ∙ append_assoc front are.0 (rule ∷ []), targets-append are.0 rule are.2 is)

  twice-file : (at : Pos) (first : Option Pos) → at.file ≡ file → IsFoundIn file (twice at first)
  twice-file at first is = option_map-file file first (λ place. Redefined at place) (λ place. is)

  unless-file : (holds : Bool) (at : Pos) → at.file ≡ file → IsFoundIn file (unless holds at)
  unless-file true at is = tt
  unless-file false at is = is

  value-file : (value : Lexeme) (found : Option Setting) → value.at.file ≡ file → IsFoundIn file (value_fault value found)
  value-file value (Some setting) is = tt
  value-file value None is = is

  config-file : (enc : Enc) (name value : Lexeme) → name.at.file ≡ file → value.at.file ≡ file → IsFoundIn file (config_fault enc name value)
  config-file enc name value name_is value_is = of (config_kind name.text)
    where
      of : (found : Option ConfigKind) → IsFoundIn file (kind_fault enc name value found)
      of None = name_is
      of (Some kind) = value-file value (set_by enc kind value) value_is

  module _ (options : Options) (lexemes : List Lexeme) (are : StandInFile file lexemes) where
    at_in : (place : ℕ) → place < length lexemes → (nth_lexeme lexemes place).at.file ≡ file
    at_in place lt = nth_lexeme-file file lexemes place are lt

    list-file : (is_absent : Bool) (at : Pos) → at.file ≡ file → FindsIn file (ListChecks options lexemes is_absent at)
    list-file true at is = FindsIn-Finds file (unless (not options.conds) at) (unless-file (not options.conds) at is)
    list-file false at is = FindsIn-Finds file (unless options.conds at) (unless-file options.conds at is)

    target-file : (goes : Option ℕ) → IfSome goes (λ place. (0 < place) × (place < length lexemes)) → FindsIn file (TargetChecks options lexemes goes)
    target-file None within = FindsIn-Finds file None tt
    target-file (Some goes) within =
        let lexeme = nth_lexeme lexemes (goes - 1) in
        let lt : goes - 1 < length lexemes = omega (arith, within.0, within.1) in
        FindsIn-Finds file (unless options.conds lexeme.at) (unless-file options.conds lexeme.at (at_in (goes - 1) lt))

    head-file : (state : State) (head_is : HeadSort) (conds : List (List ℕ)) (head : ℕ) (slash : Option ℕ) (until : ℕ)
        → head < length lexemes → FindsIn file (HeadChecks options lexemes state head_is conds head slash until)
    head-file state any conds head slash until lt =
        let found = twice (nth_lexeme lexemes head).at (first_of is_default conds state.rules) in
        FindsIn-Finds file found (twice-file (nth_lexeme lexemes head).at (first_of is_default conds state.rules) (at_in head lt))
    head-file state end conds head slash until lt =
        let found = twice (nth_lexeme lexemes head).at (first_of is_end conds state.rules) in
        FindsIn-Finds file found (twice-file (nth_lexeme lexemes head).at (first_of is_end conds state.rules) (at_in head lt))
    head-file state expression conds head None until lt = expression-file file options state.definitions lexemes are head until
    head-file state expression conds head (Some slash) until lt = context-file file options state.definitions lexemes are head slash until

    item-file : (state : State) (item : Item) → HasPlaces (length lexemes) item → FindsIn file (ItemChecks options lexemes state item)
    item-file state (Define name from until) within =
        let lexeme = nth_lexeme lexemes name in
        let first = option_map (λ (definition : Definition). definition.at) (definition_of state.definitions lexeme.text) in
        FindsIn-Then file (Finds (twice lexeme.at first)) (ExpressionChecks options lexemes state.definitions from until)
        (FindsIn-Finds file (twice lexeme.at first) (twice-file lexeme.at first (at_in name within.0)))
        (expression-file file options state.definitions lexemes are from until)
    item-file state (Configure name value) within =
        let found = config_fault options.enc (nth_lexeme lexemes name) (nth_lexeme lexemes value) in
        FindsIn-Finds file found (config-file options.enc (nth_lexeme lexemes name) (nth_lexeme lexemes value) (at_in name within.0) (at_in value within.1))
    item-file state (Rule first head slash until goes code) within =
        let List' = ListChecks options lexemes (first == head) (nth_lexeme lexemes first).at in
        let Head = HeadChecks options lexemes state (head_sort (sort_at (nth_lexeme lexemes head))) (conds_of options lexemes first head) head slash until in
        let Target = TargetChecks options lexemes goes in
        FindsIn-Then file List' (Then Head Target) (list-file (first == head) (nth_lexeme lexemes first).at (at_in first within.0))
        (FindsIn-Then file Head Target
        (head-file state (head_sort (sort_at (nth_lexeme lexemes head))) (conds_of options lexemes first head) head slash until within.1)
        (target-file goes within.4))
    item-file state (Text value) within = FindsIn-Finds file None tt

    module _ (front : List RuleOf) where
      targets_after : (state : State) (item : Item) (after : State) → HasPlaces (length lexemes) item → IsAfter options lexemes state item after
          → AreTargetsBehind front state.rules → AreTargetsBehind front after.rules
      targets_after state (Define name from until) after within is targets = subst (λ (s : State). AreTargetsBehind front s.rules) (sym is.6) targets
      targets_after state (Configure name value) after within is targets = subst (λ (s : State). AreTargetsBehind front s.rules) (sym is.2) targets
      targets_after state (Rule first head slash until goes code) after within is targets =
          subst (λ (s : State). AreTargetsBehind front s.rules) (sym is.3) (targets-more front state.rules _ targets (of_goes goes within.4))
        where
          of_goes : (place : Option ℕ) → IfSome place (λ at. (0 < at) × (at < length lexemes)) → IfSome (option_map (λ (target : ℕ). (nth_lexeme lexemes target).at) place) (λ (at : Pos). at.file ≡ file)
          of_goes None known = tt
          of_goes (Some target) known = at_in target known.1
      targets_after state (Text value) after within is targets = subst (λ (s : State). AreTargetsBehind front s.rules) (sym is) targets

      -- the targets behind items stand in the file
      targets_behind : {state : State} {items : List Item} {result : Result State Fault} → Goes options lexemes state items result
          → EachHasPlaces (length lexemes) items → (last : State) → result ≡ Ok last → AreTargetsBehind front state.rules → AreTargetsBehind front last.rules
      targets_behind (ends {state = state}) within last is targets =
          let same : state ≡ last = cc in subst (λ (s : State). AreTargetsBehind front s.rules) same targets
      targets_behind (refused found checks) within last is targets = absurd cc
      targets_behind (next {state = state} {item = item} after checks becomes goes) within last is targets =
          targets_behind goes within.1 last is (targets_after state item after within.0 becomes targets)

    -- the fault of items stands in the file
    items-file : {state : State} {items : List Item} {result : Result State Fault} → Goes options lexemes state items result
        → EachHasPlaces (length lexemes) items → (fault : Fault) → result ≡ Err fault → StandsIn file fault
    items-file ends within fault is = absurd cc
    items-file (refused {state = state} {item = item} found checks) within fault is =
        let same : found ≡ fault = cc in subst (StandsIn file) same ((item-file state item within.0).finds found checks)
    items-file (next after checks becomes goes) within fault is = items-file goes within.1 fault is

    module _ (at : Pos) (at_is : at.file ≡ file) where
      clash-file : (names : Spellings) (rules : List RuleOf) → FindsIn file (ClashCheck options.custom options.format at names rules)
      clash-file names rules = record { finds = by }
        where
          by : (fault : Fault) → ClashCheck options.custom options.format at names rules (Some fault) → StandsIn file fault
          by fault (inl found) = let none = found.1 in absurd cc
          by fault (inr found) = file-found file (Some (BadValue at)) at_is fault found.1

      lonely-file : (rules : List RuleOf) (conds : List (List ℕ)) → IsFoundIn file (lonely_fault at rules conds)
      lonely-file [] conds = tt
      lonely-file (rule ∷ rules) [] = at_is
      lonely-file (rule ∷ rules) (cond ∷ conds) = tt

      pair-file : (eof : Option ℕ) (has_end : Bool) → IsFoundIn file (pair_fault at eof has_end)
      pair-file None false = tt
      pair-file None true = at_is
      pair-file (Some unit) false = at_is
      pair-file (Some unit) true = tt

      scanner-file : (eof : Option ℕ) (rules : List RuleOf) → IsFoundIn file (scanner_fault at eof rules)
      scanner-file eof rules =
          let own = not_of_kind is_end rules in
          let bare = if◌then◌else◌ {A = Option Fault} (is_bare rules) (Some (NoRules at)) None in
          let has_end = list_any (λ (rule : RuleOf). is_end rule.kind) rules in
          let ending = pair_fault at eof has_end in
          let limits = limits_fault at (size_of own) (nesting_of own) (tag_count own) in
          option_or-file file bare (option_or ending limits) (if-file file (is_bare rules) (Some (NoRules at)) None at_is tt)
          (option_or-file file ending limits (pair-file eof has_end)
          (if-file file (nat_lt 4096 (size_of own) || nat_lt 256 (nesting_of own) || nat_lt 128 (tag_count own))
          (Some (TooManyParts at (kept (size_of own)) (kept (nesting_of own)) (kept (tag_count own)))) None at_is tt))

      scanners-file : (eof : Option ℕ) (rules : List RuleOf) (conds : List (List ℕ)) → IsFoundIn file (scanners_fault at eof rules conds)
      scanners-file eof rules [] = tt
      scanners-file eof rules (cond ∷ conds) =
          option_or-file file (scanner_fault at eof (rules_of cond rules)) (scanners_fault at eof rules conds) (scanner-file eof (rules_of cond rules))
          (scanners-file eof rules conds)

      target_fault-file : (goes : Option (List ℕ)) (target : Option Pos) (conds : List (List ℕ))
          → IfSome target (λ (place : Pos). place.file ≡ file) → IsFoundIn file (target_fault goes target conds)
      target_fault-file None target conds is = tt
      target_fault-file (Some goes) None conds is = tt
      target_fault-file (Some goes) (Some place) conds is = if-file file (is_among goes conds) None (Some (Condition place)) tt is

      targets-file : (rules : List RuleOf) (conds : List (List ℕ)) → AreTargetsIn rules → IsFoundIn file (targets_fault rules conds)
      targets-file [] conds targets = tt
      targets-file (rule ∷ rules) conds targets =
          option_or-file file (target_fault rule.act.goes rule.target conds) (targets_fault rules conds)
          (target_fault-file rule.act.goes rule.target conds targets.0) (targets-file rules conds targets.1)

      -- the fault of a target stands in the file, or it is one of the rules before the items
      targets-place : (front own : List RuleOf) (conds : List (List ℕ)) → AreTargetsIn own → (fault : Fault) → targets_fault (front ++ own) conds ≡ Some fault
          → StandsIn file fault ⊎ IsTargetFault front fault
      targets-place [] own conds are fault is = inl (subst (IsFoundIn file) is (targets-file own conds are))
      targets-place (rule ∷ front) own conds are fault is = of rule.act.goes rule.target refl is (targets-place front own conds are fault)
        where
          behind : StandsIn file fault ⊎ IsTargetFault front fault → StandsIn file fault ⊎ IsTargetFault (rule ∷ front) fault
          behind (inl stands) = inl stands
          behind (inr found) = inr (inr found)

          among : (place : Pos) → rule.target ≡ Some place → (b : Bool)
              → option_or (if b then None else Some (Condition place)) (targets_fault (front ++ own) conds) ≡ Some fault
              → (targets_fault (front ++ own) conds ≡ Some fault → StandsIn file fault ⊎ IsTargetFault front fault)
              → StandsIn file fault ⊎ IsTargetFault (rule ∷ front) fault
          among place target true is later = behind (later is)
          among place target false is later = let same : fault ≡ Condition place = cc (is) in inr (inl (place, target, same))

          of : (goes : Option (List ℕ)) (target : Option Pos) → rule.target ≡ target
              → option_or (target_fault goes target conds) (targets_fault (front ++ own) conds) ≡ Some fault
              → (targets_fault (front ++ own) conds ≡ Some fault → StandsIn file fault ⊎ IsTargetFault front fault)
              → StandsIn file fault ⊎ IsTargetFault (rule ∷ front) fault
          of None target e is later = behind (later is)
          of (Some goes) None e is later = behind (later is)
          of (Some goes) (Some place) e is later = among place e (is_among goes conds) is later

      found-file : (found : Option Fault) (fault : Fault) → IsFoundIn file found → Some fault ≡ found → StandsIn file fault
      found-file found fault stands is = subst (IsFoundIn file) (sym is) stands

      -- and so does that of the checks of scanners
      scanners-place : (state : State) (front : List RuleOf) → AreTargetsBehind front state.rules → (fault : Fault)
          → ScannerChecks options.custom options.format at state (Some fault) → StandsIn file fault ⊎ IsTargetFault front fault
      scanners-place state front targets fault (inr (found, clash, is)) =
          inl (found-file (Some found) fault ((clash-file (config_of state.settings).names state.rules).finds found clash) is)
      scanners-place state front targets fault (inl (free, inr (found, lonely, is))) =
          inl (found-file (Some found) fault (found-file (lonely_fault at state.rules (conditions_of state.rules)) found (lonely-file state.rules (conditions_of state.rules)) lonely) is)
      scanners-place state front targets fault (inl (free, inl (mixed, inr (found, target, is)))) =
          let same : found ≡ fault = cc (is) in
          let rules = ap (λ l. targets_fault l (conditions_of state.rules)) targets.1 in
          targets-place front targets.0 (conditions_of state.rules) targets.2 fault (sym rules ∙ sym target ∙ sym is)
      scanners-place state front targets fault (inl (free, inl (mixed, inl (reached, scanners)))) =
          let eof = (config_of state.settings).eof in
          inl (found-file (scanners_fault at eof state.rules (conditions_of state.rules)) fault (scanners-file eof state.rules (conditions_of state.rules)) scanners)

      rules-file : (rules : List RuleOf) → IsFoundIn file (no_rules_fault at rules)
      rules-file [] = at_is
      rules-file (rule ∷ rules) = tt

      block-place : (kind : BlockKind) → HasRules kind → (state : State) (front : List RuleOf) → AreTargetsBehind front state.rules → (fault : Fault)
          → BlockChecks options.custom options.format kind at state (Some fault) → StandsIn file fault ⊎ IsTargetFault front fault
      block-place kind of_scanners state front targets fault found = scanners-place state front targets fault found
      block-place kind of_use state front targets fault found = scanners-place state front targets fault found
      block-place kind to_keep state front targets fault found = inl (found-file (no_rules_fault at state.rules) fault (rules-file state.rules) found)

      opening-file : (kind : BlockKind) → HasRules kind → (kept : Option KeptBlock) → IsFoundIn file (opening_fault kind at kept)
      opening-file kind of_scanners held = tt
      opening-file kind to_keep held = tt
      opening-file kind of_use None = at_is
      opening-file kind of_use (Some held) = tt

      -- the fault of a block stands in the file, where its opener and its tokens do, or it is one of a target of the rules before its items
      pub IsBlockFault-place : (kind : BlockKind) → HasRules kind → (environment : Environment) (items : List Item) (fault : Fault) → EachHasPlaces (length lexemes) items
          → IsBlockFault options kind at environment lexemes items fault → StandsIn file fault ⊎ IsTargetFault (first_state kind environment).rules fault
      IsBlockFault-place kind has environment items fault within (inl waits) = inl (subst (IsFoundIn file) waits (opening-file kind has environment.kept))
      IsBlockFault-place kind has environment items fault within (inr (opened, inl goes)) = inl (items-file goes within fault refl)
      IsBlockFault-place kind has environment items fault within (inr (opened, inr found)) =
          let front = (first_state kind environment).rules in
          block-place kind has found.0 front (targets_behind front found.1 within found.0 refl ([], sym (append-nil front), tt)) fault found.2

-- a body has as many sorts as tokens
sorts-lexemes : (kind : BlockKind) (body : List ℕ) (tokens : List Token) → length (sorts_of kind body tokens) ≡ length (lexemes_of body tokens)
sorts-lexemes kind body [] = refl
sorts-lexemes kind body (token ∷ tokens) = ap suc (sorts-lexemes kind body tokens)

-- the fault of a block stands in the file of its opener, or it is one of a target of the rules before its items
pub block_fault-place : (options : Options) (at start : Pos) (environment : Environment) (kind : BlockKind) → HasRules kind → (body : List ℕ) (tokens : List Token)
    (items : List Item) (fault : Fault) → start.file ≡ at.file → tokens_of body start ≡ Ok tokens
    → IsBody (form_of kind) (sorts_of kind body tokens) items → IsBlockFault options kind at environment (lexemes_of body tokens) items fault
    → StandsIn at.file fault ⊎ IsTargetFault (first_state kind environment).rules fault
block_fault-place options at start environment kind has body tokens items fault same tokens_are items_are found =
    IsBlockFault-place at.file options (lexemes_of body tokens)
    (subst (λ file. StandInFile file (lexemes_of body tokens)) same (tokens_of-file body start tokens tokens_are)) at refl kind has environment items fault
    (subst (λ size. EachHasPlaces size items) (sorts-lexemes kind body tokens) (body_has_places (form_of kind) (sorts_of kind body tokens) items items_are))
    found
