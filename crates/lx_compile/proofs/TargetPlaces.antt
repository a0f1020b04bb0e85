-- The targets and the actions of rules stand in files that were met, from block to block.
use Rattle.std.proofs.Common.{◌≡◌, ℕ, suc, ◌-◌, ◌<◌, Bool, List, [], ◌∷◌, ◌++◌, length, map, Option, Some, None, Result, Ok, IfSome, refl, sym, ap, subst, inl, inr, arith}
use Rattle.std.specs.List.{AllByRecursion}
use Rattle.std.specs.Option.{option_map}
use Rattle.lx_base.specs.Message.{IsPlaced}
use Rattle.lx_base.specs.declared.blocks.BlockKind.{BlockKind}
use Rattle.lx_base.specs.declared.faults.Fault.{Fault}
use Rattle.lx_base.specs.declared.places.Pos.{Pos}
use Rattle.lx_base.specs.declared.settings.Options.{Options}
use Rattle.lx_forms.specs.Lexemes.{Lexeme, StandInFile, lexemes_of, nth_lexeme}
use Rattle.lx_forms.proofs.FilePlaces.{nth_lexeme-file, tokens_of-file}
use Rattle.lx_parse.specs.Blocks.{form_of}
use Rattle.lx_parse.specs.Places.{EachHasPlaces, HasPlaces}
use Rattle.lx_parse.specs.Sorts.{sorts_of}
use Rattle.lx_parse.specs.declared.items.Item.{Item}
use Rattle.lx_parse.specs.declared.items.Item.TheVariants.{Define, Configure, Rule, Text}
use Rattle.lx_parse.proofs.ItemPlaces.{body_has_places}
use Rattle.lx_rules.specs.Blocks.{HasRules, IsResolvedAs, IsTargetFault, Resolves, environment_behind, of_scanners, of_use, to_keep}
use Rattle.lx_rules.specs.Environments.{Environment, KeptBlock}
use Rattle.lx_rules.specs.Items.{Goes, IsAfter, State, act_of, ends, first_state, next, refused, rule_of, state_behind}
use Rattle.lx_rules.specs.Rules.{RuleOf}
use Rattle.lx_rules.specs.declared.resolved.Act.{Act}
use Rattle.lx_rules.specs.declared.resolved.Resolved.{Resolved}
use Rattle.lx_rules.specs.declared.resolved.Scanner.{Scanner}
use Rattle.lx_token.specs.declared.list.Token.{Token}
use Rattle.lx_compile.specs.Blocks.{IsBlock, IsRead, asks, content_of, gives_nothing, resolves}
use Rattle.lx_compile.specs.declared.parts.Content.{Content}
use Rattle.lx_compile.specs.declared.parts.Content.TheVariants.{Asks, Scanners}

-- a body has as many sorts as lexemes
sorts-lexemes : (kind : BlockKind) (body : List ℕ) (tokens : List Token) → length (sorts_of kind body tokens) ≡ length (lexemes_of body tokens)
sorts-lexemes kind body [] = refl
sorts-lexemes kind body (token ∷ tokens) = ap suc (sorts-lexemes kind body tokens)

module _ (names : List (List ℕ)) where
  -- a place stands in one of the files of these names
  abbrev pub IsMet : Pos → Type 0
  IsMet at = at.file < length names

  -- so do the targets of rules, and their actions
  abbrev pub IsRuleMet : RuleOf → Type 0
  IsRuleMet rule = IfSome rule.target IsMet × IsMet rule.act.at

  abbrev pub AreRulesMet : List RuleOf → Type 0
  AreRulesMet rules = AllByRecursion IsRuleMet rules

  -- so do actions, and those of what a block gives
  abbrev pub AreActsMet : List Act → Type 0
  AreActsMet acts = AllByRecursion (λ (act : Act). IsMet act.at) acts

  abbrev pub HasActsMet : Content → Type 0
  HasActsMet (Scanners resolved) = AreActsMet resolved.acts
  HasActsMet (Asks directive) = Unit {0}

  -- and those of the rules block that is kept
  abbrev pub IsKeptMet : Option KeptBlock → Type 0
  IsKeptMet kept = IfSome kept (λ (block : KeptBlock). AreRulesMet block.rules)

  -- the fault of a target stands there
  pub IsTargetFault-placed : (rules : List RuleOf) (fault : Fault) → AreRulesMet rules → IsTargetFault rules fault → IsPlaced names fault
  IsTargetFault-placed [] fault met is = absurd is
  IsTargetFault-placed (rule ∷ rules) fault met (inl (place, target, is)) =
      subst (IsPlaced names) (sym is) (subst (λ (found : Option Pos). IfSome found IsMet) target met.0.0)
  IsTargetFault-placed (rule ∷ rules) fault met (inr is) = IsTargetFault-placed rules fault met.1 is

  rules-append : (rules : List RuleOf) (rule : RuleOf) → AreRulesMet rules → IsRuleMet rule → AreRulesMet (rules ++ rule ∷ [])
  rules-append [] rule met is = (is, tt)
  rules-append (first ∷ rules) rule met is = (met.0, rules-append rules rule met.1 is)

  -- ---- items

  module _ (options : Options) (lexemes : List Lexeme) (file : ℕ) (stand : StandInFile file lexemes) (lt : file < length names) where
    lexeme-met : (place : ℕ) → place < length lexemes → IsMet (nth_lexeme lexemes place).at
    lexeme-met place within = subst (λ (f : ℕ). f < length names) (sym (nth_lexeme-file file lexemes place stand within)) lt

    target-met : (goes : Option ℕ) → IfSome goes (λ place. (0 < place) × (place < length lexemes))
        → IfSome (option_map (λ (place : ℕ). (nth_lexeme lexemes place).at) goes) IsMet
    target-met None known = tt
    target-met (Some goes) known = lexeme-met goes known.1

    act-met : (number first : ℕ) (goes code : Option ℕ) → first < length lexemes → IfSome goes (λ place. (0 < place) × (place < length lexemes))
        → IfSome code (λ place. place < length lexemes) → IsMet (act_of options lexemes number goes code).at
    act-met number first goes (Some code) some known written = lexeme-met code written
    act-met number first (Some goes) None some known written = lexeme-met (goes - 1) (omega (arith, known.1))
    act-met number first None None some known written = lexeme-met 0 (omega (arith, some))

    rules_after : (state : State) (item : Item) (after : State) → HasPlaces (length lexemes) item → IsAfter options lexemes state item after
        → AreRulesMet state.rules → AreRulesMet after.rules
    rules_after state (Define name from until) after within is met = subst (λ (s : State). AreRulesMet s.rules) (sym is.6) met
    rules_after state (Configure name value) after within is met = subst (λ (s : State). AreRulesMet s.rules) (sym is.2) met
    rules_after state (Rule first head slash until goes code) after within is met =
        let number : ℕ = suc (length state.rules) in
        subst (λ (s : State). AreRulesMet s.rules) (sym is.3)
        (rules-append state.rules (rule_of options lexemes number first head goes code is.0 is.1) met
        (target-met goes within.4, act-met number first goes code within.0 within.4 within.5))
    rules_after state (Text value) after within is met = subst (λ (s : State). AreRulesMet s.rules) (sym is) met

    -- the rules behind items
    rules_behind : {state : State} {items : List Item} {result : Result State Fault} → Goes options lexemes state items result
        → EachHasPlaces (length lexemes) items → (last : State) → result ≡ Ok last → AreRulesMet state.rules → AreRulesMet last.rules
    rules_behind (ends {state = state}) within last is met =
        let same : state ≡ last = cc in subst (λ (s : State). AreRulesMet s.rules) same met
    rules_behind (refused found checks) within last is met = absurd cc
    rules_behind (next {state = state} {item = item} after checks becomes goes) within last is met =
        rules_behind goes within.1 last is (rules_after state item after within.0 becomes met)

  -- ---- blocks

  used_met : (environment : Environment) (kept : Option KeptBlock) → IsKeptMet kept → AreRulesMet (state_behind kept environment).rules
  used_met environment None met = tt
  used_met environment (Some kept) met = met

  -- the rules before the items of a block
  pub first_met : (kind : BlockKind) → HasRules kind → (environment : Environment) → IsKeptMet environment.kept
      → AreRulesMet (first_state kind environment).rules
  first_met kind of_scanners environment met = tt
  first_met kind to_keep environment met = tt
  first_met kind of_use environment met = used_met environment environment.kept met

  kept_behind : (kind : BlockKind) → HasRules kind → (environment : Environment) (state : State) → IsKeptMet environment.kept
      → AreRulesMet state.rules → IsKeptMet (environment_behind kind environment state).kept
  kept_behind kind of_scanners environment state met rules = met
  kept_behind kind to_keep environment state met rules = rules
  kept_behind kind of_use environment state met rules = met

  rule_acts-met : (rules : List RuleOf) → AreRulesMet rules → AreActsMet (map (λ (rule : RuleOf). rule.act) rules)
  rule_acts-met [] met = tt
  rule_acts-met (rule ∷ rules) met = (met.0.1, rule_acts-met rules met.1)

  resolved_met : (kind : BlockKind) → HasRules kind → (named : Bool) (state : State) (resolved : Resolved) → IsResolvedAs kind named state resolved
      → AreRulesMet state.rules → AreActsMet resolved.acts
  resolved_met kind of_scanners named state resolved is met = subst AreActsMet (sym is.acts) (rule_acts-met state.rules met)
  resolved_met kind to_keep named state resolved is met = subst AreActsMet (sym is.1) tt
  resolved_met kind of_use named state resolved is met = subst AreActsMet (sym is.acts) (rule_acts-met state.rules met)

  content_met : (resolved : Resolved) (scanners : List Scanner) → AreActsMet resolved.acts → HasActsMet (content_of resolved scanners)
  content_met resolved [] met = tt
  content_met resolved (scanner ∷ scanners) met = met

  module _ (options : Options) (environment : Environment) (kind : BlockKind) (body : List ℕ) (at start : Pos) where
    -- the rules of a block whose body stands in such a file
    state_met : (tokens : List Token) (items : List Item) (after : Environment) (resolved : Resolved) → HasRules kind
        → IsRead kind body start tokens items → (is : Resolves options kind at environment (lexemes_of body tokens) items after resolved)
        → IsMet start → IsKeptMet environment.kept → AreRulesMet is.state.rules
    state_met tokens items after resolved has read is lt met =
        let within = subst (λ size. EachHasPlaces size items) (sorts-lexemes kind body tokens)
        (body_has_places (form_of kind) (sorts_of kind body tokens) items read.items_are) in
        rules_behind options (lexemes_of body tokens) start.file (tokens_of-file body start tokens read.tokens_are) lt is.goes within is.state refl
        (first_met kind has environment met)

    -- so do the actions of what it gives
    pub acts_met : (after : Environment) (content : Content) → IsBlock options environment kind body at start after content → IsMet start
        → IsKeptMet environment.kept → HasActsMet content
    acts_met after content (resolves tokens items resolved has read is gives) lt met =
        subst HasActsMet (sym gives) (content_met resolved resolved.scanners
        (resolved_met kind has options.conds is.state resolved is.ends (state_met tokens items after resolved has read is lt met)))
    acts_met after content (asks tokens items directs read is gives) lt met = subst HasActsMet (sym gives) tt
    acts_met after content (gives_nothing none is gives) lt met = subst HasActsMet (sym gives) tt

    -- behind it they still do
    pub met_behind : (after : Environment) (content : Content) → IsBlock options environment kind body at start after content → IsMet start
        → IsKeptMet environment.kept → IsKeptMet after.kept
    met_behind after content (resolves tokens items resolved has read is gives) lt met =
        subst (λ (e : Environment). IsKeptMet e.kept) (sym is.after_is)
        (kept_behind kind has environment is.state met (state_met tokens items after resolved has read is lt met))
    met_behind after content (asks tokens items directs read is gives) lt met = subst (λ (e : Environment). IsKeptMet e.kept) (sym is) met
    met_behind after content (gives_nothing none is gives) lt met = subst (λ (e : Environment). IsKeptMet e.kept) (sym is) met
