-- What a block resolves to, by what is known behind its items.
use Rattle.std.specs.Prelude.{◌≡◌, ◌≤◌, ℕ, suc, ◌&&◌, ◌||◌, nat_lt, not, Bool, true, List, [], ◌∷◌, ◌++◌, length, Option, Some, None, IfSome, if◌then◌else◌, slice_get}
use Rattle.std.specs.List.{filter, list_any, filter_map}
use Rattle.std.specs.Option.{option_or}
use Rattle.lx_base.specs.declared.faults.Fault.{Fault}
use Rattle.lx_base.specs.declared.faults.Fault.TheVariants.{NoRules, TooManyParts}
use Rattle.lx_base.specs.declared.limits.TheConstants.{NESTING_LIMIT, SIZE_LIMIT, TAG_LIMIT}
use Rattle.lx_base.specs.declared.places.Pos.{Pos}
use Rattle.lx_regex.specs.Expr.{size_of, term_of}
use Rattle.lx_regex.specs.Kinds.{kinds_of}
use Rattle.lx_regex.specs.declared.expr.Expr.{Expr}
use Rattle.lx_regex.specs.declared.rules.Rule.{Rule}
use Rattle.lx_exprs.specs.Checks.{Check, Finds, Then}
use Rattle.lx_exprs.specs.Values.{HasTagsBelow}
use Rattle.lx_rules.specs.declared.conditions.Running.{Running}
use Rattle.lx_rules.specs.declared.environment.Env.{Env}
use Rattle.lx_rules.specs.Represents.{Represents}
use Rattle.lx_base.specs.declared.blocks.BlockKind.{BlockKind}
use Rattle.lx_base.specs.declared.settings.Format.{Format}
use Rattle.lx_base.specs.declared.settings.Options.{Options}
use Rattle.lx_rules.specs.declared.environment.Settings as code
use Rattle.lx_rules.specs.declared.items.Known.{Known}
use Rattle.lx_rules.specs.declared.kept.KeptRule.{KeptRule}
use Rattle.lx_exprs.specs.declared.definitions.Definitions.{Definitions}
use Rattle.lx_rules.specs.declared.resolved.Act.{Act}
use Rattle.lx_rules.specs.declared.resolved.Resolved.{Resolved}
use Rattle.lx_rules.specs.declared.resolved.Scanner.{Scanner}
use Rattle.lx_rules.specs.Blocks.{BlockChecks, ClashCheck, IsResolvedAs, IsScanner, conditions_of, environment_behind, every, lonely_fault, pair_fault, rules_of, scanner_fault, target_fault, targets_fault}
use Rattle.lx_rules.specs.Conditions.{nothing_runs, running_with}
use Rattle.lx_rules.specs.Environments.{Environment, config_of}
use Rattle.lx_regex.specs.Pattern.{is_end}
use Rattle.lx_rules.specs.Items.{State, is_default}
use Rattle.lx_rules.specs.Rules.{RuleOf}
use Rattle.lx_rules.specs.FitScanners.{FitsLimits, IsFit}

-- the rules at some places
abbrev pub kept_at : (places : List ℕ) → List KeptRule → List KeptRule
kept_at places held = filter_map (λ place. slice_get held place) places

-- the rules but for `*`, with `$` or without
abbrev pub kept_others : (with_end : Bool) → List KeptRule → List KeptRule
kept_others with_end held = filter (λ (one : KeptRule). not (is_default one.kind) && (with_end || not (is_end one.kind))) held

-- the rules `*`
abbrev pub kept_defaults : List KeptRule → List KeptRule
kept_defaults held = filter (λ (one : KeptRule). is_default one.kind) held

-- the rules of a scanner in their order, of its own and those of `<*>`
abbrev pub kept_in_order : (own shared : List KeptRule) → List KeptRule
kept_in_order own shared =
    kept_others true own ++ kept_others (not (list_any (λ (one : KeptRule). is_end one.kind) own)) shared
    ++ kept_defaults (if list_any (λ (one : KeptRule). is_default one.kind) own then own else shared)

-- the rules of the scanner of a condition, where the rules of conditions have these places
abbrev pub kept_rules_of : (places_of : List ℕ → List ℕ) → (cond : List ℕ) → List KeptRule → List KeptRule
kept_rules_of places_of cond held = kept_in_order (kept_at (places_of cond) held) (kept_at (places_of every) held)

-- so far a rule goes
abbrev pub weight_of : KeptRule → Running
weight_of held = record { size = held.size; nesting = held.nesting; tags = held.count }

-- so far rules go with those of a scanner, but for `$`
abbrev pub running_over : Running → List KeptRule → Running
running_over running [] = running
running_over running (one ∷ held) =
    if is_end one.kind then running_over running held else running_over (running_with running (weight_of one)) held

-- rules that go so far are within the limits
abbrev pub running_fault : Pos → Running → Option Fault
running_fault at running =
    if nat_lt SIZE_LIMIT running.size || nat_lt NESTING_LIMIT running.nesting || nat_lt TAG_LIMIT running.tags
    then Some (TooManyParts at running.size running.nesting running.tags) else None

-- the checks of the rules of a scanner
abbrev pub kept_fault : Pos → (eof : Option ℕ) → List KeptRule → Option Fault
kept_fault at eof held =
    option_or (if not (list_any (λ (one : KeptRule). not (is_end one.kind)) held) then Some (NoRules at) else None)
    (option_or (pair_fault at eof (list_any (λ (one : KeptRule). is_end one.kind) held)) (running_fault at (running_over nothing_runs held)))

-- the first target that has no rules of its own, among the conditions of these names
abbrev pub kept_targets_fault : (names : List (List ℕ)) → List KeptRule → List Act → Option Fault
kept_targets_fault names [] acts = None
kept_targets_fault names (one ∷ held) [] = None
kept_targets_fault names (one ∷ held) (act ∷ acts) =
    option_or (target_fault act.goes one.target names) (kept_targets_fault names held acts)

-- a rule can be copied: its expression is kept, and has few tags and groups
abbrev pub IsBuilt : KeptRule → Type 0
IsBuilt held =
    (expr : Expr) × (held.expr ≡ Some expr) × HasTagsBelow 0 TAG_LIMIT (term_of 0 expr) × (held.groups ≤ suc TAG_LIMIT)
    × IfSome held.slash (λ number. number ≤ TAG_LIMIT)

-- the rule of a scanner is a copy of one that is kept
pub record IsCopyOf (held : KeptRule) (rule : Rule) : Type 0 where
  pub number : rule.number ≡ held.number
  pub kind : rule.kind ≡ held.kind
  pub tags : rule.tags ≡ held.tags
  pub slash : rule.slash ≡ held.slash
  pub slashed : IfSome held.slash (λ number. number ≤ TAG_LIMIT)
  pub groups : rule.groups ≡ held.groups
  pub expr : Expr
  pub kept : held.expr ≡ Some expr
  pub term : term_of 0 rule.expr ≡ term_of 0 expr
  pub size : size_of rule.expr ≡ size_of expr
  pub kinds : kinds_of rule.expr ≡ kinds_of expr

-- the checks of a block as a whole, before those of its scanners
abbrev pub WholeChecks : (custom : Bool) → (format : Format) → Pos → State → Check
WholeChecks custom format at state =
    Then (ClashCheck custom format at (config_of state.settings).names state.rules)
    (Then (Finds (lonely_fault at state.rules (conditions_of state.rules))) (Finds (targets_fault state.rules (conditions_of state.rules))))

-- the scanner of a condition is as its checks want it, and within the limits
abbrev pub IsBuiltScanner : (named : Bool) → Pos → (eof : Option ℕ) → List RuleOf → (cond : List ℕ) → Scanner → Type 0
IsBuiltScanner named at eof rules cond scanner =
    (scanner_fault at eof (rules_of cond rules) ≡ None) × IsScanner named rules cond scanner × IsFit (length rules) scanner

-- what holds behind a rules block that is known so
abbrev pub env_keeping : Known → Env
env_keeping known = record {
  definitions = known.before.definitions;
  settings = known.before.settings;
  kept = Some (record { definitions = known.own; settings = known.settings; rules = known.rules; acts = known.acts; conds = known.conds });
}

-- what holds behind a block of scanners: what it knows, or what held before one that uses a rules block
abbrev pub env_left : (before : Env) → (is_use : Bool) → Definitions → code.Settings → Env
env_left before is_use own settings =
    if is_use then before else record { definitions = own; settings = settings; kept = before.kept }

-- the scanners of a block resolve so, and all is within the limits
abbrev pub IsFinished : Options → BlockKind → Pos → Environment → State → Env × Resolved → Type 0
IsFinished options kind at environment state answer =
    BlockChecks options.custom options.format kind at state None × Represents answer.0 (environment_behind kind environment state)
    × IsResolvedAs kind options.conds state answer.1 × FitsLimits answer.1
