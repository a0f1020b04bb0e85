-- Rules as the code keeps them.
use Rattle.std.specs.Prelude.{◌≡◌, ℕ, suc, ◌<◌, ◌≤◌, ◌&&◌, Bool, true, false, List, [], ◌∷◌, length, Option, Some, None, IfSome, if◌then◌else◌}
use Rattle.std.specs.Option.{option_map}
use Rattle.std.specs.List.{AllZip, list_any}
use Rattle.lx_regex.specs.Expr.{term_of}
use Rattle.lx_regex.specs.declared.expr.Expr.{Expr}
use Rattle.lx_regex.specs.Kinds.{HasKind, HaveKinds, kinds_of}
use Rattle.lx_regex.specs.declared.rules.Kind.{Kind}
use Rattle.lx_regex.specs.declared.rules.Tag.{Tag}
use Rattle.lx_exprs.specs.Checks.{is_among}
use Rattle.lx_exprs.specs.Defined.{Meaning, fits, kept, term_of_meaning, whole_room}
use Rattle.lx_exprs.specs.FitDefinitions.{FitsKept}
use Rattle.lx_rules.specs.declared.conditions.Conditions.{Conditions}
use Rattle.lx_rules.specs.declared.conditions.FirstRule.{FirstRule}
use Rattle.lx_rules.specs.declared.conditions.Running.{Running}
use Rattle.lx_rules.specs.declared.kept.KeptRule.{KeptRule}
use Rattle.lx_rules.specs.Blocks.{conditions_of, nesting_of, not_of_kind, rules_under, size_of, tags_of}
use Rattle.lx_rules.specs.Conditions.{AreNumbers, cond_names, conds_seen, places_of, running_of, standing_of}
use Rattle.lx_regex.specs.Pattern.{is_end}
use Rattle.lx_rules.specs.Items.{end_meaning, is_default}
use Rattle.lx_rules.specs.Rules.{RuleOf}

-- the rules but for `*`, which costs next to nothing, and `$`, which costs nothing
abbrev pub plain_of : List RuleOf → List RuleOf
plain_of rules = not_of_kind is_end (not_of_kind is_default rules)

-- of these the rules of a condition
abbrev pub plain_under : (cond : List ℕ) → List RuleOf → List RuleOf
plain_under cond rules = plain_of (rules_under cond rules)

-- so far rules go, as far as that is kept
pub record IsRunning (rules : List RuleOf) (running : Running) : Type 0 where
  pub size : running.size ≡ kept (size_of rules)
  pub nesting : running.nesting ≡ kept (nesting_of rules)
  pub tags : running.tags ≡ kept (tags_of rules)

-- the rules of a condition are within the limits by themselves
abbrev pub is_within : List RuleOf → (cond : List ℕ) → Bool
is_within rules cond =
    fits whole_room (size_of (plain_under cond rules)) (nesting_of (plain_under cond rules)) (tags_of (plain_under cond rules))

-- a rule may stand in a scanner: the rules of one of its conditions are within the limits
abbrev pub may_stand : List RuleOf → RuleOf → Bool
may_stand rules rule = list_any (is_within rules) rule.conds

-- an expression is kept that means this, and none only of a rule that may stand in no scanner
abbrev pub IsExprKept : (stands : Bool) → Meaning → Option Expr → Type 0
IsExprKept stands meaning None = stands ≡ false
IsExprKept stands meaning (Some expr) = term_of 0 expr ≡ term_of_meaning meaning

-- the tags of an expression that is kept are of the kinds that they have among these, and the tag of the trailing context is an s-tag
abbrev pub HasExprKinds : List Tag → (slash : Option ℕ) → Option Expr → Type 0
HasExprKinds tags slash expr = IfSome expr (λ expr. HaveKinds tags (kinds_of expr) × IfSome slash (λ number. HasKind tags (number, false)))

-- one of these rules is kept so, where conditions have these names
pub record IsKeptRule (names : List (List ℕ)) (rules : List RuleOf) (held : KeptRule) (rule : RuleOf) : Type 0 where
  pub number : held.number ≡ rule.act.number
  pub placed : (0 < held.number) × (held.number ≤ length rules)
  pub conds : conds_seen names held.conds ≡ rule.conds
  pub listed : AreNumbers (length names) held.conds
  pub kind : held.kind ≡ rule.kind
  pub at : held.at ≡ rule.at
  pub target : held.target ≡ rule.target
  pub size : held.size ≡ kept rule.meaning.size
  pub nesting : held.nesting ≡ kept rule.meaning.nesting
  pub tags : held.tags ≡ rule.meaning.tags
  pub groups : held.groups ≡ rule.meaning.groups
  pub count : held.count ≡ kept rule.meaning.count
  pub few : held.groups ≤ suc held.count
  pub slash : held.slash ≡ option_map kept rule.slash
  pub counted : IfSome held.slash (λ number. number ≤ held.count)
  pub end : is_end rule.kind ≡ true → rule.meaning ≡ end_meaning
  pub expr : IsExprKept (may_stand rules rule) rule.meaning held.expr
  pub fits : FitsKept 0 held.expr held.size held.count
  pub kinds : HasExprKinds held.tags held.slash held.expr

-- the first rule of a kind under a condition, where the rules are numbered from here on
abbrev pub first_from : (Kind → Bool) → (number : ℕ) → List RuleOf → (cond : List ℕ) → Option FirstRule
first_from test number [] cond = None
first_from test number (rule ∷ rules) cond =
    if test rule.kind && is_among cond rule.conds then Some (record { number = number; at = rule.at }) else first_from test (suc number) rules cond

-- the places of the rules that have a condition, where they are counted from here on
abbrev pub places_from : (place : ℕ) → List RuleOf → (cond : List ℕ) → List ℕ
places_from place [] cond = []
places_from place (rule ∷ rules) cond =
    if is_among cond rule.conds then place ∷ places_from (suc place) rules cond else places_from (suc place) rules cond

-- the rules are kept one by one, and so are their conditions
pub record AreKept (rules : List RuleOf) (held : List KeptRule) (conditions : Conditions) : Type 0 where
  pub names : cond_names conditions ≡ conditions_of rules
  pub each : AllZip (IsKeptRule (cond_names conditions) rules) held rules
  pub running : (cond : List ℕ) → IsRunning (plain_under cond rules) (running_of conditions cond)
  pub defaults : (cond : List ℕ) → (standing_of conditions cond).first_default ≡ first_from is_default 1 rules cond
  pub ends : (cond : List ℕ) → (standing_of conditions cond).first_end ≡ first_from is_end 1 rules cond
  pub places : (cond : List ℕ) → places_of conditions cond ≡ places_from 0 rules cond
