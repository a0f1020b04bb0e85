-- What the code knows behind some items of a block.
use Rattle.std.specs.Prelude.{◌≡◌, ◌≤◌, ℕ, suc, length, All, Bool, true, List, map, IfSome, Option, Some, None, Err}
use Rattle.std.specs.Option.{option_map}
use Rattle.lx_base.specs.declared.faults.Stop.{Stop}
use Rattle.lx_base.specs.declared.places.Pos.{Pos}
use Rattle.lx_base.specs.declared.faults.Stop.TheVariants as stop
use Rattle.lx_base.specs.declared.settings.Options.{Options}
use Rattle.lx_parse.specs.declared.items.Item.{Item}
use Rattle.lx_regex.specs.declared.rules.Kind.{Kind}
use Rattle.lx_regex.specs.declared.rules.Kind.TheVariants as kind
use Rattle.lx_rules.specs.declared.conditions.Standing.{Standing}
use Rattle.lx_rules.specs.declared.heads.Head.{Head}
use Rattle.lx_rules.specs.declared.heads.Head.TheVariants as head
use Rattle.lx_rules.specs.declared.items.Known.{Known}
use Rattle.lx_rules.specs.declared.kept.KeptRule.{KeptRule}
use Rattle.lx_rules.specs.declared.resolved.Act.{Act}
use Rattle.lx_rules.specs.declared.rule_exprs.RuleExpr.{RuleExpr}
use Rattle.lx_forms.specs.Lexemes.{Lexeme, nth_lexeme, sort_at}
use Rattle.lx_exprs.specs.Checks.{StopsAt}
use Rattle.lx_exprs.specs.Expressions.{ContextChecks}
use Rattle.lx_exprs.specs.Defined.{Definition, Meaning, is_built, kept}
use Rattle.lx_exprs.specs.FitDefinitions.{FitsKept}
use Rattle.lx_exprs.specs.declared.values.Room.{Room}
use Rattle.lx_rules.specs.Conditions.{nothing_runs, room_under}
use Rattle.lx_rules.specs.Items.{RuleMeaning, State, Goes, expression, HeadChecks, head_sort, IsHead, ItemChecks, IsAfter, end_meaning}
use Rattle.lx_rules.specs.Kept.{AreKept, HasExprKinds, IsExprKept}
use Rattle.lx_rules.specs.Rules.{RuleOf}
use Rattle.lx_rules.specs.Seen.{known_definitions, rules_view, settings_view}
use Rattle.lx_rules.specs.FitScanners.{HasFitDefinitions, IsShort}

-- the code knows what is known
pub record Holds (known : Known) (state : State) : Type 0 where
  pub definitions : known_definitions known ≡ state.definitions
  pub settings : settings_view known.settings ≡ state.settings
  pub acts : known.acts.items ≡ map (λ (rule : RuleOf). rule.act) state.rules
  pub rules : AreKept state.rules (rules_view known.rules) known.conds
  pub fit : HasFitDefinitions known
  pub short : All (λ (act : Act). IsShort act.code) known.acts.items

-- what is read of a rule's expression has the numbers of this meaning, and its term; it may lack that where none is to stand
pub record IsRuleExpr (stands : Bool) (meaning : Meaning) (slash : Option ℕ) (read : RuleExpr) : Type 0 where
  pub size : read.size ≡ kept meaning.size
  pub nesting : read.nesting ≡ kept meaning.nesting
  pub tags : read.tags ≡ meaning.tags
  pub groups : read.groups ≡ meaning.groups
  pub count : read.count ≡ kept meaning.count
  pub few : read.groups ≤ suc read.count
  pub slash_is : read.slash ≡ option_map kept slash
  pub counted : IfSome read.slash (λ number. number ≤ read.count)
  pub expr : IsExprKept stands meaning read.expr

-- a rule with a trailing context is read: its checks find nothing, and what is read stands for what it means
pub record IsContextRead (options : Options) (lexemes : List Lexeme) (definitions : List Definition) (room : Room) (from slash until : ℕ) (read : RuleExpr) : Type 0 where
  pub checked : ContextChecks options lexemes definitions from slash until None
  pub meaning : RuleMeaning
  pub is_head : IsHead options lexemes definitions expression from (Some slash) until kind.Plain meaning
  pub stands : IsRuleExpr (is_built room meaning.means) meaning.means meaning.slash read

-- the head that was read means this, and is of this kind
abbrev pub IsHeadOf : (room : Room) → Kind → Meaning → (slash : Option ℕ) → Head → Type 0
IsHeadOf room sort meaning slash (head.Default read) = (sort ≡ kind.Default) × IsRuleExpr true meaning slash read
IsHeadOf room sort meaning slash head.End = (sort ≡ kind.Eof) × (meaning ≡ end_meaning) × (slash ≡ None)
IsHeadOf room sort meaning slash (head.Plain read) = (sort ≡ kind.Plain) × IsRuleExpr (is_built room meaning) meaning slash read

-- an item is taken where its checks find nothing, and then it is known what is known behind it
pub record IsTaken (options : Options) (lexemes : List Lexeme) (state : State) (item : Item) (after : Known) : Type 0 where
  pub checked : ItemChecks options lexemes state item None
  pub next : State
  pub is_after : IsAfter options lexemes state item next
  pub holds : Holds after next

-- the head of a rule is read: its checks find nothing, and this is what it means
abbrev pub IsHeadRead : Options → List Lexeme → State → (conds : List (List ℕ)) → (head : ℕ) → (slash : Option ℕ) → (until : ℕ) → (room : Room) → Head → Type 0
IsHeadRead options lexemes state conds head slash until room read =
    HeadChecks options lexemes state (head_sort (sort_at (nth_lexeme lexemes head))) conds head slash until None
    × ((sort : Kind) × (meaning : RuleMeaning)
    × IsHead options lexemes state.definitions (head_sort (sort_at (nth_lexeme lexemes head))) head slash until sort meaning
    × IsHeadOf room sort meaning.means meaning.slash read)

-- the head is not read: its checks find a fault
abbrev pub StopsHead : Options → List Lexeme → State → (conds : List (List ℕ)) → (head : ℕ) → (slash : Option ℕ) → (until : ℕ) → Stop → Type 0
StopsHead options lexemes state conds head slash until stopped =
    StopsAt (HeadChecks options lexemes state (head_sort (sort_at (nth_lexeme lexemes head))) conds head slash until) stopped

-- an expression that was read has the size and the tags of what is kept of it
abbrev pub IsBoundedExpr : RuleExpr → Type 0
IsBoundedExpr read = FitsKept 0 read.expr read.size read.count

-- and its tags are of their kinds
abbrev pub HasReadKinds : RuleExpr → Type 0
HasReadKinds read = HasExprKinds read.tags read.slash read.expr

abbrev pub IsFitExpr : RuleExpr → Type 0
IsFitExpr read = IsBoundedExpr read × HasReadKinds read

abbrev pub IsBoundedHead : Head → Type 0
IsBoundedHead (head.Default read) = IsFitExpr read
IsBoundedHead head.End = Unit {0}
IsBoundedHead (head.Plain read) = IsFitExpr read

-- so a rule with this head, number and place stands under its conditions: neither `*` nor `$` counts
abbrev pub standing_in : Head → (number : ℕ) → Pos → Standing
standing_in (head.Default read) number at =
    record { running = nothing_runs; first_default = Some (record { number = number; at = at }); first_end = None }
standing_in head.End number at =
    record { running = nothing_runs; first_default = None; first_end = Some (record { number = number; at = at }) }
standing_in (head.Plain read) number at = record {
  running = record { size = read.size; nesting = read.nesting; tags = read.count };
  first_default = None;
  first_end = None;
}

-- what is kept of a rule's expression
pub record IsExprOf (read : RuleExpr) (held : KeptRule) : Type 0 where
  pub size : held.size ≡ read.size
  pub nesting : held.nesting ≡ read.nesting
  pub tags : held.tags ≡ read.tags
  pub groups : held.groups ≡ read.groups
  pub count : held.count ≡ read.count
  pub slash : held.slash ≡ read.slash
  pub expr : held.expr ≡ read.expr

-- what is kept of this head
abbrev pub IsHeadKept : Head → KeptRule → Type 0
IsHeadKept (head.Default read) held = (held.kind ≡ kind.Default) × IsExprOf read held
IsHeadKept head.End held =
    (held.kind ≡ kind.Eof) × ((read : RuleExpr) × IsRuleExpr true end_meaning None read × IsFitExpr read × IsExprOf read held)
IsHeadKept (head.Plain read) held = (held.kind ≡ kind.Plain) × IsExprOf read held

-- a rule may be added whose conditions, head, target and action these are
pub record IsNew (known : Known) (conds : List (List ℕ)) (read : Head) (at : Pos) (target : Option Pos) (act : Act) (rule : RuleOf) : Type 0 where
  pub conds_are : rule.conds ≡ conds
  pub at_is : rule.at ≡ at
  pub target_is : rule.target ≡ target
  pub act_is : rule.act ≡ act
  pub head_of : IsHeadOf (room_under known.conds conds) rule.kind rule.meaning rule.slash read
  pub bounded : IsBoundedHead read
  pub number : act.number ≡ suc (length known.acts.items)
  pub short : IsShort act.code

-- the items are not all taken: the checks of one of them find a fault
abbrev pub StopsGoing : Options → List Lexeme → State → List Item → Stop → Type 0
StopsGoing options lexemes state items stop.Memory = Unit {0}
StopsGoing options lexemes state items (stop.Fault fault) = Goes options lexemes state items (Err fault)
