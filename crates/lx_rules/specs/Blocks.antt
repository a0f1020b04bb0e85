-- What a block resolves to, and the checks behind its items.
use Rattle.std.specs.Prelude.{◌≡◌, ℕ, ◌+◌, ◌≤◌, ◌⊎◌, Bool, true, false, List, [], ◌∷◌, ◌++◌, map, max, length, drop, nat_lt, ◌||◌, ◌&&◌, Option, Some, None, is_some, Ok, Err, not, codes, if◌then◌else◌}
use Rattle.std.specs.List.{AllByRecursion, list_any, filter}
use Rattle.std.specs.Option.{option_or}
use Rattle.lx_base.specs.declared.limits.TheConstants.{NESTING_LIMIT, SIZE_LIMIT, SOURCE_LIMIT, TAG_LIMIT}
use Rattle.lx_base.specs.declared.blocks.BlockKind.{BlockKind}
use Rattle.lx_base.specs.declared.blocks.BlockKind.TheVariants as block
use Rattle.lx_base.specs.declared.places.Pos.{Pos}
use Rattle.lx_base.specs.declared.faults.Fault.{Fault}
use Rattle.lx_base.specs.declared.faults.Fault.TheVariants.{NoRules, EofPair, Condition, BadValue, TooManyParts, NoRulesToUse}
use Rattle.lx_base.specs.declared.faults.Stop.{Stop}
use Rattle.lx_base.specs.declared.faults.Stop.TheVariants as stop
use Rattle.lx_base.specs.declared.settings.Format.{Format}
use Rattle.lx_base.specs.declared.settings.Format.TheVariants.{Three}
use Rattle.lx_base.specs.declared.settings.Options.{Options}
use Rattle.lx_base.specs.Letters.{after_letters, begins_with, front_letters, is_digit}
use Rattle.lx_base.specs.Names.{Spellings, DoNotClash, IsTagName, begins_table, label_prefix, name_primitives, name_table}
use Rattle.lx_parse.specs.declared.items.Item.{Item}
use Rattle.lx_regex.specs.Pattern.{Pattern, is_end, patterns_of}
use Rattle.lx_regex.specs.declared.rules.Kind.{Kind}
use Rattle.lx_regex.specs.declared.rules.Rule.{Rule}
use Rattle.lx_regex.specs.declared.rules.Tag.{Tag}
use Rattle.lx_rules.specs.declared.resolved.Scanner.{Scanner}
use Rattle.lx_rules.specs.declared.resolved.Resolved.{Resolved}
use Rattle.lx_forms.specs.Lexemes.{Lexeme, lexemes_of}
use Rattle.lx_parse.specs.Blocks.{IsBody, form_of}
use Rattle.lx_parse.specs.Sorts.{sorts_of}
use Rattle.lx_token.specs.Tokens.{tokens_of}
use Rattle.lx_token.specs.declared.list.Token.{Token}
use Rattle.lx_exprs.specs.Defined.{kept, term_of_meaning}
use Rattle.lx_exprs.specs.Meanings.{behind}
use Rattle.lx_rules.specs.Environments.{Environment, KeptBlock, config_of, first_environment}
use Rattle.lx_rules.specs.Rules.{RuleOf}
use Rattle.lx_exprs.specs.Checks.{Check, Then, Finds, is_among, tag_names}
use Rattle.lx_rules.specs.Items.{State, first_state, Goes, is_default}

-- the condition of `<*>`
abbrev pub every : List ℕ
every = codes "*"

-- the conditions by name, in the order in which they first appear
abbrev pub add_conds : (conds seen : List (List ℕ)) → List (List ℕ)
add_conds [] seen = seen
add_conds (cond ∷ conds) seen =
    if is_among cond (every ∷ seen) then add_conds conds seen else add_conds conds (seen ++ cond ∷ [])

abbrev pub conditions_behind : (seen : List (List ℕ)) → List RuleOf → List (List ℕ)
conditions_behind seen [] = seen
conditions_behind seen (rule ∷ rules) = conditions_behind (add_conds rule.conds seen) rules

abbrev pub conditions_of : List RuleOf → List (List ℕ)
conditions_of rules = conditions_behind [] rules

-- the rules that have a condition
abbrev pub rules_under : (cond : List ℕ) → List RuleOf → List RuleOf
rules_under cond rules = filter (λ (rule : RuleOf). is_among cond rule.conds) rules

-- the rules of a kind, and those of no such kind
abbrev pub of_kind : (Kind → Bool) → List RuleOf → List RuleOf
of_kind test rules = filter (λ (rule : RuleOf). test rule.kind) rules

abbrev pub not_of_kind : (Kind → Bool) → List RuleOf → List RuleOf
not_of_kind test rules = filter (λ (rule : RuleOf). not (test rule.kind)) rules

-- own rules, and shared ones where there is no own one
abbrev pub own_or : List RuleOf → List RuleOf → List RuleOf
own_or [] shared = shared
own_or (rule ∷ rules) shared = rule ∷ rules

-- shared rules, but for `$` where there is an own one
abbrev pub shared_beside : (own shared : List RuleOf) → List RuleOf
shared_beside own shared = if list_any (λ (rule : RuleOf). is_end rule.kind) own then not_of_kind is_end shared else shared

-- The rules of a scanner in their order: its own, those of `<*>`, and `*` behind all others. A `*` or `$` of `<*>` serves only
-- where there is no own one.
abbrev pub scanner_rules : (own shared : List RuleOf) → List RuleOf
scanner_rules own shared =
    not_of_kind is_default own ++ not_of_kind is_default (shared_beside own shared)
    ++ own_or (of_kind is_default own) (of_kind is_default shared)

abbrev pub rules_of : (cond : List ℕ) → List RuleOf → List RuleOf
rules_of cond rules = scanner_rules (rules_under cond rules) (rules_under every rules)

-- a rule as a pattern
abbrev pub pattern_of : RuleOf → Pattern
pattern_of rule = record {
  number = rule.act.number;
  kind = rule.kind;
  term = behind (length rule.meaning.tags) (term_of_meaning rule.meaning);
  many = map (λ (tag : Tag). tag.many) rule.meaning.tags;
  slash = rule.slash;
  groups = rule.meaning.groups;
}

-- the names of the tags of a rule, and of one that is built
abbrev pub names_of : RuleOf → List (List ℕ)
names_of rule = tag_names rule.meaning.tags

abbrev pub given_names : Rule → List (List ℕ)
given_names rule = tag_names rule.tags

-- a scanner of this condition, which has a name where conditions are in use
abbrev pub cond_name : (named : Bool) → (cond : List ℕ) → Option (List ℕ)
cond_name true cond = Some cond
cond_name false cond = None

-- the scanner has the rules that it is to have
pub record IsScanner (named : Bool) (rules : List RuleOf) (cond : List ℕ) (scanner : Scanner) : Type 0 where
  pub name : scanner.cond ≡ cond_name named cond
  pub patterns : patterns_of scanner.set.rules ≡ map pattern_of (rules_of cond rules)
  pub names : map given_names scanner.set.rules ≡ map names_of (rules_of cond rules)

abbrev pub AreScanners : (named : Bool) → List RuleOf → (conds : List (List ℕ)) → List Scanner → Type 0
AreScanners named rules [] [] = Unit {0}
AreScanners named rules [] (scanner ∷ scanners) = ⊥
AreScanners named rules (cond ∷ conds) [] = ⊥
AreScanners named rules (cond ∷ conds) (scanner ∷ scanners) = IsScanner named rules cond scanner × AreScanners named rules conds scanners

-- the size of a scanner, its nesting and the number of its tags, two for each group, `$` aside
abbrev pub size_of : List RuleOf → ℕ
size_of [] = 0
size_of (rule ∷ rules) = rule.meaning.size + size_of rules

abbrev pub nesting_of : List RuleOf → ℕ
nesting_of [] = 0
nesting_of (rule ∷ rules) = max rule.meaning.nesting (nesting_of rules)

abbrev pub tags_of : List RuleOf → ℕ
tags_of [] = 0
tags_of (rule ∷ rules) = rule.meaning.count + tags_of rules

-- a scanner is within the limits on these
abbrev pub limits_fault : Pos → (size nesting tags : ℕ) → Option Fault
limits_fault at size nesting tags =
    if nat_lt SIZE_LIMIT size || nat_lt NESTING_LIMIT nesting || nat_lt TAG_LIMIT tags then Some (TooManyParts at (kept size) (kept nesting) (kept tags)) else None

-- a scanner has another rule than `$`
abbrev pub is_bare : List RuleOf → Bool
is_bare rules = not (list_any (λ (rule : RuleOf). not (is_end rule.kind)) rules)

-- a scanner has `$` exactly where a code unit stands at the end of the input
abbrev pub pair_fault : Pos → (eof : Option ℕ) → (has_end : Bool) → Option Fault
pair_fault at None false = None
pair_fault at None true = Some (EofPair at)
pair_fault at (Some unit) false = Some (EofPair at)
pair_fault at (Some unit) true = None

-- the checks of one scanner
abbrev pub scanner_fault : Pos → (eof : Option ℕ) → List RuleOf → Option Fault
scanner_fault at eof rules =
    option_or (if is_bare rules then Some (NoRules at) else None)
    (option_or (pair_fault at eof (list_any (λ (rule : RuleOf). is_end rule.kind) rules))
    (limits_fault at (size_of (not_of_kind is_end rules)) (nesting_of (not_of_kind is_end rules)) (tags_of (not_of_kind is_end rules))))

abbrev pub scanners_fault : Pos → (eof : Option ℕ) → List RuleOf → (conds : List (List ℕ)) → Option Fault
scanners_fault at eof rules [] = None
scanners_fault at eof rules (cond ∷ conds) = option_or (scanner_fault at eof (rules_of cond rules)) (scanners_fault at eof rules conds)

-- no two spellings clash; none is the name of an input primitive where the input is custom, and none of a variable that of the table of
-- sets in text of format 3
abbrev pub SpellingsDiffer : (custom : Bool) → (format : Format) → Spellings → Type 0
SpellingsDiffer custom format names =
    DoNotClash names × (custom ≡ true → name_primitives names ≡ false) × (format ≡ Three → name_table names ≡ false)

-- a tag has a name that it may have beside the spellings; that of a slash has none
abbrev pub MayBeNamed : Spellings → (has_slash : Bool) → Tag → Type 0
MayBeNamed names false tag = IsTagName names tag.name
MayBeNamed names true tag = (tag.name ≡ []) ⊎ IsTagName names tag.name

-- and in text of format 3 it is not called as the table of sets
abbrev pub MayBeTag : Format → Spellings → (has_slash : Bool) → Tag → Type 0
MayBeTag format names has_slash tag = MayBeNamed names has_slash tag × (format ≡ Three → begins_table tag.name ≡ false)

-- a label begins as the label of a block of some piece: by `yy`, a number and `_`
abbrev pub begins_block_label : List ℕ → Bool
begins_block_label label =
    begins_with (codes "yy") label && (nat_lt 0 (length (front_letters is_digit (drop 2 label))) && begins_with (codes "_") (after_letters is_digit (drop 2 label)))

-- the label of a condition begins so; the one condition without a name has none
abbrev pub is_labeled_as_block : Spellings → (cond : List ℕ) → Bool
is_labeled_as_block names [] = false
is_labeled_as_block names (letter ∷ cond) = begins_block_label (label_prefix names ++ letter ∷ cond)

-- in text of format 3 the label of no condition begins so
abbrev pub LabelsDiffer : Format → Spellings → (conds : List (List ℕ)) → Type 0
LabelsDiffer format names conds = format ≡ Three → list_any (is_labeled_as_block names) conds ≡ false

-- the spellings differ, each tag has a name that it may have beside them, and so has each condition a label
abbrev pub NoClash : (custom : Bool) → (format : Format) → Spellings → List RuleOf → Type 0
NoClash custom format names rules =
    SpellingsDiffer custom format names
    × AllByRecursion (λ (rule : RuleOf). AllByRecursion (MayBeTag format names (is_some rule.slash)) rule.meaning.tags) rules
    × LabelsDiffer format names (conditions_of rules)

abbrev pub ClashCheck : (custom : Bool) → (format : Format) → Pos → Spellings → List RuleOf → Check
ClashCheck custom format at names rules fault =
    (NoClash custom format names rules × (fault ≡ None)) ⊎ ((NoClash custom format names rules → ⊥) × (fault ≡ Some (BadValue at)))

-- the rules are not of `<*>` alone
abbrev pub lonely_fault : Pos → List RuleOf → (conds : List (List ℕ)) → Option Fault
lonely_fault at [] conds = None
lonely_fault at (rule ∷ rules) [] = Some (Condition at)
lonely_fault at (rule ∷ rules) (cond ∷ conds) = None

-- each target has rules of its own; otherwise the first one that has none is refused
abbrev pub target_fault : (goes : Option (List ℕ)) → (target : Option Pos) → (conds : List (List ℕ)) → Option Fault
target_fault None target conds = None
target_fault (Some goes) None conds = None
target_fault (Some goes) (Some place) conds = if is_among goes conds then None else Some (Condition place)

abbrev pub targets_fault : List RuleOf → (conds : List (List ℕ)) → Option Fault
targets_fault [] conds = None
targets_fault (rule ∷ rules) conds = option_or (target_fault rule.act.goes rule.target conds) (targets_fault rules conds)

-- The checks behind the items of a block of scanners whose opener stands at this place: spellings, conditions, and each scanner.
abbrev pub ScannerChecks : (custom : Bool) → (format : Format) → Pos → State → Check
ScannerChecks custom format at state =
    Then (ClashCheck custom format at (config_of state.settings).names state.rules)
    (Then (Finds (lonely_fault at state.rules (conditions_of state.rules)))
    (Then (Finds (targets_fault state.rules (conditions_of state.rules)))
    (Finds (scanners_fault at (config_of state.settings).eof state.rules (conditions_of state.rules)))))

-- a rules block has a rule
abbrev pub no_rules_fault : Pos → List RuleOf → Option Fault
no_rules_fault at [] = Some (NoRules at)
no_rules_fault at (rule ∷ rules) = None

-- the checks behind the items of a block; those of the scanners of a rules block come where it is used
abbrev pub BlockChecks : (custom : Bool) → (format : Format) → BlockKind → Pos → State → Check
BlockChecks custom format block.Rules at state = Finds (no_rules_fault at state.rules)
BlockChecks custom format kind at state = ScannerChecks custom format at state

-- the kinds of blocks that have definitions, configurations and rules
pub data HasRules : BlockKind → Type 0 where
  of_scanners : HasRules block.Code
  to_keep : HasRules block.Rules
  of_use : HasRules block.Use

-- a block that uses the last rules block is refused where there is none
abbrev pub opening_fault : BlockKind → Pos → Option KeptBlock → Option Fault
opening_fault block.Use at None = Some (NoRulesToUse at)
opening_fault kind at kept = None

-- what holds behind a block that leaves what it knows, and behind which this rules block is the last one
abbrev pub environment_with : Option KeptBlock → State → Environment
environment_with kept state = record { definitions = state.definitions; settings = state.settings; kept = kept }

-- what holds behind a block in an environment: a rules block is kept, and one that uses it leaves nothing
abbrev pub environment_behind : BlockKind → Environment → State → Environment
environment_behind block.Rules environment state = record {
  definitions = environment.definitions;
  settings = environment.settings;
  kept = Some (record {
    definitions = drop (length environment.definitions) state.definitions;
    settings = state.settings;
    rules = state.rules;
  });
}
environment_behind block.Use environment state = environment
environment_behind kind environment state = environment_with environment.kept state

-- what a block resolves to where its items leave this known
pub record IsResolved (named : Bool) (state : State) (resolved : Resolved) : Type 0 where
  pub scanners : AreScanners named state.rules (conditions_of state.rules) resolved.scanners
  pub acts : resolved.acts ≡ map (λ (rule : RuleOf). rule.act) state.rules
  pub config : resolved.config ≡ config_of state.settings

-- a rules block resolves to its configuration alone: its scanners and its actions are those of the blocks that use it
abbrev pub IsResolvedAs : BlockKind → (named : Bool) → State → Resolved → Type 0
IsResolvedAs block.Rules named state resolved =
    (resolved.scanners ≡ []) × (resolved.acts ≡ []) × (resolved.config ≡ config_of state.settings)
IsResolvedAs kind named state resolved = IsResolved named state resolved

-- The block of these lexemes and items, in an environment, resolves so; or has this fault, which is the first one.
pub record Resolves (options : Options) (kind : BlockKind) (at : Pos) (environment : Environment) (lexemes : List Lexeme) (items : List Item) (after : Environment) (resolved : Resolved) : Type 0 where
  pub opening : opening_fault kind at environment.kept ≡ None
  pub state : State
  pub goes : Goes options lexemes (first_state kind environment) items (Ok state)
  pub checked : BlockChecks options.custom options.format kind at state None
  pub after_is : after ≡ environment_behind kind environment state
  pub ends : IsResolvedAs kind options.conds state resolved

-- What holds before a block stands under these options: it is what holds before the first block, or behind one that resolves under
-- them, where what held before that stands under them.
pub data StandsUnder (options : Options) : Environment → Type 0 where
  before_all : StandsUnder options first_environment
  behind_block : {environment : Environment} → StandsUnder options environment → (kind : BlockKind) (at start : Pos) (body : List ℕ) (tokens : List Token)
      (items : List Item) (after : Environment) (resolved : Resolved) → HasRules kind → length body ≤ SOURCE_LIMIT → tokens_of body start ≡ Ok tokens
      → IsBody (form_of kind) (sorts_of kind body tokens) items → Resolves options kind at environment (lexemes_of body tokens) items after resolved
      → StandsUnder options after

-- the first fault of the items, or that of the checks behind them
abbrev pub IsFaultWithin : Options → BlockKind → Pos → Environment → List Lexeme → List Item → Fault → Type 0
IsFaultWithin options kind at environment lexemes items fault =
    Goes options lexemes (first_state kind environment) items (Err fault)
    ⊎ ((state : State) × Goes options lexemes (first_state kind environment) items (Ok state) × BlockChecks options.custom options.format kind at state (Some fault))

abbrev pub IsBlockFault : Options → BlockKind → Pos → Environment → List Lexeme → List Item → Fault → Type 0
IsBlockFault options kind at environment lexemes items fault =
    (opening_fault kind at environment.kept ≡ Some fault)
    ⊎ ((opening_fault kind at environment.kept ≡ None) × IsFaultWithin options kind at environment lexemes items fault)

-- the fault is that of a target of one of these rules
abbrev pub IsTargetFault : List RuleOf → Fault → Type 0
IsTargetFault [] fault = ⊥
IsTargetFault (rule ∷ rules) fault =
    ((place : Pos) × (rule.target ≡ Some place) × (fault ≡ Condition place)) ⊎ IsTargetFault rules fault

-- a call that is to resolve a block stops with its fault, or where memory runs out
abbrev pub StopsWith : Options → BlockKind → Pos → Environment → List Lexeme → List Item → Stop → Type 0
StopsWith options kind at environment lexemes items stop.Memory = Unit {0}
StopsWith options kind at environment lexemes items (stop.Fault fault) = IsBlockFault options kind at environment lexemes items fault
