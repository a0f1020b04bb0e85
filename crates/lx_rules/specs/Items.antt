-- The items of a block, in order, and their checks.
use Rattle.std.specs.Prelude.{◌≡◌, ℕ, suc, ◌+◌, ◌-◌, max, Bool, true, false, List, [], ◌∷◌, ◌++◌, length, ◌==◌, ◌&&◌, Option, Some, None, Result, Ok, Err, not, if◌then◌else◌}
use Rattle.std.specs.List.{list_any}
use Rattle.std.specs.Option.{option_map}
use Rattle.lx_base.specs.declared.blocks.BlockKind.{BlockKind}
use Rattle.lx_base.specs.declared.blocks.BlockKind.TheVariants as block
use Rattle.lx_base.specs.declared.places.Pos.{Pos}
use Rattle.lx_base.specs.declared.faults.Fault.{Fault}
use Rattle.lx_base.specs.declared.faults.Fault.TheVariants.{Redefined, Condition}
use Rattle.lx_base.specs.declared.settings.Options.{Options}
use Rattle.lx_parse.specs.declared.items.Item.{Item}
use Rattle.lx_parse.specs.declared.items.Item.TheVariants.{Define, Configure, Rule, Text}
use Rattle.lx_parse.specs.declared.sorts.Sort.{Sort}
use Rattle.lx_parse.specs.declared.sorts.Sort.TheVariants.{Star, Dollar}
use Rattle.lx_regex.specs.Pattern.{is_end}
use Rattle.lx_regex.specs.Term.{Term, any_unit, empty, group, tag}
use Rattle.lx_regex.specs.declared.rules.Kind.{Kind}
use Rattle.lx_regex.specs.declared.rules.Kind.TheVariants as kind
use Rattle.lx_rules.specs.declared.resolved.Act.{Act}
use Rattle.lx_forms.specs.Lexemes.{Lexeme, nth_lexeme, sort_at}
use Rattle.lx_exprs.specs.Expressions.{ContextChecks, ExpressionChecks, IsExpression}
use Rattle.lx_forms.specs.Forms.{Form}
use Rattle.lx_exprs.specs.Defined.{Before, Definition, Meaning, IsDefined, definition_of, kept, nothing, one, row, slash_tag, whole}
use Rattle.lx_rules.specs.Environments.{Environment, KeptBlock, Settings, no_settings, settings_over, with_setting}
use Rattle.lx_rules.specs.declared.environment.Setting.{Setting}
use Rattle.lx_rules.specs.Lists.{conds_at}
use Rattle.lx_rules.specs.Rules.{RuleOf}
use Rattle.lx_exprs.specs.Meanings.{IsMeaning}
use Rattle.lx_rules.specs.Configurations.{config_fault, setting_of}
use Rattle.lx_exprs.specs.Checks.{Check, Then, Finds, are_groups, is_among}

-- what is known behind some items of a block
pub record State : Type 0 where
  pub definitions : List Definition
  pub settings : Settings
  pub rules : List RuleOf

-- one definition more is known, one rule more, or other settings
abbrev pub with_definition : State → Definition → State
with_definition state definition =
    record { definitions = state.definitions ++ definition ∷ []; settings = state.settings; rules = state.rules }

abbrev pub with_rule : State → RuleOf → State
with_rule state rule = record { definitions = state.definitions; settings = state.settings; rules = state.rules ++ rule ∷ [] }

abbrev pub with_settings : State → Settings → State
with_settings state settings = record { definitions = state.definitions; settings = settings; rules = state.rules }

-- what is known before the items, behind a rules block that is used, or none
abbrev pub state_behind : Option KeptBlock → Environment → State
state_behind None environment = record { definitions = environment.definitions; settings = environment.settings; rules = [] }
state_behind (Some kept) environment = record {
  definitions = kept.definitions ++ environment.definitions;
  settings = settings_over kept.settings environment.settings;
  rules = kept.rules;
}

-- what is known before the items of a block of this kind
abbrev pub first_state : BlockKind → Environment → State
first_state block.Rules environment = record { definitions = environment.definitions; settings = no_settings; rules = [] }
first_state block.Use environment = state_behind environment.kept environment
first_state kind environment = state_behind None environment

-- a term that is group 0, where there are groups
abbrev pub in_whole : (is_group : Bool) → Term → Term
in_whole true term = group 0 1 term
in_whole false term = term

-- what a rule with this expression means: where there are groups, the expression is group 0, which counts for nothing
abbrev pub as_rule : (is_group : Bool) → Meaning → Meaning
as_rule is_group meaning = record {
  shape = one (in_whole is_group (whole meaning.shape));
  size = meaning.size;
  nesting = meaning.nesting;
  tags = meaning.tags;
  groups = if is_group then kept (suc meaning.groups) else 0;
  count = meaning.count;
}

-- what a rule means, and the number of the tag of its trailing context, if it has one
pub record RuleMeaning : Type 0 where
  pub means : Meaning
  pub slash : Option ℕ

-- a rule without a trailing context
abbrev pub alone : Meaning → RuleMeaning
alone meaning = record { means = meaning; slash = None }

-- what stands in a rule before the expression behind the slash, which is a tag
abbrev pub behind_slash : Meaning → Before
behind_slash first = record { tags = first.tags ++ slash_tag ∷ []; groups = first.groups }

-- a rule with a trailing context: its expression, which is group 0 where there are groups, the slash, and what stands behind it
abbrev pub trailing : (is_group : Bool) → (first second : Meaning) → RuleMeaning
trailing is_group first second = record {
  means = record {
    shape = row (in_whole is_group (whole first.shape) ∷ tag (length first.tags) ∷ whole second.shape ∷ []);
    size = first.size + 1 + second.size;
    nesting = max first.nesting second.nesting;
    tags = (first.tags ++ slash_tag ∷ []) ++ second.tags;
    groups = if is_group then kept (suc (first.groups + second.groups)) else 0;
    count = second.count;
  };
  slash = Some (length first.tags);
}

-- what `*` means
abbrev pub any_meaning : Meaning
any_meaning = record { shape = one any_unit; size = 1; nesting = 0; tags = []; groups = 0; count = 0 }

-- what stands in the place of an expression of `$`, which has none; no scanner counts it
abbrev pub end_meaning : Meaning
end_meaning = record { shape = one empty; size = 1; nesting = 0; tags = []; groups = 0; count = 0 }

-- the heads of rules: `*`, `$`, or an expression
pub data HeadSort : Type 0 where
  any : HeadSort
  end : HeadSort
  expression : HeadSort

-- the head that begins with this terminal
abbrev pub head_sort : Sort → HeadSort
head_sort Star = any
head_sort Dollar = end
head_sort other = expression

-- the rule `*`
abbrev pub is_default : Kind → Bool
is_default kind.Plain = false
is_default kind.Default = true
is_default kind.Eof = false

-- the place of the first rule of a kind that has one of these conditions
abbrev pub first_of : (Kind → Bool) → (conds : List (List ℕ)) → List RuleOf → Option Pos
first_of test conds [] = None
first_of test conds (rule ∷ rules) =
    if test rule.kind && list_any (λ cond. is_among cond conds) rule.conds then Some rule.at else first_of test conds rules

-- a second rule of a kind is refused, and a second definition of a name
abbrev pub twice : Pos → (first : Option Pos) → Option Fault
twice at first = option_map (λ place. Redefined at place) first

-- conditions are used where there are none
abbrev pub unless : Bool → Pos → Option Fault
unless true at = None
unless false at = Some (Condition at)

module _ (options : Options) (lexemes : List Lexeme) where
  -- the lexeme at a place of the list
  abbrev lexeme_at : ℕ → Lexeme
  lexeme_at place = nth_lexeme lexemes place

  -- a rule has a list of conditions exactly where these are in use
  abbrev pub ListChecks : (is_absent : Bool) → Pos → Check
  ListChecks true at = Finds (unless (not options.conds) at)
  ListChecks false at = Finds (unless options.conds at)

  -- the conditions of a rule
  abbrev pub conds_of : (first head : ℕ) → List (List ℕ)
  conds_of first head = conds_at lexemes first head

  -- the checks of a head
  abbrev pub HeadChecks : State → HeadSort → (conds : List (List ℕ)) → (head : ℕ) → (slash : Option ℕ) → (until : ℕ) → Check
  HeadChecks state any conds head slash until = Finds (twice (lexeme_at head).at (first_of is_default conds state.rules))
  HeadChecks state end conds head slash until = Finds (twice (lexeme_at head).at (first_of is_end conds state.rules))
  HeadChecks state expression conds head None until = ExpressionChecks options lexemes state.definitions head until
  HeadChecks state expression conds head (Some slash) until = ContextChecks options lexemes state.definitions head slash until

  -- a target stands where conditions are in use; it is refused at the `=>` or `:=>` before it
  abbrev pub TargetChecks : (goes : Option ℕ) → Check
  TargetChecks None = Finds None
  TargetChecks (Some goes) = Finds (unless options.conds (lexeme_at (goes - 1)).at)

  -- the checks of an item
  abbrev pub ItemChecks : State → Item → Check
  ItemChecks state (Define name from until) =
      Then (Finds (twice (lexeme_at name).at (option_map (λ (definition : Definition). definition.at) (definition_of state.definitions (lexeme_at name).text))))
      (ExpressionChecks options lexemes state.definitions from until)
  ItemChecks state (Configure name value) = Finds (config_fault options.enc (lexeme_at name) (lexeme_at value))
  ItemChecks state (Rule first head slash until goes code) =
      Then (ListChecks (first == head) (lexeme_at first).at)
      (Then (HeadChecks state (head_sort (sort_at (lexeme_at head))) (conds_of first head) head slash until) (TargetChecks goes))
  ItemChecks state (Text value) = Finds None

  -- what the head of a rule means
  abbrev pub IsHead : List Definition → HeadSort → (head : ℕ) → (slash : Option ℕ) → (until : ℕ) → Kind → RuleMeaning → Type 0
  IsHead definitions any head slash until sort meaning =
      (sort ≡ kind.Default) × (meaning ≡ alone (as_rule (are_groups options definitions) any_meaning))
  IsHead definitions end head slash until sort meaning = (sort ≡ kind.Eof) × (meaning ≡ alone end_meaning)
  IsHead definitions expression head None until sort meaning =
      (sort ≡ kind.Plain)
      × ((form : Form) × (inner : Meaning) × IsExpression options lexemes head until form × IsMeaning options definitions false nothing form inner
      × (meaning ≡ alone (as_rule (are_groups options definitions) inner)))
  IsHead definitions expression head (Some slash) until sort meaning =
      (sort ≡ kind.Plain)
      × ((form behind : Form) × (first second : Meaning) × IsExpression options lexemes head slash form
      × IsExpression options lexemes (suc slash) until behind × IsMeaning options definitions false nothing form first
      × IsMeaning options definitions false (behind_slash first) behind second
      × (meaning ≡ trailing (are_groups options definitions) first second))

  -- the action of a rule with this number: its target, its text with the braces, and the place of that or of `:=>`
  abbrev pub act_of : (number : ℕ) → (goes code : Option ℕ) → Act
  act_of number goes (Some code) = record {
    number = number;
    goes = option_map (λ place. (lexeme_at place).text) goes;
    code = Some (lexeme_at code).text;
    at = (lexeme_at code).at;
  }
  act_of number (Some goes) None =
      record { number = number; goes = Some (lexeme_at goes).text; code = None; at = (lexeme_at (goes - 1)).at }
  act_of number None None = record { number = number; goes = None; code = None; at = (lexeme_at 0).at }

  -- the rule with this number, and with a head of this kind and meaning
  abbrev pub rule_of : (number first head : ℕ) → (goes code : Option ℕ) → Kind → RuleMeaning → RuleOf
  rule_of number first head goes code sort meaning = record {
    conds = conds_of first head;
    kind = sort;
    at = (lexeme_at head).at;
    meaning = meaning.means;
    slash = meaning.slash;
    target = option_map (λ place. (lexeme_at place).at) goes;
    act = act_of number goes code;
  }

  -- what is known behind one item more
  abbrev pub IsAfter : State → Item → State → Type 0
  IsAfter state (Define name from until) after =
      (form : Form) × (meaning : Meaning) × (definition : Definition) × IsExpression options lexemes from until form
      × IsMeaning options state.definitions false nothing form meaning
      × IsDefined (lexeme_at name).text (lexeme_at name).at meaning definition
      × (after ≡ with_definition state definition)
  IsAfter state (Configure name value) after =
      (setting : Setting) × (setting_of options.enc (lexeme_at name).text (lexeme_at value) ≡ Some setting)
      × (after ≡ with_settings state (with_setting state.settings setting))
  IsAfter state (Rule first head slash until goes code) after =
      (sort : Kind) × (meaning : RuleMeaning)
      × IsHead state.definitions (head_sort (sort_at (lexeme_at head))) head slash until sort meaning
      × (after ≡ with_rule state (rule_of (suc (length state.rules)) first head goes code sort meaning))
  IsAfter state (Text value) after = after ≡ state

  -- The items are taken in order: what is known behind all of them, or the first fault.
  pub data Goes : State → List Item → Result State Fault → Type 0 where
    ends : {state : State} → Goes state [] (Ok state)
    refused : {state : State} {item : Item} {items : List Item} (fault : Fault) → ItemChecks state item (Some fault)
        → Goes state (item ∷ items) (Err fault)
    next : {state : State} {item : Item} {items : List Item} {result : Result State Fault} (after : State)
        → ItemChecks state item None → IsAfter state item after → Goes after items result → Goes state (item ∷ items) result
