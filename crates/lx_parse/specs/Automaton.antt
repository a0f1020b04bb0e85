-- The parser as an automaton. It stands beside the grammar: that it reads the same is proved.
use Rattle.std.specs.Prelude.{ℕ, zero, suc, Bool, true, false, Option, Some, None}
use Rattle.lx_parse.specs.declared.items.Item.TheVariants.{Define, Configure, Rule, Text}
use Rattle.lx_parse.specs.declared.forms.Form.{Form}
use Rattle.lx_parse.specs.declared.forms.Form.TheVariants as forms
use Rattle.lx_parse.specs.declared.sorts.Sort.{Sort}
use Rattle.lx_parse.specs.declared.sorts.Sort.TheVariants.{Name, Format, Separator, Config, Str, IStr, Class, STag, MTag, Bounds, Code, Equals, Semicolon, Bar, Backslash, Slash, Open, Close, Star, Plus, Question, Dot, Dollar, Less, Greater, Comma, Arrow, Jump}
use Rattle.lx_parse.specs.declared.states.Goal.{Goal}
use Rattle.lx_parse.specs.declared.states.Goal.TheVariants as goal
use Rattle.lx_parse.specs.declared.states.RuleHead.{RuleHead}
use Rattle.lx_parse.specs.declared.states.State.{State}
use Rattle.lx_parse.specs.declared.states.State.TheVariants as state
use Rattle.lx_parse.specs.declared.states.Step.{Step}
use Rattle.lx_parse.specs.declared.states.Step.TheVariants.{Refuse, Go, Done}
use Rattle.lx_parse.specs.Sorts.{is_atom, is_string, is_value}

-- on to the state if the test holds
abbrev pub when : Bool → State → Step
when true state = Go state
when false state = Refuse

abbrev pub on_equals : Sort → State → Step
on_equals Equals state = Go state
on_equals sort state = Refuse

abbrev pub on_greater : Sort → State → Step
on_greater Greater state = Go state
on_greater sort state = Refuse

abbrev pub on_name : Sort → State → Step
on_name Name state = Go state
on_name sort state = Refuse

-- where an atom is wanted
abbrev pub operand : Goal → (depth : ℕ) → Sort → Step
operand goal depth Open = Go (state.Operand goal (suc depth))
operand goal depth sort = when (is_atom sort) (state.Operator goal depth)

-- a rule of which the head is read
abbrev pub rule_head : (first head : ℕ) → Option ℕ → (until : ℕ) → RuleHead
rule_head first head slash until = record { first = first; head = head; slash = slash; until = until }

-- the rule with its target and its action
abbrev pub rule_of : RuleHead → (goes code : Option ℕ) → Step
rule_of rule goes code = Done (Rule rule.first rule.head rule.slash rule.until goes code) forms.Items

-- behind the head of a rule
abbrev pub action : RuleHead → Sort → Step
action rule Code = rule_of rule None (Some rule.until)
action rule Arrow = Go (state.Target rule)
action rule Jump = Go (state.JumpTarget rule)
action rule sort = Refuse

-- behind an expression that is read up to its end
abbrev pub after_expression : Goal → Sort → (at : ℕ) → Step
after_expression (goal.Define name from) Semicolon at = Done (Define name from at) forms.Items
after_expression (goal.Define name from) sort at = Refuse
after_expression (goal.Head first head None) Slash at = Go (state.Operand (goal.Head first head (Some at)) 0)
after_expression (goal.Head first head slash) sort at = action (rule_head first head slash at) sort

-- behind an expression, of which so many parentheses are open
abbrev pub at_end : Goal → (depth : ℕ) → Sort → (at : ℕ) → Step
at_end goal zero sort at = after_expression goal sort at
at_end goal (suc depth) Close at = Go (state.Operator goal depth)
at_end goal (suc depth) sort at = Refuse

-- behind an atom and what repeats it
abbrev pub operator : Goal → (depth : ℕ) → Sort → (at : ℕ) → Step
operator goal depth Bar at = Go (state.Operand goal depth)
operator goal depth Backslash at = Go (state.Operand goal depth)
operator goal depth Star at = Go (state.Operator goal depth)
operator goal depth Plus at = Go (state.Operator goal depth)
operator goal depth Question at = Go (state.Operator goal depth)
operator goal depth Bounds at = Go (state.Operator goal depth)
operator goal depth Open at = operand goal depth Open
operator goal depth Str at = operand goal depth Str
operator goal depth IStr at = operand goal depth IStr
operator goal depth Class at = operand goal depth Class
operator goal depth Dot at = operand goal depth Dot
operator goal depth Name at = operand goal depth Name
operator goal depth STag at = operand goal depth STag
operator goal depth MTag at = operand goal depth MTag
operator goal depth sort at = at_end goal depth sort at

-- where the head of a rule is wanted
abbrev pub head_start : (first : ℕ) → Sort → (at : ℕ) → Step
head_start first Star at = Go (state.Action first at)
head_start first Dollar at = Go (state.Action first at)
head_start first sort at = operand (goal.Head first at None) 0 sort

-- between items
abbrev pub between : Form → Sort → (at : ℕ) → Step
between forms.Items Name at = Go (state.Named at)
between forms.Items Config at = Go (state.ConfigName at)
between forms.Items Less at = Go (state.List at)
between forms.Items sort at = head_start at sort at
between forms.Format Format at = Go (state.TextWord forms.Format)
between forms.Separator Separator at = Go (state.TextWord forms.Separator)
between form sort at = Refuse

-- behind a name that begins a definition or the head of a rule
abbrev pub named : (name : ℕ) → Sort → (at : ℕ) → Step
named name Equals at = Go (state.Defined name)
named name sort at = operator (goal.Head name name None) 0 sort at

-- behind the value of a configuration
abbrev pub config_end : (name value : ℕ) → Sort → Step
config_end name value Semicolon = Done (Configure name value) forms.Items
config_end name value sort = Refuse

-- behind the `<` of a list
abbrev pub list_start : (first : ℕ) → Sort → Step
list_start first Star = Go (state.ListStar first)
list_start first sort = on_name sort (state.ListName first)

-- behind a name of a list
abbrev pub list_next : (first : ℕ) → Sort → Step
list_next first Comma = Go (state.ListComma first)
list_next first sort = on_greater sort (state.Listed first)

-- behind the target of a `=>`
abbrev pub target_code : RuleHead → (goes : ℕ) → Sort → (at : ℕ) → Step
target_code rule goes Code at = rule_of rule (Some goes) (Some at)
target_code rule goes sort at = Refuse

-- behind the `:=>` of a rule
abbrev pub jump_target : RuleHead → Sort → (at : ℕ) → Step
jump_target rule Name at = rule_of rule (Some at) None
jump_target rule sort at = Refuse

-- what may follow the format, or the separator
abbrev pub after_text : Form → Form
after_text forms.Format = forms.Separator
after_text form = forms.Nothing

-- behind the string of a format or a separator
abbrev pub text_end : Form → (value : ℕ) → Sort → Step
text_end form value Semicolon = Done (Text value) (after_text form)
text_end form value sort = Refuse

-- what the token at a place does, by its sort
abbrev pub next : State → Sort → (at : ℕ) → Step
next (state.Between form) sort at = between form sort at
next (state.Named name) sort at = named name sort at
next (state.Defined name) sort at = operand (goal.Define name at) 0 sort
next (state.ConfigName name) sort at = on_equals sort (state.ConfigValue name)
next (state.ConfigValue name) sort at = when (is_value sort) (state.ConfigEnd name at)
next (state.ConfigEnd name value) sort at = config_end name value sort
next (state.List first) sort at = list_start first sort
next (state.ListStar first) sort at = on_greater sort (state.Listed first)
next (state.ListName first) sort at = list_next first sort
next (state.ListComma first) sort at = on_name sort (state.ListName first)
next (state.Listed first) sort at = head_start first sort at
next (state.Operand goal depth) sort at = operand goal depth sort
next (state.Operator goal depth) sort at = operator goal depth sort at
next (state.Action first head) sort at = action (rule_head first head None at) sort
next (state.Target rule) sort at = on_name sort (state.TargetCode rule at)
next (state.TargetCode rule goes) sort at = target_code rule goes sort at
next (state.JumpTarget rule) sort at = jump_target rule sort at
next (state.TextWord form) sort at = on_equals sort (state.TextValue form)
next (state.TextValue form) sort at = when (is_string sort) (state.TextEnd form at)
next (state.TextEnd form value) sort at = text_end form value sort

-- how many parentheses are open
abbrev pub depth_of : State → ℕ
depth_of (state.Operand goal depth) = depth
depth_of (state.Operator goal depth) = depth
depth_of state = 0

-- a body may end here, but not where its format is wanted
abbrev pub may_end : State → Bool
may_end (state.Between forms.Format) = false
may_end (state.Between form) = true
may_end state = false
