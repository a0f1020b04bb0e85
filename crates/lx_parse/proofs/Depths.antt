-- A step opens at most one parenthesis.
use Rattle.std.proofs.Common.{ℕ, zero, suc, ◌≤◌, Bool, true, false, None, arith}
use Rattle.lx_parse.specs.declared.forms.Form.{Form}
use Rattle.lx_parse.specs.declared.forms.Form.TheVariants as forms
use Rattle.lx_parse.specs.declared.sorts.Sort.{Sort}
use Rattle.lx_parse.specs.declared.sorts.Sort.TheVariants.{Name, Format, Separator, Config, Str, IStr, Class, STag, MTag, Bounds, Code, Equals, Semicolon, Bar, Backslash, Slash, Open, Close, Star, Plus, Question, Dot, Dollar, Less, Greater, Comma, Arrow, Jump}
use Rattle.lx_parse.specs.declared.states.Goal.{Goal}
use Rattle.lx_parse.specs.declared.states.Goal.TheVariants as goals
use Rattle.lx_parse.specs.declared.states.RuleHead.{RuleHead}
use Rattle.lx_parse.specs.declared.states.State.{State}
use Rattle.lx_parse.specs.declared.states.State.TheVariants as states
use Rattle.lx_parse.specs.declared.states.Step.{Step}
use Rattle.lx_parse.specs.declared.states.Step.TheVariants.{Refuse, Go, Done}
use Rattle.lx_parse.specs.Sorts.{is_atom, is_string, is_value}
use Rattle.lx_parse.specs.Automaton.{rule_head, when, operand, operator, at_end, after_expression, action, head_start, between, next, depth_of}

-- how many parentheses are open behind a step
abbrev pub depth_behind : Step → ℕ
depth_behind Refuse = 0
depth_behind (Go state) = depth_of state
depth_behind (Done item form) = 0

when_depth : (most : ℕ) (test : Bool) (state : State) → depth_of state ≤ most → depth_behind (when test state) ≤ most
when_depth most true state less = less
when_depth most false state less = omega arith

operand_depth : (goal : Goal) (depth : ℕ) (sort : Sort) → depth_behind (operand goal depth sort) ≤ suc depth
operand_depth goal depth Open = omega arith
operand_depth goal depth sort = when_depth (suc depth) (is_atom sort) (states.Operator goal depth) (omega arith)

action_depth : (most : ℕ) (head : RuleHead) (sort : Sort) → depth_behind (action head sort) ≤ most
action_depth most head Code = omega arith
action_depth most head Arrow = omega arith
action_depth most head Jump = omega arith
action_depth most head sort = omega arith

expression_depth : (most : ℕ) (goal : Goal) (sort : Sort) (at : ℕ) → depth_behind (after_expression goal sort at) ≤ most
expression_depth most (goals.Define name from) Semicolon at = omega arith
expression_depth most (goals.Define name from) sort at = omega arith
expression_depth most (goals.Head first head None) Slash at = omega arith
expression_depth most (goals.Head first head slash) sort at = action_depth most (rule_head first head slash at) sort

end_depth : (goal : Goal) (depth : ℕ) (sort : Sort) (at : ℕ) → depth_behind (at_end goal depth sort at) ≤ suc depth
end_depth goal zero sort at = expression_depth 1 goal sort at
end_depth goal (suc depth) Close at = omega arith
end_depth goal (suc depth) sort at = omega arith

operator_depth : (goal : Goal) (depth : ℕ) (sort : Sort) (at : ℕ) → depth_behind (operator goal depth sort at) ≤ suc depth
operator_depth goal depth Bar at = omega arith
operator_depth goal depth Backslash at = omega arith
operator_depth goal depth Star at = omega arith
operator_depth goal depth Plus at = omega arith
operator_depth goal depth Question at = omega arith
operator_depth goal depth Bounds at = omega arith
operator_depth goal depth Open at = operand_depth goal depth Open
operator_depth goal depth Str at = operand_depth goal depth Str
operator_depth goal depth IStr at = operand_depth goal depth IStr
operator_depth goal depth Class at = operand_depth goal depth Class
operator_depth goal depth Dot at = operand_depth goal depth Dot
operator_depth goal depth Name at = operand_depth goal depth Name
operator_depth goal depth STag at = operand_depth goal depth STag
operator_depth goal depth MTag at = operand_depth goal depth MTag
operator_depth goal depth sort at = end_depth goal depth sort at

head_depth : (first : ℕ) (sort : Sort) (at : ℕ) → depth_behind (head_start first sort at) ≤ 1
head_depth first Star at = omega arith
head_depth first Dollar at = omega arith
head_depth first sort at = operand_depth (goals.Head first at None) 0 sort

between_depth : (form : Form) (sort : Sort) (at : ℕ) → depth_behind (between form sort at) ≤ 1
between_depth forms.Items Name at = omega arith
between_depth forms.Items Config at = omega arith
between_depth forms.Items Less at = omega arith
between_depth forms.Items sort at = head_depth at sort at
between_depth forms.Format Format at = omega arith
between_depth forms.Separator Separator at = omega arith
between_depth form sort at = omega arith

pub next_depth : (state : State) (sort : Sort) (at : ℕ) → depth_behind (next state sort at) ≤ suc (depth_of state)
next_depth (states.Between form) sort at = between_depth form sort at
next_depth (states.Named name) Equals at = omega arith
next_depth (states.Named name) sort at = operator_depth (goals.Head name name None) 0 sort at
next_depth (states.Defined name) sort at = operand_depth (goals.Define name at) 0 sort
next_depth (states.ConfigValue name) sort at = when_depth 1 (is_value sort) (states.ConfigEnd name at) (omega arith)
next_depth (states.Listed first) sort at = head_depth first sort at
next_depth (states.Operand goal depth) sort at = operand_depth goal depth sort
next_depth (states.Operator goal depth) sort at = operator_depth goal depth sort at
next_depth (states.Action first head) sort at = action_depth 1 (rule_head first head None at) sort
next_depth (states.TextValue form) sort at = when_depth 1 (is_string sort) (states.TextEnd form at) (omega arith)
next_depth (states.ConfigName name) Equals at = omega arith
next_depth (states.ConfigEnd name value) Semicolon at = omega arith
next_depth (states.List first) Star at = omega arith
next_depth (states.List first) Name at = omega arith
next_depth (states.ListStar first) Greater at = omega arith
next_depth (states.ListName first) Comma at = omega arith
next_depth (states.ListName first) Greater at = omega arith
next_depth (states.ListComma first) Name at = omega arith
next_depth (states.Target head) Name at = omega arith
next_depth (states.TargetCode head goes) Code at = omega arith
next_depth (states.JumpTarget head) Name at = omega arith
next_depth (states.TextWord form) Equals at = omega arith
next_depth (states.TextEnd form value) Semicolon at = omega arith
next_depth state sort at = omega arith
