-- What the automaton reads is well-formed: each step keeps what was read, and what ends a body is one.
use Rattle.std.proofs.Common.{◌≡◌, ℕ, zero, suc, ◌+◌, Bool, true, false, List, [], ◌∷◌, length, Option, Some, None, Ok, Err, refl, sym, subst, arith}
use Rattle.lx_parse.specs.declared.items.Item.{Item}
use Rattle.lx_parse.specs.declared.items.Item.TheVariants as items
use Rattle.lx_parse.specs.declared.forms.Form.{Form}
use Rattle.lx_parse.specs.declared.forms.Form.TheVariants as forms
use Rattle.lx_parse.specs.declared.sorts.Sort.{Sort}
use Rattle.lx_parse.specs.declared.sorts.Sort.TheVariants.{Name, Format, Separator, Config, Str, IStr, Class, STag, MTag, Bounds, Code, Equals, Semicolon, Bar, Backslash, Slash, Open, Close, Star, Plus, Question, Dot, Dollar, Less, Greater, Comma, Arrow, Jump}
use Rattle.lx_parse.specs.declared.states.Goal.{Goal}
use Rattle.lx_parse.specs.declared.states.Goal.TheVariants as goals
use Rattle.lx_parse.specs.declared.states.State.{State}
use Rattle.lx_parse.specs.declared.states.State.TheVariants as states
use Rattle.lx_parse.specs.declared.states.Step.{Step}
use Rattle.lx_parse.specs.declared.states.Step.TheVariants.{Refuse, Go, Done}
use Rattle.lx_parse.specs.Sorts.{is_atom, is_postfix, is_string, is_value}
use Rattle.lx_parse.specs.Expressions.{alt, Reads, sign, group, bare, repeated}
use Rattle.lx_parse.specs.Items.{place, first_name, next_name, ReadsList, no_list, all_conditions, conditions, ReadsHead, plain, trailing, any, end, code, code_and_target, target, define, configure, rule, no_item, next_item, no_separator, separator, format, nothing}
use Rattle.lx_parse.specs.Blocks.{ReadsForm}
use Rattle.lx_parse.specs.Automaton.{rule_head, when, operand, operator, at_end, after_expression, action, head_start, between, named, next, may_end}
use Rattle.lx_parse.proofs.Runs.{Items, with_item, follow, at_last, run}
use Rattle.lx_parse.proofs.Begun.{no_diff, behind_bar, no_cat, behind_backslash, no_post, cat_begun, diff_behind, alt_behind, OperandBegun, OperatorBegun, GoalBegun, of_define, of_head, of_trailing, Begun}
use Rattle.lx_parse.proofs.Begun as front

fresh : (text : List Sort) → OperandBegun 0 text text
fresh text = record { inner = text; nest = refl; begun = no_post text (no_cat text no_diff) }

as_operand : (depth : ℕ) (start text : List Sort) → OperatorBegun depth start text → OperandBegun depth start text
as_operand depth start text read = record { inner = read.inner; nest = read.nest; begun = cat_begun read.inner read.middle text read.begun read.read }

behind_postfix : (depth : ℕ) (start text : List Sort) (sort : Sort) → is_postfix sort ≡ true → OperatorBegun depth start (sort ∷ text) → OperatorBegun depth start text
behind_postfix depth start text sort is read = record {
  inner = read.inner;
  middle = read.middle;
  nest = read.nest;
  begun = read.begun;
  read = repeated read.middle text sort read.read is;
}

behind_or : (depth : ℕ) (start text : List Sort) → OperatorBegun depth start (Bar ∷ text) → OperandBegun depth start text
behind_or depth start text read = record {
  inner = read.inner;
  nest = read.nest;
  begun = no_post text (no_cat text (behind_bar text (alt_behind read.inner read.middle (Bar ∷ text) read.begun read.read)));
}

behind_without : (depth : ℕ) (start text : List Sort) → OperatorBegun depth start (Backslash ∷ text) → OperandBegun depth start text
behind_without depth start text read =
    let found = diff_behind read.inner read.middle (Backslash ∷ text) read.begun read.read in record {
      inner = read.inner;
      nest = read.nest;
      begun = no_post text (behind_backslash found.0 text found.1 found.2);
    }

behind_open : (depth : ℕ) (start text : List Sort) → OperandBegun depth start (Open ∷ text) → OperandBegun (suc depth) start text
behind_open depth start text read = record { inner = text; nest = (read.inner, read.nest, read.begun); begun = no_post text (no_cat text no_diff) }

behind_atom : (depth : ℕ) (start text : List Sort) (sort : Sort) → is_atom sort ≡ true → OperandBegun depth start (sort ∷ text) → OperatorBegun depth start text
behind_atom depth start text sort is read = record {
  inner = read.inner;
  middle = sort ∷ text;
  nest = read.nest;
  begun = read.begun;
  read = bare (sort ∷ text) text (sign sort text is);
}

behind_close : (depth : ℕ) (start text : List Sort) → OperatorBegun (suc depth) start (Close ∷ text) → OperatorBegun depth start text
behind_close depth start text read = record {
  inner = read.nest.0;
  middle = Open ∷ read.inner;
  nest = read.nest.1;
  begun = read.nest.2;
  read = bare (Open ∷ read.inner) text (group read.inner text (alt_behind read.inner read.middle (Close ∷ text) read.begun read.read));
}

whole : (start text : List Sort) → OperatorBegun 0 start text → Reads alt start text
whole start text read = subst (λ inner. Reads alt inner text) (sym read.nest) (alt_behind read.inner read.middle text read.begun read.read)

module _ (size : ℕ) where
  -- what a step keeps: on in the item, what was read of it; behind the item, the item
  abbrev pub Kept : Form → (start text : List Sort) → Step → Type 0
  Kept form start text Refuse = Unit {0}
  Kept form start text (Go state) = Begun size form start state text
  Kept form start text (Done item after) =
      (items : List Item) → ReadsForm size after items text → ReadsForm size form (item ∷ items) start

  when_kept : (form : Form) (start text : List Sort) (state : State) (test : Bool) → (test ≡ true → Begun size form start state text)
      → Kept form start text (when test state)
  when_kept form start text state true kept = kept refl
  when_kept form start text state false kept = tt

  operand_kept : (start from text : List Sort) (goal : Goal) (depth : ℕ) (sort : Sort) → GoalBegun size start goal from
      → OperandBegun depth from (sort ∷ text) → Kept forms.Items start text (operand goal depth sort)
  operand_kept start from text goal depth Open begun read =
      front.in_operand start from text goal (suc depth) begun (behind_open depth from text read)
  operand_kept start from text goal depth sort begun read =
      when_kept forms.Items start text (states.Operator goal depth) (is_atom sort)
      (λ is. front.in_operator start from text goal depth begun (behind_atom depth from text sort is read))

  action_kept : (start head text : List Sort) (slash : Option ℕ) (sort : Sort) → ReadsList start head → ReadsHead size slash head (sort ∷ text)
      → Kept forms.Items start text (action (rule_head (place size start) (place size head) slash (place size (sort ∷ text))) sort)
  action_kept start head text slash Code list read = λ items rest.
      next_item _ items start text (rule slash None (Some (place size (Code ∷ text))) start head (Code ∷ text) text list read (code text)) rest
  action_kept start head text slash Arrow list read = front.before_target start head text slash list read
  action_kept start head text slash Jump list read = front.before_jump start head text slash list read
  action_kept start head text slash sort list read = tt

  expression_kept : (start from text : List Sort) (goal : Goal) (sort : Sort) → GoalBegun size start goal from → Reads alt from (sort ∷ text)
      → Kept forms.Items start text (after_expression goal sort (place size (sort ∷ text)))
  expression_kept start from text goal Semicolon (of_define _) read = λ items rest. next_item _ items _ text (define from text read) rest
  expression_kept start from text goal sort (of_define _) read = tt
  expression_kept start from text goal Slash (of_head _ _ list) read =
      front.in_operand start text text (goals.Head (place size start) (place size from) (Some (place size (Slash ∷ text)))) 0
      (of_trailing start from text list read) (fresh text)
  expression_kept start from text goal sort (of_head _ _ list) read =
      action_kept start from text None sort list (plain from (sort ∷ text) read)
  expression_kept start from text goal sort (of_trailing _ head _ list first) read =
      action_kept start head text (Some (place size (Slash ∷ from))) sort list (trailing head from (sort ∷ text) first read)

  end_kept : (start from text : List Sort) (goal : Goal) (depth : ℕ) (sort : Sort) → GoalBegun size start goal from
      → OperatorBegun depth from (sort ∷ text) → Kept forms.Items start text (at_end goal depth sort (place size (sort ∷ text)))
  end_kept start from text goal zero sort begun read = expression_kept start from text goal sort begun (whole from (sort ∷ text) read)
  end_kept start from text goal (suc depth) Close begun read =
      front.in_operator start from text goal depth begun (behind_close depth from text read)
  end_kept start from text goal (suc depth) sort begun read = tt

  operator_kept : (start from text : List Sort) (goal : Goal) (depth : ℕ) (sort : Sort) → GoalBegun size start goal from
      → OperatorBegun depth from (sort ∷ text) → Kept forms.Items start text (operator goal depth sort (place size (sort ∷ text)))
  operator_kept start from text goal depth Bar begun read = front.in_operand start from text goal depth begun (behind_or depth from text read)
  operator_kept start from text goal depth Backslash begun read =
      front.in_operand start from text goal depth begun (behind_without depth from text read)
  operator_kept start from text goal depth Star begun read =
      front.in_operator start from text goal depth begun (behind_postfix depth from text Star refl read)
  operator_kept start from text goal depth Plus begun read =
      front.in_operator start from text goal depth begun (behind_postfix depth from text Plus refl read)
  operator_kept start from text goal depth Question begun read =
      front.in_operator start from text goal depth begun (behind_postfix depth from text Question refl read)
  operator_kept start from text goal depth Bounds begun read =
      front.in_operator start from text goal depth begun (behind_postfix depth from text Bounds refl read)
  operator_kept start from text goal depth Open begun read =
      operand_kept start from text goal depth Open begun (as_operand depth from (Open ∷ text) read)
  operator_kept start from text goal depth Str begun read =
      operand_kept start from text goal depth Str begun (as_operand depth from (Str ∷ text) read)
  operator_kept start from text goal depth IStr begun read =
      operand_kept start from text goal depth IStr begun (as_operand depth from (IStr ∷ text) read)
  operator_kept start from text goal depth Class begun read =
      operand_kept start from text goal depth Class begun (as_operand depth from (Class ∷ text) read)
  operator_kept start from text goal depth Dot begun read =
      operand_kept start from text goal depth Dot begun (as_operand depth from (Dot ∷ text) read)
  operator_kept start from text goal depth Name begun read =
      operand_kept start from text goal depth Name begun (as_operand depth from (Name ∷ text) read)
  operator_kept start from text goal depth STag begun read =
      operand_kept start from text goal depth STag begun (as_operand depth from (STag ∷ text) read)
  operator_kept start from text goal depth MTag begun read =
      operand_kept start from text goal depth MTag begun (as_operand depth from (MTag ∷ text) read)
  operator_kept start from text goal depth sort begun read = end_kept start from text goal depth sort begun read

  head_kept : (start text : List Sort) (sort : Sort) → ReadsList start (sort ∷ text)
      → Kept forms.Items start text (head_start (place size start) sort (place size (sort ∷ text)))
  head_kept start text Star list = front.before_action start (Star ∷ text) text list (any text)
  head_kept start text Dollar list = front.before_action start (Dollar ∷ text) text list (end text)
  head_kept start text sort list =
      operand_kept start (sort ∷ text) text (goals.Head (place size start) (place size (sort ∷ text)) None) 0 sort
      (of_head start (sort ∷ text) list) (fresh (sort ∷ text))

  between_kept : (form : Form) (text : List Sort) (sort : Sort) → Kept form (sort ∷ text) text (between form sort (place size (sort ∷ text)))
  between_kept forms.Items text Name = front.named text
  between_kept forms.Items text Config = front.config_name text
  between_kept forms.Items text Less = front.list text
  between_kept forms.Items text sort = head_kept (sort ∷ text) text sort (no_list (sort ∷ text))
  between_kept forms.Format text Format = front.format_word text
  between_kept forms.Separator text Separator = front.separator_word text
  between_kept form text sort = tt

  named_kept : (text : List Sort) (sort : Sort)
      → Kept forms.Items (Name ∷ sort ∷ text) text (named (place size (Name ∷ sort ∷ text)) sort (place size (sort ∷ text)))
  named_kept text Equals = front.defined text
  named_kept text sort =
      operator_kept (Name ∷ sort ∷ text) (Name ∷ sort ∷ text) text
      (goals.Head (place size (Name ∷ sort ∷ text)) (place size (Name ∷ sort ∷ text)) None) 0 sort
      (of_head (Name ∷ sort ∷ text) (Name ∷ sort ∷ text) (no_list (Name ∷ sort ∷ text)))
      (behind_atom 0 (Name ∷ sort ∷ text) (sort ∷ text) Name refl (fresh (Name ∷ sort ∷ text)))

  separator_kept : (value : Sort) (text : List Sort) → is_string value ≡ true
      → Kept forms.Separator (Separator ∷ Equals ∷ value ∷ Semicolon ∷ text) text (Done (items.Text (place size (value ∷ Semicolon ∷ text))) forms.Nothing)
  separator_kept value text is _ nothing = separator value is

  step_kept : (form : Form) (start text : List Sort) (state : State) (sort : Sort) → Begun size form start state (sort ∷ text)
      → Kept form start text (next state sort (place size (sort ∷ text)))
  step_kept form start text state sort (front.between _ _) = between_kept form text sort
  step_kept form start text state sort (front.named _) = named_kept text sort
  step_kept form start text state sort (front.defined _) =
      operand_kept (Name ∷ Equals ∷ sort ∷ text) (sort ∷ text) text
      (goals.Define (place size (Name ∷ Equals ∷ sort ∷ text)) (place size (sort ∷ text))) 0 sort (of_define (sort ∷ text)) (fresh (sort ∷ text))
  step_kept form start text state Equals (front.config_name _) = front.config_value text
  step_kept form start text state sort (front.config_name _) = tt
  step_kept form start text state sort (front.config_value _) =
      when_kept form start text _ (is_value sort) (λ is. front.config_end sort text is)
  step_kept form start text state Semicolon (front.config_end value _ is) = λ items rest. next_item _ items _ text (configure value text is) rest
  step_kept form start text state sort (front.config_end value _ is) = tt
  step_kept form start text state Star (front.list _) = front.list_star text
  step_kept form start text state Name (front.list _) = front.list_name (Name ∷ text) text (first_name text)
  step_kept form start text state sort (front.list _) = tt
  step_kept form start text state Greater (front.list_star _) = front.listed (Less ∷ Star ∷ Greater ∷ text) text (all_conditions text)
  step_kept form start text state sort (front.list_star _) = tt
  step_kept form start text state Comma (front.list_name names _ read) = front.list_comma names text read
  step_kept form start text state Greater (front.list_name names _ read) = front.listed (Less ∷ names) text (conditions names text read)
  step_kept form start text state sort (front.list_name names _ read) = tt
  step_kept form start text state Name (front.list_comma names _ read) = front.list_name names text (next_name names text read)
  step_kept form start text state sort (front.list_comma names _ read) = tt
  step_kept form start text state sort (front.listed _ _ list) = head_kept start text sort list
  step_kept form start text state sort (front.in_operand _ from _ goal depth begun read) = operand_kept start from text goal depth sort begun read
  step_kept form start text state sort (front.in_operator _ from _ goal depth begun read) = operator_kept start from text goal depth sort begun read
  step_kept form start text state sort (front.before_action _ head _ list read) = action_kept start head text None sort list read
  step_kept form start text state Name (front.before_target _ head _ slash list read) = front.before_code start head text slash list read
  step_kept form start text state sort (front.before_target _ head _ slash list read) = tt
  step_kept form start text state Code (front.before_code _ head _ slash list read) = λ items rest.
      next_item _ items start text
      (rule slash (Some (place size (Name ∷ Code ∷ text))) (Some (place size (Code ∷ text))) start head (Arrow ∷ Name ∷ Code ∷ text) text list read (code_and_target text)) rest
  step_kept form start text state sort (front.before_code _ head _ slash list read) = tt
  step_kept form start text state Name (front.before_jump _ head _ slash list read) = λ items rest.
      next_item _ items start text (rule slash (Some (place size (Name ∷ text))) None start head (Jump ∷ Name ∷ text) text list read (target text)) rest
  step_kept form start text state sort (front.before_jump _ head _ slash list read) = tt
  step_kept form start text state Equals (front.format_word _) = front.format_value text
  step_kept form start text state sort (front.format_word _) = tt
  step_kept form start text state sort (front.format_value _) = when_kept form start text _ (is_string sort) (λ is. front.format_end sort text is)
  step_kept form start text state Semicolon (front.format_end value _ is) = λ items rest. format items value text is rest
  step_kept form start text state sort (front.format_end value _ is) = tt
  step_kept form start text state Equals (front.separator_word _) = front.separator_value text
  step_kept form start text state sort (front.separator_word _) = tt
  step_kept form start text state sort (front.separator_value _) =
      when_kept form start text _ (is_string sort) (λ is. front.separator_end sort text is)
  step_kept form start text state Semicolon (front.separator_end value _ is) = separator_kept value text is
  step_kept form start text state sort (front.separator_end value _ is) = tt

  last_sound : (form : Form) (start : List Sort) (state : State) (at : ℕ) (items : List Item) → Begun size form start state []
      → at_last (may_end state) at ≡ Ok items → ReadsForm size form items start
  last_sound forms.Items start state at items (front.between _ _) e = let none : [] ≡ items = cc in subst (λ items. ReadsForm size forms.Items items []) none no_item
  last_sound forms.Separator start state at items (front.between _ _) e = let none : [] ≡ items = cc in subst (λ items. ReadsForm size forms.Separator items []) none no_separator
  last_sound forms.Nothing start state at items (front.between _ _) e = let none : [] ≡ items = cc in subst (λ items. ReadsForm size forms.Nothing items []) none nothing
  last_sound forms.Format start state at items (front.between _ _) e = absurd (cc)
  last_sound form start state at items begun e = absurd (cc)

  -- the items of a rest are those of a body
  abbrev RestSound : List Sort → (at : ℕ) → Type 0
  RestSound sorts at = (form : Form) (start : List Sort) (state : State) (items : List Item) → Begun size form start state sorts
      → run sorts at state ≡ Ok items → ReadsForm size form items start

  done_sound : (form : Form) (start sorts : List Sort) (at : ℕ) (items : List Item) (item : Item) (after : Form) (rest : Items)
      → RestSound sorts at → Kept form start sorts (Done item after) → run sorts at (states.Between after) ≡ rest
      → with_item item rest ≡ Ok items → ReadsForm size form items start
  done_sound form start sorts at items item after (Ok others) again kept rest e =
      let same : item ∷ others ≡ items = cc in
      subst (λ items. ReadsForm size form items start) same
      (kept others (again after sorts (states.Between after) others (front.between after sorts) rest))
  done_sound form start sorts at items item after (Err place) again kept rest e = absurd (cc)

  follow_sound : (form : Form) (start sorts : List Sort) (at : ℕ) (items : List Item) (step : Step) → RestSound sorts (suc at)
      → Kept form start sorts step → follow (run sorts) at step ≡ Ok items → ReadsForm size form items start
  follow_sound form start sorts at items Refuse again kept e = absurd (cc)
  follow_sound form start sorts at items (Go state) again kept e = again form start state items kept e
  follow_sound form start sorts at items (Done item after) again kept e =
      done_sound form start sorts (suc at) items item after (run sorts (suc at) (states.Between after)) again kept refl e

  -- what the automaton reads from where the parser stands to the end makes, with what was read, a body
  pub sound : (sorts : List Sort) (at : ℕ) → at + length sorts ≡ size → RestSound sorts at
  sound [] at count form start state items begun e = last_sound form start state at items begun e
  sound (sort ∷ sorts) at count form start state items begun e =
      let here : place size (sort ∷ sorts) ≡ at = omega arith in
      let next_count : suc at + length sorts ≡ size = omega arith in
      follow_sound form start sorts at items (next state sort at) (sound sorts (suc at) next_count)
      (subst (λ at. Kept form start sorts (next state sort at)) here (step_kept form start sorts state sort begun)) e
