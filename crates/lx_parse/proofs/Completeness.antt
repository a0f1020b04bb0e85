-- The automaton reads each well-formed body, and gives its items.
use Rattle.std.proofs.Common.{◌≡◌, ℕ, suc, ◌≤◌, true, List, [], ◌∷◌, length, Option, Some, None, Ok, refl, ap, ◌∙◌, arith}
use Rattle.lx_parse.specs.declared.items.Item.{Item}
use Rattle.lx_parse.specs.declared.items.Item.TheVariants as kinds
use Rattle.lx_parse.specs.declared.forms.Form.{Form}
use Rattle.lx_parse.specs.declared.forms.Form.TheVariants as forms
use Rattle.lx_parse.specs.declared.sorts.Sort.{Sort}
use Rattle.lx_parse.specs.declared.sorts.Sort.TheVariants.{Name, Format, Separator, Config, Str, IStr, Class, STag, MTag, Bounds, Code, Equals, Semicolon, Bar, Backslash, Slash, Open, Close, Star, Plus, Question, Dot, Dollar, Less, Greater, Comma, Arrow, Jump}
use Rattle.lx_parse.specs.declared.states.Goal.{Goal}
use Rattle.lx_parse.specs.declared.states.Goal.TheVariants as goals
use Rattle.lx_parse.specs.declared.states.RuleHead.{RuleHead}
use Rattle.lx_parse.specs.declared.states.State.{State}
use Rattle.lx_parse.specs.declared.states.State.TheVariants as states
use Rattle.lx_parse.specs.declared.states.Step.TheVariants.{Go, Done}
use Rattle.lx_parse.specs.Sorts.{is_atom, is_postfix, is_string}
use Rattle.lx_parse.specs.Expressions.{Part, Reads, sign, group, bare, repeated, first_post, next_post, first_cat, next_cat, first_diff, next_diff}
use Rattle.lx_parse.specs.Items.{place, ReadsNames, first_name, next_name, ReadsList, no_list, all_conditions, conditions, ReadsHead, plain, trailing, any, end, ReadsAction, code, code_and_target, target, ReadsItem, define, configure, rule, ReadsItems, no_item, next_item, ReadsSeparator, no_separator, separator, ReadsTexts, format, nothing}
use Rattle.lx_parse.specs.Blocks.{ReadsForm}
use Rattle.lx_parse.specs.Automaton.{rule_head, when, operand, operator, action, next}
use Rattle.lx_parse.proofs.Runs.{Items, with_item, follow, run}
use Rattle.lx_parse.proofs.Behind.{behind_shorter, reads_behind, names_behind, list_behind, item_behind}

reads_shorter : (part : Part) (text rest : List Sort) → Reads part text rest → length rest ≤ length text
reads_shorter part text rest read = behind_shorter text rest (reads_behind part text rest read)

names_shorter : (text rest : List Sort) → ReadsNames text rest → length rest ≤ length text
names_shorter text rest read = behind_shorter text rest (names_behind text rest read)

list_shorter : (text rest : List Sort) → ReadsList text rest → length rest ≤ length text
list_shorter text rest read = behind_shorter text rest (list_behind text rest read)

item_shorter : (size : ℕ) (item : Item) (text rest : List Sort) → ReadsItem size item text rest → length rest ≤ length text
item_shorter size item text rest read = behind_shorter text rest (item_behind size item text rest read)

operand_atom : (goal : Goal) (depth : ℕ) (sort : Sort) → is_atom sort ≡ true → operand goal depth sort ≡ Go (states.Operator goal depth)
operand_atom goal depth Open is = absurd (cc)
operand_atom goal depth sort is = ap (λ test. when test (states.Operator goal depth)) is

operator_atom : (goal : Goal) (depth at : ℕ) (sort : Sort) → is_atom sort ≡ true → operator goal depth sort at ≡ Go (states.Operator goal depth)
operator_atom goal depth at Str is = refl
operator_atom goal depth at IStr is = refl
operator_atom goal depth at Class is = refl
operator_atom goal depth at Dot is = refl
operator_atom goal depth at Name is = refl
operator_atom goal depth at STag is = refl
operator_atom goal depth at MTag is = refl
operator_atom goal depth at sort is = absurd (cc)

operator_postfix : (goal : Goal) (depth at : ℕ) (sort : Sort) → is_postfix sort ≡ true → operator goal depth sort at ≡ Go (states.Operator goal depth)
operator_postfix goal depth at Star is = refl
operator_postfix goal depth at Plus is = refl
operator_postfix goal depth at Question is = refl
operator_postfix goal depth at Bounds is = refl
operator_postfix goal depth at sort is = absurd (cc)

named_as_operator : (items : List Item) (name at : ℕ) (text : List Sort)
    → run text at (states.Operator (goals.Head name name None) 0) ≡ Ok items → run text at (states.Named name) ≡ Ok items
named_as_operator items name at [] e = absurd (cc)
named_as_operator items name at (Equals ∷ text) e = absurd (cc)
named_as_operator items name at (sort ∷ text) e = e

listed_as_operand : (items : List Item) (first at : ℕ) (text : List Sort)
    → run text at (states.Operand (goals.Head first at None) 0) ≡ Ok items → run text at (states.Listed first) ≡ Ok items
listed_as_operand items first at [] e = absurd (cc)
listed_as_operand items first at (Star ∷ text) e = absurd (cc)
listed_as_operand items first at (Dollar ∷ text) e = absurd (cc)
listed_as_operand items first at (sort ∷ text) e = e

between_as_listed : (items : List Item) (at : ℕ) (text : List Sort)
    → run text at (states.Listed at) ≡ Ok items → run text at (states.Between forms.Items) ≡ Ok items
between_as_listed items at [] e = absurd (cc)
between_as_listed items at (Name ∷ text) e = named_as_operator items at (suc at) text e
between_as_listed items at (Config ∷ text) e = absurd (cc)
between_as_listed items at (Less ∷ text) e = absurd (cc)
between_as_listed items at (sort ∷ text) e = e

defined_as_operand : (name at : ℕ) (text : List Sort)
    → run text at (states.Defined name) ≡ run text at (states.Operand (goals.Define name at) 0)
defined_as_operand name at [] = refl
defined_as_operand name at (sort ∷ text) = refl

module _ (size : ℕ) where
  -- the items of a rest, from a state on
  abbrev from : State → List Sort → Items
  from state text = run text (place size text) state

  from_go : (state after : State) (sort : Sort) (text : List Sort) → length (sort ∷ text) ≤ size
      → next state sort (place size (sort ∷ text)) ≡ Go after → from state (sort ∷ text) ≡ from after text
  from_go state after sort text within e =
      let step : suc (place size (sort ∷ text)) ≡ place size text = omega arith in
      ap (follow (run text) (place size (sort ∷ text))) e ∙ ap (λ at. run text at after) step

  from_done : (state : State) (item : Item) (form : Form) (sort : Sort) (text : List Sort) → length (sort ∷ text) ≤ size
      → next state sort (place size (sort ∷ text)) ≡ Done item form → from state (sort ∷ text) ≡ with_item item (from (states.Between form) text)
  from_done state item form sort text within e =
      let step : suc (place size (sort ∷ text)) ≡ place size text = omega arith in
      ap (follow (run text) (place size (sort ∷ text))) e ∙ ap (λ at. with_item item (run text at (states.Between form))) step

  -- an expression leads from where an atom is wanted, or may stand, to where what repeats it may stand
  abbrev Passes : (goal : Goal) (depth : ℕ) → (text rest : List Sort) → Type 0
  Passes goal depth text rest =
      (from (states.Operand goal depth) text ≡ from (states.Operator goal depth) rest)
      × (from (states.Operator goal depth) text ≡ from (states.Operator goal depth) rest)

  from_reads : (part : Part) (text rest : List Sort) → Reads part text rest → (goal : Goal) (depth : ℕ) → length text ≤ size → Passes goal depth text rest
  from_reads part text rest (sign sort _ is) goal depth within = (
    from_go (states.Operand goal depth) (states.Operator goal depth) sort rest within (operand_atom goal depth sort is),
    from_go (states.Operator goal depth) (states.Operator goal depth) sort rest within (operator_atom goal depth (place size (sort ∷ rest)) sort is),
  )
  from_reads part text rest (group inner _ read) goal depth within =
      let less = reads_shorter _ _ _ read in
      let inside = from_reads _ inner (Close ∷ rest) read goal (suc depth) (omega arith) in
      let behind = inside.0 ∙ from_go (states.Operator goal (suc depth)) (states.Operator goal depth) Close rest (omega arith) refl in (
        from_go (states.Operand goal depth) (states.Operand goal (suc depth)) Open inner within refl ∙ behind,
        from_go (states.Operator goal depth) (states.Operand goal (suc depth)) Open inner within refl ∙ behind,
      )
  from_reads part text rest (bare _ _ read) goal depth within = from_reads _ text rest read goal depth within
  from_reads part text rest (repeated _ _ sort read is) goal depth within =
      let less = reads_shorter _ _ _ read in
      let before = from_reads _ text (sort ∷ rest) read goal depth within in
      let last = from_go (states.Operator goal depth) (states.Operator goal depth) sort rest (omega arith) (operator_postfix goal depth (place size (sort ∷ rest)) sort is) in
      (before.0 ∙ last, before.1 ∙ last)
  from_reads part text rest (first_post _ _ read) goal depth within = from_reads _ text rest read goal depth within
  from_reads part text rest (next_post _ middle _ read next) goal depth within =
      let less = reads_shorter _ _ _ read in
      let before = from_reads _ text middle read goal depth within in
      let last = from_reads _ middle rest next goal depth (omega arith) in
      (before.0 ∙ last.1, before.1 ∙ last.1)
  from_reads part text rest (first_cat _ _ read) goal depth within = from_reads _ text rest read goal depth within
  from_reads part text rest (next_cat _ middle _ read next) goal depth within =
      let less = reads_shorter _ _ _ read in
      let before = from_reads _ text (Backslash ∷ middle) read goal depth within in
      let step = from_go (states.Operator goal depth) (states.Operand goal depth) Backslash middle (omega arith) refl in
      let last = from_reads _ middle rest next goal depth (omega arith) in
      (before.0 ∙ (step ∙ last.0), before.1 ∙ (step ∙ last.0))
  from_reads part text rest (first_diff _ _ read) goal depth within = from_reads _ text rest read goal depth within
  from_reads part text rest (next_diff _ middle _ read next) goal depth within =
      let less = reads_shorter _ _ _ read in
      let before = from_reads _ text (Bar ∷ middle) read goal depth within in
      let step = from_go (states.Operator goal depth) (states.Operand goal depth) Bar middle (omega arith) refl in
      let last = from_reads _ middle rest next goal depth (omega arith) in
      (before.0 ∙ (step ∙ last.0), before.1 ∙ (step ∙ last.0))

  from_names : (text rest : List Sort) (first : ℕ) → ReadsNames text rest → length text ≤ size
      → from (states.List first) text ≡ from (states.ListName first) rest
  from_names text rest first (first_name _) within = from_go (states.List first) (states.ListName first) Name rest within refl
  from_names text rest first (next_name _ _ read) within =
      let less = names_shorter _ _ read in
      from_names text (Comma ∷ Name ∷ rest) first read within
      ∙ (from_go (states.ListName first) (states.ListComma first) Comma (Name ∷ rest) (omega arith) refl
      ∙ from_go (states.ListComma first) (states.ListName first) Name rest (omega arith) refl)

  from_list : (items : List Item) (text head : List Sort) → ReadsList text head → length text ≤ size
      → from (states.Listed (place size text)) head ≡ Ok items → from (states.Between forms.Items) text ≡ Ok items
  from_list items text head (no_list _) within e = between_as_listed items (place size text) text e
  from_list items text head (all_conditions _) within e =
      from_go (states.Between forms.Items) (states.List (place size text)) Less (Star ∷ Greater ∷ head) within refl
      ∙ (from_go (states.List (place size text)) (states.ListStar (place size text)) Star (Greater ∷ head) (omega arith) refl
      ∙ (from_go (states.ListStar (place size text)) (states.Listed (place size text)) Greater head (omega arith) refl ∙ e))
  from_list items text head (conditions names _ read) within e =
      let less = names_shorter _ _ read in
      from_go (states.Between forms.Items) (states.List (place size text)) Less names within refl
      ∙ (from_names names (Greater ∷ head) (place size text) read (omega arith)
      ∙ (from_go (states.ListName (place size text)) (states.Listed (place size text)) Greater head (omega arith) refl ∙ e))

  -- the state does behind the head of a rule what such a state is to do
  abbrev Acts : State → RuleHead → Type 0
  Acts state read =
      (next state Code read.until ≡ action read Code) × (next state Arrow read.until ≡ action read Arrow) × (next state Jump read.until ≡ action read Jump)

  from_action : (state : State) (first head : ℕ) (slash goes coded : Option ℕ) (text rest : List Sort) → ReadsAction size goes coded text rest
      → length text ≤ size → Acts state (rule_head first head slash (place size text))
      → from state text ≡ with_item (kinds.Rule first head slash (place size text) goes coded) (from (states.Between forms.Items) rest)
  from_action state first head slash goes coded text rest (code _) within acts = from_done state (kinds.Rule first head slash (place size text) goes coded) forms.Items Code rest within acts.0
  from_action state first head slash goes coded text rest (code_and_target _) within acts =
      let read = rule_head first head slash (place size text) in
      let goal = states.TargetCode read (place size (Name ∷ Code ∷ rest)) in
      from_go state (states.Target read) Arrow (Name ∷ Code ∷ rest) within acts.1
      ∙ (from_go (states.Target read) goal Name (Code ∷ rest) (omega arith) refl
      ∙ from_done goal (kinds.Rule first head slash (place size text) goes coded) forms.Items Code rest (omega arith) refl)
  from_action state first head slash goes coded text rest (target _) within acts =
      let read = rule_head first head slash (place size text) in
      from_go state (states.JumpTarget read) Jump (Name ∷ rest) within acts.2
      ∙ from_done (states.JumpTarget read) (kinds.Rule first head slash (place size text) goes coded) forms.Items Name rest (omega arith) refl

  from_head : (items : List Item) (first : ℕ) (slash goes coded : Option ℕ) (text stop rest : List Sort) → ReadsHead size slash text stop
      → ReadsAction size goes coded stop rest → length text ≤ size → from (states.Between forms.Items) rest ≡ Ok items
      → from (states.Listed first) text ≡ Ok (kinds.Rule first (place size text) slash (place size stop) goes coded ∷ items)
  from_head items first slash goes coded text stop rest (plain _ _ read) last within e =
      let less = reads_shorter _ _ _ read in
      listed_as_operand _ first (place size text) text
      ((from_reads _ text stop read (goals.Head first (place size text) None) 0 within).0
      ∙ (from_action (states.Operator (goals.Head first (place size text) None) 0) first (place size text) None goes coded stop rest last (omega arith) (refl, refl, refl) ∙ ap (with_item _) e))
  from_head items first slash goes coded text stop rest (trailing _ middle _ read more) last within e =
      let less = reads_shorter _ _ _ read in
      let least = reads_shorter _ _ _ more in
      let slash = place size (Slash ∷ middle) in
      listed_as_operand _ first (place size text) text
      ((from_reads _ text (Slash ∷ middle) read (goals.Head first (place size text) None) 0 within).0
      ∙ (from_go (states.Operator (goals.Head first (place size text) None) 0) (states.Operand (goals.Head first (place size text) (Some slash)) 0) Slash middle (omega arith) refl
      ∙ ((from_reads _ middle stop more (goals.Head first (place size text) (Some slash)) 0 (omega arith)).0
      ∙ (from_action (states.Operator (goals.Head first (place size text) (Some slash)) 0) first (place size text) (Some slash) goes coded stop rest last (omega arith) (refl, refl, refl) ∙ ap (with_item _) e))))
  from_head items first slash goes coded text stop rest (any _) last within e =
      from_go (states.Listed first) (states.Action first (place size text)) Star stop within refl
      ∙ (from_action (states.Action first (place size text)) first (place size text) None goes coded stop rest last (omega arith) (refl, refl, refl) ∙ ap (with_item _) e)
  from_head items first slash goes coded text stop rest (end _) last within e =
      from_go (states.Listed first) (states.Action first (place size text)) Dollar stop within refl
      ∙ (from_action (states.Action first (place size text)) first (place size text) None goes coded stop rest last (omega arith) (refl, refl, refl) ∙ ap (with_item _) e)

  from_item : (items : List Item) (item : Item) (text rest : List Sort) → ReadsItem size item text rest → length text ≤ size
      → from (states.Between forms.Items) rest ≡ Ok items → from (states.Between forms.Items) text ≡ Ok (item ∷ items)
  from_item items item text rest (define expression _ read) within e =
      let less = reads_shorter _ _ _ read in
      let name = place size text in
      from_go (states.Between forms.Items) (states.Named name) Name (Equals ∷ expression) within refl
      ∙ (from_go (states.Named name) (states.Defined name) Equals expression (omega arith) refl
      ∙ (defined_as_operand name (place size expression) expression
      ∙ ((from_reads _ expression (Semicolon ∷ rest) read (goals.Define name (place size expression)) 0 (omega arith)).0
      ∙ (from_done (states.Operator (goals.Define name (place size expression)) 0) item forms.Items Semicolon rest (omega arith) refl ∙ ap (with_item item) e))))
  from_item items item text rest (configure value _ is) within e =
      let name = place size text in
      let at = place size (value ∷ Semicolon ∷ rest) in
      from_go (states.Between forms.Items) (states.ConfigName name) Config (Equals ∷ value ∷ Semicolon ∷ rest) within refl
      ∙ (from_go (states.ConfigName name) (states.ConfigValue name) Equals (value ∷ Semicolon ∷ rest) (omega arith) refl
      ∙ (from_go (states.ConfigValue name) (states.ConfigEnd name at) value (Semicolon ∷ rest) (omega arith) (ap (λ test. when test (states.ConfigEnd name at)) is)
      ∙ (from_done (states.ConfigEnd name at) item forms.Items Semicolon rest (omega arith) refl ∙ ap (with_item item) e)))
  from_item items item text rest (rule slash goes coded _ head stop _ list read last) within e =
      let less = list_shorter _ _ list in
      from_list _ text head list within (from_head items (place size text) slash goes coded head stop rest read last (omega arith) e)

  from_items : (items : List Item) (text : List Sort) → ReadsItems size items text → length text ≤ size → from (states.Between forms.Items) text ≡ Ok items
  from_items items text no_item within = refl
  from_items items text (next_item item others _ rest read next) within =
      let less = item_shorter _ _ _ _ read in
      from_item others item text rest read within (from_items others rest next (omega arith))

  from_word : (form : Form) (word value : Sort) (rest : List Sort) → next (states.Between form) word (place size (word ∷ Equals ∷ value ∷ Semicolon ∷ rest)) ≡ Go (states.TextWord form)
      → is_string value ≡ true → length (word ∷ Equals ∷ value ∷ Semicolon ∷ rest) ≤ size
      → from (states.Between form) (word ∷ Equals ∷ value ∷ Semicolon ∷ rest) ≡ from (states.TextEnd form (place size (value ∷ Semicolon ∷ rest))) (Semicolon ∷ rest)
  from_word form word value rest begins is within =
      let at = place size (value ∷ Semicolon ∷ rest) in
      from_go (states.Between form) (states.TextWord form) word (Equals ∷ value ∷ Semicolon ∷ rest) within begins
      ∙ (from_go (states.TextWord form) (states.TextValue form) Equals (value ∷ Semicolon ∷ rest) (omega arith) refl
      ∙ from_go (states.TextValue form) (states.TextEnd form at) value (Semicolon ∷ rest) (omega arith) (ap (λ test. when test (states.TextEnd form at)) is))

  from_separator : (items : List Item) (text : List Sort) → ReadsSeparator size items text → length text ≤ size
      → from (states.Between forms.Separator) text ≡ Ok items
  from_separator items text no_separator within = refl
  from_separator items text (separator value is) within =
      from_word forms.Separator Separator value [] refl is within ∙ from_done (states.TextEnd forms.Separator (place size (value ∷ Semicolon ∷ []))) (kinds.Text (place size (value ∷ Semicolon ∷ []))) forms.Nothing Semicolon [] (omega arith) refl

  from_texts : (items : List Item) (text : List Sort) → ReadsTexts size items text → length text ≤ size → from (states.Between forms.Format) text ≡ Ok items
  from_texts items text (format others value rest is read) within =
      from_word forms.Format Format value rest refl is within
      ∙ (from_done (states.TextEnd forms.Format (place size (value ∷ Semicolon ∷ rest))) (kinds.Text (place size (value ∷ Semicolon ∷ rest))) forms.Separator Semicolon rest (omega arith) refl
      ∙ ap (with_item (kinds.Text (place size (value ∷ Semicolon ∷ rest)))) (from_separator others rest read (omega arith)))

  -- the automaton reads what is well-formed
  pub complete : (form : Form) (items : List Item) (text : List Sort) → ReadsForm size form items text → length text ≤ size
      → run text (place size text) (states.Between form) ≡ Ok items
  complete forms.Items items text read within = from_items items text read within
  complete forms.Format items text read within = from_texts items text read within
  complete forms.Separator items text read within = from_separator items text read within
  complete forms.Nothing items text nothing within = refl
