-- What the parser has read where it stands: the front of an item, in the form that its state says.
use Rattle.std.proofs.Common.{◌≡◌, ℕ, zero, suc, true, List, ◌∷◌, Option, Some, None}
use Rattle.lx_parse.specs.declared.forms.Form.{Form}
use Rattle.lx_parse.specs.declared.forms.Form.TheVariants as forms
use Rattle.lx_parse.specs.declared.sorts.Sort.{Sort}
use Rattle.lx_parse.specs.declared.sorts.Sort.TheVariants.{Name, Format, Separator, Config, Equals, Bar, Backslash, Slash, Open, Star, Less, Comma, Arrow, Jump}
use Rattle.lx_parse.specs.declared.states.Goal.{Goal}
use Rattle.lx_parse.specs.declared.states.Goal.TheVariants as goals
use Rattle.lx_parse.specs.declared.states.State.{State}
use Rattle.lx_parse.specs.declared.states.State.TheVariants as states
use Rattle.lx_parse.specs.Sorts.{is_string, is_value}
use Rattle.lx_parse.specs.Expressions.{alt, diff, cat, post, Reads, first_post, next_post, first_cat, next_cat, first_diff, next_diff}
use Rattle.lx_parse.specs.Items.{place, ReadsNames, ReadsList, ReadsHead}
use Rattle.lx_parse.specs.Automaton.{rule_head}

-- the front of alternatives, up to where a difference begins
pub data AltBegun (start : List Sort) : List Sort → Type 0 where
  no_diff : AltBegun start start
  behind_bar : (text : List Sort) → Reads alt start (Bar ∷ text) → AltBegun start text

-- the front of alternatives, up to where a member of a difference begins
pub data DiffBegun (start : List Sort) : List Sort → Type 0 where
  no_cat : (text : List Sort) → AltBegun start text → DiffBegun start text
  behind_backslash : (middle text : List Sort) → AltBegun start middle → Reads diff middle (Backslash ∷ text) → DiffBegun start text

-- the front of alternatives, up to where an atom begins
pub data CatBegun (start : List Sort) : List Sort → Type 0 where
  no_post : (text : List Sort) → DiffBegun start text → CatBegun start text
  behind_post : (middle text : List Sort) → DiffBegun start middle → Reads cat middle text → CatBegun start text

-- the front of alternatives that ends behind a difference
abbrev pub DiffRead : (start text : List Sort) → Type 0
DiffRead start text = (middle : List Sort) × AltBegun start middle × Reads diff middle text

pub cat_begun : (start middle text : List Sort) → CatBegun start middle → Reads post middle text → CatBegun start text
cat_begun start middle text (no_post _ begun) read = behind_post middle text begun (first_post middle text read)
cat_begun start middle text (behind_post before _ begun cats) read = behind_post before text begun (next_post before middle text cats read)

diff_read : (start middle text : List Sort) → DiffBegun start middle → Reads cat middle text → DiffRead start text
diff_read start middle text (no_cat _ begun) read = (middle, begun, first_cat middle text read)
diff_read start middle text (behind_backslash before _ begun diffs) read = (before, begun, next_cat before middle text diffs read)

pub diff_behind : (start middle text : List Sort) → CatBegun start middle → Reads post middle text → DiffRead start text
diff_behind start middle text (no_post _ begun) read = diff_read start middle text begun (first_post middle text read)
diff_behind start middle text (behind_post before _ begun cats) read =
    diff_read start before text begun (next_post before middle text cats read)

alt_read : (start middle text : List Sort) → AltBegun start middle → Reads diff middle text → Reads alt start text
alt_read start middle text no_diff read = first_diff start text read
alt_read start middle text (behind_bar _ alts) read = next_diff start middle text alts read

pub alt_behind : (start middle text : List Sort) → CatBegun start middle → Reads post middle text → Reads alt start text
alt_behind start middle text begun read =
    let found = diff_behind start middle text begun read in alt_read start found.0 text found.1 found.2

-- the fronts of alternatives that the open parentheses stand in, from the outermost to the innermost
abbrev pub Nest : (depth : ℕ) → (start inner : List Sort) → Type 0
Nest zero start inner = start ≡ inner
Nest (suc depth) start inner = (outer : List Sort) × Nest depth start outer × CatBegun outer (Open ∷ inner)

-- an expression up to where an atom is wanted
pub record OperandBegun (depth : ℕ) (start text : List Sort) : Type 0 where
  pub inner : List Sort
  pub nest : Nest depth start inner
  pub begun : CatBegun inner text

-- an expression up to where what repeats an atom may stand
pub record OperatorBegun (depth : ℕ) (start text : List Sort) : Type 0 where
  pub inner : List Sort
  pub middle : List Sort
  pub nest : Nest depth start inner
  pub begun : CatBegun inner middle
  pub read : Reads post middle text

module _ (size : ℕ) where
  -- the front of an item, up to where its expression begins
  pub data GoalBegun : List Sort → Goal → List Sort → Type 0 where
    of_define : (text : List Sort) →
        GoalBegun (Name ∷ Equals ∷ text) (goals.Define (place size (Name ∷ Equals ∷ text)) (place size text)) text
    of_head : (start text : List Sort) → ReadsList start text →
        GoalBegun start (goals.Head (place size start) (place size text) None) text
    of_trailing : (start head text : List Sort) → ReadsList start head → Reads alt head (Slash ∷ text) →
        GoalBegun start (goals.Head (place size start) (place size head) (Some (place size (Slash ∷ text)))) text

  -- from the first list, where an item of this form begins, up to the second, where the parser stands in this state
  pub data Begun : Form → List Sort → State → List Sort → Type 0 where
    between : (form : Form) (text : List Sort) → Begun form text (states.Between form) text
    named : (text : List Sort) → Begun forms.Items (Name ∷ text) (states.Named (place size (Name ∷ text))) text
    defined : (text : List Sort) → Begun forms.Items (Name ∷ Equals ∷ text) (states.Defined (place size (Name ∷ Equals ∷ text))) text
    config_name : (text : List Sort) → Begun forms.Items (Config ∷ text) (states.ConfigName (place size (Config ∷ text))) text
    config_value : (text : List Sort) →
        Begun forms.Items (Config ∷ Equals ∷ text) (states.ConfigValue (place size (Config ∷ Equals ∷ text))) text
    config_end : (value : Sort) (text : List Sort) → is_value value ≡ true →
        Begun forms.Items (Config ∷ Equals ∷ value ∷ text)
        (states.ConfigEnd (place size (Config ∷ Equals ∷ value ∷ text)) (place size (value ∷ text))) text
    list : (text : List Sort) → Begun forms.Items (Less ∷ text) (states.List (place size (Less ∷ text))) text
    list_star : (text : List Sort) → Begun forms.Items (Less ∷ Star ∷ text) (states.ListStar (place size (Less ∷ Star ∷ text))) text
    list_name : (names text : List Sort) → ReadsNames names text →
        Begun forms.Items (Less ∷ names) (states.ListName (place size (Less ∷ names))) text
    list_comma : (names text : List Sort) → ReadsNames names (Comma ∷ text) →
        Begun forms.Items (Less ∷ names) (states.ListComma (place size (Less ∷ names))) text
    listed : (start text : List Sort) → ReadsList start text → Begun forms.Items start (states.Listed (place size start)) text
    in_operand : (start from text : List Sort) (goal : Goal) (depth : ℕ) → GoalBegun start goal from → OperandBegun depth from text →
        Begun forms.Items start (states.Operand goal depth) text
    in_operator : (start from text : List Sort) (goal : Goal) (depth : ℕ) → GoalBegun start goal from → OperatorBegun depth from text →
        Begun forms.Items start (states.Operator goal depth) text
    before_action : (start head text : List Sort) → ReadsList start head → ReadsHead size None head text →
        Begun forms.Items start (states.Action (place size start) (place size head)) text
    before_target : (start head text : List Sort) (slash : Option ℕ) → ReadsList start head → ReadsHead size slash head (Arrow ∷ text) →
        Begun forms.Items start (states.Target (rule_head (place size start) (place size head) slash (place size (Arrow ∷ text)))) text
    before_code : (start head text : List Sort) (slash : Option ℕ) → ReadsList start head → ReadsHead size slash head (Arrow ∷ Name ∷ text) →
        Begun forms.Items start
        (states.TargetCode (rule_head (place size start) (place size head) slash (place size (Arrow ∷ Name ∷ text))) (place size (Name ∷ text))) text
    before_jump : (start head text : List Sort) (slash : Option ℕ) → ReadsList start head → ReadsHead size slash head (Jump ∷ text) →
        Begun forms.Items start (states.JumpTarget (rule_head (place size start) (place size head) slash (place size (Jump ∷ text)))) text
    format_word : (text : List Sort) → Begun forms.Format (Format ∷ text) (states.TextWord forms.Format) text
    format_value : (text : List Sort) → Begun forms.Format (Format ∷ Equals ∷ text) (states.TextValue forms.Format) text
    format_end : (value : Sort) (text : List Sort) → is_string value ≡ true →
        Begun forms.Format (Format ∷ Equals ∷ value ∷ text) (states.TextEnd forms.Format (place size (value ∷ text))) text
    separator_word : (text : List Sort) → Begun forms.Separator (Separator ∷ text) (states.TextWord forms.Separator) text
    separator_value : (text : List Sort) → Begun forms.Separator (Separator ∷ Equals ∷ text) (states.TextValue forms.Separator) text
    separator_end : (value : Sort) (text : List Sort) → is_string value ≡ true →
        Begun forms.Separator (Separator ∷ Equals ∷ value ∷ text) (states.TextEnd forms.Separator (place size (value ∷ text))) text
