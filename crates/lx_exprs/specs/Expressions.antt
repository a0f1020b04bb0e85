-- Expressions that stand in a range of tokens, and what is read of them.
use Rattle.std.specs.Prelude.{◌≡◌, ℕ, suc, false, List, [], ◌∷◌, ◌++◌, drop, None}
use Rattle.lx_base.specs.declared.settings.Options.{Options}
use Rattle.lx_forms.specs.Lexemes.{Lexeme}
use Rattle.lx_exprs.specs.Defined.{Before, Definition, Meaning, and_more, count_of, nothing, slash_tag}
use Rattle.lx_exprs.specs.Checks.{Checks}
use Rattle.lx_forms.specs.Forms.{Form}
use Rattle.lx_exprs.specs.Meanings.{IsMeaning}
use Rattle.lx_regex.specs.declared.rules.Tag.{Tag}
use Rattle.lx_exprs.specs.declared.expressions.Reading.{Reading}
use Rattle.lx_exprs.specs.declared.values.Room.{Room}
use Rattle.lx_exprs.specs.Values.{IsValue}
use Rattle.lx_parse.specs.Expressions.{alt}
use Rattle.lx_forms.specs.Forms.{IsForm}
use Rattle.lx_exprs.specs.Checks.{Check, Then, tags_of}

module _ (options : Options) (lexemes : List Lexeme) where
  -- the expression that stands from one place up to another
  abbrev pub IsExpression : (from until : ℕ) → Form → Type 0
  IsExpression from until form = IsForm alt (drop from lexemes) (drop until lexemes) form

  -- the checks of that expression, behind tags that were seen before, or none
  abbrev pub ChecksBehind : List Definition → (seen : List Tag) → (from until : ℕ) → Check
  ChecksBehind definitions seen from until fault =
      (form : Form) × IsExpression from until form × Checks options definitions false seen form fault

  abbrev pub ExpressionChecks : List Definition → (from until : ℕ) → Check
  ExpressionChecks definitions from until fault = ChecksBehind definitions [] from until fault

  -- the checks of an expression with a trailing context, in which no tag stands twice; the slash is a tag without a name
  abbrev pub ContextChecks : List Definition → (from slash until : ℕ) → Check
  ContextChecks definitions from slash until fault =
      (form behind : Form) × IsExpression from slash form × IsExpression (suc slash) until behind
      × Then (Checks options definitions false [] form)
      (Checks options definitions false (tags_of options definitions form ++ slash_tag ∷ []) behind) fault

-- what is read stands for a meaning, whose item has no tags and groups but its own
pub record IsReadAs (room : Room) (meaning : Meaning) (reading : Reading) : Type 0 where
  pub value : IsValue room meaning reading.value
  pub tags : reading.tags ≡ meaning.tags
  pub count : meaning.count ≡ count_of (record { tags = meaning.tags; groups = meaning.groups })

-- what is read behind others stands for a meaning, with all tags and groups up to its end
pub record IsReadAsBehind (room : Room) (before : Before) (meaning : Meaning) (reading : Reading) : Type 0 where
  pub value : IsValue room meaning reading.value
  pub tags : reading.tags ≡ before.tags ++ meaning.tags
  pub count : meaning.count ≡ count_of (and_more before meaning.tags meaning.groups)

-- an expression is read behind others: its checks find nothing, and what is read stands for its meaning
pub record IsReadBehind (options : Options) (lexemes : List Lexeme) (definitions : List Definition) (room : Room) (before : Before) (from until : ℕ) (reading : Reading) : Type 0 where
  pub form : Form
  pub stands_there : IsExpression options lexemes from until form
  pub checked : Checks options definitions false before.tags form None
  pub meaning : Meaning
  pub means : IsMeaning options definitions false before form meaning
  pub stands : IsReadAsBehind room before meaning reading

-- an expression is read: its checks find nothing, and what is read stands for its meaning
pub record IsRead (options : Options) (lexemes : List Lexeme) (definitions : List Definition) (room : Room) (from until : ℕ) (reading : Reading) : Type 0 where
  pub form : Form
  pub stands_there : IsExpression options lexemes from until form
  pub checked : Checks options definitions false [] form None
  pub meaning : Meaning
  pub means : IsMeaning options definitions false nothing form meaning
  pub stands : IsReadAs room meaning reading
