-- The tags of an expression have names: each is that of a token, or one of a definition.
use Rattle.std.proofs.Common.{◌≡◌, ◌≢◌, ℕ, zero, suc, ◌+◌, ◌-◌, ◌<◌, Bool, true, false, List, [], ◌∷◌, ◌++◌, length, take, drop, None, Some, Ok, sym, subst, arith}
use Rattle.std.specs.Prelude.{◌==◌, if◌then◌else◌}
use Rattle.std.specs.List.{AllByRecursion}
use Rattle.std.specs.Str.{bytes_eq}
use Rattle.std.proofs.lemmas.List.{length-drop}
use Rattle.lx_base.specs.Letters.{IsIdentifier}
use Rattle.lx_base.specs.declared.places.Pos.{Pos}
use Rattle.lx_base.specs.declared.settings.Options.{Options}
use Rattle.lx_parse.specs.Expressions.{Part}
use Rattle.lx_regex.specs.declared.rules.Tag.{Tag}
use Rattle.lx_token.specs.Rows.{after_token}
use Rattle.lx_token.specs.Spans.{AreInOrder, EachStands}
use Rattle.lx_token.specs.Tokens.{tokens_of}
use Rattle.lx_token.specs.Words.{after_name, after_tag}
use Rattle.lx_token.specs.declared.kinds.TokenKind.{TokenKind}
use Rattle.lx_token.specs.declared.kinds.TokenKind.TheVariants as kind
use Rattle.lx_token.specs.declared.list.Token.{Token}
use Rattle.lx_token.proofs.Walk.{tokens_stand}
use Rattle.lx_forms.specs.Forms.{Form, IsForm, alternative, difference, group, is_alternative, is_bare, is_difference, is_first_cat, is_first_diff, is_first_post, is_group, is_leaf, is_repeated, is_sequence, leaf, repeated, sequence}
use Rattle.lx_forms.specs.Lexemes.{Lexeme, lexemes_of}
use Rattle.lx_exprs.specs.Checks.{are_groups, inner_operand}
use Rattle.lx_exprs.specs.Defined.{Before, Definition, Meaning, definition_of}
use Rattle.lx_exprs.specs.Expressions.{IsExpression}
use Rattle.lx_exprs.specs.Meanings.{IsLeafMeaning, IsMeaning, in_parentheses, parenthesized, past}
use Rattle.lx_rules.proofs.Rules.RuleNumbers.{all_both, all_drop}
use Rattle.lx_rules.proofs.Spellings.TokenTexts.{name_front}

-- each of the tags has a name
abbrev pub AreNamed : List Tag → Type 0
AreNamed tags = AllByRecursion (λ (tag : Tag). tag.name ≢ []) tags

-- ---- tokens

-- a tag has a name behind its mark
abbrev HasName : TokenKind → List ℕ → Type 0
HasName kind.STag text = drop 1 text ≢ []
HasName kind.MTag text = drop 1 text ≢ []
HasName kind text = Unit {0}

abbrev pub IsMarked : Lexeme → Type 0
IsMarked lexeme = HasName lexeme.kind lexeme.text

tag_front : (mark : ℕ) (text rest : List ℕ) (count : ℕ) → after_tag mark text ≡ Some rest → count + length rest ≡ length text → 0 < count
    → drop 1 (take count text) ≢ []
tag_front mark [] rest count is all some = absurd (let h : None ≡ Some rest = is in cc)
tag_front mark (letter ∷ text) rest zero is all some = absurd (omega (arith, some))
tag_front mark (letter ∷ text) rest (suc count) is all some = at (letter == mark) is
  where
    at : (b : Bool) → (if b then after_name text else None) ≡ Some rest → take count text ≢ []
    at true found = λ none. subst IsIdentifier none (name_front text rest count found (omega (arith, all)))
    at false found = absurd (let h : None ≡ Some rest = found in cc)

name_of : (k : TokenKind) (text rest : List ℕ) (count : ℕ) → after_token k text ≡ Some rest → count + length rest ≡ length text → 0 < count
    → HasName k (take count text)
name_of kind.Name text rest count is all some = tt
name_of kind.Config text rest count is all some = tt
name_of kind.Number text rest count is all some = tt
name_of kind.Str text rest count is all some = tt
name_of kind.IStr text rest count is all some = tt
name_of kind.Class text rest count is all some = tt
name_of kind.STag text rest count is all some = tag_front 64 text rest count is all some
name_of kind.MTag text rest count is all some = tag_front 35 text rest count is all some
name_of kind.Bounds text rest count is all some = tt
name_of kind.Code text rest count is all some = tt
name_of kind.Signs text rest count is all some = tt

marks_stand : (body : List ℕ) (start : Pos) (from : ℕ) (tokens : List Token) → AreInOrder from (length body) tokens → EachStands body start tokens
    → AllByRecursion IsMarked (lexemes_of body tokens)
marks_stand body start from [] order stands = tt
marks_stand body start from (token ∷ tokens) order stands =
    let some = order.1 in let most = order.2 in
    let before = length-drop token.from body in let behind = length-drop token.to body in (
      name_of token.kind (drop token.from body) (drop token.to body) (token.to - token.from) stands.0.text
          (omega (arith, some, most, before, behind)) (omega (arith, some)),
      marks_stand body start token.to tokens order.3 stands.1,
    )

-- each tag among the tokens of a body has a name
pub tokens_of-marked : (body : List ℕ) (start : Pos) (tokens : List Token) → tokens_of body start ≡ Ok tokens → AllByRecursion IsMarked (lexemes_of body tokens)
tokens_of-marked body start tokens are =
    let stand = tokens_stand body start tokens are in marks_stand body start 0 tokens stand.in_order stand.each_stands

-- ---- forms

-- what holds of the leaves of a form
module _ (P : Lexeme → Type 0) where
  abbrev HasLeaves : Form → Type 0
  HasLeaves (leaf lexeme) = P lexeme
  HasLeaves (group opening inner) = HasLeaves inner
  HasLeaves (repeated inner sign) = HasLeaves inner
  HasLeaves (sequence front back) = HasLeaves front × HasLeaves back
  HasLeaves (difference left sign right) = HasLeaves left × HasLeaves right
  HasLeaves (alternative left sign right) = HasLeaves left × HasLeaves right

  -- the leaves of a form are lexemes of the text
  form_leaves : {part : Part} {text rest : List Lexeme} {form : Form} → IsForm part text rest form → AllByRecursion P text
      → HasLeaves form × AllByRecursion P rest
  form_leaves (is_leaf lexeme rest atom) all = (all.0, all.1)
  form_leaves (is_group opening closing text rest inner opens closes is) all = let found = form_leaves is all.1 in (found.0, found.1.1)
  form_leaves (is_bare text rest form is) all = form_leaves is all
  form_leaves (is_repeated text rest sign inner is postfix) all = let found = form_leaves is all in (found.0, found.1.1)
  form_leaves (is_first_post text rest form is) all = form_leaves is all
  form_leaves (is_sequence text middle rest front back is other) all =
      let found = form_leaves is all in let more = form_leaves other found.1 in ((found.0, more.0), more.1)
  form_leaves (is_first_cat text rest form is) all = form_leaves is all
  form_leaves (is_difference text middle rest sign left right signs is other) all =
      let found = form_leaves is all in let more = form_leaves other found.1.1 in ((found.0, more.0), more.1)
  form_leaves (is_first_diff text rest form is) all = form_leaves is all
  form_leaves (is_alternative text middle rest sign left right signs is other) all =
      let found = form_leaves is all in let more = form_leaves other found.1.1 in ((found.0, more.0), more.1)

-- ---- meanings

-- the tags of the definition of a name are named where those of all definitions are
definition_named : (definitions : List Definition) (name : List ℕ) (definition : Definition)
    → AllByRecursion (λ (one : Definition). AreNamed one.tags) definitions → definition_of definitions name ≡ Some definition → AreNamed definition.tags
definition_named [] name definition are found = absurd (let h : None ≡ Some definition = found in cc)
definition_named (first ∷ definitions) name definition are found =
    at (bytes_eq name first.name) found (definition_named definitions name definition are.1)
  where
    at : (b : Bool) → (if b then Some first else definition_of definitions name) ≡ Some definition
        → (definition_of definitions name ≡ Some definition → AreNamed definition.tags) → AreNamed definition.tags
    at true is later = let same : first ≡ definition = cc in subst (λ (d : Definition). AreNamed d.tags) same are.0
    at false is later = later is

module _ (options : Options) (definitions : List Definition) (are : AllByRecursion (λ (one : Definition). AreNamed one.tags) definitions) where
  -- a meaning that is this one, whose tags are named
  same_tags : (meaning other : Meaning) → meaning ≡ other → AreNamed other.tags → AreNamed meaning.tags
  same_tags meaning other same named = subst (λ (m : Meaning). AreNamed m.tags) (sym same) named

  both_named : (front back : List Tag) → AreNamed front → AreNamed back → AreNamed (front ++ back)
  both_named front back = all_both (λ (tag : Tag). tag.name ≢ []) front back

  leaf_named : (is_operand : Bool) (k : TokenKind) (before : Before) (lexeme : Lexeme) (meaning : Meaning) → HasName k lexeme.text
      → IsLeafMeaning options definitions is_operand k before lexeme meaning → AreNamed meaning.tags
  leaf_named is_operand kind.Str before lexeme meaning marked is = same_tags meaning _ is tt
  leaf_named is_operand kind.IStr before lexeme meaning marked is = same_tags meaning _ is tt
  leaf_named is_operand kind.Class before lexeme meaning marked is = same_tags meaning _ is.2 tt
  leaf_named is_operand kind.Signs before lexeme meaning marked is = same_tags meaning _ is.2 tt
  leaf_named is_operand kind.Name before lexeme meaning marked is =
      same_tags meaning _ is.2 (definition_named definitions lexeme.text is.0 are is.1)
  leaf_named is_operand kind.STag before lexeme meaning marked is = same_tags meaning _ is (marked, tt)
  leaf_named is_operand kind.MTag before lexeme meaning marked is = same_tags meaning _ is (marked, tt)
  leaf_named is_operand kind.Config before lexeme meaning marked is = absurd is
  leaf_named is_operand kind.Number before lexeme meaning marked is = absurd is
  leaf_named is_operand kind.Bounds before lexeme meaning marked is = absurd is
  leaf_named is_operand kind.Code before lexeme meaning marked is = absurd is

  parentheses_named : (is_group : Bool) (before : Before) (inner : Meaning) → AreNamed inner.tags → AreNamed (parenthesized is_group before inner).tags
  parentheses_named true before inner named = named
  parentheses_named false before inner named = named

  form_named : (is_operand : Bool) (before : Before) (form : Form) (meaning : Meaning) → HasLeaves IsMarked form
      → IsMeaning options definitions is_operand before form meaning → AreNamed meaning.tags
  form_named is_operand before (leaf lexeme) meaning marked is = leaf_named is_operand lexeme.kind before lexeme meaning marked is
  form_named is_operand before (group opening inner) meaning marked is =
      let is_group = are_groups options definitions in
      same_tags meaning _ is.2
      (parentheses_named is_group before is.0
      (form_named (inner_operand options definitions is_operand) (in_parentheses is_group before) inner is.0 marked is.1))
  form_named is_operand before (repeated inner sign) meaning marked is =
      same_tags meaning _ is.2 (form_named false before inner is.0 marked is.1)
  form_named is_operand before (sequence front back) meaning marked is =
      same_tags meaning _ is.4
      (both_named is.0.tags is.1.tags (form_named false before front is.0 marked.0 is.2)
      (form_named false (past options definitions before front) back is.1 marked.1 is.3))
  form_named is_operand before (difference left sign right) meaning marked is =
      same_tags meaning _ is.4.2
      (both_named is.0.tags is.1.tags (form_named true before left is.0 marked.0 is.2)
      (form_named true (past options definitions before left) right is.1 marked.1 is.3))
  form_named is_operand before (alternative left sign right) meaning marked is =
      same_tags meaning _ is.4
      (both_named is.0.tags is.1.tags (form_named is_operand before left is.0 marked.0 is.2)
      (form_named is_operand (past options definitions before left) right is.1 marked.1 is.3))

  -- the tags of an expression among tokens are named
  pub expression_named : (lexemes : List Lexeme) (from until : ℕ) (before : Before) (form : Form) (meaning : Meaning) → AllByRecursion IsMarked lexemes
      → IsExpression options lexemes from until form → IsMeaning options definitions false before form meaning → AreNamed meaning.tags
  expression_named lexemes from until before form meaning marked stands is =
      form_named false before form meaning (form_leaves IsMarked stands (all_drop IsMarked from lexemes marked)).0 is
