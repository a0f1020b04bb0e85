-- Expressions as they are written.
use Rattle.std.specs.Prelude.{◌≡◌, true, List, ◌∷◌}
use Rattle.lx_parse.specs.declared.sorts.Sort.TheVariants.{Bar, Backslash, Open, Close}
use Rattle.lx_parse.specs.Sorts.{is_atom, is_postfix}
use Rattle.lx_parse.specs.Expressions.{Part, alt, diff, cat, post, atom}
use Rattle.lx_forms.specs.Lexemes.{Lexeme, sort_at}

-- A leaf is a string, a class, `.`, a name or a tag. The other forms have their signs with them, for the places.
pub data Form : Type 0 where
  leaf : (lexeme : Lexeme) → Form
  group : (opening : Lexeme) (inner : Form) → Form
  repeated : (inner : Form) (sign : Lexeme) → Form
  sequence : (front back : Form) → Form
  difference : (left : Form) (sign : Lexeme) (right : Form) → Form
  alternative : (left : Form) (sign : Lexeme) (right : Form) → Form

-- the lexemes from the front of the first list up to the second one are this form, which is such a part of the grammar
pub data IsForm : Part → List Lexeme → List Lexeme → Form → Type 0 where
  is_leaf : (lexeme : Lexeme) (rest : List Lexeme) → is_atom (sort_at lexeme) ≡ true → IsForm atom (lexeme ∷ rest) rest (leaf lexeme)
  is_group : (opening closing : Lexeme) (text rest : List Lexeme) (inner : Form) → sort_at opening ≡ Open → sort_at closing ≡ Close
      → IsForm alt text (closing ∷ rest) inner → IsForm atom (opening ∷ text) rest (group opening inner)
  is_bare : (text rest : List Lexeme) (form : Form) → IsForm atom text rest form → IsForm post text rest form
  is_repeated : (text rest : List Lexeme) (sign : Lexeme) (inner : Form) → IsForm post text (sign ∷ rest) inner
      → is_postfix (sort_at sign) ≡ true → IsForm post text rest (repeated inner sign)
  is_first_post : (text rest : List Lexeme) (form : Form) → IsForm post text rest form → IsForm cat text rest form
  is_sequence : (text middle rest : List Lexeme) (front back : Form) → IsForm cat text middle front → IsForm post middle rest back
      → IsForm cat text rest (sequence front back)
  is_first_cat : (text rest : List Lexeme) (form : Form) → IsForm cat text rest form → IsForm diff text rest form
  is_difference : (text middle rest : List Lexeme) (sign : Lexeme) (left right : Form) → sort_at sign ≡ Backslash
      → IsForm diff text (sign ∷ middle) left → IsForm cat middle rest right → IsForm diff text rest (difference left sign right)
  is_first_diff : (text rest : List Lexeme) (form : Form) → IsForm diff text rest form → IsForm alt text rest form
  is_alternative : (text middle rest : List Lexeme) (sign : Lexeme) (left right : Form) → sort_at sign ≡ Bar
      → IsForm alt text (sign ∷ middle) left → IsForm diff middle rest right → IsForm alt text rest (alternative left sign right)
