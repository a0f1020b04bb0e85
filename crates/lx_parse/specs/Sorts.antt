-- The sorts of tokens that the grammar tells apart.
use Rattle.std.specs.Prelude.{ℕ, Bool, true, false, List, [], ◌∷◌, codes, drop, take, ◌-◌, ◌==◌, if◌then◌else◌}
use Rattle.std.specs.Str.{bytes_eq}
use Rattle.lx_base.specs.Letters.{begins_with}
use Rattle.lx_base.specs.declared.blocks.BlockKind.{BlockKind}
use Rattle.lx_base.specs.declared.blocks.BlockKind.TheVariants as block
use Rattle.lx_token.specs.declared.kinds.TokenKind.{TokenKind}
use Rattle.lx_token.specs.declared.kinds.TokenKind.TheVariants as kind
use Rattle.lx_token.specs.declared.list.Token.{Token}
use Rattle.lx_parse.specs.declared.sorts.Sort.{Sort}
use Rattle.lx_parse.specs.declared.sorts.Sort.TheVariants.{Name, Format, Separator, Config, Number, Str, IStr, Class, STag, MTag, Bounds, Code, Equals, Semicolon, Bar, Backslash, Slash, Open, Close, Star, Plus, Question, Dot, Dollar, Less, Greater, Comma, Arrow, Jump}

-- the sign of one letter
abbrev pub letter_sort : ℕ → Sort
letter_sort letter =
    if letter == 61 then Equals else (if letter == 59 then Semicolon else (if letter == 124 then Bar
    else (if letter == 92 then Backslash else (if letter == 47 then Slash else (if letter == 40 then Open
    else (if letter == 41 then Close else (if letter == 42 then Star else (if letter == 43 then Plus
    else (if letter == 63 then Question else (if letter == 46 then Dot else (if letter == 36 then Dollar
    else (if letter == 60 then Less else (if letter == 62 then Greater else Comma)))))))))))))

-- the sign with this text
abbrev pub sign_of : List ℕ → Sort
sign_of [] = Comma
sign_of (letter ∷ text) =
    if begins_with (codes ":=>") (letter ∷ text) then Jump
    else (if begins_with (codes "=>") (letter ∷ text) then Arrow else letter_sort letter)

-- the sort of a token of this kind and text
abbrev pub sort_of : TokenKind → List ℕ → Sort
sort_of kind.Name text = Name
sort_of kind.Config text = Config
sort_of kind.Number text = Number
sort_of kind.Str text = Str
sort_of kind.IStr text = IStr
sort_of kind.Class text = Class
sort_of kind.STag text = STag
sort_of kind.MTag text = MTag
sort_of kind.Bounds text = Bounds
sort_of kind.Code text = Code
sort_of kind.Signs text = sign_of text

-- the sort of a name in a directive
abbrev pub word_of : List ℕ → Sort
word_of text =
    if bytes_eq text (codes "format") then Format else (if bytes_eq text (codes "separator") then Separator else Name)

-- the sort of a token in a directive that has a format
abbrev pub directive_sort : TokenKind → List ℕ → Sort
directive_sort kind.Name text = word_of text
directive_sort kind text = sort_of kind text

-- the sort of a token in a block
abbrev pub sort_in : BlockKind → TokenKind → List ℕ → Sort
sort_in block.Stags kind text = directive_sort kind text
sort_in block.Mtags kind text = directive_sort kind text
sort_in block kind text = sort_of kind text

-- the sorts of the tokens of a body
abbrev pub sorts_of : BlockKind → (body : List ℕ) → List Token → List Sort
sorts_of block body [] = []
sorts_of block body (token ∷ tokens) =
    sort_in block token.kind (take (token.to - token.from) (drop token.from body)) ∷ sorts_of block body tokens

-- a sort that is an atom of an expression by itself
abbrev pub is_atom : Sort → Bool
is_atom Str = true
is_atom IStr = true
is_atom Class = true
is_atom Dot = true
is_atom Name = true
is_atom STag = true
is_atom MTag = true
is_atom sort = false

-- a sort that repeats what stands before it
abbrev pub is_postfix : Sort → Bool
is_postfix Star = true
is_postfix Plus = true
is_postfix Question = true
is_postfix Bounds = true
is_postfix sort = false

-- a string
abbrev pub is_string : Sort → Bool
is_string Str = true
is_string IStr = true
is_string sort = false

-- a sort that can be the value of a configuration
abbrev pub is_value : Sort → Bool
is_value Number = true
is_value Name = true
is_value sort = is_string sort
