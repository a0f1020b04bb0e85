-- Directives: what each asks for.
use Rattle.std.specs.Prelude.{ℕ, Bool, true, false, List, [], ◌∷◌, Option, Some, None}
use Rattle.lx_base.specs.declared.blocks.BlockKind.{BlockKind}
use Rattle.lx_base.specs.declared.blocks.BlockKind.TheVariants as block
use Rattle.lx_ccode.specs.declared.bodies.Format.{Format}
use Rattle.lx_forms.specs.Lexemes.{Lexeme, nth_lexeme, points_in}
use Rattle.lx_parse.specs.declared.items.Item.{Item}
use Rattle.lx_parse.specs.declared.items.Item.TheVariants.{Text}
use Rattle.lx_rules.specs.Seen.{bytes_of_points}
use Rattle.lx_compile.specs.declared.parts.Directive.{Directive}
use Rattle.lx_compile.specs.declared.parts.Directive.TheVariants.{Nothing, Max, MaxNmatch, Stags, Mtags, Types, GetState}

-- a block of this kind is a directive
abbrev pub is_directive : BlockKind → Bool
is_directive block.Max = true
is_directive block.MaxNmatch = true
is_directive block.Stags = true
is_directive block.Mtags = true
is_directive block.Types = true
is_directive block.GetState = true
is_directive kind = false

-- the bytes of a string, if each of its characters is one
abbrev pub string_bytes : Lexeme → Option (List ℕ)
string_bytes value = bytes_of_points (points_in value)

-- the strings that items give
abbrev pub strings_of : List Lexeme → List Item → List (Option (List ℕ))
strings_of lexemes [] = []
strings_of lexemes (Text value ∷ items) = string_bytes (nth_lexeme lexemes value) ∷ strings_of lexemes items
strings_of lexemes (item ∷ items) = strings_of lexemes items

-- the format of a list and its separator, which may be left out, if the characters of both are bytes
abbrev pub format_of : List (Option (List ℕ)) → Option Format
format_of (Some format ∷ []) = Some (record { format = format; separator = [] })
format_of (Some format ∷ Some separator ∷ []) = Some (record { format = format; separator = separator })
format_of strings = None

-- what the directive of a kind asks for
abbrev pub directive_of : BlockKind → (strings : List (Option (List ℕ))) → Directive
directive_of block.Max strings = Max
directive_of block.MaxNmatch strings = MaxNmatch
directive_of block.Stags strings = Stags (format_of strings)
directive_of block.Mtags strings = Mtags (format_of strings)
directive_of block.Types strings = Types
directive_of block.GetState strings = GetState
directive_of kind strings = Nothing
