-- The tokens of a block with their texts.
use Rattle.std.specs.Prelude.{◌≡◌, ℕ, ◌-◌, List, [], map, take, drop, slice_index_or}
use Rattle.std.specs.List.{AllByRecursion}
use Rattle.lx_base.specs.declared.places.Pos.{Pos}
use Rattle.lx_token.specs.declared.kinds.TokenKind.{TokenKind}
use Rattle.lx_token.specs.declared.kinds.TokenKind.TheVariants.{Signs}
use Rattle.lx_token.specs.declared.list.Token.{Token}
use Rattle.lx_token.specs.Characters.{characters_of}
use Rattle.lx_token.specs.declared.characters.Character.{Character}
use Rattle.lx_parse.specs.declared.sorts.Sort.{Sort}
use Rattle.lx_parse.specs.Sorts.{sort_of}

-- a token with its text
pub record Lexeme : Type 0 where
  pub kind : TokenKind
  pub text : List ℕ
  pub at : Pos

-- a token of a body with its text
abbrev pub lexeme_of : (body : List ℕ) → Token → Lexeme
lexeme_of body token = record { kind = token.kind; text = take (token.to - token.from) (drop token.from body); at = token.at }

abbrev pub lexemes_of : (body : List ℕ) → List Token → List Lexeme
lexemes_of body tokens = map (lexeme_of body) tokens

-- the tokens stand in this file
abbrev pub StandInFile : (file : ℕ) → List Lexeme → Type 0
StandInFile file lexemes = AllByRecursion (λ (lexeme : Lexeme). lexeme.at.file ≡ file) lexemes

-- the terminal of the grammar that it is
abbrev pub sort_at : Lexeme → Sort
sort_at lexeme = sort_of lexeme.kind lexeme.text

abbrev pub sorts_at : List Lexeme → List Sort
sorts_at lexemes = map sort_at lexemes

-- the code points of a string
abbrev pub points_in : Lexeme → List ℕ
points_in lexeme = map (λ (character : Character). character.point) (characters_of lexeme.text)

-- the lexeme at a place of the list; behind the last one stands one without a text
abbrev pub nth_lexeme : List Lexeme → ℕ → Lexeme
nth_lexeme lexemes place =
    slice_index_or lexemes place (record { kind = Signs; text = []; at = record { file = 0; line = 0; col = 0 } })
