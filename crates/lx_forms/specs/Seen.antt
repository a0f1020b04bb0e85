-- What the definitions see of the code's tokens.
use Rattle.std.specs.Prelude.{List}
use Rattle.lx_forms.specs.declared.lexemes.Lexeme.{Lexeme as Held}
use Rattle.lx_forms.specs.declared.lexemes.Lexemes.{Lexemes}
use Rattle.lx_forms.specs.Lexemes.{Lexeme, lexemes_of}

-- a token with its text
abbrev pub lexeme_view : Held → Lexeme
lexeme_view held = record { kind = held.kind; text = held.text.now; at = held.at }

-- the tokens of a block
abbrev pub lexemes_view : Lexemes → List Lexeme
lexemes_view lexemes = lexemes_of lexemes.body.now lexemes.tokens.now
