-- Tokens stand in the file in which their body begins.
use Rattle.std.proofs.Common.{◌≡◌, ℕ, zero, suc, ◌+◌, ◌<◌, ◌∙◌, arith, Bool, true, false, List, [], ◌∷◌, length, take, drop, Ok, refl, ap}
use Rattle.std.specs.Prelude.{◌==◌, if◌then◌else◌}
use Rattle.lx_base.specs.declared.places.Pos.{Pos}
use Rattle.lx_base.specs.Places.{next_place, place_after}
use Rattle.lx_token.specs.Spans.{EachStands}
use Rattle.lx_token.specs.Tokens.{tokens_of}
use Rattle.lx_token.specs.declared.list.Token.{Token}
use Rattle.lx_token.proofs.Walk.{tokens_stand}
use Rattle.lx_forms.specs.Lexemes.{Lexeme, StandInFile, lexemes_of, nth_lexeme}

next_place-file : (at : Pos) (letter : ℕ) → (next_place at letter).file ≡ at.file
next_place-file at letter = by (letter == 10)
  where
    by : (ends : Bool) → (if◌then◌else◌ {A = Pos} ends (record { file = at.file; line = at.line + 1; col = 1 }) (record { file = at.file; line = at.line; col = at.col + 1 })).file ≡ at.file
    by true = refl
    by false = refl

-- a place behind a text is one of the same file
pub place_after-file : (at : Pos) (text : List ℕ) → (place_after at text).file ≡ at.file
place_after-file at [] = refl
place_after-file at (letter ∷ text) = place_after-file (next_place at letter) text ∙ next_place-file at letter

each-file : (body : List ℕ) (start : Pos) (tokens : List Token) → EachStands body start tokens → StandInFile start.file (lexemes_of body tokens)
each-file body start [] stand = tt
each-file body start (token ∷ tokens) stand =
    (ap (λ (p : Pos). p.file) stand.0.place ∙ place_after-file start (take token.from body), each-file body start tokens stand.1)

pub tokens_of-file : (body : List ℕ) (start : Pos) (tokens : List Token) → tokens_of body start ≡ Ok tokens
    → StandInFile start.file (lexemes_of body tokens)
tokens_of-file body start tokens are = each-file body start tokens (tokens_stand body start tokens are).each_stands

module _ (file : ℕ) where
  pub nth_lexeme-file : (lexemes : List Lexeme) (place : ℕ) → StandInFile file lexemes → place < length lexemes
      → (nth_lexeme lexemes place).at.file ≡ file
  nth_lexeme-file [] place are lt = absurd (omega arith)
  nth_lexeme-file (lexeme ∷ lexemes) zero are lt = are.0
  nth_lexeme-file (lexeme ∷ lexemes) (suc place) are lt = nth_lexeme-file lexemes place are.1 (omega arith)

  pub drop-file : (lexemes : List Lexeme) (count : ℕ) → StandInFile file lexemes → StandInFile file (drop count lexemes)
  drop-file [] zero are = are
  drop-file [] (suc count) are = are
  drop-file (lexeme ∷ lexemes) zero are = are
  drop-file (lexeme ∷ lexemes) (suc count) are = drop-file lexemes count are.1
