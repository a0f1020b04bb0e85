-- The tokens of a text with their texts, from a place of a body on.
use Rattle.std.proofs.Common.{◌≡◌, ◌∙◌, ℕ, ◌+◌, ◌-◌, ◌<◌, List, [], ◌∷◌, ◌++◌, length, take, drop, Some, None, Ok, refl, sym, ap, ap₂, subst, arith, append_assoc, length-append}
use Rattle.std.proofs.lemmas.List.{append-nil}
use Rattle.lx_base.specs.Places.{place_after}
use Rattle.lx_base.specs.declared.places.Pos.{Pos}
use Rattle.lx_forms.specs.Lexemes.{Lexeme, lexeme_of, lexemes_of}
use Rattle.lx_token.proofs.Passing.{HasPassed, HasPassed-blank, HasPassed-end, HasPassed-start, HasPassed-token}
use Rattle.lx_token.specs.Blanks.{after_blank}
use Rattle.lx_token.specs.Rows.{longest_token}
use Rattle.lx_token.specs.Tokens.{place_of_rest, token_at, tokens_of}
use Rattle.lx_token.specs.declared.kinds.TokenKind.{TokenKind}
use Rattle.lx_token.specs.declared.list.Token.{Token}

-- the tokens of a body are some tokens and others behind them, which have these texts
pub record AreReadBehind (body : List ℕ) (start : Pos) (tokens : List Token) (lexemes : List Lexeme) : Type 0 where
  pub more : List Token
  pub tokens_are : tokens_of body start ≡ Ok (tokens ++ more)
  pub lexemes_are : lexemes_of body more ≡ lexemes

-- a text that begins at a place and ends a body has these tokens
abbrev pub HasLexemes : Pos → (text : List ℕ) → List Lexeme → Type 0
HasLexemes at text lexemes =
    (body front : List ℕ) (start : Pos) (tokens : List Token) → body ≡ front ++ text → HasPassed body start tokens at text
    → AreReadBehind body start tokens lexemes

pub HasLexemes-end : (at : Pos) → HasLexemes at [] []
HasLexemes-end at body front start tokens is passed = record {
  more = [];
  tokens_are = HasPassed-end body start tokens at [] refl passed ∙ ap Ok (sym (append-nil tokens));
  lexemes_are = refl;
}

pub drop-word : {A : Type 0} (word rest : List A) → drop (length word) (word ++ rest) ≡ rest
drop-word [] rest = refl
drop-word (letter ∷ word) rest = drop-word word rest

pub take-word : (word rest : List ℕ) → take (length word) (word ++ rest) ≡ word
take-word [] rest = refl
take-word (letter ∷ word) rest = ap (λ (l : List ℕ). letter ∷ l) (take-word word rest)

behind_word : (at : Pos) (word rest : List ℕ) → place_of_rest at (word ++ rest) rest ≡ place_after at word
behind_word at word rest =
    let size : length (word ++ rest) - length rest ≡ length word = simp length-append (omega arith) in
    ap (λ n. place_after at (take n (word ++ rest))) size ∙ ap (place_after at) (take-word word rest)

module _ (at : Pos) (word rest : List ℕ) (lexemes : List Lexeme) (some : 0 < length word)
    (later : HasLexemes (place_after at word) rest lexemes) where
  shorter : length rest < length (word ++ rest)
  shorter = simp length-append (omega arith)

  pub HasLexemes-blank : after_blank (word ++ rest) ≡ Some rest → HasLexemes at (word ++ rest) lexemes
  HasLexemes-blank blank body front start tokens is passed =
      later body (front ++ word) start tokens (is ∙ sym (append_assoc front word rest))
      (subst (λ (place : Pos). HasPassed body start tokens place rest) (behind_word at word rest)
      (HasPassed-blank body start tokens at (word ++ rest) rest blank shorter passed))

  -- the token at the front of the text
  abbrev token_here : (body : List ℕ) → TokenKind → Token
  token_here body kind = token_at (length body) at (word ++ rest) (kind, rest)

  text_here : (body front : List ℕ) (kind : TokenKind) → body ≡ front ++ (word ++ rest)
      → lexeme_of body (token_here body kind) ≡ record { kind = kind; text = word; at = at }
  text_here body front kind is =
      let size : length body ≡ length front + (length word + length rest) = ap length is ∙ simp length-append in
      let whole : length (word ++ rest) ≡ length word + length rest = length-append word rest in
      let from : length body - length (word ++ rest) ≡ length front = omega arith in
      let to : length body - length rest - (length body - length (word ++ rest)) ≡ length word = omega arith in
      let text : take (length body - length rest - (length body - length (word ++ rest)))
      (drop (length body - length (word ++ rest)) body) ≡ word =
      rw (to, from, is, drop-word front (word ++ rest)) (take-word word rest) in
      ap (λ (l : List ℕ). record { kind = kind; text = l; at = at }) text

  pub HasLexemes-token : (kind : TokenKind) → after_blank (word ++ rest) ≡ None → longest_token (word ++ rest) ≡ Some (kind, rest)
      → HasLexemes at (word ++ rest) (record { kind = kind; text = word; at = at } ∷ lexemes)
  HasLexemes-token kind no_blank longest body front start tokens is passed =
      let behind = later body (front ++ word) start (tokens ++ token_here body kind ∷ []) (is ∙ sym (append_assoc front word rest))
      (subst (λ (place : Pos). HasPassed body start (tokens ++ token_here body kind ∷ []) place rest) (behind_word at word rest)
      (HasPassed-token body start tokens at (word ++ rest) (kind, rest) no_blank longest shorter passed)) in
      record {
        more = token_here body kind ∷ behind.more;
        tokens_are = behind.tokens_are ∙ ap Ok (append_assoc tokens (token_here body kind ∷ []) behind.more);
        lexemes_are = ap₂ (λ (lexeme : Lexeme) (l : List Lexeme). lexeme ∷ l) (text_here body front kind is) behind.lexemes_are;
      }

-- the tokens of a body, if they have these texts
pub record AreRead (body : List ℕ) (start : Pos) (lexemes : List Lexeme) : Type 0 where
  pub tokens : List Token
  pub tokens_are : tokens_of body start ≡ Ok tokens
  pub lexemes_are : lexemes_of body tokens ≡ lexemes

pub HasLexemes-read : (body : List ℕ) (start : Pos) (lexemes : List Lexeme) → HasLexemes start body lexemes → AreRead body start lexemes
HasLexemes-read body start lexemes has =
    let read = has body [] start [] refl (HasPassed-start body start) in
    record { tokens = read.more; tokens_are = read.tokens_are; lexemes_are = read.lexemes_are }
