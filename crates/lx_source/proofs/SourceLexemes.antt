-- The tokens of a generated source, with their texts.
use Rattle.std.proofs.Common.{◌≡◌, ℕ, zero, suc, ◌+◌, ◌<◌, ◌≤◌, List, [], ◌∷◌, ◌++◌, length, Some, refl, sym, ap, subst, arith, append_assoc}
use Rattle.std.proofs.lemmas.Bool.{lt-ltb}
use Rattle.std.specs.Fmt.{decimal}
use Rattle.std.specs.Prelude.{codes}
use Rattle.lx_base.specs.Places.{place_after}
use Rattle.lx_base.specs.declared.places.Pos.{Pos}
use Rattle.lx_forms.specs.Lexemes.{Lexeme}
use Rattle.lx_source.proofs.Digits.{after_close-digits, decimal-digits}
use Rattle.lx_source.proofs.ReadLexemes.{HasLexemes, HasLexemes-blank, HasLexemes-end, HasLexemes-token}
use Rattle.lx_source.specs.Sources.{rule_lines_then}
use Rattle.lx_token.specs.Rows.{longest_token}
use Rattle.lx_token.specs.declared.kinds.TokenKind.{TokenKind}
use Rattle.lx_token.specs.declared.kinds.TokenKind.TheVariants.{Bounds, Class, Code, Config, Number, Signs, Str}

abbrev pub lexeme : TokenKind → (text : List ℕ) → (at : Pos) → Lexeme
lexeme kind text at = record { kind = kind; text = text; at = at }

-- the string of a rule
abbrev pub word_text : (number : ℕ) → List ℕ
word_text number = 34 ∷ 119 ∷ (decimal number ++ 120 ∷ 34 ∷ [])

-- the tokens behind the string of a rule
abbrev pub behind_string : (at : Pos) → List Lexeme → List Lexeme
behind_string at lexemes =
    lexeme Bounds (codes "{1,3}") at
    ∷ lexeme Class (codes "[0-9]") (place_after at (codes "{1,3} "))
    ∷ lexeme Signs (codes "+") (place_after at (codes "{1,3} [0-9]"))
    ∷ lexeme Code (codes "{ }") (place_after at (codes "{1,3} [0-9]+ "))
    ∷ lexemes

behind_string-lexemes : (at : Pos) (tail : List ℕ) (lexemes : List Lexeme)
    → HasLexemes (place_after at (codes "{1,3} [0-9]+ { }\n")) tail lexemes
    → HasLexemes at (codes "{1,3} [0-9]+ { }\n" ++ tail) (behind_string at lexemes)
behind_string-lexemes at tail lexemes later =
    HasLexemes-token at (codes "{1,3}") (codes " [0-9]+ { }\n" ++ tail) _ (omega arith)
    (HasLexemes-blank (place_after at (codes "{1,3}")) (codes " ") (codes "[0-9]+ { }\n" ++ tail) _ (omega arith)
    (HasLexemes-token (place_after at (codes "{1,3} ")) (codes "[0-9]") (codes "+ { }\n" ++ tail) _ (omega arith)
    (HasLexemes-token (place_after at (codes "{1,3} [0-9]")) (codes "+") (codes " { }\n" ++ tail) _ (omega arith)
    (HasLexemes-blank (place_after at (codes "{1,3} [0-9]+")) (codes " ") (codes "{ }\n" ++ tail) _ (omega arith)
    (HasLexemes-token (place_after at (codes "{1,3} [0-9]+ ")) (codes "{ }") (codes "\n" ++ tail) _ (omega arith)
    (HasLexemes-blank (place_after at (codes "{1,3} [0-9]+ { }")) (codes "\n") tail lexemes (omega arith) later refl)
    Code refl refl)
    refl)
    Signs refl refl)
    Class refl refl)
    refl)
    Bounds refl refl

-- the places behind the string of a rule and behind its line
abbrev pub behind_word : (number : ℕ) → Pos → Pos
behind_word number at = place_after at (word_text number)

abbrev pub behind_line : (number : ℕ) → Pos → Pos
behind_line number at = place_after (behind_word number at) (codes "{1,3} [0-9]+ { }\n")

-- the tokens of a rule
abbrev pub rule_lexemes : (number : ℕ) → (at : Pos) → List Lexeme → List Lexeme
rule_lexemes number at lexemes = lexeme Str (word_text number) at ∷ behind_string (behind_word number at) lexemes

-- the tokens of so many rules, numbered from this one on, and those behind them
abbrev pub lines_lexemes : (number count : ℕ) → (at : Pos) → (tail : Pos → List Lexeme) → List Lexeme
lines_lexemes number zero at tail = tail at
lines_lexemes number (suc count) at tail = rule_lexemes number at (lines_lexemes (suc number) count (behind_line number at) tail)

word-apart : (number : ℕ) (tail : List ℕ) → codes "\"w" ++ (decimal number ++ (codes "x\"" ++ tail)) ≡ word_text number ++ tail
word-apart number tail = ap (λ (l : List ℕ). 34 ∷ 119 ∷ l) (sym (append_assoc (decimal number) (codes "x\"") tail))

longest-word : (number : ℕ) (tail : List ℕ) → number < 1000 → longest_token (word_text number ++ tail) ≡ Some (Str, tail)
longest-word number tail less =
    rw (
      append_assoc (decimal number) (codes "x\"") tail,
      after_close-digits (decimal number) (codes "x\"" ++ tail) (decimal-digits number less),
    ) refl

rule-lexemes : (number : ℕ) (at : Pos) (tail : List ℕ) (lexemes : List Lexeme) → number < 1000 → HasLexemes (behind_line number at) tail lexemes
    → HasLexemes at (codes "\"w" ++ (decimal number ++ (codes "x\"{1,3} [0-9]+ { }\n" ++ tail))) (rule_lexemes number at lexemes)
rule-lexemes number at tail lexemes less later =
    subst (λ (l : List ℕ). HasLexemes at l (rule_lexemes number at lexemes)) (sym (word-apart number (codes "{1,3} [0-9]+ { }\n" ++ tail)))
    (HasLexemes-token at (word_text number) (codes "{1,3} [0-9]+ { }\n" ++ tail) (behind_string (behind_word number at) lexemes) (omega arith)
    (behind_string-lexemes (behind_word number at) tail lexemes later) Str refl (longest-word number (codes "{1,3} [0-9]+ { }\n" ++ tail) less))

lines-lexemes : (number count : ℕ) (at : Pos) (text : List ℕ) (tail : Pos → List Lexeme) → number + count ≤ 1000
    → ((at : Pos) → HasLexemes at text (tail at)) → HasLexemes at (rule_lines_then number count text) (lines_lexemes number count at tail)
lines-lexemes number zero at text tail few has = has at
lines-lexemes number (suc count) at text tail few has =
    rule-lexemes number at (rule_lines_then (suc number) count text) (lines_lexemes (suc number) count (behind_line number at) tail) (omega arith)
    (lines-lexemes (suc number) count (behind_line number at) text tail (omega arith) has)

-- the tokens of the last rule
abbrev pub last_lexemes : (at : Pos) → List Lexeme
last_lexemes at = lexeme Signs (codes "*") at ∷ lexeme Code (codes "{ }") (place_after at (codes "* ")) ∷ []

last-lexemes : (at : Pos) → HasLexemes at (codes "* { }\n") (last_lexemes at)
last-lexemes at =
    HasLexemes-token at (codes "*") (codes " { }\n") _ (omega arith)
    (HasLexemes-blank (place_after at (codes "*")) (codes " ") (codes "{ }\n") _ (omega arith)
    (HasLexemes-token (place_after at (codes "* ")) (codes "{ }") (codes "\n") _ (omega arith)
    (HasLexemes-blank (place_after at (codes "* { }")) (codes "\n") [] _ (omega arith)
    (HasLexemes-end (place_after at (codes "* { }\n")))
    refl) Code refl refl) refl) Signs refl refl

-- the body of the block of a source
abbrev pub source_body : (rules : ℕ) → List ℕ
source_body rules = codes "\nre2c:yyfill:enable = 0;\n" ++ rule_lines_then 1 rules (codes "* { }\n")

-- the tokens of the configuration, and those behind it
abbrev pub configured : (at : Pos) → List Lexeme → List Lexeme
configured at lexemes =
    lexeme Config (codes "re2c:yyfill:enable") (place_after at (codes "\n"))
    ∷ lexeme Signs (codes "=") (place_after at (codes "\nre2c:yyfill:enable "))
    ∷ lexeme Number (codes "0") (place_after at (codes "\nre2c:yyfill:enable = "))
    ∷ lexeme Signs (codes ";") (place_after at (codes "\nre2c:yyfill:enable = 0"))
    ∷ lexemes

longest-config : (tail : List ℕ) → longest_token (codes "re2c:yyfill:enable" ++ (codes " = 0;\n" ++ tail))
    ≡ Some (Config, codes " = 0;\n" ++ tail)
longest-config tail = rw (lt-ltb (length (codes " = 0;\n" ++ tail)) (length (codes ":yyfill:enable = 0;\n" ++ tail)) (omega arith)) refl

configured-lexemes : (at : Pos) (tail : List ℕ) (lexemes : List Lexeme)
    → HasLexemes (place_after at (codes "\nre2c:yyfill:enable = 0;\n")) tail lexemes
    → HasLexemes at (codes "\nre2c:yyfill:enable = 0;\n" ++ tail) (configured at lexemes)
configured-lexemes at tail lexemes later =
    HasLexemes-blank at (codes "\n") (codes "re2c:yyfill:enable = 0;\n" ++ tail) _ (omega arith)
    (HasLexemes-token (place_after at (codes "\n")) (codes "re2c:yyfill:enable") (codes " = 0;\n" ++ tail) _ (omega arith)
    (HasLexemes-blank (place_after at (codes "\nre2c:yyfill:enable")) (codes " ") (codes "= 0;\n" ++ tail) _ (omega arith)
    (HasLexemes-token (place_after at (codes "\nre2c:yyfill:enable ")) (codes "=") (codes " 0;\n" ++ tail) _ (omega arith)
    (HasLexemes-blank (place_after at (codes "\nre2c:yyfill:enable =")) (codes " ") (codes "0;\n" ++ tail) _ (omega arith)
    (HasLexemes-token (place_after at (codes "\nre2c:yyfill:enable = ")) (codes "0") (codes ";\n" ++ tail) _ (omega arith)
    (HasLexemes-token (place_after at (codes "\nre2c:yyfill:enable = 0")) (codes ";") (codes "\n" ++ tail) _ (omega arith)
    (HasLexemes-blank (place_after at (codes "\nre2c:yyfill:enable = 0;")) (codes "\n") tail lexemes (omega arith) later refl)
    Signs refl refl) Number refl refl) refl) Signs refl refl) refl)
    Config refl (longest-config tail)) refl

abbrev pub source_lexemes : (rules : ℕ) → (start : Pos) → List Lexeme
source_lexemes rules start =
    configured start (lines_lexemes 1 rules (place_after start (codes "\nre2c:yyfill:enable = 0;\n")) last_lexemes)

pub source-lexemes : (rules : ℕ) (start : Pos) → rules < 1000 → HasLexemes start (source_body rules) (source_lexemes rules start)
source-lexemes rules start few =
    let at = place_after start (codes "\nre2c:yyfill:enable = 0;\n") in
    configured-lexemes start (rule_lines_then 1 rules (codes "* { }\n")) (lines_lexemes 1 rules at last_lexemes)
    (lines-lexemes 1 rules at (codes "* { }\n") last_lexemes (omega arith) last-lexemes)
