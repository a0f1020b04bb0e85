-- The expression of a generated rule: its checks, and what it means.
use Rattle.std.proofs.Common.{◌≡◌, ◌∙◌, ℕ, ◌-◌, ◌<◌, ◌≤◌, false, List, [], ◌∷◌, ◌++◌, length, map, take, Option, Some, None, inl, refl, sym, ap, ap₂, arith, append_assoc, length-append}
use Rattle.std.proofs.lemmas.Bool.{lt-leb}
use Rattle.std.proofs.lemmas.List.{length-map}
use Rattle.std.specs.Fmt.{decimal}
use Rattle.std.specs.Option.{option_map, option_or}
use Rattle.std.specs.Prelude.{codes}
use Rattle.lx_base.specs.Places.{place_after}
use Rattle.lx_base.specs.declared.faults.Fault.TheVariants.{CodePoint}
use Rattle.lx_base.specs.declared.places.Pos.{Pos}
use Rattle.lx_base.specs.declared.settings.EmptyPolicy.TheVariants.{MatchEmpty}
use Rattle.lx_base.specs.declared.settings.SurPolicy.TheVariants.{Ignore}
use Rattle.lx_exprs.specs.Checks.{Checks}
use Rattle.lx_exprs.specs.Defined.{Definition, Meaning, nothing, term_of_meaning}
use Rattle.lx_exprs.specs.Meanings.{IsMeaning, behind, all_behind, character_set, class_meaning, followed, repeated_by, set_term, string_meaning, string_term}
use Rattle.lx_exprs.specs.Points.{least_from, points_fault, singles}
use Rattle.lx_forms.specs.Forms.{Form, IsForm, leaf, repeated, sequence, is_leaf, is_bare, is_repeated, is_first_post, is_sequence, is_first_cat, is_first_diff}
use Rattle.lx_forms.specs.Lexemes.{Lexeme, points_in}
use Rattle.lx_parse.specs.Expressions.{alt, post}
use Rattle.lx_regex.specs.Expr.{members_of}
use Rattle.lx_regex.specs.Term.{Term, Terms, cat, class, cons, repeat}
use Rattle.lx_source.proofs.Digits.{AreDigits, decimal-digits, decimal-length, digit-later}
use Rattle.lx_source.proofs.ReadLexemes.{take-word}
use Rattle.lx_source.proofs.SourceLexemes.{lexeme, word_text}
use Rattle.lx_source.specs.GeneratedRules.{letter_term, rule_term, word_letters}
use Rattle.lx_source.specs.Sources.{source_options}
use Rattle.lx_token.specs.Characters.{characters_behind}
use Rattle.lx_token.specs.declared.characters.Character.{Character}
use Rattle.lx_token.specs.declared.kinds.TokenKind.TheVariants.{Bounds, Class, Signs, Str}

-- ---- the letters of a word

abbrev points : List Character → List ℕ
points characters = map (λ (character : Character). character.point) characters

points-digits : (digits tail : List ℕ) → AreDigits digits
    → points (characters_behind 0 (digits ++ tail)) ≡ digits ++ points (characters_behind 0 tail)
points-digits [] tail are = refl
points-digits (letter ∷ digits) tail are =
    rw (digit-later letter 92 are.0 (omega arith)) (ap (λ (l : List ℕ). letter ∷ l) (points-digits digits tail are.1))

points-word : (number : ℕ) (at : Pos) → number < 1000 → points_in (lexeme Str (word_text number) at) ≡ word_letters number
points-word number at less =
    let inner = word_letters number in
    let apart : 119 ∷ (decimal number ++ codes "x\"") ≡ inner ++ codes "\"" =
    ap (λ (l : List ℕ). 119 ∷ l) (sym (append_assoc (decimal number) (codes "x") (codes "\""))) in
    let size : length (word_text number) - 2 ≡ length inner = simp length-append (omega arith) in
    ap₂ (λ (n : ℕ) (l : List ℕ). points (characters_behind 0 (take n l))) size apart
    ∙ ap (λ (l : List ℕ). points (characters_behind 0 l)) (take-word inner (codes "\""))
    ∙ ap (λ (l : List ℕ). 119 ∷ l) (points-digits (decimal number) (codes "x") (decimal-digits number less))

-- the encoding has each of them
least-digits : (digits tail : List ℕ) → AreDigits digits → least_from 256 (singles (digits ++ tail)) ≡ least_from 256 (singles tail)
least-digits [] tail are = refl
least-digits (letter ∷ digits) tail are =
    let high = are.0.high in rw (lt-leb 256 letter (omega arith)) (least-digits digits tail are.1)

-- ---- the form

abbrev pub word_form : (number : ℕ) → (at behind : Pos) → Form
word_form number at behind =
    sequence (repeated (leaf (lexeme Str (word_text number) at)) (lexeme Bounds (codes "{1,3}") behind))
    (repeated (leaf (lexeme Class (codes "[0-9]") (place_after behind (codes "{1,3} "))))
    (lexeme Signs (codes "+") (place_after behind (codes "{1,3} [0-9]"))))

pub word-form : (number : ℕ) (at behind : Pos) (rest : List Lexeme)
    → IsForm alt (lexeme Str (word_text number) at ∷ lexeme Bounds (codes "{1,3}") behind
    ∷ lexeme Class (codes "[0-9]") (place_after behind (codes "{1,3} ")) ∷ lexeme Signs (codes "+") (place_after behind (codes "{1,3} [0-9]"))
    ∷ rest) rest (word_form number at behind)
word-form number at behind rest =
    let word = lexeme Str (word_text number) at in
    let bounds = lexeme Bounds (codes "{1,3}") behind in
    let class = lexeme Class (codes "[0-9]") (place_after behind (codes "{1,3} ")) in
    let plus = lexeme Signs (codes "+") (place_after behind (codes "{1,3} [0-9]")) in
    let later = class ∷ plus ∷ rest in
    let text = word ∷ bounds ∷ later in
    let front : IsForm post text later (repeated (leaf word) bounds) =
    is_repeated text later bounds (leaf word) (is_bare text (bounds ∷ later) (leaf word) (is_leaf word (bounds ∷ later) refl)) refl in
    let back : IsForm post later rest (repeated (leaf class) plus) =
    is_repeated later rest plus (leaf class) (is_bare later (plus ∷ rest) (leaf class) (is_leaf class (plus ∷ rest) refl)) refl in
    let form = word_form number at behind in
    is_first_diff text rest form (is_first_cat text rest form
    (is_sequence text later rest (repeated (leaf word) bounds) (repeated (leaf class) plus)
    (is_first_post text later (repeated (leaf word) bounds) front) back))

-- ---- its checks

module _ (definitions : List Definition) (number : ℕ) (at behind : Pos) (less : number < 1000) where
  word_points : None ≡ points_fault source_options.enc source_options.surrogates at (singles (points_in (lexeme Str (word_text number) at)))
  word_points =
      let least : least_from 256 (singles (points_in (lexeme Str (word_text number) at))) ≡ None =
      ap (λ (l : List ℕ). least_from 256 (singles l)) (points-word number at less)
      ∙ least-digits (decimal number) (codes "x") (decimal-digits number less) in
      sym (ap (λ (o : Option ℕ). option_or (option_map (λ (point : ℕ). CodePoint at point) o) None) least)

  pub word-checks : Checks source_options definitions false [] (word_form number at behind) None
  word-checks = inl (inl (word_points, refl), inl (inl (refl, refl), refl))

-- ---- its meaning

abbrev pub string_means : (number : ℕ) → Meaning
string_means number = string_meaning 0 (map (character_set Ignore false) (word_letters number))

abbrev pub class_means : Meaning
class_means = class_meaning false MatchEmpty 0 [] 0 0 (record { lo = 48; hi = 57 } ∷ [])

abbrev pub word_meaning : (number : ℕ) → Meaning
word_meaning number =
    followed (repeated_by (record { min = 1; max = Some 3 }) (string_means number)) (repeated_by (record { min = 1; max = None }) class_means)

module _ (definitions : List Definition) (number : ℕ) (at behind : Pos) (less : number < 1000) where
  pub word-means : IsMeaning source_options definitions false nothing (word_form number at behind) (word_meaning number)
  word-means = (
    repeated_by (record { min = 1; max = Some 3 }) (string_means number),
    repeated_by (record { min = 1; max = None }) class_means,
    (string_means number, ap (λ (l : List ℕ). string_meaning 0 (map (character_set Ignore false) l)) (sym (points-word number at less)), refl),
    (
      class_means,
      (
        record { lo = 48; hi = 57 } ∷ [],
        record { canonical = (omega arith, omega arith, omega arith, tt); points = λ point. (λ inside. inside, λ inside. inside) },
        refl,
      ),
      refl,
    ),
    refl,
  )

letters-behind : (letters : List ℕ)
    → all_behind 0 (members_of (map set_term (map (character_set Ignore false) letters))) ≡ members_of (map letter_term letters)
letters-behind [] = refl
letters-behind (letter ∷ letters) = ap (λ (l : Terms). cons (letter_term letter) l) (letters-behind letters)

string-behind : (first last : ℕ) (letters : List ℕ)
    → behind 0 (string_term (map (character_set Ignore false) (first ∷ (letters ++ last ∷ []))))
    ≡ cat (members_of (map letter_term (first ∷ (letters ++ last ∷ []))))
string-behind first last [] = refl
string-behind first last (next ∷ letters) =
    ap (λ (l : Terms). cat (cons (letter_term first) (cons (letter_term next) l))) (letters-behind (letters ++ last ∷ []))

-- its term is that of the rule
pub word-term : (number : ℕ) → behind 0 (term_of_meaning (word_meaning number)) ≡ rule_term number
word-term number =
    ap (λ (t : Term). cat (members_of (repeat t 1 (Some 3) ∷ repeat (class ((48, 57) ∷ [])) 1 None ∷ [])))
    (string-behind 119 120 (decimal number))

pub word-size : (number : ℕ) → number < 1000 → (word_meaning number).size ≤ 18
word-size number less =
    let digits = decimal-length number less in
    let size : length (map (character_set Ignore false) (word_letters number)) ≤ 5 = simp (length-map, length-append) (omega arith) in omega arith
