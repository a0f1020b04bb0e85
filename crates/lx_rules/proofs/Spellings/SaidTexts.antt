-- The texts that values say, and what of them may stand in the place of a name.
use Rattle.std.proofs.Common.{◌≡◌, ℕ, zero, suc, ◌-◌, ◌<◌, ◌≤◌, Bool, true, false, List, [], ◌∷◌, length, take, drop, refl, ap, arith}
use Rattle.std.specs.Prelude.{◌==◌, ◌&&◌, ◌||◌, nat_lt, if◌then◌else◌}
use Rattle.std.specs.List.{list_any}
use Rattle.std.proofs.lemmas.Bool.{false≢true}
use Rattle.std.proofs.lemmas.Bool.Decides.{nat_tests}
use Rattle.std.proofs.lemmas.List.{length-map, length-take}
use Rattle.lx_base.specs.Allowed.{is_identifier, is_spelling, is_words, may_spell}
use Rattle.lx_base.specs.Letters.{begins_identifier, each_letter, is_in_identifier, is_in_spelling}
use Rattle.lx_exprs.specs.Seen.{points_of}
use Rattle.lx_forms.specs.Lexemes.{Lexeme}
use Rattle.lx_rules.specs.Configurations.{said, said_by}
use Rattle.lx_token.specs.Characters.{character, characters_behind, characters_of, escape_point, escape_size}
use Rattle.lx_token.specs.declared.characters.Character.{Character}
use Rattle.lx_token.specs.declared.kinds.TokenKind.{TokenKind}
use Rattle.lx_token.specs.declared.kinds.TokenKind.TheVariants as kind

-- ---- code points over 255

-- one of the code points is over 255
abbrev pub has_wide : (points : List ℕ) → Bool
has_wide points = list_any (λ point. nat_lt 255 point) points

wide_in_identifier : (letter : ℕ) → 255 < letter → is_in_identifier letter ≡ false
wide_in_identifier letter wide = grind (arith, nat_tests)

wide_in_spelling : (letter : ℕ) → 255 < letter → is_in_spelling letter ≡ false
wide_in_spelling letter wide = grind (arith, nat_tests)

wide_begins : (letter : ℕ) → 255 < letter → begins_identifier letter ≡ false
wide_begins letter wide = grind (arith, nat_tests)

wide_in_words : (letter : ℕ) → 255 < letter → (is_in_identifier letter || (letter == 32)) ≡ false
wide_in_words letter wide = grind (arith, nat_tests)

-- a letter or one behind it fails
one_fails : (wide rest passes all : Bool) → (wide ≡ true → passes ≡ false) → (rest ≡ true → all ≡ false) → (wide || rest) ≡ true
    → (if passes then all else false) ≡ false
one_fails true rest passes all first behind is = ap (λ test. if test then all else false) (first refl)
one_fails false rest true all first behind is = behind is
one_fails false rest false all first behind is = refl

both_fail : (wide rest passes all : Bool) → (wide ≡ true → passes ≡ false) → (rest ≡ true → all ≡ false) → (wide || rest) ≡ true
    → (passes && all) ≡ false
both_fail true rest passes all first behind is = ap (λ test. test && all) (first refl)
both_fail false rest true all first behind is = behind is
both_fail false rest false all first behind is = refl

over : (letter : ℕ) → nat_lt 255 letter ≡ true → 255 < letter
over letter found = search (arith, nat_tests)

-- a test that no letter over 255 passes
each_letter-wide : (test : ℕ → Bool) → ((letter : ℕ) → 255 < letter → test letter ≡ false) → (word : List ℕ) → has_wide word ≡ true
    → each_letter test word ≡ false
each_letter-wide test none [] is = absurd (false≢true is)
each_letter-wide test none (letter ∷ word) is =
    one_fails (nat_lt 255 letter) (has_wide word) (test letter) (each_letter test word) (λ wide. none letter (over letter wide))
    (each_letter-wide test none word) is

is_spelling-wide : (word : List ℕ) → has_wide word ≡ true → is_spelling word ≡ false
is_spelling-wide [] is = refl
is_spelling-wide (letter ∷ word) is = each_letter-wide is_in_spelling wide_in_spelling (letter ∷ word) is

is_words-wide : (after_space : Bool) (word : List ℕ) → has_wide word ≡ true → is_words after_space word ≡ false
is_words-wide after_space [] is = absurd (false≢true is)
is_words-wide true (letter ∷ word) is =
    both_fail (nat_lt 255 letter) (has_wide word) (is_in_identifier letter) (is_words false word) (λ wide. wide_in_identifier letter (over letter wide))
    (is_words-wide false word) is
is_words-wide false (letter ∷ word) is =
    both_fail (nat_lt 255 letter) (has_wide word) (is_in_identifier letter || (letter == 32)) (is_words (letter == 32) word)
    (λ wide. wide_in_words letter (over letter wide)) (is_words-wide (letter == 32) word) is

is_identifier-wide : (word : List ℕ) → has_wide word ≡ true → is_identifier word ≡ false
is_identifier-wide [] is = refl
is_identifier-wide (letter ∷ word) is =
    both_fail (nat_lt 255 letter) (has_wide word) (begins_identifier letter) (each_letter is_in_identifier word)
    (λ wide. wide_begins letter (over letter wide)) (each_letter-wide is_in_identifier wide_in_identifier word) is

-- no name may be spelled with such a code point
pub wide_refused : (place : ℕ) (word : List ℕ) → has_wide word ≡ true → may_spell place word ≡ false
wide_refused place word is = at (place == 0) (nat_lt place 12)
  where
    at : (is_type is_spelled : Bool)
        → (if is_type then is_words true word else (if is_spelled then is_spelling word else is_identifier word)) ≡ false
    at true is_spelled = is_words-wide true word is
    at false true = is_spelling-wide word is
    at false false = is_identifier-wide word is

-- ---- how long texts are

either_short : (escaped : Bool) (first other : List Character) (most : ℕ) → length first ≤ most → length other ≤ most
    → length (if escaped then first else other) ≤ most
either_short true first other most le le_other = le
either_short false first other most le le_other = le_other

characters_behind-length : (size : ℕ) (text : List ℕ) → length (characters_behind size text) ≤ length text
characters_behind-length zero [] = omega arith
characters_behind-length (suc size) [] = omega arith
characters_behind-length (suc size) (letter ∷ text) = let rest = characters_behind-length size text in omega (arith, rest)
characters_behind-length zero (letter ∷ text) =
    let escaped = characters_behind-length (escape_size text) text in
    let plain = characters_behind-length zero text in
    either_short (letter == 92) (character (escape_point text) true ∷ characters_behind (escape_size text) text)
    (character letter false ∷ characters_behind zero text) (suc (length text)) (omega (arith, escaped)) (omega (arith, plain))

characters_of-length : (text : List ℕ) → length (points_of (characters_of text)) ≤ length text
characters_of-length text =
    let inner = take (length text - 2) (drop 1 text) in
    let most = characters_behind-length 0 inner in
    let taken = length-take (length text - 2) (drop 1 text) in
    let mapped = length-map (characters_of text) (λ (one : Character). one.point) in
    omega (arith, most, taken, mapped)

said_by-length : (sort : TokenKind) (value : Lexeme) → length (said_by sort value) ≤ length value.text
said_by-length kind.Str value = characters_of-length value.text
said_by-length kind.IStr value = characters_of-length value.text
said_by-length sort value = omega arith

-- what a value says is no longer than the value
pub said-length : (value : Lexeme) → length (said value) ≤ length value.text
said-length value = said_by-length value.kind value
