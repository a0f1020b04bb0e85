-- In the text of a piece a begin mark stands at the front, and at no other place.
use Rattle.std.proofs.Common.{[], ◌++◌, ◌<◌, ◌^◌, ◌∷◌, ◌≡◌, Bool, List, ap, append_assoc, false, refl, subst, sym, true, ◌∙◌, ℕ}
use Rattle.std.proofs.lemmas.Bool.{eqb-true, false≢true, ne_eqb}
use Rattle.std.specs.Fmt.{decimal}
use Rattle.std.specs.List.{list_any}
use Rattle.std.specs.Prelude.{◌==◌, ◌||◌, codes, if◌then◌else◌}
use Rattle.lx_base.specs.Letters.{EachLetter, IsIdentifier, IsSpelling, begins_with, is_digit, is_in_identifier, is_in_spelling, is_hexadecimal}
use Rattle.lx_base.specs.Names.{IsWords}
use Rattle.lx_base.specs.Text.{joined}
use Rattle.lx_ccode.specs.Marks.{EndsMarks, HasNoBegin, begins_piece}
use Rattle.lx_ccode.specs.Text.{hexadecimal}
use Rattle.lx_ccode.proofs.Words.{EachLetter-from, EachLetter-identifier, decimal_digits, hexadecimal_digits, is_false}

-- the word differs from the text within both
abbrev differs : (word text : List ℕ) → Bool
differs [] text = false
differs (letter ∷ word) [] = false
differs (letter ∷ word) (other ∷ text) = if letter == other then differs word text else true

-- no begin mark begins in the text, whatever stands behind it
abbrev pub none_begins : List ℕ → Bool
none_begins [] = true
none_begins (letter ∷ text) = if differs (codes "/*!begin:re2c") (letter ∷ text) then none_begins text else false

begins_with-differs : (word text behind : List ℕ) → differs word text ≡ true → begins_with word (text ++ behind) ≡ false
begins_with-differs [] text behind h = absurd (false≢true h)
begins_with-differs (letter ∷ word) [] behind h = absurd (false≢true h)
begins_with-differs (letter ∷ word) (other ∷ text) behind h = elim (letter == other) as (λ same. (if same then differs word text else true) ≡ true → (if same then begins_with word (text ++ behind) else false) ≡ false) [
  | true ↦ λ k. begins_with-differs word text behind k
  | false ↦ λ k. refl
] h

pub HasNoBegin-test : (text behind : List ℕ) → none_begins text ≡ true → HasNoBegin text behind
HasNoBegin-test [] behind h = tt
HasNoBegin-test (letter ∷ text) behind h = both (differs (codes "/*!begin:re2c") (letter ∷ text)) refl h (HasNoBegin-test text behind)
  where
    both : (flag : Bool) → differs (codes "/*!begin:re2c") (letter ∷ text) ≡ flag → (if flag then none_begins text else false) ≡ true
        → (none_begins text ≡ true → HasNoBegin text behind) → HasNoBegin (letter ∷ text) behind
    both true is k next = (begins_with-differs (codes "/*!begin:re2c") (letter ∷ text) behind is, next k)
    both false is k next = absurd (false≢true k)

pub HasNoBegin-append : (text more behind : List ℕ) → HasNoBegin text (more ++ behind) → HasNoBegin more behind → HasNoBegin (text ++ more) behind
HasNoBegin-append [] more behind h k = k
HasNoBegin-append (letter ∷ text) more behind h k =
    (subst (λ (l : List ℕ). begins_piece (letter ∷ l) ≡ false) (sym (append_assoc text more behind)) h.0, HasNoBegin-append text more behind h.1 k)

-- ---- words without a slash

abbrev pub is_no_slash : ℕ → Bool
is_no_slash letter = if letter == 47 then false else true

no_slash : (test : ℕ → Bool) → test 47 ≡ false → (letter : ℕ) → test letter ≡ true → is_no_slash letter ≡ true
no_slash test lacks letter h = by (letter == 47) refl
  where
    by : (flag : Bool) → (letter == 47) ≡ flag → (if flag then false else true) ≡ true
    by true is = absurd (false≢true (subst (λ (at : ℕ). false ≡ test at) (sym (eqb-true letter 47 is)) (sym lacks) ∙ h))
    by false is = refl

each_lacks : (test : ℕ → Bool) → test 47 ≡ false → (word : List ℕ) → EachLetter test word → EachLetter is_no_slash word
each_lacks test lacks word h = EachLetter-from test is_no_slash (no_slash test lacks) word h

pub identifier_lacks : (word : List ℕ) → IsIdentifier word → EachLetter is_no_slash word
identifier_lacks word h = each_lacks is_in_identifier refl word (EachLetter-identifier word h)

pub spelling_lacks : (word : List ℕ) → IsSpelling word → EachLetter is_no_slash word
spelling_lacks word h = each_lacks is_in_spelling refl word h.1

pub words_lack : (after_space : Bool) (word : List ℕ) → IsWords after_space word → EachLetter is_no_slash word
words_lack after_space [] h = tt
words_lack true (letter ∷ word) h = (no_slash is_in_identifier refl letter h.0, words_lack false word h.1)
words_lack false (letter ∷ word) h = (no_slash (λ other. is_in_identifier other || (other == 32)) refl letter h.0, words_lack (letter == 32) word h.1)

pub decimal_lacks : (number : ℕ) → number < 2 ^ 64 → EachLetter is_no_slash (decimal number)
decimal_lacks number h = each_lacks is_digit refl (decimal number) (decimal_digits number h)

pub hexadecimal_lacks : (number : ℕ) → number < 2 ^ 64 → EachLetter is_no_slash (hexadecimal number)
hexadecimal_lacks number h = each_lacks is_hexadecimal refl (hexadecimal number) (hexadecimal_digits number h)

other_letter : (letter : ℕ) → is_no_slash letter ≡ true → (47 == letter) ≡ false
other_letter letter h = ne_eqb 47 letter (λ same. false≢true (ap is_no_slash same ∙ h))

pub none_begins-word : (word : List ℕ) → EachLetter is_no_slash word → none_begins word ≡ true
none_begins-word [] h = refl
none_begins-word (letter ∷ word) h = rw (other_letter letter h.0) (none_begins-word word h.1)

-- ---- a text and what it stands before

-- the bytes are a text in which no begin mark begins, and then this
pub record Passes (bytes behind : List ℕ) : Type 0 where
  pub front : List ℕ
  pub is : bytes ≡ front ++ behind
  pub none : HasNoBegin front behind

pub Passes-all : (bytes : List ℕ) → Passes bytes bytes
Passes-all bytes = record { front = []; is = refl; none = tt }

pub Passes-then : (bytes middle behind : List ℕ) → Passes bytes middle → Passes middle behind → Passes bytes behind
Passes-then bytes middle behind first second = record {
  front = first.front ++ second.front;
  is = first.is ∙ ap (λ (l : List ℕ). first.front ++ l) second.is ∙ sym (append_assoc first.front second.front behind);
  none = HasNoBegin-append first.front second.front behind (subst (λ (l : List ℕ). HasNoBegin first.front l) second.is first.none) second.none;
}

pub Passes-text : (text behind : List ℕ) → HasNoBegin text behind → Passes (text ++ behind) behind
Passes-text text behind h = record { front = text; is = refl; none = h }

Passes-word : (word behind : List ℕ) → none_begins word ≡ true → Passes (word ++ behind) behind
Passes-word word behind h = record { front = word; is = refl; none = HasNoBegin-test word behind h }

-- in none of the words a begin mark begins, whatever stands behind it
abbrev pub EachPasses : List (List ℕ) → Type 0
EachPasses [] = Unit {0}
EachPasses (word ∷ words) = (none_begins word ≡ true) × EachPasses words

pub Passes-joined : (words : List (List ℕ)) (behind : List ℕ) → EachPasses words → Passes (joined words behind) behind
Passes-joined [] behind h = Passes-all behind
Passes-joined (word ∷ words) behind h =
    Passes-then (word ++ joined words behind) (joined words behind) behind (Passes-word word (joined words behind) h.0) (Passes-joined words behind h.1)

-- ---- what stands behind a text that ends before a letter of no mark

-- the letter is none of the word
abbrev pub lacks : (letter : ℕ) (word : List ℕ) → Bool
lacks letter [] = true
lacks letter (other ∷ word) = if other == letter then false else lacks letter word

-- nothing, or bytes that begin with a letter that is none of the word
abbrev pub Stops : (word bytes : List ℕ) → Type 0
Stops word [] = Unit {0}
Stops word (letter ∷ bytes) = lacks letter word ≡ true

begins_with-stopped : (word bytes : List ℕ) (letter : ℕ) → Stops (letter ∷ word) bytes → begins_with (letter ∷ word) bytes ≡ false
begins_with-stopped word [] letter h = refl
begins_with-stopped word (other ∷ bytes) letter h = elim (letter == other) as (λ same. (if same then false else lacks other word) ≡ true → (if same then begins_with word bytes else false) ≡ false) [
  | true ↦ λ k. absurd (false≢true k)
  | false ↦ λ k. refl
] h

Stops-tail : (letter : ℕ) (word bytes : List ℕ) → Stops (letter ∷ word) bytes → Stops word bytes
Stops-tail letter word [] h = tt
Stops-tail letter word (other ∷ bytes) h = elim (letter == other) as (λ same. (if same then false else lacks other word) ≡ true → lacks other word ≡ true) [
  | true ↦ λ k. absurd (false≢true k)
  | false ↦ λ k. k
] h

-- what stands behind such a place is all one
pub begins_with-stop : (word text bytes other : List ℕ) → Stops word bytes → Stops word other
    → begins_with word (text ++ bytes) ≡ begins_with word (text ++ other)
begins_with-stop [] text bytes other h k = refl
begins_with-stop (letter ∷ word) [] bytes other h k = begins_with-stopped word bytes letter h ∙ sym (begins_with-stopped word other letter k)
begins_with-stop (letter ∷ word) (next ∷ text) bytes other h k = elim (letter == next) as (λ same. (if same then begins_with word (text ++ bytes) else false) ≡ (if same then begins_with word (text ++ other) else false)) [
  | true ↦ begins_with-stop word text bytes other (Stops-tail letter word bytes h) (Stops-tail letter word other k)
  | false ↦ refl
]

-- the same of a mark, which has its slash at its front alone
begins_piece-stop : (letter : ℕ) (text bytes other : List ℕ) → Stops (codes "*!begin:re2c") bytes → Stops (codes "*!begin:re2c") other
    → begins_piece (letter ∷ text ++ bytes) ≡ false → begins_piece (letter ∷ text ++ other) ≡ false
begins_piece-stop letter text bytes other h k e = elim (47 == letter) as (λ same. (if same then begins_with (codes "*!begin:re2c") (text ++ bytes) else false) ≡ false → (if same then begins_with (codes "*!begin:re2c") (text ++ other) else false) ≡ false) [
  | true ↦ λ is. sym (begins_with-stop (codes "*!begin:re2c") text bytes other h k) ∙ is
  | false ↦ λ is. refl
] e

pub HasNoBegin-stops : (text bytes other : List ℕ) → Stops (codes "*!begin:re2c") bytes → Stops (codes "*!begin:re2c") other
    → HasNoBegin text bytes → HasNoBegin text other
HasNoBegin-stops [] bytes other h k none = tt
HasNoBegin-stops (letter ∷ text) bytes other h k none =
    (begins_piece-stop letter text bytes other h k none.0, HasNoBegin-stops text bytes other h k none.1)

pub HasNoBegin-stop : (letter : ℕ) (text bytes other : List ℕ) → lacks letter (codes "*!begin:re2c") ≡ true → HasNoBegin text (letter ∷ bytes) → HasNoBegin text (letter ∷ other)
HasNoBegin-stop letter text bytes other h none = HasNoBegin-stops text (letter ∷ bytes) (letter ∷ other) h h none

-- a word at the front of a text stands there whatever is behind the text
begins_with-more : (word text more : List ℕ) → begins_with word (text ++ []) ≡ true → begins_with word (text ++ more) ≡ true
begins_with-more [] text more h = refl
begins_with-more (letter ∷ word) [] more h = absurd (false≢true h)
begins_with-more (letter ∷ word) (next ∷ text) more h = elim (letter == next) as (λ same. (if same then begins_with word (text ++ []) else false) ≡ true → (if same then begins_with word (text ++ more) else false) ≡ true) [
  | true ↦ λ k. begins_with-more word text more k
  | false ↦ λ k. absurd (false≢true k)
] h

Stops-mark : (bytes : List ℕ) → EndsMarks bytes → Stops (codes "*!begin:re2c") bytes
Stops-mark [] h = tt
Stops-mark (letter ∷ bytes) h = lacks-none (codes "*!begin:re2c") h
  where
    lacks-none : (word : List ℕ) → list_any (λ other. other == letter) word ≡ false → lacks letter word ≡ true
    lacks-none [] k = refl
    lacks-none (other ∷ word) k = elim (other == letter) as (λ same. (same || list_any (λ other. other == letter) word) ≡ false → (if same then false else lacks letter word) ≡ true) [
      | true ↦ λ e. absurd (false≢true (sym e))
      | false ↦ λ e. lacks-none word e
    ] k

-- a text in which no begin mark begins before some bytes has none before bytes that end marks
begins_piece-ends : (letter : ℕ) (text behind bytes : List ℕ) → EndsMarks bytes → begins_piece (letter ∷ text ++ behind) ≡ false
    → begins_piece (letter ∷ text ++ bytes) ≡ false
begins_piece-ends letter text behind bytes h none =
    begins_piece-stop letter text [] bytes tt (Stops-mark bytes h)
    (is_false (begins_piece (letter ∷ text ++ [])) (λ is. false≢true (sym none ∙ begins_with-more (codes "/*!begin:re2c") (letter ∷ text) behind is)))

pub HasNoBegin-ends : (text behind bytes : List ℕ) → EndsMarks bytes → HasNoBegin text behind → HasNoBegin text bytes
HasNoBegin-ends [] behind bytes h none = tt
HasNoBegin-ends (letter ∷ text) behind bytes h none = (begins_piece-ends letter text behind bytes h none.0, HasNoBegin-ends text behind bytes h none.1)
