-- Words, numbers and spellings, and what stands at the front of a text.
use Rattle.std.proofs.Common.{[], ◌%◌, ◌++◌, ◌+◌, ◌<◌, ◌^◌, ◌∙◌, ◌∷◌, ◌≡◌, Bool, List, ap, append_assoc, arith, drop, false, length, refl, subst, sym, take, true, ℕ}
use Rattle.std.proofs.lemmas.Bool.{eq-eqb, eqb-true, false≢true, le-leb, lt-ltb}
use Rattle.std.proofs.lemmas.Fmt.{decimal_by_steps, decimal_is_IsNumeral, digits_is_IsNumeral}
use Rattle.std.proofs.lemmas.List.{append-nil, reverse-append, reverse-reverse}
use Rattle.std.specs.Char.{digit_value}
use Rattle.std.specs.Fmt.{decimal, digits}
use Rattle.std.specs.Prelude.{◌==◌, ◌||◌, codes, if◌then◌else◌, nat_lt, not, reverse}
use Rattle.std.specs.Str.Parse.{AllDigits, digits_value}
use Rattle.lx_base.specs.Letters.{EachLetter, IsIdentifier, begins_identifier, begins_with, each_letter, is_digit, is_history_numeral, is_history_register, is_in_identifier, is_in_spelling, is_numeral, is_register, is_hexadecimal, after_letters, equal_words, front_letters, is_in_type}
use Rattle.lx_ccode.specs.Reading.{argument, byte_at, callee, file_at}
use Rattle.lx_ccode.specs.Text.{escaped, hexadecimal}

pub or-left : (a flag : Bool) → a ≡ true → a || flag ≡ true
or-left true flag h = refl
or-left false flag h = absurd cc

pub or-right : (a flag : Bool) → flag ≡ true → a || flag ≡ true
or-right true flag h = refl
or-right false flag h = h

pub is_in_identifier-digit : (letter : ℕ) → is_digit letter ≡ true → is_in_identifier letter ≡ true
is_in_identifier-digit letter h = or-left (is_digit letter) (begins_identifier letter) h

pub is_in_identifier-letter : (letter : ℕ) → begins_identifier letter ≡ true → is_in_identifier letter ≡ true
is_in_identifier-letter letter h = or-right (is_digit letter) (begins_identifier letter) h

pub is_in_spelling-identifier : (letter : ℕ) → is_in_identifier letter ≡ true → is_in_spelling letter ≡ true
is_in_spelling-identifier letter h = rw h refl

pub is_in_type-identifier : (letter : ℕ) → is_in_identifier letter ≡ true → is_in_type letter ≡ true
is_in_type-identifier letter h = or-left (is_in_identifier letter) (letter == 32) h

pub EachLetter-from : (test q : ℕ → Bool) → ((letter : ℕ) → test letter ≡ true → q letter ≡ true) → (word : List ℕ) → EachLetter test word
    → EachLetter q word
EachLetter-from test q f [] h = tt
EachLetter-from test q f (letter ∷ word) h = (f letter h.0, EachLetter-from test q f word h.1)

pub EachLetter-append : (test : ℕ → Bool) (front_word word : List ℕ) → EachLetter test front_word → EachLetter test word
    → EachLetter test (front_word ++ word)
EachLetter-append test [] word h k = k
EachLetter-append test (letter ∷ front_word) word h k = (h.0, EachLetter-append test front_word word h.1 k)

pub EachLetter-right : (test : ℕ → Bool) (front_word word : List ℕ) → EachLetter test (front_word ++ word) → EachLetter test word
EachLetter-right test [] word h = h
EachLetter-right test (letter ∷ front_word) word h = EachLetter-right test front_word word h.1

pub each_letter-true : (test : ℕ → Bool) (word : List ℕ) → EachLetter test word → each_letter test word ≡ true
each_letter-true test [] h = refl
each_letter-true test (letter ∷ word) h = rw h.0 (each_letter-true test word h.1)

pub EachLetter-identifier : (word : List ℕ) → IsIdentifier word → EachLetter is_in_identifier word
EachLetter-identifier [] h = tt
EachLetter-identifier (letter ∷ word) h = (is_in_identifier-letter letter h.0, h.1)

pub EachLetter-spelling : (word : List ℕ) → EachLetter is_in_identifier word → EachLetter is_in_spelling word
EachLetter-spelling word h = EachLetter-from is_in_identifier is_in_spelling is_in_spelling-identifier word h

-- ---- the front that passes

pub front-word : (test : ℕ → Bool) (word tail : List ℕ) → EachLetter test word → front_letters test (word ++ tail) ≡ word ++ front_letters test tail
front-word test [] tail h = refl
front-word test (letter ∷ word) tail h = rw h.0 (ap (λ (l : List ℕ). letter ∷ l) (front-word test word tail h.1))

pub behind-word : (test : ℕ → Bool) (word tail : List ℕ) → EachLetter test word → after_letters test (word ++ tail) ≡ after_letters test tail
behind-word test [] tail h = refl
behind-word test (letter ∷ word) tail h = rw h.0 (behind-word test word tail h.1)

-- ---- equal words

eqb-self : (a : ℕ) → (a == a) ≡ true
eqb-self a = eq-eqb a a refl

pub equal_words-self : (word : List ℕ) → equal_words word word ≡ true
equal_words-self [] = refl
equal_words-self (a ∷ word) = rw (eqb-self a) (equal_words-self word)

pub equal_words-true : (front_word word : List ℕ) → equal_words front_word word ≡ true → front_word ≡ word
equal_words-true [] [] h = refl
equal_words-true [] (b ∷ word) h = absurd cc
equal_words-true (a ∷ front_word) [] h = absurd cc
equal_words-true (a ∷ front_word) (b ∷ word) h = by_head (a == b) refl h (equal_words-true front_word word) where
  by_head : (letter : Bool) → (a == b) ≡ letter → (if letter then equal_words front_word word else false) ≡ true
      → (equal_words front_word word ≡ true → front_word ≡ word) → a ∷ front_word ≡ b ∷ word
  by_head true e k f =
      let heads : a ≡ b = eqb-true a b e in
      let tails : front_word ≡ word = f k in
      cc
  by_head false e k f = absurd cc

pub equal_words-false : (front_word word : List ℕ) → (front_word ≡ word → ⊥) → equal_words front_word word ≡ false
equal_words-false front_word word h = by_bool (equal_words front_word word) refl where
  by_bool : (flag : Bool) → equal_words front_word word ≡ flag → equal_words front_word word ≡ false
  by_bool true e = absurd (h (equal_words-true front_word word e))
  by_bool false e = e

-- ---- prefixes

pub begins_with-append : (front_word tail : List ℕ) → begins_with front_word (front_word ++ tail) ≡ true
begins_with-append [] tail = refl
begins_with-append (a ∷ front_word) tail = rw (eqb-self a) (begins_with-append front_word tail)

pub drop-front : (front_word tail : List ℕ) → drop (length front_word) (front_word ++ tail) ≡ tail
drop-front [] tail = refl
drop-front (a ∷ front_word) tail = drop-front front_word tail

pub take-front : (front_word tail : List ℕ) → take (length front_word) (front_word ++ tail) ≡ front_word
take-front [] tail = refl
take-front (a ∷ front_word) tail = ap (λ (l : List ℕ). a ∷ l) (take-front front_word tail)

-- ---- numbers

is_digit-sum : (number : ℕ) → number < 10 → is_digit (48 + number) ≡ true
is_digit-sum number h = rw (le-leb 48 (48 + number) (omega arith), le-leb (48 + number) 57 (omega arith)) refl

pub decimal_digits : (number : ℕ) → number < 2 ^ 64 → EachLetter is_digit (decimal number)
decimal_digits number h = decimal_by_steps (λ _ ds. EachLetter is_digit ds) (λ number h. (is_digit-sum number h, tt)) (λ number ds h e. EachLetter-append is_digit ds ((48 + number % 10) ∷ []) e (is_digit-sum (number % 10) (omega arith), tt)) number h

pub decimal_identifier : (number : ℕ) → number < 2 ^ 64 → EachLetter is_in_identifier (decimal number)
decimal_identifier number h = EachLetter-from is_digit is_in_identifier is_in_identifier-digit (decimal number) (decimal_digits number h)

pub decimal_value : (number : ℕ) → number < 2 ^ 64 → digits_value 10 (decimal number) ≡ number
decimal_value number h = (decimal_is_IsNumeral number h).1

first_passes : (word tail : List ℕ) → 0 < length word → EachLetter is_digit word → is_digit (byte_at (word ++ tail) 0) ≡ true
first_passes [] tail h k = absurd (omega arith)
first_passes (letter ∷ word) tail h k = k.0

pub decimal_first : (number : ℕ) (tail : List ℕ) → number < 2 ^ 64 → is_digit (byte_at (decimal number ++ tail) 0) ≡ true
decimal_first number tail h = first_passes (decimal number) tail (decimal_is_IsNumeral number h).0.0 (decimal_digits number h)

is_numeral-digits : (word : List ℕ) → 0 < length word → EachLetter is_digit word → is_numeral word ≡ true
is_numeral-digits [] h k = absurd (omega arith)
is_numeral-digits (letter ∷ word) h k = rw k.0 (each_letter-true is_digit word k.1)

pub is_numeral-decimal : (number : ℕ) → number < 2 ^ 64 → is_numeral (decimal number) ≡ true
is_numeral-decimal number h = is_numeral-digits (decimal number) (decimal_is_IsNumeral number h).0.0 (decimal_digits number h)

-- ---- hexadecimal numbers

hexadecimal-digits : (word : List ℕ) → AllDigits 16 word → EachLetter is_hexadecimal word
hexadecimal-digits [] h = tt
hexadecimal-digits (letter ∷ word) h = (lt-ltb (digit_value letter) 16 h.0, hexadecimal-digits word h.1)

pub hexadecimal_digits : (number : ℕ) → number < 2 ^ 64 → EachLetter is_hexadecimal (hexadecimal number)
hexadecimal_digits number lt = by_size (nat_lt number 16) where
  all : EachLetter is_hexadecimal (digits 16 true number)
  all = hexadecimal-digits (digits 16 true number) (digits_is_IsNumeral 16 true (omega arith) (omega arith) number (omega arith)).0.1

  by_size : (flag : Bool) → EachLetter is_hexadecimal (if flag then 48 ∷ digits 16 true number else digits 16 true number)
  by_size true = (refl, all)
  by_size false = all

pub hexadecimal_value : (number : ℕ) → number < 2 ^ 64 → digits_value 16 (hexadecimal number) ≡ number
hexadecimal_value number lt = by_size (nat_lt number 16) where
  value : digits_value 16 (digits 16 true number) ≡ number
  value = (digits_is_IsNumeral 16 true (omega arith) (omega arith) number (omega arith)).1

  by_size : (flag : Bool) → digits_value 16 (if flag then 48 ∷ digits 16 true number else digits 16 true number) ≡ number
  by_size true = value
  by_size false = value

-- ---- file names

pub file_at-escaped : (word tail : List ℕ) → file_at false (escaped word ++ 34 ∷ tail) ≡ (word, tail)
file_at-escaped [] tail = refl
file_at-escaped (letter ∷ word) tail = by_quote (letter == 34) refl (file_at-escaped word tail) where
  by_slash : (flag : Bool) → (letter == 92) ≡ flag → (letter == 34) ≡ false → file_at false (escaped word ++ 34 ∷ tail) ≡ (word, tail)
      → file_at false (escaped (letter ∷ word) ++ 34 ∷ tail) ≡ (letter ∷ word, tail)
  by_slash true e q rest = rw (q, e, rest) refl
  by_slash false e q rest = rw (q, e, q, e, rest) refl

  by_quote : (flag : Bool) → (letter == 34) ≡ flag → file_at false (escaped word ++ 34 ∷ tail) ≡ (word, tail)
      → file_at false (escaped (letter ∷ word) ++ 34 ∷ tail) ≡ (letter ∷ word, tail)
  by_quote true e rest = rw (e, rest) refl
  by_quote false e rest = by_slash (letter == 92) refl e rest

-- ---- calls

EachLetter-reverse : (test : ℕ → Bool) (word : List ℕ) → EachLetter test word → EachLetter test (reverse word)
EachLetter-reverse test [] h = tt
EachLetter-reverse test (letter ∷ word) h = subst (λ (l : List ℕ). EachLetter test l) (sym (reverse-append (letter ∷ []) word)) (EachLetter-append test (reverse word) (letter ∷ []) (EachLetter-reverse test word h.1) (h.0, tt))

reverse-call : (name before : List ℕ) → reverse (name ++ 40 ∷ (before ++ 41 ∷ [])) ≡ 41 ∷ (reverse before ++ 40 ∷ reverse name)
reverse-call name before = reverse-append name (40 ∷ (before ++ 41 ∷ []))
    ∙ ap (λ (l : List ℕ). l ++ reverse name) (reverse-append (40 ∷ []) (before ++ 41 ∷ []) ∙ ap (λ (l : List ℕ). l ++ 40 ∷ []) (reverse-append before (41 ∷ [])))
    ∙ append_assoc (41 ∷ reverse before) (40 ∷ []) (reverse name)

pub callee-call : (name before : List ℕ) → EachLetter is_in_identifier before → callee (name ++ 40 ∷ (before ++ 41 ∷ [])) ≡ name
unfolding callee
callee-call name before h = rw (reverse-call name before, behind-word is_in_identifier (reverse before) (40 ∷ reverse name) (EachLetter-reverse is_in_identifier before h)) (reverse-reverse name)

pub argument-call : (name before : List ℕ) → EachLetter is_in_identifier before → argument (name ++ 40 ∷ (before ++ 41 ∷ [])) ≡ before
unfolding argument
argument-call name before h = rw (reverse-call name before, front-word is_in_identifier (reverse before) (40 ∷ reverse name) (EachLetter-reverse is_in_identifier before h), append-nil (reverse before)) (reverse-reverse before)

-- ---- registers

pub is_register-register : (pre : List ℕ) (register : ℕ) → register < 2 ^ 64 → is_register pre (pre ++ decimal register) ≡ true
is_register-register pre register h = rw (begins_with-append pre (decimal register), drop-front pre (decimal register)) (is_numeral-decimal register h)

pub is_history_register-history : (pre : List ℕ) (register : ℕ) → register < 2 ^ 64 → is_history_register pre (pre ++ 109 ∷ decimal register) ≡ true
is_history_register-history pre register h = rw (begins_with-append pre (109 ∷ decimal register), drop-front pre (109 ∷ decimal register)) (is_numeral-decimal register h)

pub is_register-history : (pre : List ℕ) (register : ℕ) → is_register pre (pre ++ 109 ∷ decimal register) ≡ false
is_register-history pre register = rw (begins_with-append pre (109 ∷ decimal register), drop-front pre (109 ∷ decimal register)) refl

is_history_numeral-digits : (word : List ℕ) → EachLetter is_digit word → is_history_numeral word ≡ false
is_history_numeral-digits [] h = refl
is_history_numeral-digits (letter ∷ word) h = by_m (letter == 109) refl where
  by_m : (flag : Bool) → (letter == 109) ≡ flag → is_history_numeral (letter ∷ word) ≡ false
  by_m true e = absurd (false≢true (subst (λ (d : ℕ). is_digit d ≡ true) (eqb-true letter 109 e) h.0))
  by_m false e = rw e refl

pub is_history_register-register : (pre : List ℕ) (register : ℕ) → register < 2 ^ 64 → is_history_register pre (pre ++ decimal register) ≡ false
is_history_register-register pre register h = rw (begins_with-append pre (decimal register), drop-front pre (decimal register)) (is_history_numeral-digits (decimal register) (decimal_digits register h))

-- ---- words that are not equal

pub equal_words-other : (front_word word : List ℕ) → (word ≡ front_word → ⊥) → equal_words front_word word ≡ false
equal_words-other front_word word h = equal_words-false front_word word (λ e. h (sym e))

pub begins_with-each : (test : ℕ → Bool) (front_word word : List ℕ) → begins_with front_word word ≡ true → EachLetter test word
    → EachLetter test front_word
begins_with-each test [] word h k = tt
begins_with-each test (a ∷ front_word) [] h k = absurd cc
begins_with-each test (a ∷ front_word) (b ∷ word) h k = by_head (a == b) refl h (λ e. begins_with-each test front_word word e k.1) where
  by_head : (letter : Bool) → (a == b) ≡ letter → (if letter then begins_with front_word word else false) ≡ true
      → (begins_with front_word word ≡ true → EachLetter test front_word) → EachLetter test (a ∷ front_word)
  by_head true e g f = (subst (λ (d : ℕ). test d ≡ true) (sym (eqb-true a b e)) k.0, f g)
  by_head false e g f = absurd cc

pub is_false : (flag : Bool) → (flag ≡ true → ⊥) → flag ≡ false
is_false true h = absurd (h refl)
is_false false h = refl

pub begins_with-entry : (word : List ℕ) → EachLetter is_in_identifier word → begins_with (codes "yypmatch[") word ≡ false
begins_with-entry word h = is_false (begins_with (codes "yypmatch[") word) (λ e. false≢true (begins_with-each is_in_identifier (codes "yypmatch[") word e h).1.1.1.1.1.1.1.1.0)

abbrev pub is_no_digit : ℕ → Bool
is_no_digit letter = not (is_digit letter)

no_digit-first : (word : List ℕ) → 0 < length word → EachLetter is_digit word → EachLetter is_no_digit word → ⊥
no_digit-first [] h k q = omega arith
no_digit-first (letter ∷ word) h k q = false≢true (rw k.0 at q.0)

-- a word without a digit is no register's name
pub no_digit-register : (word front_word : List ℕ) (register : ℕ) → register < 2 ^ 64 → EachLetter is_no_digit word
    → word ≡ front_word ++ decimal register → ⊥
no_digit-register word front_word register h q e = no_digit-first (decimal register) (decimal_is_IsNumeral register h).0.0 (decimal_digits register h) (EachLetter-right is_no_digit front_word (decimal register) (subst (λ (u : List ℕ). EachLetter is_no_digit u) e q))

pub no_digit-history : (word front_word : List ℕ) (register : ℕ) → register < 2 ^ 64 → EachLetter is_no_digit word
    → word ≡ front_word ++ 109 ∷ decimal register → ⊥
no_digit-history word front_word register h q e = no_digit-register word (front_word ++ 109 ∷ []) register h q (e ∙ sym (append_assoc front_word (109 ∷ []) (decimal register)))

pub other-register : (word pre : List ℕ) (register : ℕ) → register < 2 ^ 64 → is_register pre word ≡ false → word ≡ pre ++ decimal register → ⊥
other-register word pre register h r e = false≢true (sym r ∙ ap (is_register pre) e ∙ is_register-register pre register h)

pub other-history : (word pre : List ℕ) (register : ℕ) → register < 2 ^ 64 → is_history_register pre word ≡ false
    → word ≡ pre ++ 109 ∷ decimal register → ⊥
other-history word pre register h r e = false≢true (sym r ∙ ap (is_history_register pre) e ∙ is_history_register-history pre register h)

-- ---- up to a letter that does not pass

pub front-stop : (test : ℕ → Bool) (word : List ℕ) (letter : ℕ) (tail : List ℕ) → EachLetter test word → test letter ≡ false
    → front_letters test (word ++ letter ∷ tail) ≡ word
front-stop test word letter tail h k = rw (front-word test word (letter ∷ tail) h, k) (append-nil word)

pub behind-stop : (test : ℕ → Bool) (word : List ℕ) (letter : ℕ) (tail : List ℕ) → EachLetter test word → test letter ≡ false
    → after_letters test (word ++ letter ∷ tail) ≡ letter ∷ tail
behind-stop test word letter tail h k = rw (behind-word test word (letter ∷ tail) h, k) refl
