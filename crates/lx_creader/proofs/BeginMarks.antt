-- Begin marks, read and spelled.
use Rattle.std.proofs.Common.{◌≡◌, ◌↔◌, ◌<◌, ◌∙◌, ℕ, zero, suc, inl, inr, Bool, true, false, IsTrue, List, [], ◌∷◌, ◌++◌, drop, length, get_or, Some, None, refl, sym, ap, subst, append_assoc, arith}
use Rattle.std.specs.Prelude.{◌^◌, ◌⊎◌, codes, cond}
use Rattle.std.specs.Char.{digit_value}
use Rattle.std.specs.Str.Parse.{AllDigits, digits_value}
use Rattle.std.specs.Fmt.{decimal, digits}
use Rattle.std.proofs.lemmas.Str.Parse.{numerals_by_value, tells_digits}
use Rattle.std.proofs.lemmas.Fmt.{decimal-digits_value, decimal_is_IsNumeral, first_decimal}
use Rattle.std.proofs.lemmas.Bool.Decides.{nat_tests}
use Rattle.lx_base.specs.Letters.{is_digit, front_letters, after_letters}
use Rattle.lx_base.proofs.Fronts.{front_letters-after}
use Rattle.lx_ccode.specs.Reading.{number_at}
use Rattle.lx_ccode.proofs.Words.{behind-stop, decimal_digits, decimal_value, front-stop}
use Rattle.lx_creader.specs.Fitted.{long}
use Rattle.lx_creader.specs.Marks.{BeginsBlock, HasNoNeedlessZero, begin_mark, scanner_line}

digit_small : (letter : ℕ) → is_digit letter ≡ true → digit_value letter < 10
digit_small letter is = grind (arith, nat_tests)

digits_by : (letter : ℕ) (t : Bool) (digits : List ℕ) → is_digit letter ≡ t → AllDigits 10 digits → AllDigits 10 (cond t (letter ∷ digits) [])
digits_by letter true digits is all = (digit_small letter is, all)
digits_by letter false digits is all = tt

front_digits : (text : List ℕ) → AllDigits 10 (front_letters is_digit text)
front_digits [] = tt
front_digits (letter ∷ text) = digits_by letter (is_digit letter) (front_letters is_digit text) refl (front_digits text)

zero_spelled : length (decimal 0) ≡ 1
unfolding digits
zero_spelled = refl

one_digit : (number : ℕ) → number < 2 ^ 64 → (number ≡ 0) ⊎ (0 < number) → get_or (decimal number) 0 0 ≡ 48 → length (decimal number) ≡ 1
one_digit number wide (inl none) is = ap (λ n. length (decimal n)) none ∙ zero_spelled
one_digit number wide (inr some) is = let first = first_decimal number some wide in absurd (omega arith)

zero_or_more : (n : ℕ) → (n ≡ 0) ⊎ (0 < n)
zero_or_more zero = inl refl
zero_or_more (suc n) = inr (omega arith)

decimal_spelled : (number : ℕ) → number < 2 ^ 64 → HasNoNeedlessZero (decimal number)
decimal_spelled number wide = ((decimal_is_IsNumeral number wide).0.0, one_digit number wide (zero_or_more number))

-- a number that is read is spelled so, where it has no needless zero
pub number_spelled : (text tail rest : List ℕ) (number : ℕ) → HasNoNeedlessZero (front_letters is_digit text) → long (number_at text) ≡ number → number < 2 ^ 32
    → after_letters is_digit text ≡ tail ++ rest → text ≡ decimal number ++ (tail ++ rest)
number_spelled text tail rest number spelled is small behind_is =
    let value : digits_value 10 (front_letters is_digit text) ≡ number = omega arith in
    let word = decimal-digits_value (numerals_by_value _ tells_digits) (front_letters is_digit text) (front_digits text) spelled.0 spelled.1 (omega arith) in
    sym (front_letters-after is_digit text) ∙ ap (λ l. l ++ after_letters is_digit text) (sym word ∙ ap decimal value) ∙ ap (λ l. decimal number ++ l) behind_is

-- a number that is spelled is read so
pub record ReadsNumber (text tail : List ℕ) (number : ℕ) : Type 0 where
  pub digits : HasNoNeedlessZero (front_letters is_digit text)
  pub value : long (number_at text) ≡ number
  pub rest : after_letters is_digit text ≡ 42 ∷ tail

pub number_read : (text tail : List ℕ) (number : ℕ) → number < 2 ^ 32 → text ≡ decimal number ++ 42 ∷ tail → ReadsNumber text tail number
number_read text tail number small is =
    let wide : number < 2 ^ 64 = omega arith in
    let word : front_letters is_digit text ≡ decimal number = ap (front_letters is_digit) is ∙ front-stop is_digit (decimal number) 42 tail (decimal_digits number wide) refl in
    let value : digits_value 10 (front_letters is_digit text) ≡ number = ap (digits_value 10) word ∙ decimal_value number wide in
    record {
      digits = subst (λ (l : List ℕ). HasNoNeedlessZero l) (sym word) (decimal_spelled number wide);
      value = let v = value in omega arith;
      rest = ap (after_letters is_digit) is ∙ behind-stop is_digit (decimal number) 42 tail (decimal_digits number wide) refl;
    }

-- what a test of a front says
pub record TellsFront (test : Bool) (bytes text : List ℕ) : Type 0 where
  pub stands : IsTrue test → bytes ≡ text ++ drop (length text) bytes
  pub differs : (rest : List ℕ) → bytes ≡ text ++ rest → IsTrue test

abbrev pub begin : List ℕ
begin = codes "/*!begin:re2c "

-- the mark of a number, with a line behind it
pub mark_spelled : (bytes rest line more : List ℕ) (number : ℕ) → bytes ≡ begin ++ drop 14 bytes → HasNoNeedlessZero (front_letters is_digit (drop 14 bytes))
    → long (number_at (drop 14 bytes)) ≡ number → number < 2 ^ 32 → after_letters is_digit (drop 14 bytes) ≡ codes "*/" ++ (line ++ more) → bytes ≡ begin_mark number ++ (line ++ more)
mark_spelled bytes rest line more number begins spelled value small closes =
    begins ∙ ap (λ t. begin ++ t) (number_spelled (drop 14 bytes) (codes "*/") (line ++ more) number spelled value small closes ∙ sym (append_assoc (decimal number) (codes "*/") (line ++ more)))

pub mark_read : (bytes more : List ℕ) (number : ℕ) → number < 2 ^ 32 → bytes ≡ begin_mark number ++ more → ReadsNumber (drop 14 bytes) (47 ∷ more) number
mark_read bytes more number small is =
    number_read (drop 14 bytes) (47 ∷ more) number small (ap (drop 14) is ∙ append_assoc (decimal number) (codes "*/") more)

pub numbered_decides : (bytes : List ℕ) (number : ℕ) (begins spelled same closes all : Bool) → number < 2 ^ 32 → TellsFront begins bytes begin
    → IsTrue spelled ↔ HasNoNeedlessZero (front_letters is_digit (drop 14 bytes)) → IsTrue same ↔ (long (number_at (drop 14 bytes)) ≡ number)
    → TellsFront closes (after_letters is_digit (drop 14 bytes)) (codes "*/") → IsTrue all ↔ (IsTrue begins × IsTrue spelled × IsTrue same × IsTrue closes)
    → IsTrue all ↔ BeginsBlock (Some number) bytes
numbered_decides bytes number begins spelled same closes all small begins_is spelled_is same_is closes_is all_is = (
  λ e.
      let each = all_is.0 e in
      let more = drop 2 (after_letters is_digit (drop 14 bytes)) in
      (more, mark_spelled bytes more [] more number (begins_is.stands each.0) (spelled_is.0 each.1) (same_is.0 each.2) small (closes_is.stands each.3)),
  λ block.
      let reads = mark_read bytes block.0 number small block.1 in
      all_is.1 (begins_is.differs _ block.1, spelled_is.1 reads.digits, same_is.1 reads.value, closes_is.differs block.0 reads.rest),
)

pub scanner_decides : (bytes : List ℕ) (value : ℕ) (begins spelled fits names head closes all : Bool) → TellsFront begins bytes begin
    → IsTrue spelled ↔ HasNoNeedlessZero (front_letters is_digit (drop 14 bytes)) → value ≡ long (number_at (drop 14 bytes)) → IsTrue fits ↔ (value < 2 ^ 32)
    → TellsFront names (after_letters is_digit (drop 14 bytes)) (codes "*/\n/*!names:re2c ") → TellsFront head (after_letters is_digit (drop 14 bytes)) (codes "*/\n/*!head:re2c ")
    → IsTrue closes ↔ (IsTrue names ⊎ IsTrue head) → IsTrue all ↔ (IsTrue begins × IsTrue spelled × IsTrue fits × IsTrue closes)
    → IsTrue all ↔ BeginsBlock None bytes
scanner_decides bytes value begins spelled fits names head closes all begins_is spelled_is value_is fits_is names_is head_is closes_is all_is = (forth, back)
  where
    rest : List ℕ
    rest = after_letters is_digit (drop 14 bytes)

    mark : (line more : List ℕ) → IsTrue all → rest ≡ codes "*/" ++ (line ++ more) → bytes ≡ begin_mark value ++ (line ++ more)
    mark line more e stands =
        let each = all_is.0 e in
        mark_spelled bytes more line more value (begins_is.stands each.0) (spelled_is.0 each.1) (sym value_is) (fits_is.0 each.2) stands

    found : IsTrue all → IsTrue names ⊎ IsTrue head → BeginsBlock None bytes
    found e (inl stands) = (value, fits_is.0 (all_is.0 e).2, false, drop 17 rest, mark (scanner_line false) (drop 17 rest) e (names_is.stands stands))
    found e (inr stands) = (value, fits_is.0 (all_is.0 e).2, true, drop 16 rest, mark (scanner_line true) (drop 16 rest) e (head_is.stands stands))

    forth : IsTrue all → BeginsBlock None bytes
    forth e = found e (closes_is.0 (all_is.0 e).3)

    line_stands : (headed : Bool) (more : List ℕ) → rest ≡ 42 ∷ 47 ∷ (scanner_line headed ++ more) → IsTrue names ⊎ IsTrue head
    line_stands false more is = inl (names_is.differs more is)
    line_stands true more is = inr (head_is.differs more is)

    back : BeginsBlock None bytes → IsTrue all
    back block =
        let reads = mark_read bytes (scanner_line block.2 ++ block.3) block.0 block.1 block.4 in
        all_is.1 (
          begins_is.differs _ block.4,
          spelled_is.1 reads.digits,
          fits_is.1 (subst (λ n. n < 2 ^ 32) (sym (value_is ∙ reads.value)) block.1),
          closes_is.1 (line_stands block.2 block.3 reads.rest),
        )
