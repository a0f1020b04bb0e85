-- Escapes and the digits in them.
use Rattle.std.proofs.Common.{◌≡◌, ◌≢◌, ℕ, zero, suc, ◌<◌, ◌≤◌, ◌⊎◌, inl, inr, ⊎_elim, Bool, true, false, cond, List, [], ◌∷◌, ◌++◌, length, take, refl, sym, ◌∙◌, ap, subst, arith, ◌==◌, eq-eqb, nat_le}
use Rattle.std.proofs.lemmas.Bool.{ne_eqb}
use Rattle.std.proofs.lemmas.Bool.Decides.{nat_tests, eqb_tells, leb_tells}
use Rattle.lx_base.specs.Letters.{EachLetter}
use Rattle.lx_token.specs.Quoted.{is_octal_digit, is_hex_digit, begins_with_digits, is_escape, after_close}
use Rattle.lx_token.specs.Items.{AreDigits, IsEscape}
use Rattle.lx_token.specs.Items.IsEscape.{two, four, eight, octal, bare}

octal_is_hex : (letter : ℕ) → is_octal_digit letter ≡ true → is_hex_digit letter ≡ true
octal_is_hex letter h = grind (arith, nat_tests)

hex_differs : (letter other : ℕ) → is_hex_digit letter ≡ true → is_hex_digit other ≡ false → letter ≢ other
hex_differs letter other h none = λ same. let clash : true ≡ false = sym h ∙ ap is_hex_digit same ∙ none in cc

-- digits are passed over as other bytes are
pub after_close-digits : (close : ℕ) (digits text : List ℕ) → is_hex_digit close ≡ false → EachLetter is_hex_digit digits →
    after_close close false (digits ++ text) ≡ after_close close false text
after_close-digits close [] text no_digit each = refl
after_close-digits close (letter ∷ digits) text no_digit each =
    let test = ne_eqb letter close (hex_differs letter close each.0 no_digit) in
    let line = ne_eqb letter 10 (hex_differs letter 10 each.0 refl) in
    let backslash = ne_eqb letter 92 (hex_differs letter 92 each.0 refl) in
    rw (test, line, backslash) (after_close-digits close digits text no_digit each.1)

octals_are_hex : (digits : List ℕ) → EachLetter is_octal_digit digits → EachLetter is_hex_digit digits
octals_are_hex [] each = tt
octals_are_hex (letter ∷ digits) each = (octal_is_hex letter each.0, octals_are_hex digits each.1)

-- the digits that a text begins with
begins-digits : (test : ℕ → Bool) (count : ℕ) (text : List ℕ) → begins_with_digits test count text ≡ true → AreDigits test count (take count text)
begins-digits test zero text h = (refl, tt)
begins-digits test (suc count) [] h = absurd (cc)
begins-digits test (suc count) (letter ∷ text) h = at (test letter) refl (λ more. begins-digits test count text more)
  where
    at : (b : Bool) → test letter ≡ b → (begins_with_digits test count text ≡ true → AreDigits test count (take count text)) →
        AreDigits test (suc count) (letter ∷ take count text)
    at true is more = let rest = more (rw is at h) in let size = rest.0 in (omega arith, (is, rest.1))
    at false is more = let clash = rw is at h in absurd (cc)

digits-begin : (test : ℕ → Bool) (digits text : List ℕ) → EachLetter test digits → begins_with_digits test (length digits) (digits ++ text) ≡ true
digits-begin test [] text each = refl
digits-begin test (letter ∷ digits) text each = rw each.0 (digits-begin test digits text each.1)

-- what is left of a text behind as many digits
pub record LeavesDigits (letter : ℕ) (text : List ℕ) : Type 0 where
  pub count : ℕ
  pub is_escape : IsEscape letter (take count text)
  pub digits : EachLetter is_hex_digit (take count text)

only_octal : (letter : ℕ) → is_octal_digit letter ≡ false → (letter < 48) ⊎ (55 < letter)
only_octal letter h =
    ⊎_elim
    (λ low. ⊎_elim (λ high. absurd (let clash = rw (low.0, high.0) at h in cc)) (λ high. inr high.1) (leb_tells letter 55))
    (λ low. inl low.1) (leb_tells 48 letter)

pub escape-digits : (letter : ℕ) (text : List ℕ) → is_escape letter text ≡ true → LeavesDigits letter text
escape-digits letter text h =
    ⊎_elim
    (λ x. let digits = begins-digits is_hex_digit 2 text (rw x.0 at h) in record { count = 2; is_escape = two x.1 digits; digits = digits.1 })
    (λ no_x.
    ⊎_elim
    (λ u.
    let digits = begins-digits is_hex_digit 4 text (rw (no_x.0, u.0) at h) in
    record { count = 4; is_escape = four (inl u.1) digits; digits = digits.1 })
    (λ no_u.
    ⊎_elim
    (λ x.
    let digits = begins-digits is_hex_digit 4 text (rw (no_x.0, no_u.0, x.0) at h) in
    record { count = 4; is_escape = four (inr x.1) digits; digits = digits.1 })
    (λ no_X.
    ⊎_elim
    (λ u.
    let digits = begins-digits is_hex_digit 8 text (rw (no_x.0, no_u.0, no_X.0, u.0) at h) in
    record { count = 8; is_escape = eight u.1 digits; digits = digits.1 })
    (λ no_U. at_octal (is_octal_digit letter) refl (rw (no_x.0, no_u.0, no_X.0, no_U.0) at h) no_x.1 no_u.1 no_X.1 no_U.1)
    (eqb_tells letter 85)) (eqb_tells letter 88)) (eqb_tells letter 117)) (eqb_tells letter 120)
  where
    at_octal : (b : Bool) → is_octal_digit letter ≡ b →
        cond (is_octal_digit letter) (cond (nat_le letter 51) (begins_with_digits is_octal_digit 2 text) false) (cond (letter == 10) false true) ≡ true →
        letter ≢ 120 → letter ≢ 117 → letter ≢ 88 → letter ≢ 85 → LeavesDigits letter text
    at_octal true is rest no_x no_u no_X no_U =
        ⊎_elim
        (λ low.
        let digits = begins-digits is_octal_digit 2 text (rw (is, low.0) at rest) in
        let first : 48 ≤ letter = grind (arith, nat_tests) in
        record { count = 2; is_escape = octal first low.1 digits; digits = octals_are_hex (take 2 text) digits.1 })
        (λ high. let clash = rw (is, high.0) at rest in absurd (cc)) (leb_tells letter 51)
    at_octal false is rest no_x no_u no_X no_U =
        ⊎_elim
        (λ line. let clash = rw (is, line.0) at rest in absurd (cc))
        (λ no_line. record {
          count = 0;
          is_escape = bare (record { no_hex = no_x; no_small = no_u; no_capital = no_X; no_long = no_U; no_octal = only_octal letter is; no_line = no_line.1 }) refl;
          digits = tt;
        }) (eqb_tells letter 10)

digits_begin-count : (test : ℕ → Bool) (count : ℕ) (digits text : List ℕ) → AreDigits test count digits →
    begins_with_digits test count (digits ++ text) ≡ true
digits_begin-count test count digits text are =
    subst (λ n. begins_with_digits test n (digits ++ text) ≡ true) are.0 (digits-begin test digits text are.1)

pub no_octal_digit : (letter : ℕ) → (letter < 48) ⊎ (55 < letter) → is_octal_digit letter ≡ false
no_octal_digit letter outside = grind (arith, nat_tests)

pub escape-begins : (letter : ℕ) (digits text : List ℕ) → IsEscape letter digits → is_escape letter (digits ++ text) ≡ true
escape-begins letter digits text (two is are) = rw (eq-eqb letter 120 is) (digits_begin-count is_hex_digit 2 digits text are)
escape-begins letter digits text (four (inl is) are) =
    rw (ne_eqb letter 120 (omega arith), eq-eqb letter 117 is) (digits_begin-count is_hex_digit 4 digits text are)
escape-begins letter digits text (four (inr is) are) =
    rw (ne_eqb letter 120 (omega arith), ne_eqb letter 117 (omega arith), eq-eqb letter 88 is) (digits_begin-count is_hex_digit 4 digits text are)
escape-begins letter digits text (eight is are) =
    rw (ne_eqb letter 120 (omega arith), ne_eqb letter 117 (omega arith), ne_eqb letter 88 (omega arith), eq-eqb letter 85 is)
    (digits_begin-count is_hex_digit 8 digits text are)
escape-begins letter digits text (octal from to are) =
    let is_octal : is_octal_digit letter ≡ true = grind (arith, nat_tests) in
    let low : nat_le letter 51 ≡ true = grind (arith, nat_tests) in
    rw (
      ne_eqb letter 120 (omega arith),
      ne_eqb letter 117 (omega arith),
      ne_eqb letter 88 (omega arith),
      ne_eqb letter 85 (omega arith),
      is_octal,
      low,
    ) (digits_begin-count is_octal_digit 2 digits text are)
escape-begins letter digits text (bare needs none) =
    rw (
      ne_eqb letter 120 needs.no_hex,
      ne_eqb letter 117 needs.no_small,
      ne_eqb letter 88 needs.no_capital,
      ne_eqb letter 85 needs.no_long,
      no_octal_digit letter needs.no_octal,
      ne_eqb letter 10 needs.no_line,
    )

pub escape_digits_are_hex : (letter : ℕ) (digits : List ℕ) → IsEscape letter digits → EachLetter is_hex_digit digits
escape_digits_are_hex letter digits (two is are) = are.1
escape_digits_are_hex letter digits (four is are) = are.1
escape_digits_are_hex letter digits (eight is are) = are.1
escape_digits_are_hex letter digits (octal from to are) = octals_are_hex digits are.1
escape_digits_are_hex letter digits (bare needs none) = subst (λ l. EachLetter is_hex_digit l) (sym none) tt
