use Rattle.std.proofs.Common.{[], ℕ, List, arith, refl, ap, append_assoc, ⊎_elim, Bool, true, ◌/◌, ◌%◌, ◌<◌, ◌≤◌, ◌∙◌, ◌∷◌, ◌≡◌}
use Rattle.std.proofs.lemmas.Bool.{cases_lt, lt-ltb, le-ltb, eq-eqb, ne_eqb}
use Rattle.std.specs.Fmt.{digit_glyph, digits, digits_onto}
use Rattle.std.specs.Prelude.{if◌then◌else◌}
use Rattle.lx_ccode.specs.Text.{hexadecimal}
use Rattle.lx_ccode.proofs.numerals.append_hexadecimal.Goals as goal

-- the digits of a number before others: its last one, and where it is not the only one, those before it
abbrev next_digits : (k n : ℕ) (behind : List ℕ) → Bool → List ℕ
next_digits k n behind last = if last then digit_glyph true (n % 16) ∷ behind else digits_onto k 16 true (n / 16) (digit_glyph true (n % 16) ∷ behind)

hexadecimal-small : (n : ℕ) → n < 16 → digits 16 true n ≡ digit_glyph true n ∷ []
unfolding digits
hexadecimal-small n h = ap (next_digits 63 n []) (eq-eqb (n / 16) 0 (omega arith)) ∙ ap (λ (d : ℕ). digit_glyph true d ∷ []) (omega arith)

hexadecimal-large : (n : ℕ) → 16 ≤ n → n < 256 → digits 16 true n ≡ digit_glyph true (n / 16) ∷ digit_glyph true (n % 16) ∷ []
unfolding digits
hexadecimal-large n more less =
    let last : List ℕ = digit_glyph true (n % 16) ∷ [] in
    ap (next_digits 63 n []) (ne_eqb (n / 16) 0 (λ e. omega arith)) ∙ ap (next_digits 62 (n / 16) last) (eq-eqb (n / 16 / 16) 0 (omega arith))
    ∙ ap (λ (d : ℕ). digit_glyph true d ∷ last) (omega arith)

hexadecimal-byte : (n : ℕ) → n < 256 → hexadecimal n ≡ digit_glyph true (n / 16) ∷ digit_glyph true (n % 16) ∷ []
hexadecimal-byte n lt = ⊎_elim
    (λ less.
    let none : n / 16 ≡ 0 = omega arith in
    let same : n % 16 ≡ n = omega arith in
    rw (lt-ltb n 16 less, hexadecimal-small n less, none, same) refl)
    (λ more. rw (le-ltb n 16 more) (hexadecimal-large n more lt))
    (cases_lt n 16)

pub returns-then-number-lt256 : goal.returns-then-number-lt256
returns-then-number-lt256 c =
    let before = c.args.text.now.items in
    let number = c.args.number in
    rw (c.in_ok-push-2.ensures.items, c.in_ok-push.ensures.items, c.hexadecimal_digit.ensures, c.hexadecimal_digit-then-number-lt256.ensures, hexadecimal-byte number c.if-number-lt256.true) (append_assoc before (digit_glyph true (number / 16) ∷ []) (digit_glyph true (number % 16) ∷ []))
