-- The characters of a string or class are those of its items.
use Rattle.std.proofs.Common.{◌≡◌, ℕ, zero, suc, ◌+◌, ◌-◌, ◌*◌, ◌≤◌, inl, inr, true, List, [], ◌∷◌, ◌++◌, length, take, map, refl, sym, ◌∙◌, ap, arith, eq-eqb, append_assoc, length-append}
use Rattle.std.proofs.Math.Seq.{take-append_seam, drop-append_seam}
use Rattle.std.proofs.lemmas.Bool.{ne_eqb}
use Rattle.std.proofs.lemmas.Bool.Decides.{nat_tests}
use Rattle.lx_token.specs.Quoted.{is_octal_digit}
use Rattle.lx_token.specs.Characters.{digit_value, digits_value, escape_point, escape_size, characters_behind, characters_of}
use Rattle.lx_token.specs.Items.{IsEscape, Item, AreItems, spelled, character_of}
use Rattle.lx_token.specs.Items.IsEscape.{two, four, eight, octal, bare}
use Rattle.lx_token.specs.Items.Item.{Plain, Escape}
use Rattle.lx_token.proofs.Skipping.{characters_behind-skip}
use Rattle.lx_token.proofs.Escapes.{no_octal_digit}

-- what stands behind the digits does not count
digits_value-front : (base count value : ℕ) (digits text : List ℕ) → length digits ≡ count →
    digits_value base count value (digits ++ text) ≡ digits_value base count value digits
digits_value-front base zero value digits text size = refl
digits_value-front base (suc count) value [] text size = absurd (omega arith)
digits_value-front base (suc count) value (letter ∷ digits) text size =
    digits_value-front base count (base * value + digit_value letter) digits text (omega arith)

is_octal : (letter : ℕ) → 48 ≤ letter → letter ≤ 51 → is_octal_digit letter ≡ true
is_octal letter from to = grind (arith, nat_tests)

escape_point-front : (letter : ℕ) (digits text : List ℕ) → IsEscape letter digits → escape_point (letter ∷ digits ++ text) ≡ escape_point (letter ∷ digits)
escape_point-front letter digits text (two is are) = rw (eq-eqb letter 120 is) (digits_value-front 16 2 0 digits text are.0)
escape_point-front letter digits text (four (inl is) are) =
    rw (ne_eqb letter 120 (omega arith), eq-eqb letter 117 is) (digits_value-front 16 4 0 digits text are.0)
escape_point-front letter digits text (four (inr is) are) =
    rw (ne_eqb letter 120 (omega arith), ne_eqb letter 117 (omega arith), eq-eqb letter 88 is) (digits_value-front 16 4 0 digits text are.0)
escape_point-front letter digits text (eight is are) =
    rw (ne_eqb letter 120 (omega arith), ne_eqb letter 117 (omega arith), ne_eqb letter 88 (omega arith), eq-eqb letter 85 is)
    (digits_value-front 16 8 0 digits text are.0)
escape_point-front letter digits text (octal from to are) =
    rw (
      ne_eqb letter 120 (omega arith),
      ne_eqb letter 117 (omega arith),
      ne_eqb letter 88 (omega arith),
      ne_eqb letter 85 (omega arith),
      is_octal letter from to,
    ) (digits_value-front 8 2 (letter - 48) digits text are.0)
escape_point-front letter digits text (bare needs none) =
    rw (
      ne_eqb letter 120 needs.no_hex,
      ne_eqb letter 117 needs.no_small,
      ne_eqb letter 88 needs.no_capital,
      ne_eqb letter 85 needs.no_long,
      no_octal_digit letter needs.no_octal,
    )

escape_size-is : (letter : ℕ) (digits text : List ℕ) → IsEscape letter digits → escape_size (letter ∷ text) ≡ suc (length digits)
escape_size-is letter digits text (two is are) = let size = are.0 in rw (eq-eqb letter 120 is) (omega arith)
escape_size-is letter digits text (four (inl is) are) =
    let size = are.0 in rw (ne_eqb letter 120 (omega arith), eq-eqb letter 117 is) (omega arith)
escape_size-is letter digits text (four (inr is) are) =
    let size = are.0 in rw (ne_eqb letter 120 (omega arith), ne_eqb letter 117 (omega arith), eq-eqb letter 88 is) (omega arith)
escape_size-is letter digits text (eight is are) =
    let size = are.0 in
    rw (ne_eqb letter 120 (omega arith), ne_eqb letter 117 (omega arith), ne_eqb letter 88 (omega arith), eq-eqb letter 85 is) (omega arith)
escape_size-is letter digits text (octal from to are) =
    let size = are.0 in
    rw (
      ne_eqb letter 120 (omega arith),
      ne_eqb letter 117 (omega arith),
      ne_eqb letter 88 (omega arith),
      ne_eqb letter 85 (omega arith),
      is_octal letter from to,
    ) (omega arith)
escape_size-is letter digits text (bare needs none) =
    let size = ap length none in
    rw (
      ne_eqb letter 120 needs.no_hex,
      ne_eqb letter 117 needs.no_small,
      ne_eqb letter 88 needs.no_capital,
      ne_eqb letter 85 needs.no_long,
      no_octal_digit letter needs.no_octal,
    ) (omega arith)

spelled-tail : (items : List Item) (tail : List ℕ) → spelled items tail ≡ spelled items [] ++ tail
spelled-tail [] tail = refl
spelled-tail (Plain letter ∷ items) tail = ap (λ (l : List ℕ). letter ∷ l) (spelled-tail items tail)
spelled-tail (Escape letter digits ∷ items) tail =
    ap (λ (l : List ℕ). 92 ∷ letter ∷ l)
    (ap (λ (l : List ℕ). digits ++ l) (spelled-tail items tail) ∙ sym (append_assoc digits (spelled items []) tail))

characters_behind-items : (close : ℕ) (items : List Item) → AreItems close items → characters_behind 0 (spelled items []) ≡ map character_of items
characters_behind-items close [] are = refl
characters_behind-items close (Plain letter ∷ items) are =
    let more = characters_behind-items close items are.1 in rw (ne_eqb letter 92 are.0.1, more)
characters_behind-items close (Escape letter digits ∷ items) are =
    let more = characters_behind-items close items are.1 in
    let rest = spelled items [] in
    let size = escape_size-is letter digits (digits ++ rest) are.0 in
    let point = escape_point-front letter digits rest are.0 in
    let skip = characters_behind-skip (length digits) (digits ++ rest) in
    let jump = drop-append_seam digits rest in rw (size, point, skip, jump, more)

pub characters_of-items : (opener close : ℕ) (items : List Item) → AreItems close items →
    characters_of (opener ∷ spelled items (close ∷ [])) ≡ map character_of items
characters_of-items opener close items are =
    let text = spelled items [] in
    let split = spelled-tail items (close ∷ []) in
    let size : length (opener ∷ (text ++ close ∷ [])) - 2 ≡ length text = omega (arith, length-append text (close ∷ [])) in
    let inner : take (length (opener ∷ (text ++ close ∷ [])) - 2) (text ++ close ∷ []) ≡ text = rw size (take-append_seam text (close ∷ [])) in
    rw (split, inner) (characters_behind-items close items are)
