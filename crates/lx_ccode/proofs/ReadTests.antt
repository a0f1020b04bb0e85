-- Tests of a set of units are read again.
use Rattle.std.proofs.Common.{◌*◌, ◌++◌, ◌+◌, ◌-◌, ◌/◌, ◌<◌, ◌^◌, ◌∙◌, ◌∷◌, ◌≡◌, ◌≤◌, List, ap, append_assoc, arith, false, inl, inr, refl, subst, suc, sym, true, zero, ℕ, ⊎_elim}
use Rattle.std.proofs.lemmas.Bool.{cases_lt, le-leb, le-ltb, lt-leb, lt-ltb, ltb-true}
use Rattle.std.specs.Char.{digit_value}
use Rattle.std.specs.Prelude.{◌==◌, ◌⊎◌, codes}
use Rattle.lx_base.specs.Letters.{EachLetter, is_hexadecimal, is_in_identifier, is_in_spelling, after_letters}
use Rattle.lx_ccode.specs.Reading.{bit_place, byte_at, set_at}
use Rattle.lx_ccode.specs.Text.{group_text, hexadecimal}
use Rattle.lx_ccode.proofs.Words.{EachLetter-from, EachLetter-spelling, behind-stop, behind-word, front-stop, hexadecimal_digits, hexadecimal_value, is_in_identifier-digit, is_in_identifier-letter}

-- ---- letters of hexadecimal numbers

value_range : (letter : ℕ) → digit_value letter < 16
    → ((48 ≤ letter) × (letter ≤ 57)) ⊎ (((65 ≤ letter) × (letter ≤ 70)) ⊎ ((97 ≤ letter) × (letter ≤ 102)))
value_range letter h = ⊎_elim
    (λ less. absurd (let bad : 36 < 16 = rw (lt-ltb letter 48 less) at h in omega (arith, bad)))
    (λ more. ⊎_elim
    (λ below. inl (more, omega (arith, below)))
    (λ above. ⊎_elim
    (λ less. absurd (let bad : 36 < 16 = rw (le-ltb letter 48 more, le-ltb letter 58 above, lt-ltb letter 65 less) at h in omega (arith, bad)))
    (λ upper. ⊎_elim
    (λ below. let value : letter - 55 < 16 = rw (le-ltb letter 48 more, le-ltb letter 58 above, le-ltb letter 65 upper, lt-ltb letter 91 below) at h in inr (inl (upper, omega (arith, value))))
    (λ past. ⊎_elim
    (λ less. absurd (let bad : 36 < 16 = rw (le-ltb letter 48 more, le-ltb letter 58 above, le-ltb letter 65 upper, le-ltb letter 91 past, lt-ltb letter 97 less) at h in omega (arith, bad)))
    (λ lower. ⊎_elim
    (λ below. let value : letter - 87 < 16 = rw (le-ltb letter 48 more, le-ltb letter 58 above, le-ltb letter 65 upper, le-ltb letter 91 past, le-ltb letter 97 lower, lt-ltb letter 123 below) at h in inr (inr (lower, omega (arith, value))))
    (λ none. absurd (let bad : 36 < 16 = rw (le-ltb letter 48 more, le-ltb letter 58 above, le-ltb letter 65 upper, le-ltb letter 91 past, le-ltb letter 97 lower, le-ltb letter 123 none) at h in omega (arith, bad)))
    (cases_lt letter 123))
    (cases_lt letter 97))
    (cases_lt letter 91))
    (cases_lt letter 65))
    (cases_lt letter 58))
    (cases_lt letter 48)

is_in_identifier-hexadecimal : (letter : ℕ) → is_hexadecimal letter ≡ true → is_in_identifier letter ≡ true
is_in_identifier-hexadecimal letter h = elim (value_range letter (ltb-true (digit_value letter) 16 h)) [
  | inl digit ↦ is_in_identifier-digit letter (rw (le-leb 48 letter digit.0, le-leb letter 57 digit.1) refl)
  | inr other ↦ is_in_identifier-letter letter (elim other [
    | inl upper ↦ (let low : letter < 97 = omega (arith, upper.1) in let high : letter ≤ 90 = omega (arith, upper.1) in rw (lt-leb 97 letter low, le-leb 65 letter upper.0, le-leb letter 90 high) refl)
    | inr lower ↦ (let high : letter ≤ 122 = omega (arith, lower.1) in rw (le-leb 97 letter lower.0, le-leb letter 122 high) refl)
  ])
]

hexadecimal_spelling : (number : ℕ) → number < 2 ^ 64 → EachLetter is_in_spelling (hexadecimal number)
hexadecimal_spelling number h =
    EachLetter-spelling (hexadecimal number) (EachLetter-from is_hexadecimal is_in_identifier is_in_identifier-hexadecimal (hexadecimal number) (hexadecimal_digits number h))

-- ---- the set whose table is asked

-- a mask tells its bit, and is small
pub mask_tells : (bit : ℕ) → bit < 8 → (bit_place (2 ^ bit) ≡ bit) × (2 ^ bit < 256)
mask_tells zero h = (refl, omega arith)
mask_tells (suc zero) h = (refl, omega arith)
mask_tells (suc (suc zero)) h = (refl, omega arith)
mask_tells (suc (suc (suc zero))) h = (refl, omega arith)
mask_tells (suc (suc (suc (suc zero)))) h = (refl, omega arith)
mask_tells (suc (suc (suc (suc (suc zero))))) h = (refl, omega arith)
mask_tells (suc (suc (suc (suc (suc (suc zero)))))) h = (refl, omega arith)
mask_tells (suc (suc (suc (suc (suc (suc (suc zero))))))) h = (refl, omega arith)
mask_tells (suc (suc (suc (suc (suc (suc (suc (suc bit)))))))) h = absurd (omega arith)

-- the table at a unit, in a group of eight sets, up to the mask
abbrev pub asked_then : (group : ℕ) (word : List ℕ) (mask : ℕ) → List ℕ → List ℕ
asked_then group word mask tail = codes "yybm[" ++ (group_text group ++ (word ++ (codes "] & 0x" ++ (hexadecimal mask ++ 41 ∷ tail))))

-- the place of a group before what stands behind it
abbrev placed : (number : ℕ) (rest : List ℕ) → List ℕ
placed number rest = codes "yybm[0x" ++ (hexadecimal number ++ (codes " + " ++ rest))

group_placed : (group : ℕ) (rest : List ℕ) → codes "yybm[" ++ (group_text (suc group) ++ rest) ≡ placed (256 * suc group) rest
group_placed group rest = ap (λ (l : List ℕ). codes "yybm[0x" ++ l) (append_assoc (hexadecimal (256 * suc group)) (codes " + ") rest)

-- the word of a unit, the mask, and what stands behind it
abbrev masked : (word : List ℕ) (mask : ℕ) (tail : List ℕ) → List ℕ
masked word mask tail = word ++ (codes "] & 0x" ++ (hexadecimal mask ++ 41 ∷ tail))

-- what stands behind the first word of a test of a set: a space, `&` or `+`, and a space
pub record IsSetTest (rest : List ℕ) : Type 0 where
  pub no_less : (byte_at rest 1 == 60) ≡ false
  pub no_more : (byte_at rest 1 == 62) ≡ false
  pub no_minus : (byte_at rest 1 == 45) ≡ false
  pub space : (byte_at rest 2 == 32) ≡ true

module _ (word : List ℕ) (hw : EachLetter is_in_spelling word) where
  first_sign : (mask : ℕ) (tail : List ℕ) → IsSetTest (after_letters is_in_spelling (asked_then 0 word mask tail))
  first_sign mask tail =
      let e = behind-word is_in_spelling word (codes "] & 0x" ++ (hexadecimal mask ++ 41 ∷ tail)) hw in
      record { no_less = rw e refl; no_more = rw e refl; no_minus = rw e refl; space = rw e refl }

  later_sign : (place mask : ℕ) (tail : List ℕ) → place < 2 ^ 64 → IsSetTest (after_letters is_in_spelling (placed place (masked word mask tail)))
  later_sign place mask tail h =
      let e = behind-stop is_in_spelling (hexadecimal place) 32 (codes "+ " ++ masked word mask tail) (hexadecimal_spelling place h) refl in
      record { no_less = rw e refl; no_more = rw e refl; no_minus = rw e refl; space = rw e refl }

  pub set_sign : (group mask : ℕ) (tail : List ℕ) → 256 * group < 2 ^ 64 → IsSetTest (after_letters is_in_spelling (asked_then group word mask tail))
  set_sign zero mask tail h = first_sign mask tail
  set_sign (suc group) mask tail h =
      subst (λ (l : List ℕ). IsSetTest (after_letters is_in_spelling l)) (sym (group_placed group (masked word mask tail))) (later_sign (256 * suc group) mask tail h)

  set_at-first : (bit : ℕ) (tail : List ℕ) → bit < 8 → set_at (asked_then 0 word (2 ^ bit) tail) ≡ (bit, 41 ∷ tail)
  unfolding set_at
  set_at-first bit tail hb =
      let mask = mask_tells bit hb in
      let small : 2 ^ bit < 2 ^ 64 = (let less = mask.1 in omega (arith, less)) in
      rw (
        behind-word is_in_spelling word (codes "] & 0x" ++ (hexadecimal (2 ^ bit) ++ 41 ∷ tail)) hw,
        front-stop is_hexadecimal (hexadecimal (2 ^ bit)) 41 tail (hexadecimal_digits (2 ^ bit) small) refl,
        behind-stop is_hexadecimal (hexadecimal (2 ^ bit)) 41 tail (hexadecimal_digits (2 ^ bit) small) refl,
        hexadecimal_value (2 ^ bit) small,
        mask.0,
      ) refl

  set_at-later : (place bit : ℕ) (tail : List ℕ) → place < 2 ^ 64 → bit < 8
      → set_at (placed place (masked word (2 ^ bit) tail)) ≡ (8 * (place / 256) + bit, 41 ∷ tail)
  unfolding set_at
  set_at-later place bit tail h hb =
      let mask = mask_tells bit hb in
      let small : 2 ^ bit < 2 ^ 64 = (let less = mask.1 in omega (arith, less)) in
      rw (
        behind-stop is_in_spelling (hexadecimal place) 32 (codes "+ " ++ masked word (2 ^ bit) tail) (hexadecimal_spelling place h) refl,
        behind-word is_in_spelling word (codes "] & 0x" ++ (hexadecimal (2 ^ bit) ++ 41 ∷ tail)) hw,
        front-stop is_hexadecimal (hexadecimal place) 32 (codes "+ " ++ masked word (2 ^ bit) tail) (hexadecimal_digits place h) refl,
        hexadecimal_value place h,
        front-stop is_hexadecimal (hexadecimal (2 ^ bit)) 41 tail (hexadecimal_digits (2 ^ bit) small) refl,
        behind-stop is_hexadecimal (hexadecimal (2 ^ bit)) 41 tail (hexadecimal_digits (2 ^ bit) small) refl,
        hexadecimal_value (2 ^ bit) small,
        mask.0,
      ) refl

  -- the set is read, and what comes behind its mask is left
  pub set_at-asked : (group bit : ℕ) (tail : List ℕ) → 256 * group < 2 ^ 64 → bit < 8
      → set_at (asked_then group word (2 ^ bit) tail) ≡ (8 * group + bit, 41 ∷ tail)
  set_at-asked zero bit tail h hb =
      let same : bit ≡ 8 * 0 + bit = omega arith in
      set_at-first bit tail hb ∙ ap (λ (set : ℕ). (set, 41 ∷ tail)) same
  set_at-asked (suc group) bit tail h hb =
      let same : 8 * (256 * suc group / 256) + bit ≡ 8 * suc group + bit = omega arith in
      ap set_at (group_placed group (masked word (2 ^ bit) tail)) ∙ set_at-later (256 * suc group) bit tail h hb ∙ ap (λ (set : ℕ). (set, 41 ∷ tail)) same
