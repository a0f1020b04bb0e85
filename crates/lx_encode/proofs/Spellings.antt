-- Spellings by their length.
use Rattle.std.proofs.Common.{◌≡◌, ℕ, ◌+◌, ◌-◌, ◌/◌, ◌%◌, ◌<◌, ◌≤◌, List, [], ◌∷◌, refl, ⊎_elim, arith}
use Rattle.std.proofs.lemmas.Bool.{cases_lt}
use Rattle.std.proofs.lemmas.Bool.Decides.{nat_tests}
use Rattle.lx_base.specs.Spelling.{continuation, utf8, utf16, spell}
use Rattle.lx_base.specs.declared.settings.Enc.{Enc}
use Rattle.lx_base.specs.declared.settings.Enc.TheVariants.{Byte, Ucs2, Utf8, Utf16, Utf32}

pub utf8-1 : (p : ℕ) → p < 0x80 → utf8 p ≡ p ∷ []
utf8-1 p lt = grind (arith, nat_tests)

pub utf8-2 : (p : ℕ) → 0x80 ≤ p → p < 0x800 → utf8 p ≡ (0xC0 + p / 64) ∷ continuation p ∷ []
utf8-2 p le lt = grind (arith, nat_tests)

pub utf8-3 : (p : ℕ) → 0x800 ≤ p → p < 0x10000 → utf8 p ≡ (0xE0 + p / 4096) ∷ continuation (p / 64) ∷ continuation p ∷ []
utf8-3 p le lt = grind (arith, nat_tests)

pub utf8-4 : (p : ℕ) → 0x10000 ≤ p → utf8 p ≡ (0xF0 + p / 262144) ∷ continuation (p / 4096) ∷ continuation (p / 64) ∷ continuation p ∷ []
utf8-4 p le = grind (arith, nat_tests)

pub utf16-1 : (p : ℕ) → p < 0x10000 → utf16 p ≡ p ∷ []
utf16-1 p lt = grind (arith, nat_tests)

pub utf16-2 : (p : ℕ) → 0x10000 ≤ p → utf16 p ≡ (0xD800 + (p - 0x10000) / 1024) ∷ (0xDC00 + (p - 0x10000) % 1024) ∷ []
utf16-2 p le = grind (arith, nat_tests)

-- a spelling has a first unit
pub utf8_first : (p : ℕ) → (u : ℕ) × (us : List ℕ) × (utf8 p ≡ u ∷ us)
utf8_first p =
    ⊎_elim (λ lt. (p, [], utf8-1 p lt))
    (λ le. ⊎_elim (λ lt. (0xC0 + p / 64, continuation p ∷ [], utf8-2 p le lt))
    (λ le'. ⊎_elim (λ lt. (0xE0 + p / 4096, continuation (p / 64) ∷ continuation p ∷ [], utf8-3 p le' lt))
    (λ le''. (0xF0 + p / 262144, continuation (p / 4096) ∷ continuation (p / 64) ∷ continuation p ∷ [], utf8-4 p le''))
    (cases_lt p 0x10000)) (cases_lt p 0x800)) (cases_lt p 0x80)

pub utf16_first : (p : ℕ) → (u : ℕ) × (us : List ℕ) × (utf16 p ≡ u ∷ us)
utf16_first p =
    ⊎_elim (λ lt. (p, [], utf16-1 p lt))
    (λ le. (0xD800 + (p - 0x10000) / 1024, (0xDC00 + (p - 0x10000) % 1024) ∷ [], utf16-2 p le)) (cases_lt p 0x10000)

pub spell_first : (enc : Enc) (p : ℕ) → (u : ℕ) × (us : List ℕ) × (spell enc p ≡ u ∷ us)
spell_first Byte p = (p, [], refl)
spell_first Ucs2 p = (p, [], refl)
spell_first Utf8 p = utf8_first p
spell_first Utf16 p = utf16_first p
spell_first Utf32 p = (p, [], refl)
