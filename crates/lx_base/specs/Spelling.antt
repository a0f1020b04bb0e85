-- The code units that spell a code point (Unicode 15, section 3.9, "Unicode Encoding Forms").
use Rattle.std.specs.Prelude.{ℕ, ◌+◌, ◌-◌, ◌/◌, ◌%◌, List, [], ◌∷◌, nat_lt, if◌then◌else◌}
use Rattle.lx_base.specs.declared.settings.Enc.{Enc}
use Rattle.lx_base.specs.declared.settings.Enc.TheVariants.{Byte, Ucs2, Utf8, Utf16, Utf32}

-- a later byte of a UTF-8 spelling, with the last six bits of the number
abbrev pub continuation : ℕ → ℕ
continuation number = 0x80 + number % 64

-- UTF-8 by the general pattern, which serves surrogates too
abbrev pub utf8 : ℕ → List ℕ
utf8 point =
    if nat_lt point 0x80 then point ∷ []
    else (if nat_lt point 0x800 then (0xC0 + point / 64) ∷ continuation point ∷ []
    else (if nat_lt point 0x10000 then (0xE0 + point / 4096) ∷ continuation (point / 64) ∷ continuation point ∷ []
    else (0xF0 + point / 262144) ∷ continuation (point / 4096) ∷ continuation (point / 64) ∷ continuation point ∷ []))

-- one unit below 0x10000, and else a high and a low surrogate
abbrev pub utf16 : ℕ → List ℕ
utf16 point =
    if nat_lt point 0x10000 then point ∷ []
    else (0xD800 + (point - 0x10000) / 1024) ∷ (0xDC00 + (point - 0x10000) % 1024) ∷ []

-- the code units of a code point, for points up to the encoding's greatest
abbrev pub spell : Enc → ℕ → List ℕ
spell Byte point = point ∷ []
spell Ucs2 point = point ∷ []
spell Utf8 point = utf8 point
spell Utf16 point = utf16 point
spell Utf32 point = point ∷ []

-- the greatest code point that an encoding spells
abbrev pub greatest_point : Enc → ℕ
greatest_point Byte = 0xFF
greatest_point Ucs2 = 0xFFFF
greatest_point Utf8 = 0x10FFFF
greatest_point Utf16 = 0x10FFFF
greatest_point Utf32 = 0x10FFFF

-- the greatest code unit of an encoding
abbrev pub greatest_unit : Enc → ℕ
greatest_unit Byte = 0xFF
greatest_unit Ucs2 = 0xFFFF
greatest_unit Utf8 = 0xFF
greatest_unit Utf16 = 0xFFFF
greatest_unit Utf32 = 0xFFFFFFFF
