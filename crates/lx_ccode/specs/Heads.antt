-- The head line of a piece.
use Rattle.std.specs.Prelude.{ℕ, Bool, true, false, not, List, [], ◌∷◌, codes, Option, Some, None, if◌then◌else◌}
use Rattle.std.specs.Fmt.{decimal}
use Rattle.lx_base.specs.Text.{joined}
use Rattle.lx_base.specs.declared.settings.Format.{Format}
use Rattle.lx_base.specs.declared.settings.Format.TheVariants.{Two, Three}
use Rattle.lx_base.specs.declared.settings.Enc.{Enc}
use Rattle.lx_base.specs.declared.settings.Enc.TheVariants.{Byte, Ucs2, Utf8, Utf16, Utf32}
use Rattle.lx_ccode.specs.declared.piece.Head.{Head}
use Rattle.lx_ccode.specs.declared.piece.Mode.{Mode}
use Rattle.lx_ccode.specs.declared.piece.Mode.TheVariants.{Plain, Count, EofFixed, Eof}

-- the piece reads its input by primitives of the user's; one without a head does not
abbrev pub is_custom : Option Head → Bool
is_custom None = false
is_custom (Some head) = head.custom

abbrev pub is_format_three : Format → Bool
is_format_three Two = false
is_format_three Three = true

-- the piece is of format 3; one without a head is not
abbrev pub is_three : Option Head → Bool
is_three None = false
is_three (Some head) = is_format_three head.format

-- the number of a format
abbrev pub format_word : Format → List ℕ
format_word Two = codes "2 "
format_word Three = codes "3 "

-- how an encoding is spelled
abbrev pub encoding_word : Enc → List ℕ
encoding_word Byte = codes "byte"
encoding_word Ucs2 = codes "ucs2"
encoding_word Utf8 = codes "utf8"
encoding_word Utf16 = codes "utf16"
encoding_word Utf32 = codes "utf32"

-- how a mode is spelled
abbrev pub mode_word : Mode → List ℕ
mode_word Plain = codes "plain"
mode_word Count = codes "count"
mode_word EofFixed = codes "eoffixed"
mode_word Eof = codes "eof"

-- what stands before the encoding
abbrev pub custom_word : (custom : Bool) → List ℕ
custom_word false = []
custom_word true = codes "custom "

-- the head of a piece of format 3 says that the user declares the variables
abbrev pub is_kept : Option Head → (declares : Bool) → Bool
is_kept head declares = if is_three head then not declares else false

-- what stands there where the user declares the variables
abbrev pub kept_word : (kept : Bool) → List ℕ
kept_word false = []
kept_word true = codes "kept "

-- the line of a head, where there is one
abbrev pub head_then : (kept : Bool) → Option Head → List ℕ → List ℕ
head_then kept None tail = tail
head_then kept (Some head) tail =
    joined (codes "/*!head:re2c " ∷ format_word head.format ∷ custom_word head.custom ∷ kept_word kept ∷ encoding_word head.enc ∷ codes " " ∷ mode_word head.mode ∷ codes " "
    ∷ decimal head.regs ∷ codes " " ∷ decimal head.mregs ∷ codes " " ∷ decimal head.states ∷ codes "*/\n" ∷ []) tail
