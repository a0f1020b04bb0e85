-- The head line is read again.
use Rattle.std.proofs.Common.{◌++◌, ◌<◌, ◌^◌, ◌∷◌, ◌≡◌, Bool, List, None, Option, Some, false, refl, subst, true, ℕ}
use Rattle.std.specs.Fmt.{decimal}
use Rattle.std.specs.Prelude.{◌==◌, IfSome, codes}
use Rattle.lx_base.specs.Letters.{EachLetter, is_digit, is_in_identifier}
use Rattle.lx_base.specs.declared.settings.Format.{Format}
use Rattle.lx_base.specs.declared.settings.Format.TheVariants.{Two, Three}
use Rattle.lx_base.specs.declared.settings.Enc.{Enc}
use Rattle.lx_base.specs.declared.settings.Enc.TheVariants.{Byte, Ucs2, Utf8, Utf16, Utf32}
use Rattle.lx_ccode.specs.declared.piece.Head.{Head}
use Rattle.lx_ccode.specs.declared.piece.Mode.{Mode}
use Rattle.lx_ccode.specs.declared.piece.Mode.TheVariants.{Plain, Count, EofFixed, Eof}
use Rattle.lx_ccode.specs.Heads.{custom_word, encoding_word, format_word, head_then, is_kept, kept_word, mode_word}
use Rattle.lx_ccode.specs.Reading.{byte_at, encoding_of, head_at, head_fields_at, head_line_at, kept_fields_at, mode_of}
use Rattle.lx_ccode.proofs.Words.{behind-stop, decimal_digits, decimal_value, front-stop}

encoding_of-word : (enc : Enc) → encoding_of (encoding_word enc) ≡ enc
unfolding encoding_of
encoding_of-word Byte = refl
encoding_of-word Ucs2 = refl
encoding_of-word Utf8 = refl
encoding_of-word Utf16 = refl
encoding_of-word Utf32 = refl

mode_of-word : (mode : Mode) → mode_of (mode_word mode) ≡ mode
unfolding mode_of
mode_of-word Plain = refl
mode_of-word Count = refl
mode_of-word EofFixed = refl
mode_of-word Eof = refl

encoding_word-identifier : (enc : Enc) → EachLetter is_in_identifier (encoding_word enc)
encoding_word-identifier Byte = (refl, (refl, (refl, (refl, tt))))
encoding_word-identifier Ucs2 = (refl, (refl, (refl, (refl, tt))))
encoding_word-identifier Utf8 = (refl, (refl, (refl, (refl, tt))))
encoding_word-identifier Utf16 = (refl, (refl, (refl, (refl, (refl, tt)))))
encoding_word-identifier Utf32 = (refl, (refl, (refl, (refl, (refl, tt)))))

mode_word-identifier : (mode : Mode) → EachLetter is_in_identifier (mode_word mode)
mode_word-identifier Plain = (refl, (refl, (refl, (refl, (refl, tt)))))
mode_word-identifier Count = (refl, (refl, (refl, (refl, (refl, tt)))))
mode_word-identifier EofFixed = (refl, (refl, (refl, (refl, (refl, (refl, (refl, (refl, tt))))))))
mode_word-identifier Eof = (refl, (refl, (refl, tt)))

-- no encoding begins as the word `custom`
encoding_word-first : (enc : Enc) (tail : List ℕ) → (byte_at (encoding_word enc ++ tail) 0 == 99) ≡ false
encoding_word-first Byte tail = refl
encoding_word-first Ucs2 tail = refl
encoding_word-first Utf8 tail = refl
encoding_word-first Utf16 tail = refl
encoding_word-first Utf32 tail = refl

-- the numbers of a head can be written
abbrev pub HasNumbers : Head → Type 0
HasNumbers head = (head.regs < 2 ^ 64) × (head.mregs < 2 ^ 64) × (head.states < 2 ^ 64)

-- the line from the encoding on
abbrev fields_then : Head → List ℕ → List ℕ
fields_then head tail =
    encoding_word head.enc ++ 32 ∷ (mode_word head.mode ++ 32 ∷ (decimal head.regs ++ 32 ∷ (decimal head.mregs ++ 32 ∷ (decimal head.states ++ 42 ∷ 47 ∷ 10 ∷ tail))))

head_fields_at-fields : (custom : Bool) (head : Head) (tail : List ℕ) → HasNumbers head
    → head_fields_at head.format custom (fields_then head tail) ≡ (record head { custom = custom }, tail)
unfolding head_fields_at
head_fields_at-fields custom head tail h =
    let states : List ℕ = decimal head.states ++ 42 ∷ 47 ∷ 10 ∷ tail in
    let mregs : List ℕ = decimal head.mregs ++ 32 ∷ states in
    let regs : List ℕ = decimal head.regs ++ 32 ∷ mregs in
    let mode : List ℕ = mode_word head.mode ++ 32 ∷ regs in
    rw (
      front-stop is_in_identifier (encoding_word head.enc) 32 mode (encoding_word-identifier head.enc) refl,
      behind-stop is_in_identifier (encoding_word head.enc) 32 mode (encoding_word-identifier head.enc) refl,
      encoding_of-word head.enc,
      front-stop is_in_identifier (mode_word head.mode) 32 regs (mode_word-identifier head.mode) refl,
      behind-stop is_in_identifier (mode_word head.mode) 32 regs (mode_word-identifier head.mode) refl,
      mode_of-word head.mode,
      front-stop is_digit (decimal head.regs) 32 mregs (decimal_digits head.regs h.0) refl,
      behind-stop is_digit (decimal head.regs) 32 mregs (decimal_digits head.regs h.0) refl,
      decimal_value head.regs h.0,
      front-stop is_digit (decimal head.mregs) 32 states (decimal_digits head.mregs h.1) refl,
      behind-stop is_digit (decimal head.mregs) 32 states (decimal_digits head.mregs h.1) refl,
      decimal_value head.mregs h.1,
      front-stop is_digit (decimal head.states) 42 (47 ∷ 10 ∷ tail) (decimal_digits head.states h.2) refl,
      behind-stop is_digit (decimal head.states) 42 (47 ∷ 10 ∷ tail) (decimal_digits head.states h.2) refl,
      decimal_value head.states h.2,
    ) refl

-- no encoding begins as the word `kept`
encoding_word-other : (enc : Enc) (tail : List ℕ) → (byte_at (encoding_word enc ++ tail) 0 == 107) ≡ false
encoding_word-other Byte tail = refl
encoding_word-other Ucs2 tail = refl
encoding_word-other Utf8 tail = refl
encoding_word-other Utf16 tail = refl
encoding_word-other Utf32 tail = refl

-- the line behind the encoding
abbrev behind_encoding : Head → List ℕ → List ℕ
behind_encoding head tail = 32 ∷ (mode_word head.mode ++ 32 ∷ (decimal head.regs ++ 32 ∷ (decimal head.mregs ++ 32 ∷ (decimal head.states ++ 42 ∷ 47 ∷ 10 ∷ tail))))

kept_fields_at-fields : (custom kept : Bool) (head : Head) (tail : List ℕ) → HasNumbers head
    → kept_fields_at head.format custom (kept_word kept ++ fields_then head tail) ≡ (record head { custom = custom }, kept, tail)
unfolding kept_fields_at
kept_fields_at-fields custom true head tail h = rw (head_fields_at-fields custom head tail h) refl
kept_fields_at-fields custom false head tail h =
    rw (encoding_word-other head.enc (behind_encoding head tail), head_fields_at-fields custom head tail h) refl

-- no word before the encoding, and no encoding, begins as the word `custom`
kept_word-first : (kept : Bool) (head : Head) (tail : List ℕ) → (byte_at (kept_word kept ++ fields_then head tail) 0 == 99) ≡ false
kept_word-first true head tail = refl
kept_word-first false head tail = encoding_word-first head.enc (behind_encoding head tail)

head_line_at-line : (custom kept : Bool) (head : Head) (tail : List ℕ) → HasNumbers head
    → head_line_at head.format (custom_word custom ++ (kept_word kept ++ fields_then head tail)) ≡ (record head { custom = custom }, kept, tail)
unfolding head_line_at
head_line_at-line true kept head tail h = kept_fields_at-fields true kept head tail h
head_line_at-line false kept head tail h = rw (kept_word-first kept head tail) (kept_fields_at-fields false kept head tail h)

-- the line of a head whose format is known
head_at-format : (format : Format) (kept : Bool) (head : Head) (tail : List ℕ) → head.format ≡ format → HasNumbers head
    → head_at (codes "/*!head:re2c " ++ (format_word format ++ (custom_word head.custom ++ (kept_word kept ++ fields_then head tail)))) ≡ (Some head, kept, tail)
unfolding head_at
head_at-format Two kept head tail is h =
    let line = subst (λ (f : Format). head_line_at f (custom_word head.custom ++ (kept_word kept ++ fields_then head tail)) ≡ (record head { custom = head.custom }, kept, tail)) is
    (head_line_at-line head.custom kept head tail h) in
    rw line refl
head_at-format Three kept head tail is h =
    let line = subst (λ (f : Format). head_line_at f (custom_word head.custom ++ (kept_word kept ++ fields_then head tail)) ≡ (record head { custom = head.custom }, kept, tail)) is
    (head_line_at-line head.custom kept head tail h) in
    rw line refl

-- a head, where one stands, before a text that begins as no head line
pub head_at-head : (head : Option Head) (declares : Bool) (tail : List ℕ) → IfSome head HasNumbers → (byte_at tail 3 == 104) ≡ false
    → head_at (head_then (is_kept head declares) head tail) ≡ (head, is_kept head declares, tail)
unfolding head_at
head_at-head None declares tail h q = rw q refl
head_at-head (Some head) declares tail h q = head_at-format head.format (is_kept (Some head) declares) head tail refl h
