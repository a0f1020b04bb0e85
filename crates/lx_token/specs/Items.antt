-- What strings and classes are made of.
use Rattle.std.specs.Prelude.{◌≡◌, ◌≢◌, ℕ, ◌<◌, ◌≤◌, ◌⊎◌, Bool, true, false, List, [], ◌∷◌, ◌++◌, length}
use Rattle.lx_base.specs.Letters.{EachLetter}
use Rattle.lx_token.specs.Quoted.{is_hex_digit, is_octal_digit}
use Rattle.lx_token.specs.Characters.{character, escape_point}
use Rattle.lx_token.specs.declared.characters.Character.{Character}

-- as many digits, and nothing else
abbrev pub AreDigits : (ℕ → Bool) → ℕ → List ℕ → Type 0
AreDigits test count digits = (length digits ≡ count) × EachLetter test digits

-- a byte that an escape may have behind its backslash to stand for itself or for one control character: no line feed,
-- no octal digit, and none of `x`, `u`, `X`, `U`
pub record NeedsNoDigits (letter : ℕ) : Type 0 where
  pub no_hex : letter ≢ 120
  pub no_small : letter ≢ 117
  pub no_capital : letter ≢ 88
  pub no_long : letter ≢ 85
  pub no_octal : (letter < 48) ⊎ (55 < letter)
  pub no_line : letter ≢ 10

-- an escape: behind its backslash a letter, and the digits that it needs
pub data IsEscape (letter : ℕ) (digits : List ℕ) : Type 0 where
  two : letter ≡ 120 → AreDigits is_hex_digit 2 digits → IsEscape letter digits
  four : (letter ≡ 117) ⊎ (letter ≡ 88) → AreDigits is_hex_digit 4 digits → IsEscape letter digits
  eight : letter ≡ 85 → AreDigits is_hex_digit 8 digits → IsEscape letter digits
  octal : 48 ≤ letter → letter ≤ 51 → AreDigits is_octal_digit 2 digits → IsEscape letter digits
  bare : NeedsNoDigits letter → digits ≡ [] → IsEscape letter digits

-- an item of a string or class: a byte, or an escape
pub data Item : Type 0 where
  Plain : (letter : ℕ) → Item
  Escape : (letter : ℕ) (digits : List ℕ) → Item

-- which items may stand before the closing letter
abbrev pub IsItem : (close : ℕ) → Item → Type 0
IsItem close (Plain letter) = (letter ≢ close) × (letter ≢ 92) × (letter ≢ 10)
IsItem close (Escape letter digits) = IsEscape letter digits

-- each of the items may stand before the closing letter
abbrev pub AreItems : (close : ℕ) → List Item → Type 0
AreItems close [] = Unit {0}
AreItems close (item ∷ items) = IsItem close item × AreItems close items

-- the items' text, and then the tail
abbrev pub spelled : List Item → List ℕ → List ℕ
spelled [] tail = tail
spelled (Plain letter ∷ items) tail = letter ∷ spelled items tail
spelled (Escape letter digits ∷ items) tail = 92 ∷ letter ∷ digits ++ spelled items tail

-- a text that begins with an opener, items and a closing letter, and the rest of it
pub record BeginsQuoted (opener close : ℕ) (text rest : List ℕ) : Type 0 where
  pub items : List Item
  pub are_items : AreItems close items
  pub text_is : text ≡ opener ∷ spelled items (close ∷ rest)

-- the character that an item stands for
abbrev pub character_of : Item → Character
character_of (Plain letter) = character letter false
character_of (Escape letter digits) = character (escape_point (letter ∷ digits)) true
