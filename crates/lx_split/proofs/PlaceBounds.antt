-- Places behind texts: their files, lines and columns.
use Rattle.std.proofs.Common.{◌≡◌, ℕ, ◌+◌, ◌≤◌, arith, Bool, true, false, List, [], ◌∷◌, length, refl, ◌∙◌}
use Rattle.std.specs.Prelude.{◌==◌, if◌then◌else◌}
use Rattle.lx_base.specs.declared.places.Pos.{Pos}
use Rattle.lx_base.specs.Places.{next_place, place_after}

-- the place behind a byte that ends a line or not
abbrev next_if : Pos → (ends : Bool) → Pos
next_if at ends =
    if ends then record { file = at.file; line = at.line + 1; col = 1 } else record { file = at.file; line = at.line; col = at.col + 1 }

next_place-file : (at : Pos) (letter : ℕ) → (next_place at letter).file ≡ at.file
next_place-file at letter = by (letter == 10)
  where
    by : (ends : Bool) → (next_if at ends).file ≡ at.file
    by true = refl
    by false = refl

next_place-line : (at : Pos) (letter : ℕ) → (next_place at letter).line ≤ at.line + 1
next_place-line at letter = by (letter == 10)
  where
    by : (ends : Bool) → (next_if at ends).line ≤ at.line + 1
    by true = omega arith
    by false = omega arith

next_place-col : (at : Pos) (letter : ℕ) → (next_place at letter).col ≤ at.col + 1
next_place-col at letter = by (letter == 10)
  where
    by : (ends : Bool) → (next_if at ends).col ≤ at.col + 1
    by true = omega arith
    by false = omega arith

-- a place behind a text is one of the same file
pub place_after-file : (at : Pos) (text : List ℕ) → (place_after at text).file ≡ at.file
place_after-file at [] = refl
place_after-file at (letter ∷ text) = place_after-file (next_place at letter) text ∙ next_place-file at letter

-- no text has more lines and columns than bytes
pub place_after-line : (at : Pos) (text : List ℕ) → (place_after at text).line ≤ at.line + length text
place_after-line at [] = omega arith
place_after-line at (letter ∷ text) = omega (arith, place_after-line (next_place at letter) text, next_place-line at letter)

pub place_after-col : (at : Pos) (text : List ℕ) → (place_after at text).col ≤ at.col + length text
place_after-col at [] = omega arith
place_after-col at (letter ∷ text) = omega (arith, place_after-col (next_place at letter) text, next_place-col at letter)
