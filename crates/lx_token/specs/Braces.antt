-- Bounds of repetitions, and actions.
use Rattle.std.specs.Prelude.{◌≡◌, ℕ, zero, suc, ◌-◌, ◌≤◌, Bool, true, false, List, [], ◌∷◌, ◌++◌, length, codes, Option, Some, None, option_and_then, unwrap_or, is_some, ◌==◌, ◌||◌, if◌then◌else◌}
use Rattle.lx_base.specs.Letters.{is_digit, begins_with, after_letters}
use Rattle.lx_token.specs.declared.unclosed.Unclosed.{Unclosed}
use Rattle.lx_token.specs.Words.{after_letter, after_numeral}
use Rattle.lx_token.specs.Blanks.{after_comment}

-- what follows bounds behind their first number: `}`, or `,`, another number if there is one, and `}`
abbrev pub after_first_bound : List ℕ → Option (List ℕ)
after_first_bound [] = None
after_first_bound (letter ∷ text) =
    if letter == 125 then Some text else (if letter == 44 then after_letter 125 (after_letters is_digit text) else None)

-- what follows `{n}`, `{n,}` or `{n,m}`
abbrev pub after_bounds : List ℕ → Option (List ℕ)
after_bounds [] = None
after_bounds (letter ∷ text) = if letter == 123 then option_and_then after_first_bound (after_numeral text) else None

-- what follows a C string or a character literal behind its opening quote, where it is closed in its line
abbrev pub after_literal : (quote : ℕ) (escaped : Bool) → List ℕ → Option (List ℕ)
after_literal quote escaped [] = None
after_literal quote true (letter ∷ text) = if letter == 10 then None else after_literal quote false text
after_literal quote false (letter ∷ text) =
    if letter == 10 then None else (if letter == quote then Some text else after_literal quote (letter == 92) text)

-- each such opener of the text behind which `size` bytes or more are left has no `close` in its line
abbrev pub AreUnclosed : (opener close size : ℕ) → List ℕ → Type 0
AreUnclosed opener close size text =
    (front tail : List ℕ) → text ≡ front ++ opener ∷ tail → size ≤ length tail → after_literal close false tail ≡ None

-- what the scanner of a body keeps of each kind of openers holds of the text
pub record AreKnown (unclosed : Unclosed) (text : List ℕ) : Type 0 where
  pub strings : AreUnclosed 34 34 unclosed.strings text
  pub characters : AreUnclosed 39 39 unclosed.characters text
  pub classes : AreUnclosed 91 93 unclosed.classes text

-- whether a comment begins here, closed or not
abbrev pub begins_comment : List ℕ → Bool
begins_comment text = begins_with (codes "//") text || begins_with (codes "/*") text

-- what follows the comment or the byte at the front
abbrev pub after_unquoted : List ℕ → Option (List ℕ)
after_unquoted [] = None
after_unquoted (letter ∷ text) = if begins_comment (letter ∷ text) then after_comment (letter ∷ text) else Some text

-- what follows the piece of C at the front, which is no brace: a literal that is closed in its line, a comment, or a byte
abbrev pub after_piece : List ℕ → Option (List ℕ)
after_piece [] = None
after_piece (letter ∷ text) =
    if (letter == 34) || (letter == 39) then Some (unwrap_or (after_literal letter false text) text)
    else after_unquoted (letter ∷ text)

-- what follows the brace that closes the outermost of the open ones, of which there are `depth` inside it. No piece is
-- empty, so as many steps serve as the text has bytes
abbrev pub after_braces : (steps depth : ℕ) → List ℕ → Option (List ℕ)
after_braces zero depth text = None
after_braces (suc steps) depth [] = None
after_braces (suc steps) depth (letter ∷ text) =
    if letter == 123 then after_braces steps (suc depth) text
    else (if letter == 125 then (if depth == 0 then Some text else after_braces steps (depth - 1) text)
    else option_and_then (after_braces steps depth) (after_piece (letter ∷ text)))

-- what follows an action: a `{` that begins no bounds, up to its matching `}`
abbrev pub after_code : List ℕ → Option (List ℕ)
after_code [] = None
after_code (letter ∷ text) =
    if letter == 123 then (if is_some (after_bounds (letter ∷ text)) then None else after_braces (length text) 0 text) else None
