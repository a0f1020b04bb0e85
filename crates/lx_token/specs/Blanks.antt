-- Blanks and comments, which stand between tokens and inside actions.
use Rattle.std.specs.Prelude.{ℕ, Bool, List, [], ◌∷◌, codes, drop, Option, Some, None, ◌==◌, ◌||◌, if◌then◌else◌}
use Rattle.lx_base.specs.Letters.{begins_with}

-- a space, a tab, a carriage return or a line feed
abbrev pub is_blank : ℕ → Bool
is_blank letter = (letter == 32) || (letter == 9) || (letter == 13) || (letter == 10)

-- what is left of the text behind its first line: its first line feed and what follows, or nothing
abbrev pub after_line : List ℕ → List ℕ
after_line [] = []
after_line (letter ∷ text) = if letter == 10 then letter ∷ text else after_line text

-- what follows the first `*/`
abbrev pub after_closing : List ℕ → Option (List ℕ)
after_closing [] = None
after_closing (letter ∷ text) =
    if begins_with (codes "*/") (letter ∷ text) then Some (drop 2 (letter ∷ text)) else after_closing text

-- what follows the comment that begins here: `//` to the end of its line, or `/*` to the next `*/`
abbrev pub after_comment : List ℕ → Option (List ℕ)
after_comment text =
    if begins_with (codes "//") text then Some (after_line (drop 2 text))
    else (if begins_with (codes "/*") text then after_closing (drop 2 text) else None)

-- what follows the blank or the comment that begins here
abbrev pub after_blank : List ℕ → Option (List ℕ)
after_blank [] = None
after_blank (letter ∷ text) = if is_blank letter then Some text else after_comment (letter ∷ text)
