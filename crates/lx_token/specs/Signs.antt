-- Signs.
use Rattle.std.specs.Prelude.{ℕ, Bool, List, [], ◌∷◌, codes, drop, Option, Some, None, ◌==◌, ◌||◌, if◌then◌else◌}
use Rattle.lx_base.specs.Letters.{begins_with}

-- one of `= ; | \ / ( ) * + ? . $ < > ,`
abbrev pub is_sign : ℕ → Bool
is_sign letter =
    (letter == 61) || (letter == 59) || (letter == 124) || (letter == 92) || (letter == 47) || (letter == 40) || (letter == 41)
    || (letter == 42) || (letter == 43) || (letter == 63) || (letter == 46) || (letter == 36) || (letter == 60) || (letter == 62)
    || (letter == 44)

-- what follows the longest sign that begins here: `:=>`, else `=>`, else a sign of one letter. The `/` of a `/*` is no
-- sign, so a comment that is not closed begins no token
abbrev pub after_sign : List ℕ → Option (List ℕ)
after_sign [] = None
after_sign (letter ∷ text) =
    if begins_with (codes ":=>") (letter ∷ text) then Some (drop 3 (letter ∷ text))
    else (if begins_with (codes "=>") (letter ∷ text) then Some (drop 2 (letter ∷ text))
    else (if begins_with (codes "/*") (letter ∷ text) then None else (if is_sign letter then Some text else None)))
