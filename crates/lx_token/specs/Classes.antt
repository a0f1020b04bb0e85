-- The ranges of classes.
use Rattle.std.specs.Prelude.{ℕ, Bool, true, false, List, [], ◌∷◌, min, max, Option, Some, None, ◌==◌, if◌then◌else◌}
use Rattle.lx_token.specs.declared.characters.Character.{Character}
use Rattle.lx_token.specs.declared.classes.PointRange.{PointRange}
use Rattle.lx_token.specs.declared.classes.Class.{Class}
use Rattle.lx_token.specs.Characters.{characters_of}

-- the points from the lesser to the greater one
abbrev pub between : ℕ → ℕ → PointRange
between first last = record { lo = min first last; hi = max first last }

-- a byte that stands for itself, and not by an escape
abbrev pub is_plain : ℕ → Character → Bool
is_plain letter character = if character.is_escaped then false else (character.point == letter)

-- the ranges of characters, behind a point that may begin a range, and maybe a `-`. A `-` between two points makes a
-- range; one that stands first, last or directly behind a range is a point
abbrev pub ranges_behind : (begun : Option ℕ) (is_dashed : Bool) → List Character → List PointRange
ranges_behind None is_dashed [] = []
ranges_behind None is_dashed (next ∷ characters) = ranges_behind (Some next.point) false characters
ranges_behind (Some point) false [] = between point point ∷ []
ranges_behind (Some point) true [] = between point point ∷ between 45 45 ∷ []
ranges_behind (Some point) false (next ∷ characters) =
    if is_plain 45 next then ranges_behind (Some point) true characters
    else between point point ∷ ranges_behind (Some next.point) false characters
ranges_behind (Some point) true (next ∷ characters) = between point next.point ∷ ranges_behind None false characters

-- the class of characters: a leading `^` takes all points without the ranges
abbrev pub class_behind : List Character → Class
class_behind [] = record { is_negated = false; ranges = [] }
class_behind (first ∷ characters) =
    if is_plain 94 first then record { is_negated = true; ranges = ranges_behind None false characters }
    else record { is_negated = false; ranges = ranges_behind None false (first ∷ characters) }

-- the class that a token of kind `Class` is, by its text
abbrev pub class_of : List ℕ → Class
class_of text = class_behind (characters_of text)
