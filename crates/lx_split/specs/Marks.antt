-- The marks of emitted text, which no source may have.
use Rattle.std.specs.Prelude.{ℕ, Bool, List, [], ◌∷◌, codes, Option, Some, None, ◌||◌, if◌then◌else◌}
use Rattle.lx_base.specs.declared.places.Pos.{Pos}
use Rattle.lx_base.specs.Letters.{begins_with}
use Rattle.lx_token.specs.Tokens.{place_of_rest}
use Rattle.lx_split.specs.Searches.{from_first}

-- whether a mark begins here
abbrev pub begins_mark : List ℕ → Bool
begins_mark text =
    begins_with (codes "/*!begin:re2c") text || begins_with (codes "/*!end:re2c") text || begins_with (codes "/*!code:re2c") text
    || begins_with (codes "/*!names:re2c") text || begins_with (codes "/*!head:re2c") text

-- the place of the rest of a source, if something is left
abbrev pub place_if_any : Pos → List ℕ → List ℕ → Option Pos
place_if_any start bytes [] = None
place_if_any start bytes (letter ∷ rest) = Some (place_of_rest start bytes (letter ∷ rest))

-- the place of the first mark of a source. A source that begins with a mark without its `/` has one there, since a `/` may
-- come to stand before it
abbrev pub mark_place : Pos → List ℕ → Option Pos
mark_place start bytes =
    if begins_mark (47 ∷ bytes) then Some start else place_if_any start bytes (from_first begins_mark bytes)
