-- The place of the first mark.
use Rattle.std.proofs.Common.{◌≡◌, ℕ, false, List, [], ◌∷◌, length, Some, nat_eq, refl}
use Rattle.lx_base.specs.declared.places.Pos.{Pos}
use Rattle.lx_token.specs.Tokens.{place_of_rest}
use Rattle.lx_split.specs.Searches.{from_first}
use Rattle.lx_split.specs.Marks.{begins_mark, place_if_any, mark_place}

place_if_any-some : (start : Pos) (bytes rest : List ℕ) → nat_eq (length rest) 0 ≡ false → place_if_any start bytes rest ≡ Some (place_of_rest start bytes rest)
place_if_any-some start bytes [] some = absurd (cc)
place_if_any-some start bytes (letter ∷ rest) some = refl

pub mark_place-found : (start : Pos) (bytes rest : List ℕ) → begins_mark (47 ∷ bytes) ≡ false → rest ≡ from_first begins_mark bytes →
    nat_eq (length rest) 0 ≡ false → mark_place start bytes ≡ Some (place_of_rest start bytes rest)
mark_place-found start bytes rest unmarked is some =
    rw (unmarked, ← is) (place_if_any-some start bytes rest some)
