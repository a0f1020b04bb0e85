-- Bytes that belong to an escape are passed over.
use Rattle.std.proofs.Common.{◌≡◌, ℕ, zero, suc, true, List, [], ◌∷◌, ◌++◌, drop, refl, eq-eqb, append_assoc}
use Rattle.lx_token.specs.declared.characters.Character.{Character}
use Rattle.lx_token.specs.Characters.{character, characters_behind, escape_point, escape_size}

pub characters_behind-skip : (size : ℕ) (text : List ℕ) → characters_behind size text ≡ characters_behind 0 (drop size text)
characters_behind-skip zero text = refl
characters_behind-skip (suc size) [] = refl
characters_behind-skip (suc size) (letter ∷ text) = characters_behind-skip size text

-- one more escape is read
pub escape_passed : (done : List Character) (letter point : ℕ) (tail rest : List ℕ) (whole : List Character) → letter ≡ 92 →
    point ≡ escape_point tail → rest ≡ drop (escape_size tail) tail → done ++ characters_behind 0 (letter ∷ tail) ≡ whole →
    (done ++ character point true ∷ []) ++ characters_behind 0 rest ≡ whole
escape_passed done letter point tail rest whole is point_is rest_is same =
    let test = eq-eqb letter 92 is in
    let read = rw (test, characters_behind-skip (escape_size tail) tail) at same in
    rw (append_assoc, point_is, rest_is) read
