-- Places in a source, as its bytes are passed.
use Rattle.std.specs.Prelude.{ℕ, ◌+◌, List, [], ◌∷◌, ◌==◌, if◌then◌else◌}
use Rattle.lx_base.specs.declared.places.Pos.{Pos}

-- line 1, column 1 of a file
abbrev pub file_start : ℕ → Pos
file_start file = record { file = file; line = 1; col = 1 }

-- the place behind a byte: a line feed ends a line, and columns count bytes
abbrev pub next_place : Pos → ℕ → Pos
next_place at letter =
    if letter == 10 then record { file = at.file; line = at.line + 1; col = 1 }
    else record { file = at.file; line = at.line; col = at.col + 1 }

-- the place behind a text that begins at a place
abbrev pub place_after : Pos → List ℕ → Pos
place_after at [] = at
place_after at (letter ∷ text) = place_after (next_place at letter) text
