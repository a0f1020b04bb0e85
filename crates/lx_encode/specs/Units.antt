-- The sizes of code units, and code units in a fixed place.
use Rattle.std.specs.Prelude.{ℕ, List, [], ◌∷◌, take, drop}
use Rattle.lx_base.specs.declared.settings.Enc.{Enc}
use Rattle.lx_base.specs.declared.settings.Enc.TheVariants.{Byte, Ucs2, Utf8, Utf16, Utf32}
use Rattle.lx_encode.specs.declared.units.Units.{Units}

-- how many bytes a code unit has
abbrev pub unit_size : Enc → ℕ
unit_size Byte = 1
unit_size Ucs2 = 2
unit_size Utf8 = 1
unit_size Utf16 = 2
unit_size Utf32 = 4

-- the four places for code units
abbrev pub places : Units → List ℕ
places units = units.a ∷ units.b ∷ units.c ∷ units.d ∷ []

-- the code units that are there
abbrev pub unit_list : Units → List ℕ
unit_list units = take units.len (places units)

-- the places that no code unit takes
abbrev pub unused : Units → List ℕ
unused units = drop units.len (places units)
