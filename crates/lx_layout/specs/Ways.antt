-- Where the tests of a state lead, and by which number it is stored, as the code holds them.
use Rattle.std.specs.Prelude.{ℕ, Option, Some, None, if◌then◌else◌}
use Rattle.lx_layout.specs.Layout.{class_block}
use Rattle.lx_layout.specs.Supplies.{Reader}
use Rattle.lx_dispatch.specs.TransitionClasses.{same_place}
use Rattle.lx_layout.specs.declared.readers.Exits.{Exits}

-- the block of a class; the place behind those of the classes is that of the unit at the end of the input
abbrev pub way_of : Exits → Option ℕ → ℕ
way_of exits class = if same_place class (Some exits.count) then exits.turn else class_block exits.first exits.end class

-- all that reads is stored by one number, or not at all
abbrev pub constant : Option ℕ → Option (Reader → ℕ)
constant None = None
constant (Some number) = Some (λ reader. number)
