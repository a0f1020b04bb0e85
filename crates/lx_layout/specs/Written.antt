-- Which pieces of automata can be written: the ends of rules, and the fields beside the blocks.
use Rattle.std.specs.Prelude.{ℕ, suc, List, [], ◌∷◌, Option}
use Rattle.std.specs.Bool.{OnFalse}
use Rattle.lx_base.specs.Names.{Spellings, IsTagName}
use Rattle.lx_layout.specs.Endings.{is_slash}

-- each tag from a number on, but that of the trailing context, has a name that may stand beside these spellings
abbrev pub MayStand : Spellings → (slash : Option ℕ) → (number : ℕ) → (tags : List (List ℕ)) → Type 0
MayStand names slash number [] = Unit {0}
MayStand names slash number (tag ∷ tags) = OnFalse (is_slash slash number) (IsTagName names tag) × MayStand names slash (suc number) tags
