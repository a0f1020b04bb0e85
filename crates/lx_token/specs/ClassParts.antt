-- The parts of classes.
use Rattle.std.specs.Prelude.{◌≡◌, Bool, true, false, List, [], ◌∷◌}
use Rattle.lx_token.specs.declared.characters.Character.{Character}
use Rattle.lx_token.specs.declared.classes.PointRange.{PointRange}
use Rattle.lx_token.specs.Characters.{character}
use Rattle.lx_token.specs.Classes.{between, is_plain}

-- a part of a class: one character, or two with a `-` between
pub data ClassPart : Type 0 where
  Single : Character → ClassPart
  Span : (first last : Character) → ClassPart

-- the characters of parts, one part behind another
abbrev pub characters_in : List ClassPart → List Character
characters_in [] = []
characters_in (Single one ∷ parts) = one ∷ characters_in parts
characters_in (Span first last ∷ parts) = first ∷ character 45 false ∷ last ∷ characters_in parts

-- a part is the point of its character, or the range of its two
abbrev pub part_range : ClassPart → PointRange
part_range (Single one) = between one.point one.point
part_range (Span first last) = between first.point last.point

-- a `-` that no escape spells begins a part only where it may
abbrev pub MayBegin : (may : Bool) → Character → Type 0
MayBegin may letter = may ≡ false → is_plain 45 letter ≡ false

-- Such a `-` begins a part only where that is the first one, stands directly behind a range, or is the last one and has no
-- other character.
abbrev pub AreParts : (may : Bool) → List ClassPart → Type 0
AreParts may [] = Unit {0}
AreParts may (Single one ∷ []) = Unit {0}
AreParts may (Single one ∷ next ∷ parts) = MayBegin may one × AreParts false (next ∷ parts)
AreParts may (Span first last ∷ parts) = MayBegin may first × AreParts true parts

-- the parts that characters are
pub record IsParted (may : Bool) (characters : List Character) : Type 0 where
  pub parts : List ClassPart
  pub are_parts : AreParts may parts
  pub characters_are : characters ≡ characters_in parts
