-- What is read and not yet put together.
use Rattle.std.specs.Prelude.{◌≡◌, ℕ, ◌+◌, ◌↔◌, ◌&&◌, max, true, List, is_some}
use Rattle.lx_class.specs.Ranges.{InRanges, IsCanonical}
use Rattle.lx_class.specs.declared.ranges.Range.{Range}
use Rattle.lx_regex.specs.declared.rules.Tag.{Tag}
use Rattle.lx_exprs.specs.declared.operands.Holed.{Holed}
use Rattle.lx_exprs.specs.declared.operands.Operand.{Operand}
use Rattle.lx_exprs.specs.declared.operands.Operand.TheVariants as operand
use Rattle.lx_exprs.specs.declared.values.Room.{Room}
use Rattle.lx_exprs.specs.Checks.{IsIn}
use Rattle.lx_exprs.specs.Defined.{Meaning, one, kept, meant_class}
use Rattle.lx_exprs.specs.Meanings.{set_term}
use Rattle.lx_exprs.specs.Values.{HasValueKinds, IsBounded, IsValue}

-- the points that are left of a class
abbrev pub IsLeft : Holed → ℕ → Type 0
IsLeft holed point = InRanges holed.whole point × ¬ InRanges holed.holes point

-- what is left of a class stands for a meaning
pub record IsHoled (meaning : Meaning) (holed : Holed) : Type 0 where
  pub nesting_is : holed.nesting ≡ kept meaning.nesting
  pub groups_is : holed.groups ≡ meaning.groups
  pub tags_is : holed.tags ≡ kept meaning.count
  pub is_class : is_some (meant_class meaning) ≡ true
  pub canonical : IsCanonical holed.whole
  pub points : (point : ℕ) → IsLeft holed point ↔ IsIn (meant_class meaning) point

-- what is left of a class stands for the difference of two meanings
pub record IsHoledBy (first second : Meaning) (holed : Holed) : Type 0 where
  pub nesting_is : holed.nesting ≡ kept (max first.nesting second.nesting)
  pub groups_is : holed.groups ≡ kept (first.groups + second.groups)
  pub tags_is : holed.tags ≡ kept (max first.count second.count)
  pub are_classes : (is_some (meant_class first) && is_some (meant_class second)) ≡ true
  pub canonical : IsCanonical holed.whole
  pub points : (point : ℕ) → IsLeft holed point ↔ (IsIn (meant_class first) point × ¬ IsIn (meant_class second) point)

-- one class, of the size 1
pub record IsOneClass (meaning : Meaning) : Type 0 where
  pub size_is : meaning.size ≡ 1
  pub set : List Range
  pub canonical : IsCanonical set
  pub shape_is : meaning.shape ≡ one (set_term set)

-- what is read of an operand stands for a meaning
abbrev pub IsOperand : Room → Meaning → Operand → Type 0
IsOperand room meaning (operand.Whole value) = IsValue room meaning value
IsOperand room meaning (operand.Holed holed) = IsHoled meaning holed × IsOneClass meaning

-- its value is bounded; that of a difference that is put off always is
abbrev pub IsBoundedOperand : Operand → Type 0
IsBoundedOperand (operand.Whole value) = IsBounded value
IsBoundedOperand (operand.Holed holed) = Unit {0}

-- its tags are of the kinds that they have among the tags of an item; a difference that is put off has none
abbrev pub HasOperandKinds : List Tag → Operand → Type 0
HasOperandKinds tags (operand.Whole value) = HasValueKinds tags value
HasOperandKinds tags (operand.Holed holed) = Unit {0}
