-- What is asked of the rule lists that scanners are built from.
use Rattle.std.specs.Prelude.{◌≡◌, ◌≢◌, ℕ, zero, suc, ◌+◌, ◌-◌, ◌*◌, ◌≤◌, ◌⊎◌, List, [], ◌∷◌, length, Option, Some, None, false, slice_get, if◌then◌else◌}
use Rattle.std.specs.Bool.{OnFalse}
use Rattle.lx_base.specs.declared.limits.TheConstants.{SIZE_LIMIT, TAG_LIMIT}
use Rattle.lx_regex.specs.Term.{Term, empty, class, any_unit, cat, alt, repeat, tag, group, Terms, nil, cons}
use Rattle.lx_regex.specs.Script.{tags_in}
use Rattle.lx_regex.specs.Expr.{size_of}
use Rattle.lx_regex.specs.Pattern.{Pattern, pattern_of, is_end, sorts_of}
use Rattle.lx_regex.specs.declared.rules.Rule.{Rule}

-- how many members there are
abbrev pub member_count : Terms → ℕ
member_count nil = 0
member_count (cons member members) = suc (member_count members)

-- each sequence in a term has two or more members
abbrev mutual
  pub HasLongSequences : Term → Type 0
  HasLongSequences empty = Unit {0}
  HasLongSequences (class ranges) = Unit {0}
  HasLongSequences any_unit = Unit {0}
  HasLongSequences (cat members) = (2 ≤ member_count members) × HaveLongSequences members
  HasLongSequences (alt members) = HaveLongSequences members
  HasLongSequences (repeat body low high) = HasLongSequences body
  HasLongSequences (tag number) = Unit {0}
  HasLongSequences (group opening closing body) = HasLongSequences body

  pub HaveLongSequences : Terms → Type 0
  HaveLongSequences nil = Unit {0}
  HaveLongSequences (cons member members) = HasLongSequences member × HaveLongSequences members

-- so many numbers from one on
abbrev pub numbers_from : (number count : ℕ) → List ℕ
numbers_from number zero = []
numbers_from number (suc count) = number ∷ numbers_from (suc number) count

-- the tag with this number is one of the members
abbrev pub StandsAmong : (number : ℕ) → Terms → Type 0
StandsAmong number nil = ⊥
StandsAmong number (cons member members) = (member ≡ tag number) ⊎ StandsAmong number members

-- the term is a sequence, and the tag with this number is one of its members
abbrev pub StandsIn : (number : ℕ) → Term → Type 0
StandsIn number (cat members) = StandsAmong number members
StandsIn number _ = ⊥

-- a trailing context begins at one of the rule's s-tags, and that stands in the rule's own sequence
abbrev pub IsSlashOf : Pattern → (slash : Option ℕ) → Type 0
IsSlashOf pattern None = Unit {0}
IsSlashOf pattern (Some slash) = (slice_get pattern.many slash ≡ Some false) × StandsIn slash pattern.term

-- a rule's sequences are long, each of its tags and group ends stands in its term once, and its slash is one of its s-tags
pub record IsRegular (pattern : Pattern) : Type 0 where
  pub sequences : HasLongSequences pattern.term
  pub tags : tags_in pattern.term ≡ numbers_from 0 (length (sorts_of pattern))
  pub slash : IsSlashOf pattern pattern.slash

-- all rules with an expression are so
abbrev pub AreRegular : List Rule → Type 0
AreRegular [] = Unit {0}
AreRegular (rule ∷ rules) = OnFalse (is_end rule.kind) (IsRegular (pattern_of rule)) × AreRegular rules

-- how many rules `$` there are
abbrev pub end_count : List Rule → ℕ
end_count [] = 0
end_count (rule ∷ rules) = (if is_end rule.kind then 1 else 0) + end_count rules

-- the sum of their sizes
abbrev pub sizes_of : List Rule → ℕ
sizes_of [] = 0
sizes_of (rule ∷ rules) = (if is_end rule.kind then 0 else size_of rule.expr) + sizes_of rules

-- the tags of all rules and the ends of their groups, those of the whole match aside
abbrev pub tags_of : List Rule → ℕ
tags_of [] = 0
tags_of (rule ∷ rules) = (length rule.tags + 2 * (rule.groups - 1)) + tags_of rules

-- none of the rules has this number
abbrev pub NoneHasNumber : ℕ → List Rule → Type 0
NoneHasNumber number [] = Unit {0}
NoneHasNumber number (rule ∷ rules) = (rule.number ≢ number) × NoneHasNumber number rules

-- the rules have different numbers
abbrev pub HaveDifferentNumbers : List Rule → Type 0
HaveDifferentNumbers [] = Unit {0}
HaveDifferentNumbers (rule ∷ rules) = NoneHasNumber rule.number rules × HaveDifferentNumbers rules

-- a rule list within the limits of a scanner
pub record IsWithinLimits (rules : List Rule) : Type 0 where
  pub size : sizes_of rules ≤ SIZE_LIMIT
  pub tags : tags_of rules ≤ TAG_LIMIT
  pub ends : end_count rules ≤ 1
  pub numbers : HaveDifferentNumbers rules
  pub regular : AreRegular rules
