-- Definitions, and what the expressions behind them mean.
use Rattle.std.specs.Prelude.{◌≡◌, ℕ, ◌+◌, ◌*◌, ◌^◌, ◌↔◌, Bool, true, false, List, [], ◌∷◌, ◌++◌, length, min, nat_le, ◌&&◌, Option, Some, None, if◌then◌else◌}
use Rattle.std.specs.Str.{bytes_eq}
use Rattle.lx_base.specs.declared.limits.TheConstants.{NESTING_LIMIT, SIZE_LIMIT, TAG_LIMIT}
use Rattle.lx_base.specs.declared.places.Pos.{Pos}
use Rattle.lx_class.specs.Ranges.{InRanges, IsCanonical}
use Rattle.lx_class.specs.declared.ranges.Range.{Range}
use Rattle.lx_regex.specs.Term.{Term, Terms, IsInRanges, empty, class, any_unit, cat, alt, repeat, tag, group, nil, cons}
use Rattle.lx_regex.specs.Expr.{members_of, ranges_of}
use Rattle.lx_regex.specs.declared.rules.Tag.{Tag}
use Rattle.lx_exprs.specs.declared.values.Room.{Room}

-- What stands in an expression: one term, terms one behind another, or terms of which one is chosen.
pub data Shape : Type 0 where
  one : Term → Shape
  row : List Term → Shape
  choice : List Term → Shape

-- the term of all that stands there
abbrev pub whole : Shape → Term
whole (one term) = term
whole (row terms) = cat (members_of terms)
whole (choice terms) = alt (members_of terms)

-- What an expression means: what stands in it, where group k has the ends 2 k and 2 k + 1, its size and nesting, its tags, in
-- order, how many groups it has, and how many tags its item has up to its end, two for each group. Of groups, 2^40 stands for
-- itself and for more.
pub record Meaning : Type 0 where
  pub shape : Shape
  pub size : ℕ
  pub nesting : ℕ
  pub tags : List Tag
  pub groups : ℕ
  pub count : ℕ

abbrev pub term_of_meaning : Meaning → Term
term_of_meaning meaning = whole meaning.shape

-- what is kept of a size, a nesting or a number of groups: 2^40 stands for itself and for more
abbrev pub kept : ℕ → ℕ
kept number = min (2 ^ 40) number

-- what stands in an item before an expression: its tags, in order, and how many groups
pub record Before : Type 0 where
  pub tags : List Tag
  pub groups : ℕ

-- the slash of a trailing context is a tag without a name
abbrev pub slash_tag : Tag
slash_tag = record { name = []; many = false }

-- nothing stands before it
abbrev pub nothing : Before
nothing = record { tags = []; groups = 0 }

-- these tags and so many groups more
abbrev pub and_more : Before → List Tag → (groups : ℕ) → Before
and_more before tags groups = record { tags = before.tags ++ tags; groups = kept (before.groups + groups) }

-- how many tags these are, two for each group
abbrev pub count_of : Before → ℕ
count_of before = length before.tags + 2 * kept before.groups

-- an expression is built within a room for its size and the tags of its item, if its nesting is within the limit of 256
abbrev pub fits : Room → (size nesting count : ℕ) → Bool
fits room size nesting count = nat_le size room.size && (nat_le nesting NESTING_LIMIT && nat_le count room.tags)

abbrev pub is_built : Room → Meaning → Bool
is_built room meaning = fits room meaning.size meaning.nesting meaning.count

-- the room of a scanner
abbrev pub whole_room : Room
whole_room = record { size = SIZE_LIMIT; tags = TAG_LIMIT }

-- the points of two classes, or of none
abbrev pub both_classes : Option (List (ℕ × ℕ)) → Option (List (ℕ × ℕ)) → Option (List (ℕ × ℕ))
both_classes None other = None
both_classes (Some ranges) None = None
both_classes (Some ranges) (Some others) = Some (ranges ++ others)

-- the ranges of a term that is a class, or an alternation of classes
abbrev mutual
  pub class_in : Term → Option (List (ℕ × ℕ))
  class_in (class ranges) = Some ranges
  class_in (alt members) = classes_in members
  class_in empty = None
  class_in any_unit = None
  class_in (cat members) = None
  class_in (repeat body low high) = None
  class_in (tag number) = None
  class_in (group opening closing body) = None

  pub classes_in : Terms → Option (List (ℕ × ℕ))
  classes_in nil = Some []
  classes_in (cons member members) = both_classes (class_in member) (classes_in members)

-- the ranges of an expression that is a class
abbrev pub meant_class : Meaning → Option (List (ℕ × ℕ))
meant_class meaning = class_in (term_of_meaning meaning)

-- there is a set where there are ranges, and it has their points
abbrev pub HasClass : Option (List Range) → Option (List (ℕ × ℕ)) → Type 0
HasClass None None = Unit {0}
HasClass None (Some ranges) = ⊥
HasClass (Some set) None = ⊥
HasClass (Some set) (Some ranges) = IsCanonical set × ((point : ℕ) → InRanges set point ↔ IsInRanges ranges point)

-- what is kept of an expression past the limits of a scanner: its class, where it is one
abbrev pub IsClassKept : Option (List (ℕ × ℕ)) → Option Term → Type 0
IsClassKept ranges None = ranges ≡ None
IsClassKept ranges (Some term) = (set : List Range) × HasClass (Some set) ranges × (term ≡ class (ranges_of set))

-- and within them its term
abbrev pub IsTermKept : (is_built : Bool) → Meaning → Option Term → Type 0
IsTermKept true meaning term = term ≡ Some (term_of_meaning meaning)
IsTermKept false meaning term = IsClassKept (meant_class meaning) term

-- a definition: its name, where that stands, and of its expression what is kept
pub record Definition : Type 0 where
  pub name : List ℕ
  pub at : Pos
  pub size : ℕ
  pub nesting : ℕ
  pub tags : List Tag
  pub groups : ℕ
  pub term : Option Term

-- what is kept of an expression with a name
pub record IsDefined (name : List ℕ) (at : Pos) (meaning : Meaning) (definition : Definition) : Type 0 where
  pub name_is : definition.name ≡ name
  pub at_is : definition.at ≡ at
  pub size : definition.size ≡ kept meaning.size
  pub nesting : definition.nesting ≡ kept meaning.nesting
  pub tags : definition.tags ≡ meaning.tags
  pub groups : definition.groups ≡ meaning.groups
  pub term : IsTermKept (is_built whole_room meaning) meaning definition.term

-- the definition of a name
abbrev pub definition_of : List Definition → (name : List ℕ) → Option Definition
definition_of [] name = None
definition_of (definition ∷ definitions) name =
    if bytes_eq name definition.name then Some definition else definition_of definitions name
