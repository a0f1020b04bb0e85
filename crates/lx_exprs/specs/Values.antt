-- What is kept of what is read of an expression.
use Rattle.std.specs.Prelude.{◌≡◌, ℕ, ◌+◌, ◌*◌, ◌≤◌, ◌<◌, ◌↔◌, Bool, true, false, List, [], Option, Some, None, map, sum, not}
use Rattle.lx_base.specs.declared.limits.TheConstants.{SIZE_LIMIT, TAG_LIMIT}
use Rattle.lx_class.specs.Ranges.{InRanges}
use Rattle.lx_class.specs.declared.ranges.Range.{Range}
use Rattle.lx_regex.specs.Expr.{members_of, size_of, term_of}
use Rattle.lx_regex.specs.Kinds.{HaveKinds, joined, kinds_of}
use Rattle.lx_regex.specs.Term.{Term, Terms, IsInRanges, empty, class, any_unit, cat, alt, repeat, tag, group, nil, cons}
use Rattle.lx_regex.specs.declared.rules.Tag.{Tag}
use Rattle.lx_exprs.specs.declared.values.Content.{Content}
use Rattle.lx_exprs.specs.declared.values.Content.TheVariants as content
use Rattle.lx_exprs.specs.declared.values.Room.{Room}
use Rattle.lx_exprs.specs.declared.values.Value.{Value}
use Rattle.lx_exprs.specs.Defined.{Meaning, Shape, one, row, choice, is_built, kept, meant_class}

-- ranges are collected where there is a class, in any order, and they have its points
abbrev pub HasPoints : Option (List Range) → Option (List (ℕ × ℕ)) → Type 0
HasPoints None None = Unit {0}
HasPoints None (Some ranges) = ⊥
HasPoints (Some collected) None = ⊥
HasPoints (Some collected) (Some ranges) = (point : ℕ) → InRanges collected point ↔ IsInRanges ranges point

-- whether alternatives stand there
abbrev pub is_choice : Shape → Bool
is_choice (one term) = false
is_choice (row terms) = false
is_choice (choice terms) = true

-- whether it is not built
abbrev pub is_past : Content → Bool
is_past (content.One expr) = false
is_past (content.Row members) = false
is_past (content.Choice members) = false
is_past (content.Past set alternatives) = true

-- whether alternatives are built
abbrev pub is_choice_content : Content → Bool
is_choice_content (content.One expr) = false
is_choice_content (content.Row members) = false
is_choice_content (content.Choice members) = true
is_choice_content (content.Past set alternatives) = alternatives

-- All that stands there is kept, or it is not built, and then the points of its class are, if it is one.
abbrev pub IsContent : (is_built : Bool) → Meaning → Content → Type 0
IsContent is_built meaning (content.One expr) = meaning.shape ≡ one (term_of 0 expr)
IsContent is_built meaning (content.Row members) = meaning.shape ≡ row (map (term_of 0) members.items)
IsContent is_built meaning (content.Choice members) = meaning.shape ≡ choice (map (term_of 0) members.items)
IsContent is_built meaning (content.Past set alternatives) =
    (is_built ≡ false) × HasPoints set (meant_class meaning) × (alternatives ≡ is_choice meaning.shape)

-- the size, the nesting and the numbers of groups and tags of a meaning, as far as they are kept
pub record IsCounted (meaning : Meaning) (size nesting groups tags : ℕ) : Type 0 where
  pub size_is : size ≡ kept meaning.size
  pub nesting_is : nesting ≡ kept meaning.nesting
  pub groups_is : groups ≡ meaning.groups
  pub tags_is : tags ≡ kept meaning.count

-- what is read stands for a meaning
pub record IsValue (room : Room) (meaning : Meaning) (value : Value) : Type 0 where
  pub counted : IsCounted meaning value.size value.nesting value.groups value.tags
  pub content : IsContent (is_built room meaning) meaning value.content
  pub past : is_past value.content ≡ not (is_built room meaning)

-- a room is no greater than that of a scanner
abbrev pub IsRoom : Room → Type 0
IsRoom room = (room.size ≤ SIZE_LIMIT) × (room.tags ≤ TAG_LIMIT)

-- the tags of a term have lesser numbers than the bound; its groups are numbered from the first one up to half of it, since each
-- counts for two
abbrev mutual
  pub HasTagsBelow : (first bound : ℕ) → Term → Type 0
  HasTagsBelow first bound empty = Unit {0}
  HasTagsBelow first bound (class ranges) = Unit {0}
  HasTagsBelow first bound any_unit = Unit {0}
  HasTagsBelow first bound (cat members) = HaveTagsBelow first bound members
  HasTagsBelow first bound (alt members) = HaveTagsBelow first bound members
  HasTagsBelow first bound (repeat body low high) = HasTagsBelow first bound body
  HasTagsBelow first bound (tag number) = number < bound
  HasTagsBelow first bound (group opening closing body) = (2 * first ≤ opening) × (opening ≤ bound) × HasTagsBelow first bound body

  pub HaveTagsBelow : (first bound : ℕ) → Terms → Type 0
  HaveTagsBelow first bound nil = Unit {0}
  HaveTagsBelow first bound (cons member members) = HasTagsBelow first bound member × HaveTagsBelow first bound members

-- the size of what is kept
abbrev pub content_size : Content → ℕ
content_size (content.One expr) = size_of expr
content_size (content.Row members) = sum (map size_of members.items)
content_size (content.Choice members) = sum (map size_of members.items) + 1
content_size (content.Past set alternatives) = 0

-- the tags of what is kept have lesser numbers
abbrev pub AreTagsBelow : (bound : ℕ) → Content → Type 0
AreTagsBelow bound (content.One expr) = HasTagsBelow 1 bound (term_of 0 expr)
AreTagsBelow bound (content.Row members) = HaveTagsBelow 1 bound (members_of (map (term_of 0) members.items))
AreTagsBelow bound (content.Choice members) = HaveTagsBelow 1 bound (members_of (map (term_of 0) members.items))
AreTagsBelow bound (content.Past set alternatives) = Unit {0}

-- what is read has at least the size of what is kept, and 1 at least, and the tags of what is kept have lesser numbers than those
-- that its item has up to its end
pub record IsBounded (value : Value) : Type 0 where
  pub some : 1 ≤ value.size
  pub size : content_size value.content ≤ value.size
  pub tags : AreTagsBelow value.tags value.content

-- the tags in what is kept, each with whether it is an m-tag
abbrev pub content_kinds : Content → List (ℕ × Bool)
content_kinds (content.One expr) = kinds_of expr
content_kinds (content.Row members) = joined (map kinds_of members.items)
content_kinds (content.Choice members) = joined (map kinds_of members.items)
content_kinds (content.Past set alternatives) = []

-- these are of the kinds that they have among the tags of an item
abbrev pub HasKinds : List Tag → Content → Type 0
HasKinds tags held = HaveKinds tags (content_kinds held)

abbrev pub HasValueKinds : List Tag → Value → Type 0
HasValueKinds tags value = HasKinds tags value.content
