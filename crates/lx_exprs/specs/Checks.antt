-- The checks of an expression, at its tokens from left to right.
use Rattle.std.specs.Prelude.{◌≡◌, ◌≢◌, ℕ, suc, ◌+◌, ◌-◌, ◌⊎◌, Bool, true, false, List, [], ◌∷◌, ◌++◌, length, map, drop, nat_lt, ◌==◌, ◌&&◌, ◌||◌, Option, Some, None, is_some, not, if◌then◌else◌}
use Rattle.std.specs.Option.{option_and_then}
use Rattle.std.specs.Str.{bytes_eq}
use Rattle.lx_base.specs.declared.limits.TheConstants.{BOUND_LIMIT}
use Rattle.lx_base.specs.Letters.{is_within}
use Rattle.lx_base.specs.declared.places.Pos.{Pos}
use Rattle.lx_base.specs.declared.faults.Fault.{Fault}
use Rattle.lx_base.specs.declared.faults.Fault.TheVariants.{Syntax, UnknownName, NotClass, Bounds, EmptyClass, TagsOff, DuplicateTag}
use Rattle.lx_base.specs.declared.faults.Stop.{Stop}
use Rattle.lx_base.specs.declared.faults.Stop.TheVariants as stop
use Rattle.lx_base.specs.declared.settings.Options.{Options}
use Rattle.lx_base.specs.declared.settings.EmptyPolicy.{EmptyPolicy}
use Rattle.lx_base.specs.declared.settings.EmptyPolicy.TheVariants.{Error}
use Rattle.lx_token.specs.declared.kinds.TokenKind.{TokenKind}
use Rattle.lx_token.specs.declared.kinds.TokenKind.TheVariants as kind
use Rattle.lx_token.specs.declared.classes.PointRange.{PointRange}
use Rattle.lx_token.specs.Classes.{class_of}
use Rattle.lx_token.specs.Numbers.{repeat_of}
use Rattle.lx_token.specs.declared.numbers.Repeat.{Repeat}
use Rattle.lx_parse.specs.declared.sorts.Sort.{Sort}
use Rattle.lx_parse.specs.declared.sorts.Sort.TheVariants.{Star, Plus, Question}
use Rattle.lx_class.specs.declared.ranges.Range.{Range}
use Rattle.lx_encode.specs.Policy.{IsAfter, IsPoint}
use Rattle.lx_forms.specs.Lexemes.{Lexeme, points_in, sort_at}
use Rattle.lx_exprs.specs.Points.{singles, points_fault}
use Rattle.lx_regex.specs.Term.{IsInRanges}
use Rattle.lx_regex.specs.declared.rules.Tag.{Tag}
use Rattle.lx_exprs.specs.Defined.{Definition, class_in, definition_of, kept}
use Rattle.lx_forms.specs.Forms.{Form, leaf, group, repeated, sequence, difference, alternative}

-- a check says which fault is found, or none
abbrev pub Check : Type 1
Check = Option Fault → Type 0

-- one check, and where it finds nothing the next one
abbrev pub Then : Check → Check → Check
Then First Second fault = (First None × Second fault) ⊎ ((first : Fault) × First (Some first) × (fault ≡ Some first))

-- a check that finds this fault, or none
abbrev pub Finds : Option Fault → Check
Finds found fault = fault ≡ found

-- a call stops with a fault that a check finds, or where memory runs out
abbrev pub StopsAt : Check → Stop → Type 0
StopsAt Found stop.Memory = Unit {0}
StopsAt Found (stop.Fault fault) = Found (Some fault)

-- a token that stands for nothing is refused
abbrev pub misplaced : Lexeme → Option Fault
misplaced lexeme = Some (Syntax lexeme.at)

-- the class that a token is
abbrev pub range_of : PointRange → Range
range_of range = record { lo = range.lo; hi = range.hi }

abbrev pub class_ranges : Lexeme → List Range
class_ranges lexeme = map range_of (class_of lexeme.text).ranges

-- the code points in both cases, where they are ASCII letters
abbrev pub both_cases : List ℕ → List ℕ
both_cases [] = []
both_cases (point ∷ points) =
    if is_within 65 90 point then point ∷ (point + 32) ∷ both_cases points
    else (if is_within 97 122 point then point ∷ (point - 32) ∷ both_cases points else point ∷ both_cases points)

-- a name that is one of these
abbrev pub is_among : (name : List ℕ) → List (List ℕ) → Bool
is_among name [] = false
is_among name (other ∷ others) = bytes_eq name other || is_among name others

-- the names of tags
abbrev pub tag_names : List Tag → List (List ℕ)
tag_names tags = map (λ (tag : Tag). tag.name) tags

-- the name of one of the tags
abbrev pub is_tag_among : (name : List ℕ) → List Tag → Bool
is_tag_among name [] = false
is_tag_among name (tag ∷ tags) = bytes_eq name tag.name || is_tag_among name tags

-- a tag whose name one before it has
abbrev pub repeated_tag : Pos → (tags seen : List Tag) → Option Fault
repeated_tag at [] seen = None
repeated_tag at (tag ∷ tags) seen =
    if is_tag_among tag.name seen then Some (DuplicateTag at tag.name) else repeated_tag at tags seen

-- bounds in the wrong order, or with a number over 4,096
abbrev pub is_wrong : (least : ℕ) → (greatest : Option ℕ) → Bool
is_wrong least None = nat_lt BOUND_LIMIT least
is_wrong least (Some greatest) = nat_lt BOUND_LIMIT least || nat_lt BOUND_LIMIT greatest || nat_lt greatest least

-- how often a sign repeats what stands before it
abbrev pub bounds_at : Sort → Lexeme → Repeat
bounds_at Star lexeme = record { min = 0; max = None }
bounds_at Plus lexeme = record { min = 1; max = None }
bounds_at Question lexeme = record { min = 0; max = Some 1 }
bounds_at sort lexeme = repeat_of lexeme.text

abbrev pub bounds_of : Lexeme → Repeat
bounds_of sign = bounds_at (sort_at sign) sign

abbrev pub bounds_fault : Lexeme → Option Fault
bounds_fault sign =
    let bounds = bounds_of sign in if is_wrong bounds.min bounds.max then Some (Bounds sign.at bounds.min bounds.max) else None

-- the tag's name, behind its mark
abbrev pub tag_name : Lexeme → List ℕ
tag_name lexeme = drop 1 lexeme.text

-- the tag of a token: `#` marks one that has all its values
abbrev pub tag_of : (many : Bool) → Lexeme → Tag
tag_of many lexeme = record { name = tag_name lexeme; many = many }

-- the point is one of a class
abbrev pub IsIn : Option (List (ℕ × ℕ)) → ℕ → Type 0
IsIn None point = ⊥
IsIn (Some ranges) point = IsInRanges ranges point

module _ (options : Options) (definitions : List Definition) where
  -- the code points of a token are those that the encoding has, and no surrogates where these are refused
  abbrev pub PointsAre : Lexeme → List Range → Check
  PointsAre lexeme ranges = Finds (points_fault options.enc options.surrogates lexeme.at ranges)

  -- A class has a point, where empty ones are refused. An operand of a difference may be empty.
  abbrev pub IsFilled : EmptyPolicy → (is_operand : Bool) → Pos → (HasPoint : ℕ → Type 0) → Check
  IsFilled Error false at HasPoint fault =
      (((point : ℕ) × HasPoint point) × (fault ≡ None))
      ⊎ (((point : ℕ) → HasPoint point → ⊥) × (fault ≡ Some (EmptyClass at)))
  IsFilled policy is_operand at HasPoint fault = fault ≡ None

  -- the code points of a definition, where it is a class
  abbrev pub defined_points : Option Definition → Option (List (ℕ × ℕ))
  defined_points None = None
  defined_points (Some definition) = option_and_then class_in definition.term

  -- the point belongs to ranges, or to the others
  abbrev pub ClassHas : (is_negated : Bool) → List Range → ℕ → Type 0
  ClassHas false ranges point = IsAfter options.surrogates ranges point
  ClassHas true ranges point = IsPoint options.enc options.surrogates point × ¬ IsAfter options.surrogates ranges point

  -- the point belongs to a token that is a class
  abbrev pub LeafHas : TokenKind → Lexeme → ℕ → Type 0
  LeafHas kind.Str lexeme point = IsAfter options.surrogates (singles (points_in lexeme)) point
  LeafHas kind.IStr lexeme point = IsAfter options.surrogates (singles (both_cases (points_in lexeme))) point
  LeafHas kind.Class lexeme point = ClassHas (class_of lexeme.text).is_negated (class_ranges lexeme) point
  LeafHas kind.Signs lexeme point = IsPoint options.enc options.surrogates point × (point ≢ 10)
  LeafHas kind.Name lexeme point = IsIn (defined_points (definition_of definitions lexeme.text)) point
  LeafHas kind lexeme point = ⊥

  -- the point belongs to a form that is a class
  abbrev pub HasPoint : Form → ℕ → Type 0
  HasPoint (leaf lexeme) point = LeafHas lexeme.kind lexeme point
  HasPoint (group opening inner) point = HasPoint inner point
  HasPoint (repeated inner sign) point = ⊥
  HasPoint (sequence front back) point = ⊥
  HasPoint (difference left sign right) point = HasPoint left point × ¬ HasPoint right point
  HasPoint (alternative left sign right) point = HasPoint left point ⊎ HasPoint right point

  -- a token that is a class: a string has one character
  abbrev pub leaf_is_class : TokenKind → Lexeme → Bool
  leaf_is_class kind.Str lexeme = length (points_in lexeme) == 1
  leaf_is_class kind.IStr lexeme = length (points_in lexeme) == 1
  leaf_is_class kind.Class lexeme = true
  leaf_is_class kind.Signs lexeme = true
  leaf_is_class kind.Name lexeme = is_some (defined_points (definition_of definitions lexeme.text))
  leaf_is_class kind lexeme = false

  -- parentheses are a group of captures
  abbrev pub are_groups : Bool
  are_groups = options.captures || options.posix

  -- a form that is a class; parentheses that are a group of captures are none
  abbrev pub is_class : Form → Bool
  is_class (leaf lexeme) = leaf_is_class lexeme.kind lexeme
  is_class (group opening inner) = if are_groups then false else is_class inner
  is_class (repeated inner sign) = false
  is_class (sequence front back) = false
  is_class (difference left sign right) = true
  is_class (alternative left sign right) = is_class left && is_class right

  -- both operands of a difference are classes
  abbrev pub AreClasses : (left right : Form) (sign : Lexeme) → Check
  AreClasses left right sign = Finds (if is_class left && is_class right then None else Some (NotClass sign.at))

  -- the tags of a form, in order; those of a name are its definition's
  abbrev pub defined_tags : Option Definition → List Tag
  defined_tags None = []
  defined_tags (Some definition) = definition.tags

  abbrev pub leaf_tags : TokenKind → Lexeme → List Tag
  leaf_tags kind.Name lexeme = defined_tags (definition_of definitions lexeme.text)
  leaf_tags kind.STag lexeme = tag_of false lexeme ∷ []
  leaf_tags kind.MTag lexeme = tag_of true lexeme ∷ []
  leaf_tags kind lexeme = []

  abbrev pub tags_of : Form → List Tag
  tags_of (leaf lexeme) = leaf_tags lexeme.kind lexeme
  tags_of (group opening inner) = tags_of inner
  tags_of (repeated inner sign) = tags_of inner
  tags_of (sequence front back) = tags_of front ++ tags_of back
  tags_of (difference left sign right) = tags_of left ++ tags_of right
  tags_of (alternative left sign right) = tags_of left ++ tags_of right

  -- how many groups a form has; those of a name are its definition's
  abbrev pub defined_groups : Option Definition → ℕ
  defined_groups None = 0
  defined_groups (Some definition) = definition.groups

  abbrev pub leaf_groups : TokenKind → Lexeme → ℕ
  leaf_groups kind.Name lexeme = defined_groups (definition_of definitions lexeme.text)
  leaf_groups kind lexeme = 0

  abbrev pub groups_of : Form → ℕ
  groups_of (leaf lexeme) = leaf_groups lexeme.kind lexeme
  groups_of (group opening inner) = if are_groups then kept (suc (groups_of inner)) else groups_of inner
  groups_of (repeated inner sign) = groups_of inner
  groups_of (sequence front back) = kept (groups_of front + groups_of back)
  groups_of (difference left sign right) = kept (groups_of left + groups_of right)
  groups_of (alternative left sign right) = kept (groups_of left + groups_of right)

  -- the name is defined, and its definition has no tag that was seen before
  abbrev pub name_fault : Option Definition → Lexeme → (seen : List Tag) → Option Fault
  name_fault None lexeme seen = Some (UnknownName lexeme.at lexeme.text)
  name_fault (Some definition) lexeme seen = repeated_tag lexeme.at definition.tags seen

  -- tags are allowed, and the tag was not seen before
  abbrev pub tag_fault : (many : Bool) → Lexeme → (seen : List Tag) → Option Fault
  tag_fault many lexeme seen =
      if options.tags then repeated_tag lexeme.at (tag_of many lexeme ∷ []) seen else Some (TagsOff lexeme.at)

  -- the checks at a token of an expression that is no sign between other forms
  abbrev pub LeafChecks : TokenKind → (is_operand : Bool) → (seen : List Tag) → Lexeme → Check
  LeafChecks kind.Str is_operand seen lexeme = PointsAre lexeme (singles (points_in lexeme))
  LeafChecks kind.Name is_operand seen lexeme = Finds (name_fault (definition_of definitions lexeme.text) lexeme seen)
  LeafChecks kind.STag is_operand seen lexeme = Finds (tag_fault false lexeme seen)
  LeafChecks kind.MTag is_operand seen lexeme = Finds (tag_fault true lexeme seen)
  LeafChecks kind.IStr is_operand seen lexeme = PointsAre lexeme (singles (points_in lexeme))
  LeafChecks kind.Class is_operand seen lexeme =
      Then (PointsAre lexeme (class_ranges lexeme)) (IsFilled options.empty is_operand lexeme.at (LeafHas kind.Class lexeme))
  LeafChecks kind.Signs is_operand seen lexeme = Finds None
  LeafChecks kind is_operand seen lexeme = Finds (misplaced lexeme)

  -- parentheses around an operand of a difference are one, where they are no group
  abbrev pub inner_operand : (is_operand : Bool) → Bool
  inner_operand is_operand = is_operand && not are_groups

  -- the checks of an expression, behind tags that were seen before
  abbrev pub Checks : (is_operand : Bool) → (seen : List Tag) → Form → Check
  Checks is_operand seen (leaf lexeme) = LeafChecks lexeme.kind is_operand seen lexeme
  Checks is_operand seen (group opening inner) = Checks (inner_operand is_operand) seen inner
  Checks is_operand seen (repeated inner sign) = Then (Checks false seen inner) (Finds (bounds_fault sign))
  Checks is_operand seen (sequence front back) = Then (Checks false seen front) (Checks false (seen ++ tags_of front) back)
  Checks is_operand seen (difference left sign right) =
      Then (Checks true seen left)
      (Then (Checks true (seen ++ tags_of left) right)
      (Then (AreClasses left right sign) (IsFilled options.empty is_operand sign.at (HasPoint (difference left sign right)))))
  Checks is_operand seen (alternative left sign right) =
      Then (Checks is_operand seen left) (Checks is_operand (seen ++ tags_of left) right)
