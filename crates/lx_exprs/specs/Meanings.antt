-- What expressions mean.
use Rattle.std.specs.Prelude.{◌≡◌, ℕ, suc, ◌+◌, ◌-◌, ◌*◌, ◌↔◌, max, if◌then◌else◌, Bool, true, false, List, [], ◌∷◌, ◌++◌, length, map, Option, Some, None}
use Rattle.lx_base.specs.Letters.{is_within}
use Rattle.lx_base.specs.declared.settings.EmptyPolicy.{EmptyPolicy}
use Rattle.lx_base.specs.declared.settings.EmptyPolicy.TheVariants.{MatchEmpty}
use Rattle.lx_base.specs.declared.settings.Options.{Options}
use Rattle.lx_base.specs.declared.settings.SurPolicy.{SurPolicy}
use Rattle.lx_class.specs.Ranges.{InRanges, IsCanonical}
use Rattle.lx_class.specs.declared.ranges.Range.{Range}
use Rattle.lx_token.specs.declared.kinds.TokenKind.{TokenKind}
use Rattle.lx_token.specs.declared.kinds.TokenKind.TheVariants as kind
use Rattle.lx_token.specs.declared.numbers.Repeat.{Repeat}
use Rattle.lx_regex.specs.Term.{Term, Terms, empty, class, any_unit, cat, alt, repeat, tag, group, nil, cons}
use Rattle.lx_regex.specs.Expr.{members_of, ranges_of, times}
use Rattle.lx_regex.specs.declared.rules.Tag.{Tag}
use Rattle.lx_forms.specs.Lexemes.{Lexeme, points_in}
use Rattle.lx_exprs.specs.Points.{replaced, singles}
use Rattle.lx_exprs.specs.Defined.{Before, Definition, Meaning, Shape, one, row, choice, and_more, count_of, kept, whole, definition_of}
use Rattle.lx_forms.specs.Forms as forms
use Rattle.lx_forms.specs.Forms.{Form, leaf, repeated, sequence, difference, alternative}
use Rattle.lx_exprs.specs.Checks.{HasPoint, LeafHas, are_groups, bounds_of, groups_of, inner_operand, tag_of, tags_of}

-- the sorted ranges of these points, and of no others
pub record IsSetOf (Has : ℕ → Type 0) (set : List Range) : Type 0 where
  pub canonical : IsCanonical set
  pub points : (point : ℕ) → InRanges set point ↔ Has point

-- a set as a class
abbrev pub set_term : List Range → Term
set_term set = class (ranges_of set)

-- A class that is no operand of a difference and has no point is the empty word, where empty classes match that.
abbrev pub class_term : (is_operand : Bool) → EmptyPolicy → (set : List Range) → Term
class_term true policy set = set_term set
class_term false MatchEmpty [] = empty
class_term false policy set = set_term set

-- a class has the tags and groups of its operands, where it is a difference: none, since these are classes
abbrev pub class_meaning : (is_operand : Bool) → EmptyPolicy → (nesting : ℕ) → (tags : List Tag) → (groups count : ℕ) → List Range → Meaning
class_meaning is_operand policy nesting tags groups count set =
    record { shape = one (class_term is_operand policy set); size = 1; nesting = nesting; tags = tags; groups = groups; count = count }

-- the set of a character: its code point as the policy takes it, and an ASCII letter in both cases where these are one
abbrev pub character_set : SurPolicy → (is_caseless : Bool) → ℕ → List Range
character_set policy false point = singles (replaced policy point ∷ [])
character_set policy true point =
    if is_within 65 90 point then singles (point ∷ (point + 32) ∷ [])
    else (if is_within 97 122 point then singles ((point - 32) ∷ point ∷ []) else singles (replaced policy point ∷ []))

-- a string: nothing, one character, or the sequence of its characters
abbrev pub string_term : (sets : List (List Range)) → Term
string_term [] = empty
string_term (set ∷ []) = set_term set
string_term (set ∷ next ∷ sets) = cat (members_of (map set_term (set ∷ next ∷ sets)))

abbrev pub string_meaning : (count : ℕ) → (sets : List (List Range)) → Meaning
string_meaning count sets =
    record { shape = one (string_term sets); size = max 1 (length sets); nesting = 0; tags = []; groups = 0; count = count }

-- the term of a definition; one that is past a limit is missed nowhere, since what it stands in is past that limit too
abbrev pub term_or_empty : Option Term → Term
term_or_empty None = empty
term_or_empty (Some term) = term

-- A term whose tags have numbers greater by one number, and whose groups by another. Group k has the ends 2 k and 2 k + 1.
abbrev mutual
  pub shifted : (by groups : ℕ) → Term → Term
  shifted by groups empty = empty
  shifted by groups (class ranges) = class ranges
  shifted by groups any_unit = any_unit
  shifted by groups (cat members) = cat (shifted_all by groups members)
  shifted by groups (alt members) = alt (shifted_all by groups members)
  shifted by groups (repeat body low high) = repeat (shifted by groups body) low high
  shifted by groups (tag number) = tag (number + by)
  shifted by groups (group opening closing body) =
      group (opening + 2 * groups) (closing + 2 * groups) (shifted by groups body)

  pub shifted_all : (by groups : ℕ) → Terms → Terms
  shifted_all by groups nil = nil
  shifted_all by groups (cons member members) = cons (shifted by groups member) (shifted_all by groups members)

-- tags whose numbers are greater by one number, each with whether it is an m-tag
abbrev pub moved : (by : ℕ) → List (ℕ × Bool) → List (ℕ × Bool)
moved by kinds = map (λ (one : ℕ × Bool). (one.0 + by, one.1)) kinds

-- a term in a rule with so many tags: the ends of its groups have the numbers behind these
abbrev mutual
  pub behind : (tags : ℕ) → Term → Term
  behind tags empty = empty
  behind tags (class ranges) = class ranges
  behind tags any_unit = any_unit
  behind tags (cat members) = cat (all_behind tags members)
  behind tags (alt members) = alt (all_behind tags members)
  behind tags (repeat body low high) = repeat (behind tags body) low high
  behind tags (tag number) = tag number
  behind tags (group opening closing body) = group (opening + tags) (closing + tags) (behind tags body)

  pub all_behind : (tags : ℕ) → Terms → Terms
  all_behind tags nil = nil
  all_behind tags (cons member members) = cons (behind tags member) (all_behind tags members)

-- a copy of a definition
abbrev pub copied : Before → Definition → Meaning
copied before definition = record {
  shape = one (shifted (length before.tags) before.groups (term_or_empty definition.term));
  size = definition.size;
  nesting = suc definition.nesting;
  tags = definition.tags;
  groups = definition.groups;
  count = count_of (and_more before definition.tags definition.groups);
}

-- a tag
abbrev pub tag_meaning : Before → Tag → Meaning
tag_meaning before named =
    record { shape = one (tag (length before.tags)); size = 1; nesting = 0; tags = named ∷ []; groups = 0; count = suc (count_of before) }

-- parentheses that are no group
abbrev pub enclosed : Meaning → Meaning
enclosed inner = record {
  shape = one (whole inner.shape);
  size = inner.size;
  nesting = suc inner.nesting;
  tags = inner.tags;
  groups = inner.groups;
  count = inner.count;
}

-- what stands before the expression in a group: the group too, whose number is that of all groups up to it
abbrev pub in_group : Before → Before
in_group before = record { tags = before.tags; groups = kept (suc before.groups) }

-- parentheses that are the group with a number
abbrev pub grouped : (number : ℕ) → Meaning → Meaning
grouped number inner = record {
  shape = one (group (2 * number) (2 * number + 1) (whole inner.shape));
  size = inner.size + 2;
  nesting = suc inner.nesting;
  tags = inner.tags;
  groups = kept (suc inner.groups);
  count = max inner.count (2 * number);
}

-- parentheses that are a group or none: what stands before the expression in them, and what they mean
abbrev pub in_parentheses : (is_group : Bool) → Before → Before
in_parentheses true before = in_group before
in_parentheses false before = before

abbrev pub parenthesized : (is_group : Bool) → Before → Meaning → Meaning
parenthesized true before inner = grouped (in_group before).groups inner
parenthesized false before inner = enclosed inner

-- a repetition
abbrev pub repeated_by : Repeat → Meaning → Meaning
repeated_by bounds inner = record {
  shape = one (repeat (whole inner.shape) bounds.min bounds.max);
  size = inner.size * times bounds.min bounds.max + 1;
  nesting = suc inner.nesting;
  tags = inner.tags;
  groups = inner.groups;
  count = inner.count;
}

-- what stands in a sequence: its terms, or the one that it is
abbrev pub in_row : Shape → List Term
in_row (row terms) = terms
in_row shape = whole shape ∷ []

-- a sequence, and what stands behind it
abbrev pub followed : Meaning → Meaning → Meaning
followed front back = record {
  shape = row (in_row front.shape ++ in_row back.shape);
  size = front.size + back.size;
  nesting = max front.nesting back.nesting;
  tags = front.tags ++ back.tags;
  groups = kept (front.groups + back.groups);
  count = max front.count back.count;
}

-- the terms among which an alternation chooses, or the one that it is
abbrev pub in_choice : Shape → List Term
in_choice (choice terms) = terms
in_choice shape = whole shape ∷ []

-- an alternation counts 1 more than what stands in it
abbrev pub choice_size : Shape → ℕ
choice_size (choice terms) = 0
choice_size shape = 1

-- alternatives, and one more
abbrev pub alternated : Meaning → Meaning → Meaning
alternated left right = record {
  shape = choice (in_choice left.shape ++ whole right.shape ∷ []);
  size = left.size + choice_size left.shape + right.size;
  nesting = max left.nesting right.nesting;
  tags = left.tags ++ right.tags;
  groups = kept (left.groups + right.groups);
  count = max left.count right.count;
}

module _ (options : Options) (definitions : List Definition) where
  -- the meaning of a string, in quotes that tell cases apart or not
  abbrev pub meaning_of_string : (is_caseless : Bool) → (count : ℕ) → Lexeme → Meaning
  meaning_of_string is_caseless count lexeme =
      string_meaning count (map (character_set options.surrogates is_caseless) (points_in lexeme))

  -- the meaning of a class of these points
  abbrev pub IsClassMeaning : (is_operand : Bool) → (nesting : ℕ) → (tags : List Tag) → (groups count : ℕ) → (Has : ℕ → Type 0) → Meaning → Type 0
  IsClassMeaning is_operand nesting tags groups count Has meaning =
      (set : List Range) × IsSetOf Has set × (meaning ≡ class_meaning is_operand options.empty nesting tags groups count set)

  -- the meaning of a token that is no sign between other forms
  abbrev pub IsLeafMeaning : (is_operand : Bool) → TokenKind → Before → Lexeme → Meaning → Type 0
  IsLeafMeaning is_operand kind.Str before lexeme meaning = meaning ≡ meaning_of_string false (count_of before) lexeme
  IsLeafMeaning is_operand kind.IStr before lexeme meaning = meaning ≡ meaning_of_string true (count_of before) lexeme
  IsLeafMeaning is_operand kind.Class before lexeme meaning =
      IsClassMeaning is_operand 0 [] 0 (count_of before) (LeafHas options definitions kind.Class lexeme) meaning
  IsLeafMeaning is_operand kind.Signs before lexeme meaning =
      IsClassMeaning is_operand 0 [] 0 (count_of before) (LeafHas options definitions kind.Signs lexeme) meaning
  IsLeafMeaning is_operand kind.Name before lexeme meaning =
      (definition : Definition) × (definition_of definitions lexeme.text ≡ Some definition) × (meaning ≡ copied before definition)
  IsLeafMeaning is_operand kind.STag before lexeme meaning = meaning ≡ tag_meaning before (tag_of false lexeme)
  IsLeafMeaning is_operand kind.MTag before lexeme meaning = meaning ≡ tag_meaning before (tag_of true lexeme)
  IsLeafMeaning is_operand kind before lexeme meaning = ⊥

  -- what stands before what is behind a form
  abbrev pub past : Before → Form → Before
  past before form = and_more before (tags_of options definitions form) (groups_of options definitions form)

  -- the meaning of an expression
  abbrev pub IsMeaning : (is_operand : Bool) → Before → Form → Meaning → Type 0
  IsMeaning is_operand before (leaf lexeme) meaning = IsLeafMeaning is_operand lexeme.kind before lexeme meaning
  IsMeaning is_operand before (forms.group opening inner) meaning =
      (body : Meaning)
      × IsMeaning (inner_operand options definitions is_operand) (in_parentheses (are_groups options definitions) before) inner body
      × (meaning ≡ parenthesized (are_groups options definitions) before body)
  IsMeaning is_operand before (repeated inner sign) meaning =
      (body : Meaning) × IsMeaning false before inner body × (meaning ≡ repeated_by (bounds_of sign) body)
  IsMeaning is_operand before (sequence front back) meaning =
      (first second : Meaning) × IsMeaning false before front first × IsMeaning false (past before front) back second
      × (meaning ≡ followed first second)
  IsMeaning is_operand before (difference left sign right) meaning =
      (first second : Meaning) × IsMeaning true before left first × IsMeaning true (past before left) right second
      × IsClassMeaning is_operand (max first.nesting second.nesting) (first.tags ++ second.tags) (kept (first.groups + second.groups))
      (max first.count second.count) (HasPoint options definitions (difference left sign right)) meaning
  IsMeaning is_operand before (alternative left sign right) meaning =
      (first second : Meaning) × IsMeaning is_operand before left first × IsMeaning is_operand (past before left) right second
      × (meaning ≡ alternated first second)
