-- What definitions have so that scanners can be built from them.
use Rattle.std.specs.Prelude.{◌≡◌, ℕ, ◌+◌, ◌*◌, ◌≤◌, true, false, List, [], ◌∷◌, length, is_some}
use Rattle.std.specs.Option.{option_and_then}
use Rattle.lx_base.specs.Spelling.{greatest_point}
use Rattle.lx_base.specs.declared.settings.Enc.{Enc}
use Rattle.lx_base.specs.declared.settings.Options.{Options}
use Rattle.lx_regex.specs.Limits.{HasLongSequences, numbers_from}
use Rattle.lx_regex.specs.Script.{merge_tags, put_tag}
use Rattle.lx_regex.specs.Term.{Term, Terms, IsInRanges, empty, class, any_unit, cat, alt, repeat, tag, group, nil, cons}
use Rattle.lx_exprs.specs.Checks.{are_groups}
use Rattle.lx_exprs.specs.Defined.{Definition, class_in, fits, whole_room}
use Rattle.lx_exprs.specs.Meanings.{term_or_empty}

-- the classes of a term fit the encoding
abbrev mutual
  pub IsPlain : Enc → Term → Type 0
  IsPlain enc empty = Unit {0}
  IsPlain enc (class ranges) = (point : ℕ) → IsInRanges ranges point → point ≤ greatest_point enc
  IsPlain enc any_unit = Unit {0}
  IsPlain enc (cat members) = ArePlain enc members
  IsPlain enc (alt members) = ArePlain enc members
  IsPlain enc (repeat body low high) = IsPlain enc body
  IsPlain enc (tag number) = Unit {0}
  IsPlain enc (group opening closing body) = IsPlain enc body

  pub ArePlain : Enc → Terms → Type 0
  ArePlain enc nil = Unit {0}
  ArePlain enc (cons member members) = IsPlain enc member × ArePlain enc members

-- the numbers of the tags of a term, ascending, without the ends of its groups
abbrev mutual
  pub own_tags : Term → List ℕ
  own_tags empty = []
  own_tags (class ranges) = []
  own_tags any_unit = []
  own_tags (cat members) = own_tags_among members
  own_tags (alt members) = own_tags_among members
  own_tags (repeat body low high) = own_tags body
  own_tags (tag number) = number ∷ []
  own_tags (group opening closing body) = own_tags body

  pub own_tags_among : Terms → List ℕ
  own_tags_among nil = []
  own_tags_among (cons member members) = merge_tags (own_tags member) (own_tags_among members)

-- the ends of its groups, ascending
abbrev mutual
  pub ends_in : Term → List ℕ
  ends_in empty = []
  ends_in (class ranges) = []
  ends_in any_unit = []
  ends_in (cat members) = ends_among members
  ends_in (alt members) = ends_among members
  ends_in (repeat body low high) = ends_in body
  ends_in (tag number) = []
  ends_in (group opening closing body) = put_tag opening (put_tag closing (ends_in body))

  pub ends_among : Terms → List ℕ
  ends_among nil = []
  ends_among (cons member members) = merge_tags (ends_in member) (ends_among members)

-- Sequences are long. The tags are so many, numbered from one on, and so are the groups, each with its two ends.
pub record IsNumbered (from count first groups : ℕ) (term : Term) : Type 0 where
  pub sequences : HasLongSequences term
  pub tags : own_tags term ≡ numbers_from from count
  pub ends : ends_in term ≡ numbers_from (2 * first) (2 * groups)

-- A definition is ready for copies: its classes fit the encoding, a class has no tags and no groups, and within the limits of a
-- scanner its tags and groups are numbered in order.
pub record IsDefinedWithin (enc : Enc) (definition : Definition) : Type 0 where
  pub plain : IsPlain enc (term_or_empty definition.term)
  pub untagged : is_some (option_and_then class_in definition.term) ≡ true → (definition.tags ≡ []) × (definition.groups ≡ 0)
  pub numbered : fits whole_room definition.size definition.nesting (length definition.tags + 2 * definition.groups) ≡ true
      → IsNumbered 0 (length definition.tags) 1 definition.groups (term_or_empty definition.term)

-- a definition has groups only where parentheses are groups
abbrev pub IsGrouped : Options → Definition → Type 0
IsGrouped options definition = are_groups options [] ≡ false → definition.groups ≡ 0

-- definitions stand under these options: each is ready for copies, and has groups only where there are any
abbrev pub AreDefinedWithin : Options → List Definition → Type 0
AreDefinedWithin options [] = Unit {0}
AreDefinedWithin options (definition ∷ definitions) =
    (IsDefinedWithin options.enc definition × IsGrouped options definition) × AreDefinedWithin options definitions
