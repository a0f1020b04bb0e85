-- What a lexer keeps of the values that were given: for each tag the last ones, the count of groups, and the ends of groups.
use Rattle.std.specs.Prelude.{ℕ, ◌/◌, ◌%◌, Bool, true, false, List, [], ◌∷◌, replicate, length, Option, Some, None, ◌==◌, if◌then◌else◌, slice_get, slice_index_or, slice_set}
use Rattle.lx_ccode.specs.Machine.{Value, tag_offset, tag_history, group_count, group_end, condition}
use Rattle.lx_ccode.specs.NameSets.{first_place}
use Rattle.lx_base.specs.Letters.{equal_words}
use Rattle.lx_step.specs.declared.answers.Group.{Group}

pub record Given : Type 0 where
  -- for each tag of a piece, by its number, the last offset
  pub offsets : List (Option ℕ)
  -- and the last history
  pub histories : List (List (Option ℕ))
  -- the groups, as many as a rule of the piece may have
  pub entries : List Group
  -- how many groups the rule that was matched last has
  pub groups : ℕ

-- ---- after values

-- items with another one at a place, where there is one
abbrev pub with_item : {A : Type 0} → Option ℕ → A → List A → List A
with_item None item items = items
with_item (Some place) item items = slice_set items place item

-- a group with another beginning, or another end
abbrev pub with_side : (beginning : Bool) → Option ℕ → Group → Group
with_side true value group = record group { from = value }
with_side false value group = record group { to = value }

-- a group of which nothing was set
abbrev pub no_group : Group
no_group = record { from = None; to = None }

-- ends are counted: first the beginning of group 0, then its end, then the beginning of group 1
abbrev pub with_end : (place : ℕ) → Option ℕ → List Group → List Group
with_end place value entries =
    slice_set entries (place / 2) (with_side (place % 2 == 0) value (slice_index_or entries (place / 2) no_group))

module _ (names : List (List ℕ)) where
  -- after a value, where these are the names of the tags
  abbrev pub after_value : Value → Given → Given
  after_value (tag_offset tag offset) given = record given { offsets = with_item (first_place names tag) offset given.offsets }
  after_value (tag_history tag history) given = record given { histories = with_item (first_place names tag) history given.histories }
  after_value (group_count groups) given = record given { groups = groups }
  after_value (group_end place offset) given = record given { entries = with_end place offset given.entries }
  after_value (condition cond) given = given

  -- after values that were given one behind another
  abbrev pub after_values : List Value → Given → Given
  after_values [] given = given
  after_values (value ∷ values) given = after_values values (after_value value given)

  -- ---- what a tag has

  abbrev pub offset_in : Given → (tag : List ℕ) → Option (Option ℕ)
  offset_in given tag = elim (first_place names tag) [ None ↦ None | Some number ↦ slice_get given.offsets number ]

  abbrev pub history_in : Given → (tag : List ℕ) → Option (List (Option ℕ))
  history_in given tag = elim (first_place names tag) [ None ↦ None | Some number ↦ slice_get given.histories number ]

-- the offsets that a tag is given among values, in order
abbrev pub offsets_given : (tag : List ℕ) → List Value → List (Option ℕ)
offsets_given tag [] = []
offsets_given tag (tag_offset other offset ∷ values) = if equal_words other tag then offset ∷ offsets_given tag values else offsets_given tag values
offsets_given tag (_ ∷ values) = offsets_given tag values

-- the histories that it is given
abbrev pub histories_given : (tag : List ℕ) → List Value → List (List (Option ℕ))
histories_given tag [] = []
histories_given tag (tag_history other history ∷ values) = if equal_words other tag then history ∷ histories_given tag values else histories_given tag values
histories_given tag (_ ∷ values) = histories_given tag values

-- ---- before any value was given

-- nothing was given yet to the tags with these names; so many groups have room
abbrev pub nothing_given : (names : List (List ℕ)) → (room : ℕ) → Given
nothing_given names room = record {
  offsets = replicate (length names) None;
  histories = replicate (length names) [];
  entries = replicate room no_group;
  groups = 0;
}
