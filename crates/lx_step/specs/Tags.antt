-- The tags that a piece names, by their numbers.
use Rattle.std.specs.Prelude.{◌≡◌, ℕ, suc, ◌+◌, ◌*◌, ◌%◌, ◌<◌, ◌==◌, Bool, true, false, not, List, [], ◌∷◌, ◌++◌, get_or, length, map, take, Option, Some, None, if◌then◌else◌, is_some}
use Rattle.std.specs.List.{AllByRecursion, list_any}
use Rattle.lx_base.specs.Letters.{equal_words}
use Rattle.lx_base.specs.Names.{AreDistinct}
use Rattle.lx_ccode.specs.declared.piece.Stmt.{Stmt}
use Rattle.lx_ccode.specs.declared.piece.Stmt.TheVariants.{Tag}
use Rattle.lx_ccode.specs.declared.piece.CodeBlock.{CodeBlock}
use Rattle.lx_ccode.specs.NameSets.{first_place}
use Rattle.lx_ccode.specs.Statements.{all_statements}
use Rattle.lx_step.specs.declared.answers.StmtAt.{StmtAt}
use Rattle.lx_step.specs.declared.tags.TagName.{TagName}
use Rattle.lx_step.specs.declared.tags.TagTable.{TagTable}
use Rattle.lx_step.specs.Places.{statement_at}

-- ---- which tags a piece has

-- the statement gives this tag an offset
abbrev pub gives_offset : (tag : List ℕ) → Stmt → Bool
gives_offset tag (Tag other false register) = equal_words other tag
gives_offset tag _ = false

-- the statement gives this tag a history
abbrev pub gives_history : (tag : List ℕ) → Stmt → Bool
gives_history tag (Tag other true history) = equal_words other tag
gives_history tag _ = false

-- the statement gives this tag a history, or an offset
abbrev pub gives : (history : Bool) → (tag : List ℕ) → Stmt → Bool
gives true tag statement = gives_history tag statement
gives false tag statement = gives_offset tag statement

-- ---- their numbers

abbrev pub has_name : List (List ℕ) → (tag : List ℕ) → Bool
has_name names tag = is_some (first_place names tag)

-- names with one more at the end, unless it is there
abbrev pub with_name : (tag : List ℕ) → List (List ℕ) → List (List ℕ)
with_name tag names = elim (first_place names tag) [ None ↦ names ++ tag ∷ [] | Some number ↦ names ]

-- names with those of the tags that statements give values
abbrev pub names_from : List Stmt → List (List ℕ) → List (List ℕ)
names_from [] names = names
names_from (Tag tag is_history register ∷ statements) names = names_from statements (with_name tag names)
names_from (_ ∷ statements) names = names_from statements names

-- the names of a piece's tags, each once, in the order in which they come; a tag's number is its place among them
abbrev pub tag_names : List CodeBlock → List (List ℕ)
tag_names blocks = names_from (all_statements blocks) []

-- the statement names a tag that is none of these
abbrev pub is_new : List (List ℕ) → Stmt → Bool
is_new names (Tag tag is_history register) = not (has_name names tag)
is_new names _ = false

-- ---- where they stand

-- the name of the tag that a statement gives a value; no name where there is none
abbrev pub name_of : Option Stmt → List ℕ
name_of (Some (Tag tag is_history register)) = tag
name_of _ = []

-- the name of the tag that the statement at a place gives a value
abbrev pub tag_name : List CodeBlock → StmtAt → List ℕ
tag_name blocks place = name_of (statement_at blocks place)

abbrev pub told_name : List CodeBlock → TagName → List ℕ
told_name blocks tag = tag_name blocks tag.at

-- ---- how they are found

-- a number for a name, on top of that of the letters before
abbrev pub hash_from : (name : List ℕ) → (hash : ℕ) → ℕ
hash_from [] hash = hash
hash_from (letter ∷ name) hash = hash_from name ((hash * 16777619 + letter) % 4294967291)

-- the bucket of a name, where there are so many
unfoldable pub bucket_of : (buckets : ℕ) → (name : List ℕ) → ℕ
bucket_of buckets name = hash_from name 0 % buckets

-- the place of the last name in a bucket
abbrev pub last_in : (buckets bucket : ℕ) → List (List ℕ) → Option ℕ
last_in buckets bucket [] = None
last_in buckets bucket (name ∷ names) =
    elim (last_in buckets bucket names) [ None ↦ if bucket_of buckets name == bucket then Some 0 else None | Some place ↦ Some (suc place) ]

-- where tags have these names, each bucket has its last tag, and each tag has the last one before it in its bucket
pub record AreLinked (names : List (List ℕ)) (befores latest : List (Option ℕ)) : Type 0 where
  pub some : 0 < length latest
  pub last : (bucket : ℕ) → bucket < length latest → get_or latest bucket None ≡ last_in (length latest) bucket names
  pub before : (place : ℕ) → place < length names
      → get_or befores place None ≡ last_in (length latest) (bucket_of (length latest) (get_or names place [])) (take place names)

-- a tag that the statement at a place names first, of which nothing else is told yet
abbrev pub new_tag : StmtAt → (before : Option ℕ) → TagName
new_tag at before = record { at = at; before = before; has_offset = false; has_history = false }

abbrev pub no_tag : TagName
no_tag = new_tag (record { block = 0; stmt = 0 }) None

-- the tag, where a history is given to it, or an offset
abbrev pub marked : (history : Bool) → TagName → TagName
marked true tag = record tag { has_history = true }
marked false tag = record tag { has_offset = true }

-- the table has the tags of these names, by which they are found
pub record IsTableOf (blocks : List CodeBlock) (names : List (List ℕ)) (table : TagTable) : Type 0 where
  pub named : map (told_name blocks) table.tags.items ≡ names
  pub distinct : AreDistinct names
  pub linked : AreLinked names (map (λ (tag : TagName). tag.before) table.tags.items) table.latest.items

-- it is told whether statements give the tag an offset, and whether a history
pub record HasFlags (blocks : List CodeBlock) (statements : List Stmt) (tag : TagName) : Type 0 where
  pub offset : tag.has_offset ≡ list_any (gives_offset (told_name blocks tag)) statements
  pub history : tag.has_history ≡ list_any (gives_history (told_name blocks tag)) statements

-- these are the tags of statements
pub record AreTagsOf (blocks : List CodeBlock) (statements : List Stmt) (table : TagTable) : Type 0 where
  pub listed : IsTableOf blocks (names_from statements []) table
  pub flags : AllByRecursion (HasFlags blocks statements) table.tags.items

-- these are the tags of the piece
abbrev pub AreTags : List CodeBlock → TagTable → Type 0
AreTags blocks table = AreTagsOf blocks (all_statements blocks) table
