-- How the values that a match gave are printed.
use Rattle.std.specs.Prelude.{ℕ, Bool, true, false, List, [], ◌∷◌, ◌++◌, take, codes, Option, Some, None, unwrap_or, not, slice_get, if◌then◌else◌}
use Rattle.std.specs.List.{list_any}
use Rattle.std.specs.Fmt.{decimal}
use Rattle.std.specs.Str.{bytes_eq}
use Rattle.lx_base.specs.Text.{joined}
use Rattle.lx_ccode.specs.declared.piece.Stmt.{Stmt}
use Rattle.lx_ccode.specs.declared.piece.Stmt.TheVariants.{Tag, Count, Cond}
use Rattle.lx_ccode.specs.declared.piece.Piece.{Piece}
use Rattle.lx_ccode.specs.Machine.{code_at}
use Rattle.lx_step.specs.declared.answers.Group.{Group}
use Rattle.lx_step.specs.declared.answers.StmtAt.{StmtAt}
use Rattle.lx_step.specs.Held.{Held, cond_of, history_of, offset_of}

-- an offset, or `-` for none
abbrev pub offset_text : Option ℕ → List ℕ
offset_text None = codes "-"
offset_text (Some offset) = decimal offset

-- ---- tags

-- further entries of a history, each behind a comma
abbrev pub entries_text : List (Option ℕ) → List ℕ
entries_text [] = []
entries_text (entry ∷ entries) = codes "," ++ (offset_text entry ++ entries_text entries)

-- the entries of a history, with commas between them
abbrev pub history_text : List (Option ℕ) → List ℕ
history_text [] = []
history_text (entry ∷ entries) = offset_text entry ++ entries_text entries

-- what a statement gave a tag
abbrev pub tag_text : Held → Stmt → List ℕ
tag_text held (Tag name false register) =
    joined (codes " " ∷ name ∷ codes "=" ∷ offset_text (unwrap_or (offset_of held name) None) ∷ []) []
tag_text held (Tag name true history) =
    joined (codes " " ∷ name ∷ codes "=[" ∷ history_text (unwrap_or (history_of held name) []) ∷ codes "]" ∷ []) []
tag_text held _ = []

-- both statements give the same tag a value of the same sort
abbrev pub gives_same : Stmt → Stmt → Bool
gives_same (Tag name sort register) (Tag other other_sort other_register) =
    if bytes_eq name other then (if sort then other_sort else not other_sort) else false
gives_same _ _ = false

-- the tags that statements give values, behind other statements: each tag once
abbrev pub tags_text : Held → (before statements : List Stmt) → List ℕ
tags_text held before [] = []
tags_text held before (statement ∷ statements) =
    (if list_any (gives_same statement) before then [] else tag_text held statement) ++ tags_text held (before ++ statement ∷ []) statements

-- ---- groups and the condition

abbrev pub group_text : Group → List ℕ
group_text group = joined (codes " (" ∷ offset_text group.from ∷ codes "," ∷ offset_text group.to ∷ codes ")" ∷ []) []

abbrev pub groups_text : List Group → List ℕ
groups_text [] = []
groups_text (group ∷ groups) = group_text group ++ groups_text groups

abbrev pub is_count : Stmt → Bool
is_count (Count groups) = true
is_count _ = false

abbrev pub is_cond : Stmt → Bool
is_cond (Cond cond) = true
is_cond _ = false

-- ---- all values of a match

-- the statement at a place
abbrev pub statement_at : Piece → StmtAt → Option Stmt
statement_at piece place = elim (code_at piece.blocks (Some place.block)) [ None ↦ None | Some code ↦ slice_get code place.stmt ]

abbrev pub onto : Option Stmt → List Stmt → List Stmt
onto None statements = statements
onto (Some statement) statements = statement ∷ statements

-- the statements at places
abbrev pub statements_at : Piece → List StmtAt → List Stmt
statements_at piece [] = []
statements_at piece (place ∷ places) = onto (statement_at piece place) (statements_at piece places)

-- the statements of the last match that gave something of the user's a value, in the order in which they were first made
abbrev pub assignments : Held → List Stmt
assignments held = statements_at held.piece held.assigned

-- the values of the last match: its tags; then, where it counted groups, these; then, where it set the condition, that
abbrev pub values_text : Held → List ℕ
values_text held =
    tags_text held [] (assignments held)
    ++ ((if list_any is_count (assignments held) then groups_text (take held.given.groups held.given.entries) else [])
    ++ (if list_any is_cond (assignments held) then codes " => " ++ unwrap_or (cond_of held) [] else []))
