-- Which statements of a match are the first that give a tag a value.
use Rattle.std.specs.Prelude.{◌≡◌, ℕ, suc, ◌<◌, Bool, true, false, not, List, [], ◌∷◌, get_or, length, take, Option, Some, None, if◌then◌else◌, IfSome}
use Rattle.std.specs.List.{list_any}
use Rattle.lx_ccode.specs.declared.piece.CodeBlock.{CodeBlock}
use Rattle.lx_ccode.specs.declared.piece.Stmt.{Stmt}
use Rattle.lx_ccode.specs.declared.piece.Stmt.TheVariants.{Tag}
use Rattle.lx_step.specs.declared.answers.StmtAt.{StmtAt}
use Rattle.lx_step.specs.declared.firsts.First.{First}
use Rattle.lx_step.specs.Places.{statement_at}
use Rattle.lx_step.specs.Tags.{gives, tag_names}

abbrev pub no_place : StmtAt
no_place = record { block = 0; stmt = 0 }

abbrev pub gives_as : (history : Bool) → (tag : List ℕ) → Option Stmt → Bool
gives_as history tag None = false
gives_as history tag (Some statement) = gives history tag statement

-- the statement at a place gives a tag a history, or an offset
abbrev pub gives_at : List CodeBlock → (history : Bool) → (tag : List ℕ) → StmtAt → Bool
gives_at blocks history tag place = gives_as history tag (statement_at blocks place)

-- the statement gives a tag a value, and one at the places before gives that tag a value of the same sort
abbrev pub is_given : List CodeBlock → (before : List StmtAt) → Option Stmt → Bool
is_given blocks before (Some (Tag tag history register)) = list_any (gives_at blocks history tag) before
is_given blocks before _ = false

-- the statement at one of the places is the first that gives its tag a value of its sort, or it gives no tag a value
unfoldable pub is_first : List CodeBlock → List StmtAt → (index : ℕ) → Bool
is_first blocks places index = not (is_given blocks (take index places) (statement_at blocks (get_or places index no_place)))

-- ---- how they are told

-- the first of the places for which the test holds, counted from a number on
abbrev pub first_from : (test : StmtAt → Bool) → (from : ℕ) → List StmtAt → Option ℕ
first_from test from [] = None
first_from test from (place ∷ places) = if test place then Some from else first_from test (suc from) places

abbrev pub no_first : First
no_first = record { offset = 0; history = 0 }

abbrev pub noted : (history : Bool) → First → ℕ
noted true first = first.history
noted false first = first.offset

abbrev pub with_noted : (history : Bool) → (index : ℕ) → First → First
with_noted true index first = record first { history = index }
with_noted false index first = record first { offset = index }

-- for each tag of the piece, by its number, it is noted which of the places is the first that gives it an offset, and which a history
pub record AreFirstsFrom (blocks : List CodeBlock) (from : ℕ) (places : List StmtAt) (firsts : List First) : Type 0 where
  pub many : length firsts ≡ length (tag_names blocks)
  pub each : (number : ℕ) → number < length firsts → (history : Bool)
      → IfSome (first_from (gives_at blocks history (get_or (tag_names blocks) number [])) from places) (λ index. noted history (get_or firsts number no_first) ≡ index)

abbrev pub AreFirsts : List CodeBlock → List StmtAt → List First → Type 0
AreFirsts blocks places firsts = AreFirstsFrom blocks 0 places firsts
