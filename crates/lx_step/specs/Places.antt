-- The places of a piece's statements that assign something of the user's.
use Rattle.std.specs.Prelude.{◌≡◌, ℕ, suc, ◌+◌, ◌≤◌, true, List, [], ◌∷◌, length, Option, Some, None, slice_get, if◌then◌else◌}
use Rattle.std.specs.List.{list_any, IsDistinct}
use Rattle.indexmap.specs.IndexSet.{IndexSet, index_set_len, spare}
use Rattle.lx_ccode.specs.declared.piece.Stmt.{Stmt}
use Rattle.lx_ccode.specs.declared.piece.CodeBlock.{CodeBlock}
use Rattle.lx_ccode.specs.Machine.{code_at}
use Rattle.lx_step.specs.declared.answers.StmtAt.{StmtAt}
use Rattle.lx_step.specs.declared.matches.Position.{Position}
use Rattle.lx_step.specs.Assigned.{is_assignment, same_place}

abbrev pub place_of : Position → StmtAt
place_of at = record { block = at.block; stmt = at.stmt }

-- the statement at a place of the blocks
abbrev pub statement_at : List CodeBlock → StmtAt → Option Stmt
statement_at blocks place = elim (code_at blocks (Some place.block)) [ None ↦ None | Some code ↦ slice_get code place.stmt ]

-- the statement stands at this place of the blocks
pub record StandsAt (blocks : List CodeBlock) (at : Position) (statement : Stmt) : Type 0 where
  pub block : code_at blocks (Some at.block) ≡ Some at.code.now
  pub stmt : slice_get at.code.now at.stmt ≡ Some statement

-- those among the statements of a block, of which the first has this place
abbrev pub places_in : (block stmt : ℕ) → List Stmt → List StmtAt → List StmtAt
places_in block stmt [] others = others
places_in block stmt (statement ∷ statements) others =
    if is_assignment statement then record { block = block; stmt = stmt } ∷ places_in block (suc stmt) statements others
    else places_in block (suc stmt) statements others

-- those of blocks, of which the first has this place
abbrev pub places_from : (block : ℕ) → List CodeBlock → List StmtAt
places_from block [] = []
places_from block (code ∷ blocks) = places_in block 0 code.stmts (places_from (suc block) blocks)

-- for how many keys there is room, those that are there among them
abbrev pub room_of : {K S : Type 0} → IndexSet K S → ℕ
room_of set = index_set_len set + spare set

-- there is room for all of them
abbrev pub AreRoomy : List CodeBlock → (room : ℕ) → Type 0
AreRoomy blocks room = length (places_from 0 blocks) ≤ room

-- each of the places is one of them, and none stands twice
pub record StaysIn (blocks : List CodeBlock) (places : List StmtAt) : Type 0 where
  pub distinct : IsDistinct same_place places
  pub among : (place : StmtAt) → list_any (same_place place) places ≡ true → list_any (same_place place) (places_from 0 blocks) ≡ true
