-- A lexer without its piece, and the pieces on which it may go on.
use Rattle.std.specs.Prelude.{◌≡◌, ℕ, Bool, true, List, length, IfSome, Option, Some, None}
use Rattle.std.specs.List.{AllByRecursion, list_any}
use Rattle.lx_ccode.specs.declared.piece.CodeBlock.{CodeBlock}
use Rattle.lx_ccode.specs.declared.piece.Piece.{Piece}
use Rattle.lx_ccode.specs.declared.piece.Stmt.{Stmt}
use Rattle.lx_ccode.specs.Statements.{all_statements}
use Rattle.lx_ccode.specs.States.{stores}
use Rattle.lx_step.specs.declared.answers.StmtAt.{StmtAt}
use Rattle.lx_step.specs.declared.numbers.Sort.TheVariants.{Register, History}
use Rattle.lx_step.specs.declared.saved.Counts.{Counts}
use Rattle.lx_step.specs.Assigned.{is_assignment}
use Rattle.lx_step.specs.Conds.{cond_name, cond_number}
use Rattle.lx_step.specs.Given.{Given}
use Rattle.lx_step.specs.Held.{Held}
use Rattle.lx_step.specs.Left.{Left}
use Rattle.lx_step.specs.Numbers.{numbers_of}
use Rattle.lx_step.specs.Places.{places_from, statement_at}
use Rattle.lx_step.specs.Sizes.{groups_of_all}
use Rattle.lx_step.specs.Tags.{tag_names}

-- how many registers, histories, conditions, tags, groups, and statements that assign something of the user's a piece has
abbrev pub counts_of : Piece → Counts
counts_of piece = record {
  registers = length (numbers_of Register piece.blocks);
  histories = length (numbers_of History piece.blocks);
  conds = length piece.conds;
  tags = length (tag_names piece.blocks);
  groups = groups_of_all (all_statements piece.blocks);
  assignments = length (places_from 0 piece.blocks);
}

-- what a lexer holds beside its piece; the condition by its number
pub record Kept : Type 0 where
  pub counts : Counts
  pub spent : Bool
  pub start : ℕ
  pub cursor : ℕ
  pub cond : ℕ
  pub given : Given
  pub assigned : List StmtAt
  pub left : Option Left

-- what is saved of a lexer
abbrev pub kept_of : Held → Kept
kept_of held = record {
  counts = counts_of held.piece;
  spent = held.spent;
  start = held.start;
  cursor = held.cursor;
  cond = cond_number held.piece.conds held.cond;
  given = held.given;
  assigned = held.assigned;
  left = held.left;
}

-- the lexer of a piece that holds what was saved
abbrev pub resumed : Piece → Kept → Held
resumed piece kept = record {
  piece = piece;
  spent = kept.spent;
  start = kept.start;
  cursor = kept.cursor;
  cond = cond_name piece.conds kept.cond;
  given = kept.given;
  assigned = kept.assigned;
  left = kept.left;
}

-- there is a statement, and it is Tag, Count or Cond
abbrev pub Assigns : Option Stmt → Type 0
Assigns None = ⊥
Assigns (Some statement) = is_assignment statement ≡ true

-- the place is that of a Tag, Count or Cond statement
abbrev pub IsAssignmentAt : List CodeBlock → StmtAt → Type 0
IsAssignmentAt blocks place = Assigns (statement_at blocks place)

-- What was saved may go on on this piece: the counts are the piece's, the places are those of statements that assign something, and the
-- stored state is one of the piece's.
pub record Fits (piece : Piece) (kept : Kept) : Type 0 where
  pub counts : kept.counts ≡ counts_of piece
  pub places : AllByRecursion (IsAssignmentAt piece.blocks) kept.assigned
  pub state : IfSome kept.left (λ left. list_any (stores left.state) (all_statements piece.blocks) ≡ true)
