-- What a lexer holds, and what a match does to it.
use Rattle.std.specs.Prelude.{◌≡◌, ℕ, Bool, true, false, List, [], ◌∷◌, Option, Some, None, if◌then◌else◌}
use Rattle.std.specs.List.{list_any}
use Rattle.lx_ccode.specs.declared.piece.Stmt.{Stmt}
use Rattle.lx_ccode.specs.declared.piece.Stmt.TheVariants.{MSet, MUnset, MCopy, Tag}
use Rattle.lx_ccode.specs.declared.piece.CondCase.{CondCase}
use Rattle.lx_ccode.specs.declared.piece.Piece.{Piece}
use Rattle.lx_ccode.specs.Machine as machine
use Rattle.lx_ccode.specs.Runs.{Ended}
use Rattle.lx_ccode.specs.Statements.{all_statements}
use Rattle.lx_step.specs.declared.answers.Outcome.{Outcome}
use Rattle.lx_step.specs.declared.answers.Outcome.TheVariants.{Rule, Jump, NoRule, End, WindowFull, ReadFailed, Stuck, Loop, Memory}
use Rattle.lx_step.specs.declared.answers.StmtAt.{StmtAt}
use Rattle.lx_step.specs.Given.{Given, after_values, history_in, nothing_given, offset_in}
use Rattle.lx_step.specs.Left.{Left}
use Rattle.lx_step.specs.Sizes.{groups_of_all}
use Rattle.lx_step.specs.Tags.{gives_history, gives_offset, tag_names}

pub record Held : Type 0 where
  pub piece : Piece
  -- no further match may be made
  pub spent : Bool
  -- of the last match, in units from the stream's beginning
  pub start : ℕ
  pub cursor : ℕ
  -- the present condition; the empty name where the piece has none
  pub cond : List ℕ
  -- what is kept of the values given in the last match and in those before
  pub given : Given
  -- the places of the Tag, Count and Cond statements that the last match made
  pub assigned : List StmtAt
  -- the match that was left, where one is under way
  pub left : Option Left

abbrev pub first_cond : List CondCase → List ℕ
first_cond [] = []
first_cond (case ∷ cases) = case.cond

-- before the first match
abbrev pub fresh : Piece → Held
fresh piece = record {
  piece = piece;
  spent = false;
  start = 0;
  cursor = 0;
  cond = first_cond piece.conds;
  given = nothing_given (tag_names piece.blocks) (groups_of_all (all_statements piece.blocks));
  assigned = [];
  left = None;
}

-- the present condition, where the piece has conditions
abbrev pub cond_of : Held → Option (List ℕ)
cond_of held = elim held.piece.conds [ [] ↦ None | case ∷ cases ↦ Some held.cond ]

-- the offset that a tag has, where a statement of the piece gives it one
unfoldable pub offset_of : Held → (tag : List ℕ) → Option (Option ℕ)
offset_of held tag =
    if list_any (gives_offset tag) (all_statements held.piece.blocks) then offset_in (tag_names held.piece.blocks) held.given tag else None

-- the history that a tag has, where a statement of the piece gives it one
unfoldable pub history_of : Held → (tag : List ℕ) → Option (List (Option ℕ))
history_of held tag =
    if list_any (gives_history tag) (all_statements held.piece.blocks) then history_in (tag_names held.piece.blocks) held.given tag else None

-- the run of a match ended with this outcome
abbrev pub Tells : Outcome → machine.Outcome → Type 0
Tells (Rule number) end = end ≡ machine.by_rule number
Tells (Jump number) end = end ≡ machine.by_jump number
Tells NoRule end = end ≡ machine.no_rule
Tells End end = end ≡ machine.at_end
Tells Stuck end = end ≡ machine.stuck
Tells Loop end = end ≡ machine.looped
Tells _ end = ⊥

-- the outcomes behind which no further match may be made
abbrev pub is_last : Outcome → Bool
is_last (WindowFull kept need size) = true
is_last ReadFailed = true
is_last Stuck = true
is_last Loop = true
is_last Memory = true
is_last _ = false

-- the statement writes a history, or gives a tag one
abbrev pub is_on_histories : Stmt → Bool
is_on_histories (MSet history) = true
is_on_histories (MUnset history) = true
is_on_histories (MCopy history source) = true
is_on_histories (Tag tag is_history register) = is_history
is_on_histories _ = false

-- what a lexer holds after a match that told this
abbrev pub after_match : Held → (start : ℕ) → (spent : Bool) → Ended → List StmtAt → Held
after_match held start spent end assigned = record held {
  spent = spent;
  start = start;
  cursor = end.cursor;
  cond = end.cond;
  given = after_values (tag_names held.piece.blocks) end.values held.given;
  assigned = assigned;
  left = None;
}
