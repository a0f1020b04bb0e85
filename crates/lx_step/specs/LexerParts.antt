-- What holds of the parts of each lexer.
use Rattle.std.specs.Prelude.{◌≡◌, ◌<◌, ◌≤◌, ◌⊎◌, ℕ, List, Option, length, max, vec_capacity}
use Rattle.std.specs.Prelude.{Result, Ok, Err}
use Rattle.lx_base.specs.declared.limits.TheConstants.{STATEMENT_LIMIT}
use Rattle.lx_base.specs.declared.lists.Memory.{Memory}
use Rattle.std.specs.List.{IsDistinct}
use Rattle.lx_ccode.specs.declared.piece.StateCase.{StateCase}
use Rattle.lx_ccode.specs.States.{states_from}
use Rattle.lx_ccode.specs.Statements.{statement_count}
use Rattle.lx_ccode.specs.Validity.{AreOnce}
use Rattle.lx_step.specs.declared.answers.Outcome.{Outcome}
use Rattle.lx_step.specs.declared.answers.Outcome.TheVariants as outcome
use Rattle.lx_step.specs.declared.answers.StmtAt.{StmtAt}
use Rattle.lx_step.specs.declared.firsts.First.{First}
use Rattle.lx_step.specs.declared.matches.Program.{Program}
use Rattle.lx_step.specs.declared.scanner.Scanner.{Scanner}
use Rattle.lx_step.specs.declared.tags.TagTable.{TagTable}
use Rattle.lx_step.specs.Assigned.{same_place}
use Rattle.lx_step.specs.Conds.{IsCond, NamesItsConds}
use Rattle.lx_step.specs.Firsts.{AreFirsts}
use Rattle.lx_step.specs.Given.{Given}
use Rattle.lx_step.specs.Left.{IsLeftFrom, IsReturnOf, IsStored}
use Rattle.lx_step.specs.Places.{AreRoomy, StaysIn, places_from, room_of}
use Rattle.lx_step.specs.Steps.{HasTables}
use Rattle.lx_step.specs.Tags.{AreTags}

-- what a lexer needs of its piece
pub record IsProgram (program : Program) : Type 0 where
  pub statements : program.statements ≡ statement_count program.piece.now.blocks
  pub some : 0 < program.statements
  pub few : program.statements ≤ STATEMENT_LIMIT
  pub unit : (program.piece.now.unit ≡ 1) ⊎ ((program.piece.now.unit ≡ 2) ⊎ (program.piece.now.unit ≡ 4))
  pub conds : NamesItsConds program.piece.now
  pub assignments : program.assignments ≡ length (places_from 0 program.piece.now.blocks)
  pub states : AreOnce (states_from 0 program.piece.now.blocks)

pub record IsLexerOf (program : Program) (start : ℕ) (scanner : Scanner) (given : Given) (tags : TagTable) (assigned : List StmtAt) (firsts : List First) (room : ℕ) (known : Option StateCase) : Type 0 where
  pub runs : IsProgram program
  pub tables : HasTables program.piece.now.blocks scanner given
  pub cond : IsCond program.piece.now.conds scanner.cond
  pub named : AreTags program.piece.now.blocks tags
  -- there is room for the places of all statements that assign something
  pub places : AreRoomy program.piece.now.blocks room
  -- those that were noted are some of these, each once
  pub within : StaysIn program.piece.now.blocks assigned
  -- and it is told which are the first that give tags values
  pub noted : AreFirsts program.piece.now.blocks assigned firsts
  -- where a match was left, its state is one of the piece's, and it stands behind the start
  pub state : IsStored program.piece.now.blocks scanner.state
  pub left : IsLeftFrom start scanner
  -- and where it goes on may be known
  pub returns : IsReturnOf program.piece.now.blocks known

-- what a run tells, or that memory ran out
abbrev pub told : Result Outcome Memory → Outcome
told (Ok outcome) = outcome
told (Err memory) = outcome.Memory

-- what holds of what is saved
pub record IsSaved (conds assignments start : ℕ) (tags : TagTable) (scanner : Scanner) (given : Given) (assigned : List StmtAt) (firsts : List First) (room : ℕ) : Type 0 where
  -- there is room for as many registers, histories, tags and places again
  pub registers : length scanner.registers.items ≤ room_of scanner.numbering.registers
  pub histories : length scanner.histories ≤ room_of scanner.numbering.histories
  pub roomy : length given.offsets ≤ vec_capacity tags.tags
  pub buckets : 0 < length tags.latest.items
  pub tag_histories : length given.histories ≡ length given.offsets
  pub noted : length firsts ≡ length given.offsets
  pub places : assignments ≤ room
  pub distinct : IsDistinct same_place assigned
  pub cond : scanner.cond < max conds 1
  pub left : IsLeftFrom start scanner
