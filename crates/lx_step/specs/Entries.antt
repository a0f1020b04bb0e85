-- Where a call of a lexer over a window begins.
use Rattle.std.specs.Prelude.{◌≡◌, ℕ, List, [], Option, Some, None}
use Rattle.lx_ccode.specs.declared.piece.Piece.{Piece}
use Rattle.lx_ccode.specs.Machine.{Machine, code_at, stored_block}
use Rattle.lx_ccode.specs.Runs.{entry_block, fresh_machine}
use Rattle.lx_window.specs.WindowView.{WindowView}
use Rattle.lx_step.specs.declared.answers.StmtAt.{StmtAt}
use Rattle.lx_step.specs.declared.matches.Position.{Position}
use Rattle.lx_step.specs.declared.numbers.Sort.TheVariants.{Register, History}
use Rattle.lx_step.specs.declared.scanner.Scanner.{Scanner}
use Rattle.lx_step.specs.Held.{Held}
use Rattle.lx_step.specs.Left.{Left}
use Rattle.lx_step.specs.Matches.{code_of}
use Rattle.lx_step.specs.Numbers.{numbers_of, place_of}
use Rattle.lx_step.specs.Places as places
use Rattle.lx_step.specs.Points.{Point, point_at}
use Rattle.lx_step.specs.Steps.{history_of, machine_of, register_in}

module _ (piece : Piece) (cursor : ℕ) (cond : List ℕ) where
  -- the machine that comes back to a match that was left, without the unit that was read, and with the limit of the window
  abbrev pub machine_back : Left → (limit : ℕ) → Machine
  machine_back left limit = record {
    cursor = cursor;
    marker = left.marker;
    limit = limit;
    unit = None;
    accept = left.accept;
    registers = λ register. register_in left.registers (place_of (numbers_of Register piece.blocks) register);
    histories = λ history. history_of left.histories (place_of (numbers_of History piece.blocks) history);
    cond = cond;
    state = Some left.state;
    values = [];
  }

  -- a fresh match from the window's start on, or the match that was left, at the block of its state
  abbrev pub entry_by : (assigned : List StmtAt) → Option Left → (start limit : ℕ) → Point
  entry_by assigned None start limit = point_at piece.blocks (entry_block piece.conds cond) (fresh_machine start limit cond) 0 []
  entry_by assigned (Some left) start limit = point_at piece.blocks (stored_block piece.blocks (Some left.state)) (machine_back left limit) left.steps assigned

-- the point from which a call goes on
abbrev pub entry_point : Held → WindowView → Point
entry_point held window = entry_by held.piece held.cursor held.cond held.assigned held.left window.start window.limit

-- the point stands at this place of the code; at none where no code is left
abbrev pub IsEntry : Piece → Point → Option Position → Type 0
IsEntry piece point None = point.code ≡ []
IsEntry piece point (Some at) =
    (code_at piece.blocks (Some at.block) ≡ Some at.code.now) × (places.place_of at ≡ point.place) × (code_of at ≡ point.code)

-- a scanner, its steps and the places that were noted are those of the point
pub record Enters (piece : Piece) (point : Point) (at : Option Position) (scanner : Scanner) (steps : ℕ) (assigned : List StmtAt) : Type 0 where
  pub machine : machine_of piece.conds scanner [] ≡ point.machine
  pub steps_are : steps ≡ point.steps
  pub assigned_are : assigned ≡ point.assigned
  pub stands : IsEntry piece point at
