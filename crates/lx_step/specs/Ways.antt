-- A match over a window while its steps are made.
use Rattle.std.specs.Prelude.{◌≡◌, ◌<◌, ◌≤◌, ◌⊎◌, ℕ, suc, List, ◌++◌, Some, None, Result, Ok, Err}
use Rattle.lx_base.specs.declared.lists.Memory.{Memory}
use Rattle.lx_ccode.specs.declared.piece.CodeBlock.{CodeBlock}
use Rattle.lx_ccode.specs.declared.piece.Piece.{Piece}
use Rattle.lx_ccode.specs.Machine.{Answer, Value, code_at}
use Rattle.lx_window.specs.WindowView.{WindowView}
use Rattle.lx_window.specs.Windows.{IsFormed, IsWindowOf, slid}
use Rattle.lx_step.specs.declared.advances.Made.{Made}
use Rattle.lx_step.specs.declared.advances.Made.TheVariants as made
use Rattle.lx_step.specs.declared.answers.Outcome.{Outcome}
use Rattle.lx_step.specs.declared.answers.Outcome.TheVariants as outcome
use Rattle.lx_step.specs.declared.answers.StmtAt.{StmtAt}
use Rattle.lx_step.specs.declared.calls.Passed.{Passed}
use Rattle.lx_step.specs.declared.calls.Passed.TheVariants.{On, Ends}
use Rattle.lx_step.specs.declared.matches.Position.{Position}
use Rattle.lx_step.specs.declared.scanner.Scanner.{Scanner}
use Rattle.lx_step.specs.Advances.{Behind, EndsAs}
use Rattle.lx_step.specs.Conds.{IsCond}
use Rattle.lx_step.specs.Feeds.{Feed, IsFed}
use Rattle.lx_step.specs.Given.{Given, after_values}
use Rattle.lx_step.specs.Left.{IsFrom, IsStored}
use Rattle.lx_step.specs.Matches.{GoesTo, code_of}
use Rattle.lx_step.specs.Places.{AreRoomy, StaysIn, place_of}
use Rattle.lx_step.specs.Points.{LeadsTo, Point}
use Rattle.lx_step.specs.Steps.{HasTables, machine_of}
use Rattle.lx_step.specs.Tags.{tag_names}

-- what a lexer keeps of its piece from step to step
pub record HasParts (piece : Piece) (scanner : Scanner) (given : Given) (assigned : List StmtAt) (room : ℕ) : Type 0 where
  pub tables : HasTables piece.blocks scanner given
  pub cond : IsCond piece.conds scanner.cond
  pub places : AreRoomy piece.blocks room
  pub within : StaysIn piece.blocks assigned

-- the scanner reads from the window, and asks a source with the same units
pub record ReadsWindow (piece : Piece) (unit : ℕ) (window : WindowView) (scanner : Scanner) : Type 0 where
  pub same_unit : unit ≡ window.unit
  pub formed : IsFormed window
  pub limit : scanner.limit ≡ window.limit
  pub from : IsFrom window.start scanner
  pub state : IsStored piece.blocks scanner.state

-- where it stands
abbrev pub point_of : Piece → Position → Scanner → List Value → (steps : ℕ) → (assigned : List StmtAt) → Point
point_of piece at scanner values steps assigned = record {
  place = place_of at;
  code = code_of at;
  machine = machine_of piece.conds scanner values;
  steps = steps;
  assigned = assigned;
}

-- a match that came from its entry to a place of the code by what its source answered
pub record IsOnWay (piece : Piece) (entry : Point) (before : Feed) (old : Given) (at : Position) (scanner : Scanner) (given : Given) (steps : ℕ) (assigned : List StmtAt) (feed : Feed) : Type 0 where
  pub answers : List Answer
  pub values : List Value
  pub fed : IsFed before answers feed
  pub leads : (stream : List ℕ) → IsWindowOf stream (slid feed.window) →
      LeadsTo piece stream before.window.start before.window.size entry answers (point_of piece at scanner values steps assigned)
  pub kept : given ≡ after_values (tag_names piece.blocks) values old

-- the steps are counted on where the match was left
abbrev pub CountsOn : Outcome → (steps : ℕ) → Point → Type 0
CountsOn outcome.NeedFill steps point = steps ≡ suc point.steps
CountsOn _ steps point = Unit {0}

-- it came to an end
pub record HasStopped (piece : Piece) (entry : Point) (before after : Feed) (old : Given) (told : Outcome) (scanner : Scanner) (given : Given) (steps : ℕ) (assigned : List StmtAt) : Type 0 where
  pub answers : List Answer
  pub used : List Answer
  pub values : List Value
  pub point : Point
  pub feed : Feed
  pub fed : IsFed before (answers ++ used) feed
  pub behind : Behind told feed after
  pub leads : (stream : List ℕ) → IsWindowOf stream (slid after.window) →
      LeadsTo piece stream before.window.start before.window.size entry answers point
      × EndsAs piece stream before.window.start before.window.size told point used (machine_of piece.conds scanner values)
  pub kept : given ≡ after_values (tag_names piece.blocks) values old
  pub counts : CountsOn told steps point
  pub places : assigned ≡ point.assigned

-- the scanner behind a call that told this: only one that was left stores its state
abbrev pub left_by : Outcome → Scanner → Scanner
left_by outcome.NeedFill scanner = scanner
left_by _ scanner = record scanner { state = None }

-- ---- one statement

-- what comes of what the statement at a place did, and the steps before and after it
abbrev pub IsPassed : List CodeBlock → Position → Made → Passed → (steps steps' : ℕ) → Type 0
IsPassed blocks at made.Waits passed steps steps' = (passed ≡ On at) × (steps' ≡ steps)
IsPassed blocks at (made.Stops outcome) passed steps steps' = (passed ≡ Ends outcome) × (steps' ≡ suc steps)
IsPassed blocks at (made.Goes going) (On next) steps steps' = GoesTo blocks at going (Ok next) × (steps' ≡ suc steps)
IsPassed blocks at (made.Goes going) (Ends outcome) steps steps' = GoesTo blocks at going (Err outcome) × (steps' ≡ suc steps)

-- the match goes on with one step more, or with more units
pub record Nears (blocks : List CodeBlock) (next : Position) (steps steps' limit limit' : ℕ) : Type 0 where
  pub block : code_at blocks (Some next.block) ≡ Some next.code.now
  pub never_falls : limit ≤ limit'
  pub nearer : (steps' ≡ suc steps) ⊎ ((steps' ≡ steps) × (limit < limit'))

abbrev pub IsNearer : List CodeBlock → Result Passed Memory → (steps steps' limit limit' : ℕ) → Type 0
IsNearer blocks (Ok (On next)) steps steps' limit limit' = Nears blocks next steps steps' limit limit'
IsNearer blocks _ steps steps' limit limit' = Unit {0}

-- the match goes on, or it came to an end
abbrev pub Comes : Piece → (entry : Point) → (before after : Feed) → Given → Result Passed Memory → Scanner → Given → (steps : ℕ) → (assigned : List StmtAt) → Type 0
Comes piece entry before after old (Ok (On next)) scanner given steps assigned = IsOnWay piece entry before old next scanner given steps assigned after
Comes piece entry before after old (Ok (Ends told)) scanner given steps assigned = HasStopped piece entry before after old told scanner given steps assigned
Comes piece entry before after old (Err memory) scanner given steps assigned = HasStopped piece entry before after old outcome.Memory scanner given steps assigned
