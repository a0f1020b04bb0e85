-- What one statement does over a window.
use Rattle.std.specs.Prelude.{◌≡◌, ◌<◌, ◌≤◌, ℕ, ◌+◌, ◌-◌, false, List, [], nat_le}
use Rattle.lx_ccode.specs.declared.piece.Piece.{Piece}
use Rattle.lx_ccode.specs.declared.piece.Stmt.{Stmt}
use Rattle.lx_ccode.specs.declared.piece.Stmt.TheVariants.{Need}
use Rattle.lx_ccode.specs.Machine.{Answer, Value, step}
use Rattle.lx_window.specs.Windows.{IsFormed, IsWindowOf, Refills, slid}
use Rattle.lx_window.specs.declared.refills.Fill.TheVariants.{More, NoMore, Leave}
use Rattle.lx_step.specs.declared.advances.Asked.{Asked}
use Rattle.lx_step.specs.declared.advances.Asked.TheVariants as asked
use Rattle.lx_step.specs.declared.advances.Made.{Made}
use Rattle.lx_step.specs.declared.advances.Made.TheVariants as made
use Rattle.lx_step.specs.declared.answers.Outcome.{Outcome}
use Rattle.lx_step.specs.declared.answers.Outcome.TheVariants.{NeedFill, WindowFull, ReadFailed}
use Rattle.lx_step.specs.declared.scanner.Going.{Going}
use Rattle.lx_step.specs.declared.scanner.Scanner.{Scanner}
use Rattle.lx_step.specs.Advances.{Behind}
use Rattle.lx_step.specs.Conds.{IsCond}
use Rattle.lx_step.specs.Feeds.{Feed, IsFed, Slides}
use Rattle.lx_step.specs.Left.{IsFrom}
use Rattle.lx_step.specs.Points.{AreAsked, Asks, IsAsking, goes_to, kept_by, needed_by}
use Rattle.lx_step.specs.Steps.{KeepsTables, Leads, machine_of, next_of, state_after, values_after}

-- a source keeps its unit, and its counts of faults and pauses never fall
pub record KeepsSource (unit unit' faults faults' pauses pauses' : ℕ) : Type 0 where
  pub same_unit : unit' ≡ unit
  pub faults_never_fall : faults ≤ faults'
  pub pauses_never_fall : pauses ≤ pauses'

-- so many units are kept and needed, and both fit the window, and the refill is answered so; or there is no room for them
abbrev pub IsAsked : Asked → (kept need : ℕ) → (before after : Feed) → Type 0
IsAsked asked.More kept need before after =
    (kept + need ≤ before.window.size) × ((count : ℕ) × Refills before.ahead after.ahead before.window after.window (More count))
IsAsked asked.NoMore kept need before after =
    (kept + need ≤ before.window.size) × Refills before.ahead after.ahead before.window after.window NoMore
IsAsked (asked.Stops NeedFill) kept need before after =
    (kept + need ≤ before.window.size) × Refills before.ahead after.ahead before.window after.window Leave
IsAsked (asked.Stops ReadFailed) kept need before after = (kept + need ≤ before.window.size) × Slides before after
IsAsked (asked.Stops (WindowFull one other size)) kept need before after =
    (one ≡ kept) × (other ≡ need) × (size ≡ before.window.size) × (before.window.size < kept + need) × (after ≡ before)
IsAsked (asked.Stops _) kept need before after = ⊥

module _ (piece : Piece) (statement : Stmt) (old new : Scanner) (before after : Feed) where
  -- a Need got units, and looks again whether they are enough
  pub record Waits : Type 0 where
    pub units : ℕ
    pub is : statement ≡ Need units
    pub few : nat_le units (old.limit - old.cursor) ≡ false
    pub room : (old.cursor - before.window.start) + units ≤ before.window.size
    pub count : ℕ
    pub refills : Refills before.ahead after.ahead before.window after.window (More count)
    pub same : new ≡ record old { limit = after.window.limit }

  -- it asked, and the source left the scanner or failed
  pub record Halts (told : Outcome) : Type 0 where
    pub asks : (values : List Value) → Asks before.window.start before.window.size statement (machine_of piece.conds old values)
    pub behind : Behind told before after
    pub same : new ≡ old

  -- it would ask, and there is no room
  pub record Fills (kept need size : ℕ) : Type 0 where
    pub asking : (values : List Value) → IsAsking statement (machine_of piece.conds old values)
    pub kept_is : (values : List Value) → kept ≡ kept_by before.window.start statement (machine_of piece.conds old values)
    pub need_is : need ≡ needed_by statement
    pub size_is : size ≡ before.window.size
    pub full : before.window.size < kept + need
    pub still : after ≡ before
    pub same : new ≡ old

  -- the machine made it, with these answers of the source
  pub record Goes (going : Going) : Type 0 where
    pub used : List Answer
    pub fed : IsFed before used after
    pub asks : (values : List Value) → AreAsked before.window.start before.window.size used statement (machine_of piece.conds old values)
    pub step : (stream : List ℕ) → IsFormed after.window → IsWindowOf stream (slid after.window) → (rest : List Stmt) (values : List Value) →
        step piece stream statement rest (machine_of piece.conds old values) used
        ≡ next_of piece.blocks rest going (machine_of piece.conds new (values_after statement (machine_of piece.conds old values) values)) []
    pub leads : (values : List Value) → Leads going (goes_to piece.table used statement (machine_of piece.conds old values))
    pub tables : KeepsTables old new
    pub limit : new.limit ≡ after.window.limit
    pub cond : IsCond piece.conds old.cond → IsCond piece.conds new.cond
    pub state : new.state ≡ state_after statement old.state
    pub from : (start : ℕ) → IsFrom start old → IsFrom start new

  abbrev pub Stops : Outcome → Type 0
  Stops NeedFill = Halts NeedFill
  Stops ReadFailed = Halts ReadFailed
  Stops (WindowFull kept need size) = Fills kept need size
  Stops _ = ⊥

  -- what the statement did
  abbrev pub IsMade : Made → Type 0
  IsMade made.Waits = Waits
  IsMade (made.Stops outcome) = Stops outcome
  IsMade (made.Goes going) = Goes going
