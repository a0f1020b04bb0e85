-- How a call of a lexer over a window ends, and what it leaves.
use Rattle.std.specs.Prelude.{◌≡◌, ◌<◌, ◌≤◌, ◌⊎◌, ℕ, suc, ◌+◌, true, List, [], ◌++◌, Option, Some, None}
use Rattle.lx_ccode.specs.declared.piece.Piece.{Piece}
use Rattle.lx_ccode.specs.declared.piece.Stmt.{Stmt}
use Rattle.lx_ccode.specs.Machine.{Machine, Answer, ends}
use Rattle.lx_ccode.specs.Runs.{loop_count}
use Rattle.lx_window.specs.Windows.{IsWindowOf, Refills}
use Rattle.lx_window.specs.declared.refills.Fill.TheVariants.{Leave}
use Rattle.lx_step.specs.declared.answers.Outcome.{Outcome}
use Rattle.lx_step.specs.declared.answers.Outcome.TheVariants.{NeedFill, WindowFull, ReadFailed, Stuck, Loop, Spent, Memory}
use Rattle.lx_step.specs.Entries.{entry_point, machine_back}
use Rattle.lx_step.specs.Feeds.{Feed, IsFed, Slides}
use Rattle.lx_step.specs.Given.{after_values}
use Rattle.lx_step.specs.Held.{Held, is_last, is_on_histories}
use Rattle.lx_step.specs.Left.{Left}
use Rattle.lx_step.specs.Points.{Asks, IsAsking, LeadsTo, Makes, Point, StandsBefore, kept_by, needed_by}
use Rattle.lx_step.specs.Steps.{outcome_of}
use Rattle.lx_step.specs.Tags.{tag_names}

-- ---- how a call ends

module _ (piece : Piece) (stream : List ℕ) (start size : ℕ) where
  -- the match ends by the last step
  pub record IsLastStep (point : Point) (told : Outcome) (used : List Answer) (last : Machine) : Type 0 where
    pub statement : Stmt
    pub rest : List Stmt
    pub made : Makes piece stream start size point statement rest used (ends (outcome_of told) last)

  -- no statement is left
  pub record HasNoCode (point : Point) (used : List Answer) (last : Machine) : Type 0 where
    pub code : point.code ≡ []
    pub unlooped : point.steps < loop_count piece start point.machine.limit
    pub used_none : used ≡ []
    pub stays : last ≡ point.machine

  -- a refill is asked, to which the source gave no answer of the machine's
  pub record IsLeft (point : Point) (used : List Answer) (last : Machine) : Type 0 where
    pub statement : Stmt
    pub rest : List Stmt
    pub stands : StandsBefore piece stream start size point statement rest
    pub asks : Asks start size statement point.machine
    pub used_none : used ≡ []
    pub stays : last ≡ point.machine

  -- a refill would be asked, for which the window has no room
  pub record IsFull (kept need all : ℕ) (point : Point) (used : List Answer) (last : Machine) : Type 0 where
    pub statement : Stmt
    pub rest : List Stmt
    pub stands : StandsBefore piece stream start size point statement rest
    pub asking : IsAsking statement point.machine
    pub kept_is : kept ≡ kept_by start statement point.machine
    pub need_is : need ≡ needed_by statement
    pub size_is : all ≡ size
    pub full : size < kept + need
    pub used_none : used ≡ []
    pub stays : last ≡ point.machine

  -- the steps are the count of a loop
  pub record IsLooped (point : Point) (used : List Answer) (last : Machine) : Type 0 where
    pub looped : loop_count piece start point.machine.limit ≤ point.steps
    pub used_none : used ≡ []
    pub stays : last ≡ point.machine

  -- memory ran out at a statement on histories, which was not made
  pub record LacksMemory (point : Point) (used : List Answer) (last : Machine) : Type 0 where
    pub statement : Stmt
    pub rest : List Stmt
    pub stands : StandsBefore piece stream start size point statement rest
    pub on_histories : is_on_histories statement ≡ true
    pub used_none : used ≡ []
    pub stays : last ≡ point.machine

  -- from this point the call ends so, with these last answers, and with the machine in the end
  abbrev pub EndsAs : Outcome → Point → (used : List Answer) → Machine → Type 0
  EndsAs NeedFill point used last = IsLeft point used last
  EndsAs (WindowFull kept need all) point used last = IsFull kept need all point used last
  EndsAs ReadFailed point used last = IsLeft point used last
  EndsAs Stuck point used last = IsLastStep point Stuck used last ⊎ HasNoCode point used last
  EndsAs Loop point used last = IsLooped point used last
  EndsAs Spent point used last = ⊥
  EndsAs Memory point used last = LacksMemory point used last
  EndsAs told point used last = IsLastStep point told used last

-- what the source did last: it left the scanner, or it failed and the window only slid
abbrev pub Behind : Outcome → Feed → Feed → Type 0
Behind NeedFill feed after = Refills feed.ahead after.ahead feed.window after.window Leave
Behind ReadFailed feed after = Slides feed after
Behind _ feed after = after ≡ feed

-- ---- what is held after it

-- the match may go on: it was left at this point, and comes back with one step more
pub record ComesBack (held : Held) (left : Left) (point : Point) : Type 0 where
  pub machine : machine_back held.piece held.cursor held.cond left point.machine.limit ≡ record point.machine { unit = None; values = [] }
  pub steps : left.steps ≡ suc point.steps

-- where a state was stored the match was left, and else no match is under way
abbrev pub StoresLeft : Held → Option Left → Point → Type 0
StoresLeft held None point = point.machine.state ≡ None
StoresLeft held (Some left) point = ComesBack held left point

abbrev pub LeavesMatch : Outcome → Held → Point → Type 0
LeavesMatch NeedFill new point = StoresLeft new new.left point
LeavesMatch _ new point = new.left ≡ None

pub record HoldsAfter (old new : Held) (start : ℕ) (told : Outcome) (point : Point) (last : Machine) : Type 0 where
  pub start_is : new.start ≡ start
  pub cursor : new.cursor ≡ last.cursor
  pub cond : new.cond ≡ last.cond
  -- the values of this call, on top of what was given before
  pub given : new.given ≡ after_values (tag_names old.piece.blocks) last.values old.given
  pub assigned : new.assigned ≡ point.assigned
  pub left : LeavesMatch told new point

-- A call on a lexer that is not spent: answers that the source gave in order lead from where it began to a point, and to an end there. The
-- stream is any of which the window after the call is a window.
pub record IsAdvance (old new : Held) (before after : Feed) (told : Outcome) : Type 0 where
  pub answers : List Answer
  pub used : List Answer
  pub point : Point
  pub last : Machine
  pub feed : Feed
  pub fed : IsFed before (answers ++ used) feed
  pub behind : Behind told feed after
  pub leads : (stream : List ℕ) → IsWindowOf stream after.window →
      LeadsTo old.piece stream before.window.start before.window.size (entry_point old before.window) answers point
      × EndsAs old.piece stream before.window.start before.window.size told point used last
  pub piece : new.piece ≡ old.piece
  pub spent : new.spent ≡ is_last told
  pub holds : HoldsAfter old new before.window.start told point last
