-- A match over a window, which a source in memory fills.
use Rattle.std.specs.Prelude.{ℕ, zero, suc, ◌+◌, ◌*◌, List, [], ◌∷◌, ◌++◌, length, Bool, true, false, not, Option, Some, None, nat_le, nat_lt, if◌then◌else◌}
use Rattle.lx_ccode.specs.declared.piece.Piece.{Piece}
use Rattle.lx_ccode.specs.declared.piece.Stmt.{Stmt}
use Rattle.lx_ccode.specs.declared.piece.Stmt.TheVariants.{Need, Try}
use Rattle.lx_ccode.specs.Machine.{Answer, Machine, Next, Refill, Value, ends, goes_on, has_units, more, no_more, refilled, step, stored_block, units_of}
use Rattle.lx_ccode.specs.Machine as machine
use Rattle.lx_ccode.specs.Runs.{entry_block, fresh_machine, loop_count}
use Rattle.lx_step.specs.declared.answers.Outcome.{Outcome}
use Rattle.lx_step.specs.declared.answers.Outcome.TheVariants.{Rule, Jump, NoRule, End, WindowFull, Stuck, Loop}
use Rattle.lx_step.specs.Points.{Point, kept_by, limited, needed_by, point_after, point_at}
use Rattle.lx_run.specs.Readings.{Reading, is_whole, refill_at}

-- where a match stands: the values that were given before the scanner was left last, and whether the source leaves it at its next refill
pub record Stand : Type 0 where
  pub point : Point
  pub values : List Value
  pub leaving : Bool

-- how a match ended, and where it stood then
pub record MatchEnd : Type 0 where
  pub told : Outcome
  pub stand : Stand

-- the match ended, and the machine was this
abbrev pub ended : Outcome → Stand → Machine → MatchEnd
ended told stand last = record { told = told; stand = record stand { point = record stand.point { machine = last } } }

-- the outcome that the machine's is told by; each refill that is asked is answered
abbrev pub told_by : machine.Outcome → Outcome
told_by (machine.by_rule number) = Rule number
told_by (machine.by_jump number) = Jump number
told_by machine.no_rule = NoRule
told_by machine.at_end = End
told_by machine.stuck = Stuck
told_by machine.looped = Loop
told_by machine.unanswered = Stuck

-- the statement asks for a refill, where it stands with this machine
abbrev pub asks : Stmt → Machine → Bool
asks (Need units) machine = not (has_units units machine)
asks (Try block) machine = true
asks _ machine = false

module _ (piece : Piece) (reading : Reading) (start : ℕ) where
  -- ---- refills

  -- the point at which the match goes on after it was left, at this limit: the block of the state that was stored, or the start of a fresh
  -- match where none was
  abbrev pub point_back : Option ℕ → Point → (limit : ℕ) → Point
  point_back None point limit = point_at piece.blocks (entry_block piece.conds point.machine.cond) (fresh_machine start limit point.machine.cond) 0 []
  point_back (Some state) point limit =
      point_at piece.blocks (stored_block piece.blocks (Some state)) (record point.machine { unit = None; limit = limit; values = [] }) (suc point.steps) point.assigned

  -- the source left the scanner, one refill was made, and the scanner came back; it is not left again after it was answered once that there
  -- are no more units
  abbrev pub stand_back : Stand → Stand
  stand_back stand =
      let limit : ℕ = stand.point.machine.limit in
      record {
        point = point_back stand.point.machine.state stand.point (limit + units_of (refill_at reading start limit));
        values = stand.values ++ stand.point.machine.values;
        leaving = not (is_whole reading start limit);
      }

  -- ---- steps

  -- how a match goes on
  abbrev Going : Type 0
  Going = Stand → MatchEnd

  abbrev pub on_from : Going → Stand → Stmt → (used : List Answer) → Next → MatchEnd
  on_from going stand statement used (goes_on code last answers) = going (record stand { point = point_after piece.table stand.point statement used code last })
  on_from going stand statement used (ends outcome last) = ended (told_by outcome) stand last

  -- a statement is made, with these answers
  abbrev pub stepped : Going → Stand → Stmt → List Stmt → (used : List Answer) → MatchEnd
  stepped going stand statement rest used = on_from going stand statement used (step piece reading.stream statement rest stand.point.machine used)

  -- a refill is made at once; a Need looks again whether there are units enough
  abbrev pub refilled_by : Going → Stand → Stmt → List Stmt → Refill → MatchEnd
  refilled_by going stand (Need units) rest (more dropped added) =
      going (record stand { point = limited (stand.point.machine.limit + added) stand.point })
  refilled_by going stand statement rest refill = stepped going stand statement rest (refilled refill ∷ [])

  -- a refill is asked with room for it
  abbrev pub answered : Going → Stand → Stmt → List Stmt → MatchEnd
  answered going stand statement rest =
      if stand.leaving then going (stand_back stand)
      else refilled_by going stand statement rest (refill_at reading start stand.point.machine.limit)

  -- a refill is asked: so many units stay in the window, and so many are needed beside them
  abbrev pub asked : Going → Stand → Stmt → List Stmt → (kept need : ℕ) → MatchEnd
  asked going stand statement rest kept need =
      if nat_lt reading.size (kept + need) then ended (WindowFull kept need reading.size) stand stand.point.machine
      else answered going stand statement rest

  abbrev pub made : Going → Stand → List Stmt → MatchEnd
  made going stand [] = ended Stuck stand stand.point.machine
  made going stand (statement ∷ rest) =
      if asks statement stand.point.machine
      then asked going stand statement rest (kept_by start statement stand.point.machine) (needed_by statement)
      else stepped going stand statement rest []

  -- the match from here on. Each statement, each refill and each coming back takes one of the fuel
  abbrev pub match_from : (fuel : ℕ) → Going
  match_from zero stand = ended Loop stand stand.point.machine
  match_from (suc fuel) stand =
      if nat_le (loop_count piece start stand.point.machine.limit) stand.point.steps then ended Loop stand stand.point.machine
      else made (match_from fuel) stand stand.point.code

  -- more fuel than a match takes: it is left or gets more units fewer times than the stream has units and two more, and makes fewer
  -- statements in between than the count of a loop
  abbrev pub match_fuel : ℕ
  match_fuel = (length reading.stream + 2) * suc (loop_count piece start (length reading.stream))

  -- a match in a condition, over a window that has the stream's units up to a limit
  unfoldable pub match_of : (cond : List ℕ) → (limit : ℕ) → (leaving : Bool) → MatchEnd
  match_of cond limit leaving =
      match_from match_fuel (record {
        point = point_at piece.blocks (entry_block piece.conds cond) (fresh_machine start limit cond) 0 [];
        values = [];
        leaving = leaving;
      })
