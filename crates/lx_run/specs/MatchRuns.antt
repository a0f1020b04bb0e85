-- That a match over a window ends as a run over the whole stream, and which matches a run makes.
use Rattle.std.specs.Prelude.{◌≡◌, ◌≤◌, ℕ, List, ◌++◌, length, Bool, true}
use Rattle.std.specs.List.{list_any}
use Rattle.lx_ccode.specs.declared.piece.Piece.{Piece}
use Rattle.lx_ccode.specs.Runs.{Ended, run_of}
use Rattle.lx_ccode.specs.Schedules.{IsLegal, ReadsUnasked, Schedule}
use Rattle.lx_ccode.specs.Statements.{all_statements, is_state}
use Rattle.lx_step.specs.Held.{Tells}
use Rattle.lx_run.specs.Matches.{MatchEnd}
use Rattle.lx_run.specs.Readings.{Reading}
use Rattle.lx_run.specs.Streams.{holds_all}
use Rattle.lx_run.specs.Texts.{Between, behind, is_followed, match_at}

-- A match may start there, over a window that has the stream's units up to a limit: the scanner is left only in a piece that stores states, and a
-- piece that reads units and never asks for a refill has the whole stream.
pub record MayStart (piece : Piece) (reading : Reading) (start limit : ℕ) (leaving : Bool) : Type 0 where
  pub step : 1 ≤ reading.step
  pub from : start ≤ limit
  pub within : limit ≤ length reading.stream
  pub states : leaving ≡ true → list_any is_state (all_statements piece.blocks) ≡ true
  pub whole : ReadsUnasked piece → limit ≡ length reading.stream

-- a piece that reads units and never asks for a refill has the whole stream in its window
abbrev pub HoldsWhatItReads : Piece → Type 0
HoldsWhatItReads piece = ReadsUnasked piece → holds_all piece ≡ true

-- the run tells what the match told, with what it held and the values that it gave
pub record IsEndOf (end : MatchEnd) (run : Ended) : Type 0 where
  pub told : Tells end.told run.outcome
  pub cursor : run.cursor ≡ end.stand.point.machine.cursor
  pub cond : run.cond ≡ end.stand.point.machine.cond
  pub values : run.values ≡ end.stand.values ++ end.stand.point.machine.values

-- the match ended as the run does, under some legal schedule that begins with the units which the window had
pub record EndsAsRun (piece : Piece) (reading : Reading) (start : ℕ) (cond : List ℕ) (limit : ℕ) (end : MatchEnd) : Type 0 where
  pub schedule : Schedule
  pub first : schedule.first ≡ limit
  pub legal : IsLegal piece (length reading.stream) start schedule
  pub ends : IsEndOf end (run_of piece reading.stream start cond schedule)

-- where a run makes its matches, from one place on: the next match is made behind one that is followed
pub data IsOfRun (reading : Reading) (from : Between) : Between → Type 0 where
  begins : IsOfRun reading from from
  follows : {between : Between} → IsOfRun reading from between
      → is_followed (match_at reading between).told (behind between (match_at reading between)).held ≡ true
      → IsOfRun reading from (behind between (match_at reading between))
