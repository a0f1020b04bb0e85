-- The text of a run: a line for each match, and how the run ends.
use Rattle.std.specs.Prelude.{ℕ, zero, suc, false, ◌&&◌, List, [], ◌++◌, length, codes, nat_le, ◌==◌, not, Bool, Option, Some, None, if◌then◌else◌}
use Rattle.std.specs.List.{list_any}
use Rattle.lx_ccode.specs.declared.piece.Piece.{Piece}
use Rattle.lx_ccode.specs.Statements.{all_statements, is_state}
use Rattle.lx_step.specs.declared.answers.Outcome.{Outcome}
use Rattle.lx_step.specs.declared.answers.Outcome.TheVariants.{Rule, Jump, NoRule, End, WindowFull, Stuck, Loop}
use Rattle.lx_step.specs.Given.{after_values}
use Rattle.lx_step.specs.Held.{Held, fresh, is_last}
use Rattle.lx_step.specs.Tags.{tag_names}
use Rattle.lx_run.specs.Lines.{match_line, end_line, stop_line}
use Rattle.lx_run.specs.Matches.{MatchEnd, match_of}
use Rattle.lx_run.specs.Readings.{Reading}
use Rattle.lx_run.specs.Streams.{holds_all, input_units, stops_at_end, stream_of}

-- ---- matches

-- between two matches: the lexer, where the next match starts, where the window's units end, and whether the source leaves the scanner at
-- its next refill
pub record Between : Type 0 where
  pub held : Held
  pub start : ℕ
  pub limit : ℕ
  pub leaving : Bool

-- the match that is made next
abbrev pub match_at : Reading → Between → MatchEnd
match_at reading between = match_of between.held.piece reading between.start between.held.cond between.limit between.leaving

-- what a lexer holds behind a match
abbrev pub held_behind : Held → (start : ℕ) → MatchEnd → Held
held_behind held start end =
    let machine = end.stand.point.machine in
    record held {
      spent = is_last end.told;
      start = start;
      cursor = machine.cursor;
      cond = machine.cond;
      given = after_values (tag_names held.piece.blocks) (end.stand.values ++ machine.values) held.given;
      assigned = end.stand.point.assigned;
      left = None;
    }

abbrev pub behind : Between → MatchEnd → Between
behind between end = record {
  held = held_behind between.held between.start end;
  start = end.stand.point.machine.cursor;
  limit = end.stand.point.machine.limit;
  leaving = end.stand.leaving;
}

-- ---- lines

-- the units that a refill would have to leave in the window, those that it needs beside them, and those that the window takes
pub record Full : Type 0 where
  pub kept : ℕ
  pub need : ℕ
  pub size : ℕ

-- what is printed, and whether the run ended where the window was full
pub record RunText : Type 0 where
  pub text : List ℕ
  pub full : Option Full

-- how a run goes on
abbrev pub Going : Type 0
Going = Between → RunText

-- the lines of a match that ended so; behind one that took nothing the run stops
abbrev pub stop_behind : Held → List ℕ
stop_behind held = if held.cursor == held.start then stop_line held.cursor else []

abbrev pub match_lines : Outcome → Held → List ℕ
match_lines (Rule rule) held = match_line (codes "rule ") rule held ++ stop_behind held
match_lines (Jump rule) held = match_line (codes "jump ") rule held ++ stop_behind held
match_lines NoRule held = end_line (codes "none ") held.start held.cursor
match_lines End held = end_line (codes "end ") held.start held.cursor
match_lines Stuck held = end_line (codes "stuck ") held.start held.cursor
match_lines Loop held = end_line (codes "loop ") held.start held.cursor
match_lines _ held = []

-- another match follows one that ended so: by a rule, with something taken
abbrev pub is_followed : Outcome → Held → Bool
is_followed (Rule rule) held = not (held.cursor == held.start)
is_followed (Jump rule) held = not (held.cursor == held.start)
is_followed _ held = false

-- a run ends by a match that told this
abbrev pub last_text : Outcome → RunText
last_text (WindowFull kept need size) = record { text = []; full = Some (record { kept = kept; need = need; size = size }) }
last_text _ = record { text = []; full = None }

-- lines before what follows
abbrev pub onto : List ℕ → RunText → RunText
onto lines rest = record { text = lines ++ rest.text; full = rest.full }

-- the lines of a match that ended so, and those behind it
abbrev pub lines_from : Going → Outcome → Between → RunText
lines_from going told between = onto (match_lines told between.held) (if is_followed told between.held then going between else last_text told)

-- the lines from a match on: a run may end before one that would start behind so many units
abbrev pub lines_at : Reading → (units : ℕ) → Going → Between → RunText
lines_at reading units going between =
    if stops_at_end between.held.piece && nat_le units between.start
    then record { text = end_line (codes "end ") between.start between.start; full = None }
    else lines_from going (match_at reading between).told (behind between (match_at reading between))

-- the lines of a run, from a match on. A run has fewer matches than the stream has units and one more, and that is the fuel
unfoldable pub run_from : Reading → (units : ℕ) → (fuel : ℕ) → Going
run_from reading units zero between = record { text = []; full = None }
run_from reading units (suc fuel) between = lines_at reading units (run_from reading units fuel) between

-- ---- a whole run

-- what a scanner reads of an input, where a window is to have so many units, and a refill is to bring so many; a scanner that asks for no
-- units has the whole stream in its window
abbrev pub reading_of : Piece → (input : List ℕ) → (window step : ℕ) → Reading
reading_of piece input window step =
    let stream : List ℕ = stream_of piece input in
    record { stream = stream; size = if holds_all piece then length stream else window; step = step }

-- before the first match: the window is empty, or it has the whole stream. A source that leaves the scanner of a piece that stores states does
-- so until it was answered that there are no more units; it was not yet, where the stream fills the window
abbrev pub beginning : Piece → Reading → Between
beginning piece reading =
    let states : Bool = list_any is_state (all_statements piece.blocks) in
    if holds_all piece
    then record { held = fresh piece; start = 0; limit = length reading.stream; leaving = states && (reading.size == length reading.stream) }
    else record { held = fresh piece; start = 0; limit = 0; leaving = states }

-- the text of a run of a scanner over an input
abbrev pub run_text : Piece → (input : List ℕ) → (window step : ℕ) → RunText
run_text piece input window step =
    let reading : Reading = reading_of piece input window step in
    run_from reading (input_units piece input) (suc (length reading.stream)) (beginning piece reading)
