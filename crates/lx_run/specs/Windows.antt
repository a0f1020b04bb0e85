-- The window and the source of a run.
use Rattle.std.specs.Prelude.{◌≡◌, ◌≤◌, ℕ, List, length, Bool, true, false, Option, Some, None}
use Rattle.std.specs.List.{list_any}
use Rattle.lx_ccode.specs.declared.piece.Piece.{Piece}
use Rattle.lx_ccode.specs.Statements.{all_statements, is_state}
use Rattle.lx_files.specs.Taking.{given_then}
use Rattle.lx_window.specs.MemorySource.{MemorySource}
use Rattle.lx_window.specs.Units.{IsWhole, stream_units}
use Rattle.lx_window.specs.Windows.{IsFormed, IsFedBy}
use Rattle.lx_window.specs.WindowView.{WindowView}
use Rattle.lx_step.specs.declared.answers.Outcome.{Outcome}
use Rattle.lx_step.specs.Feeds.{Feed}
use Rattle.lx_step.specs.Held.{Held, is_last}
use Rattle.lx_run.specs.Ends.{EndsAs}
use Rattle.lx_run.specs.Matches.{MatchEnd}
use Rattle.lx_run.specs.Readings.{Reading}
use Rattle.lx_run.specs.Streams.{holds_all}
use Rattle.lx_run.specs.Texts.{Between, held_behind, is_followed, last_text, match_at, match_lines, onto}
use Rattle.lx_run.specs.declared.ends.RunEnd.{RunEnd}
use Rattle.lx_run.specs.declared.ends.RunEnd.TheVariants as run_end

-- The window has the stream's units up to this limit, with the token's start here, and the source has the rest: it leaves the scanner or never
-- does, and this tells whether at its next refill.
pub record IsAt (reading : Reading) (unit : ℕ) (leaves leaving : Bool) (start limit : ℕ) (feed : Feed) : Type 0 where
  pub formed : IsFormed feed.window
  pub unit_is : feed.window.unit ≡ unit
  pub size_is : feed.window.size ≡ reading.size
  pub start_is : feed.window.start ≡ start
  pub limit_is : feed.window.limit ≡ limit
  pub fed : IsFedBy reading.stream feed.window feed.ahead
  pub bytes : List ℕ
  pub ahead_is : feed.ahead ≡ Some (record { bytes = bytes; parts = Some (record { step = reading.step; leaves = leaves; leaves_next = leaving }) })
  -- it leaves the scanner until it was answered that there are no more units
  pub closed : leaves ≡ true → leaving ≡ false → limit ≡ length reading.stream
  pub never : leaves ≡ false → leaving ≡ false

-- a lexer of the piece, its window and its source are between two matches
pub record IsBetween (piece : Piece) (reading : Reading) (leaves : Bool) (between : Between) (held : Held) (feed : Feed) : Type 0 where
  pub held_is : held ≡ between.held
  pub piece_is : between.held.piece ≡ piece
  pub unleft : between.held.left ≡ None
  pub fit : between.held.spent ≡ false
  pub at : IsAt reading piece.unit leaves between.leaving between.start between.limit feed

-- the match ended so, and the window has its start still; behind a match that is not the last one it has the units up to the limit, too
pub record IsBehind (reading : Reading) (unit : ℕ) (leaves : Bool) (between : Between) (end : MatchEnd) (held : Held) (feed : Feed) : Type 0 where
  pub held_is : held ≡ held_behind between.held between.start end
  pub from : between.start ≤ end.stand.point.machine.cursor
  pub within : end.stand.point.machine.cursor ≤ end.stand.point.machine.limit
  pub at : is_last end.told ≡ false → IsAt reading unit leaves end.stand.leaving between.start end.stand.point.machine.limit feed

-- the match was made
abbrev pub HasMatched : Piece → Reading → (leaves : Bool) → Between → Held → Feed → Type 0
HasMatched piece reading leaves between held feed = IsBehind reading piece.unit leaves between (match_at reading between) held feed

-- some match is to be made there
abbrev pub MayMatch : Piece → Held → Feed → (unit : ℕ) → Type 0
MayMatch piece held feed unit =
    (unit ≡ piece.unit) × ((reading : Reading) × (leaves : Bool) × (between : Between) × IsBetween piece reading leaves between held feed)

-- each offset of the stream is one at which a token may begin
abbrev pub IsEarly : Reading → Type 0
IsEarly reading = length reading.stream ≤ 0x4000_0000_0000_0000

-- a run may go on there
abbrev pub MayRun : Piece → Held → Feed → (unit : ℕ) → Type 0
MayRun piece held feed unit =
    (unit ≡ piece.unit) × ((reading : Reading) × (leaves : Bool) × (between : Between) × IsBetween piece reading leaves between held feed × IsEarly reading)

-- what a run reads that begins with this window and this source
abbrev pub reading_by : WindowView → MemorySource → Reading
reading_by window source = record { stream = stream_units source.unit source.bytes; size = window.size; step = source.step }

-- The window is empty, and the source has given nothing, of no more units than may be counted. It leaves the scanner where the piece stores
-- states, and the window has room for all units where the piece asks for none.
pub record MayBegin (piece : Piece) (window : WindowView) (source : MemorySource) : Type 0 where
  pub formed : IsFormed window
  pub base : window.base ≡ 0
  pub start : window.start ≡ 0
  pub limit : window.limit ≡ 0
  pub unit : window.unit ≡ piece.unit
  pub source_unit : source.unit ≡ piece.unit
  pub whole : IsWhole source.unit source.bytes
  pub leaves : source.leaves ≡ list_any is_state (all_statements piece.blocks)
  pub leaves_next : source.leaves_next ≡ source.leaves
  pub early : IsEarly (reading_by window source)
  pub room : holds_all piece ≡ true → length (reading_by window source).stream ≤ window.size

-- The lines of a match that ended so were put, or a front of them, and the run ends so; or all were put, and it goes on.
abbrev pub LinesEnd : Outcome → Held → (given given' : Option (List ℕ)) → (faults faults' : ℕ) → Option RunEnd → Type 0
LinesEnd told held given given' faults faults' None =
    (is_followed told held ≡ true) × (given' ≡ given_then given (match_lines told held)) × (faults' ≡ faults)
LinesEnd told held given given' faults faults' (Some run_end.Done) =
    (is_followed told held ≡ false) × EndsAs (onto (match_lines told held) (last_text told)) given given' faults faults' run_end.Done
LinesEnd told held given given' faults faults' (Some end) = EndsAs (onto (match_lines told held) (last_text told)) given given' faults faults' end
