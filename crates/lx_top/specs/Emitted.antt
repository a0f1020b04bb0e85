-- Runs of emitted files: which scanner is run, and which fault comes first.
use Rattle.std.specs.Prelude.{◌≡◌, ◌⊎◌, ℕ, ◌%◌, List, length, take, drop, Option, Some, None, ◌==◌, if◌then◌else◌}
use Rattle.lx_base.specs.declared.places.Pos.{Pos}
use Rattle.lx_base.specs.declared.faults.Fault.{Fault}
use Rattle.lx_base.specs.declared.faults.Fault.TheVariants.{BadInput, NoFile, NotEmitted, WindowFull}
use Rattle.lx_base.specs.Places.{place_after, file_start}
use Rattle.lx_ccode.specs.declared.piece.Piece.{Piece}
use Rattle.lx_ccode.specs.Front.{BeginsWithPiece}
use Rattle.lx_creader.specs.Marks.{BeginsBlock, IsFirstBegin}
use Rattle.lx_run.specs.Texts.{Full, run_text}

-- the place of an offset in the emitted file, which is the first that is met
abbrev pub place_in : (bytes : List ℕ) → (offset : ℕ) → Pos
place_in bytes offset = place_after (file_start 0) (take offset bytes)

-- the piece stands at the first begin mark of the block with this number, or of a scanner
pub record Scans (bytes : List ℕ) (block : Option ℕ) (piece : Piece) : Type 0 where
  pub offset : ℕ
  pub first : IsFirstBegin block bytes offset
  pub begins : BeginsWithPiece (drop offset bytes) piece

-- no piece stands at that mark, which has this offset; or there is no such mark, and the offset is 0
abbrev pub IsUnread : (bytes : List ℕ) → (block : Option ℕ) → (offset : ℕ) → Type 0
IsUnread bytes block offset =
    (((place : ℕ) → BeginsBlock block (drop place bytes) → ⊥) × (offset ≡ 0))
    ⊎ (IsFirstBegin block bytes offset × ((piece : Piece) → BeginsWithPiece (drop offset bytes) piece → ⊥))

-- the fault of a run, where it ended because the window was full; it cites the input
abbrev pub full_fault : Option Full → Option Fault
full_fault None = None
full_fault (Some full) = Some (WindowFull (file_start 1) full.kept full.need full.size)

-- the fault of a scanner over an input that is there: that is no whole number of units, or a token does not fit the window
abbrev pub scan_fault : Piece → (window step : ℕ) → (input : List ℕ) → Option Fault
scan_fault piece window step input =
    if length input % piece.unit == 0 then full_fault (run_text piece input window step).full else Some (BadInput (file_start 1) (length input))

-- the fault of an input, the second file that is met: it is not there, or it is that of the scanner over it
abbrev pub input_fault : (name : List ℕ) → Piece → (window step : ℕ) → Option (List ℕ) → Option Fault
input_fault name piece window step None = Some (NoFile (file_start 1) name)
input_fault name piece window step (Some input) = scan_fault piece window step input

-- the first fault of a run, or none, where the emitted file has these bytes: that no scanner is read, or that of the input
abbrev pub IsEmittedFault : (block : Option ℕ) → (window step : ℕ) → (input : List ℕ) → (given : Option (List ℕ)) → (bytes : List ℕ) → Option Fault → Type 0
IsEmittedFault block window step input given bytes fault =
    ((offset : ℕ) × IsUnread bytes block offset × (fault ≡ Some (NotEmitted (place_in bytes offset) offset)))
    ⊎ ((piece : Piece) × Scans bytes block piece × (fault ≡ input_fault input piece window step given))

-- the first fault of a run, or none, by the emitted file and the input, where they are there
abbrev pub IsRunFault : (block : Option ℕ) → (window step : ℕ) → (input : List ℕ) → (given : Option (List ℕ)) → (emitted : List ℕ) → Option (List ℕ) → Option Fault → Type 0
IsRunFault block window step input given emitted None fault = fault ≡ Some (NoFile (file_start 0) emitted)
IsRunFault block window step input given emitted (Some bytes) fault = IsEmittedFault block window step input given bytes fault

-- the text is that of the run of the scanner that is read over the input
abbrev pub IsRunText : (block : Option ℕ) → (window step : ℕ) → (emitted given : Option (List ℕ)) → (text : List ℕ) → Type 0
IsRunText block window step None given text = ⊥
IsRunText block window step (Some bytes) None text = ⊥
IsRunText block window step (Some bytes) (Some input) text = (piece : Piece) × Scans bytes block piece × (text ≡ (run_text piece input window step).text)
