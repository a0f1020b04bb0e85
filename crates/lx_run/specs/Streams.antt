-- The stream that a scanner is run over: the input, and behind it what its way to know the end asks for.
use Rattle.std.specs.Prelude.{ℕ, ◌*◌, ◌/◌, Bool, true, false, List, [], ◌∷◌, ◌++◌, length, replicate, max, Option, Some, None, is_some}
use Rattle.std.specs.List.{list_any}
use Rattle.lx_ccode.specs.declared.piece.Stmt.{Stmt}
use Rattle.lx_ccode.specs.declared.piece.Stmt.TheVariants.{Need}
use Rattle.lx_ccode.specs.declared.piece.Head.{Head}
use Rattle.lx_ccode.specs.declared.piece.Mode.{Mode}
use Rattle.lx_ccode.specs.declared.piece.Mode.TheVariants.{Plain, Count, EofFixed, Eof}
use Rattle.lx_ccode.specs.declared.piece.Piece.{Piece}
use Rattle.lx_ccode.specs.Statements.{all_statements, is_need, is_try}
use Rattle.lx_window.specs.Units.{stream_units}

-- the units that the statement asks for
abbrev pub units_needed : Stmt → ℕ
units_needed (Need units) = units
units_needed _ = 0

-- the most units that a statement asks for
abbrev pub most_needed : List Stmt → ℕ
most_needed [] = 0
most_needed (statement ∷ statements) = max (units_needed statement) (most_needed statements)

-- how a piece without a head finds the end of its input, by whether it has checks, tries refills, and has a unit for the end
abbrev pub guessed_mode : (needs tries has_eof : Bool) → Mode
guessed_mode true tries has_eof = Count
guessed_mode false true has_eof = Eof
guessed_mode false false true = EofFixed
guessed_mode false false false = Plain

-- the mode that a head tells, or else the other one
abbrev pub mode_by : Option Head → Mode → Mode
mode_by None mode = mode
mode_by (Some head) mode = head.mode

-- how a piece finds the end of its input
abbrev pub mode_of : Piece → Mode
mode_of piece =
    mode_by piece.head (guessed_mode (list_any is_need (all_statements piece.blocks)) (list_any is_try (all_statements piece.blocks)) (is_some piece.eof))

-- how many units 0 stand behind an input in a mode, where a check asks for so many units at most
abbrev pub padding_in : Mode → (most : ℕ) → ℕ
padding_in Plain most = 1
padding_in Count most = most
padding_in EofFixed most = 0
padding_in Eof most = 0

-- how many units 0 stand behind the input of a piece
abbrev pub padding : Piece → ℕ
padding piece = padding_in (mode_of piece) (most_needed (all_statements piece.blocks))

-- in this mode a run ends before a match that would start behind the input
abbrev pub stops_in : Mode → Bool
stops_in Plain = true
stops_in Count = true
stops_in EofFixed = false
stops_in Eof = false

-- whether a run ends before a match that would start behind the input
abbrev pub stops_at_end : Piece → Bool
stops_at_end piece = stops_in (mode_of piece)

-- in this mode no statement asks for units, and the whole stream stands in the buffer
abbrev pub holds_all_in : Mode → Bool
holds_all_in Plain = true
holds_all_in Count = false
holds_all_in EofFixed = true
holds_all_in Eof = false

-- whether the whole stream stands in the buffer
abbrev pub holds_all : Piece → Bool
holds_all piece = holds_all_in (mode_of piece)

-- the input and the padding, in bytes
abbrev pub padded : Piece → (input : List ℕ) → List ℕ
padded piece input = input ++ replicate (padding piece * piece.unit) 0

-- the stream of units
abbrev pub stream_of : Piece → (input : List ℕ) → List ℕ
stream_of piece input = stream_units piece.unit (padded piece input)

-- how many units the input has
abbrev pub input_units : Piece → (input : List ℕ) → ℕ
input_units piece input = length input / piece.unit
