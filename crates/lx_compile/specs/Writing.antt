-- The text of what is made of a source.
use Rattle.std.specs.Prelude.{◌≡◌, ℕ, suc, ◌+◌, min, List, [], ◌∷◌, ◌++◌, Option, Some, None, false, is_some, if◌then◌else◌}
use Rattle.lx_base.specs.Names.{Spellings}
use Rattle.lx_base.specs.declared.faults.Fault.{Fault}
use Rattle.lx_base.specs.declared.faults.Stop.{Stop}
use Rattle.lx_base.specs.declared.faults.Stop.TheVariants as stop
use Rattle.lx_ccode.specs.Bodies.{body_piece_text}
use Rattle.lx_ccode.specs.Heads.{is_three}
use Rattle.lx_ccode.specs.Text.{line_after, piece_text}
use Rattle.lx_ccode.specs.Validity.{IsValid}
use Rattle.lx_ccode.specs.declared.piece.LineMark.{LineMark}
use Rattle.lx_ccode.specs.declared.piece.Piece.{Piece}
use Rattle.lx_compile.specs.Facts.{body_of, directives_fault}
use Rattle.lx_compile.specs.declared.made.Made.{Made}
use Rattle.lx_compile.specs.declared.made.Made.TheVariants.{Outside, Scanners, Bare}

-- the number of the next piece
abbrev pub number_behind : (number : ℕ) → Made → ℕ
number_behind number (Outside text) = number
number_behind number one = suc number

-- The place of a piece in an output with this name, whose begin mark stands in this line: the line of its brace,
-- four lines further on. Only a piece of format 3 that tells the line of the source behind it has one.
abbrev pub place_of : (out : List ℕ) → (line : ℕ) → Piece → Option LineMark
place_of out line piece =
    if (if is_three piece.head then is_some piece.line else false) then Some (record { line = min (line + 4) 4294967295; file = out }) else None

-- In an output with this name, where pieces are numbered from here on, and directives speak of all that is made, by these spellings.
module _ (names : Spellings) (out : List ℕ) (all : List Made) where
  -- the text of one that is made, which begins in a line
  abbrev pub made_text : (number line : ℕ) → Made → List ℕ
  made_text number line (Outside text) = text
  made_text number line (Scanners piece checks warnings cover groups) = piece_text (place_of out line piece) piece
  made_text number line (Bare at mark directive) = body_piece_text number names (body_of all directive) mark

  -- the text of some of what is made, one behind another
  abbrev pub text_among : (number line : ℕ) → List Made → List ℕ
  text_among number line [] = []
  text_among number line (one ∷ made) =
      made_text number line one ++ text_among (number_behind number one) (line_after line (made_text number line one)) made

-- the text of all that is made
abbrev pub output_text : Spellings → (out : List ℕ) → List Made → List ℕ
output_text names out made = text_among names out made 1 1 made

-- a piece of scanners is valid
abbrev pub IsPrintable : Made → Type 0
IsPrintable (Scanners piece checks warnings cover groups) = IsValid piece
IsPrintable one = Unit {0}

-- a call that may find this fault stops with it, or where memory runs out
abbrev pub StopsAs : Option Fault → Stop → Type 0
StopsAs found stop.Memory = Unit {0}
StopsAs found (stop.Fault fault) = found ≡ Some fault

-- a call that is to write it stops with the fault of the first directive that has one, or where memory runs out
abbrev pub StopsByDirectives : Spellings → List Made → Stop → Type 0
StopsByDirectives names made = StopsAs (directives_fault names made)
