-- Generated sources: their output, and what is told of a run of their scanner.
use Rattle.std.specs.Prelude.{◌≡◌, ℕ, zero, suc, List, [], ◌∷◌, length, codes, None, ◌==◌, if◌then◌else◌}
use Rattle.std.specs.Fmt.{decimal}
use Rattle.std.specs.List.{filter}
use Rattle.lx_base.specs.Letters.{begins_with}
use Rattle.lx_base.specs.Text.{joined}
use Rattle.lx_ccode.specs.declared.piece.Piece.{Piece}
use Rattle.lx_run.specs.Texts.{run_text}
use Rattle.lx_compile.specs.Output.{IsOutput}
use Rattle.lx_compile.specs.declared.made.Made.{Made}
use Rattle.lx_source.specs.Sources.{source_files, source_name, source_options, source_text}
use Rattle.lx_top.specs.Emitted.{Scans}

-- ---- its output

-- the output of the source of so many rules
abbrev pub IsSourceOutput : (rules : ℕ) → List Made → (output : List ℕ) → Type 0
IsSourceOutput rules made output = IsOutput source_options (source_files rules) source_name made output

-- ---- what is told of a run

-- the words that its scanner is run over, one of each rule, numbered from this one on
abbrev pub words_from : (number count : ℕ) → List ℕ
words_from number zero = []
words_from number (suc count) = joined (codes "w" ∷ decimal number ∷ codes "x7" ∷ []) (words_from (suc number) count)

abbrev pub words_of : (rules : ℕ) → List ℕ
words_of rules = words_from 1 rules

-- the lines with a letter before the first of them
abbrev pub onto_first : ℕ → List (List ℕ) → List (List ℕ)
onto_first letter [] = (letter ∷ []) ∷ []
onto_first letter (line ∷ lines) = (letter ∷ line) ∷ lines

-- the lines of a text, each with its line feed
abbrev pub lines_of : List ℕ → List (List ℕ)
lines_of [] = []
lines_of (letter ∷ text) = if letter == 10 then (letter ∷ []) ∷ lines_of text else onto_first letter (lines_of text)

-- those that tell of a rule
abbrev pub rule_lines : List ℕ → List (List ℕ)
rule_lines text = filter (begins_with (codes "rule ")) (lines_of text)

-- the last of lines, or nothing
abbrev pub last_of : List (List ℕ) → List ℕ
last_of [] = []
last_of (line ∷ []) = line
last_of (line ∷ next ∷ lines) = last_of (next ∷ lines)

-- the size of a source, how many matches a run of its scanner has, the line of the last one, and the line that ends the run
abbrev pub summary : (size : ℕ) → (run : List ℕ) → List ℕ
summary size run =
    joined
    (codes "source " ∷ decimal size ∷ codes "\nmatches " ∷ decimal (length (rule_lines run)) ∷ codes "\n" ∷ last_of (rule_lines run)
    ∷ last_of (lines_of run) ∷ []) []

-- how many units a window has, and how many a refill brings at most, where nothing else is asked for
abbrev pub usual_units : ℕ
usual_units = 4096

-- the text that is told of a run of the scanner of this output, the first one, over the words
abbrev pub IsSourceText : (rules : ℕ) → (output text : List ℕ) → Type 0
IsSourceText rules output text =
    (piece : Piece) × Scans output None piece × (text ≡ summary (length (source_text rules)) (run_text piece (words_of rules) usual_units usual_units).text)
