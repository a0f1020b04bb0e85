-- The text of a fault.
use Rattle.std.specs.Prelude.{ℕ, ◌<◌, List, [], ◌∷◌, length, codes, Option, Some, None, slice_index_or}
use Rattle.std.specs.Fmt.{decimal}
use Rattle.lx_base.specs.Text.{joined}
use Rattle.lx_base.specs.declared.places.Pos.{Pos}
use Rattle.lx_base.specs.declared.faults.Fault.{Fault}
use Rattle.lx_base.specs.declared.faults.Fault.TheVariants.{Usage, NoFile, IncludeDepth, Unclosed, MarkInSource, BadToken, Syntax, UnknownName, Redefined, NotClass, CodePoint, Surrogate, Bounds, EmptyClass, NoRules, EofPair, Condition, TagsOff, DuplicateTag, UnknownConfig, BadValue, NoRulesToUse, TooLong, TooManyParts, TooManyStates, NotEmitted, WindowFull, Directive, BadInput, CoverTooLong}

-- where a fault stands
abbrev pub place_of : Fault → Option Pos
place_of Usage = None
place_of (NoFile place name) = Some place
place_of (IncludeDepth place depth) = Some place
place_of (Unclosed place) = Some place
place_of (MarkInSource place) = Some place
place_of (BadToken place) = Some place
place_of (Syntax place) = Some place
place_of (UnknownName place name) = Some place
place_of (Redefined place first) = Some place
place_of (NotClass place) = Some place
place_of (CodePoint place point) = Some place
place_of (Surrogate place point) = Some place
place_of (Bounds place min max) = Some place
place_of (EmptyClass place) = Some place
place_of (NoRules place) = Some place
place_of (EofPair place) = Some place
place_of (Condition place) = Some place
place_of (TagsOff place) = Some place
place_of (DuplicateTag place name) = Some place
place_of (UnknownConfig place name) = Some place
place_of (BadValue place) = Some place
place_of (NoRulesToUse place) = Some place
place_of (TooLong place total) = Some place
place_of (TooManyParts place size nesting tags) = Some place
place_of (TooManyStates place) = Some place
place_of (NotEmitted place offset) = Some place
place_of (WindowFull place kept need size) = Some place
place_of (Directive place) = Some place
place_of (BadInput place length) = Some place
place_of (CoverTooLong place sum) = Some place

-- the place's file, if there is a place, stands in the list of names
abbrev pub HasFile : List (List ℕ) → Option Pos → Type 0
HasFile names None = Unit {0}
HasFile names (Some place) = place.file < length names

abbrev pub IsPlaced : List (List ℕ) → Fault → Type 0
IsPlaced names fault = HasFile names (place_of fault)

-- the front of a message, up to its last colon but one
abbrev pub heading : List (List ℕ) → Option Pos → List ℕ
heading names None = codes "re2c:"
heading names (Some place) =
    joined (slice_index_or names place.file [] ∷ codes ":" ∷ decimal place.line ∷ codes ":" ∷ decimal place.col ∷ codes ":" ∷ []) []

abbrev pub window_text : ℕ → ℕ → ℕ → List ℕ
window_text kept need size =
    joined (codes "window full: " ∷ decimal kept ∷ codes " kept, " ∷ decimal need ∷ codes " needed, " ∷ decimal size ∷ codes " in all" ∷ []) []

-- what a fault says, its place aside
abbrev pub text_of : Fault → List ℕ
text_of Usage = codes "usage"
text_of (NoFile place name) = codes "no such file"
text_of (IncludeDepth place depth) = codes "includes nested too deeply"
text_of (Unclosed place) = codes "block not closed"
text_of (MarkInSource place) = codes "emitted mark in source"
text_of (BadToken place) = codes "no token here"
text_of (Syntax place) = codes "syntax error"
text_of (UnknownName place name) = joined (codes "unknown name '" ∷ name ∷ codes "'" ∷ []) []
text_of (Redefined place first) = codes "defined twice"
text_of (NotClass place) = codes "not a class"
text_of (CodePoint place point) = codes "code point too large"
text_of (Surrogate place point) = codes "surrogate"
text_of (Bounds place min max) = codes "wrong bounds"
text_of (EmptyClass place) = codes "empty class"
text_of (NoRules place) = codes "no rules"
text_of (EofPair place) = codes "end rule and re2c:eof go together"
text_of (Condition place) = codes "wrong use of conditions"
text_of (TagsOff place) = codes "tags need an option"
text_of (DuplicateTag place name) = joined (codes "tag '" ∷ name ∷ codes "' used twice" ∷ []) []
text_of (UnknownConfig place name) = joined (codes "unknown configuration '" ∷ name ∷ codes "'" ∷ []) []
text_of (BadValue place) = codes "wrong value"
text_of (NoRulesToUse place) = codes "no rules block to use"
text_of (TooLong place total) = codes "source too long"
text_of (TooManyParts place size nesting tags) = codes "scanner too large"
text_of (TooManyStates place) = codes "too many states"
text_of (NotEmitted place offset) = codes "not emitted text"
text_of (WindowFull place kept need size) = window_text kept need size
text_of (Directive place) = codes "unknown directive or option missing"
text_of (BadInput place length) = codes "input is no whole number of units"
text_of (CoverTooLong place sum) = codes "too many cover words"

-- `FILE:LINE:COL: error: TEXT` or `re2c: error: TEXT`, and a line feed
abbrev pub message_text : List (List ℕ) → Fault → List ℕ
message_text names fault = joined (heading names (place_of fault) ∷ codes " error: " ∷ text_of fault ∷ codes "\n" ∷ []) []
