-- The begin marks of pieces, and texts in which none begins.
use Rattle.std.specs.Prelude.{◌≡◌, ℕ, Bool, true, false, List, [], ◌∷◌, ◌++◌, codes, Option, Some, None, ◌==◌}
use Rattle.std.specs.List.{list_any}
use Rattle.lx_base.specs.Letters.{begins_with}
use Rattle.lx_ccode.specs.Text.{escaped}
use Rattle.lx_ccode.specs.declared.piece.LineMark.{LineMark}
use Rattle.lx_ccode.specs.declared.piece.Stmt.{Stmt}
use Rattle.lx_ccode.specs.declared.piece.Stmt.TheVariants.{Code}

-- the begin mark of some piece begins here
abbrev pub begins_piece : List ℕ → Bool
begins_piece text = begins_with (codes "/*!begin:re2c") text

-- no begin mark begins in the text, where this stands behind it
abbrev pub HasNoBegin : (text behind : List ℕ) → Type 0
HasNoBegin [] behind = Unit {0}
HasNoBegin (letter ∷ text) behind = (begins_piece (letter ∷ text ++ behind) ≡ false) × HasNoBegin text behind

-- nothing, or bytes whose first is none of a mark behind its slash, so that no mark goes on into them
abbrev pub EndsMarks : List ℕ → Type 0
EndsMarks [] = Unit {0}
EndsMarks (letter ∷ bytes) = list_any (λ other. other == letter) (codes "*!begin:re2c") ≡ false

-- none begins in a file's name
abbrev pub IsUnmarkedLine : Option LineMark → Type 0
IsUnmarkedLine None = Unit {0}
IsUnmarkedLine (Some mark) = HasNoBegin (escaped mark.file) (codes "\"")

-- none begins in an action, which begins with a brace
abbrev pub IsUnmarked : Stmt → Type 0
IsUnmarked (Code rule line action) =
    IsUnmarkedLine line × (begins_with (codes "{") action ≡ true) × HasNoBegin action (codes "\n")
IsUnmarked _ = Unit {0}
