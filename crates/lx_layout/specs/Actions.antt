-- Where actions stand in a piece.
use Rattle.std.specs.Prelude.{◌≡◌, ℕ, Some, None}
use Rattle.lx_ccode.specs.declared.piece.Stmt.{Stmt}
use Rattle.lx_ccode.specs.declared.piece.Stmt.TheVariants.{Code, Jump}
use Rattle.lx_layout.specs.Endings.{Ending}

-- an action is the one of its rule, with its line; only a rule without one jumps
abbrev pub IsOwnAction : (endings : ℕ → Ending) → Stmt → Type 0
IsOwnAction endings (Code rule line action) = ((endings rule).action ≡ Some action) × (line ≡ (endings rule).line)
IsOwnAction endings (Jump cond rule) = (endings rule).action ≡ None
IsOwnAction endings _ = Unit {0}
