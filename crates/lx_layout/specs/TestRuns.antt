-- What the machine does from a block that reads a unit and tests it.
use Rattle.std.specs.Prelude.{◌≡◌, ℕ, ◌≤◌, Bool, true, false, List, Some}
use Rattle.lx_ccode.specs.declared.piece.Piece.{Piece}
use Rattle.lx_ccode.specs.declared.piece.Stmt.{Stmt}
use Rattle.lx_ccode.specs.declared.piece.Stmt.TheVariants.{IfIs, IfSet, IfUnit, Switch}
use Rattle.lx_ccode.specs.Machine.{Answer, Machine, goes_on}
use Rattle.lx_ccode.specs.Traces.{count_made, trace}

-- the statement tests a unit
abbrev pub is_test : Stmt → Bool
is_test (IfUnit greatest block) = true
is_test (IfIs unit block) = true
is_test (IfSet set block) = true
is_test (Switch cases last) = true
is_test _ = false

-- the statement asks whether a unit is one unit, or in a set
abbrev pub is_first_test : Stmt → Bool
is_first_test (IfIs unit block) = true
is_first_test (IfSet set block) = true
is_first_test _ = false

-- the statement asks whether a unit is at most another one, or goes by cases
abbrev pub is_other_test : Stmt → Bool
is_other_test (IfUnit greatest block) = true
is_other_test (Switch cases last) = true
is_other_test _ = false

-- From its code on the machine reads this unit and comes to other code, and changes nothing else. It tests a unit at most so often before.
pub record ComesTo (piece : Piece) (stream : List ℕ) (code : List Stmt) (machine : Machine) (answers : List Answer) (unit most : ℕ) (to : List Stmt) : Type 0 where
  pub steps : ℕ
  pub comes : (trace piece stream steps code machine answers).next ≡ goes_on to (record machine { unit = Some unit }) answers
  pub tests : count_made is_test (trace piece stream steps code machine answers).made ≤ most
