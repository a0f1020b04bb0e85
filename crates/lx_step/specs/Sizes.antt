-- How many groups a rule of a piece may have.
use Rattle.std.specs.Prelude.{ℕ, ◌+◌, ◌/◌, max, List, [], ◌∷◌}
use Rattle.lx_ccode.specs.declared.piece.Stmt.{Stmt}
use Rattle.lx_ccode.specs.declared.piece.Stmt.TheVariants.{Count, End}

-- how many groups the statement names; a Count names as many as it says
abbrev pub groups_of : Stmt → ℕ
groups_of (Count groups) = groups
groups_of (End place register) = place / 2 + 1
groups_of _ = 0

-- the most groups that a statement names
abbrev pub groups_of_all : List Stmt → ℕ
groups_of_all [] = 0
groups_of_all (statement ∷ statements) = max (groups_of statement) (groups_of_all statements)
