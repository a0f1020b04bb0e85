-- How many groups statements name.
use Rattle.std.proofs.Common.{◌≡◌, ℕ, max, List, [], ◌∷◌, ◌++◌, arith}
use Rattle.lx_ccode.specs.declared.piece.Stmt.{Stmt}
use Rattle.lx_step.specs.Sizes.{groups_of_all}

pub groups_of_all-append : (front back : List Stmt) (groups : ℕ) → max groups (groups_of_all (front ++ back)) ≡ max (max groups (groups_of_all front)) (groups_of_all back)
groups_of_all-append [] back groups = omega arith
groups_of_all-append (statement ∷ front) back groups = let rest = groups_of_all-append front back groups in let none = groups_of_all-append front back 0 in omega (arith, rest, none)
