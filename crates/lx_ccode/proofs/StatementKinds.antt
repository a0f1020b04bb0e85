-- The last statement of a list.
use Rattle.std.proofs.Common.{[], ◌+◌, ◌∷◌, ◌≡◌, List, Some, ap, arith, length, suc, zero, ℕ}
use Rattle.std.proofs.lemmas.Option.{same_Some}
use Rattle.std.specs.List.{slice_get}
use Rattle.lx_ccode.specs.declared.piece.Stmt.{Stmt}
use Rattle.lx_ccode.specs.Statements.{ends_in_code, is_code}

pub ends_in_code-last : (statements : List Stmt) (index : ℕ) (last : Stmt) → index + 1 ≡ length statements → Some last ≡ slice_get statements index → is_code last ≡ ends_in_code statements
ends_in_code-last [] index last size is = absurd (omega arith)
ends_in_code-last (statement ∷ []) zero last size is = ap is_code (same_Some last statement is)
ends_in_code-last (statement ∷ []) (suc index) last size is = absurd (omega arith)
ends_in_code-last (statement ∷ next ∷ statements) zero last size is = absurd (omega arith)
ends_in_code-last (statement ∷ next ∷ statements) (suc index) last size is = ends_in_code-last (next ∷ statements) index last (omega arith) is
