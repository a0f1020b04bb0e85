-- The code of operations, of edges, of the end in a state, and of the fallback.
use Rattle.std.specs.Prelude.{ℕ, suc, List, [], ◌∷◌, Bool, true, false, Option, Some, None}
use Rattle.lx_auto.specs.declared.automaton.Auto.{Auto}
use Rattle.lx_auto.specs.declared.ops.Op.{Op}
use Rattle.lx_auto.specs.declared.ops.Op.TheVariants as act
use Rattle.lx_ccode.specs.declared.piece.Stmt.{Stmt}
use Rattle.lx_ccode.specs.declared.piece.Stmt.TheVariants.{Accept as SaveAccept, Backup, Copy, Goto, MCopy, MSet, MUnset, Restore, Set, Unset}
use Rattle.lx_sequence.specs.ParallelCopies.{sequentialized}

-- an operation; the piece counts registers from 1 and histories from 0
abbrev pub op_code : Op → Stmt
op_code (act.Here reg) = Set (suc reg)
op_code (act.Null reg) = Unset (suc reg)
op_code (act.Copy reg source) = Copy (suc reg) (suc source)
op_code (act.MHere mreg) = MSet mreg
op_code (act.MNull mreg) = MUnset mreg
op_code (act.MCopy mreg source) = MCopy mreg source

-- operations one by one, and then the rest
abbrev pub ops_code : List Op → List Stmt → List Stmt
ops_code [] rest = rest
ops_code (op ∷ ops) rest = op_code op ∷ ops_code ops rest

-- operations of an automaton, which act at once: the register behind its last one is the spare, of each sort
abbrev pub list_code : Auto → List Op → List Stmt → List Stmt
list_code auto ops rest = ops_code (sequentialized auto.regs auto.mregs ops) rest

-- ---- the fallback

-- where the state with this number was saved last, the block comes next
pub record Choice : Type 0 where
  pub saved : ℕ
  pub block : ℕ

-- ---- edges and ends

-- the number by which a state is saved, if numbers are kept
abbrev pub saved_by : Option (ℕ → ℕ) → (state : ℕ) → Option ℕ
saved_by None state = None
saved_by (Some saved) state = Some (saved state)

-- an accepting state that is left is saved: the cursor in the marker, and a number, if one is kept
abbrev pub save_code : (saves : Bool) → (saved : Option ℕ) → List Stmt → List Stmt
save_code false saved rest = rest
save_code true None rest = Backup ∷ rest
save_code true (Some saved) rest = Backup ∷ SaveAccept saved ∷ rest

-- the end of a match in a state that accepts: its last operations, and then the rule's block
abbrev pub accept_code : Auto → List Op → (block : ℕ) → List Stmt
accept_code auto ops block = list_code auto ops (Goto block ∷ [])

-- the end of a match by a state that was saved
abbrev pub restore_code : (block : ℕ) → List Stmt
restore_code block = Restore ∷ Goto block ∷ []
