-- Where code leads, if each of its statements leads to blocks of some sort alone: what is named in it is of that sort.
use Rattle.std.specs.Prelude.{ℕ, zero, suc, Bool, true, false, List, [], ◌∷◌, Option, Some, None}
use Rattle.std.specs.List.{AllByRecursion}
use Rattle.lx_auto.specs.declared.automaton.Auto.{Auto}
use Rattle.lx_auto.specs.declared.automaton.Edge.{Edge}
use Rattle.lx_auto.specs.declared.automaton.State.{State}
use Rattle.lx_auto.specs.declared.ops.Op.{Op}
use Rattle.lx_ccode.specs.declared.piece.Stmt.{Stmt}
use Rattle.lx_ccode.specs.declared.piece.Stmt.TheVariants.{Goto, Skip}
use Rattle.lx_layout.specs.Codes.{Choice, accept_code, list_code, ops_code, restore_code, save_code}
use Rattle.lx_layout.specs.Fallback.{edge_code, fallback_code}
use Rattle.lx_layout.specs.Halting.{Halting, saves_on}
use Rattle.lx_layout.specs.SuppliedLayout.{JumpsTo}
use Rattle.lx_layout.specs.Supplies.{Reader, end_test, need_code, try_code}
use Rattle.lx_sequence.specs.ParallelCopies.{sequentialized}

module _ (R : ℕ → Type 0) where
  -- each statement of the code leads to blocks of the sort
  abbrev pub Leads : List Stmt → Type 0
  Leads code = AllByRecursion (JumpsTo R) code

  leads-ops : (ops : List Op) (rest : List Stmt) → Leads (ops_code ops rest) → Leads rest
  leads-ops [] rest h = h
  leads-ops (op ∷ ops) rest h = leads-ops ops rest h.1

  leads-list : (auto : Auto) (ops : List Op) (rest : List Stmt) → Leads (list_code auto ops rest) → Leads rest
  leads-list auto ops rest h = leads-ops (sequentialized auto.regs auto.mregs ops) rest h

  leads-save : (saves : Bool) (saved : Option ℕ) (rest : List Stmt) → Leads (save_code saves saved rest) → Leads rest
  leads-save false saved rest h = h
  leads-save true None rest h = h.1
  leads-save true (Some saved) rest h = h.1.1

  -- an edge leads to the place of its state
  pub leads-edge : (halting : Halting) (auto : Auto) (given : State) (saved : Option ℕ) (edge : Edge) (block : ℕ)
      → Leads (edge_code halting auto given saved edge block) → R block
  leads-edge halting auto given saved edge block h =
      let passes : Leads (Skip ∷ Goto block ∷ []) = leads-list auto edge.ops (Skip ∷ Goto block ∷ [])
      (leads-list auto given.leave (list_code auto edge.ops (Skip ∷ Goto block ∷ []))
      (leads-save (saves_on halting given edge) saved (list_code auto given.leave (list_code auto edge.ops (Skip ∷ Goto block ∷ []))) h)) in
      passes.1.0.0

  -- the end in a state that accepts leads to the rule's block
  pub leads-accept : (auto : Auto) (ops : List Op) (block : ℕ) → Leads (accept_code auto ops block) → R block
  leads-accept auto ops block h = let last : Leads (Goto block ∷ []) = leads-list auto ops (Goto block ∷ []) h in last.0.0

  pub leads-restore : (block : ℕ) → Leads (restore_code block) → R block
  leads-restore block h = h.1.0.0

  -- behind a check
  pub leads-need : (stored : Option (Reader → ℕ)) (reader : Reader) (units : ℕ) (rest : List Stmt)
      → Leads (need_code stored reader units rest) → Leads rest
  leads-need stored reader zero rest h = h
  leads-need None reader (suc units) rest h = h.1
  leads-need (Some number) reader (suc units) rest h = h.1.1

  -- where the unit at the end was read
  pub leads-end_test : (asked to : ℕ) → Leads (end_test asked to) → R asked × R to
  leads-end_test asked to h = (h.0.0, h.1.0.0)

  -- where nothing was added
  pub leads-try : (stored : Option (Reader → ℕ)) (reader : Reader) (block end : ℕ) → Leads (try_code stored reader block end) → R end
  leads-try None reader block end h = h.1.0.0
  leads-try (Some number) reader block end h = h.1.1.0.0

  -- the fallback leads to the block of each choice
  pub leads-fallback : (leaves : Bool) (choices : List Choice) → Leads (fallback_code leaves choices)
      → AllByRecursion (λ (choice : Choice). R choice.block) choices
  leads-fallback leaves [] h = tt
  leads-fallback true (choice ∷ []) h = (h.0.0, tt)
  leads-fallback false (choice ∷ []) h = (h.0.0, tt)
  leads-fallback leaves (choice ∷ next ∷ choices) h = (h.0.0, leads-fallback leaves (next ∷ choices) h.1)
