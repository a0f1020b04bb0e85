-- The block of what reads a unit, where no unit stands at the end: by tests, by a jump, or itself, behind its check.
use Rattle.std.specs.Prelude.{◌≡◌, ℕ, suc, ◌+◌, ◌<◌, ◌≤◌, List, [], ◌∷◌, length, Option, Some, None, true, nat_lt, nat_eq, refl, slice_get, if◌then◌else◌}
use Rattle.std.proofs.Common.{ap, ◌∙◌, arith, lt-ltb}
use Rattle.lx_auto.specs.Bank.{Bank}
use Rattle.lx_ccode.specs.declared.piece.Piece.{Piece}
use Rattle.lx_ccode.specs.declared.piece.Stmt.{Stmt}
use Rattle.lx_ccode.specs.declared.piece.Stmt.TheVariants.{Goto, Peek}
use Rattle.lx_ccode.specs.Machine.{Answer, Machine, jump, peek}
use Rattle.lx_ccode.specs.Schedules.{Buffer}
use Rattle.lx_ccode.specs.Statements.{code_of}
use Rattle.lx_layout.specs.Layout.{StandsFrom}
use Rattle.lx_layout.specs.RightInMode.{AreStoredBy}
use Rattle.lx_layout.specs.Supplies.{Reader, Supply, need_code}
use Rattle.lx_dispatch.specs.TestTrees.{TestTree, picked}
use Rattle.lx_layout.specs.TreeCodes.{inner_blocks, tree_code}
use Rattle.lx_layout.proofs.BlockLayouts.Questions.{FitsTable}
use Rattle.lx_layout.proofs.BlockLayouts.TreeCodes.{tree_length}
use Rattle.lx_layout.proofs.Runs.PartialRuns.{LeadsIn, stays_in, step_in, then_in}
use Rattle.lx_layout.proofs.Runs.OperationSteps.{tree_run}
use Rattle.lx_layout.proofs.Supplied.BlockSorts.{lengths_of-block, lengths_of-row, lengths_within, other, reading, sort_of-need, sorts_of-inner}
use Rattle.lx_layout.proofs.Supplied.CheckFronts.{front_run}
use Rattle.lx_layout.proofs.Supplied.Readers.{ReaderRun, at, reads, stores_states, unit_there}
use Rattle.lx_layout.proofs.Supplied.Refills.{Buffered, Refilled-none}

module _ (p : Piece) (x : List ℕ) (start : ℕ) (supply : Supply) (units block : ℕ) (Leads : (unit to : ℕ) → Type 0) (Ends : ℕ → Type 0)
    (pos mk ac : ℕ) (first : Option ℕ) (k : Bank) (cond : List ℕ) where
  abbrev mach : (lim : ℕ) → (u kept : Option ℕ) → Machine
  mach lim u kept = at p x start supply units Leads Ends pos mk ac first k cond lim u kept

  abbrev Going : (code : List Stmt) → (lim : ℕ) → (u kept : Option ℕ) → List Answer → Type 0
  Going code lim u kept q = ReaderRun p x start supply units Leads Ends pos mk ac first k cond code lim u kept q

  abbrev Buffers : (lim : ℕ) → List Answer → Buffer → Type 0
  Buffers lim q buffer = Buffered (length x) start (stores_states p) lim q buffer

  -- the unit that is read
  pub peek_run : (rest : List Stmt) (lim : ℕ) (u kept : Option ℕ) (q : List Answer) (unit : ℕ) → slice_get x pos ≡ Some unit → pos < lim
      → LeadsIn p x start 1 (Peek ∷ rest) (mach lim u kept) q rest (mach lim (Some unit) kept) q
  peek_run rest lim u kept q unit is lt =
      let before : nat_lt pos lim ≡ true = lt-ltb pos lim lt in
      step_in p x start {s = Peek} {b = rest} {m = mach lim u kept} {m' = mach lim (Some unit) kept} {q = q}
      (ap (λ t. peek (if t then slice_get x pos else (if nat_eq pos lim then p.eof else None)) rest (mach lim u kept) q) before
      ∙ ap (λ o. peek o rest (mach lim u kept) q) is) (omega arith)

  -- each unit leads to a block
  module _ (target : (unit to : ℕ) → Leads unit to → (next : List Stmt) × (slice_get (code_of p.blocks) to ≡ Some next))
      (leads_on : ℕ → Type 0) (small : (unit : ℕ) → slice_get x pos ≡ Some unit → leads_on unit) where
    -- the block of the reader is one to which each unit leads
    pub itself_run : (code : List Stmt) → slice_get (code_of p.blocks) block ≡ Some code → units ≡ 0 → ((unit : ℕ) → leads_on unit → Leads unit block)
        → (lim : ℕ) (u kept : Option ℕ) (q : List Answer) (buffer : Buffer) → Buffers lim q buffer → pos < lim → Going code lim u kept q
    itself_run code stands no_check leads lim u kept q buffer b lt =
        let unit = unit_there x pos lim lt b.within in
        let n = lengths_within (code_of p.blocks) in
        reads unit.0 block code lim u kept q buffer 0 unit.1 lt (λ none. omega (arith, no_check, lt)) (leads unit.0 (small unit.0 unit.1)) stands b
        (Refilled-none lim q) (stays_in p x start 0 code (mach lim u kept) q) (omega (arith, n))

    module _ (none : supply.eof ≡ None) (reader : Reader) (stored : AreStoredBy supply.stored p) (fits : FitsTable supply.among p) where
      -- it jumps there
      pub jump_run : (to : ℕ) → slice_get (code_of p.blocks) block ≡ Some (need_code supply.stored reader units (Goto to ∷ []))
          → ((unit : ℕ) → leads_on unit → Leads unit to) → (lim : ℕ) (u kept : Option ℕ) (q : List Answer) (buffer : Buffer) → Buffers lim q buffer
          → pos ≤ lim → (units ≡ 0 → pos < lim) → Going (need_code supply.stored reader units (Goto to ∷ [])) lim u kept q
      jump_run to stands leads lim u kept q buffer b le there =
          front_run p x start supply units block Leads Ends pos mk ac first k cond supply.stored reader stored none units refl (Goto to ∷ []) stands lim u
          kept q buffer b le there
          (λ lim' u' kept' q' buffer' steps lt enough b' r led room_left.
          let unit = unit_there x pos lim' lt b'.within in
          let goal : Leads unit.0 to = leads unit.0 (small unit.0 unit.1) in
          let next = target unit.0 to goal in
          let n = lengths_within (code_of p.blocks) in
          let own = lengths_of-block other (code_of p.blocks) block (need_code supply.stored reader units (Goto to ∷ [])) stands
          (sort_of-need supply.stored reader units (Goto to ∷ [])) in
          let one = step_in p x start {s = Goto to} {b = []} {b' = next.0} {m = mach lim' u' kept'} {m' = mach lim' u' kept'} {q = q'}
          (ap (λ o. jump o (mach lim' u' kept') q') next.1) (omega arith) in
          reads unit.0 to next.0 lim' u' kept' q' buffer' (steps + 1) unit.1 lt (λ none. enough) goal next.1 b' r
          (then_in p x start (steps + 1) led one (omega arith)) (omega (arith, n, own, room_left)))

      -- it tests the unit
      pub tests_run : (tree : TestTree ℕ) (above : ℕ)
          → slice_get (code_of p.blocks) block ≡ Some (need_code supply.stored reader units (Peek ∷ tree_code above tree))
          → StandsFrom (code_of p.blocks) above (inner_blocks above tree) → ((unit : ℕ) → leads_on unit → Leads unit (picked supply.among tree unit))
          → (lim : ℕ) (u kept : Option ℕ) (q : List Answer) (buffer : Buffer) → Buffers lim q buffer → pos ≤ lim → (units ≡ 0 → pos < lim)
          → Going (need_code supply.stored reader units (Peek ∷ tree_code above tree)) lim u kept q
      tests_run tree above stands row leads lim u kept q buffer b le there =
          front_run p x start supply units block Leads Ends pos mk ac first k cond supply.stored reader stored none units refl
          (Peek ∷ tree_code above tree) stands lim u kept q buffer b le there
          (λ lim' u' kept' q' buffer' steps lt enough b' r led room_left.
          let unit = unit_there x pos lim' lt b'.within in
          let goal : Leads unit.0 (picked supply.among tree unit.0) = leads unit.0 (small unit.0 unit.1) in
          let next = target unit.0 (picked supply.among tree unit.0) goal in
          let n = lengths_within (code_of p.blocks) in
          let own = lengths_of-block reading (code_of p.blocks) block (need_code supply.stored reader units (Peek ∷ tree_code above tree)) stands
          (sort_of-need supply.stored reader units (Peek ∷ tree_code above tree)) in
          let inner = lengths_of-row other (code_of p.blocks) above (inner_blocks above tree) row (sorts_of-inner above tree) in
          let one = peek_run (tree_code above tree) lim' u' kept' q' unit.0 unit.1 lt in
          let tests = tree_run p x start supply.among fits tree above unit.0 next.0 (mach lim' (Some unit.0) kept') q' refl row next.1 in
          reads unit.0 (picked supply.among tree unit.0) next.0 lim' (Some unit.0) kept' q' buffer' (steps + suc (tree_length above tree)) unit.1 lt (λ none. enough) goal
          next.1 b' r
          (then_in p x start (steps + suc (tree_length above tree)) led (then_in p x start (suc (tree_length above tree)) one tests (omega arith))
          (omega arith)) (omega (arith, n, own, inner, room_left)))
