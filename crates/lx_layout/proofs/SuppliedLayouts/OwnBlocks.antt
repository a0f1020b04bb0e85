-- A scanner whose entry is that of a layout stays within the blocks of the layout, wherever these stand in a piece.
use Rattle.std.specs.Prelude.{◌≡◌, ◌⊎◌, ℕ, zero, suc, ◌+◌, ◌-◌, ◌<◌, ◌≤◌, Bool, false, List, [], ◌∷◌, length, Option, Some, None, Contains, refl, slice_get, slice_index_or, get_or}
use Rattle.std.proofs.Common.{inl, inr, sym, ap, ◌∙◌, subst, arith, true≢false}
use Rattle.std.proofs.lemmas.Option.{slice_get-get_or}
use Rattle.std.specs.List.{AllByRecursion, list_any}
use Rattle.lx_auto.specs.Automaton.{IsAuto}
use Rattle.lx_auto.specs.declared.automaton.Auto.{Auto}
use Rattle.lx_ccode.specs.Scanners.{IsOfScanner, StandsIn, begins, block_list, leads_to, led}
use Rattle.lx_ccode.specs.Statements.{code_of, is_state, targets}
use Rattle.lx_ccode.specs.States.{state_block, states_from}
use Rattle.lx_ccode.specs.Validity.{AreOnce}
use Rattle.lx_ccode.specs.declared.piece.CodeBlock.{CodeBlock}
use Rattle.lx_ccode.specs.declared.piece.Stmt.{Stmt}
use Rattle.lx_ccode.specs.declared.piece.Stmt.TheVariants.{State as Store}
use Rattle.lx_layout.specs.Endings.{Ending}
use Rattle.lx_layout.specs.Halting.{AreHalting, Halting}
use Rattle.lx_layout.specs.Layout.{StandsFrom}
use Rattle.lx_layout.specs.SuppliedLayout.{EachReader, JumpsTo, entry_by, entry_of, place_of, supplied_layout}
use Rattle.lx_layout.specs.Supplies.{Reader, Supply}
use Rattle.lx_dispatch.specs.TestTrees.{TestTree}
use Rattle.lx_layout.proofs.BlockLayouts.CodesInBlocks.{StandsFrom-get}
use Rattle.lx_layout.proofs.SuppliedLayouts.ClosedLayouts.{closed_jumps}
use Rattle.lx_layout.proofs.SuppliedLayouts.EachBlock.{EachFrom}
use Rattle.lx_layout.proofs.SuppliedLayouts.HeldLayouts.{accepts_any, edges_any, layout_holds, places_hold}
use Rattle.lx_layout.proofs.SuppliedLayouts.ReturnBlocks.{ComesBack, comes-sorts, none_head, state_returns}
use Rattle.lx_layout.proofs.SuppliedLayouts.StoredNothing.{layout_stores_nothing}
use Rattle.lx_layout.proofs.SuppliedLayouts.LeadingTrees.{LeadsWithin}

-- ---- one of many codes, and one of many

pub each_from-get : (P : ℕ → List Stmt → Type 0) (from : ℕ) (codes : List (List Stmt)) (k : ℕ) (code : List Stmt) → EachFrom P from codes
    → slice_get codes k ≡ Some code → P (from + k) code
each_from-get P from [] k code h is = absurd (cc)
each_from-get P from (first ∷ codes) zero code h is =
    let same : first ≡ code = cc in
    let e : from ≡ from + 0 = omega arith in
    subst (λ n. P n code) e (subst (λ l. P from l) same h.0)
each_from-get P from (first ∷ codes) (suc k) code h is =
    let e : suc from + k ≡ from + suc k = omega arith in
    subst (λ n. P n code) e (each_from-get P (suc from) codes k code h.1 is)

pub all-get : (P : List Stmt → Type 0) (codes : List (List Stmt)) (k : ℕ) (code : List Stmt) → AllByRecursion P codes → slice_get codes k ≡ Some code → P code
all-get P [] k code h is = absurd (cc)
all-get P (first ∷ codes) zero code h is = let same : first ≡ code = cc in subst P same h.0
all-get P (first ∷ codes) (suc k) code h is = all-get P codes k code h.1 is

pub all-contained : {A : Type 0} (P : A → Type 0) (xs : List A) (x : A) → AllByRecursion P xs → Contains xs x → P x
all-contained {A} P xs x h has = by xs has.0 has.1 has.2 h
  where
    by : (xs : List A) (k : ℕ) → k < length xs → slice_index_or xs k x ≡ x → AllByRecursion P xs → P x
    by [] k lt is h = absurd (omega (arith, lt))
    by (first ∷ xs) zero lt is h = subst P is h.0
    by (first ∷ xs) (suc k) lt is h = by xs k (omega (arith, lt)) is h.1

-- a test that no statement passes
pub none-contained : (test : Stmt → Bool) (code : List Stmt) (statement : Stmt) → list_any test code ≡ false → Contains code statement → test statement ≡ false
none-contained test code statement none has = by code has.0 has.1 has.2 none
  where
    by : (code : List Stmt) (k : ℕ) → k < length code → slice_index_or code k statement ≡ statement → list_any test code ≡ false → test statement ≡ false
    by [] k lt is none = absurd (omega (arith, lt))
    by (first ∷ code) zero lt is none = ap (λ s. test s) (sym is) ∙ (none_head (test first) (list_any test code) none).0
    by (first ∷ code) (suc k) lt is none = by code k (omega (arith, lt)) is (none_head (test first) (list_any test code) none).1

-- the block of a list of one, or of none
block_list-contains : (o : Option ℕ) (next : ℕ) → Contains (block_list o) next → o ≡ Some next
block_list-contains None next has = let lt = has.1 in absurd (omega (arith, lt))
block_list-contains (Some block) next has = all-contained (λ other. Some block ≡ Some other) (block ∷ []) next (refl, tt) has

-- ---- the layout

module _ (blocks : List CodeBlock) (supply : Supply) (halting : Halting) (endings : ℕ → Ending) (end_rule : Option ℕ) (greatest : ℕ)
    (trees : Reader → TestTree (Option ℕ)) (auto : Auto) (begin : ℕ) (formed : IsAuto auto) (are : EachReader LeadsWithin supply.eof greatest trees auto)
    (marked : AreHalting supply.eof end_rule greatest auto halting)
    (stands : StandsFrom (code_of blocks) begin (supplied_layout supply halting endings end_rule trees auto begin))
    (stored : (supply.stored ≡ None) ⊎ AreOnce (states_from 0 blocks)) where
  abbrev codes : List (List Stmt)
  codes = supplied_layout supply halting endings end_rule trees auto begin

  abbrev IsOwn : ℕ → Type 0
  IsOwn block = (begin ≤ block) × (block < begin + length (supplied_layout supply halting endings end_rule trees auto begin))

  -- the code of a block of the layout is one of its codes
  own_code : (block : ℕ) (code : List Stmt) → IsOwn block → slice_get (code_of blocks) block ≡ Some code
      → (k : ℕ) × (begin + k ≡ block) × (slice_get (supplied_layout supply halting endings end_rule trees auto begin) k ≡ Some code)
  own_code block code own here =
      let low = own.0 in
      let high = own.1 in
      let k : ℕ = block - begin in
      let at : begin + (block - begin) ≡ block = omega (arith, low) in
      let lt : block - begin < length codes = omega (arith, low, high) in
      let there : slice_get codes (block - begin) ≡ Some (get_or codes (block - begin) []) = slice_get-get_or codes (block - begin) [] lt in
      let stood : slice_get (code_of blocks) (begin + (block - begin)) ≡ Some (get_or codes (block - begin) []) =
      StandsFrom-get (code_of blocks) begin (block - begin) codes (get_or codes (block - begin) []) stands there in
      let same : Some (get_or codes (block - begin) []) ≡ Some code = sym stood ∙ ap (λ n. slice_get (code_of blocks) n) at ∙ here in
      (block - begin, at, there ∙ same)

  comes : EachFrom (ComesBack IsOwn) begin (supplied_layout supply halting endings end_rule trees auto begin)
  comes =
      layout_holds (ComesBack IsOwn) IsOwn (λ reader at. Unit {0}) (λ units. Unit {0}) (λ given edge. Unit {0}) (λ accept. Unit {0})
      (λ rule. Unit {0}) supply halting endings auto (comes-sorts IsOwn supply halting endings auto) end_rule greatest trees begin (λ block low lt. (low, lt))
      (inr marked) formed are (λ s. tt) (accepts_any auto.states) (edges_any auto.states) (λ s lt entered some. tt)
      (λ rule is. tt) (λ rule is. tt)

  -- states stand at blocks of the layout, and so does the entry
  pub places_own : (s : ℕ) → s < length auto.states → IsOwn (place_of supply halting end_rule trees auto begin s)
  places_own =
      places_hold (ComesBack IsOwn) IsOwn (λ reader at. Unit {0}) (λ units. Unit {0}) (λ given edge. Unit {0}) (λ accept. Unit {0})
      (λ rule. Unit {0}) supply halting endings auto (comes-sorts IsOwn supply halting endings auto) end_rule greatest trees begin (λ block low lt. (low, lt))
      (inr marked) formed are (λ s. tt) (accepts_any auto.states) (edges_any auto.states) (λ s lt entered some. tt)
      (λ rule is. tt) (λ rule is. tt)

  entry_own : IsOwn (entry_of supply halting end_rule trees auto begin)
  entry_own = by end_rule
    where
      by : (given : Option ℕ) → IsOwn (entry_by supply halting end_rule trees auto begin given)
      by None = places_own 0 formed.start
      by (Some rule) =
          let first = places_own 0 formed.start in
          let low = first.0 in
          let high = first.1 in
          (omega arith, omega (arith, low, high))

  -- ---- from block to block

  goes_on_own : (block : ℕ) (statement : Stmt) (next : ℕ) → IsOwn block → StandsIn blocks block statement → Contains (leads_to blocks statement) next → IsOwn next
  goes_on_own block statement next own there leads = by statement there.2 leads
    where
      found : (k : ℕ) × (begin + k ≡ block) × (slice_get (supplied_layout supply halting endings end_rule trees auto begin) k ≡ Some there.0)
      found = own_code block there.0 own there.1

      jumps : (statement : Stmt) → Contains there.0 statement → Contains (targets statement) next → IsOwn next
      jumps statement has is =
          all-contained IsOwn (targets statement) next
          (all-contained (JumpsTo IsOwn) there.0 statement
          (all-get (λ code. AllByRecursion (JumpsTo IsOwn) code) codes found.0 there.0
          (closed_jumps supply halting endings end_rule greatest trees auto begin formed are marked) found.2) has) is

      returns : (number : ℕ) → Contains there.0 (Store number) → state_block blocks number ≡ Some next → (supply.stored ≡ None) ⊎ AreOnce (states_from 0 blocks)
          → IsOwn next
      returns number has is (inl none) =
          let quiet = all-get (λ code. list_any is_state code ≡ false) codes found.0 there.0
          (layout_stores_nothing supply halting endings end_rule greatest trees auto begin formed are none) found.2 in
          absurd (true≢false (none-contained is_state there.0 (Store number) quiet has))
      returns number has is (inr once) =
          state_returns IsOwn blocks once block there.0 there.1 number has.0 own
          (subst (λ n. ComesBack IsOwn n there.0) found.1 (each_from-get (ComesBack IsOwn) begin codes found.0 there.0 comes found.2)) has.1 has.2 next is

      by : (statement : Stmt) → Contains there.0 statement → Contains (leads_to blocks statement) next → IsOwn next
      by (Store number) has is = returns number has (block_list-contains (state_block blocks number) next is) stored
      by _ has is = jumps _ has is

  pub scanner_own : (block : ℕ) → IsOfScanner blocks (entry_of supply halting end_rule trees auto begin) block → IsOwn block
  scanner_own block (begins) = entry_own
  scanner_own block (led statement of there leads) = goes_on_own _ statement block (scanner_own _ of) there leads

  -- each block of the scanner has a code of the layout
  pub scanner_code : (block : ℕ) → IsOfScanner blocks (entry_of supply halting end_rule trees auto begin) block → (code : List Stmt)
      → slice_get (code_of blocks) block ≡ Some code
      → (k : ℕ) × (begin + k ≡ block) × (slice_get (supplied_layout supply halting endings end_rule trees auto begin) k ≡ Some code)
  scanner_code block of code here = own_code block code (scanner_own block of) here
