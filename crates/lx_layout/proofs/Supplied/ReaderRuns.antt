-- From the block of what reads a unit, however it does so.
use Rattle.std.specs.Prelude.{◌≡◌, ℕ, ◌<◌, ◌≤◌, List, [], ◌∷◌, length, Option, Some, None, IsSome, Bool, true, false, nat_lt, refl, slice_get}
use Rattle.std.proofs.Common.{sym, ◌∙◌, subst, arith, ltb-true, ltb-false}
use Rattle.lx_auto.specs.Bank.{Bank}
use Rattle.lx_auto.specs.declared.automaton.Auto.{Auto}
use Rattle.lx_ccode.specs.declared.piece.Piece.{Piece}
use Rattle.lx_ccode.specs.declared.piece.Stmt.{Stmt}
use Rattle.lx_ccode.specs.declared.piece.Stmt.TheVariants.{Goto, Peek}
use Rattle.lx_ccode.specs.Machine.{Answer}
use Rattle.lx_ccode.specs.Schedules.{Buffer}
use Rattle.lx_ccode.specs.Statements.{code_of, is_reading}
use Rattle.lx_layout.specs.Endings.{Ending}
use Rattle.lx_layout.specs.Halting.{Halting}
use Rattle.lx_layout.specs.RightInMode.{AreStoredBy}
use Rattle.lx_layout.specs.Supplied.{ServesEnd, ServesReader, at_end, by_jump, by_tests, itself}
use Rattle.lx_layout.specs.Supplies.{Reader, Supply, need_code}
use Rattle.lx_layout.specs.TreeCodes.{tree_code}
use Rattle.lx_layout.proofs.BlockLayouts.Questions.{FitsTable}
use Rattle.lx_layout.proofs.Supplied.CountedReaders.{itself_run, jump_run, tests_run}
use Rattle.lx_layout.proofs.Supplied.EndReaders.{fixed_run, stored_run, tried_run, unit_run}
use Rattle.lx_layout.proofs.Supplied.Readers.{IsReading, ReaderRun, any_block, stores_states}
use Rattle.lx_layout.proofs.Supplied.Refills.{Buffered}

-- what reads a unit has a block
pub reader_code : (supply : Supply) (halting : Halting) (endings : ℕ → Ending) (greatest : ℕ) (auto : Auto) (blocks : List (List Stmt)) (place : ℕ → ℕ) (saved : Option (ℕ → ℕ)) (rules : ℕ → ℕ) (fall : ℕ)
    (reader : Reader) (units block : ℕ) (Leads : (unit to : ℕ) → Type 0) (Ends : ℕ → Type 0)
    → ((unit to : ℕ) → Leads unit to → (next : List Stmt) × (slice_get blocks to ≡ Some next))
    → ServesReader supply halting endings greatest auto blocks place saved rules fall reader units block Leads Ends
    → (code : List Stmt) × (slice_get blocks block ≡ Some code)
reader_code supply halting endings greatest auto blocks place saved rules fall reader units block Leads Ends target (by_tests none tree next is row leads) =
    (need_code supply.stored reader units (Peek ∷ tree_code next tree), is)
reader_code supply halting endings greatest auto blocks place saved rules fall reader units block Leads Ends target (by_jump none to is leads) =
    (need_code supply.stored reader units (Goto to ∷ []), is)
reader_code supply halting endings greatest auto blocks place saved rules fall reader units block Leads Ends target (itself none no_check leads) =
    target 0 block (leads 0 (omega arith))
reader_code supply halting endings greatest auto blocks place saved rules fall reader units block Leads Ends target
    (at_end eof is tree next to asked own row leads apart leads_eof last) = (Peek ∷ tree_code next tree, own)

module _ (p : Piece) (x : List ℕ) (start : ℕ) (supply : Supply) (halting : Halting) (endings : ℕ → Ending) (greatest : ℕ) (auto : Auto) (place : ℕ → ℕ) (saved : Option (ℕ → ℕ)) (rules : ℕ → ℕ) (fall : ℕ)
    (at_limit : p.eof ≡ supply.eof) (stored : AreStoredBy supply.stored p) (fits : FitsTable supply.among p)
    (reader : Reader) (units block : ℕ) (Leads : (unit to : ℕ) → Type 0) (Ends : ℕ → Type 0)
    (target : (unit to : ℕ) → Leads unit to → (next : List Stmt) × (slice_get (code_of p.blocks) to ≡ Some next))
    (final : (to : ℕ) → Ends to → (next : List Stmt) × (slice_get (code_of p.blocks) to ≡ Some next))
    (pos mk ac : ℕ) (first : Option ℕ) (k : Bank) (cond : List ℕ) (small : (unit : ℕ) → slice_get x pos ≡ Some unit → unit ≤ greatest) where
  abbrev Going : (code : List Stmt) → (lim : ℕ) → (u kept : Option ℕ) → List Answer → Type 0
  Going code lim u kept q = ReaderRun p x start supply units Leads Ends pos mk ac first k cond code lim u kept q

  module _ (lim : ℕ) (u kept : Option ℕ) (q : List Answer) (buffer : Buffer) (b : Buffered (length x) start (stores_states p) lim q buffer) (le : pos ≤ lim)
      (there : supply.eof ≡ None → units ≡ 0 → pos < lim) (whole : IsReading p → IsSome supply.eof → supply.tries ≡ false → lim ≡ length x) where
    pub reader_run : (code : List Stmt) → slice_get (code_of p.blocks) block ≡ Some code
        → ServesReader supply halting endings greatest auto (code_of p.blocks) place saved rules fall reader units block Leads Ends → Going code lim u kept q
    reader_run code stands (itself none no_check leads) =
        itself_run p x start supply units block Leads Ends pos mk ac first k cond target (λ unit. unit ≤ greatest) small code stands no_check leads lim u
        kept q buffer b (there none no_check)
    reader_run code stands (by_jump none to is leads) =
        let same : need_code supply.stored reader units (Goto to ∷ []) ≡ code = cc in
        subst (λ c. Going c lim u kept q) same
        (jump_run p x start supply units block Leads Ends pos mk ac first k cond target (λ unit. unit ≤ greatest) small none reader stored fits to is leads lim u
        kept q buffer b le (there none))
    reader_run code stands (by_tests none tree above is row leads) =
        let same : need_code supply.stored reader units (Peek ∷ tree_code above tree) ≡ code = cc in
        subst (λ c. Going c lim u kept q) same
        (tests_run p x start supply units block Leads Ends pos mk ac first k cond target (λ unit. unit ≤ greatest) small none reader stored fits tree above is row
        leads lim u kept q buffer b le (there none))
    reader_run code stands (at_end eof is tree above to asked own row leads apart leads_eof ends) =
        let same : Peek ∷ tree_code above tree ≡ code = cc in
        subst (λ c. Going c lim u kept q) same (split (nat_lt pos lim) refl)
      where
        some : IsSome supply.eof
        some = subst (λ o. IsSome o) (sym is) refl

        by : pos ≡ lim → (t : Bool) → supply.tries ≡ t → (s : Option (Reader → ℕ)) → AreStoredBy s p
            → ServesEnd supply halting endings greatest auto (code_of p.blocks) place saved rules fall t s reader block asked Ends
            → Going (Peek ∷ tree_code above tree) lim u kept q
        by here false fixed s are ends =
            let next = final asked ends in
            fixed_run p x start supply units block Leads Ends pos mk ac first k cond eof is (at_limit ∙ is) fits tree above asked to own row apart lim u kept q
            buffer b here (whole (any_block is_reading p.blocks block (Peek ∷ tree_code above tree) own refl) some fixed) ends next.0 next.1
        by here true tries None are ends =
            let next = final ends.0 ends.1 in
            tried_run p x start supply units block Leads Ends pos mk ac first k cond eof is (at_limit ∙ is) fits tree above asked to own row apart lim u kept q
            buffer b here reader ends.0 ends.1 next.0 next.1 are ends.2
        by here true tries (Some number) are ends =
            let next = final ends.0 ends.1 in
            stored_run p x start supply units block Leads Ends pos mk ac first k cond eof is (at_limit ∙ is) fits tree above asked to own row apart lim u kept q
            buffer b here reader number are ends.0 ends.1 next.0 next.1 ends.2 ends.3

        split : (t : Bool) → nat_lt pos lim ≡ t → Going (Peek ∷ tree_code above tree) lim u kept q
        split true t =
            unit_run p x start supply units block Leads Ends pos mk ac first k cond eof is (at_limit ∙ is) fits tree above asked to own row apart target
            (λ unit. unit ≤ greatest) small leads leads_eof lim u kept q buffer b (ltb-true pos lim t)
        split false t =
            let past : lim ≤ pos = ltb-false pos lim t in
            by (omega (arith, past, le)) supply.tries refl supply.stored stored ends
