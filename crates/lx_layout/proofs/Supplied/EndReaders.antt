-- The block of what reads a unit, where a unit stands at the end: a unit is read, or the stream ends, or a refill is asked.
use Rattle.std.specs.Prelude.{◌≡◌, ◌≢◌, ℕ, suc, ◌+◌, ◌*◌, ◌<◌, ◌≤◌, List, [], ◌∷◌, length, Option, Some, None, Bool, true, false, nat_le, nat_lt, nat_eq, refl, slice_get, if◌then◌else◌}
use Rattle.std.proofs.Common.{inl, sym, ap, ◌∙◌, subst, arith, eq-eqb, eqb-true, le-leb, leb-true, leb-false, true≢false}
use Rattle.std.proofs.lemmas.Bool.{lt-leb}
use Rattle.lx_auto.specs.Bank.{Bank}
use Rattle.lx_ccode.specs.declared.piece.Piece.{Piece}
use Rattle.lx_ccode.specs.declared.piece.Stmt.{Stmt}
use Rattle.lx_ccode.specs.declared.piece.Stmt.TheVariants.{Goto, IfEnd, Peek, State, Try}
use Rattle.lx_ccode.specs.Machine.{Answer, Machine, Refill, choose, code_at, jump, left, more, no_more, peek, refilled, try, unanswered, units_of_all}
use Rattle.lx_ccode.specs.Runs.{ended as told}
use Rattle.lx_ccode.specs.Schedules.{AreLegalAnswers, Buffer, after_refill, after_refills}
use Rattle.lx_ccode.specs.Statements.{code_of, statement_count}
use Rattle.lx_layout.specs.Layout.{StandsFrom}
use Rattle.lx_layout.specs.RightInMode.{AreStoredBy}
use Rattle.lx_layout.specs.Supplies.{Reader, Supply, back_code, end_test, try_code}
use Rattle.lx_dispatch.specs.TestTrees.{TestTree, picked}
use Rattle.lx_layout.specs.TreeCodes.{inner_blocks, tree_code}
use Rattle.lx_layout.proofs.BlockLayouts.Questions.{FitsTable}
use Rattle.lx_layout.proofs.BlockLayouts.TreeCodes.{tree_length}
use Rattle.lx_layout.proofs.Runs.PartialRuns.{LeadsIn, end_in, last_in, step_in, then_in, widen}
use Rattle.lx_layout.proofs.Runs.OperationSteps.{tree_run}
use Rattle.lx_layout.proofs.Supplied.BlockSorts.{asking, lengths_of, lengths_of-block, lengths_of-row, lengths_within, other, passing, reading, sorts_of-inner, testing}
use Rattle.lx_layout.proofs.Supplied.CountedReaders.{peek_run}
use Rattle.lx_layout.proofs.Supplied.Readers.{ReaderRun, again, at, ended, reads, stops, stores_states, unit_there}
use Rattle.lx_layout.proofs.Supplied.Refills.{Buffered, Refilled, Refilled-none, after_refills-limit, refills_of_none, refills_within}
use Rattle.lx_layout.proofs.Supplied.StoredStates.{state_block-try}

module _ (p : Piece) (x : List ℕ) (start : ℕ) (supply : Supply) (units block : ℕ) (Leads : (unit to : ℕ) → Type 0) (Ends : ℕ → Type 0)
    (pos mk ac : ℕ) (first : Option ℕ) (k : Bank) (cond : List ℕ) where
  abbrev mach : (lim : ℕ) → (u kept : Option ℕ) → Machine
  mach lim u kept = at p x start supply units Leads Ends pos mk ac first k cond lim u kept

  abbrev Going : (code : List Stmt) → (lim : ℕ) → (u kept : Option ℕ) → List Answer → Type 0
  Going code lim u kept q = ReaderRun p x start supply units Leads Ends pos mk ac first k cond code lim u kept q

  abbrev Buffers : (lim : ℕ) → List Answer → Buffer → Type 0
  Buffers lim q buffer = Buffered (length x) start (stores_states p) lim q buffer

  -- the unit at the end is read and then told apart
  module _ (eof : ℕ) (is : supply.eof ≡ Some eof) (at_limit : p.eof ≡ Some eof)
      (fits : FitsTable supply.among p) (tree : TestTree ℕ) (above asked to : ℕ)
      (stands : slice_get (code_of p.blocks) block ≡ Some (Peek ∷ tree_code above tree))
      (row : StandsFrom (code_of p.blocks) above (inner_blocks above tree))
      (apart : slice_get (code_of p.blocks) (picked supply.among tree eof) ≡ Some (end_test asked to)) where
    -- with the tests and the test of the end there is room for what asks and for what passes the unit
    has_room : suc (tree_length above tree) + 2 + lengths_of asking (code_of p.blocks) + lengths_of passing (code_of p.blocks) ≤ statement_count p.blocks
    has_room =
        let n = lengths_within (code_of p.blocks) in
        let own = lengths_of-block reading (code_of p.blocks) block (Peek ∷ tree_code above tree) stands refl in
        let inner = lengths_of-row other (code_of p.blocks) above (inner_blocks above tree) row (sorts_of-inner above tree) in
        let test = lengths_of-block testing (code_of p.blocks) (picked supply.among tree eof) (end_test asked to) apart refl in
        omega (arith, n, own, inner, test)

    -- ---- a unit is there
    pub unit_run : (target : (unit to : ℕ) → Leads unit to → (next : List Stmt) × (slice_get (code_of p.blocks) to ≡ Some next))
        (leads_on : ℕ → Type 0) → ((unit : ℕ) → slice_get x pos ≡ Some unit → leads_on unit)
        → ((unit : ℕ) → leads_on unit → unit ≢ eof → Leads unit (picked supply.among tree unit)) → (leads_on eof → Leads eof to)
        → (lim : ℕ) (u kept : Option ℕ) (q : List Answer) (buffer : Buffer) → Buffers lim q buffer → pos < lim
        → Going (Peek ∷ tree_code above tree) lim u kept q
    unit_run target leads_on small leads leads_eof lim u kept q buffer b lt = by (nat_eq unit.0 eof) refl
      where
        unchecked : supply.eof ≡ None → pos + units ≤ lim
        unchecked none = absurd (let e = sym is ∙ none in cc)

        unit : (unit : ℕ) × (slice_get x pos ≡ Some unit)
        unit = unit_there x pos lim lt b.within

        peeked : LeadsIn p x start 1 (Peek ∷ tree_code above tree) (mach lim u kept) q (tree_code above tree) (mach lim (Some unit.0) kept) q
        peeked = peek_run p x start supply units block Leads Ends pos mk ac first k cond (tree_code above tree) lim u kept q unit.0 unit.1 lt

        by : (t : Bool) → nat_eq unit.0 eof ≡ t → Going (Peek ∷ tree_code above tree) lim u kept q
        by true e =
            let same : unit.0 ≡ eof = eqb-true unit.0 eof e in
            let goal : Leads unit.0 to = subst (λ n. Leads n to) (sym same) (leads_eof (subst leads_on same (small unit.0 unit.1))) in
            let next = target unit.0 to goal in
            let tests = tree_run p x start supply.among fits tree above unit.0 (end_test asked to) (mach lim (Some unit.0) kept) q refl row
            (ap (λ n. slice_get (code_of p.blocks) (picked supply.among tree n)) same ∙ apart) in
            let no : nat_le lim pos ≡ false = lt-leb lim pos lt in
            let no_end = step_in p x start {s = IfEnd asked} {b = Goto to ∷ []} {b' = Goto to ∷ []} {m = mach lim (Some unit.0) kept}
            {m' = mach lim (Some unit.0) kept} {q = q}
            (ap (λ t. choose t (code_at p.blocks (Some asked)) (Goto to ∷ []) (mach lim (Some unit.0) kept) q) no) (omega arith) in
            let goes = step_in p x start {s = Goto to} {b = []} {b' = next.0} {m = mach lim (Some unit.0) kept} {m' = mach lim (Some unit.0) kept} {q = q}
            (ap (λ o. jump o (mach lim (Some unit.0) kept) q) next.1) (omega arith) in
            reads unit.0 to next.0 lim (Some unit.0) kept q buffer (suc (tree_length above tree) + 2) unit.1 lt unchecked goal next.1 b
            (Refilled-none lim q)
            (then_in p x start (suc (tree_length above tree) + 2) peeked
            (then_in p x start (tree_length above tree + 2) tests (then_in p x start 2 no_end goes (omega arith)) (omega arith)) (omega arith))
            (omega (arith, has_room))
        by false e =
            let ne : unit.0 ≢ eof = λ z. true≢false (sym (eq-eqb unit.0 eof z) ∙ e) in
            let goal : Leads unit.0 (picked supply.among tree unit.0) = leads unit.0 (small unit.0 unit.1) ne in
            let next = target unit.0 (picked supply.among tree unit.0) goal in
            let tests = tree_run p x start supply.among fits tree above unit.0 next.0 (mach lim (Some unit.0) kept) q refl row next.1 in
            reads unit.0 (picked supply.among tree unit.0) next.0 lim (Some unit.0) kept q buffer (suc (tree_length above tree)) unit.1 lt unchecked
            goal next.1 b (Refilled-none lim q) (then_in p x start (suc (tree_length above tree)) peeked tests (omega arith)) (omega (arith, has_room))

    -- ---- at the limit

    module _ (lim : ℕ) (u kept : Option ℕ) (q : List Answer) (buffer : Buffer) (b : Buffers lim q buffer) (here : pos ≡ lim) where
      -- to what stands for the end
      asked_run : (next : List Stmt) → slice_get (code_of p.blocks) asked ≡ Some next
          → LeadsIn p x start (suc (tree_length above tree) + 1) (Peek ∷ tree_code above tree) (mach lim u kept) q next (mach lim (Some eof) kept) q
      asked_run next is =
          let no : nat_lt pos lim ≡ false = lt-leb (suc pos) lim (omega arith) in
          let yes : nat_eq pos lim ≡ true = eq-eqb pos lim here in
          let peeked = step_in p x start {s = Peek} {b = tree_code above tree} {m = mach lim u kept} {m' = mach lim (Some eof) kept} {q = q}
          (ap (λ t. peek (if t then slice_get x pos else (if nat_eq pos lim then p.eof else None)) (tree_code above tree) (mach lim u kept) q) no
          ∙ ap (λ t. peek (if t then p.eof else None) (tree_code above tree) (mach lim u kept) q) yes
          ∙ ap (λ o. peek o (tree_code above tree) (mach lim u kept) q) at_limit) (omega arith) in
          let tests = tree_run p x start supply.among fits tree above eof (end_test asked to) (mach lim (Some eof) kept) q refl row apart in
          let past : nat_le lim pos ≡ true = le-leb lim pos (omega arith) in
          let ends_here = step_in p x start {s = IfEnd asked} {b = Goto to ∷ []} {b' = next} {m = mach lim (Some eof) kept} {m' = mach lim (Some eof) kept}
          {q = q}
          (ap (λ t. choose t (code_at p.blocks (Some asked)) (Goto to ∷ []) (mach lim (Some eof) kept) q) past
          ∙ ap (λ o. jump o (mach lim (Some eof) kept) q) is) (omega arith) in
          then_in p x start (suc (tree_length above tree) + 1) peeked
          (then_in p x start (tree_length above tree + 1) tests ends_here (omega arith)) (omega arith)

      -- where a refill is tried, behind some steps more, the match ends in a block, or the unit is read anew
      module _ (end : ℕ) (ends : Ends end) (next : List Stmt) (is_end : slice_get (code_of p.blocks) end ≡ Some next) (steps : ℕ) (kept1 : Option ℕ)
          (room : suc (tree_length above tree) + 1 + steps + 2 ≤ statement_count p.blocks)
          (to_try : LeadsIn p x start (suc (tree_length above tree) + 1 + steps) (Peek ∷ tree_code above tree) (mach lim u kept) q
          (Try block ∷ Goto end ∷ []) (mach lim (Some eof) kept1) q)
          (comes : (fs : List Refill) (q' : List Answer) → q ≡ left fs ∷ q' → AreLegalAnswers (length x) start (stores_states p) buffer (left fs ∷ q')
          → Going (Peek ∷ tree_code above tree) lim u kept q) where
        try_run : (given : List Answer) → q ≡ given → AreLegalAnswers (length x) start (stores_states p) buffer given
            → Going (Peek ∷ tree_code above tree) lim u kept q
        try_run [] e legal =
            let one = last_in p x start {s = Try block} {b = Goto end ∷ []} {m = mach lim (Some eof) kept1} {m' = mach lim (Some eof) kept1} {q = q}
            (ap (λ a. try p.blocks (code_at p.blocks (Some block)) (Goto end ∷ []) (mach lim (Some eof) kept1) a) e) in
            stops (told unanswered (mach lim (Some eof) kept1)) (inl refl)
            (end_in p x start (4 * statement_count p.blocks) to_try one (omega (arith, room)))
        try_run (refilled (more dropped added) ∷ q') e legal =
            let one = step_in p x start {s = Try block} {b = Goto end ∷ []} {b' = Peek ∷ tree_code above tree} {m = mach lim (Some eof) kept1}
            {m' = mach (lim + added) (Some eof) kept1} {q = q} {q' = q'}
            (ap (λ a. try p.blocks (code_at p.blocks (Some block)) (Goto end ∷ []) (mach lim (Some eof) kept1) a) e
            ∙ ap (λ o. jump o (mach (lim + added) (Some eof) kept1) q') stands) (omega arith) in
            let fewer : length q ≡ suc (length q') = ap length e in
            again (lim + added) (Some eof) kept1 q' (after_refill buffer (more dropped added)) (omega (arith, legal.0.2)) (omega (arith, fewer))
            (record { within = omega (arith, legal.0.3, b.limit); limit = omega (arith, b.limit); legal = legal.1 })
            (subst (λ a. Refilled lim a (lim + added) q') (sym e)
            (record { grows = omega arith; fewer = omega arith; same = omega arith }))
            (then_in p x start (statement_count p.blocks) to_try one (omega (arith, room)))
        try_run (refilled no_more ∷ q') e legal =
            let one = step_in p x start {s = Try block} {b = Goto end ∷ []} {b' = Goto end ∷ []} {m = mach lim (Some eof) kept1}
            {m' = mach lim (Some eof) kept1} {q = q} {q' = q'}
            (ap (λ a. try p.blocks (code_at p.blocks (Some block)) (Goto end ∷ []) (mach lim (Some eof) kept1) a) e) (omega arith) in
            let goes = step_in p x start {s = Goto end} {b = []} {b' = next} {m = mach lim (Some eof) kept1} {m' = mach lim (Some eof) kept1} {q = q'}
            (ap (λ o. jump o (mach lim (Some eof) kept1) q') is_end) (omega arith) in
            ended end next lim (Some eof) kept1 q' (here ∙ sym b.limit ∙ legal.0) ends is_end
            (then_in p x start (statement_count p.blocks) to_try (then_in p x start 2 one goes (omega arith)) (omega (arith, room)))
        try_run (left fs ∷ q') e legal = comes fs q' e legal

      -- ---- by what stands for the end

      -- the match ends
      pub fixed_run : lim ≡ length x → Ends asked → (next : List Stmt) → slice_get (code_of p.blocks) asked ≡ Some next
          → Going (Peek ∷ tree_code above tree) lim u kept q
      fixed_run whole ends next is =
          ended asked next lim (Some eof) kept q (here ∙ whole) ends is (widen p x start (statement_count p.blocks) (asked_run next is) (omega (arith, has_room)))

      -- a refill is tried, in a piece that stores no states
      pub tried_run : (reader : Reader) (end : ℕ) → Ends end → (next : List Stmt) → slice_get (code_of p.blocks) end ≡ Some next → stores_states p ≡ false
          → slice_get (code_of p.blocks) asked ≡ Some (try_code None reader block end) → Going (Peek ∷ tree_code above tree) lim u kept q
      tried_run reader end ends next is_end stateless asks =
          let own = lengths_of-block asking (code_of p.blocks) asked (Try block ∷ Goto end ∷ []) asks refl in
          let led = asked_run (Try block ∷ Goto end ∷ []) asks in
          try_run end ends next is_end 0 kept (omega (arith, own, has_room)) (widen p x start (suc (tree_length above tree) + 1 + 0) led (omega arith))
          (λ fs q' e legal. absurd (true≢false (sym legal.1 ∙ stateless))) q refl b.legal

      -- the state is stored before
      module _ (reader : Reader) (number : Reader → ℕ) (once : AreStoredBy (Some number) p) (end : ℕ) (ends : Ends end) (next : List Stmt)
          (is_end : slice_get (code_of p.blocks) end ≡ Some next) (asks : slice_get (code_of p.blocks) asked ≡ Some (try_code (Some number) reader block end))
          (comes_to : slice_get (code_of p.blocks) (suc asked) ≡ Some (back_code block end)) where
        room : suc (tree_length above tree) + 5 ≤ statement_count p.blocks
        room =
            let own = lengths_of-block asking (code_of p.blocks) asked (State (number reader) ∷ Try block ∷ Goto end ∷ []) asks refl in
            omega (arith, own, has_room)

        to_try : LeadsIn p x start (suc (tree_length above tree) + 1 + 1) (Peek ∷ tree_code above tree) (mach lim u kept) q (Try block ∷ Goto end ∷ [])
            (mach lim (Some eof) (Some (number reader))) q
        to_try =
            let stores = step_in p x start {s = State (number reader)} {b = Try block ∷ Goto end ∷ []} {b' = Try block ∷ Goto end ∷ []}
            {m = mach lim (Some eof) kept} {m' = mach lim (Some eof) (Some (number reader))} {q = q} {q' = q} refl (omega arith) in
            then_in p x start (suc (tree_length above tree) + 1 + 1) (asked_run (State (number reader) ∷ Try block ∷ Goto end ∷ []) asks) stores (omega arith)

        -- it is left, and comes back
        back_run : (fs : List Refill) (q' : List Answer) → q ≡ left fs ∷ q' → AreLegalAnswers (length x) start (stores_states p) buffer (left fs ∷ q')
            → Going (Peek ∷ tree_code above tree) lim u kept q
        back_run fs q' e legal = by (nat_le (lim + units_of_all fs) pos) refl
          where
            back : LeadsIn p x start 1 (Try block ∷ Goto end ∷ []) (mach lim (Some eof) (Some (number reader))) q (IfEnd end ∷ Goto block ∷ [])
                (mach (lim + units_of_all fs) None (Some (number reader))) q'
            back =
                let place = state_block-try p.blocks asked (number reader) block end once asks in
                step_in p x start {s = Try block} {b = Goto end ∷ []} {b' = IfEnd end ∷ Goto block ∷ []} {m = mach lim (Some eof) (Some (number reader))}
                {m' = mach (lim + units_of_all fs) None (Some (number reader))} {q = q} {q' = q'}
                (ap (λ a. try p.blocks (code_at p.blocks (Some block)) (Goto end ∷ []) (mach lim (Some eof) (Some (number reader))) a) e
                ∙ ap (λ o. jump (code_at p.blocks o) (mach (lim + units_of_all fs) None (Some (number reader))) q') place
                ∙ ap (λ o. jump o (mach (lim + units_of_all fs) None (Some (number reader))) q') comes_to) (omega arith)

            by : (t : Bool) → nat_le (lim + units_of_all fs) pos ≡ t → Going (Peek ∷ tree_code above tree) lim u kept q
            by true t =
                let le : lim + units_of_all fs ≤ pos = leb-true (lim + units_of_all fs) pos t in
                let none : units_of_all fs ≡ 0 = omega (arith, le, here) in
                let whole = refills_of_none (length x) start (stores_states p) buffer fs legal.2 legal.3 none in
                let one = step_in p x start {s = IfEnd end} {b = Goto block ∷ []} {b' = next} {m = mach (lim + units_of_all fs) None (Some (number reader))}
                {m' = mach (lim + units_of_all fs) None (Some (number reader))} {q = q'} {q' = q'}
                (ap (λ t. choose t (code_at p.blocks (Some end)) (Goto block ∷ []) (mach (lim + units_of_all fs) None (Some (number reader))) q') t
                ∙ ap (λ o. jump o (mach (lim + units_of_all fs) None (Some (number reader))) q') is_end) (omega arith) in
                ended end next (lim + units_of_all fs) None (Some (number reader)) q' (here ∙ sym b.limit ∙ whole.0) ends is_end
                (then_in p x start (statement_count p.blocks) to_try (then_in p x start 2 back one (omega arith)) (omega (arith, room)))
            by false t =
                let lt : pos < lim + units_of_all fs = leb-false (lim + units_of_all fs) pos t in
                let up = after_refills-limit buffer fs in
                let within = refills_within (length x) start (stores_states p) buffer fs (omega (arith, b.limit, b.within)) legal.3 in
                let fewer : length q ≡ suc (length q') = ap length e in
                let one = step_in p x start {s = IfEnd end} {b = Goto block ∷ []} {b' = Goto block ∷ []}
                {m = mach (lim + units_of_all fs) None (Some (number reader))} {m' = mach (lim + units_of_all fs) None (Some (number reader))} {q = q'} {q' = q'}
                (ap (λ t. choose t (code_at p.blocks (Some end)) (Goto block ∷ []) (mach (lim + units_of_all fs) None (Some (number reader))) q') t)
                (omega arith) in
                let goes = step_in p x start {s = Goto block} {b = []} {b' = Peek ∷ tree_code above tree}
                {m = mach (lim + units_of_all fs) None (Some (number reader))} {m' = mach (lim + units_of_all fs) None (Some (number reader))} {q = q'} {q' = q'}
                (ap (λ o. jump o (mach (lim + units_of_all fs) None (Some (number reader))) q') stands) (omega arith) in
                again (lim + units_of_all fs) None (Some (number reader)) q' (after_refills buffer fs) (omega (arith, here, lt)) (omega (arith, fewer))
                (record { within = omega (arith, b.limit, within); limit = omega (arith, b.limit, up); legal = legal.4 })
                (subst (λ a. Refilled lim a (lim + units_of_all fs) q') (sym e)
                (record { grows = omega arith; fewer = omega arith; same = omega arith }))
                (then_in p x start (statement_count p.blocks) to_try
                (then_in p x start 3 back (then_in p x start 2 one goes (omega arith)) (omega arith)) (omega (arith, room)))

        pub stored_run : Going (Peek ∷ tree_code above tree) lim u kept q
        stored_run = try_run end ends next is_end 1 (Some (number reader)) (omega (arith, room)) to_try back_run q refl b.legal
