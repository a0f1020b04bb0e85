-- A check in front of code: it leads there with units enough, or the run ends, or it comes again with more units.
use Rattle.std.specs.Prelude.{◌≡◌, ℕ, zero, suc, ◌+◌, ◌-◌, ◌*◌, ◌<◌, ◌≤◌, Bool, true, false, List, ◌∷◌, length, Contains, Option, Some, None, nat_lt, refl, slice_get}
use Rattle.std.proofs.Common.{inl, inr, sym, ap, ◌∙◌, arith, ltb-true, ltb-false, true≢false}
use Rattle.std.proofs.lemmas.List.Elements.{All-contains_itself, recursion_from_All}
use Rattle.std.specs.List.{AllByRecursion}
use Rattle.lx_auto.specs.Bank.{Bank}
use Rattle.lx_ccode.specs.declared.piece.Piece.{Piece}
use Rattle.lx_ccode.specs.declared.piece.Stmt.{Stmt}
use Rattle.lx_ccode.specs.declared.piece.Stmt.TheVariants.{Need, State}
use Rattle.lx_ccode.specs.Machine.{Answer, Machine, Outcome, Refill, at_end, code_at, come_back, ends, goes_on, jump, left, need, stored_block, unanswered, units_of_all}
use Rattle.lx_ccode.specs.Runs.{ended}
use Rattle.lx_ccode.specs.Schedules.{Buffer, after_refills}
use Rattle.lx_ccode.specs.Statements.{all_statements, code_of, statement_count}
use Rattle.lx_ccode.proofs.TraceSteps.{All-code}
use Rattle.lx_layout.specs.RightInMode.{AreStoredBy}
use Rattle.lx_layout.specs.Supplies.{Reader, Supply, need_code}
use Rattle.lx_layout.proofs.BlockLayouts.CodesInBlocks.{length-block}
use Rattle.lx_layout.proofs.Runs.PartialRuns.{LeadsIn, end_in, last_in, stays_in, step_in, then_in, widen}
use Rattle.lx_layout.proofs.Supplied.Checks.{Checked, check_run, has, no_answer, short, was_left}
use Rattle.lx_layout.proofs.Supplied.Readers.{EndsBefore, ReaderRun, again, at, stops, stores_states}
use Rattle.lx_layout.proofs.Supplied.Refills.{Buffered, Refilled, Refilled-none, after_refills-limit, refills_of_none, refills_within}
use Rattle.lx_layout.proofs.Supplied.StoredStates.{state_block-need}

module _ (p : Piece) (x : List ℕ) (start : ℕ) (supply : Supply) (units block : ℕ) (Leads : (unit to : ℕ) → Type 0) (Ends : ℕ → Type 0)
    (pos mk ac : ℕ) (first : Option ℕ) (k : Bank) (cond : List ℕ) where
  abbrev mach : (lim : ℕ) → (u kept : Option ℕ) → Machine
  mach lim u kept = at p x start supply units Leads Ends pos mk ac first k cond lim u kept

  abbrev Going : (code : List Stmt) → (lim : ℕ) → (u kept : Option ℕ) → List Answer → Type 0
  Going code lim u kept q = ReaderRun p x start supply units Leads Ends pos mk ac first k cond code lim u kept q

  abbrev Buffers : (lim : ℕ) → List Answer → Buffer → Type 0
  Buffers lim q buffer = Buffered (length x) start (stores_states p) lim q buffer

  -- what has to be shown of the code behind the check, where a unit is there, and all for which it checks
  abbrev pub Onward : (code rest : List Stmt) → (lim : ℕ) → (u kept : Option ℕ) → List Answer → Type 0
  Onward code rest lim u kept q =
      (lim' : ℕ) (u' kept' : Option ℕ) (q' : List Answer) (buffer : Buffer) (steps : ℕ) → pos < lim' → pos + units ≤ lim' → Buffers lim' q' buffer
      → Refilled lim q lim' q' → LeadsIn p x start steps code (mach lim u kept) q rest (mach lim' u' kept') q' → steps + length rest ≤ length code
      → Going code lim u kept q

  -- A block begins with a check, and at most one step leads there, where a state is stored.
  module _ (none : supply.eof ≡ None) (needed : ℕ) (same : suc needed ≡ units) (code rest : List Stmt) (stored : Option ℕ) (before : ℕ) (few : before ≤ 1)
      (stands : slice_get (code_of p.blocks) block ≡ Some code) (long : length code ≡ before + suc (length rest))
      (checks : Contains (all_statements p.blocks) (Need (suc needed)))
      (comes_back : stores_states p ≡ true → stored_block p.blocks stored ≡ Some block)
      (to_check : (lim : ℕ) (u : Option ℕ) (q : List Answer)
      → LeadsIn p x start before code (mach lim u stored) q (Need (suc needed) ∷ rest) (mach lim u stored) q) where
    fits : length code ≤ statement_count p.blocks
    fits = length-block (code_of p.blocks) block code stands

    -- at a check for more units than are left
    short_of : (lim : ℕ) (u kept : Option ℕ) → lim ≡ length x → pos ≤ lim → lim - pos < suc needed
        → EndsBefore p supply (length x) (ended at_end (mach lim u kept))
    short_of lim u kept whole le less = inr (none, (refl, (suc needed, checks, omega (arith, whole, le, less))))

    -- where the scanner was left, and comes back
    module _ (lim : ℕ) (u kept : Option ℕ) (q : List Answer) (le : pos ≤ lim)
        (first_steps : LeadsIn p x start before code (mach lim u kept) q (Need (suc needed) ∷ rest) (mach lim u stored) q)
        (fs : List Refill) (q' : List Answer) (buffer : Buffer) (lim1 : ℕ) (b : Buffers lim1 (left fs ∷ q') buffer) (r : Refilled lim q lim1 (left fs ∷ q'))
        (less : lim1 - pos < suc needed)
        (is : need p.blocks (suc needed) rest (mach lim u stored) q ≡ come_back p.blocks fs (mach lim1 u stored) q') where
      buffers : Buffers (lim1 + units_of_all fs) q' (after_refills buffer fs)
      buffers =
          let up = after_refills-limit buffer fs in
          let within = refills_within (length x) start (stores_states p) buffer fs (omega (arith, b.limit, b.within)) b.legal.3 in
          record { within = omega (arith, b.limit, within); limit = omega (arith, b.limit, up); legal = b.legal.4 }

      back : come_back p.blocks fs (mach lim1 u stored) q' ≡ goes_on code (mach (lim1 + units_of_all fs) None stored) q'
      back =
          ap (λ o. jump (code_at p.blocks o) (mach (lim1 + units_of_all fs) None stored) q') (comes_back b.legal.1)
          ∙ ap (λ o. jump o (mach (lim1 + units_of_all fs) None stored) q') stands

      led : LeadsIn p x start (before + 1) code (mach lim u kept) q code (mach (lim1 + units_of_all fs) None stored) q'
      led =
          then_in p x start (before + 1) first_steps
          (step_in p x start {s = Need (suc needed)} {b = rest} {b' = code} {m = mach lim u stored} {m' = mach (lim1 + units_of_all fs) None stored}
          {q = q} {q' = q'} (is ∙ back) (omega (arith, r.grows))) (omega arith)

      refilled : Refilled lim q (lim1 + units_of_all fs) q'
      refilled = record { grows = omega (arith, r.grows); fewer = omega (arith, r.fewer); same = omega (arith, r.same) }

      -- nothing was added: the check comes once more, and ends the run
      last : lim1 + units_of_all fs ≤ lim
          → Checked p.blocks (length x) start (stores_states p) (suc needed) rest pos mk None ac stored first k cond (lim1 + units_of_all fs) q'
          (after_refills buffer fs).closed
          → Going code lim u kept q
      last none_added checked = by checked
        where
          zero_units : units_of_all fs ≡ 0
          zero_units = omega (arith, r.grows, none_added)

          closed : (after_refills buffer fs).closed ≡ true
          closed = (refills_of_none (length x) start (stores_states p) buffer fs b.legal.2 b.legal.3 zero_units).1

          over : (o : Outcome) (m : Machine) → need p.blocks (suc needed) rest (mach (lim1 + units_of_all fs) None stored) q' ≡ ends o m
              → EndsBefore p supply (length x) (ended o m) → Going code lim u kept q
          over o m e before_end =
              let one = last_in p x start {s = Need (suc needed)} {b = rest} {m = mach (lim1 + units_of_all fs) None stored} {m' = m} {q = q'} e in
              stops (ended o m) before_end
              (end_in p x start (4 * statement_count p.blocks) led (end_in p x start 2 (to_check (lim1 + units_of_all fs) None q') one (omega (arith, few)))
              (omega (arith, few, fits, long)))

          by : Checked p.blocks (length x) start (stores_states p) (suc needed) rest pos mk None ac stored first k cond (lim1 + units_of_all fs) q'
              (after_refills buffer fs).closed → Going code lim u kept q
          by (has q3 buffer3 lim3 b3 r3 there same3 is3) = absurd (let z = same3 closed in omega (arith, less, there, z, none_added, r.grows))
          by (short lim3 whole less3 is3) =
              over at_end (mach lim3 None stored) is3 (short_of lim3 None stored whole (let w = b.within in let g = r.grows in omega (arith, whole, w, g, le)) less3)
          by (no_answer m is3) = over unanswered m is3 (inl refl)
          by (was_left fs3 q3 buffer3 lim3 b3 r3 less3 unclosed is3) = absurd (true≢false (sym closed ∙ unclosed))

      left_run : Going code lim u kept q
      left_run = by (nat_lt lim (lim1 + units_of_all fs)) refl
        where
          by : (t : Bool) → nat_lt lim (lim1 + units_of_all fs) ≡ t → Going code lim u kept q
          by true t =
              again (lim1 + units_of_all fs) None stored q' (after_refills buffer fs) (ltb-true lim (lim1 + units_of_all fs) t) (omega (arith, r.fewer))
              buffers refilled (widen p x start (statement_count p.blocks) led (omega (arith, fits, long)))
          by false t =
              last (ltb-false lim (lim1 + units_of_all fs) t)
              (check_run p.blocks (length x) start (stores_states p) (suc needed) rest pos mk None ac stored first k cond q' (after_refills buffer fs)
              (lim1 + units_of_all fs) buffers)

    checked_run : (lim : ℕ) (u kept : Option ℕ) (q : List Answer) (buffer : Buffer) → Buffers lim q buffer → pos ≤ lim
        → LeadsIn p x start before code (mach lim u kept) q (Need (suc needed) ∷ rest) (mach lim u stored) q
        → Onward code rest lim u kept q → Going code lim u kept q
    checked_run lim u kept q buffer b le first_steps onward =
        by (check_run p.blocks (length x) start (stores_states p) (suc needed) rest pos mk u ac stored first k cond q buffer lim b)
      where
        over : (o : Outcome) (m : Machine) → need p.blocks (suc needed) rest (mach lim u stored) q ≡ ends o m
            → EndsBefore p supply (length x) (ended o m) → Going code lim u kept q
        over o m e before_end =
            let one = last_in p x start {s = Need (suc needed)} {b = rest} {m = mach lim u stored} {m' = m} {q = q} e in
            stops (ended o m) before_end (end_in p x start (4 * statement_count p.blocks) first_steps one (omega (arith, few, fits, long)))

        by : Checked p.blocks (length x) start (stores_states p) (suc needed) rest pos mk u ac stored first k cond lim q buffer.closed
            → Going code lim u kept q
        by (has q' buffer' lim' b' r there keeps is) =
            let one = step_in p x start {s = Need (suc needed)} {b = rest} {b' = rest} {m = mach lim u stored} {m' = mach lim' u stored} {q = q} {q' = q'} is
            r.grows in
            onward lim' u stored q' buffer' (before + 1) (omega (arith, there)) (omega (arith, there, same, le, r.grows)) b' r
            (then_in p x start (before + 1) first_steps one (omega arith)) (omega (arith, long))
        by (short lim' whole less is) =
            over at_end (mach lim' u stored) is (short_of lim' u stored whole (let w = b.within in omega (arith, whole, w, le)) less)
        by (no_answer m is) = over unanswered m is (inl refl)
        by (was_left fs q' buffer' lim' b' r less unclosed is) = left_run lim u kept q le first_steps fs q' buffer' lim' b' r less is

  -- the statements of a block are among all
  among_all : (code : List Stmt) → slice_get (code_of p.blocks) block ≡ Some code → AllByRecursion (Contains (all_statements p.blocks)) code
  among_all code stands =
      All-code (Contains (all_statements p.blocks)) p.blocks block code stands
      (recursion_from_All (Contains (all_statements p.blocks)) (all_statements p.blocks) (All-contains_itself (all_statements p.blocks)))

  -- with or without a check
  pub front_run : (stored : Option (Reader → ℕ)) (reader : Reader) → AreStoredBy stored p → supply.eof ≡ None → (n : ℕ) → n ≡ units → (rest : List Stmt)
      → slice_get (code_of p.blocks) block ≡ Some (need_code stored reader n rest) → (lim : ℕ) (u kept : Option ℕ) (q : List Answer) (buffer : Buffer)
      → Buffers lim q buffer → pos ≤ lim → (n ≡ 0 → pos < lim) → Onward (need_code stored reader n rest) rest lim u kept q
      → Going (need_code stored reader n rest) lim u kept q
  front_run stored reader are none zero same rest stands lim u kept q buffer b le there onward =
      onward lim u kept q buffer 0 (there refl) (let lt = there refl in omega (arith, lt, same)) b (Refilled-none lim q)
      (stays_in p x start 0 rest (mach lim u kept) q) (omega arith)
  front_run None reader are none (suc needed) same rest stands lim u kept q buffer b le there onward =
      checked_run none needed same (Need (suc needed) ∷ rest) rest kept 0 (omega arith) stands (omega arith)
      (among_all (Need (suc needed) ∷ rest) stands).0 (λ stores. absurd (true≢false (sym stores ∙ are)))
      (λ lim u q. stays_in p x start 0 (Need (suc needed) ∷ rest) (mach lim u kept) q) lim u kept q buffer b le
      (stays_in p x start 0 (Need (suc needed) ∷ rest) (mach lim u kept) q) onward
  front_run (Some number) reader are none (suc needed) same rest stands lim u kept q buffer b le there onward =
      checked_run none needed same (State (number reader) ∷ Need (suc needed) ∷ rest) rest (Some (number reader)) 1 (omega arith) stands (omega arith)
      (among_all (State (number reader) ∷ Need (suc needed) ∷ rest) stands).1.0
      (λ stores. state_block-need p.blocks block (number reader) (suc needed) rest are stands)
      (λ lim u q. step_in p x start refl (omega arith)) lim u kept q buffer b le (step_in p x start refl (omega arith)) onward
