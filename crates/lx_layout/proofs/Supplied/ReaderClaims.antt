-- What the run from the block of what reads a unit tells, if it tells so from the states behind, and where the block comes again.
use Rattle.std.specs.Prelude.{◌≡◌, ◌⊎◌, ℕ, zero, suc, ◌+◌, ◌-◌, ◌*◌, ◌<◌, ◌≤◌, List, [], ◌∷◌, length, drop, Option, Some, None, refl, slice_get}
use Rattle.std.proofs.Common.{inl, inr, sym, ap, ◌∙◌, subst, arith, length-drop}
use Rattle.std.proofs.lemmas.Option.{slice_get_within}
use Rattle.std.specs.List.{AllByRecursion}
use Rattle.lx_auto.specs.Automaton.{IsAuto, edge_on, state_of}
use Rattle.lx_auto.specs.Bank.{Bank}
use Rattle.lx_auto.specs.Run.{Left, Standing, behind_edge, by_edge, found_behind}
use Rattle.lx_auto.specs.declared.automaton.Auto.{Auto}
use Rattle.lx_auto.specs.declared.automaton.Edge.{Edge}
use Rattle.lx_auto.specs.declared.automaton.State.{State}
use Rattle.lx_auto.proofs.States.{edge_on-leads, state_formed}
use Rattle.lx_ccode.specs.declared.piece.Piece.{Piece}
use Rattle.lx_ccode.specs.declared.piece.Stmt.{Stmt}
use Rattle.lx_ccode.specs.declared.piece.Stmt.TheVariants.{Goto, Peek}
use Rattle.lx_ccode.specs.Machine.{Answer, Machine}
use Rattle.lx_ccode.specs.Runs.{Ended}
use Rattle.lx_ccode.specs.Schedules.{Buffer}
use Rattle.lx_ccode.specs.Statements.{code_of, statement_count}
use Rattle.lx_fill.specs.Checks.{Suffices, graph_of}
use Rattle.lx_layout.specs.Endings.{Ending}
use Rattle.lx_layout.specs.Fallback.{edge_code}
use Rattle.lx_layout.specs.Halting.{Halting}
use Rattle.lx_layout.specs.RightInMode.{AreStoredBy}
use Rattle.lx_layout.specs.Stops.{last_standing, or_here, told_found}
use Rattle.lx_layout.specs.Supplied.{IsTarget, Serves, ServesReader, at_end, by_jump, by_tests, itself}
use Rattle.lx_layout.specs.Supplies.{Reader, Supply, need_code}
use Rattle.lx_layout.specs.TreeCodes.{tree_code}
use Rattle.lx_layout.proofs.BlockLayouts.CodesInBlocks.{length-block}
use Rattle.lx_layout.proofs.BlockLayouts.Questions.{FitsTable}
use Rattle.lx_layout.proofs.Runs.PartialRuns.{EndsIn, LeadsIn, end_in, then_in}
use Rattle.lx_layout.proofs.Runs.OperationSteps.{machine_at}
use Rattle.lx_layout.proofs.Runs.UnitsLeft.{left_unit}
use Rattle.lx_layout.proofs.Supplied.BlockSorts.{lengths_of, lengths_of-block, passing, sort_of-edge}
use Rattle.lx_layout.proofs.Supplied.Claims.{Claim, carry, ends_so}
use Rattle.lx_layout.proofs.Supplied.Readers.{EndsBefore, ReaderRun, again, ended, reads, stops, stores_states}
use Rattle.lx_layout.proofs.Supplied.ReaderRuns.{reader_run}
use Rattle.lx_layout.proofs.Supplied.Refills.{Buffered, Refilled}
use Rattle.lx_layout.proofs.Supplied.SufficientUnits.{HoldsAs, StandsAt, bank_behind, left_behind, suffices-edge, suffices-more}
use Rattle.lx_layout.proofs.Supplied.StateRuns.{edge_run, marker_of, number_of, stop_run, target_code, target_some}
use Rattle.lx_layout.specs.Codes.{saved_by}

-- what is told where a run of the automaton stopped
abbrev pub told_behind : (endings : ℕ → Ending) → (cond : List ℕ) → Auto → Standing → Ended
told_behind endings cond auto last = told_found endings cond (found_behind auto last) last.offset

-- the run ends so, or before with a refill or a check
abbrev pub TellsOrEnds : Piece → Supply → (units : ℕ) → (told told_here : Ended) → Type 0
TellsOrEnds p supply units told told_here = EndsBefore p supply units told_here ⊎ (told_here ≡ told)

module _ (p : Piece) (x : List ℕ) (start : ℕ) (supply : Supply) (halting : Halting) (endings : ℕ → Ending) (greatest : ℕ) (auto : Auto) (place : ℕ → ℕ) (saved : Option (ℕ → ℕ)) (rules : ℕ → ℕ) (fall : ℕ)
    (end_rule : Option ℕ) (served : Serves supply halting endings greatest auto (code_of p.blocks) place saved rules fall end_rule) (formed : IsAuto auto)
    (at_limit : p.eof ≡ supply.eof) (stored : AreStoredBy supply.stored p) (fits : FitsTable supply.among p)
    (next_code : (state : ℕ) → state < length auto.states → (code : List Stmt) × (slice_get (code_of p.blocks) (place state) ≡ Some code))
    (first : Option ℕ) (cond : List ℕ) where
  abbrev pub mach : (pos lim : ℕ) → Option Left → (u kept : Option ℕ) → Bank → Machine
  mach pos lim held u kept k = machine_at pos (marker_of start held) lim u (number_of saved held) kept first k cond []

  abbrev pub Stands : List ℕ → (lim : ℕ) → Standing → List Answer → Buffer → Type 0
  Stands w lim st q buffer = StandsAt p x start supply greatest auto w lim st q buffer

  -- the run from here on tells this
  abbrev pub Claims : (lim : ℕ) → Standing → List Stmt → Option Left → (u kept : Option ℕ) → Bank → List Answer → (told : Ended) → Type 0
  Claims lim st code held u kept k q told =
      Claim p x start (st.offset - start) lim code (mach st.offset lim held u kept k) q (λ e. TellsOrEnds p supply (length x) told e)

  -- so it is from the state behind an edge, where no more answers are left
  abbrev pub ClaimsBehind : Standing → Option Left → Bank → List Answer → (unit : ℕ) → List ℕ → Edge → Type 0
  ClaimsBehind st held k q unit w edge =
      (code : List Stmt) (lim : ℕ) (u kept : Option ℕ) (q' : List Answer) (buffer : Buffer) → length q' ≤ length q
      → edge_on (state_of auto.states st.state).edges unit ≡ Some edge
      → slice_get (code_of p.blocks) (place edge.to) ≡ Some code
      → Stands w lim (behind_edge (state_of auto.states st.state) st edge) q' buffer
      → Claims lim (behind_edge (state_of auto.states st.state) st edge) code (left_behind halting auto st.state st.offset edge held) u kept
      (bank_behind auto st.state st.offset edge k) q'
      (told_behind endings cond auto (last_standing auto (behind_edge (state_of auto.states st.state) st edge) w))

  module _ (st : Standing) (held : Option Left) (k : Bank) (h : HoldsAs halting auto st held k) (reader : Reader) (units block : ℕ) (Ends : ℕ → Type 0)
      (final : (to : ℕ) → Ends to → (next : List Stmt) × (slice_get (code_of p.blocks) to ≡ Some next)) (code : List Stmt)
      (at_block : slice_get (code_of p.blocks) block ≡ Some code) where
    -- a unit leads to this block
    abbrev pub Leads : (unit to : ℕ) → Type 0
    Leads unit to =
        IsTarget supply halting endings greatest auto (code_of p.blocks) place saved rules fall st.state (state_of auto.states st.state)
        (edge_on (state_of auto.states st.state).edges unit) to

    target : (unit to : ℕ) → Leads unit to → (next : List Stmt) × (slice_get (code_of p.blocks) to ≡ Some next)
    target unit to leads =
        target_code p x start supply halting endings greatest auto place saved rules fall end_rule served formed first cond 0 None st.state
        (edge_on (state_of auto.states st.state).edges unit) to h.state leads

    -- the piece has a statement
    some_at : (unit to : ℕ) → Leads unit to → 0 < statement_count p.blocks
    some_at unit to leads =
        target_some p x start supply halting endings greatest auto place saved rules fall end_rule served formed first cond 0 None st.state
        (edge_on (state_of auto.states st.state).edges unit) to h.state leads

    some_need : (number : Option (Reader → ℕ)) (count : ℕ) (statement : Stmt) (rest : List Stmt)
        → 0 < length (need_code number reader count (statement ∷ rest))
    some_need number zero statement rest = omega arith
    some_need None (suc count) statement rest = omega arith
    some_need (Some number) (suc count) statement rest = omega arith

    some : ServesReader supply halting endings greatest auto (code_of p.blocks) place saved rules fall reader units block Leads Ends
        → 0 < statement_count p.blocks
    some (by_tests none tree above is row leads) =
        let n = length-block (code_of p.blocks) block (need_code supply.stored reader units (Peek ∷ tree_code above tree)) is in
        let n1 = some_need supply.stored units Peek (tree_code above tree) in
        omega (arith, n, n1)
    some (by_jump none to is leads) =
        let n = length-block (code_of p.blocks) block (need_code supply.stored reader units (Goto to ∷ [])) is in
        let n1 = some_need supply.stored units (Goto to) [] in
        omega (arith, n, n1)
    some (itself none no_check leads) = some_at 0 block (leads 0 (omega arith))
    some (at_end eof is tree above to asked own row leads apart leads_eof ends) =
        let n = length-block (code_of p.blocks) block (Peek ∷ tree_code above tree) own in omega (arith, n)

    module _ (w : List ℕ) (lim : ℕ) (u kept : Option ℕ) (q : List Answer) (buffer : Buffer) (stands : Stands w lim st q buffer)
        (enough : supply.eof ≡ None → (lim' : ℕ) → lim ≤ lim' → st.offset + units ≤ lim' → Suffices (graph_of auto) supply.check st.state (lim' - st.offset))
        (told : Ended) where
      low : st.offset - start ≤ lim - start
      low = let below = stands.below in omega (arith, below)

      -- ---- a unit was read

      module _ (unit to : ℕ) (next : List Stmt) (lim' : ℕ) (u' kept' : Option ℕ) (q' : List Answer) (buffer' : Buffer) (steps : ℕ) (lt : st.offset < lim')
          (room : supply.eof ≡ None → st.offset + units ≤ lim') (is_next : slice_get (code_of p.blocks) to ≡ Some next)
          (fills : Buffered (length x) start (stores_states p) lim' q' buffer') (r : Refilled lim q lim' q')
          (led : LeadsIn p x start steps code (mach st.offset lim held u kept k) q next (mach st.offset lim' held u' kept' k) q')
          (room_left : steps + lengths_of passing (code_of p.blocks) ≤ statement_count p.blocks) (w' : List ℕ) (split : w ≡ unit ∷ w')
          (is_unit : slice_get x st.offset ≡ Some unit) where
        rest_on : unit ∷ w' ≡ drop st.offset x
        rest_on = sym split ∙ stands.rest

        -- no edge is on it
        stop_claim : IsTarget supply halting endings greatest auto (code_of p.blocks) place saved rules fall st.state (state_of auto.states st.state) None to
            → told ≡ told_behind endings cond auto st → Claims lim st code held u kept k q told
        stop_claim leads tells =
            let g = stop_run p x start supply halting endings greatest auto place saved rules fall end_rule served formed first cond lim' kept' st.state to st.offset next st.left
            held u' k st.bank q' h.state leads is_next h.agrees h.found h.same h.fresh in
            ends_so p x start {Told = λ e. TellsOrEnds p supply (length x) told e}
            (end_in p x start (4 * statement_count p.blocks) led g (omega (arith, room_left))) refl low (inr (sym tells))

        -- it follows an edge
        edge_claim : (edge : Edge) → edge_on (state_of auto.states st.state).edges unit ≡ Some edge
            → slice_get (code_of p.blocks) to
            ≡ Some (edge_code halting auto (state_of auto.states st.state) (saved_by saved st.state) edge (place edge.to))
            → told ≡ told_behind endings cond auto (last_standing auto (behind_edge (state_of auto.states st.state) st edge) w')
            → ClaimsBehind st held k q unit w' edge → Claims lim st code held u kept k q told
        edge_claim edge on is_edge tells behind =
            let state : State = state_of auto.states st.state in
            let edge_block : List Stmt = edge_code halting auto (state_of auto.states st.state) (saved_by saved st.state) edge (place edge.to) in
            let leads = edge_on-leads auto.regs auto.mregs (length auto.states) state.edges unit edge (state_formed auto st.state formed).lead on in
            let code' = next_code edge.to leads.0 in
            let here_some = target_some p x start supply halting endings greatest auto place saved rules fall end_rule served formed first cond 0 None st.state
            (Some edge) to h.state is_edge in
            let same : next ≡ edge_block = cc in
            let long = lengths_of-block passing (code_of p.blocks) to (edge_code halting auto (state_of auto.states st.state) (saved_by saved st.state) edge (place edge.to))
            is_edge (sort_of-edge halting auto (state_of auto.states st.state) (saved_by saved st.state) edge (place edge.to)) in
            let passes = edge_run p x start supply halting endings greatest auto place saved rules fall end_rule served formed first cond lim' kept' edge code'.0 st.state st.offset held
            u' k q' leads.1 code'.1 lt in
            let led' = subst (λ c. LeadsIn p x start steps code (mach st.offset lim held u kept k) q c (mach st.offset lim' held u' kept' k) q') same led in
            let here = left_unit st.offset unit w' x rest_on in
            let small : AllByRecursion (λ unit. unit ≤ greatest) (unit ∷ w') = subst (λ l. AllByRecursion (λ unit. unit ≤ greatest) l) split stands.small in
            let from = stands.from in
            let after : Stands w' lim' (behind_edge (state_of auto.states st.state) st edge) q' buffer' = record {
              rest = here.2;
              small = small.1;
              from = omega (arith, from);
              below = lt;
              fills = fills;
              whole = λ reads some fixed. let all = stands.whole reads some fixed in let within = fills.within in omega (arith, all, within, r.grows);
              ready = λ none unchecked.
                  suffices-edge auto supply.check st.state unit lim' st.offset edge on unchecked (enough none lim' r.grows (room none));
            } in
            let claim = behind code'.0 lim' u' kept' q' buffer' r.fewer on code'.1 after in
            carry p x start (then_in p x start (statement_count p.blocks) led' passes (omega (arith, room_left, long))) (omega arith) refl low
            here_some (omega (arith, from, r.grows, lt)) r.same
            (subst (λ t. Claims lim' (behind_edge (state_of auto.states st.state) st edge) code'.0 (left_behind halting auto st.state st.offset edge held) u' kept'
            (bank_behind auto st.state st.offset edge k) q' t) (sym tells) claim)

      -- ---- from the block on

      -- what is to be told where a unit is left, what is told where the stream ends, and the claims where the run goes on
      pub reader_claim : ServesReader supply halting endings greatest auto (code_of p.blocks) place saved rules fall reader units block Leads Ends
          → (supply.eof ≡ None → units ≡ 0 → st.offset < lim)
          → ((unit : ℕ) (w' : List ℕ) → w ≡ unit ∷ w' → told ≡ told_behind endings cond auto (last_standing auto st (unit ∷ w')))
          → ((to : ℕ) (next : List Stmt) (lim' : ℕ) (u' kept' : Option ℕ) (q' : List Answer) → w ≡ [] → Ends to → slice_get (code_of p.blocks) to ≡ Some next
          → EndsIn p x start (3 * statement_count p.blocks) next (mach st.offset lim' held u' kept' k) q' told)
          → ((lim' : ℕ) (u' kept' : Option ℕ) (q' : List Answer) (buffer' : Buffer) → length q' < length q → Stands w lim' st q' buffer'
          → Claims lim' st code held u' kept' k q' told)
          → ((unit : ℕ) (w' : List ℕ) (edge : Edge) → w ≡ unit ∷ w' → ClaimsBehind st held k q unit w' edge)
          → Claims lim st code held u kept k q told
      reader_claim serves there tells last_so anew behind =
          by (reader_run p x start supply halting endings greatest auto place saved rules fall at_limit stored fits reader units block Leads Ends target final st.offset
          (marker_of start held) (number_of saved held) first k cond small lim u kept q buffer stands.fills stands.below there stands.whole code at_block serves)
        where
          -- what is left
          split : (l : List ℕ) → w ≡ l → (unit : ℕ) → slice_get x st.offset ≡ Some unit → (w' : List ℕ) × (w ≡ unit ∷ w')
          split [] e unit is =
              let within = slice_get_within x st.offset unit is in
              let none : length w ≡ 0 = ap length e in
              let same : length w ≡ length x - st.offset = ap length stands.rest ∙ length-drop st.offset x in
              absurd (omega (arith, within, none, same))
          split (v ∷ w') e unit is =
              let here = left_unit st.offset v w' x (sym e ∙ stands.rest) in
              let same : v ≡ unit = let h = here.1 in cc in
              (w', e ∙ ap (λ n. n ∷ w') same)

          small : (unit : ℕ) → slice_get x st.offset ≡ Some unit → unit ≤ greatest
          small unit is =
              let parts = split w refl unit is in
              (subst (λ l. AllByRecursion (λ unit. unit ≤ greatest) l) parts.1 stands.small).0

          nothing : (l : List ℕ) → w ≡ l → st.offset ≡ length x → w ≡ []
          nothing [] e whole = e
          nothing (v ∷ w') e whole =
              let here = left_unit st.offset v w' x (sym e ∙ stands.rest) in absurd (omega (arith, here.0, whole))

          by : ReaderRun p x start supply units Leads Ends st.offset (marker_of start held) (number_of saved held) first k cond code lim u kept q
              → Claims lim st code held u kept k q told
          by (reads unit to next lim' u' kept' q' buffer' steps is lt room leads is_next fills r led room_left) =
              on (edge_on (state_of auto.states st.state).edges unit) refl leads (tells unit parts.0 parts.1)
            where
              parts : (w' : List ℕ) × (w ≡ unit ∷ w')
              parts = split w refl unit is

              on : (o : Option Edge) → edge_on (state_of auto.states st.state).edges unit ≡ o
                  → IsTarget supply halting endings greatest auto (code_of p.blocks) place saved rules fall st.state (state_of auto.states st.state) o to
                  → told ≡ told_behind endings cond auto
                  (or_here st (by_edge (state_of auto.states st.state) st o) (λ next. last_standing auto next parts.0))
                  → Claims lim st code held u kept k q told
              on None e leads tells_so =
                  stop_claim unit to next lim' u' kept' q' buffer' steps lt room is_next fills r led room_left parts.0 parts.1 is leads tells_so
              on (Some edge) e leads tells_so =
                  edge_claim unit to next lim' u' kept' q' buffer' steps lt room is_next fills r led room_left parts.0 parts.1 is edge e leads tells_so
                  (behind unit parts.0 edge parts.1)
          by (ended to next lim' u' kept' q' whole ends is led) =
              let last = last_so to next lim' u' kept' q' (nothing w refl whole) ends is in
              ends_so p x start {Told = λ e. TellsOrEnds p supply (length x) told e}
              (end_in p x start (4 * statement_count p.blocks) led last (omega arith)) refl low (inr refl)
          by (again lim' u' kept' q' buffer' lt fewer fills r led) =
              let below = stands.below in
              let from = stands.from in
              let after : Stands w lim' st q' buffer' = record {
                rest = stands.rest;
                small = stands.small;
                from = stands.from;
                below = omega (arith, below, lt);
                fills = fills;
                whole = λ reads some fixed. let all = stands.whole reads some fixed in let within = fills.within in omega (arith, all, within, lt);
                ready = λ none unchecked.
                    suffices-more auto supply.check st.state (lim - st.offset) (lim' - st.offset) (omega (arith, lt)) (stands.ready none unchecked);
              } in
              carry p x start led (omega arith) refl low (some serves) (omega (arith, from, below, lt)) r.same (anew lim' u' kept' q' buffer' fewer after)
          by (stops e before led) = ends_so p x start {Told = λ e. TellsOrEnds p supply (length x) told e} led refl low (inl before)
