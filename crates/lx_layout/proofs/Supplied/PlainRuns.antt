-- Where all units are there from the start, blocks that serve an automaton run as it does: the run ends with the automaton's match, under
-- every legal schedule.
use Rattle.std.specs.Prelude.{◌≡◌, ℕ, zero, suc, ◌+◌, ◌-◌, ◌*◌, ◌<◌, ◌≤◌, List, [], ◌∷◌, length, drop, Option, Some, None, true, nat_lt, nat_eq, refl, slice_get, if◌then◌else◌}
use Rattle.std.proofs.Common.{sym, ap, ◌∙◌, subst, arith, lt-ltb, length-drop}
use Rattle.std.specs.List.{AllByRecursion}
use Rattle.lx_auto.specs.Automaton.{IsAuto, edge_on, state_of}
use Rattle.lx_auto.specs.Bank.{Bank}
use Rattle.lx_auto.specs.Run.{Left, Standing, behind_edge, by_edge, found_behind, start_with}
use Rattle.lx_auto.specs.declared.automaton.Auto.{Auto}
use Rattle.lx_auto.specs.declared.automaton.Edge.{Edge}
use Rattle.lx_auto.specs.declared.automaton.State.{State}
use Rattle.lx_auto.proofs.States.{edge_on-leads, state_formed}
use Rattle.lx_ccode.specs.declared.piece.Piece.{Piece}
use Rattle.lx_ccode.specs.declared.piece.Stmt.{Stmt}
use Rattle.lx_ccode.specs.declared.piece.Stmt.TheVariants.{Goto, Peek}
use Rattle.lx_ccode.specs.Machine.{Answer, Machine, code_at, jump, peek, units_of_answers}
use Rattle.lx_ccode.specs.Runs.{entry_block, loop_count, run, run_in}
use Rattle.lx_ccode.specs.Schedules.{Schedule}
use Rattle.lx_ccode.specs.Statements.{code_of, statement_count}
use Rattle.lx_layout.specs.Endings.{Ending}
use Rattle.lx_layout.specs.Fallback.{edge_code}
use Rattle.lx_layout.specs.Halting.{Halting}
use Rattle.lx_layout.specs.Starts.{machine_with, run_with}
use Rattle.lx_layout.specs.Stops.{Stops, bank_from, last_standing, or_here, or_later, told_found}
use Rattle.lx_layout.specs.Supplied.{Serves}
use Rattle.lx_layout.specs.Supplies.{Supply}
use Rattle.lx_dispatch.specs.TestTrees.{picked}
use Rattle.lx_layout.specs.TreeCodes.{inner_blocks, tree_code}
use Rattle.lx_layout.proofs.BlockLayouts.CodesInBlocks.{length-block, length-with_row}
use Rattle.lx_layout.proofs.BlockLayouts.Questions.{FitsTable}
use Rattle.lx_layout.proofs.BlockLayouts.TreeCodes.{inner_blocks-read, tree_length}
use Rattle.lx_layout.proofs.Runs.PartialRuns.{EndsIn, LeadsIn, end_in, loop_count-mono, stays_in, step_in, then_in, widen}
use Rattle.lx_layout.proofs.Runs.OperationSteps.{machine_at, raised-shift, tree_run}
use Rattle.lx_layout.proofs.Runs.UnitsLeft.{left_unit}
use Rattle.lx_layout.proofs.Supplied.PlainServing.{ReadsPlain, by_jump, by_tests, itself, plain_state}
use Rattle.lx_layout.proofs.Supplied.SufficientUnits.{HoldsAs, HoldsAs-edge, bank_behind, left_behind}
use Rattle.lx_layout.proofs.Supplied.StateRuns.{Has, Target, all, at, edge_run, stop_run, target_code}
use Rattle.lx_layout.specs.Codes.{saved_by}

module _ (p : Piece) (x : List ℕ) (start : ℕ) (supply : Supply) (halting : Halting) (endings : ℕ → Ending) (greatest : ℕ) (auto : Auto)
    (place : ℕ → ℕ) (saved : Option (ℕ → ℕ)) (rules : ℕ → ℕ) (fall : ℕ) (serves : Serves supply halting endings greatest auto (code_of p.blocks) place saved rules fall None)
    (no_end : supply.eof ≡ None) (unchecked : (number : ℕ) → supply.check number ≡ 0) (fits : FitsTable supply.among p) (formed : IsAuto auto) (first : Option ℕ) (cond : List ℕ) where
  abbrev Reads : ℕ → Type 0
  Reads number = ReadsPlain supply halting endings greatest auto (code_of p.blocks) place saved rules fall number (state_of auto.states number)

  reads : (number : ℕ) → number < length auto.states → Reads number
  reads number lt =
      plain_state supply halting endings greatest auto (code_of p.blocks) place saved rules fall no_end unchecked number (serves.states number lt refl)

  abbrev Have : ℕ → List Stmt → Type 0
  Have block code = Has p x start supply halting endings greatest auto place saved rules fall None serves formed first cond (length x) None block code

  abbrev To : (s : ℕ) → Option Edge → ℕ → Type 0
  To s o block = Target p x start supply halting endings greatest auto place saved rules fall None serves formed first cond (length x) None s o block

  abbrev mach : (pos : ℕ) → (held : Option Left) → (u : Option ℕ) → Bank → Machine
  mach pos held u k = at p x start supply halting endings greatest auto place saved rules fall None serves formed first cond (length x) None pos held u k

  abbrev size : ℕ
  size = all p x start supply halting endings greatest auto place saved rules fall None serves formed first cond (length x) None

  -- what a state's block leads to on a unit
  record Entered (s : ℕ) (o : Option Edge) (code : List Stmt) (pos : ℕ) (held : Option Left) (u : Option ℕ) (k : Bank)
      (q : List Answer) : Type 0 where
    block : ℕ
    to : List Stmt
    target : To s o block
    has : Have block to
    unit : Option ℕ
    leads : LeadsIn p x start size code (mach pos held u k) q to (mach pos held unit k) q

  enter : (s pos v : ℕ) (code : List Stmt) (held : Option Left) (u : Option ℕ) (k : Bank) (q : List Answer)
      → Reads s → Have (place s) code
      → s < length auto.states → slice_get x pos ≡ Some v → pos < length x → v ≤ greatest
      → Entered s (edge_on (state_of auto.states s).edges v) code pos held u k q
  enter s pos v code held u k q (itself leads) has known ev lt within =
      record { block = place s; to = code; target = leads v within; has = has; unit = u; leads = stays_in p x start size code (mach pos held u k) q }
  enter s pos v code held u k q (by_jump block is leads) has known ev lt within =
      let to = target_code p x start supply halting endings greatest auto place saved rules fall None serves formed first cond (length x) None s (edge_on (state_of auto.states s).edges v) block known (leads v within) in
      let c : code ≡ Goto block ∷ [] = cc in
      let n = length-block (code_of p.blocks) (place s) (Goto block ∷ []) is in
      let h = step_in p x start {s = Goto block} {b = []} {m = mach pos held u k} {q = q} (ap (λ o. jump o (mach pos held u k) q) to.1)
      (omega arith) in
      record {
        block = block;
        to = to.0;
        target = leads v within;
        has = to.1;
        unit = u;
        leads = subst (λ z. LeadsIn p x start size z (mach pos held u k) q to.0 (mach pos held u k) q) (sym c)
            (widen p x start size h (omega (arith, n)));
      }
  enter s pos v code held u k q (by_tests tree next is stands leads) has known ev lt within =
      let to = target_code p x start supply halting endings greatest auto place saved rules fall None serves formed first cond (length x) None s (edge_on (state_of auto.states s).edges v) (picked supply.among tree v) known (leads v within) in
      let rest : List Stmt = tree_code next tree in
      let c : code ≡ Peek ∷ tree_code next tree = cc in
      let n = length-with_row (code_of p.blocks) (place s) (Peek ∷ tree_code next tree) next (inner_blocks next tree) is stands
      (inner_blocks-read next tree (tree_code next tree)) in
      let t : nat_lt pos (length x) ≡ true = lt-ltb pos (length x) lt in
      let h = step_in p x start {s = Peek} {b = tree_code next tree} {m = mach pos held u k} {m' = mach pos held (Some v) k} {q = q}
      (ap (λ t. peek (if t then slice_get x pos else (if nat_eq pos (length x) then p.eof else None)) rest (mach pos held u k) q) t
      ∙ ap (λ o. peek o rest (mach pos held u k) q) ev) (omega arith) in
      let g = tree_run p x start supply.among fits tree next v to.0 (mach pos held (Some v) k) q refl stands to.1 in
      record {
        block = picked supply.among tree v;
        to = to.0;
        target = leads v within;
        has = to.1;
        unit = Some v;
        leads = subst (λ z. LeadsIn p x start size z (mach pos held u k) q to.0 (mach pos held (Some v) k) q) (sym c)
            (widen p x start size (then_in p x start (suc (tree_length next tree)) h g (omega arith)) (omega (arith, n)));
      }

  -- each state has a block
  state_code : (s : ℕ) → s < length auto.states → (code : List Stmt) × Have (place s) code
  state_code s lt = by (reads s lt)
    where
      by : Reads s
          → (code : List Stmt) × Have (place s) code
      by (by_tests tree next is stands leads) = (Peek ∷ tree_code next tree, is)
      by (by_jump block is leads) = (Goto block ∷ [], is)
      by (itself leads) = target_code p x start supply halting endings greatest auto place saved rules fall None serves formed first cond (length x) None s (edge_on (state_of auto.states s).edges 0) (place s) lt (leads 0 (omega arith))

  -- the end of the run from a state's block on
  abbrev Simulated : List ℕ → Standing → Type 0
  Simulated w st = (code : List Stmt) (held : Option Left) (u : Option ℕ) (k : Bank) (q : List Answer) → Have (place st.state) code
      → HoldsAs halting auto st held k → w ≡ drop st.offset x → AllByRecursion (λ unit. unit ≤ greatest) w → Stops auto st w
      → EndsIn p x start (length w * (2 * size) + 2 * size) code (mach st.offset held u k) q
      (told_found endings cond (found_behind auto (last_standing auto st w)) (last_standing auto st w).offset)

  simulation : (w : List ℕ) (st : Standing) → Simulated w st
  simulation [] st code held u k q has holds left within stops = absurd stops
  simulation (v ∷ w) st code held u k q has holds left within stops =
      by (edge_on (state_of auto.states st.state).edges v) refl entered stops (λ next. simulation w next)
    where
      unit_here : (st.offset < length x) × (slice_get x st.offset ≡ Some v) × (w ≡ drop (suc st.offset) x)
      unit_here = left_unit st.offset v w x left

      entered : Entered st.state (edge_on (state_of auto.states st.state).edges v) code st.offset held u k q
      entered = enter st.state st.offset v code held u k q (reads st.state holds.state) has holds.state unit_here.1 unit_here.0 within.0

      by : (o : Option Edge) → edge_on (state_of auto.states st.state).edges v ≡ o → Entered st.state o code st.offset held u k q
          → or_later (by_edge (state_of auto.states st.state) st o) (λ next. Stops auto next w) → ((next : Standing) → Simulated w next)
          → EndsIn p x start (suc (length w) * (2 * size) + 2 * size) code (mach st.offset held u k) q
          (told_found endings cond (found_behind auto (or_here st (by_edge (state_of auto.states st.state) st o) (λ next. last_standing auto next w)))
          (or_here st (by_edge (state_of auto.states st.state) st o) (λ next. last_standing auto next w)).offset)
      by None on entered stops again =
          let g = stop_run p x start supply halting endings greatest auto place saved rules fall None serves formed first cond
          (length x) None st.state entered.block st.offset entered.to st.left held entered.unit k st.bank q
          holds.state entered.target entered.has holds.agrees holds.found holds.same holds.fresh in
          end_in p x start (suc (length w) * (2 * size) + 2 * size) entered.leads g (omega arith)
      by (Some edge) on entered stops again =
          let state : State = state_of auto.states st.state in
          let formed_state = state_formed auto st.state formed in
          let leads = edge_on-leads auto.regs auto.mregs (length auto.states) state.edges v edge formed_state.lead on in
          let next : Standing = behind_edge (state_of auto.states st.state) st edge in
          let next_code = state_code edge.to leads.0 in
          let block_code : List Stmt = edge_code halting auto (state_of auto.states st.state) (saved_by saved st.state) edge (place edge.to) in
          let is : slice_get (code_of p.blocks) entered.block ≡ Some block_code = entered.target in
          let has' : slice_get (code_of p.blocks) entered.block ≡ Some entered.to = entered.has in
          let c : entered.to ≡ block_code = cc in
          let n = length-block (code_of p.blocks) entered.block block_code is in
          let f = edge_run p x start supply halting endings greatest auto place saved rules fall None serves formed first cond
          (length x) None edge next_code.0 st.state st.offset held entered.unit k q
          leads.1 next_code.1 unit_here.0 in
          let l = subst (λ z. LeadsIn p x start size code (mach st.offset held u k) q z
          (mach st.offset held entered.unit k) q) c entered.leads in
          let k1 : Bank = bank_behind auto st.state st.offset edge k in
          let held1 : Option Left = left_behind halting auto st.state st.offset edge held in
          let rest = again next next_code.0 held1 entered.unit k1 q next_code.1
          (HoldsAs-edge halting auto st held k v edge formed serves.onward holds on) unit_here.2 within.1 stops in
          end_in p x start (suc (length w) * (2 * size) + 2 * size) l
          (end_in p x start (size + (length w * (2 * size) + 2 * size)) f rest (omega (arith, n))) (omega arith)

-- in no step nothing ends
some_size : (l n steps : ℕ) → steps < l * (2 * n) + 2 * n → 0 < n
some_size l zero steps few = let none : l * (2 * 0) ≡ 0 = omega arith in absurd (omega (arith, few, none))
some_size l (suc n) steps few = omega arith

fits_within : (l d n : ℕ) → l ≡ d → 0 < n → l * (2 * n) + 2 * n < 2 * (d + 2) * n
fits_within l d n e h = let g : l * (2 * n) ≡ d * (2 * n) = ap (λ k. k * (2 * n)) e in omega (arith, g)

-- the run of a match is the automaton's
pub plain_found : (p : Piece) (x : List ℕ) (start : ℕ) (supply : Supply) (halting : Halting) (endings : ℕ → Ending) (greatest : ℕ) (auto : Auto)
    (place : ℕ → ℕ) (saved : Option (ℕ → ℕ)) (rules : ℕ → ℕ) (fall : ℕ) → Serves supply halting endings greatest auto (code_of p.blocks) place saved rules fall None
    → supply.eof ≡ None → ((number : ℕ) → supply.check number ≡ 0) → FitsTable supply.among p → IsAuto auto → (cond : List ℕ)
    → entry_block p.conds cond ≡ Some (place 0)
    → start ≤ length x → AllByRecursion (λ unit. unit ≤ greatest) (drop start x)
    → (registers : ℕ → Option ℕ) (histories : ℕ → List (Option ℕ)) → Stops auto (start_with start (bank_from registers histories)) (drop start x)
    → (schedule : Schedule) → schedule.first ≡ length x
    → run_with p x start registers histories cond schedule
    ≡ told_found endings cond (found_behind auto (last_standing auto (start_with start (bank_from registers histories)) (drop start x)))
    (last_standing auto (start_with start (bank_from registers histories)) (drop start x)).offset
unfolding run_with
plain_found p x start supply halting endings greatest auto place saved rules fall serves no_end unchecked fits formed cond entry le within registers histories stops schedule whole =
    let w : List ℕ = drop start x in
    let size : ℕ = statement_count p.blocks in
    let q : List Answer = schedule.answers in
    let k : Bank = bank_from registers histories in
    let st : Standing = start_with start (bank_from registers histories) in
    let m : Machine = machine_with registers histories start schedule.first cond in
    let fuel : ℕ = loop_count p start (schedule.first + units_of_answers schedule.answers) in
    let code = state_code p x start supply halting endings greatest auto place saved rules fall serves no_end unchecked fits formed (registers 0) cond 0 formed.start in
    let found : code_at p.blocks (entry_block p.conds cond) ≡ Some code.0 = ap (λ o. code_at p.blocks o) entry ∙ code.1 in
    let h = simulation p x start supply halting endings greatest auto place saved rules fall serves no_end unchecked fits formed
    (registers 0) cond w st code.0 None None k q code.1
    (record {
      state = formed.start;
      found = tt;
      same = λ falls. refl;
      fresh = λ none falls. falls;
      agrees = record { same = λ r lt. refl; alike = λ r lt. refl };
    }) refl within stops in
    let n = some_size (length w) (statement_count p.blocks) h.steps h.few in
    let lw : length w ≡ length x - start = length-drop start x in
    let mono : loop_count p start (length x) ≤ fuel = loop_count-mono p x start (length x) (schedule.first + units_of_answers schedule.answers)
    (omega arith) in
    let prod : length w * (2 * size) + 2 * size < loop_count p start (length x) = fits_within (length w) (length x - start) size lw n in
    let f : ℕ = fuel - suc h.steps in
    let go = h.ends.by f fuel 0 (omega (arith, h.few, prod, mono)) (omega (arith, h.few, prod)) in
    let em : m ≡ machine_at start start (length x) None 0 None (registers 0) k cond [] =
    ap (λ l. machine_with registers histories start l cond) whole
    ∙ ap (λ g. machine_with g histories start (length x) cond) (sym (raised-shift registers)) in
    ap (λ o. run_in p x start o m q) found ∙ ap (λ m. run p x start fuel 0 code.0 m q) em ∙ go
