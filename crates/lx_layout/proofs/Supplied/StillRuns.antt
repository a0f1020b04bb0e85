-- Where a piece reads no unit and passes none, a match ends where it begins, however many units are there.
use Rattle.std.specs.Prelude.{◌≡◌, ℕ, suc, ◌+◌, ◌-◌, ◌*◌, ◌≤◌, Bool, true, false, ◌||◌, List, [], ◌∷◌, drop, Option, Some, None, refl}
use Rattle.std.proofs.Common.{sym, ap, ◌∙◌, subst, arith, mul-le-mul_right, true≢false}
use Rattle.std.proofs.Math.Bool.{or-true}
use Rattle.std.specs.List.{AllByRecursion, list_any}
use Rattle.lx_auto.specs.Automaton.{IsAuto, edge_on, state_of}
use Rattle.lx_auto.specs.Bank.{Bank}
use Rattle.lx_auto.specs.Run.{Standing, by_edge, found_behind, start_with}
use Rattle.lx_auto.specs.declared.automaton.Auto.{Auto}
use Rattle.lx_auto.specs.declared.automaton.Edge.{Edge}
use Rattle.lx_auto.specs.declared.automaton.State.{State}
use Rattle.lx_auto.specs.declared.ops.Op.{Op}
use Rattle.lx_ccode.specs.declared.piece.Piece.{Piece}
use Rattle.lx_ccode.specs.declared.piece.Stmt.{Stmt}
use Rattle.lx_ccode.specs.declared.piece.Stmt.TheVariants.{Goto, Peek, Skip}
use Rattle.lx_ccode.specs.Machine.{Answer, Machine, code_at, jump, units_of_answers}
use Rattle.lx_ccode.specs.Runs.{entry_block, loop_count, run, run_in}
use Rattle.lx_ccode.specs.Schedules.{Schedule}
use Rattle.lx_ccode.specs.Statements.{all_statements, code_of, is_reading, statement_count}
use Rattle.lx_sequence.specs.ParallelCopies.{sequentialized}
use Rattle.lx_layout.specs.Codes.{list_code, op_code, ops_code, save_code, saved_by}
use Rattle.lx_layout.specs.Endings.{Ending}
use Rattle.lx_layout.specs.Fallback.{edge_code}
use Rattle.lx_layout.specs.Halting.{Halting, saves_on}
use Rattle.lx_layout.specs.Starts.{machine_with, run_with}
use Rattle.lx_layout.specs.Stops.{Stops, bank_from, last_standing, or_here, told_found}
use Rattle.lx_layout.specs.Supplied.{Serves}
use Rattle.lx_layout.specs.Supplies.{Supply}
use Rattle.lx_layout.specs.TreeCodes.{tree_code}
use Rattle.lx_layout.proofs.BlockLayouts.CodesInBlocks.{length-block}
use Rattle.lx_layout.proofs.Runs.OperationSteps.{machine_at, raised-shift}
use Rattle.lx_layout.proofs.Runs.PartialRuns.{EndsIn, end_in, loop_count-mono, step_in, widen_end}
use Rattle.lx_layout.proofs.Supplied.PlainServing.{ReadsPlain, by_jump, by_tests, itself, plain_state}
use Rattle.lx_layout.proofs.Supplied.Readers.{any_block}
use Rattle.lx_layout.proofs.Supplied.StateRuns.{Has, Target, stop_run, target_code}

-- ---- each edge passes a unit

reads_ops : (ops : List Op) (rest : List Stmt) → list_any is_reading rest ≡ true → list_any is_reading (ops_code ops rest) ≡ true
reads_ops [] rest reads = reads
reads_ops (op ∷ ops) rest reads =
    ap (λ t. is_reading (op_code op) || t) (reads_ops ops rest reads) ∙ or-true (is_reading (op_code op))

reads_save : (saves : Bool) (saved : Option ℕ) (rest : List Stmt) → list_any is_reading rest ≡ true → list_any is_reading (save_code saves saved rest) ≡ true
reads_save false saved rest reads = reads
reads_save true None rest reads = reads
reads_save true (Some number) rest reads = reads

pub reads_edge : (halting : Halting) (auto : Auto) (given : State) (saved : Option ℕ) (edge : Edge) (block : ℕ)
    → list_any is_reading (edge_code halting auto given saved edge block) ≡ true
reads_edge halting auto given saved edge block =
    let last : List Stmt = Skip ∷ Goto block ∷ [] in
    reads_save (saves_on halting given edge) saved (list_code auto given.leave (list_code auto edge.ops (Skip ∷ Goto block ∷ [])))
    (reads_ops (sequentialized auto.regs auto.mregs given.leave) (list_code auto edge.ops (Skip ∷ Goto block ∷ []))
    (reads_ops (sequentialized auto.regs auto.mregs edge.ops) last refl))

module _ (p : Piece) (x : List ℕ) (start : ℕ) (supply : Supply) (halting : Halting) (endings : ℕ → Ending) (greatest : ℕ) (auto : Auto)
    (place : ℕ → ℕ) (saved : Option (ℕ → ℕ)) (rules : ℕ → ℕ) (fall : ℕ) (serves : Serves supply halting endings greatest auto (code_of p.blocks) place saved rules fall None)
    (no_end : supply.eof ≡ None) (unchecked : (number : ℕ) → supply.check number ≡ 0) (formed : IsAuto auto) (first : Option ℕ) (cond : List ℕ)
    (still : list_any is_reading (all_statements p.blocks) ≡ false) (lim : ℕ) where
  abbrev Have : ℕ → List Stmt → Type 0
  Have block code = Has p x start supply halting endings greatest auto place saved rules fall None serves formed first cond lim None block code

  abbrev To : Option Edge → ℕ → Type 0
  To o block = Target p x start supply halting endings greatest auto place saved rules fall None serves formed first cond lim None 0 o block

  abbrev size : ℕ
  size = statement_count p.blocks

  abbrev here : Bank → Machine
  here k = machine_at start start lim None 0 None first k cond []

  -- no block has a statement that reads
  none_reads : (block : ℕ) (code : List Stmt) → Have block code → list_any is_reading code ≡ true → ⊥
  none_reads block code has reads = true≢false (sym (any_block is_reading p.blocks block code has reads) ∙ still)

  no_edge : (o : Option Edge) (block : ℕ) → To o block → o ≡ None
  no_edge None block target = refl
  no_edge (Some edge) block target =
      absurd (none_reads block (edge_code halting auto (state_of auto.states 0) (saved_by saved 0) edge (place edge.to)) target
      (reads_edge halting auto (state_of auto.states 0) (saved_by saved 0) edge (place edge.to)))

  -- what comes of state 0 on a unit: it has no edge, and the match ends
  record Stays (o : Option Edge) (code : List Stmt) (k : Bank) (q : List Answer) : Type 0 where
    none : o ≡ None
    ends : EndsIn p x start (4 * size) code (here k) q
        (told_found endings cond (found_behind auto (start_with start k)) start)

  stop : (o : Option Edge) (block : ℕ) (code : List Stmt) (k : Bank) (q : List Answer) → To o block → Have block code
      → EndsIn p x start (3 * size) code (here k) q (told_found endings cond (found_behind auto (start_with start k)) start)
  stop o block code k q target has =
      stop_run p x start supply halting endings greatest auto place saved rules fall None serves formed first cond lim None 0 block start code None None None k k q
      formed.start (subst (λ o. To o block) (no_edge o block target) target) has (record { same = λ r lt. refl; alike = λ r lt. refl }) tt (λ falls. refl)
      (λ none falls. falls)

  stays : (o : Option Edge) (code : List Stmt) (k : Bank) (q : List Answer) (v : ℕ) → v ≤ greatest
      → ReadsPlain supply halting endings greatest auto (code_of p.blocks) place saved rules fall 0 (state_of auto.states 0)
      → edge_on (state_of auto.states 0).edges v ≡ o → Have (place 0) code → Stays o code k q
  stays o code k q v within (itself leads) on has =
      let target : To o (place 0) = subst (λ o. To o (place 0)) on (leads v within) in
      record {
        none = no_edge o (place 0) target;
        ends = widen_end p x start (4 * size) (stop o (place 0) code k q target has) (omega arith);
      }
  stays o code k q v within (by_jump block is leads) on has =
      let target : To o block = subst (λ o. To o block) on (leads v within) in
      let to = target_code p x start supply halting endings greatest auto place saved rules fall None serves formed first cond lim None 0 o block formed.start target in
      let c : code ≡ Goto block ∷ [] = cc in
      let n = length-block (code_of p.blocks) (place 0) (Goto block ∷ []) is in
      let h = step_in p x start {s = Goto block} {b = []} {m = here k} {q = q} (ap (λ o. jump o (here k) q) to.1) (omega arith) in
      record {
        none = no_edge o block target;
        ends = subst (λ z. EndsIn p x start (4 * size) z (here k) q (told_found endings cond (found_behind auto (start_with start k)) start)) (sym c)
            (end_in p x start (4 * size) h (stop o block to.0 k q target to.1) (omega (arith, n)));
      }
  stays o code k q v within (by_tests tree next is row leads) on has =
      absurd (none_reads (place 0) (Peek ∷ tree_code next tree) is refl)

  entry_code : ReadsPlain supply halting endings greatest auto (code_of p.blocks) place saved rules fall 0 (state_of auto.states 0)
      → (code : List Stmt) × Have (place 0) code
  entry_code (by_tests tree next is row leads) = (Peek ∷ tree_code next tree, is)
  entry_code (by_jump block is leads) = (Goto block ∷ [], is)
  entry_code (itself leads) =
      target_code p x start supply halting endings greatest auto place saved rules fall None serves formed first cond lim None 0 (edge_on (state_of auto.states 0).edges 0) (place 0) formed.start
      (leads 0 (omega arith))

  abbrev StaysHere : (code : List Stmt) → Bank → List Answer → List ℕ → Type 0
  StaysHere code k q w =
      EndsIn p x start (4 * size) code (here k) q
      (told_found endings cond (found_behind auto (last_standing auto (start_with start k) w)) (last_standing auto (start_with start k) w).offset)

  pub still_run : (w : List ℕ) (k : Bank) (q : List Answer) → AllByRecursion (λ unit. unit ≤ greatest) w → Stops auto (start_with start k) w
      → (code : List Stmt) × Have (place 0) code × StaysHere code k q w
  still_run [] k q within stops = absurd stops
  still_run (v ∷ w) k q within stops =
      let reads = plain_state supply halting endings greatest auto (code_of p.blocks) place saved rules fall no_end unchecked 0 (serves.states 0 formed.start refl) in
      let code = entry_code reads in
      let st : Standing = start_with start k in
      let h = stays (edge_on (state_of auto.states 0).edges v) code.0 k q v within.0 reads refl code.1 in (
        code.0,
        code.1,
        subst (λ o. EndsIn p x start (4 * size) code.0 (here k) q
            (told_found endings cond (found_behind auto (or_here st (by_edge (state_of auto.states 0) st o) (λ next. last_standing auto next w)))
            (or_here st (by_edge (state_of auto.states 0) st o) (λ next. last_standing auto next w)).offset)) (sym h.none) h.ends,
      )

-- the run of a match is the automaton's
pub still_found : (p : Piece) (x : List ℕ) (start : ℕ) (supply : Supply) (halting : Halting) (endings : ℕ → Ending) (greatest : ℕ) (auto : Auto)
    (place : ℕ → ℕ) (saved : Option (ℕ → ℕ)) (rules : ℕ → ℕ) (fall : ℕ) → Serves supply halting endings greatest auto (code_of p.blocks) place saved rules fall None
    → supply.eof ≡ None → ((number : ℕ) → supply.check number ≡ 0) → IsAuto auto → (cond : List ℕ) → entry_block p.conds cond ≡ Some (place 0)
    → list_any is_reading (all_statements p.blocks) ≡ false → AllByRecursion (λ unit. unit ≤ greatest) (drop start x)
    → (registers : ℕ → Option ℕ) (histories : ℕ → List (Option ℕ)) → Stops auto (start_with start (bank_from registers histories)) (drop start x)
    → (schedule : Schedule) → run_with p x start registers histories cond schedule
    ≡ told_found endings cond (found_behind auto (last_standing auto (start_with start (bank_from registers histories)) (drop start x)))
    (last_standing auto (start_with start (bank_from registers histories)) (drop start x)).offset
unfolding run_with
still_found p x start supply halting endings greatest auto place saved rules fall serves no_end unchecked formed cond entry still within registers histories stops schedule =
    let size : ℕ = statement_count p.blocks in
    let q : List Answer = schedule.answers in
    let k : Bank = bank_from registers histories in
    let m : Machine = machine_with registers histories start schedule.first cond in
    let fuel : ℕ = loop_count p start (schedule.first + units_of_answers schedule.answers) in
    let h = still_run p x start supply halting endings greatest auto place saved rules fall serves no_end unchecked formed (registers 0) cond still schedule.first
    (drop start x) k q within stops in
    let found : code_at p.blocks (entry_block p.conds cond) ≡ Some h.0 = ap (λ o. code_at p.blocks o) entry ∙ h.1 in
    let few : 4 * size ≤ loop_count p start schedule.first =
    let two : 4 ≤ 2 * ((schedule.first - start) + 2) = omega arith in mul-le-mul_right (statement_count p.blocks) two in
    let mono : loop_count p start schedule.first ≤ fuel = loop_count-mono p x start schedule.first (schedule.first + units_of_answers schedule.answers)
    (omega arith) in
    let f : ℕ = fuel - suc h.2.steps in
    let go = h.2.ends.by f fuel 0 (omega (arith, h.2.few, few, mono)) (omega (arith, h.2.few, few)) in
    let em : m ≡ machine_at start start schedule.first None 0 None (registers 0) k cond [] =
    ap (λ g. machine_with g histories start schedule.first cond) (sym (raised-shift registers)) in
    ap (λ o. run_in p x start o m q) found ∙ ap (λ m. run p x start fuel 0 h.0 m q) em ∙ go
