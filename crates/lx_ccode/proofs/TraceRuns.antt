-- A run goes where its trace leads, while the steps are fewer than the count of a loop.
use Rattle.std.proofs.Common.{◌≡◌, ℕ, zero, suc, ◌+◌, ◌-◌, ◌*◌, ◌<◌, ◌≤◌, Bool, true, false, List, [], ◌∷◌, Option, Some, None, refl, sym, ap, ◌∙◌, arith, mul-le-mul_right}
use Rattle.std.specs.Prelude.{nat_le, if◌then◌else◌}
use Rattle.std.proofs.lemmas.Bool.{lt-leb}
use Rattle.lx_ccode.specs.declared.piece.Stmt.{Stmt}
use Rattle.lx_ccode.specs.declared.piece.Stmt.TheVariants.{Need, Try}
use Rattle.lx_ccode.specs.declared.piece.CodeBlock.{CodeBlock}
use Rattle.lx_ccode.specs.declared.piece.Piece.{Piece}
use Rattle.lx_ccode.specs.Effects.{machine_after}
use Rattle.lx_ccode.specs.Machine.{Machine, Refill, more, no_more, Answer, Outcome, refilled, left, units_of_all, Next, goes_on, ends, code_at, stored_block, jump, come_back, has_units, need, try, step}
use Rattle.lx_ccode.specs.Runs.{Ended, ended, loop_count, unless_looped, gone_on, run}
use Rattle.lx_ccode.specs.Statements.{is_refill, statement_count}
use Rattle.lx_ccode.specs.Traces.{traced, trace}
use Rattle.lx_ccode.proofs.Steps.{ChangesOnly-step}
use Rattle.lx_ccode.proofs.Traces.{end_of}

-- ---- the limit never falls

grows-jump : (low : ℕ) (target : Option (List Stmt)) (machine : Machine) (answers : List Answer) → low ≤ machine.limit
    → low ≤ (machine_after (jump target machine answers)).limit
grows-jump low None machine answers le = le
grows-jump low (Some code) machine answers le = le

grows-if : (low : ℕ) (test : Bool) (first second : Next) → low ≤ (machine_after first).limit → low ≤ (machine_after second).limit
    → low ≤ (machine_after (if test then first else second)).limit
grows-if low true first second le other = le
grows-if low false first second le other = other

grows-come_back : (low : ℕ) (blocks : List CodeBlock) (refills : List Refill) (machine : Machine) (answers : List Answer) → low ≤ machine.limit
    → low ≤ (machine_after (come_back blocks refills machine answers)).limit
grows-come_back low blocks refills machine answers le =
    grows-jump low (code_at blocks (stored_block blocks machine.state)) (record machine { unit = None; limit = machine.limit + units_of_all refills }) answers
    (omega (arith, le))

grows-need : (low : ℕ) (blocks : List CodeBlock) (units : ℕ) (rest : List Stmt) (machine : Machine) (answers : List Answer) → low ≤ machine.limit
    → low ≤ (machine_after (need blocks units rest machine answers)).limit
grows-need low blocks units rest machine [] le = grows-if low (has_units units machine) _ _ le le
grows-need low blocks units rest machine (refilled (more dropped added) ∷ answers) le =
    grows-if low (has_units units machine) _ _ le
    (grows-need low blocks units rest (record machine { limit = machine.limit + added }) answers (omega (arith, le)))
grows-need low blocks units rest machine (refilled no_more ∷ answers) le = grows-if low (has_units units machine) _ _ le le
grows-need low blocks units rest machine (left refills ∷ answers) le =
    grows-if low (has_units units machine) _ _ le (grows-come_back low blocks refills machine answers le)

grows-try : (low : ℕ) (blocks : List CodeBlock) (target : Option (List Stmt)) (rest : List Stmt) (machine : Machine) (answers : List Answer)
    → low ≤ machine.limit → low ≤ (machine_after (try blocks target rest machine answers)).limit
grows-try low blocks target rest machine [] le = le
grows-try low blocks target rest machine (refilled (more dropped added) ∷ answers) le = grows-jump low target _ answers (omega (arith, le))
grows-try low blocks target rest machine (refilled no_more ∷ answers) le = le
grows-try low blocks target rest machine (left refills ∷ answers) le = grows-come_back low blocks refills machine answers le

module _ (piece : Piece) (stream : List ℕ) where
  quiet : (statement : Stmt) (rest : List Stmt) (machine : Machine) (answers : List Answer) → is_refill statement ≡ false
      → machine.limit ≤ (machine_after (step piece stream statement rest machine answers)).limit
  quiet statement rest machine answers none =
      let same = (ChangesOnly-step piece stream rest machine answers statement).limit none in
      omega (arith, same)

  pub grows-step : (statement : Stmt) (rest : List Stmt) (machine : Machine) (answers : List Answer)
      → machine.limit ≤ (machine_after (step piece stream statement rest machine answers)).limit
  grows-step (Need units) rest machine answers = grows-need machine.limit piece.blocks units rest machine answers (omega arith)
  grows-step (Try block) rest machine answers =
      grows-try machine.limit piece.blocks (code_at piece.blocks (Some block)) rest machine answers (omega arith)
  grows-step statement rest machine answers = quiet statement rest machine answers refl

  module _ (start : ℕ) where
    loop_count-grows : (low high : ℕ) → low ≤ high → loop_count piece start low ≤ loop_count piece start high
    loop_count-grows low high le =
        let factor : 2 * ((low - start) + 2) ≤ 2 * ((high - start) + 2) = omega arith in
        mul-le-mul_right (statement_count piece.blocks) factor

    -- the run from here on is the one from where so many steps lead
    pub run-trace : (steps fuel fuels before behind : ℕ) (code next : List Stmt) (machine after : Machine) (answers others : List Answer)
        → (trace piece stream steps code machine answers).next ≡ goes_on next after others
        → fuels ≡ fuel + steps → behind ≡ before + steps → behind < loop_count piece start machine.limit
        → run piece stream start fuels before code machine answers ≡ run piece stream start fuel behind next after others
    run-trace zero fuel fuels before behind code next machine after answers others e f b lt =
        let same : fuels ≡ fuel = omega (arith, f) in
        let here : behind ≡ before = omega (arith, b) in
        ap (λ n. run piece stream start n before code machine answers) same
        ∙ ap (λ n. run piece stream start fuel n code machine answers) (sym here)
        ∙ ap (run_next fuel behind) e
      where
        run_next : (fuel behind : ℕ) → Next → Ended
        run_next fuel behind (goes_on code machine answers) = run piece stream start fuel behind code machine answers
        run_next fuel behind (ends outcome machine) = run piece stream start fuel behind [] machine []
    run-trace (suc steps) fuel fuels before behind [] next machine after answers others e f b lt = absurd cc
    run-trace (suc steps) fuel fuels before behind (statement ∷ rest) next machine after answers others e f b lt =
        let more : fuels ≡ suc (fuel + steps) = omega (arith, f) in
        ap (λ n. run piece stream start n before (statement ∷ rest) machine answers) more
        ∙ by (step piece stream statement rest machine answers) (grows-step statement rest machine answers) e
        (λ code m q le h.
        let mono = loop_count-grows machine.limit m.limit le in
        run-trace steps fuel (fuel + steps) (suc before) behind code next m after q others h refl (omega (arith, b)) (omega (arith, lt, mono)))
      where
        by : (n : Next) → machine.limit ≤ (machine_after n).limit
            → (traced piece stream statement (trace piece stream steps) n).next ≡ goes_on next after others
            → ((code : List Stmt) (m : Machine) (q : List Answer) → machine.limit ≤ m.limit
            → (trace piece stream steps code m q).next ≡ goes_on next after others
            → run piece stream start (fuel + steps) (suc before) code m q ≡ run piece stream start fuel behind next after others)
            → gone_on piece stream start (suc before) (run piece stream start (fuel + steps) (suc before)) n
            ≡ run piece stream start fuel behind next after others
        by (goes_on code m q) le e again =
            let mono = loop_count-grows machine.limit m.limit le in
            let below : nat_le (loop_count piece start m.limit) (suc before) ≡ false = lt-leb (loop_count piece start m.limit) (suc before) (omega (arith, b, lt, mono)) in
            ap (λ t. unless_looped piece stream start t (run piece stream start (fuel + steps) (suc before)) code m q) below
            ∙ again code m q le e
        by (ends outcome m) le e again = absurd cc

    -- the run ends as the trace does, where all its steps but the last are fewer than the count
    pub run-trace_end : (steps fuel fuels before : ℕ) (code : List Stmt) (machine after : Machine) (answers : List Answer) (outcome : Outcome)
        → (trace piece stream (suc steps) code machine answers).next ≡ ends outcome after
        → fuels ≡ suc (fuel + steps) → before + steps < loop_count piece start machine.limit
        → run piece stream start fuels before code machine answers ≡ ended outcome after
    run-trace_end steps fuel fuels before [] machine after answers outcome e f lt =
        ap (λ n. run piece stream start n before [] machine answers) f ∙ ap end_of e
    run-trace_end zero fuel fuels before (statement ∷ rest) machine after answers outcome e f lt =
        let one : fuels ≡ suc fuel = omega (arith, f) in
        ap (λ n. run piece stream start n before (statement ∷ rest) machine answers) one
        ∙ by (step piece stream statement rest machine answers) e
      where
        by : (n : Next) → (traced piece stream statement (trace piece stream 0) n).next ≡ ends outcome after
            → gone_on piece stream start (suc before) (run piece stream start fuel (suc before)) n ≡ ended outcome after
        by (goes_on code m q) e = absurd cc
        by (ends other m) e = ap end_of e
    run-trace_end (suc steps) fuel fuels before (statement ∷ rest) machine after answers outcome e f lt =
        let more : fuels ≡ suc (suc (fuel + steps)) = omega (arith, f) in
        ap (λ n. run piece stream start n before (statement ∷ rest) machine answers) more
        ∙ by (step piece stream statement rest machine answers) (grows-step statement rest machine answers) e
        (λ code m q le h.
        let mono = loop_count-grows machine.limit m.limit le in
        run-trace_end steps fuel (suc (fuel + steps)) (suc before) code m after q outcome h refl (omega (arith, lt, mono)))
      where
        by : (n : Next) → machine.limit ≤ (machine_after n).limit
            → (traced piece stream statement (trace piece stream (suc steps)) n).next ≡ ends outcome after
            → ((code : List Stmt) (m : Machine) (q : List Answer) → machine.limit ≤ m.limit
            → (trace piece stream (suc steps) code m q).next ≡ ends outcome after
            → run piece stream start (suc (fuel + steps)) (suc before) code m q ≡ ended outcome after)
            → gone_on piece stream start (suc before) (run piece stream start (suc (fuel + steps)) (suc before)) n ≡ ended outcome after
        by (goes_on code m q) le e again =
            let mono = loop_count-grows machine.limit m.limit le in
            let below : nat_le (loop_count piece start m.limit) (suc before) ≡ false = lt-leb (loop_count piece start m.limit) (suc before) (omega (arith, lt, mono)) in
            ap (λ t. unless_looped piece stream start t (run piece stream start (suc (fuel + steps)) (suc before)) code m q) below
            ∙ again code m q le e
        by (ends other m) le e again = ap end_of e
