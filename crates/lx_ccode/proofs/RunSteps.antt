-- The run of a match under a schedule is the one that its steps make, and no other.
use Rattle.std.proofs.Common.{◌≡◌, ℕ, zero, suc, ◌+◌, ◌-◌, ◌*◌, ◌<◌, ◌≤◌, Bool, true, false, List, [], ◌∷◌, Some, refl, sym, ap, subst, ◌∙◌, arith}
use Rattle.std.specs.Prelude.{nat_le}
use Rattle.std.proofs.lemmas.Bool.{false≢true, leb-false}
use Rattle.std.proofs.Math.Nat.{mul-le-mul_left, mul-le-mul_right}
use Rattle.lx_ccode.specs.declared.piece.Stmt.{Stmt}
use Rattle.lx_ccode.specs.declared.piece.Piece.{Piece}
use Rattle.lx_ccode.specs.Statements.{statement_count}
use Rattle.lx_ccode.specs.Machine.{Machine, Answer, units_of_answers, looped, Next, goes_on, ends, code_at, step}
use Rattle.lx_ccode.specs.Schedules.{Schedule}
use Rattle.lx_ccode.specs.Runs.{Ended, ended, loop_count, fresh_machine, entry_block, gone_on, run, run_of, IsRun, no_code, last_step, loop_step, next_step}
use Rattle.lx_ccode.proofs.Steps.{units_after, units_after-step}

loop_count-more : (piece : Piece) (start limit more : ℕ) → loop_count piece start limit ≤ loop_count piece start (limit + more)
loop_count-more piece start limit more =
    let grows : (limit - start) + 2 ≤ ((limit + more) - start) + 2 = omega arith in
    mul-le-mul_right (statement_count piece.blocks) (mul-le-mul_left 2 grows)

pub loop_count-some : (piece : Piece) (start limit : ℕ) → 0 < statement_count piece.blocks → 0 < loop_count piece start limit
loop_count-some piece start limit some =
    let factor : 1 ≤ 2 * ((limit - start) + 2) = omega arith in
    let product = mul-le-mul_right (statement_count piece.blocks) factor in
    omega (arith, product)

module _ (piece : Piece) (stream : List ℕ) (start : ℕ) where
  -- what is left to come after a step that goes on
  units_kept : (statement : Stmt) (rest code : List Stmt) (machine after : Machine) (answers others : List Answer)
      → step piece stream statement rest machine answers ≡ goes_on code after others
      → after.limit + units_of_answers others ≡ machine.limit + units_of_answers answers
  units_kept statement rest code machine after answers others e =
      ap (units_after (machine.limit + units_of_answers answers)) (sym e) ∙ units_after-step piece stream rest machine answers statement

  -- the run behind a step
  abbrev behind_step : (fuel steps : ℕ) → List Stmt → Machine → List Answer → Ended
  behind_step fuel steps = run piece stream start fuel (suc steps)

  -- the run behind a step is one that the steps make
  abbrev GoesOn : (fuel steps : ℕ) → Type 0
  GoesOn fuel steps = (code : List Stmt) (machine : Machine) (answers : List Answer) → loop_count piece start (machine.limit + units_of_answers answers) ≤ suc steps + fuel
      → suc steps < loop_count piece start machine.limit
      → IsRun piece stream start (suc steps) code machine answers (behind_step fuel steps code machine answers)

  module _ (fuel steps : ℕ) (statement : Stmt) (rest : List Stmt) (machine : Machine) (answers : List Answer) where
    abbrev RunsTo : Ended → Type 0
    RunsTo end = IsRun piece stream start steps (statement ∷ rest) machine answers end

    by_count : (code : List Stmt) (after : Machine) (others : List Answer) (test : Bool)
        → loop_count piece start (machine.limit + units_of_answers answers) ≤ steps + suc fuel → GoesOn fuel steps
        → step piece stream statement rest machine answers ≡ goes_on code after others
        → nat_le (loop_count piece start after.limit) (suc steps) ≡ test
        → RunsTo (gone_on piece stream start (suc steps) (behind_step fuel steps) (goes_on code after others))
    by_count code after others true enough again e test = subst RunsTo (rw test refl) (loop_step e test)
    by_count code after others false enough again e test =
        let kept = units_kept statement rest code machine after answers others e in
        let same : loop_count piece start (after.limit + units_of_answers others) ≡ loop_count piece start (machine.limit + units_of_answers answers) = ap (loop_count piece start) kept in
        let enough' : loop_count piece start (after.limit + units_of_answers others) ≤ suc steps + fuel = omega (arith, same, enough) in
        subst RunsTo (rw test refl) (next_step e test (again code after others enough' (leb-false _ _ test)))

    by_next : (next : Next) → loop_count piece start (machine.limit + units_of_answers answers) ≤ steps + suc fuel → GoesOn fuel steps
        → step piece stream statement rest machine answers ≡ next
        → RunsTo (gone_on piece stream start (suc steps) (behind_step fuel steps) (step piece stream statement rest machine answers))
    by_next (ends outcome after) enough again e = subst RunsTo (ap (gone_on piece stream start (suc steps) (behind_step fuel steps)) (sym e)) (last_step e)
    by_next (goes_on code after others) enough again e =
        subst RunsTo (ap (gone_on piece stream start (suc steps) (behind_step fuel steps)) (sym e))
        (by_count code after others (nat_le (loop_count piece start after.limit) (suc steps)) enough again e refl)

  -- with fuel up to the count of a loop at the last limit, the fuel never runs out
  pub IsRun-run : (fuel steps : ℕ) (code : List Stmt) (machine : Machine) (answers : List Answer)
      → loop_count piece start (machine.limit + units_of_answers answers) ≤ steps + fuel → steps < loop_count piece start machine.limit
      → IsRun piece stream start steps code machine answers (run piece stream start fuel steps code machine answers)
  IsRun-run zero steps code machine answers enough few =
      let more = loop_count-more piece start machine.limit (units_of_answers answers) in
      absurd (omega (arith, more, enough, few))
  IsRun-run (suc fuel) steps [] machine answers enough few = no_code
  IsRun-run (suc fuel) steps (statement ∷ rest) machine answers enough few =
      by_next fuel steps statement rest machine answers (step piece stream statement rest machine answers) enough
      (λ code after others enough' few'. IsRun-run fuel (suc steps) code after others enough' few') refl

  -- the run under a schedule is one that the steps make
  pub IsRun-run_of : (cond : List ℕ) (schedule : Schedule) (code : List Stmt) → 0 < statement_count piece.blocks
      → code_at piece.blocks (entry_block piece.conds cond) ≡ Some code
      → IsRun piece stream start 0 code (fresh_machine start schedule.first cond) schedule.answers (run_of piece stream start cond schedule)
  unfolding run_of
  IsRun-run_of cond schedule code some entry =
      rw entry (IsRun-run (loop_count piece start (schedule.first + units_of_answers schedule.answers)) 0 code (fresh_machine start schedule.first cond) schedule.answers (omega arith) (loop_count-some piece start schedule.first some))

  -- a run behind a step, where the step goes on
  abbrev RunBehind : ℕ → Next → Ended → Type 0
  RunBehind steps (goes_on code machine answers) end = IsRun piece stream start steps code machine answers end
  RunBehind steps (ends outcome machine) end = ⊥

  abbrev end_of : Next → Ended
  end_of (goes_on code machine answers) = ended looped machine
  end_of (ends outcome machine) = ended outcome machine

  abbrev is_looped : ℕ → Next → Bool
  is_looped steps (goes_on code machine answers) = nat_le (loop_count piece start machine.limit) (suc steps)
  is_looped steps (ends outcome machine) = false

  -- the steps make no other run
  pub IsRun-unique : (steps : ℕ) (code : List Stmt) (machine : Machine) (answers : List Answer) (end other : Ended)
      → IsRun piece stream start steps code machine answers end → IsRun piece stream start steps code machine answers other → end ≡ other
  IsRun-unique steps [] machine answers end other no_code no_code = refl
  IsRun-unique steps (statement ∷ rest) machine answers end other (last_step e) (last_step f) = ap end_of (sym e ∙ f)
  IsRun-unique steps (statement ∷ rest) machine answers end other (last_step e) (loop_step f test) = absurd (let h = sym e ∙ f in cc)
  IsRun-unique steps (statement ∷ rest) machine answers end other (last_step e) (next_step f test g) = absurd (let h = sym e ∙ f in cc)
  IsRun-unique steps (statement ∷ rest) machine answers end other (loop_step e test) (last_step f) = absurd (let h = sym e ∙ f in cc)
  IsRun-unique steps (statement ∷ rest) machine answers end other (loop_step e test) (loop_step f again) = ap end_of (sym e ∙ f)
  IsRun-unique steps (statement ∷ rest) machine answers end other (loop_step e test) (next_step f again g) =
      absurd (false≢true (sym again ∙ ap (is_looped steps) (sym f ∙ e) ∙ test))
  IsRun-unique steps (statement ∷ rest) machine answers end other (next_step e test g) (last_step f) = absurd (let h = sym e ∙ f in cc)
  IsRun-unique steps (statement ∷ rest) machine answers end other (next_step e test g) (loop_step f again) =
      absurd (false≢true (sym test ∙ ap (is_looped steps) (sym e ∙ f) ∙ again))
  IsRun-unique steps (statement ∷ rest) machine answers end other (next_step e test g) (next_step f again h) =
      IsRun-unique (suc steps) _ _ _ end other g (subst (λ next. RunBehind (suc steps) next other) (sym f ∙ e) h)
