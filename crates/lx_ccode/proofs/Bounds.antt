-- Where a run stays: the cursor, the marker and the registers stand between the start and the limit.
use Rattle.std.proofs.Common.{◌≡◌, ℕ, zero, suc, ◌+◌, ◌≤◌, Bool, true, false, List, [], ◌∷◌, Option, Some, None, refl, subst, arith}
use Rattle.std.specs.Prelude.{nat_lt, if◌then◌else◌, ◌==◌}
use Rattle.std.proofs.lemmas.Bool.{ltb-true}
use Rattle.lx_ccode.specs.declared.piece.Stmt.{Stmt}
use Rattle.lx_ccode.specs.declared.piece.Stmt.TheVariants.{Peek, Skip, Backup, Restore, Accept, Set, Unset, Copy, MSet, MUnset, MCopy, IfUnit, IfIs, IfSet, IfAccept, IfEnd, State, Need, Try, Cond, Tag, Count, End, Back, Switch, Goto, Leave, Code, Jump}
use Rattle.lx_ccode.specs.declared.piece.CodeBlock.{CodeBlock}
use Rattle.lx_ccode.specs.declared.piece.Piece.{Piece}
use Rattle.lx_ccode.specs.Machine.{Machine, Refill, more, no_more, Answer, refilled, left, units_of_all, units_of_answers, Next, goes_on, ends, jump, choose, code_at, come_back, peek, skip, if_unit, switch_unit, write_history, back, has_units, need, try, updated, step}
use Rattle.lx_ccode.specs.Runs.{Ended, fresh_machine, entry_block, unless_looped, gone_on, run, run_in, run_of}
use Rattle.lx_ccode.specs.Schedules.{Schedule}

-- between the start and a bound
abbrev pub IsWithin : (start last offset : ℕ) → Type 0
IsWithin start last offset = (start ≤ offset) × (offset ≤ last)

-- what the machine holds stands between the start and the limit, and the limit with the units to come is at most the last offset
pub record Stays (start last : ℕ) (machine : Machine) (answers : List Answer) : Type 0 where
  pub cursor : IsWithin start machine.limit machine.cursor
  pub marker : IsWithin start machine.limit machine.marker
  pub registers : (register offset : ℕ) → machine.registers register ≡ Some offset → IsWithin start machine.limit offset
  pub limit : machine.limit + units_of_answers answers ≤ last

module _ (start last : ℕ) where
  -- so it is after a step
  abbrev pub StaysAfter : Next → Type 0
  StaysAfter (goes_on code machine answers) = Stays start last machine answers
  StaysAfter (ends outcome machine) = IsWithin start last machine.cursor

  ends_within : {machine : Machine} {answers : List Answer} → Stays start last machine answers → IsWithin start last machine.cursor
  ends_within stays = let within = stays.limit in (stays.cursor.0, omega (arith, stays.cursor.1, within))

  stays-jump : (target : Option (List Stmt)) (machine : Machine) (answers : List Answer) → Stays start last machine answers → StaysAfter (jump target machine answers)
  stays-jump None machine answers stays = ends_within stays
  stays-jump (Some code) machine answers stays = stays

  stays-choose : (test : Bool) (target : Option (List Stmt)) (rest : List Stmt) (machine : Machine) (answers : List Answer)
      → Stays start last machine answers → StaysAfter (choose test target rest machine answers)
  stays-choose true target rest machine answers stays = stays-jump target machine answers stays
  stays-choose false target rest machine answers stays = stays

  stays-if : (test : Bool) (then_next else_next : Next) → StaysAfter then_next → StaysAfter else_next → StaysAfter (if test then then_next else else_next)
  stays-if true then_next else_next stays other = stays
  stays-if false then_next else_next stays other = other

  -- a limit that grew by units that were to come
  refilled_stays : (machine : Machine) (unit : Option ℕ) (added : ℕ) (answers : List Answer) (others : List Answer)
      → added + units_of_answers others ≡ units_of_answers answers → Stays start last machine answers
      → Stays start last (record machine { unit = unit; limit = machine.limit + added }) others
  refilled_stays machine unit added answers others come stays = record {
    cursor = (stays.cursor.0, let to = stays.cursor.1 in omega (arith, to));
    marker = (stays.marker.0, let to = stays.marker.1 in omega (arith, to));
    registers = λ register offset held. let within = stays.registers register offset held in (within.0, let to = within.1 in omega (arith, to));
    limit = let bound = stays.limit in omega (arith, bound, come);
  }

  stays-come_back : (blocks : List CodeBlock) (refills : List Refill) (machine : Machine) (answers : List Answer)
      → Stays start last machine (left refills ∷ answers) → StaysAfter (come_back blocks refills machine answers)
  stays-come_back blocks refills machine answers stays =
      stays-jump _ _ answers (refilled_stays machine None (units_of_all refills) (left refills ∷ answers) answers refl stays)

  stays-need : (blocks : List CodeBlock) (units : ℕ) (rest : List Stmt) (machine : Machine) (answers : List Answer)
      → Stays start last machine answers → StaysAfter (need blocks units rest machine answers)
  stays-need blocks units rest machine [] stays = stays-if (has_units units machine) _ _ stays (ends_within stays)
  stays-need blocks units rest machine (refilled (more dropped added) ∷ answers) stays =
      stays-if (has_units units machine) _ _ stays
      (stays-need blocks units rest (record machine { limit = machine.limit + added }) answers (refilled_stays machine machine.unit added (refilled (more dropped added) ∷ answers) answers refl stays))
  stays-need blocks units rest machine (refilled no_more ∷ answers) stays = stays-if (has_units units machine) _ _ stays (ends_within stays)
  stays-need blocks units rest machine (left refills ∷ answers) stays =
      stays-if (has_units units machine) _ _ stays (stays-come_back blocks refills machine answers stays)

  stays-try : (blocks : List CodeBlock) (target : Option (List Stmt)) (rest : List Stmt) (machine : Machine) (answers : List Answer)
      → Stays start last machine answers → StaysAfter (try blocks target rest machine answers)
  stays-try blocks target rest machine [] stays = ends_within stays
  stays-try blocks target rest machine (refilled (more dropped added) ∷ answers) stays =
      stays-jump target _ answers (refilled_stays machine machine.unit added (refilled (more dropped added) ∷ answers) answers refl stays)
  stays-try blocks target rest machine (refilled no_more ∷ answers) stays =
      record { cursor = stays.cursor; marker = stays.marker; registers = stays.registers; limit = let bound = stays.limit in omega (arith, bound) }
  stays-try blocks target rest machine (left refills ∷ answers) stays = stays-come_back blocks refills machine answers stays

  stays-peek : (unit : Option ℕ) (rest : List Stmt) (machine : Machine) (answers : List Answer) → Stays start last machine answers → StaysAfter (peek unit rest machine answers)
  stays-peek None rest machine answers stays = ends_within stays
  stays-peek (Some unit) rest machine answers stays = record { cursor = stays.cursor; marker = stays.marker; registers = stays.registers; limit = stays.limit }

  stays-skip : (before : Bool) (rest : List Stmt) (machine : Machine) (answers : List Answer) → nat_lt machine.cursor machine.limit ≡ before
      → Stays start last machine answers → StaysAfter (skip before rest machine answers)
  stays-skip true rest machine answers test stays =
      let below = ltb-true machine.cursor machine.limit test in
      let from = stays.cursor.0 in
      record { cursor = (omega (arith, from), omega (arith, below)); marker = stays.marker; registers = stays.registers; limit = stays.limit }
  stays-skip false rest machine answers test stays = ends_within stays

  stays-if_unit : (unit : Option ℕ) (test : ℕ → Bool) (target : Option (List Stmt)) (rest : List Stmt) (machine : Machine) (answers : List Answer)
      → Stays start last machine answers → StaysAfter (if_unit unit test target rest machine answers)
  stays-if_unit None test target rest machine answers stays = ends_within stays
  stays-if_unit (Some unit) test target rest machine answers stays = stays-choose _ target rest machine answers stays

  stays-switch_unit : (unit : Option ℕ) (target : ℕ → Option (List Stmt)) (machine : Machine) (answers : List Answer)
      → Stays start last machine answers → StaysAfter (switch_unit unit target machine answers)
  stays-switch_unit None target machine answers stays = ends_within stays
  stays-switch_unit (Some unit) target machine answers stays = stays-jump (target unit) machine answers stays

  stays-write_history : (history : ℕ) (content : List (Option ℕ)) (rest : List Stmt) (machine : Machine) (answers : List Answer)
      → Stays start last machine answers → StaysAfter (write_history history content rest machine answers)
  stays-write_history zero content rest machine answers stays = ends_within stays
  stays-write_history (suc place) content rest machine answers stays =
      record { cursor = stays.cursor; marker = stays.marker; registers = stays.registers; limit = stays.limit }

  stays-back : (offset : Option ℕ) (rest : List Stmt) (machine : Machine) (answers : List Answer)
      → ((at : ℕ) → offset ≡ Some at → IsWithin start machine.limit at) → Stays start last machine answers → StaysAfter (back offset rest machine answers)
  stays-back None rest machine answers known stays = ends_within stays
  stays-back (Some offset) rest machine answers known stays =
      record { cursor = known offset refl; marker = stays.marker; registers = stays.registers; limit = stays.limit }

  -- a register gets what stands between the start and the limit, or nothing
  register_stays : (register : ℕ) (value : Option ℕ) (machine : Machine) (answers : List Answer)
      → ((at : ℕ) → value ≡ Some at → IsWithin start machine.limit at) → Stays start last machine answers
      → Stays start last (record machine { registers = updated register value machine.registers }) answers
  register_stays register value machine answers known stays = record {
    cursor = stays.cursor;
    marker = stays.marker;
    registers = λ other offset held. by_test other offset (other == register) held;
    limit = stays.limit;
  } where
    by_test : (other offset : ℕ) (same : Bool) → (if same then value else machine.registers other) ≡ Some offset → IsWithin start machine.limit offset
    by_test other offset true held = known offset held
    by_test other offset false held = stays.registers other offset held

  module _ (piece : Piece) (stream : List ℕ) (rest : List Stmt) (machine : Machine) (answers : List Answer) where
    pub stays-step : (statement : Stmt) → Stays start last machine answers → StaysAfter (step piece stream statement rest machine answers)
    stays-step Peek stays = stays-peek _ rest machine answers stays
    stays-step Skip stays = stays-skip _ rest machine answers refl stays
    stays-step Backup stays = record { cursor = stays.cursor; marker = stays.cursor; registers = stays.registers; limit = stays.limit }
    stays-step Restore stays = record { cursor = stays.marker; marker = stays.marker; registers = stays.registers; limit = stays.limit }
    stays-step (Accept accept) stays = record { cursor = stays.cursor; marker = stays.marker; registers = stays.registers; limit = stays.limit }
    stays-step (Set register) stays =
        register_stays register _ machine answers (λ at is. subst (IsWithin start machine.limit) (some_is is) stays.cursor) stays
      where
        some_is : {place at : ℕ} → Some place ≡ Some at → place ≡ at
        some_is e = cc
    stays-step (Unset register) stays = register_stays register _ machine answers (λ at is. absurd (let h = is in cc)) stays
    stays-step (Copy register source) stays = register_stays register _ machine answers (stays.registers source) stays
    stays-step (MSet history) stays = stays-write_history history _ rest machine answers stays
    stays-step (MUnset history) stays = stays-write_history history _ rest machine answers stays
    stays-step (MCopy history source) stays = stays-write_history history _ rest machine answers stays
    stays-step (IfUnit greatest block) stays = stays-if_unit machine.unit _ _ rest machine answers stays
    stays-step (IfIs unit block) stays = stays-if_unit machine.unit _ _ rest machine answers stays
    stays-step (IfSet set block) stays = stays-if_unit machine.unit _ _ rest machine answers stays
    stays-step (IfAccept accept block) stays = stays-choose _ _ rest machine answers stays
    stays-step (IfEnd block) stays = stays-choose _ _ rest machine answers stays
    stays-step (State state) stays = record { cursor = stays.cursor; marker = stays.marker; registers = stays.registers; limit = stays.limit }
    stays-step (Need units) stays = stays-need piece.blocks units rest machine answers stays
    stays-step (Try block) stays = stays-try piece.blocks _ rest machine answers stays
    stays-step (Cond cond) stays = record { cursor = stays.cursor; marker = stays.marker; registers = stays.registers; limit = stays.limit }
    stays-step (Tag tag true history) stays = record { cursor = stays.cursor; marker = stays.marker; registers = stays.registers; limit = stays.limit }
    stays-step (Tag tag false register) stays = record { cursor = stays.cursor; marker = stays.marker; registers = stays.registers; limit = stays.limit }
    stays-step (Count groups) stays = record { cursor = stays.cursor; marker = stays.marker; registers = stays.registers; limit = stays.limit }
    stays-step (End place register) stays = record { cursor = stays.cursor; marker = stays.marker; registers = stays.registers; limit = stays.limit }
    stays-step (Back register) stays = stays-back (machine.registers register) rest machine answers (stays.registers register) stays
    stays-step (Switch cases last) stays = stays-switch_unit machine.unit _ machine answers stays
    stays-step (Goto block) stays = stays-jump _ machine answers stays
    stays-step Leave stays = ends_within stays
    stays-step (Code rule line action) stays = ends_within stays
    stays-step (Jump cond rule) stays = ends_within stays

  module _ (piece : Piece) (stream : List ℕ) where
    abbrev EndsWithin : Ended → Type 0
    EndsWithin end = IsWithin start last end.cursor

    stays-unless_looped : (test : Bool) (going : List Stmt → Machine → List Answer → Ended) (code : List Stmt) (machine : Machine) (answers : List Answer)
        → Stays start last machine answers → EndsWithin (going code machine answers) → EndsWithin (unless_looped piece stream start test going code machine answers)
    stays-unless_looped true going code machine answers stays on = ends_within stays
    stays-unless_looped false going code machine answers stays on = on

    stays-gone_on : (steps : ℕ) (going : List Stmt → Machine → List Answer → Ended) (next : Next)
        → ((code : List Stmt) (machine : Machine) (answers : List Answer) → Stays start last machine answers → EndsWithin (going code machine answers))
        → StaysAfter next → EndsWithin (gone_on piece stream start steps going next)
    stays-gone_on steps going (goes_on code machine answers) on stays = stays-unless_looped _ going code machine answers stays (on code machine answers stays)
    stays-gone_on steps going (ends outcome machine) on stays = stays

    stays-run : (fuel steps : ℕ) (code : List Stmt) (machine : Machine) (answers : List Answer) → Stays start last machine answers
        → EndsWithin (run piece stream start fuel steps code machine answers)
    stays-run zero steps code machine answers stays = ends_within stays
    stays-run (suc fuel) steps [] machine answers stays = ends_within stays
    stays-run (suc fuel) steps (statement ∷ rest) machine answers stays =
        stays-gone_on (suc steps) _ (step piece stream statement rest machine answers) (λ code after others kept. stays-run fuel (suc steps) code after others kept)
        (stays-step piece stream rest machine answers statement stays)

    stays-run_in : (code : Option (List Stmt)) (machine : Machine) (answers : List Answer) → Stays start last machine answers
        → EndsWithin (run_in piece stream start code machine answers)
    stays-run_in None machine answers stays = ends_within stays
    stays-run_in (Some code) machine answers stays = stays-run _ 0 code machine answers stays

-- a run ends between its start and the last unit that a schedule adds
pub stays-run_of : (piece : Piece) (stream : List ℕ) (start : ℕ) (cond : List ℕ) (schedule : Schedule) → start ≤ schedule.first
    → IsWithin start (schedule.first + units_of_answers schedule.answers) (run_of piece stream start cond schedule).cursor
unfolding run_of
stays-run_of piece stream start cond schedule from =
    stays-run_in start (schedule.first + units_of_answers schedule.answers) piece stream (code_at piece.blocks (entry_block piece.conds cond))
    (fresh_machine start schedule.first cond) schedule.answers
    (record {
      cursor = (omega arith, from);
      marker = (omega arith, from);
      registers = λ register offset held. absurd (let h = held in cc);
      limit = omega arith;
    })
