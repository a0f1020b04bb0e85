-- Drops of refills do not matter to a run.
use Rattle.std.proofs.Common.{◌≡◌, ◌∙◌, ℕ, zero, suc, ◌+◌, ◌≤◌, Bool, true, false, List, [], ◌∷◌, map, length, Option, Some, None, refl, ap, arith}
use Rattle.std.specs.Prelude.{if◌then◌else◌}
use Rattle.std.proofs.lemmas.List.{length-map}
use Rattle.std.specs.List.{list_any}
use Rattle.lx_ccode.specs.declared.piece.Stmt.{Stmt}
use Rattle.lx_ccode.specs.declared.piece.Stmt.TheVariants.{Peek, Skip, Backup, Restore, Accept, Set, Unset, Copy, MSet, MUnset, MCopy, IfUnit, IfIs, IfSet, IfAccept, IfEnd, State, Need, Try, Cond, Tag, Count, End, Back, Switch, Goto, Leave, Code, Jump}
use Rattle.lx_ccode.specs.declared.piece.CodeBlock.{CodeBlock}
use Rattle.lx_ccode.specs.declared.piece.Piece.{Piece}
use Rattle.lx_ccode.specs.Machine.{Machine, Refill, more, no_more, Answer, refilled, left, units_of, units_of_all, units_of_answers, Next, goes_on, ends, at_end, unanswered, jump, choose, code_at, come_back, peek, skip, if_unit, switch_unit, write_history, back, has_units, need, try, step, stored_block}
use Rattle.lx_ccode.specs.Runs.{Ended, fresh_machine, entry_block, loop_count, unless_looped, gone_on, run, run_in, run_of}
use Rattle.lx_ccode.specs.Schedules.{AreLegalAnswers, AreLegalRefills, Buffer, IsLegal, IsLegalRefill, Schedule, after_refill, after_refills, undropped, undropped_answer, without_drops}
use Rattle.lx_ccode.specs.Statements.{all_statements, is_state}

-- ---- the units that are added

units_of-undropped : (refill : Refill) → units_of (undropped refill) ≡ units_of refill
units_of-undropped (more dropped added) = refl
units_of-undropped no_more = refl

units_of_all-undropped : (refills : List Refill) → units_of_all (map undropped refills) ≡ units_of_all refills
units_of_all-undropped [] = refl
units_of_all-undropped (refill ∷ refills) =
    ap (λ units. units + units_of_all (map undropped refills)) (units_of-undropped refill)
    ∙ ap (λ units. units_of refill + units) (units_of_all-undropped refills)

units_of_answers-undropped : (answers : List Answer) → units_of_answers (map undropped_answer answers) ≡ units_of_answers answers
units_of_answers-undropped [] = refl
units_of_answers-undropped (refilled refill ∷ answers) =
    ap (λ units. units + units_of_answers (map undropped_answer answers)) (units_of-undropped refill)
    ∙ ap (λ units. units_of refill + units) (units_of_answers-undropped answers)
units_of_answers-undropped (left refills ∷ answers) =
    ap (λ units. units + units_of_answers (map undropped_answer answers)) (units_of_all-undropped refills)
    ∙ ap (λ units. units_of_all refills + units) (units_of_answers-undropped answers)

-- ---- steps

-- what comes after a step, with answers that drop nothing
abbrev next_undropped : Next → Next
next_undropped (goes_on code machine answers) = goes_on code machine (map undropped_answer answers)
next_undropped (ends outcome machine) = ends outcome machine

jump-undropped : (target : Option (List Stmt)) (machine : Machine) (answers : List Answer)
    → jump target machine (map undropped_answer answers) ≡ next_undropped (jump target machine answers)
jump-undropped None machine answers = refl
jump-undropped (Some code) machine answers = refl

choose-undropped : (test : Bool) (target : Option (List Stmt)) (rest : List Stmt) (machine : Machine) (answers : List Answer)
    → choose test target rest machine (map undropped_answer answers) ≡ next_undropped (choose test target rest machine answers)
choose-undropped true target rest machine answers = jump-undropped target machine answers
choose-undropped false target rest machine answers = refl

peek-undropped : (unit : Option ℕ) (rest : List Stmt) (machine : Machine) (answers : List Answer)
    → peek unit rest machine (map undropped_answer answers) ≡ next_undropped (peek unit rest machine answers)
peek-undropped None rest machine answers = refl
peek-undropped (Some unit) rest machine answers = refl

skip-undropped : (before_limit : Bool) (rest : List Stmt) (machine : Machine) (answers : List Answer)
    → skip before_limit rest machine (map undropped_answer answers) ≡ next_undropped (skip before_limit rest machine answers)
skip-undropped true rest machine answers = refl
skip-undropped false rest machine answers = refl

if_unit-undropped : (unit : Option ℕ) (test : ℕ → Bool) (target : Option (List Stmt)) (rest : List Stmt) (machine : Machine) (answers : List Answer)
    → if_unit unit test target rest machine (map undropped_answer answers) ≡ next_undropped (if_unit unit test target rest machine answers)
if_unit-undropped None test target rest machine answers = refl
if_unit-undropped (Some unit) test target rest machine answers = choose-undropped (test unit) target rest machine answers

switch_unit-undropped : (unit : Option ℕ) (target : ℕ → Option (List Stmt)) (machine : Machine) (answers : List Answer)
    → switch_unit unit target machine (map undropped_answer answers) ≡ next_undropped (switch_unit unit target machine answers)
switch_unit-undropped None target machine answers = refl
switch_unit-undropped (Some unit) target machine answers = jump-undropped (target unit) machine answers

write_history-undropped : (history : ℕ) (content : List (Option ℕ)) (rest : List Stmt) (machine : Machine) (answers : List Answer)
    → write_history history content rest machine (map undropped_answer answers) ≡ next_undropped (write_history history content rest machine answers)
write_history-undropped zero content rest machine answers = refl
write_history-undropped (suc place) content rest machine answers = refl

back-undropped : (offset : Option ℕ) (rest : List Stmt) (machine : Machine) (answers : List Answer)
    → back offset rest machine (map undropped_answer answers) ≡ next_undropped (back offset rest machine answers)
back-undropped None rest machine answers = refl
back-undropped (Some offset) rest machine answers = refl

come_back-undropped : (blocks : List CodeBlock) (refills : List Refill) (machine : Machine) (answers : List Answer)
    → come_back blocks (map undropped refills) machine (map undropped_answer answers) ≡ next_undropped (come_back blocks refills machine answers)
come_back-undropped blocks refills machine answers =
    ap (λ units. jump (code_at blocks (stored_block blocks machine.state)) (record machine { unit = None; limit = machine.limit + units }) (map undropped_answer answers))
    (units_of_all-undropped refills)
    ∙ jump-undropped (code_at blocks (stored_block blocks machine.state)) (record machine { unit = None; limit = machine.limit + units_of_all refills }) answers

either : (test : Bool) (first second third fourth : Next) → first ≡ next_undropped third → second ≡ next_undropped fourth
    → (if test then first else second) ≡ next_undropped (if test then third else fourth)
either true first second third fourth same other = same
either false first second third fourth same other = other

need-undropped : (blocks : List CodeBlock) (units : ℕ) (rest : List Stmt) (machine : Machine) (answers : List Answer)
    → need blocks units rest machine (map undropped_answer answers) ≡ next_undropped (need blocks units rest machine answers)
need-undropped blocks units rest machine [] =
    either (has_units units machine) (goes_on rest machine []) (ends unanswered machine) (goes_on rest machine []) (ends unanswered machine) refl refl
need-undropped blocks units rest machine (refilled (more dropped added) ∷ answers) =
    let grown : Machine = record machine { limit = machine.limit + added } in
    either (has_units units machine) (goes_on rest machine (refilled (more 0 added) ∷ map undropped_answer answers))
    (need blocks units rest grown (map undropped_answer answers))
    (goes_on rest machine (refilled (more dropped added) ∷ answers)) (need blocks units rest grown answers) refl
    (need-undropped blocks units rest grown answers)
need-undropped blocks units rest machine (refilled no_more ∷ answers) =
    either (has_units units machine) (goes_on rest machine (refilled no_more ∷ map undropped_answer answers)) (ends at_end machine)
    (goes_on rest machine (refilled no_more ∷ answers)) (ends at_end machine) refl refl
need-undropped blocks units rest machine (left refills ∷ answers) =
    either (has_units units machine) (goes_on rest machine (left (map undropped refills) ∷ map undropped_answer answers))
    (come_back blocks (map undropped refills) machine (map undropped_answer answers))
    (goes_on rest machine (left refills ∷ answers)) (come_back blocks refills machine answers) refl
    (come_back-undropped blocks refills machine answers)

try-undropped : (blocks : List CodeBlock) (target : Option (List Stmt)) (rest : List Stmt) (machine : Machine) (answers : List Answer)
    → try blocks target rest machine (map undropped_answer answers) ≡ next_undropped (try blocks target rest machine answers)
try-undropped blocks target rest machine [] = refl
try-undropped blocks target rest machine (refilled (more dropped added) ∷ answers) =
    jump-undropped target (record machine { limit = machine.limit + added }) answers
try-undropped blocks target rest machine (refilled no_more ∷ answers) = refl
try-undropped blocks target rest machine (left refills ∷ answers) = come_back-undropped blocks refills machine answers

module _ (piece : Piece) (stream : List ℕ) where
  step-undropped : (statement : Stmt) (rest : List Stmt) (machine : Machine) (answers : List Answer)
      → step piece stream statement rest machine (map undropped_answer answers) ≡ next_undropped (step piece stream statement rest machine answers)
  step-undropped Peek rest machine answers = peek-undropped _ rest machine answers
  step-undropped Skip rest machine answers = skip-undropped _ rest machine answers
  step-undropped Backup rest machine answers = refl
  step-undropped Restore rest machine answers = refl
  step-undropped (Accept accept) rest machine answers = refl
  step-undropped (Set register) rest machine answers = refl
  step-undropped (Unset register) rest machine answers = refl
  step-undropped (Copy register source) rest machine answers = refl
  step-undropped (MSet history) rest machine answers = write_history-undropped history _ rest machine answers
  step-undropped (MUnset history) rest machine answers = write_history-undropped history _ rest machine answers
  step-undropped (MCopy history source) rest machine answers = write_history-undropped history _ rest machine answers
  step-undropped (IfUnit greatest block) rest machine answers = if_unit-undropped machine.unit _ _ rest machine answers
  step-undropped (IfIs unit block) rest machine answers = if_unit-undropped machine.unit _ _ rest machine answers
  step-undropped (IfSet set block) rest machine answers = if_unit-undropped machine.unit _ _ rest machine answers
  step-undropped (IfAccept accept block) rest machine answers = choose-undropped _ _ rest machine answers
  step-undropped (IfEnd block) rest machine answers = choose-undropped _ _ rest machine answers
  step-undropped (State state) rest machine answers = refl
  step-undropped (Need units) rest machine answers = need-undropped piece.blocks units rest machine answers
  step-undropped (Try block) rest machine answers = try-undropped piece.blocks _ rest machine answers
  step-undropped (Cond cond) rest machine answers = refl
  step-undropped (Tag tag true history) rest machine answers = refl
  step-undropped (Tag tag false register) rest machine answers = refl
  step-undropped (Count groups) rest machine answers = refl
  step-undropped (End place register) rest machine answers = refl
  step-undropped (Back register) rest machine answers = back-undropped (machine.registers register) rest machine answers
  step-undropped (Switch cases last) rest machine answers = switch_unit-undropped machine.unit _ machine answers
  step-undropped (Goto block) rest machine answers = jump-undropped _ machine answers
  step-undropped Leave rest machine answers = refl
  step-undropped (Code rule line action) rest machine answers = refl
  step-undropped (Jump cond rule) rest machine answers = refl

  -- ---- runs

  module _ (start : ℕ) where
    -- a way to go on that does not see drops
    abbrev IsBlind : (List Stmt → Machine → List Answer → Ended) → Type 0
    IsBlind going =
        (code : List Stmt) (machine : Machine) (answers : List Answer) → going code machine (map undropped_answer answers) ≡ going code machine answers

    unless_looped-undropped : (test : Bool) (going : List Stmt → Machine → List Answer → Ended) → IsBlind going
        → IsBlind (unless_looped piece stream start test going)
    unless_looped-undropped true going blind code machine answers = refl
    unless_looped-undropped false going blind code machine answers = blind code machine answers

    gone_on-undropped : (steps : ℕ) (going : List Stmt → Machine → List Answer → Ended) → IsBlind going → (next : Next)
        → gone_on piece stream start steps going (next_undropped next) ≡ gone_on piece stream start steps going next
    gone_on-undropped steps going blind (goes_on code machine answers) = unless_looped-undropped _ going blind code machine answers
    gone_on-undropped steps going blind (ends outcome machine) = refl

    run-undropped : (fuel steps : ℕ) → IsBlind (run piece stream start fuel steps)
    run-undropped zero steps code machine answers = refl
    run-undropped (suc fuel) steps [] machine answers = refl
    run-undropped (suc fuel) steps (statement ∷ rest) machine answers =
        ap (gone_on piece stream start (suc steps) (run piece stream start fuel (suc steps))) (step-undropped statement rest machine answers)
        ∙ gone_on-undropped (suc steps) (run piece stream start fuel (suc steps)) (run-undropped fuel (suc steps)) (step piece stream statement rest machine answers)

    run_in-undropped : (code : Option (List Stmt)) (machine : Machine) (answers : List Answer)
        → run_in piece stream start code machine (map undropped_answer answers) ≡ run_in piece stream start code machine answers
    run_in-undropped None machine answers = refl
    run_in-undropped (Some code) machine answers =
        ap (λ units. run piece stream start (loop_count piece start (machine.limit + units)) 0 code machine (map undropped_answer answers))
        (units_of_answers-undropped answers)
        ∙ run-undropped (loop_count piece start (machine.limit + units_of_answers answers)) 0 code machine answers

pub run_of-without_drops : (piece : Piece) (stream : List ℕ) (start : ℕ) (cond : List ℕ) (schedule : Schedule)
    → run_of piece stream start cond (without_drops schedule) ≡ run_of piece stream start cond schedule
unfolding run_of
run_of-without_drops piece stream start cond schedule =
    run_in-undropped piece stream start (code_at piece.blocks (entry_block piece.conds cond)) (fresh_machine start schedule.first cond) schedule.answers

-- ---- legal schedules

-- the same units stand in the other buffer, which dropped no more
record HoldsMore (other buffer : Buffer) : Type 0 where
  pub base : other.base ≤ buffer.base
  pub limit : other.limit ≡ buffer.limit
  pub closed : other.closed ≡ buffer.closed

module _ (units start : ℕ) (states : Bool) where
  IsLegalRefill-undropped : (other buffer : Buffer) (refill : Refill) → HoldsMore other buffer → IsLegalRefill units start states buffer refill
      → IsLegalRefill units start states other (undropped refill)
  IsLegalRefill-undropped other buffer (more dropped added) holds legal =
      let base = holds.base in
      let limit = holds.limit in
      (holds.closed ∙ legal.0, (let within = legal.1 in omega (arith, base, within)), legal.2, (let few = legal.3 in omega (arith, limit, few)))
  IsLegalRefill-undropped other buffer no_more holds legal = holds.limit ∙ legal

  after_refill-undropped : (other buffer : Buffer) (refill : Refill) → HoldsMore other buffer → HoldsMore (after_refill other (undropped refill)) (after_refill buffer refill)
  after_refill-undropped other buffer (more dropped added) holds =
      let base = holds.base in
      record { base = omega (arith, base); limit = ap (λ limit. limit + added) holds.limit; closed = holds.closed }
  after_refill-undropped other buffer no_more holds = record { base = holds.base; limit = holds.limit; closed = refl }

  AreLegalRefills-undropped : (other buffer : Buffer) (refills : List Refill) → HoldsMore other buffer → AreLegalRefills units start states buffer refills
      → AreLegalRefills units start states other (map undropped refills)
  AreLegalRefills-undropped other buffer [] holds legal = tt
  AreLegalRefills-undropped other buffer (refill ∷ refills) holds legal = (
    IsLegalRefill-undropped other buffer refill holds legal.0,
    AreLegalRefills-undropped (after_refill other (undropped refill)) (after_refill buffer refill) refills (after_refill-undropped other buffer refill holds) legal.1,
  )

  after_refills-undropped : (other buffer : Buffer) (refills : List Refill) → HoldsMore other buffer
      → HoldsMore (after_refills other (map undropped refills)) (after_refills buffer refills)
  after_refills-undropped other buffer [] holds = holds
  after_refills-undropped other buffer (refill ∷ refills) holds =
      after_refills-undropped (after_refill other (undropped refill)) (after_refill buffer refill) refills (after_refill-undropped other buffer refill holds)

  AreLegalAnswers-undropped : (other buffer : Buffer) (answers : List Answer) → HoldsMore other buffer → AreLegalAnswers units start states buffer answers
      → AreLegalAnswers units start states other (map undropped_answer answers)
  AreLegalAnswers-undropped other buffer [] holds legal = tt
  AreLegalAnswers-undropped other buffer (refilled refill ∷ answers) holds legal = (
    IsLegalRefill-undropped other buffer refill holds legal.0,
    AreLegalAnswers-undropped (after_refill other (undropped refill)) (after_refill buffer refill) answers (after_refill-undropped other buffer refill holds) legal.1,
  )
  AreLegalAnswers-undropped other buffer (left refills ∷ answers) holds legal = (
    holds.closed ∙ legal.0,
    legal.1,
    (let some = legal.2 in let same : length (map undropped refills) ≡ length refills = length-map refills undropped in omega (arith, some, same)),
    AreLegalRefills-undropped other buffer refills holds legal.3,
    AreLegalAnswers-undropped (after_refills other (map undropped refills)) (after_refills buffer refills) answers
        (after_refills-undropped other buffer refills holds) legal.4,
  )

pub IsLegal-without_drops : (piece : Piece) (units start : ℕ) (schedule : Schedule) → IsLegal piece units start schedule
    → IsLegal piece units start (without_drops schedule)
IsLegal-without_drops piece units start schedule legal =
    let buffer : Buffer = record { base = 0; limit = schedule.first; closed = false } in
    record {
      from_start = legal.from_start;
      within = legal.within;
      whole = legal.whole;
      answers = AreLegalAnswers-undropped units start (list_any is_state (all_statements piece.blocks)) buffer buffer schedule.answers
          (record { base = omega arith; limit = refl; closed = refl }) legal.answers;
    }
