-- Runs: what a piece does on a stream, from the start of a match to its outcome.
use Rattle.std.specs.Prelude.{◌≡◌, ℕ, zero, suc, ◌+◌, ◌-◌, ◌*◌, List, [], ◌∷◌, Option, Some, None, Bool, true, false, nat_le, if◌then◌else◌}
use Rattle.lx_ccode.specs.declared.piece.Stmt.{Stmt}
use Rattle.lx_ccode.specs.declared.piece.CondCase.{CondCase}
use Rattle.lx_ccode.specs.declared.piece.Piece.{Piece}
use Rattle.lx_base.specs.Letters.{equal_words}
use Rattle.lx_ccode.specs.Statements.{statement_count}
use Rattle.lx_ccode.specs.Machine.{Value, Machine, Answer, units_of_answers, Outcome, stuck, looped, Next, goes_on, ends, code_at, step}
use Rattle.lx_ccode.specs.Schedules.{Schedule}

-- what a run tells: its outcome, and then the cursor, the condition, and what was given in the match
pub record Ended : Type 0 where
  pub outcome : Outcome
  pub cursor : ℕ
  pub cond : List ℕ
  pub values : List Value

-- what the machine tells at the end
abbrev pub ended : Outcome → Machine → Ended
ended outcome machine = record { outcome = outcome; cursor = machine.cursor; cond = machine.cond; values = machine.values }

-- the steps after which a match has ended in a loop: twice the statements, for each unit from the start to the limit and for two more
abbrev pub loop_count : Piece → (start limit : ℕ) → ℕ
loop_count piece start limit = 2 * ((limit - start) + 2) * statement_count piece.blocks

-- the machine at the start of a match
abbrev pub fresh_machine : (start limit : ℕ) → (cond : List ℕ) → Machine
fresh_machine start limit cond = record {
  cursor = start;
  marker = start;
  limit = limit;
  unit = None;
  accept = 0;
  registers = λ register. None;
  histories = λ history. [];
  cond = cond;
  state = None;
  values = [];
}

-- the block of a condition
abbrev pub cond_block : List CondCase → List ℕ → Option ℕ
cond_block [] cond = None
cond_block (case ∷ cases) cond = if equal_words case.cond cond then Some case.block else cond_block cases cond

-- the block where a match starts: that of its condition, or block 0 where the piece has no conditions
abbrev pub entry_block : List CondCase → List ℕ → Option ℕ
entry_block [] cond = Some 0
entry_block (case ∷ cases) cond = cond_block (case ∷ cases) cond

module _ (piece : Piece) (stream : List ℕ) (start : ℕ) where
  -- how a run goes on from here
  abbrev Going : Type 0
  Going = List Stmt → Machine → List Answer → Ended

  abbrev pub unless_looped : Bool → Going → Going
  unless_looped true going code machine answers = ended looped machine
  unless_looped false going code machine answers = going code machine answers

  -- on after so many steps, unless they are the count of a loop at the present limit
  abbrev pub gone_on : (steps : ℕ) → Going → Next → Ended
  gone_on steps going (goes_on code machine answers) =
      unless_looped (nat_le (loop_count piece start machine.limit) steps) going code machine answers
  gone_on steps going (ends outcome machine) = ended outcome machine

  -- the run from the rest of a block on, after so many steps; the fuel bounds the further ones
  abbrev pub run : (fuel steps : ℕ) → Going
  run zero steps code machine answers = ended looped machine
  run (suc fuel) steps [] machine answers = ended stuck machine
  run (suc fuel) steps (statement ∷ rest) machine answers =
      gone_on (suc steps) (run fuel (suc steps)) (step piece stream statement rest machine answers)

  -- the run from the start on, with fuel for the count of a loop at the last limit that the answers can give
  abbrev pub run_in : Option (List Stmt) → Machine → List Answer → Ended
  run_in None machine answers = ended stuck machine
  run_in (Some code) machine answers = run (loop_count piece start (machine.limit + units_of_answers answers)) 0 code machine answers

  -- the run of a match in a condition under a schedule
  unfoldable pub run_of : (cond : List ℕ) → Schedule → Ended
  run_of cond schedule =
      run_in (code_at piece.blocks (entry_block piece.conds cond)) (fresh_machine start schedule.first cond) schedule.answers

  -- a run step by step: it ends with a step, or by the count of a loop, or goes on; stuck where no statement is left
  pub data IsRun : (steps : ℕ) → List Stmt → Machine → List Answer → Ended → Type 0 where
    no_code : {steps : ℕ} {machine : Machine} {answers : List Answer} → IsRun steps [] machine answers (ended stuck machine)
    last_step : {steps : ℕ} {statement : Stmt} {rest : List Stmt} {machine after : Machine} {answers : List Answer} {outcome : Outcome}
        → step piece stream statement rest machine answers ≡ ends outcome after
        → IsRun steps (statement ∷ rest) machine answers (ended outcome after)
    loop_step : {steps : ℕ} {statement : Stmt} {rest code : List Stmt} {machine after : Machine} {answers others : List Answer}
        → step piece stream statement rest machine answers ≡ goes_on code after others
        → nat_le (loop_count piece start after.limit) (suc steps) ≡ true
        → IsRun steps (statement ∷ rest) machine answers (ended looped after)
    next_step : {steps : ℕ} {statement : Stmt} {rest code : List Stmt} {machine after : Machine} {answers others : List Answer} {end : Ended}
        → step piece stream statement rest machine answers ≡ goes_on code after others
        → nat_le (loop_count piece start after.limit) (suc steps) ≡ false
        → IsRun (suc steps) code after others end
        → IsRun steps (statement ∷ rest) machine answers end
