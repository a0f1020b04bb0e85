-- A match over a window ends as a run over the whole stream does, under a schedule that is legal.
use Rattle.std.proofs.Common.{◌≡◌, ◌∙◌, ap, refl, sym, subst, ℕ, zero, suc, ◌+◌, ◌-◌, ◌*◌, ◌<◌, ◌≤◌, ◌⊎◌, inl, inr, Bool, false, true, not, List, [], ◌∷◌, ◌++◌, length, Option, Some, None, arith, eq-eqb, eqb-true, leb-true, leb-false, ltb-false, ltb-true, slice_get}
use Rattle.std.specs.Prelude.{if◌then◌else◌, is_some, map, nat_le, nat_lt}
use Rattle.std.specs.List.{AllByRecursion, list_any}
use Rattle.std.proofs.lemmas.Bool.{false≢true}
use Rattle.std.proofs.lemmas.List.{append-nil}
use Rattle.std.proofs.Math.Nat.{mul-le-mul_right}
use Rattle.lx_ccode.specs.declared.piece.CodeBlock.{CodeBlock}
use Rattle.lx_ccode.specs.declared.piece.Piece.{Piece}
use Rattle.lx_ccode.specs.declared.piece.Stmt.{Stmt}
use Rattle.lx_ccode.specs.declared.piece.Stmt.TheVariants.{Peek, Skip, MSet, MUnset, MCopy, IfUnit, IfIs, IfSet, IfAccept, IfEnd, State, Need, Try, Tag, Back, Switch, Goto, Leave, Code, Jump}
use Rattle.lx_ccode.specs.Effects.{machine_after}
use Rattle.lx_ccode.specs.Machine.{Answer, Machine, Next, Outcome, Refill, at_end, back, by_jump, by_rule, case_block, choose, code_at, ends, goes_on, has_units, if_unit, switch_unit, jump, left, looped, more, need, no_more, no_rule, peek, refilled, skip, step, stored_block, stuck, unanswered, units_of, units_of_all, write_history}
use Rattle.lx_ccode.specs.Runs.{Ended, IsRun, ended, entry_block, fresh_machine, last_step, loop_count, no_code, run_of}
use Rattle.lx_ccode.specs.Schedules.{AreLegalAnswers, Buffer, Schedule}
use Rattle.lx_ccode.specs.States.{stores}
use Rattle.lx_ccode.specs.Statements.{all_statements, code_of, is_refill, is_state}
use Rattle.lx_ccode.specs.Validity.{IsValid, states_before_refills}
use Rattle.lx_ccode.proofs.Steps.{ChangesOnly-step}
use Rattle.lx_ccode.proofs.WaysBack.{code_at-stored}
use Rattle.lx_step.specs.declared.answers.Outcome.TheVariants as tells
use Rattle.lx_step.specs.Calls.{IsEnd, undropped}
use Rattle.lx_step.specs.Left.{IsStored}
use Rattle.lx_step.specs.Points as points
use Rattle.lx_step.specs.Points.{Point, code_or_none, kept_by, limited, needed_by, point_after, point_at}
use Rattle.lx_step.specs.Steps.{outcome_of}
use Rattle.lx_step.proofs.CallRuns.{Tells-end, run_of-leads}
use Rattle.lx_step.proofs.ResumedRuns.{EndsFrom, EndsFrom-waits, IsAsking-behind, IsRun-step, come_back-left, step-left}
use Rattle.lx_step.proofs.ResumedSteps.{IsAnswered, behind, between, between-step}
use Rattle.lx_step.proofs.StoredStates.{IsCodeOf, IsCodeOf-or_none, IsCodeOf-rest, stored-state}
use Rattle.lx_run.specs.MatchRuns.{EndsAsRun, IsEndOf, MayStart}
use Rattle.lx_run.specs.Matches.{MatchEnd, Stand, answered, asked, asks, made, match_from, match_fuel, match_of, on_from, point_back, refilled_by, stand_back, stepped, told_by}
use Rattle.lx_run.specs.Matches as matches
use Rattle.lx_run.specs.Readings.{Reading, added, is_whole, refill_at}
use Rattle.lx_run.proofs.WindowSteps.{chances, match_measure, match_measure-fewer, measure-step}

-- ---- what a step does that had no more answers than it asked

module _ (blocks : List CodeBlock) (rest : List Stmt) where
  -- no answer is left, and the match goes on in its block or at the start of one; or it ends, and not for want of an answer
  abbrev Clean : Next → Type 0
  Clean (goes_on code machine answers) = (answers ≡ []) × ((code ≡ rest) ⊎ ((block : ℕ) × (code_at blocks (Some block) ≡ Some code)))
  Clean (ends outcome machine) = outcome ≡ unanswered → ⊥

  clean-rest : (machine : Machine) → Clean (goes_on rest machine [])
  clean-rest machine = (refl, inl refl)

  clean-jump : (block : ℕ) (machine : Machine) → Clean (jump (code_at blocks (Some block)) machine [])
  clean-jump block machine = by (code_at blocks (Some block)) refl where
    by : (found : Option (List Stmt)) → code_at blocks (Some block) ≡ found → Clean (jump found machine [])
    by None is = λ e. absurd cc
    by (Some code) is = (refl, inr (block, is))

  clean-choose : (test : Bool) (block : ℕ) (machine : Machine) → Clean (choose test (code_at blocks (Some block)) rest machine [])
  clean-choose true block machine = clean-jump block machine
  clean-choose false block machine = clean-rest machine

  clean-peek : (unit : Option ℕ) (machine : Machine) → Clean (peek unit rest machine [])
  clean-peek None machine = λ e. absurd cc
  clean-peek (Some unit) machine = (refl, inl refl)

  clean-skip : (test : Bool) (machine : Machine) → Clean (skip test rest machine [])
  clean-skip true machine = (refl, inl refl)
  clean-skip false machine = λ e. absurd cc

  clean-if_unit : (unit : Option ℕ) (test : ℕ → Bool) (block : ℕ) (machine : Machine) → Clean (if_unit unit test (code_at blocks (Some block)) rest machine [])
  clean-if_unit None test block machine = λ e. absurd cc
  clean-if_unit (Some unit) test block machine = clean-choose (test unit) block machine

  clean-switch_unit : (unit : Option ℕ) (block : ℕ → ℕ) (machine : Machine) → Clean (switch_unit unit (λ unit. code_at blocks (Some (block unit))) machine [])
  clean-switch_unit None block machine = λ e. absurd cc
  clean-switch_unit (Some unit) block machine = clean-jump (block unit) machine

  clean-write_history : (history : ℕ) (content : List (Option ℕ)) (machine : Machine) → Clean (write_history history content rest machine [])
  clean-write_history zero content machine = λ e. absurd cc
  clean-write_history (suc history) content machine = (refl, inl refl)

  clean-back : (offset : Option ℕ) (machine : Machine) → Clean (back offset rest machine [])
  clean-back None machine = λ e. absurd cc
  clean-back (Some offset) machine = (refl, inl refl)

-- a statement that asks no refill
clean-step : (piece : Piece) (stream : List ℕ) (rest : List Stmt) (machine : Machine) (statement : Stmt) → is_refill statement ≡ false → Clean piece.blocks rest (step piece stream statement rest machine [])
clean-step piece stream rest machine Peek quiet = clean-peek piece.blocks rest _ machine
clean-step piece stream rest machine Skip quiet = clean-skip piece.blocks rest _ machine
clean-step piece stream rest machine (MSet history) quiet = clean-write_history piece.blocks rest history _ machine
clean-step piece stream rest machine (MUnset history) quiet = clean-write_history piece.blocks rest history _ machine
clean-step piece stream rest machine (MCopy history source) quiet = clean-write_history piece.blocks rest history _ machine
clean-step piece stream rest machine (IfUnit greatest block) quiet = clean-if_unit piece.blocks rest machine.unit _ block machine
clean-step piece stream rest machine (IfIs unit block) quiet = clean-if_unit piece.blocks rest machine.unit _ block machine
clean-step piece stream rest machine (IfSet set block) quiet = clean-if_unit piece.blocks rest machine.unit _ block machine
clean-step piece stream rest machine (IfAccept accept block) quiet = clean-choose piece.blocks rest _ block machine
clean-step piece stream rest machine (IfEnd block) quiet = clean-choose piece.blocks rest _ block machine
clean-step piece stream rest machine (Need units) quiet = absurd (false≢true (sym quiet))
clean-step piece stream rest machine (Try block) quiet = absurd (false≢true (sym quiet))
clean-step piece stream rest machine (Tag tag true history) quiet = (refl, inl refl)
clean-step piece stream rest machine (Tag tag false register) quiet = (refl, inl refl)
clean-step piece stream rest machine (Back register) quiet = clean-back piece.blocks rest _ machine
clean-step piece stream rest machine (Switch cases last) quiet = clean-switch_unit piece.blocks rest machine.unit (case_block cases last) machine
clean-step piece stream rest machine (Goto block) quiet = clean-jump piece.blocks rest block machine
clean-step piece stream rest machine Leave quiet = λ e. absurd cc
clean-step piece stream rest machine (Code rule line action) quiet = λ e. absurd cc
clean-step piece stream rest machine (Jump cond rule) quiet = λ e. absurd cc
clean-step piece stream rest machine _ quiet = (refl, inl refl)

-- ---- states before refills

if-both : (test other : Bool) → (if test then other else false) ≡ true → (test ≡ true) × (other ≡ true)
if-both true other e = (refl, e)
if-both false other e = absurd (false≢true e)

at_block : (P : List Stmt → Type 0) (blocks : List CodeBlock) (block : ℕ) (code : List Stmt) → AllByRecursion (λ one. P one.stmts) blocks → slice_get (code_of blocks) block ≡ Some code → P code
at_block P [] block code all is = absurd cc
at_block P (first ∷ blocks) zero code all is = let same : first.stmts ≡ code = cc in subst P same all.0
at_block P (first ∷ blocks) (suc block) code all is = at_block P blocks block code all.1 is

module _ (piece : Piece) (valid : IsValid piece) where
  abbrev pub states : Bool
  states = list_any is_state (all_statements piece.blocks)

  -- in a piece with states one is stored wherever a refill is asked, and what is stored is one of the piece's
  pub record Keeps (code : List Stmt) (state : Option ℕ) : Type 0 where
    pub after : Bool
    pub before : states ≡ true → states_before_refills after code ≡ true
    pub some : after ≡ true → is_some state ≡ true
    pub of_blocks : IsCodeOf piece.blocks code
    pub stored : IsStored piece.blocks state

  Keeps-or_none : (block : Option ℕ) (state : Option ℕ) → IsStored piece.blocks state → Keeps (code_or_none (code_at piece.blocks block)) state
  Keeps-or_none block state stored = record {
    after = false;
    before = λ has. in_block block has;
    some = λ is. absurd (false≢true is);
    of_blocks = IsCodeOf-or_none piece.blocks block;
    stored = stored;
  } where
    of_code : (block : ℕ) (found : Option (List Stmt)) → code_at piece.blocks (Some block) ≡ found → states ≡ true → states_before_refills false (code_or_none found) ≡ true
    of_code block None is has = refl
    of_code block (Some code) is has = at_block (λ code. states_before_refills false code ≡ true) piece.blocks block code (valid.before_refills has) is

    in_block : (block : Option ℕ) → states ≡ true → states_before_refills false (code_or_none (code_at piece.blocks block)) ≡ true
    in_block None has = refl
    in_block (Some block) has = of_code block (code_at piece.blocks (Some block)) refl has

  abbrev KeepsNext : Next → Type 0
  KeepsNext (goes_on code machine answers) = Keeps code machine.state
  KeepsNext (ends outcome machine) = Unit {0}

  some_state : (stream : List ℕ) (statement : Stmt) (rest : List Stmt) (machine : Machine) (used : List Answer) → is_state statement ≡ true
      → is_some (machine_after (step piece stream statement rest machine used)).state ≡ true
  some_state stream (State state) rest machine used is = refl
  some_state stream _ rest machine used is = absurd (false≢true is)

  Keeps-step : (stream : List ℕ) (statement : Stmt) (rest : List Stmt) (machine : Machine) (used : List Answer) (next : Next) → step piece stream statement rest machine used ≡ next
      → Keeps (statement ∷ rest) machine.state → Clean piece.blocks rest next → KeepsNext next
  Keeps-step stream statement rest machine used (ends outcome last) made keeps clean = tt
  Keeps-step stream statement rest machine used (goes_on code last answers) made keeps clean = by clean.1 where
    stored : IsStored piece.blocks last.state
    stored =
        subst (λ (next : Next). IsStored piece.blocks (machine_after next).state) made (stored-state piece stream statement rest machine used keeps.of_blocks keeps.stored)

    by : (code ≡ rest) ⊎ ((block : ℕ) × (code_at piece.blocks (Some block) ≡ Some code)) → Keeps code last.state
    by (inl same) = subst (λ code. Keeps code last.state) (sym same) (record {
      after = is_state statement;
      before = λ has. (if-both (if is_refill statement then keeps.after else true) (states_before_refills (is_state statement) rest) (keeps.before has)).1;
      some = λ is. subst (λ (next : Next). is_some (machine_after next).state ≡ true) made (some_state stream statement rest machine used is);
      of_blocks = IsCodeOf-rest piece.blocks statement rest keeps.of_blocks;
      stored = stored;
    })
    by (inr (block, at)) = subst (λ code. Keeps code last.state) (ap code_or_none at) (Keeps-or_none (Some block) last.state stored)

  -- a state is stored where a refill is asked
  Keeps-asked : (statement : Stmt) (rest : List Stmt) (state : Option ℕ) → is_refill statement ≡ true → states ≡ true → Keeps (statement ∷ rest) state → is_some state ≡ true
  Keeps-asked statement rest state refills has keeps =
      keeps.some (sym (ap (λ test. if test then keeps.after else true) refills)
      ∙ (if-both (if is_refill statement then keeps.after else true) (states_before_refills (is_state statement) rest) (keeps.before has)).0)

-- ---- outcomes

outcome_of-told : (outcome : Outcome) → (outcome ≡ unanswered → ⊥) → outcome_of (told_by outcome) ≡ outcome
outcome_of-told (by_rule number) some = refl
outcome_of-told (by_jump number) some = refl
outcome_of-told no_rule some = refl
outcome_of-told at_end some = refl
outcome_of-told stuck some = refl
outcome_of-told looped some = refl
outcome_of-told unanswered some = absurd (some refl)

-- ---- refills

-- a refill brings units, or the whole stream was brought
data Brings (reading : Reading) (start limit : ℕ) : Type 0 where
  brings_units : refill_at reading start limit ≡ more 0 (added reading start limit) → is_whole reading start limit ≡ false → limit < length reading.stream → Brings reading start limit
  brings_none : refill_at reading start limit ≡ no_more → is_whole reading start limit ≡ true → limit ≡ length reading.stream → Brings reading start limit

brings : (reading : Reading) (start limit : ℕ) → limit ≤ length reading.stream → Brings reading start limit
brings reading start limit within = by (is_whole reading start limit) refl where
  by : (whole : Bool) → is_whole reading start limit ≡ whole → Brings reading start limit
  by true is = brings_none (ap (λ (whole : Bool). if whole then no_more else more 0 (added reading start limit)) is) is (eqb-true limit (length reading.stream) is)
  by false is =
      brings_units (ap (λ (whole : Bool). if whole then no_more else more 0 (added reading start limit)) is) is
      (below (λ same. false≢true (sym is ∙ eq-eqb limit (length reading.stream) same)))
    where
      below : (limit ≡ length reading.stream → ⊥) → limit < length reading.stream
      below other = from (nat_lt limit (length reading.stream)) refl where
        from : (test : Bool) → nat_lt limit (length reading.stream) ≡ test → limit < length reading.stream
        from true is = ltb-true limit (length reading.stream) is
        from false is = absurd (other (let most = ltb-false limit (length reading.stream) is in omega (arith, most, within)))

-- where a refill is asked for which the window has room, one brings some units, and no more than there are
added-some : (reading : Reading) (start limit : ℕ) → 1 ≤ reading.step → limit - start < reading.size → limit < length reading.stream → 1 ≤ added reading start limit
added-some reading start limit some room below = omega (arith, some, room, below)

added-within : (reading : Reading) (start limit : ℕ) → limit < length reading.stream → limit + added reading start limit ≤ length reading.stream
added-within reading start limit below = omega (arith, below)

-- ---- a match from a stand on

module _ (piece : Piece) (valid : IsValid piece) (reading : Reading) (start : ℕ) (steps_some : 1 ≤ reading.step) where
  abbrev total : ℕ
  total = length reading.stream

  abbrev buffer : (limit : ℕ) → (closed : Bool) → Buffer
  buffer limit closed = record { base = 0; limit = limit; closed = closed }

  abbrev AreLegal : (limit : ℕ) → (closed : Bool) → List Answer → Type 0
  AreLegal limit closed answers = AreLegalAnswers total start (states piece valid) (buffer limit closed) answers

  -- a match may stand there, where it was said before that there are no more units, or was not
  record May (stand : Stand) (closed : Bool) : Type 0 where
    keeps : Keeps piece valid stand.point.code stand.point.machine.state
    within : stand.point.machine.limit ≤ total
    leaves : stand.leaving ≡ true → states piece valid ≡ true
    opens : stand.leaving ≡ true → closed ≡ false
    closes : closed ≡ true → stand.point.machine.limit ≡ total

  -- with these answers the machine comes to the end to which the match comes
  record Runs (stand : Stand) (closed : Bool) (end : MatchEnd) : Type 0 where
    answers : List Answer
    run : EndsFrom piece reading.stream start stand.point.steps stand.point.code (behind stand.values stand.point.machine) answers (ended (outcome_of end.told) (behind end.stand.values end.stand.point.machine))
    legal : AreLegal stand.point.machine.limit closed answers

  abbrev fuel_at : Stand → ℕ
  fuel_at stand = match_measure piece reading start stand.leaving stand.point.machine.limit stand.point.steps

  -- a match that goes on so ends as a run does
  abbrev Holds : (Stand → MatchEnd) → (fuel : ℕ) → Type 0
  Holds going fuel = (stand : Stand) (closed : Bool) → May stand closed → fuel_at stand < fuel → IsEnd (going stand).told → Runs stand closed (going stand)

  module _ (going : Stand → MatchEnd) (fuel : ℕ) (on : Holds going fuel) (stand : Stand) (closed : Bool) (may : May stand closed) (enough : fuel_at stand < suc fuel)
      (unlooped : stand.point.steps < loop_count piece start stand.point.machine.limit) where
    abbrev machine : Machine
    machine = stand.point.machine

    abbrev limit : ℕ
    limit = machine.limit

    -- behind a step the limit is this, and there are so many turns still
    record After (limit' : ℕ) (closed' : Bool) : Type 0 where
      within : limit' ≤ total
      opens : stand.leaving ≡ true → closed' ≡ false
      closes : closed' ≡ true → limit' ≡ total
      fewer : match_measure piece reading start stand.leaving limit' (suc stand.point.steps) < fuel

    abbrev HasLimit : Next → (limit' : ℕ) → Type 0
    HasLimit (goes_on code last answers) limit' = last.limit ≡ limit'
    HasLimit (ends outcome last) limit' = Unit {0}

    -- the answers of a step may come before those that follow it
    abbrev MayCome : (used : List Answer) → (limit' : ℕ) → (closed' : Bool) → Type 0
    MayCome used limit' closed' = (others : List Answer) → AreLegal limit' closed' others → AreLegal limit closed (map undropped used ++ others)

    -- a statement is made with these answers
    Runs-step : (statement : Stmt) (rest : List Stmt) → stand.point.code ≡ statement ∷ rest → (used : List Answer) (next : Next) → step piece reading.stream statement rest machine used ≡ next
        → Clean piece.blocks rest next → (limit' : ℕ) (closed' : Bool) → HasLimit next limit' → After limit' closed' → MayCome used limit' closed' → IsEnd (on_from piece reading start going stand statement used next).told
        → Runs stand closed (on_from piece reading start going stand statement used next)
    Runs-step statement rest code used (goes_on onward last answers) is clean limit' closed' limit_is after may_come end =
        let here : Stand = record stand { point = point_after piece.table stand.point statement used onward last } in
        let may_here : May here closed' = record {
          keeps = Keeps-step piece valid reading.stream statement rest machine used (goes_on onward last answers) is (subst (λ code. Keeps piece valid code machine.state) code may.keeps) clean;
          within = let within = after.within in omega (arith, within, limit_is);
          leaves = may.leaves;
          opens = after.opens;
          closes = λ is_closed. limit_is ∙ after.closes is_closed;
        } in
        let less : fuel_at here < fuel = subst (λ n. match_measure piece reading start stand.leaving n (suc stand.point.steps) < fuel) (sym limit_is) after.fewer in
        let later : Runs here closed' (going here) = on here closed' may_here less end in
        let ending : Ended = ended (outcome_of (going here).told) (behind (going here).stand.values (going here).stand.point.machine) in
        let all : List Answer = map undropped used ++ later.answers in
        let made_is : step piece reading.stream statement rest (behind stand.values machine) all ≡ goes_on onward (behind stand.values last) later.answers =
        between-step stand.values later.answers piece reading.stream rest machine used statement (subst IsAnswered (sym is) tt) ∙ ap (between stand.values later.answers) is
        ∙ ap (λ left. goes_on onward (behind stand.values last) (map undropped left ++ later.answers)) clean.0 in
        record {
          answers = all;
          run = inr (
            unlooped,
            subst (λ code. IsRun piece reading.stream start stand.point.steps code (behind stand.values machine) all ending) (sym code)
                (IsRun-step piece reading.stream start stand.point.steps statement rest onward (behind stand.values machine) (behind stand.values last) all later.answers ending made_is later.run),
          );
          legal = may_come later.answers (subst (λ n. AreLegal n closed' later.answers) limit_is later.legal);
        }
    Runs-step statement rest code used (ends outcome last) is clean limit' closed' limit_is after may_come end =
        let all : List Answer = map undropped used ++ [] in
        let made_is : step piece reading.stream statement rest (behind stand.values machine) all ≡ ends outcome (behind stand.values last) =
        between-step stand.values [] piece reading.stream rest machine used statement (subst IsAnswered (sym is) clean) ∙ ap (between stand.values []) is in
        record {
          answers = all;
          run = inr (
            unlooped,
            subst (λ code. IsRun piece reading.stream start stand.point.steps code (behind stand.values machine) all (ended (outcome_of (told_by outcome)) (behind stand.values last))) (sym code)
                (subst (λ told. IsRun piece reading.stream start stand.point.steps (statement ∷ rest) (behind stand.values machine) all (ended told (behind stand.values last))) (sym (outcome_of-told outcome clean))
                (last_step made_is)),
          );
          legal = may_come [] tt;
        }

    -- ---- a statement that asks no refill

    after_quiet : After limit closed
    after_quiet = record {
      within = may.within;
      opens = may.opens;
      closes = may.closes;
      fewer = omega (arith, measure-step piece reading start stand.leaving limit stand.point.steps may.within unlooped, enough);
    }

    has_limit : (next : Next) → (machine_after next).limit ≡ limit → HasLimit next limit
    has_limit (goes_on code last answers) same = same
    has_limit (ends outcome last) same = tt

    Runs-quiet : (statement : Stmt) (rest : List Stmt) → stand.point.code ≡ statement ∷ rest → is_refill statement ≡ false → IsEnd (stepped piece reading start going stand statement rest []).told
        → Runs stand closed (stepped piece reading start going stand statement rest [])
    Runs-quiet statement rest code quiet end =
        Runs-step statement rest code [] (step piece reading.stream statement rest machine []) refl (clean-step piece reading.stream rest machine statement quiet) limit closed
        (has_limit (step piece reading.stream statement rest machine []) ((ChangesOnly-step piece reading.stream rest machine [] statement).limit quiet)) after_quiet (λ others legal. legal) end

    -- a Need that has its units
    Runs-enough : (units : ℕ) (rest : List Stmt) → stand.point.code ≡ Need units ∷ rest → has_units units machine ≡ true → IsEnd (stepped piece reading start going stand (Need units) rest []).told
        → Runs stand closed (stepped piece reading start going stand (Need units) rest [])
    Runs-enough units rest code enough_units =
        let is : need piece.blocks units rest machine [] ≡ goes_on rest machine [] = ap (λ (found : Bool). if found then goes_on rest machine [] else ends unanswered machine) enough_units in
        subst (λ next. IsEnd (on_from piece reading start going stand (Need units) [] next).told → Runs stand closed (on_from piece reading start going stand (Need units) [] next)) (sym is)
        (Runs-step (Need units) rest code [] (goes_on rest machine []) is (refl, inl refl) limit closed refl after_quiet (λ others legal. legal))

    -- ---- a refill that is made

    -- there are no more units
    module _ (whole : limit ≡ total) (unleft : stand.leaving ≡ false) where
      after_none : After limit true
      after_none = record {
        within = may.within;
        opens = λ leaves. absurd (false≢true (sym unleft ∙ leaves));
        closes = λ is. whole;
        fewer = omega (arith, measure-step piece reading start stand.leaving limit stand.point.steps may.within unlooped, enough);
      }

      Runs-need_none : (units : ℕ) (rest : List Stmt) → stand.point.code ≡ Need units ∷ rest → has_units units machine ≡ false
          → IsEnd (stepped piece reading start going stand (Need units) rest (refilled no_more ∷ [])).told → Runs stand closed (stepped piece reading start going stand (Need units) rest (refilled no_more ∷ []))
      Runs-need_none units rest code few =
          let is : need piece.blocks units rest machine (refilled no_more ∷ []) ≡ ends at_end machine =
          ap (λ (found : Bool). if found then goes_on rest machine (refilled no_more ∷ []) else ends at_end machine) few in
          subst (λ next. IsEnd (on_from piece reading start going stand (Need units) (refilled no_more ∷ []) next).told → Runs stand closed (on_from piece reading start going stand (Need units) (refilled no_more ∷ []) next)) (sym is)
          (Runs-step (Need units) rest code (refilled no_more ∷ []) (ends at_end machine) is (λ e. absurd cc) limit true tt after_none (λ others legal. (whole, legal)))

      Runs-try_none : (block : ℕ) (rest : List Stmt) → stand.point.code ≡ Try block ∷ rest
          → IsEnd (stepped piece reading start going stand (Try block) rest (refilled no_more ∷ [])).told → Runs stand closed (stepped piece reading start going stand (Try block) rest (refilled no_more ∷ []))
      Runs-try_none block rest code =
          Runs-step (Try block) rest code (refilled no_more ∷ []) (goes_on rest machine []) refl (refl, inl refl) limit true refl after_none (λ others legal. (whole, legal))

    -- it brings units
    module _ (count : ℕ) (some : 1 ≤ count) (reaches : limit + count ≤ total) (unleft : stand.leaving ≡ false) where
      still_open : closed ≡ false
      still_open = by closed may.closes where
        by : (closed : Bool) → (closed ≡ true → limit ≡ total) → closed ≡ false
        by true closes = absurd (let whole = closes refl in omega (arith, whole, some, reaches))
        by false closes = refl

      fewer_turns : (steps : ℕ) → match_measure piece reading start stand.leaving (limit + count) steps < fuel
      fewer_turns steps =
          let less : match_measure piece reading start stand.leaving (limit + count) steps < fuel_at stand =
          match_measure-fewer piece reading start stand.leaving stand.leaving limit (limit + count) stand.point.steps steps (omega (arith, some, reaches)) in
          omega (arith, less, enough)

      after_more : After (limit + count) closed
      after_more = record {
        within = reaches;
        opens = may.opens;
        closes = λ is. absurd (false≢true (sym still_open ∙ is));
        fewer = fewer_turns (suc stand.point.steps);
      }

      legal-more : (others : List Answer) → AreLegal (limit + count) closed others → AreLegal limit closed (refilled (more 0 count) ∷ others)
      legal-more others legal = ((still_open, omega arith, some, reaches), legal)

      Runs-try_more : (block : ℕ) (rest : List Stmt) → stand.point.code ≡ Try block ∷ rest
          → IsEnd (stepped piece reading start going stand (Try block) rest (refilled (more 0 count) ∷ [])).told → Runs stand closed (stepped piece reading start going stand (Try block) rest (refilled (more 0 count) ∷ []))
      Runs-try_more block rest code =
          let moved : Machine = record machine { limit = limit + count } in
          let next : Next = jump (code_at piece.blocks (Some block)) moved [] in
          Runs-step (Try block) rest code (refilled (more 0 count) ∷ []) next refl (clean-jump piece.blocks rest block moved) (limit + count) closed
          (jumped (code_at piece.blocks (Some block))) after_more legal-more
        where
          jumped : (found : Option (List Stmt)) → HasLimit (jump found (record machine { limit = limit + count }) []) (limit + count)
          jumped None = tt
          jumped (Some code) = refl

      -- a Need looks again whether there are units enough
      Runs-need_more : (units : ℕ) (rest : List Stmt) → stand.point.code ≡ Need units ∷ rest → has_units units machine ≡ false
          → IsEnd (going (record stand { point = limited (limit + count) stand.point })).told → Runs stand closed (going (record stand { point = limited (limit + count) stand.point }))
      Runs-need_more units rest code few end =
          let here : Stand = record stand { point = limited (limit + count) stand.point } in
          let may_here : May here closed = record {
            keeps = may.keeps;
            within = reaches;
            leaves = may.leaves;
            opens = may.opens;
            closes = λ is. absurd (false≢true (sym still_open ∙ is));
          } in
          let later : Runs here closed (going here) = on here closed may_here (fewer_turns stand.point.steps) end in
          record {
            answers = refilled (more 0 count) ∷ later.answers;
            run = EndsFrom-waits piece reading.stream start stand.point.steps units rest (behind stand.values machine) count later.answers few stand.point.code
                (ended (outcome_of (going here).told) (behind (going here).stand.values (going here).stand.point.machine)) code unlooped later.run;
            legal = legal-more later.answers later.legal;
          }

    -- ---- the scanner is left

    module _ (statement : Stmt) (rest : List Stmt) (code : stand.point.code ≡ statement ∷ rest) (asking : points.IsAsking statement machine) (refills : is_refill statement ≡ true) (leaving : stand.leaving ≡ true)
        (room : limit - start < reading.size) where
      keeps_here : Keeps piece valid (statement ∷ rest) machine.state
      keeps_here = subst (λ code. Keeps piece valid code machine.state) code may.keeps

      abbrev refill : Refill
      refill = refill_at reading start limit

      abbrev to : ℕ
      to = limit + units_of refill

      -- where the match comes back to
      abbrev here : Option ℕ → Stand
      here state = record {
        point = point_back piece reading start state stand.point to;
        values = stand.values ++ machine.values;
        leaving = not (is_whole reading start limit);
      }

      abbrev back_at : (state : ℕ) → Machine
      back_at state = record machine { unit = None; limit = to; values = [] }

      -- what one refill does to the buffer
      record Refilled (closed' : Bool) : Type 0 where
        legal : (others : List Answer) → AreLegal to closed' others → AreLegal limit closed (left (refill ∷ []) ∷ others)
        reaches : to ≤ total
        opens : not (is_whole reading start limit) ≡ true → closed' ≡ false
        closes : closed' ≡ true → to ≡ total
        fewer : (steps : ℕ) → match_measure piece reading start (not (is_whole reading start limit)) to steps < fuel

      fewer_back : (leaves : Bool) (limit' steps : ℕ) → chances reading leaves limit' < chances reading stand.leaving limit → match_measure piece reading start leaves limit' steps < fuel
      fewer_back leaves limit' steps less =
          let less_turns : match_measure piece reading start leaves limit' steps < fuel_at stand =
          match_measure-fewer piece reading start stand.leaving leaves limit limit' stand.point.steps steps less in
          omega (arith, less_turns, enough)

      chances_leaving : chances reading stand.leaving limit ≡ total - limit + 1
      chances_leaving = ap (λ leaving. chances reading leaving limit) leaving

      refilled_so : (closed' : Bool) × Refilled closed'
      refilled_so = by (brings reading start limit may.within) where
        is_open : closed ≡ false
        is_open = may.opens leaving

        by : Brings reading start limit → (closed' : Bool) × Refilled closed'
        by (brings_none is whole at) =
            let to_is : to ≡ limit = ap (λ refill. limit + units_of refill) is ∙ (let same : limit + 0 ≡ limit = omega arith in same) in (
              true,
              record {
                legal = λ others legal.
                    subst (λ refill. AreLegal limit closed (left (refill ∷ []) ∷ others)) (sym is)
                    (is_open, may.leaves leaving, omega arith, (at, tt), subst (λ n. AreLegal n true others) to_is legal);
                reaches = omega (arith, to_is, at);
                opens = λ leaves. absurd (false≢true (sym (ap not whole) ∙ leaves));
                closes = λ is. to_is ∙ at;
                fewer = λ steps. subst (λ leaves. match_measure piece reading start leaves to steps < fuel) (sym (ap not whole))
                    (fewer_back false to steps (omega (arith, chances_leaving, to_is, at)));
              },
            )
        by (brings_units is part below) =
            let count : ℕ = added reading start limit in
            let to_is : to ≡ limit + count = ap (λ refill. limit + units_of refill) is in
            let some : 1 ≤ count = added-some reading start limit steps_some room below in
            let most : limit + count ≤ total = added-within reading start limit below in (
              false,
              record {
                legal = λ others legal.
                    subst (λ refill. AreLegal limit closed (left (refill ∷ []) ∷ others)) (sym is) (
                      is_open,
                      may.leaves leaving,
                      omega arith,
                      ((is_open, omega arith, some, most), tt),
                      subst (λ closed. AreLegal (limit + count) closed others) (sym is_open) (subst (λ n. AreLegal n false others) to_is legal),
                    );
                reaches = omega (arith, to_is, most);
                opens = λ leaves. refl;
                closes = λ is. absurd (false≢true is);
                fewer = λ steps. subst (λ leaves. match_measure piece reading start leaves to steps < fuel) (sym (ap not part))
                    (fewer_back true to steps (omega (arith, chances_leaving, to_is, some, most)));
              },
            )

      Runs-left : (state : ℕ) → machine.state ≡ Some state → IsEnd (going (here (Some state))).told → Runs stand closed (going (here (Some state)))
      Runs-left state is end =
          let known : list_any (stores state) (all_statements piece.blocks) ≡ true = subst (IsStored piece.blocks) is keeps_here.stored in
          let stand' : Stand = here (Some state) in
          let ending : Ended = ended (outcome_of (going stand').told) (behind (going stand').stand.values (going stand').stand.point.machine) in
          let closed' : Bool = refilled_so.0 in
          let buffer_is : Refilled closed' = refilled_so.1 in
          let may_here : May stand' closed' = record {
            keeps = Keeps-or_none piece valid (stored_block piece.blocks (Some state)) machine.state keeps_here.stored;
            within = buffer_is.reaches;
            leaves = λ leaves. may.leaves leaving;
            opens = buffer_is.opens;
            closes = buffer_is.closes;
          } in
          let later : Runs stand' closed' (going stand') = on stand' closed' may_here (buffer_is.fewer (suc stand.point.steps)) end in
          let answers : List Answer = left (refill ∷ []) ∷ later.answers in
          let limit_is : to ≡ limit + units_of_all (refill ∷ []) = omega arith in
          let machine_is : behind (stand.values ++ machine.values) (back_at state) ≡ record (behind stand.values machine) { unit = None; limit = limit + units_of_all (refill ∷ []) } =
          ap (λ values. record machine { unit = None; limit = to; values = values }) (append-nil (stand.values ++ machine.values))
          ∙ ap (λ n. record machine { unit = None; limit = n; values = stand.values ++ machine.values }) limit_is in
          let run_on : (found : Option (List Stmt)) → code_at piece.blocks (stored_block piece.blocks (Some state)) ≡ found
          → EndsFrom piece reading.stream start (suc stand.point.steps) (code_or_none found) (behind (stand.values ++ machine.values) (back_at state)) later.answers ending
          → IsRun piece reading.stream start stand.point.steps (statement ∷ rest) (behind stand.values machine) answers ending =
          λ found at onward. resumed state is known later.answers ending machine_is found at onward in
          record {
            answers = answers;
            run = inr (
              unlooped,
              subst (λ code. IsRun piece reading.stream start stand.point.steps code (behind stand.values machine) answers ending) (sym code)
                  (run_on (code_at piece.blocks (stored_block piece.blocks (Some state))) refl later.run),
            );
            legal = buffer_is.legal later.answers later.legal;
          }
        where
          resumed : (state : ℕ) → machine.state ≡ Some state → list_any (stores state) (all_statements piece.blocks) ≡ true → (others : List Answer) (ending : Ended)
              → behind (stand.values ++ machine.values) (back_at state) ≡ record (behind stand.values machine) { unit = None; limit = limit + units_of_all (refill ∷ []) }
              → (found : Option (List Stmt)) → code_at piece.blocks (stored_block piece.blocks (Some state)) ≡ found
              → EndsFrom piece reading.stream start (suc stand.point.steps) (code_or_none found) (behind (stand.values ++ machine.values) (back_at state)) others ending
              → IsRun piece reading.stream start stand.point.steps (statement ∷ rest) (behind stand.values machine) (left (refill ∷ []) ∷ others) ending
          resumed state is known others ending machine_is None at onward = absurd (code_at-stored piece state valid known at)
          resumed state is known others ending machine_is (Some code) at onward =
              let after : Machine = record (behind stand.values machine) { unit = None; limit = limit + units_of_all (refill ∷ []) } in
              let found : code_at piece.blocks (stored_block piece.blocks machine.state) ≡ Some code = ap (λ state. code_at piece.blocks (stored_block piece.blocks state)) is ∙ at in
              let made_is : step piece reading.stream statement rest (behind stand.values machine) (left (refill ∷ []) ∷ others) ≡ goes_on code after others =
              step-left piece reading.stream start statement rest (refill ∷ []) (behind stand.values machine) others (IsAsking-behind piece reading.stream start stand.values statement machine asking)
              ∙ come_back-left piece reading.stream start (refill ∷ []) (behind stand.values machine) others code found in
              IsRun-step piece reading.stream start stand.point.steps statement rest code (behind stand.values machine) after (left (refill ∷ []) ∷ others) others ending made_is
              (subst (λ machine. EndsFrom piece reading.stream start (suc stand.point.steps) code machine others ending) machine_is onward)

      -- a state is stored
      Runs-back : IsEnd (going (stand_back piece reading start stand)).told → Runs stand closed (going (stand_back piece reading start stand))
      Runs-back = by machine.state refl where
        by : (state : Option ℕ) → machine.state ≡ state → IsEnd (going (here state)).told → Runs stand closed (going (here state))
        by None is = absurd (false≢true (subst (λ (state : Option ℕ). is_some state ≡ true) is (Keeps-asked piece valid statement rest machine.state refills (may.leaves leaving) keeps_here)))
        by (Some state) is = Runs-left state is

    -- ---- all statements

    IsEnd-if : (test : Bool) (one other : MatchEnd) → IsEnd (if test then one else other).told → (test ≡ true → IsEnd one.told → Runs stand closed one) → (test ≡ false → IsEnd other.told → Runs stand closed other)
        → Runs stand closed (if test then one else other)
    IsEnd-if true one other end here there = here refl end
    IsEnd-if false one other end here there = there refl end

    -- a refill is asked
    Runs-asked : (statement : Stmt) (rest : List Stmt) (kept units : ℕ) → stand.point.code ≡ statement ∷ rest → points.IsAsking statement machine → is_refill statement ≡ true
        → limit - start < kept + units
        → ((refill : Refill) → refill_at reading start limit ≡ refill → stand.leaving ≡ false → limit - start < reading.size → IsEnd (refilled_by piece reading start going stand statement rest refill).told → Runs stand closed (refilled_by piece reading start going stand statement rest refill))
        → IsEnd (asked piece reading start going stand statement rest kept units).told → Runs stand closed (asked piece reading start going stand statement rest kept units)
    Runs-asked statement rest kept units code asking refills short made_so end =
        IsEnd-if (nat_lt reading.size (kept + units)) _ _ end (λ full ending. absurd ending)
        (λ fits ending.
        let room : limit - start < reading.size = let most = ltb-false reading.size (kept + units) fits in omega (arith, most, short) in
        IsEnd-if stand.leaving _ _ ending (λ leaving. Runs-back statement rest code asking refills leaving room) (λ unleft. made_so (refill_at reading start limit) refl unleft room))

    Runs-made : (code : List Stmt) → stand.point.code ≡ code → IsEnd (made piece reading start going stand code).told → Runs stand closed (made piece reading start going stand code)
    Runs-made [] is end = record {
      answers = [];
      run = inr (unlooped, subst (λ code. IsRun piece reading.stream start stand.point.steps code (behind stand.values machine) [] (ended stuck (behind stand.values machine))) (sym is) no_code);
      legal = tt;
    }
    Runs-made (Need units ∷ rest) is end =
        IsEnd-if (not (has_units units machine)) _ _ end
        (λ few.
        let lacks : has_units units machine ≡ false = turned (has_units units machine) few in
        Runs-asked (Need units) rest (machine.cursor - start) units is lacks refl (let less = leb-false units (limit - machine.cursor) lacks in omega (arith, less)) (need_made units rest is lacks))
        (λ has. Runs-enough units rest is (turned_back (has_units units machine) has))
      where
        turned : (test : Bool) → not test ≡ true → test ≡ false
        turned true e = absurd (false≢true e)
        turned false e = refl

        turned_back : (test : Bool) → not test ≡ false → test ≡ true
        turned_back true e = refl
        turned_back false e = absurd (false≢true (sym e))

        need_made : (units : ℕ) (rest : List Stmt) → stand.point.code ≡ Need units ∷ rest → has_units units machine ≡ false → (refill : Refill) → refill_at reading start limit ≡ refill → stand.leaving ≡ false → limit - start < reading.size
            → IsEnd (refilled_by piece reading start going stand (Need units) rest refill).told → Runs stand closed (refilled_by piece reading start going stand (Need units) rest refill)
        need_made units rest is lacks refill told unleft room = by refill (brings reading start limit may.within) told where
          by : (refill : Refill) → Brings reading start limit → refill_at reading start limit ≡ refill
              → IsEnd (refilled_by piece reading start going stand (Need units) rest refill).told → Runs stand closed (refilled_by piece reading start going stand (Need units) rest refill)
          by (more dropped count) (brings_units some part below) told =
              let same : more dropped count ≡ more 0 (added reading start limit) = sym told ∙ some in
              let many : count ≡ added reading start limit = cc in
              Runs-need_more count (let one = added-some reading start limit steps_some room below in omega (arith, one, many)) (let most = added-within reading start limit below in omega (arith, most, many)) unleft units rest is lacks
          by (more dropped count) (brings_none is_none whole at) told = absurd (let clash : more dropped count ≡ no_more = sym told ∙ is_none in cc)
          by no_more (brings_units some part below) told = absurd (let clash : no_more ≡ more 0 (added reading start limit) = sym told ∙ some in cc)
          by no_more (brings_none is_none whole at) told = Runs-need_none at unleft units rest is lacks
    Runs-made (Try block ∷ rest) is end =
        Runs-asked (Try block) rest (limit - start) 1 is tt refl (omega arith) try_made end
      where
        try_made : (refill : Refill) → refill_at reading start limit ≡ refill → stand.leaving ≡ false → limit - start < reading.size
            → IsEnd (refilled_by piece reading start going stand (Try block) rest refill).told → Runs stand closed (refilled_by piece reading start going stand (Try block) rest refill)
        try_made refill told unleft room = by refill (brings reading start limit may.within) told where
          by : (refill : Refill) → Brings reading start limit → refill_at reading start limit ≡ refill
              → IsEnd (refilled_by piece reading start going stand (Try block) rest refill).told → Runs stand closed (refilled_by piece reading start going stand (Try block) rest refill)
          by (more dropped count) (brings_units some part below) told =
              let same : more dropped count ≡ more 0 (added reading start limit) = sym told ∙ some in
              subst (λ refill. IsEnd (refilled_by piece reading start going stand (Try block) rest refill).told → Runs stand closed (refilled_by piece reading start going stand (Try block) rest refill)) (sym same)
              (Runs-try_more (added reading start limit) (added-some reading start limit steps_some room below) (added-within reading start limit below) unleft block rest is)
          by (more dropped count) (brings_none is_none whole at) told = absurd (let clash : more dropped count ≡ no_more = sym told ∙ is_none in cc)
          by no_more (brings_units some part below) told = absurd (let clash : no_more ≡ more 0 (added reading start limit) = sym told ∙ some in cc)
          by no_more (brings_none is_none whole at) told = Runs-try_none at unleft block rest is
    Runs-made (statement ∷ rest) is end = Runs-quiet statement rest is refl end

  -- the match ends as a run, where its fuel suffices
  Runs-from : (fuel : ℕ) → Holds (match_from piece reading start fuel) fuel
  Runs-from zero stand closed may enough end = absurd (omega (arith, enough))
  Runs-from (suc fuel) stand closed may enough end = by (nat_le (loop_count piece start stand.point.machine.limit) stand.point.steps) refl end (Runs-from fuel) where
    by : (looped : Bool) → nat_le (loop_count piece start stand.point.machine.limit) stand.point.steps ≡ looped
        → IsEnd (if looped then matches.ended tells.Loop stand stand.point.machine else made piece reading start (match_from piece reading start fuel) stand stand.point.code).told → Holds (match_from piece reading start fuel) fuel
        → Runs stand closed (if looped then matches.ended tells.Loop stand stand.point.machine else made piece reading start (match_from piece reading start fuel) stand stand.point.code)
    by true is end on = record { answers = []; run = inl (leb-true _ _ is, refl); legal = tt }
    by false is end on = Runs-made (match_from piece reading start fuel) fuel on stand closed may enough (leb-false _ _ is) stand.point.code refl end

  -- ---- a whole match

  module _ (cond : List ℕ) (limit : ℕ) (leaving : Bool) (within : limit ≤ total) (leaves : leaving ≡ true → states piece valid ≡ true) where
    abbrev first_stand : Stand
    first_stand = record {
      point = point_at piece.blocks (entry_block piece.conds cond) (fresh_machine start limit cond) 0 [];
      values = [];
      leaving = leaving;
    }

    may_first : May first_stand false
    may_first = record {
      keeps = Keeps-or_none piece valid (entry_block piece.conds cond) None tt;
      within = within;
      leaves = leaves;
      opens = λ is. refl;
      closes = λ is. absurd (false≢true is);
    }

    -- the fuel of a match suffices
    fuel_first : fuel_at first_stand < match_fuel piece reading start
    fuel_first =
        let count : ℕ = loop_count piece start total in
        let most : chances reading leaving limit ≤ total + 1 = few leaving in
        let product : chances reading leaving limit * suc count ≤ (total + 1) * suc count = mul-le-mul_right (suc count) most in
        let split : (total + 2) * suc count ≡ (total + 1) * suc count + suc count = grind arith in
        omega (arith, product, split)
      where
        few : (leaving : Bool) → chances reading leaving limit ≤ total + 1
        few true = omega arith
        few false = omega arith

    Runs-match : IsEnd (match_of piece reading start cond limit leaving).told → Runs first_stand false (match_of piece reading start cond limit leaving)
    unfolding match_of
    Runs-match end = Runs-from (match_fuel piece reading start) first_stand false may_first fuel_first end

-- each match ends as a run
pub EndsAsRun-match : (piece : Piece) (reading : Reading) (start : ℕ) (cond : List ℕ) (limit : ℕ) (leaving : Bool) → IsValid piece → MayStart piece reading start limit leaving
    → IsEnd (match_of piece reading start cond limit leaving).told → EndsAsRun piece reading start cond limit (match_of piece reading start cond limit leaving)
EndsAsRun-match piece reading start cond limit leaving valid may end =
    let so : MatchEnd = match_of piece reading start cond limit leaving in
    let runs = Runs-match piece valid reading start may.step cond limit leaving may.within may.states end in
    let schedule : Schedule = record { first = limit; answers = runs.answers } in
    let run : run_of piece reading.stream start cond schedule ≡ ended (outcome_of so.told) (behind so.stand.values so.stand.point.machine) =
    run_of-leads piece reading.stream start cond limit runs.answers (ended (outcome_of so.told) (behind so.stand.values so.stand.point.machine)) valid runs.run in
    record {
      schedule = schedule;
      first = refl;
      legal = record { from_start = may.from; within = may.within; whole = may.whole; answers = runs.legal };
      ends = subst (IsEndOf so) (sym run) (record { told = Tells-end so.told end; cursor = refl; cond = refl; values = refl });
    }
