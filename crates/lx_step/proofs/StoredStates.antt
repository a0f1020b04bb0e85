-- The state that a match over windows stores is one of its piece's.
use Rattle.std.proofs.Common.{◌≡◌, ◌∙◌, ap, refl, sym, subst, ℕ, zero, suc, ◌+◌, Bool, true, false, ◌||◌, List, [], ◌∷◌, Option, Some, None, IfSome, eq-eqb}
use Rattle.std.specs.Prelude.{◌==◌, if◌then◌else◌, slice_get}
use Rattle.std.specs.List.{list_any}
use Rattle.std.proofs.lemmas.List.Folds.{list_any-append}
use Rattle.lx_ccode.specs.declared.piece.CodeBlock.{CodeBlock}
use Rattle.lx_ccode.specs.declared.piece.Piece.{Piece}
use Rattle.lx_ccode.specs.declared.piece.Stmt.{Stmt}
use Rattle.lx_ccode.specs.declared.piece.Stmt.TheVariants.{Peek, Skip, MSet, MUnset, MCopy, IfUnit, IfIs, IfSet, IfAccept, IfEnd, State, Need, Try, Tag, Back, Switch, Goto, Leave, Code, Jump}
use Rattle.lx_ccode.specs.Effects.{machine_after}
use Rattle.lx_ccode.specs.Machine.{Answer, Machine, Next, back, choose, code_at, ends, goes_on, has_units, case_block, if_unit, switch_unit, jump, left, more, need, no_more, peek, refilled, skip, step, stored_block, try, write_history}
use Rattle.lx_ccode.specs.Runs.{entry_block}
use Rattle.lx_ccode.specs.States.{stores}
use Rattle.lx_ccode.specs.Statements.{all_statements, code_of}
use Rattle.lx_ccode.proofs.Steps.{ChangesOnly-step}
use Rattle.lx_window.specs.Windows.{IsFedBy, IsFormed, IsWindowOf}
use Rattle.lx_step.specs.declared.answers.Outcome.TheVariants.{NeedFill}
use Rattle.lx_step.specs.declared.answers.StmtAt.{StmtAt}
use Rattle.lx_step.specs.Advances.{ComesBack, IsAdvance, StoresLeft}
use Rattle.lx_step.specs.Entries.{entry_by, entry_point}
use Rattle.lx_step.specs.Feeds.{Feed}
use Rattle.lx_step.specs.Held.{Held}
use Rattle.lx_step.specs.Left.{IsStored, Left}
use Rattle.lx_step.specs.Points.{LeadsTo, Point, code_or_none, makes, stays, waits}
use Rattle.lx_step.proofs.CallWindows.{IsFedBy-fed}

-- ---- code of a piece

or_left : (a b : Bool) → a ≡ true → (a || b) ≡ true
or_left true b e = refl
or_left false b e = absurd cc

or_right : (a b : Bool) → b ≡ true → (a || b) ≡ true
or_right true b e = refl
or_right false b e = e

-- each statement of the code is one of the blocks'
abbrev pub IsCodeOf : List CodeBlock → List Stmt → Type 0
IsCodeOf blocks code = (test : Stmt → Bool) → list_any test code ≡ true → list_any test (all_statements blocks) ≡ true

IsCodeOf-block : (blocks : List CodeBlock) (place : ℕ) (code : List Stmt) → slice_get (code_of blocks) place ≡ Some code → IsCodeOf blocks code
IsCodeOf-block [] place code is test has = absurd cc
IsCodeOf-block (first ∷ blocks) zero code is test has =
    let same : first.stmts ≡ code = cc in
    list_any-append test first.stmts (all_statements blocks) ∙ or_left _ _ (ap (list_any test) same ∙ has)
IsCodeOf-block (first ∷ blocks) (suc place) code is test has =
    list_any-append test first.stmts (all_statements blocks) ∙ or_right _ _ (IsCodeOf-block blocks place code is test has)

pub IsCodeOf-at : (blocks : List CodeBlock) (block : Option ℕ) (code : List Stmt) → code_at blocks block ≡ Some code → IsCodeOf blocks code
IsCodeOf-at blocks None code is test has = absurd cc
IsCodeOf-at blocks (Some block) code is test has = IsCodeOf-block blocks block code is test has

pub IsCodeOf-rest : (blocks : List CodeBlock) (statement : Stmt) (rest : List Stmt) → IsCodeOf blocks (statement ∷ rest) → IsCodeOf blocks rest
IsCodeOf-rest blocks statement rest is test has = is test (or_right (test statement) _ has)

-- ---- the code behind a step

module _ (blocks : List CodeBlock) where
  -- the code with which the match goes on is of the blocks
  abbrev pub GoesOnWith : Next → Type 0
  GoesOnWith (goes_on code machine answers) = IsCodeOf blocks code
  GoesOnWith (ends outcome machine) = Unit {0}

  with-jump : (block : Option ℕ) (machine : Machine) (answers : List Answer) → GoesOnWith (jump (code_at blocks block) machine answers)
  with-jump block machine answers = by (code_at blocks block) refl where
    by : (found : Option (List Stmt)) → code_at blocks block ≡ found → GoesOnWith (jump found machine answers)
    by None is = tt
    by (Some code) is = IsCodeOf-at blocks block code is

  with-if : (test : Bool) (one other : Next) → GoesOnWith one → GoesOnWith other → GoesOnWith (if test then one else other)
  with-if true one other here there = here
  with-if false one other here there = there

  module _ (rest : List Stmt) (here : IsCodeOf blocks rest) where
    with-choose : (test : Bool) (block : ℕ) (machine : Machine) (answers : List Answer) → GoesOnWith (choose test (code_at blocks (Some block)) rest machine answers)
    with-choose true block machine answers = with-jump (Some block) machine answers
    with-choose false block machine answers = here

    with-peek : (unit : Option ℕ) (machine : Machine) (answers : List Answer) → GoesOnWith (peek unit rest machine answers)
    with-peek None machine answers = tt
    with-peek (Some unit) machine answers = here

    with-skip : (before_limit : Bool) (machine : Machine) (answers : List Answer) → GoesOnWith (skip before_limit rest machine answers)
    with-skip true machine answers = here
    with-skip false machine answers = tt

    with-if_unit : (unit : Option ℕ) (test : ℕ → Bool) (block : ℕ) (machine : Machine) (answers : List Answer) → GoesOnWith (if_unit unit test (code_at blocks (Some block)) rest machine answers)
    with-if_unit None test block machine answers = tt
    with-if_unit (Some unit) test block machine answers = with-choose (test unit) block machine answers

    with-switch_unit : (unit : Option ℕ) (block : ℕ → ℕ) (machine : Machine) (answers : List Answer) → GoesOnWith (switch_unit unit (λ unit. code_at blocks (Some (block unit))) machine answers)
    with-switch_unit None block machine answers = tt
    with-switch_unit (Some unit) block machine answers = with-jump (Some (block unit)) machine answers

    with-write_history : (history : ℕ) (content : List (Option ℕ)) (machine : Machine) (answers : List Answer) → GoesOnWith (write_history history content rest machine answers)
    with-write_history zero content machine answers = tt
    with-write_history (suc place) content machine answers = here

    with-back : (offset : Option ℕ) (machine : Machine) (answers : List Answer) → GoesOnWith (back offset rest machine answers)
    with-back None machine answers = tt
    with-back (Some offset) machine answers = here

    with-need : (units : ℕ) (machine : Machine) (answers : List Answer) → GoesOnWith (need blocks units rest machine answers)
    with-need units machine [] = with-if (has_units units machine) _ _ here tt
    with-need units machine (refilled (more dropped added) ∷ answers) =
        with-if (has_units units machine) _ _ here (with-need units (record machine { limit = machine.limit + added }) answers)
    with-need units machine (refilled no_more ∷ answers) = with-if (has_units units machine) _ _ here tt
    with-need units machine (left refills ∷ answers) = with-if (has_units units machine) _ _ here (with-jump (stored_block blocks machine.state) _ answers)

    with-try : (block : ℕ) (machine : Machine) (answers : List Answer) → GoesOnWith (try blocks (code_at blocks (Some block)) rest machine answers)
    with-try block machine [] = tt
    with-try block machine (refilled (more dropped added) ∷ answers) = with-jump (Some block) _ answers
    with-try block machine (refilled no_more ∷ answers) = here
    with-try block machine (left refills ∷ answers) = with-jump (stored_block blocks machine.state) _ answers

pub with-step : (piece : Piece) (stream : List ℕ) (rest : List Stmt) (machine : Machine) (answers : List Answer) (statement : Stmt) → IsCodeOf piece.blocks rest
    → GoesOnWith piece.blocks (step piece stream statement rest machine answers)
with-step piece stream rest machine answers Peek here = with-peek piece.blocks rest here _ machine answers
with-step piece stream rest machine answers Skip here = with-skip piece.blocks rest here _ machine answers
with-step piece stream rest machine answers (MSet history) here = with-write_history piece.blocks rest here history _ machine answers
with-step piece stream rest machine answers (MUnset history) here = with-write_history piece.blocks rest here history _ machine answers
with-step piece stream rest machine answers (MCopy history source) here = with-write_history piece.blocks rest here history _ machine answers
with-step piece stream rest machine answers (IfUnit greatest block) here = with-if_unit piece.blocks rest here machine.unit _ block machine answers
with-step piece stream rest machine answers (IfIs unit block) here = with-if_unit piece.blocks rest here machine.unit _ block machine answers
with-step piece stream rest machine answers (IfSet set block) here = with-if_unit piece.blocks rest here machine.unit _ block machine answers
with-step piece stream rest machine answers (IfAccept accept block) here = with-choose piece.blocks rest here _ block machine answers
with-step piece stream rest machine answers (IfEnd block) here = with-choose piece.blocks rest here _ block machine answers
with-step piece stream rest machine answers (Need units) here = with-need piece.blocks rest here units machine answers
with-step piece stream rest machine answers (Try block) here = with-try piece.blocks rest here block machine answers
with-step piece stream rest machine answers (Tag tag true history) here = here
with-step piece stream rest machine answers (Tag tag false register) here = here
with-step piece stream rest machine answers (Back register) here = with-back piece.blocks rest here _ machine answers
with-step piece stream rest machine answers (Switch cases last) here = with-switch_unit piece.blocks rest here machine.unit (case_block cases last) machine answers
with-step piece stream rest machine answers (Goto block) here = with-jump piece.blocks (Some block) machine answers
with-step piece stream rest machine answers Leave here = tt
with-step piece stream rest machine answers (Code rule line action) here = tt
with-step piece stream rest machine answers (Jump cond rule) here = tt
with-step piece stream rest machine answers _ here = here

-- ---- the state behind a step

-- a State stores its own
pub stored-state : (piece : Piece) (stream : List ℕ) (statement : Stmt) (rest : List Stmt) (machine : Machine) (answers : List Answer) → IsCodeOf piece.blocks (statement ∷ rest)
    → IsStored piece.blocks machine.state → IsStored piece.blocks (machine_after (step piece stream statement rest machine answers)).state
stored-state piece stream (State state) rest machine answers code stored = code (stores state) (or_left (state == state) _ (eq-eqb state state refl))
stored-state piece stream statement rest machine answers code stored =
    subst (IsStored piece.blocks) (sym ((ChangesOnly-step piece stream rest machine answers statement).state refl)) stored

-- what stands from a point on is the piece's where it is so before
pub IsCodeOf-leads : (piece : Piece) (stream : List ℕ) (start size : ℕ) (from point : Point) (answers : List Answer) → LeadsTo piece stream start size from answers point
    → IsCodeOf piece.blocks from.code → IsCodeOf piece.blocks point.code
IsCodeOf-leads piece stream start size from point answers stays code = code
IsCodeOf-leads piece stream start size from point all (waits {answers} {point = before} {units} {rest} dropped added leads stands asks is) code =
    IsCodeOf-leads piece stream start size from before answers leads code
IsCodeOf-leads piece stream start size from point all (makes {answers} {used} {point = before} {statement} {rest} {machine} leads made is) code =
    let here : IsCodeOf piece.blocks (statement ∷ rest) = subst (IsCodeOf piece.blocks) made.stands.code (IsCodeOf-leads piece stream start size from before answers leads code) in
    subst (GoesOnWith piece.blocks) made.step (with-step piece stream rest before.machine used statement (IsCodeOf-rest piece.blocks statement rest here))

-- and so is what is stored there
stored-leads : (piece : Piece) (stream : List ℕ) (start size : ℕ) (from point : Point) (answers : List Answer) → LeadsTo piece stream start size from answers point
    → IsCodeOf piece.blocks from.code → IsStored piece.blocks from.machine.state → IsStored piece.blocks point.machine.state
stored-leads piece stream start size from point answers stays code stored = stored
stored-leads piece stream start size from point all (waits {answers} {point = before} {units} {rest} dropped added leads stands asks is) code stored =
    stored-leads piece stream start size from before answers leads code stored
stored-leads piece stream start size from point all (makes {answers} {used} {point = before} {statement} {rest} {machine} leads made is) code stored =
    let here : IsCodeOf piece.blocks (statement ∷ rest) = subst (IsCodeOf piece.blocks) made.stands.code (IsCodeOf-leads piece stream start size from before answers leads code) in
    subst (λ (next : Next). IsStored piece.blocks (machine_after next).state) made.step
    (stored-state piece stream statement rest before.machine used here (stored-leads piece stream start size from before answers leads code stored))

-- ---- calls

-- a match that was left stores one of the blocks' states
abbrev pub LeavesStored : List CodeBlock → Option Left → Type 0
LeavesStored blocks stored = IfSome stored (λ one. list_any (stores one.state) (all_statements blocks) ≡ true)

pub IsCodeOf-or_none : (blocks : List CodeBlock) (block : Option ℕ) → IsCodeOf blocks (code_or_none (code_at blocks block))
IsCodeOf-or_none blocks block = by (code_at blocks block) refl where
  by : (found : Option (List Stmt)) → code_at blocks block ≡ found → IsCodeOf blocks (code_or_none found)
  by None is test has = absurd cc
  by (Some code) is test has = IsCodeOf-at blocks block code is test has

pub IsCodeOf-entry : (piece : Piece) (cursor : ℕ) (cond : List ℕ) (assigned : List StmtAt) (stored : Option Left) (start limit : ℕ)
    → IsCodeOf piece.blocks (entry_by piece cursor cond assigned stored start limit).code
IsCodeOf-entry piece cursor cond assigned None start limit = IsCodeOf-or_none piece.blocks (entry_block piece.conds cond)
IsCodeOf-entry piece cursor cond assigned (Some stored) start limit = IsCodeOf-or_none piece.blocks (stored_block piece.blocks (Some stored.state))

IsStored-entry : (piece : Piece) (cursor : ℕ) (cond : List ℕ) (assigned : List StmtAt) (stored : Option Left) (start limit : ℕ) → LeavesStored piece.blocks stored
    → IsStored piece.blocks (entry_by piece cursor cond assigned stored start limit).machine.state
IsStored-entry piece cursor cond assigned None start limit is = tt
IsStored-entry piece cursor cond assigned (Some stored) start limit is = is

-- a call that leaves the match, stores one of the piece's
pub LeavesStored-call : (stream : List ℕ) (piece : Piece) (old new : Held) (before after : Feed) → old.piece ≡ piece → IsFormed before.window → IsFedBy stream before.window before.ahead
    → IsAdvance old new before after NeedFill → LeavesStored piece.blocks old.left → LeavesStored piece.blocks new.left
LeavesStored-call stream piece old new before after same formed fed call stored =
    subst (λ (piece : Piece). LeavesStored piece.blocks new.left) same (by new.left refl) where
      holds : IsWindowOf stream after.window
      holds = subst (IsWindowOf stream) (sym call.behind.1) (IsFedBy-fed stream call.fed formed fed).1

      at-point : IsStored old.piece.blocks call.point.machine.state
      at-point =
          stored-leads old.piece stream before.window.start before.window.size (entry_point old before.window) call.point call.answers (call.leads stream holds).0
          (IsCodeOf-entry old.piece old.cursor old.cond old.assigned old.left before.window.start before.window.limit)
          (IsStored-entry old.piece old.cursor old.cond old.assigned old.left before.window.start before.window.limit
          (subst (λ (piece : Piece). LeavesStored piece.blocks old.left) (sym same) stored))

      by : (left : Option Left) → new.left ≡ left → LeavesStored old.piece.blocks left
      by None is = tt
      by (Some one) is =
          let comes : ComesBack new one call.point = subst (λ (left : Option Left). StoresLeft new left call.point) is call.holds.left in
          subst (IsStored old.piece.blocks) (sym (ap (λ (machine : Machine). machine.state) comes.machine)) at-point
