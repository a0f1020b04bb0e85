-- What operations, tests of a unit, checks and a fallback do to the machine, over traces.
use Rattle.std.specs.Prelude.{◌≡◌, ℕ, zero, suc, ◌+◌, ◌≤◌, Bool, true, false, List, [], ◌∷◌, length, Option, Some, None, nat_eq, refl, slice_get, if◌then◌else◌}
use Rattle.std.proofs.Common.{ap, ◌∙◌, subst, arith, le-leb}
use Rattle.lx_auto.specs.Automaton.{AreOps}
use Rattle.lx_auto.specs.Bank.{Bank}
use Rattle.lx_auto.specs.declared.automaton.Auto.{Auto}
use Rattle.lx_auto.specs.declared.ops.Op.{Op}
use Rattle.lx_auto.specs.declared.ops.Op.TheVariants.{Here, Null, Copy, MHere, MNull, MCopy}
use Rattle.lx_ccode.specs.declared.piece.Piece.{Piece}
use Rattle.lx_ccode.specs.declared.piece.Stmt.{Stmt}
use Rattle.lx_ccode.specs.declared.piece.Stmt.TheVariants.{Goto, IfAccept, Leave, Need, State as Store, Switch}
use Rattle.lx_ccode.specs.Machine.{Answer, Machine, Next, goes_on, has_units, left, more, no_more, no_rule, refilled, step}
use Rattle.lx_ccode.specs.Runs.{ended}
use Rattle.lx_ccode.specs.Statements.{code_of}
use Rattle.lx_ccode.specs.Traces.{is_peek, is_skip}
use Rattle.lx_ccode.proofs.TraceSteps.{EndsSo, ends_at, ends_quiet, goto_step, saved_fails, saved_holds}
use Rattle.lx_sequence.specs.ParallelCopies.{sequentialized}
use Rattle.lx_sequence.specs.Turns.{after_op, after_ops}
use Rattle.lx_layout.specs.Carries.{HasUnits}
use Rattle.lx_layout.specs.Codes.{Choice, list_code, op_code, ops_code}
use Rattle.lx_layout.specs.Fallback.{chosen, fallback_code}
use Rattle.lx_layout.specs.Layout.{StandsFrom}
use Rattle.lx_layout.specs.Stops.{bank_from}
use Rattle.lx_layout.specs.Supplies.{Reader, need_code}
use Rattle.lx_dispatch.specs.TestTrees.{TestTree, fork, holds, leaf, picked, switch, test}
use Rattle.lx_layout.specs.TreeCodes.{asks, inner_blocks, inner_size, switch_cases, tree_code}
use Rattle.lx_layout.proofs.BlockLayouts.CodesInBlocks.{StandsFrom-back, StandsFrom-front}
use Rattle.lx_layout.proofs.BlockLayouts.Questions.{FitsTable, cases_step, is_peek-asks, is_skip-asks, question_fails, question_holds}
use Rattle.lx_layout.proofs.BlockLayouts.TreeCodes.{length-inner_blocks}
use Rattle.lx_layout.proofs.Operations.OpBounds.{ArePositive-sequentialized}
use Rattle.lx_layout.proofs.Runs.OperationSteps.{ArePositive, IsPositive, raised, raised-shift, updated-raised}
use Rattle.lx_layout.proofs.Carrying.SilentTraces.{Walks, stays, walk_on, walk_step}

-- ---- the registers of the machine

-- as those of an automaton
abbrev pub bank_of : Machine → Bank
bank_of machine = bank_from machine.registers machine.histories

-- the machine with these; its register 0 is none of an automaton
abbrev pub with_bank : Bank → Machine → Machine
with_bank bank machine = record machine { registers = raised (machine.registers 0) bank.regs; histories = bank.mregs }

with_bank-own : (machine : Machine) → with_bank (bank_of machine) machine ≡ machine
with_bank-own machine = ap (λ g. record machine { registers = g }) (raised-shift machine.registers)

reads_nothing : (op : Op) → is_peek (op_code op) ≡ false
reads_nothing (Here reg) = refl
reads_nothing (Null reg) = refl
reads_nothing (Copy reg source) = refl
reads_nothing (MHere mreg) = refl
reads_nothing (MNull mreg) = refl
reads_nothing (MCopy mreg source) = refl

passes_nothing : (op : Op) → is_skip (op_code op) ≡ false
passes_nothing (Here reg) = refl
passes_nothing (Null reg) = refl
passes_nothing (Copy reg source) = refl
passes_nothing (MHere mreg) = refl
passes_nothing (MNull mreg) = refl
passes_nothing (MCopy mreg source) = refl

if_then : (holds : Bool) (first second : Next) → holds ≡ true → (if holds then first else second) ≡ first
if_then true first second is = refl
if_then false first second is = absurd cc

-- a check for units that are there asks for none
check_step : (piece : Piece) (stream : List ℕ) (units : ℕ) (rest : List Stmt) (machine : Machine) (answers : List Answer) → has_units units machine ≡ true
    → step piece stream (Need units) rest machine answers ≡ goes_on rest machine answers
check_step piece stream units rest machine [] there = if_then (has_units units machine) _ _ there
check_step piece stream units rest machine (refilled (more dropped added) ∷ answers) there = if_then (has_units units machine) _ _ there
check_step piece stream units rest machine (refilled no_more ∷ answers) there = if_then (has_units units machine) _ _ there
check_step piece stream units rest machine (left refills ∷ answers) there = if_then (has_units units machine) _ _ there

module _ (piece : Piece) (stream : List ℕ) (answers : List Answer) where
  -- ---- operations

  op_step : (op : Op) → IsPositive op → (rest : List Stmt) (bank : Bank) (machine : Machine)
      → step piece stream (op_code op) rest (with_bank bank machine) answers ≡ goes_on rest (with_bank (after_op machine.cursor op bank) machine) answers
  op_step (Here reg) positive rest bank machine =
      ap (λ g. goes_on rest (record (with_bank bank machine) { registers = g }) answers)
      (updated-raised (machine.registers 0) reg (Some machine.cursor) bank.regs)
  op_step (Null reg) positive rest bank machine =
      ap (λ g. goes_on rest (record (with_bank bank machine) { registers = g }) answers) (updated-raised (machine.registers 0) reg None bank.regs)
  op_step (Copy reg source) positive rest bank machine =
      ap (λ g. goes_on rest (record (with_bank bank machine) { registers = g }) answers)
      (updated-raised (machine.registers 0) reg (bank.regs source) bank.regs)
  op_step (MHere zero) positive rest bank machine = absurd (omega (arith, positive))
  op_step (MHere (suc mreg)) positive rest bank machine = refl
  op_step (MNull zero) positive rest bank machine = absurd (omega (arith, positive))
  op_step (MNull (suc mreg)) positive rest bank machine = refl
  op_step (MCopy zero source) positive rest bank machine = absurd (omega (arith, positive))
  op_step (MCopy (suc mreg) source) positive rest bank machine = refl

  ops_walk : (ops : List Op) → ArePositive ops → (rest : List Stmt) (bank : Bank) (machine : Machine)
      → Walks piece stream 0 (ops_code ops rest) (with_bank bank machine) answers rest (with_bank (after_ops machine.cursor ops bank) machine)
  ops_walk [] positive rest bank machine = stays piece stream rest (with_bank bank machine) answers
  ops_walk (op ∷ ops) positive rest bank machine =
      walk_on piece stream
      (walk_step piece stream (op_code op) (reads_nothing op) (passes_nothing op) (op_step op positive.0 (ops_code ops rest) bank machine))
      (ops_walk ops positive.1 rest (after_op machine.cursor op bank) machine)

  -- the machine's registers behind operations of an automaton, one by one
  abbrev pub acted : Auto → (ops : List Op) → Machine → Machine
  acted auto ops machine = with_bank (after_ops machine.cursor (sequentialized auto.regs auto.mregs ops) (bank_of machine)) machine

  pub list_walk : (auto : Auto) (ops : List Op) → AreOps auto.regs auto.mregs ops → (rest : List Stmt) (machine : Machine)
      → Walks piece stream 0 (list_code auto ops rest) machine answers rest (acted auto ops machine)
  list_walk auto ops are rest machine =
      subst (λ (m : Machine). Walks piece stream 0 (list_code auto ops rest) m answers rest (acted auto ops machine)) (with_bank-own machine)
      (ops_walk (sequentialized auto.regs auto.mregs ops) (ArePositive-sequentialized auto.regs auto.mregs ops are) rest (bank_of machine) machine)

  -- ---- tests of a unit

  module _ (sets : (set unit : ℕ) → Bool) (fits : FitsTable sets piece) where
    -- the tests lead to the block that they pick
    pub tree_walk : (tree : TestTree ℕ) (next unit : ℕ) (to : List Stmt) (machine : Machine) → machine.unit ≡ Some unit
        → StandsFrom (code_of piece.blocks) next (inner_blocks next tree) → slice_get (code_of piece.blocks) (picked sets tree unit) ≡ Some to
        → Walks piece stream 0 (tree_code next tree) machine answers to machine
    tree_walk (leaf block) next unit to machine read stands has =
        walk_step piece stream (Goto block) refl refl (goto_step piece stream [] machine answers block to has)
    tree_walk (test question block high) next unit to machine read stands has =
        by (holds sets question unit) refl has (tree_walk high next unit to machine read stands)
      where
        by : (t : Bool) → holds sets question unit ≡ t → slice_get (code_of piece.blocks) (if t then block else picked sets high unit) ≡ Some to
            → (slice_get (code_of piece.blocks) (picked sets high unit) ≡ Some to → Walks piece stream 0 (tree_code next high) machine answers to machine)
            → Walks piece stream 0 (asks question block ∷ tree_code next high) machine answers to machine
        by true low has again =
            walk_step piece stream (asks question block) (is_peek-asks question block) (is_skip-asks question block)
            (question_holds piece stream (tree_code next high) machine answers sets fits unit read question block to low has)
        by false above has again =
            walk_on piece stream
            (walk_step piece stream (asks question block) (is_peek-asks question block) (is_skip-asks question block)
            (question_fails piece stream (tree_code next high) machine answers sets fits unit read question block above))
            (again has)
    tree_walk (switch cases last) next unit to machine read stands has =
        walk_step piece stream (Switch (switch_cases cases) last) refl refl (cases_step piece stream [] machine answers unit read cases last to has)
    tree_walk (fork question low high) next unit to machine read stands has =
        by (holds sets question unit) refl has (tree_walk low (suc next) unit to machine read low_stands)
        (tree_walk high (suc next + inner_size low) unit to machine read high_stands)
      where
        behind : ℕ
        behind = suc next + inner_size low

        below : List (List Stmt)
        below = inner_blocks (suc next) low

        above : List (List Stmt)
        above = inner_blocks (suc next + inner_size low) high

        low_stands : StandsFrom (code_of piece.blocks) (suc next) (inner_blocks (suc next) low)
        low_stands = StandsFrom-front (code_of piece.blocks) (suc next) below above stands.1

        high_stands : StandsFrom (code_of piece.blocks) (suc next + inner_size low) (inner_blocks (suc next + inner_size low) high)
        high_stands =
            let e : suc next + length below ≡ suc next + inner_size low = ap (λ n. suc next + n) (length-inner_blocks (suc next) low) in
            subst (λ n. StandsFrom (code_of piece.blocks) n above) e (StandsFrom-back (code_of piece.blocks) (suc next) below above stands.1)

        by : (t : Bool) → holds sets question unit ≡ t → slice_get (code_of piece.blocks) (if t then picked sets low unit else picked sets high unit) ≡ Some to
            → (slice_get (code_of piece.blocks) (picked sets low unit) ≡ Some to → Walks piece stream 0 (tree_code (suc next) low) machine answers to machine)
            → (slice_get (code_of piece.blocks) (picked sets high unit) ≡ Some to
            → Walks piece stream 0 (tree_code (suc next + inner_size low) high) machine answers to machine)
            → Walks piece stream 0 (asks question next ∷ tree_code (suc next + inner_size low) high) machine answers to machine
        by true answered has again_low again_high =
            walk_on piece stream
            (walk_step piece stream (asks question next) (is_peek-asks question next) (is_skip-asks question next)
            (question_holds piece stream (tree_code behind high) machine answers sets fits unit read question next (tree_code (suc next) low) answered stands.0))
            (again_low has)
        by false failed has again_low again_high =
            walk_on piece stream
            (walk_step piece stream (asks question next) (is_peek-asks question next) (is_skip-asks question next)
            (question_fails piece stream (tree_code behind high) machine answers sets fits unit read question next failed))
            (again_high has)

  -- ---- checks

  check_walk : (units : ℕ) (rest : List Stmt) (machine : Machine) → machine.cursor + units ≤ machine.limit
      → Walks piece stream 0 (Need units ∷ rest) machine answers rest machine
  check_walk units rest machine le =
      walk_step piece stream (Need units) refl refl (check_step piece stream units rest machine answers (le-leb units _ (omega (arith, le))))

  -- a reader's check, which may store a state before
  pub need_walk : (stored : Option (Reader → ℕ)) (reader : Reader) (units : ℕ) (rest : List Stmt) (machine : Machine)
      → HasUnits (need_code stored reader units rest) machine
      → (state : Option ℕ) × Walks piece stream 0 (need_code stored reader units rest) machine answers rest (record machine { state = state })
  need_walk stored reader zero rest machine enough = (machine.state, stays piece stream rest machine answers)
  need_walk None reader (suc units) rest machine enough = (machine.state, check_walk (suc units) rest machine enough.checked.0)
  need_walk (Some number) reader (suc units) rest machine enough = (
    Some (number reader),
    walk_on piece stream (walk_step piece stream (Store (number reader)) refl refl refl)
        (check_walk (suc units) rest (record machine { state = Some (number reader) }) enough.checked.1.0),
  )

  -- ---- a fallback

  -- one choice before others
  choice_walk : (choice : Choice) (rest : List Stmt) (later : Option ℕ) (block : ℕ) (to : List Stmt) (machine : Machine)
      → (if nat_eq machine.accept choice.saved then Some choice.block else later) ≡ Some block → slice_get (code_of piece.blocks) block ≡ Some to
      → (later ≡ Some block → Walks piece stream 0 rest machine answers to machine)
      → Walks piece stream 0 (IfAccept choice.saved choice.block ∷ rest) machine answers to machine
  choice_walk choice rest later block to machine is has again = by (nat_eq machine.accept choice.saved) refl is
    where
      by : (t : Bool) → nat_eq machine.accept choice.saved ≡ t → (if t then Some choice.block else later) ≡ Some block
          → Walks piece stream 0 (IfAccept choice.saved choice.block ∷ rest) machine answers to machine
      by true holds e =
          let same : choice.block ≡ block = cc in
          walk_step piece stream (IfAccept choice.saved choice.block) refl refl
          (saved_holds piece stream rest machine answers choice.saved choice.block to holds (ap (λ n. slice_get (code_of piece.blocks) n) same ∙ has))
      by false fails e =
          walk_on piece stream
          (walk_step piece stream (IfAccept choice.saved choice.block) refl refl
          (saved_fails piece stream rest machine answers choice.saved choice.block fails))
          (again e)

  choice_ends : (choice : Choice) (rest : List Stmt) (later : Option ℕ) (machine : Machine)
      → (if nat_eq machine.accept choice.saved then Some choice.block else later) ≡ None
      → (later ≡ None → EndsSo piece stream 0 0 rest machine answers (ended no_rule machine))
      → EndsSo piece stream 0 0 (IfAccept choice.saved choice.block ∷ rest) machine answers (ended no_rule machine)
  choice_ends choice rest later machine is again = by (nat_eq machine.accept choice.saved) refl is
    where
      by : (t : Bool) → nat_eq machine.accept choice.saved ≡ t → (if t then Some choice.block else later) ≡ None
          → EndsSo piece stream 0 0 (IfAccept choice.saved choice.block ∷ rest) machine answers (ended no_rule machine)
      by true holds e = absurd cc
      by false fails e =
          ends_quiet piece stream (IfAccept choice.saved choice.block) refl refl
          (saved_fails piece stream rest machine answers choice.saved choice.block fails) (again e)

  -- it leads to the block that is chosen
  pub fallback_walk : (leaves : Bool) (choices : List Choice) (block : ℕ) (to : List Stmt) (machine : Machine)
      → chosen leaves choices machine.accept ≡ Some block → slice_get (code_of piece.blocks) block ≡ Some to
      → Walks piece stream 0 (fallback_code leaves choices) machine answers to machine
  fallback_walk leaves [] block to machine is has = absurd cc
  fallback_walk true (choice ∷ []) block to machine is has = choice_walk choice (Leave ∷ []) None block to machine is has (λ none. absurd cc)
  fallback_walk false (choice ∷ []) block to machine is has =
      let same : choice.block ≡ block = cc in
      walk_step piece stream (Goto choice.block) refl refl
      (goto_step piece stream [] machine answers choice.block to (ap (λ n. slice_get (code_of piece.blocks) n) same ∙ has))
  fallback_walk true (choice ∷ next ∷ choices) block to machine is has =
      choice_walk choice (fallback_code true (next ∷ choices)) (chosen true (next ∷ choices) machine.accept) block to machine is has
      (λ later. fallback_walk true (next ∷ choices) block to machine later has)
  fallback_walk false (choice ∷ next ∷ choices) block to machine is has =
      choice_walk choice (fallback_code false (next ∷ choices)) (chosen false (next ∷ choices) machine.accept) block to machine is has
      (λ later. fallback_walk false (next ∷ choices) block to machine later has)

  -- where none is chosen, no rule is matched
  pub fallback_ends : (leaves : Bool) (choices : List Choice) (machine : Machine) → chosen leaves choices machine.accept ≡ None
      → EndsSo piece stream 0 0 (fallback_code leaves choices) machine answers (ended no_rule machine)
  fallback_ends leaves [] machine is = ends_at piece stream Leave refl refl refl
  fallback_ends true (choice ∷ []) machine is =
      choice_ends choice (Leave ∷ []) None machine is (λ none. ends_at piece stream Leave refl refl refl)
  fallback_ends false (choice ∷ []) machine is = absurd cc
  fallback_ends true (choice ∷ next ∷ choices) machine is =
      choice_ends choice (fallback_code true (next ∷ choices)) (chosen true (next ∷ choices) machine.accept) machine is
      (λ later. fallback_ends true (next ∷ choices) machine later)
  fallback_ends false (choice ∷ next ∷ choices) machine is =
      choice_ends choice (fallback_code false (next ∷ choices)) (chosen false (next ∷ choices) machine.accept) machine is
      (λ later. fallback_ends false (next ∷ choices) machine later)
