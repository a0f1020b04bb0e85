-- Where a match ends in blocks that serve an automaton, it ends as the automaton's run tells.
use Rattle.std.specs.Prelude.{◌≡◌, ℕ, ◌<◌, true, ◌||◌, List, [], ◌∷◌, length, map, Option, Some, None, refl, slice_get}
use Rattle.std.proofs.Common.{inl, inr, sym, ap, ap₂, ◌∙◌, subst}
use Rattle.std.proofs.Math.Bool.{or-true}
use Rattle.lx_auto.specs.Automaton.{IsAccept, IsAuto, state_of}
use Rattle.lx_auto.specs.Bank.{Bank, bank_after, read_all}
use Rattle.lx_auto.specs.Run.{Left, Standing, found_behind, found_by, found_left, or_else}
use Rattle.lx_auto.specs.declared.automaton.Accept.{Accept}
use Rattle.lx_auto.specs.declared.automaton.Auto.{Auto}
use Rattle.lx_auto.proofs.States.{state_formed}
use Rattle.lx_ccode.specs.declared.piece.Piece.{Piece}
use Rattle.lx_ccode.specs.declared.piece.Stmt.{Stmt}
use Rattle.lx_ccode.specs.declared.piece.Stmt.TheVariants.{Goto, Restore}
use Rattle.lx_ccode.specs.Machine.{Answer, Machine, Value, no_rule}
use Rattle.lx_ccode.specs.Runs.{Ended}
use Rattle.lx_ccode.specs.Statements.{code_of}
use Rattle.lx_ccode.proofs.TraceSteps.{EndsSo, ends_quiet, ends_telling, goto_step}
use Rattle.lx_sequence.specs.ParallelCopies.{sequentialized}
use Rattle.lx_sequence.specs.Turns.{after_ops}
use Rattle.lx_sequence.proofs.Agreeing.{Agrees, Agrees-after, read_all-agrees}
use Rattle.lx_tdfa.specs.Promise.{tag_value}
use Rattle.lx_layout.specs.Carries.{HasSaved}
use Rattle.lx_layout.specs.Codes.{accept_code, restore_code}
use Rattle.lx_layout.specs.Endings.{Ending, ending_code}
use Rattle.lx_layout.specs.Fallback.{chosen, fallback_code}
use Rattle.lx_layout.specs.Halting.{Halting, is_saved}
use Rattle.lx_layout.specs.Stops.{told_found}
use Rattle.lx_layout.specs.Supplied.{EndsBy, HasCode, IsEnd, Serves}
use Rattle.lx_layout.specs.Supplies.{Supply}
use Rattle.lx_layout.specs.Told.{told_at}
use Rattle.lx_layout.proofs.Carrying.GivenValues.{ending_ends}
use Rattle.lx_layout.proofs.Carrying.MachineSteps.{acted, bank_of, fallback_ends, fallback_walk, list_walk}
use Rattle.lx_layout.proofs.Carrying.SavedAccepts.{Stands, registers_agree}
use Rattle.lx_layout.proofs.Carrying.SilentTraces.{walk_ends}
use Rattle.lx_layout.proofs.Supplied.SufficientUnits.{IsFresh}
use Rattle.lx_layout.proofs.Supplied.StateRuns.{IsFoundAgain}

-- where no rule is matched
abbrev unmatched_at : (cond : List ℕ) → (cursor : ℕ) → List Value → Ended
unmatched_at cond cursor values = record { outcome = no_rule; cursor = cursor; cond = cond; values = values }

module _ (supply : Supply) (halting : Halting) (endings : ℕ → Ending) (greatest : ℕ) (auto : Auto) (piece : Piece) (place : ℕ → ℕ) (saved : Option (ℕ → ℕ)) (rules : ℕ → ℕ) (fall : ℕ)
    (end_rule : Option ℕ) (serves : Serves supply halting endings greatest auto (code_of piece.blocks) place saved rules fall end_rule) (formed : IsAuto auto) (stream : List ℕ)
    (answers : List Answer) where
  abbrev pub Has : ℕ → List Stmt → Type 0
  Has block code = HasCode supply halting endings greatest auto (code_of piece.blocks) place saved rules fall block code

  abbrev End : Option Accept → ℕ → Type 0
  End accept block = EndsBy supply halting endings greatest auto (code_of piece.blocks) place saved rules fall accept block

  abbrev Agree : Bank → Bank → Type 0
  Agree bank other = Agrees auto.regs auto.mregs bank other

  abbrev Tells : List Stmt → Machine → Ended → Type 0
  Tells code machine end = EndsSo piece stream 0 0 code machine answers end

  -- what is told of a rule with the values in these registers
  abbrev told_by : (cond : List ℕ) → Accept → (offset : ℕ) → Bank → Ended
  told_by cond accept offset bank = told_at endings cond accept.rule offset (map tag_value (read_all bank accept.values))

  -- ---- by a rule

  -- from the block of a rule on
  rule_ends : (accept : Accept) (machine : Machine) (bank : Bank) → IsAccept auto.regs auto.mregs (Some accept) → Agree (bank_of machine) bank
      → machine.values ≡ [] → Tells (ending_code endings accept.rule accept.values) machine (told_by machine.cond accept machine.cursor bank)
  rule_ends accept machine bank is agree none =
      ends_telling piece stream (ending_ends piece stream answers machine endings accept.rule accept.values none)
      (ap (λ values. told_at endings machine.cond accept.rule machine.cursor (map tag_value values))
      (read_all-agrees auto.regs auto.mregs accept.values (bank_of machine) bank is.1 agree))

  -- by a jump to that block
  jump_ends : (accept : Accept) (machine : Machine) (bank : Bank) → Has (rules accept.rule) (ending_code endings accept.rule accept.values)
      → IsAccept auto.regs auto.mregs (Some accept) → Agree (bank_of machine) bank → machine.values ≡ []
      → Tells (Goto (rules accept.rule) ∷ []) machine (told_by machine.cond accept machine.cursor bank)
  jump_ends accept machine bank has is agree none =
      ends_quiet piece stream (Goto (rules accept.rule)) refl refl
      (goto_step piece stream [] machine answers (rules accept.rule) (ending_code endings accept.rule accept.values) has)
      (rule_ends accept machine bank is agree none)

  -- by what the state accepts
  accept_ends : (accept : Accept) (machine : Machine) (bank : Bank) → Has (rules accept.rule) (ending_code endings accept.rule accept.values)
      → IsAccept auto.regs auto.mregs (Some accept) → Agree (bank_of machine) bank → machine.values ≡ []
      → Tells (accept_code auto accept.ops (rules accept.rule)) machine
      (told_by machine.cond accept machine.cursor (bank_after machine.cursor accept.ops bank))
  accept_ends accept machine bank has is agree none =
      walk_ends piece stream (list_walk piece stream answers auto accept.ops is.0 (Goto (rules accept.rule) ∷ []) machine)
      (jump_ends accept (acted piece stream answers auto accept.ops machine) (bank_after machine.cursor accept.ops bank) has is
      (Agrees-after auto.regs auto.mregs machine.cursor accept.ops (bank_of machine) bank is.0 agree) none)

  -- ---- by the fallback

  abbrev Saved : Option Left → Machine → Type 0
  Saved left machine = HasSaved piece endings auto place saved halting.falls left machine

  fall_ends : (left : Option Left) (machine : Machine) (bank : Bank) (offset : ℕ) → Saved left machine → IsFoundAgain halting auto left
      → (left ≡ None → halting.falls 0 ≡ true) → Agree (bank_of machine) bank → machine.cursor ≡ offset → machine.values ≡ []
      → Tells (fallback_code (halting.falls 0) serves.choices) machine (told_found endings machine.cond (found_left bank left) offset)
  fall_ends None machine bank offset has again fresh agree cursor none =
      ends_telling piece stream
      (fallback_ends piece stream answers (halting.falls 0) serves.choices machine
      (ap (λ n. chosen (halting.falls 0) serves.choices n) has ∙ serves.none (fresh refl)))
      (ap₂ (λ c v. unmatched_at machine.cond c v) cursor none)
  fall_ends (Some left) machine bank offset has again fresh agree cursor none =
      let found = serves.restores left.state left.accept again.0 again.1 again.2 in
      let ends = serves.ends left.state left.accept again.0 again.2
      (ap (λ t. halting.halts left.state || t) again.1 ∙ or-true (halting.halts left.state)) in
      let is = subst (λ o. IsAccept auto.regs auto.mregs o) again.2 (state_formed auto left.state formed).accept in
      ends_telling piece stream
      (walk_ends piece stream
      (fallback_walk piece stream answers (halting.falls 0) serves.choices found.0 (restore_code (rules left.accept.rule)) machine
      (found.1 machine.accept has.0) found.2)
      (ends_quiet piece stream Restore refl refl refl
      (jump_ends left.accept (record machine { cursor = machine.marker }) bank ends is agree none)))
      (ap (λ n. told_by machine.cond left.accept n bank) has.1)

  -- ---- from the block where a match ends

  pub stop_ends : (block : ℕ) (code : List Stmt) (machine : Machine) (standing : Standing) → standing.state < length auto.states
      → IsEnd supply halting endings greatest auto (code_of piece.blocks) place saved rules fall standing.state
      (state_of auto.states standing.state).accept block
      → Has block code → Stands piece endings auto place saved halting.falls machine standing
      → (halting.falls standing.state ≡ true → IsFoundAgain halting auto standing.left) → IsFresh halting standing
      → Tells code machine (told_found endings machine.cond (found_behind auto standing) standing.offset)
  stop_ends block code machine standing lt end has stands again fresh =
      by (state_of auto.states standing.state).accept refl end.1 (state_formed auto standing.state formed).accept
    where
      agree : Agree (bank_of machine) standing.bank
      agree = registers_agree piece endings auto place saved halting.falls stands

      -- the match ends where the run stands
      here : (accept : Accept)
          → told_by machine.cond accept machine.cursor (bank_after machine.cursor accept.ops standing.bank)
          ≡ told_by machine.cond accept standing.offset (bank_after standing.offset accept.ops standing.bank)
      here accept = ap (λ n. told_by machine.cond accept n (bank_after n accept.ops standing.bank)) stands.cursor

      accepted : (accept : Accept) → Has (rules accept.rule) (ending_code endings accept.rule accept.values) → End (Some accept) block
          → IsAccept auto.regs auto.mregs (Some accept)
          → Tells code machine (told_by machine.cond accept standing.offset (bank_after standing.offset accept.ops standing.bank))
      accepted accept ends (inl own) is =
          let same : accept_code auto accept.ops (rules accept.rule) ≡ code = cc in
          subst (λ (l : List Stmt). Tells l machine (told_by machine.cond accept standing.offset (bank_after standing.offset accept.ops standing.bank))) same
          (ends_telling piece stream (accept_ends accept machine standing.bank ends is agree stands.values) (here accept))
      accepted accept ends (inr shared) is =
          let at_rule : slice_get (code_of piece.blocks) (rules accept.rule) ≡ Some code = ap (λ n. slice_get (code_of piece.blocks) n) (sym shared.0) ∙ has in
          let same : ending_code endings accept.rule accept.values ≡ code = cc in
          let still : Agree (bank_of machine) (bank_after machine.cursor accept.ops standing.bank) = subst
          (λ bank. Agree bank (bank_after machine.cursor accept.ops standing.bank))
          (ap (λ ops. after_ops machine.cursor (sequentialized auto.regs auto.mregs ops) (bank_of machine)) shared.1)
          (Agrees-after auto.regs auto.mregs machine.cursor accept.ops (bank_of machine) standing.bank is.0 agree) in
          subst (λ (l : List Stmt). Tells l machine (told_by machine.cond accept standing.offset (bank_after standing.offset accept.ops standing.bank))) same
          (ends_telling piece stream (rule_ends accept machine (bank_after machine.cursor accept.ops standing.bank) is still stands.values) (here accept))

      by : (o : Option Accept) → (state_of auto.states standing.state).accept ≡ o → End o block → IsAccept auto.regs auto.mregs o
          → Tells code machine
          (told_found endings machine.cond (or_else (found_by o standing) (found_left standing.bank standing.left)) standing.offset)
      by None e block_is is =
          let falls = serves.falls standing.state lt e end.0 in
          let at_fall : slice_get (code_of piece.blocks) fall ≡ Some code = ap (λ n. slice_get (code_of piece.blocks) n) (sym block_is) ∙ has in
          let there = serves.fallback standing.state lt falls in
          let same : fallback_code (halting.falls 0) serves.choices ≡ code = cc in
          subst (λ (l : List Stmt). Tells l machine (told_found endings machine.cond (found_left standing.bank standing.left) standing.offset)) same
          (fall_ends standing.left machine standing.bank standing.offset (stands.left falls) (again falls) (λ none. fresh none falls) agree stands.cursor
          stands.values)
      by (Some accept) e block_is is =
          accepted accept (serves.ends standing.state accept lt e (ap (λ t. t || is_saved halting (state_of auto.states standing.state)) end.0)) block_is is
