-- What the blocks do that serve an automaton with a supply: they lead from state to state, and end as the automaton's match.
use Rattle.std.specs.Prelude.{◌≡◌, ◌+◌, ℕ, suc, ◌*◌, ◌<◌, Bool, true, false, ◌&&◌, ◌||◌, List, [], ◌∷◌, length, map, Contains, Option, Some, None, is_some, nat_lt, refl, slice_get}
use Rattle.std.proofs.Common.{inl, inr, sym, ap, ◌∙◌, subst, arith, lt-ltb, subst₂}
use Rattle.std.proofs.Math.Bool.{or-true}
use Rattle.lx_auto.specs.Automaton.{AreOps, IsAccept, IsAuto, state_of}
use Rattle.lx_auto.specs.Bank.{Bank, bank_after, read_all}
use Rattle.lx_auto.specs.Run.{Left, found_by, found_left, or_else}
use Rattle.lx_auto.specs.declared.automaton.Accept.{Accept}
use Rattle.lx_auto.specs.declared.automaton.Auto.{Auto}
use Rattle.lx_auto.specs.declared.automaton.Edge.{Edge}
use Rattle.lx_auto.specs.declared.automaton.State.{State}
use Rattle.lx_auto.specs.declared.ops.Op.{Op}
use Rattle.lx_auto.proofs.States.{state_formed}
use Rattle.lx_ccode.specs.declared.piece.Piece.{Piece}
use Rattle.lx_ccode.specs.declared.piece.Stmt.{Stmt}
use Rattle.lx_ccode.specs.declared.piece.Stmt.TheVariants.{Goto, Restore, Skip}
use Rattle.lx_ccode.specs.Machine.{Answer, Machine, jump, skip}
use Rattle.lx_ccode.specs.Statements.{code_of, statement_count}
use Rattle.lx_sequence.specs.ParallelCopies.{sequentialized}
use Rattle.lx_sequence.specs.Turns.{after_ops}
use Rattle.lx_sequence.proofs.Agreeing.{Agrees, Agrees-after, read_all-agrees}
use Rattle.lx_tdfa.specs.Promise.{tag_value}
use Rattle.lx_layout.specs.Codes.{accept_code, save_code, list_code, restore_code, saved_by}
use Rattle.lx_layout.specs.Endings.{Ending, ending_code}
use Rattle.lx_layout.specs.Fallback.{edge_code, fallback_code}
use Rattle.lx_layout.specs.Halting.{Halting, is_saved, saves_on}
use Rattle.lx_layout.specs.Stops.{told_found}
use Rattle.lx_layout.specs.Supplied.{EndsBy, HasCode, IsTarget, Serves}
use Rattle.lx_layout.specs.Supplies.{Supply}
use Rattle.lx_layout.specs.Told.{told_at}
use Rattle.lx_layout.proofs.Runs.OperationSteps.{save_size, length-save_code, length-ops_code, machine_at, ops_run}
use Rattle.lx_layout.proofs.Operations.OpBounds.{ArePositive-sequentialized}
use Rattle.lx_layout.proofs.Rules.RuleEnds.{ending_run, goto_run}
use Rattle.lx_layout.proofs.BlockLayouts.CodesInBlocks.{length-block}
use Rattle.lx_layout.proofs.Runs.PartialRuns.{EndsIn, LeadsIn, end_in, stays_in, step_in, then_in, widen_end}
use Rattle.lx_layout.proofs.Supplied.Fallbacks.{fallback_code-some, fallback_end, fallback_run}
use Rattle.lx_layout.specs.Carries.{HasNumber}

-- a match falls back from a state that does not accept if it goes on from there to such a state
abbrev pub FallsOnward : Halting → Auto → Type 0
FallsOnward halting auto =
    (number : ℕ) (edge : Edge) → number < length auto.states → (state_of auto.states number).accept ≡ None
    → Contains (state_of auto.states number).edges edge → halting.falls edge.to ≡ true → halting.falls number ≡ true

-- the accepting state that the piece saved last is one that is found again
abbrev pub IsFoundAgain : Halting → Auto → Option Left → Type 0
IsFoundAgain halting auto None = Unit {0}
IsFoundAgain halting auto (Some left) =
    (left.state < length auto.states) × (is_saved halting (state_of auto.states left.state) ≡ true)
    × ((state_of auto.states left.state).accept ≡ Some left.accept)

-- what is saved on an edge out of a state, by what that state accepts and whether a match falls back from the next one
abbrev pub held_after : Option Accept → (falls : Bool) → (state offset : ℕ) → (held : Option Left) → Option Left
held_after None falls state offset held = held
held_after (Some accept) true state offset held = Some (record { state = state; accept = accept; offset = offset })
held_after (Some accept) false state offset held = held

abbrev pub marker_of : (start : ℕ) → Option Left → ℕ
marker_of start None = start
marker_of start (Some left) = left.offset

-- the number that the machine has; where none is kept it is that of a machine that has saved nothing
abbrev pub number_by : Option (ℕ → ℕ) → (state : ℕ) → ℕ
number_by None state = 0
number_by (Some saved) state = saved state

abbrev pub number_of : Option (ℕ → ℕ) → Option Left → ℕ
number_of saved None = 0
number_of saved (Some left) = number_by saved left.state

has_number : (saved : Option (ℕ → ℕ)) (state : ℕ) → HasNumber (saved_by saved state) (number_by saved state)
has_number None state = tt
has_number (Some saved) state = refl

number_none : (held : Option Left) → number_of None held ≡ 0
number_none None = refl
number_none (Some left) = refl

module _ (p : Piece) (x : List ℕ) (start : ℕ) (supply : Supply) (halting : Halting) (endings : ℕ → Ending) (greatest : ℕ) (auto : Auto)
    (place : ℕ → ℕ) (saved : Option (ℕ → ℕ)) (rules : ℕ → ℕ) (fall : ℕ) (end_rule : Option ℕ)
    (serves : Serves supply halting endings greatest auto (code_of p.blocks) place saved rules fall end_rule) (formed : IsAuto auto) (first : Option ℕ)
    (cond : List ℕ) (lim : ℕ) (kept : Option ℕ) where
  -- the statements of the piece
  abbrev pub all : ℕ
  all = statement_count p.blocks

  abbrev pub state_at : ℕ → State
  state_at s = state_of auto.states s

  abbrev pub Has : ℕ → List Stmt → Type 0
  Has block code = HasCode supply halting endings greatest auto (code_of p.blocks) place saved rules fall block code

  abbrev pub Target : (s : ℕ) → Option Edge → ℕ → Type 0
  Target s o block = IsTarget supply halting endings greatest auto (code_of p.blocks) place saved rules fall s (state_at s) o block

  -- the machine, where the accepting state that was saved last is this one
  abbrev pub at : (pos : ℕ) → (held : Option Left) → (u : Option ℕ) → Bank → Machine
  at pos held u k = machine_at pos (marker_of start held) lim u (number_of saved held) kept first k cond []

  -- ---- the blocks there are

  -- the end of a rule by which a match ends where it stands
  ends_here : (s : ℕ) (accept : Accept) → s < length auto.states → (state_at s).accept ≡ Some accept → halting.halts s ≡ true
      → Has (rules accept.rule) (ending_code endings accept.rule accept.values)
  ends_here s accept lt e halts = serves.ends s accept lt e (ap (λ t. t || is_saved halting (state_at s)) halts)

  -- the end of a rule to which it falls back
  ends_saved : (s : ℕ) (accept : Accept) → s < length auto.states → (state_at s).accept ≡ Some accept → is_saved halting (state_at s) ≡ true
      → Has (rules accept.rule) (ending_code endings accept.rule accept.values)
  ends_saved s accept lt e saves = serves.ends s accept lt e (ap (λ t. halting.halts s || t) saves ∙ or-true (halting.halts s))

  -- the fallback, where a match ends in a state that does not accept
  fallback_there : (s : ℕ) → s < length auto.states → (state_at s).accept ≡ None → halting.halts s ≡ true
      → Has fall (fallback_code (halting.falls 0) serves.choices)
  fallback_there s lt e halts = serves.fallback s lt (serves.falls s lt e halts)

  -- each target is a block
  pub target_code : (s : ℕ) (o : Option Edge) (block : ℕ) → s < length auto.states → Target s o block → (to : List Stmt) × Has block to
  target_code s (Some edge) block lt target = (edge_code halting auto (state_at s) (saved_by saved s) edge (place edge.to), target)
  target_code s None block lt target = by (state_at s).accept refl target.1
    where
      by : (o : Option Accept) → (state_at s).accept ≡ o
          → EndsBy supply halting endings greatest auto (code_of p.blocks) place saved rules fall o block → (to : List Stmt) × Has block to
      by None e is =
          (fallback_code (halting.falls 0) serves.choices, ap (λ n. slice_get (code_of p.blocks) n) is ∙ fallback_there s lt e target.0)
      by (Some accept) e (inl has) = (accept_code auto accept.ops (rules accept.rule), has)
      by (Some accept) e (inr is) = (
        ending_code endings accept.rule accept.values,
        ap (λ n. slice_get (code_of p.blocks) n) is.0 ∙ ends_here s accept lt e target.0,
      )

  -- and has a statement
  pub target_some : (s : ℕ) (o : Option Edge) (block : ℕ) → s < length auto.states → Target s o block → 0 < all
  target_some s (Some edge) block lt target =
      let state : State = state_at s in
      let last : List Stmt = Skip ∷ Goto (place edge.to) ∷ [] in
      let behind : List Stmt = list_code auto edge.ops (Skip ∷ Goto (place edge.to) ∷ []) in
      let whole : List Stmt = list_code auto (state_at s).leave (list_code auto edge.ops (Skip ∷ Goto (place edge.to) ∷ [])) in
      let n = length-block (code_of p.blocks) block (edge_code halting auto (state_at s) (saved_by saved s) edge (place edge.to)) target in
      let l1 = length-save_code (saves_on halting state edge) (saved_by saved s) whole in
      let l2 = length-ops_code (sequentialized auto.regs auto.mregs (state_at s).leave) behind in
      let l3 = length-ops_code (sequentialized auto.regs auto.mregs edge.ops) last in
      omega (arith, n, l1, l2, l3)
  target_some s None block lt target = by (state_at s).accept refl target.1
    where
      by : (o : Option Accept) → (state_at s).accept ≡ o
          → EndsBy supply halting endings greatest auto (code_of p.blocks) place saved rules fall o block → 0 < all
      by None e is =
          let n = length-block (code_of p.blocks) fall (fallback_code (halting.falls 0) serves.choices) (fallback_there s lt e target.0) in
          let n1 = fallback_code-some (halting.falls 0) serves.choices in
          omega (arith, n, n1)
      by (Some accept) e (inl has) =
          let n = length-block (code_of p.blocks) block (accept_code auto accept.ops (rules accept.rule)) has in
          let l = length-ops_code (sequentialized auto.regs auto.mregs accept.ops) (Goto (rules accept.rule) ∷ []) in
          omega (arith, n, l)
      by (Some accept) e (inr is) =
          let n = length-block (code_of p.blocks) (rules accept.rule) (ending_code endings accept.rule accept.values) (ends_here s accept lt e target.0) in
          let run = ending_run p x start 0 0 None 0 None None (record { regs = λ r. None; mregs = λ r. [] }) [] endings accept.rule accept.values 0 [] in
          omega (arith, n, run.few)

  abbrev Agree : Bank → Bank → Type 0
  Agree k b = Agrees auto.regs auto.mregs k b

  list_run : (ops : List Op) → AreOps auto.regs auto.mregs ops
      → (rest : List Stmt) (pos : ℕ) (held : Option Left) (u : Option ℕ) (k : Bank) (q : List Answer)
      → LeadsIn p x start (length (sequentialized auto.regs auto.mregs ops)) (list_code auto ops rest) (at pos held u k) q rest
      (at pos held u (after_ops pos (sequentialized auto.regs auto.mregs ops) k)) q
  list_run ops are rest pos held u k q =
      ops_run p x start pos (marker_of start held) lim u (number_of saved held) kept first cond [] q (sequentialized auto.regs auto.mregs ops)
      (ArePositive-sequentialized auto.regs auto.mregs ops are) rest k

  -- ---- where no unit is passed any more

  -- from the block of a rule on
  rule_run : (accept : Accept) (cur : ℕ) (held : Option Left) (u : Option ℕ) (k b : Bank) (q : List Answer)
      → IsAccept auto.regs auto.mregs (Some accept) → Agree k b
      → EndsIn p x start (length (ending_code endings accept.rule accept.values)) (ending_code endings accept.rule accept.values)
      (at cur held u k) q (told_at endings cond accept.rule cur (map tag_value (read_all b accept.values)))
  rule_run accept cur held u k b q is agree =
      let n : ℕ = length (ending_code endings accept.rule accept.values) in
      subst (λ v. EndsIn p x start (length (ending_code endings accept.rule accept.values)) (ending_code endings accept.rule accept.values)
      (at cur held u k) q (told_at endings cond accept.rule cur (map tag_value v)))
      (read_all-agrees auto.regs auto.mregs accept.values k b is.1 agree)
      (ending_run p x start (marker_of start held) lim u (number_of saved held) kept first k q endings accept.rule accept.values cur cond)

  -- by a jump to that block
  jump_run : (accept : Accept) (cur : ℕ) (held : Option Left) (u : Option ℕ) (k b : Bank) (q : List Answer)
      → Has (rules accept.rule) (ending_code endings accept.rule accept.values) → IsAccept auto.regs auto.mregs (Some accept) → Agree k b
      → EndsIn p x start (suc (length (ending_code endings accept.rule accept.values))) (Goto (rules accept.rule) ∷ []) (at cur held u k) q
      (told_at endings cond accept.rule cur (map tag_value (read_all b accept.values)))
  jump_run accept cur held u k b q has is agree =
      subst (λ v. EndsIn p x start (suc (length (ending_code endings accept.rule accept.values))) (Goto (rules accept.rule) ∷ [])
      (at cur held u k) q (told_at endings cond accept.rule cur (map tag_value v)))
      (read_all-agrees auto.regs auto.mregs accept.values k b is.1 agree)
      (goto_run p x start (marker_of start held) lim u (number_of saved held) kept first k q endings accept.rule (rules accept.rule) accept.values cur cond
      has)

  -- by what the state accepts
  accept_run : (accept : Accept) (pos : ℕ) (held : Option Left) (u : Option ℕ) (k b : Bank) (q : List Answer)
      → Has (rules accept.rule) (ending_code endings accept.rule accept.values) → IsAccept auto.regs auto.mregs (Some accept) → Agree k b
      → EndsIn p x start
      (length (accept_code auto accept.ops (rules accept.rule)) + length (ending_code endings accept.rule accept.values))
      (accept_code auto accept.ops (rules accept.rule)) (at pos held u k) q
      (told_at endings cond accept.rule pos (map tag_value (read_all (bank_after pos accept.ops b) accept.values)))
  accept_run accept pos held u k b q has is agree =
      let rest : List Stmt = Goto (rules accept.rule) ∷ [] in
      let l = length-ops_code (sequentialized auto.regs auto.mregs accept.ops) rest in
      let h = list_run accept.ops is.0 rest pos held u k q in
      let g = jump_run accept pos held u (after_ops pos (sequentialized auto.regs auto.mregs accept.ops) k) (bank_after pos accept.ops b) q has is
      (Agrees-after auto.regs auto.mregs pos accept.ops k b is.0 agree) in
      end_in p x start (length (accept_code auto accept.ops (rules accept.rule)) + length (ending_code endings accept.rule accept.values)) h g
      (omega (arith, l))

  -- by the fallback
  fall_run : (s pos : ℕ) (left : Option Left) (u : Option ℕ) (k b : Bank) (q : List Answer) → s < length auto.states → halting.falls s ≡ true
      → Agree k b → IsFoundAgain halting auto left → (left ≡ None → halting.falls 0 ≡ true)
      → EndsIn p x start (3 * all) (fallback_code (halting.falls 0) serves.choices) (at pos left u k) q (told_found endings cond (found_left b left) pos)
  fall_run s pos None u k b q lt falls agree ok fresh =
      let n = length-block (code_of p.blocks) fall (fallback_code (halting.falls 0) serves.choices) (serves.fallback s lt falls) in
      widen_end p x start (3 * all) (fallback_end p x start (at pos None u k) q (halting.falls 0) serves.choices (serves.none (fresh refl)))
      (omega (arith, n))
  fall_run s pos (Some left) u k b q lt falls agree ok fresh =
      let r = serves.restores left.state left.accept ok.0 ok.1 ok.2 in
      let ends = ends_saved left.state left.accept ok.0 ok.2 ok.1 in
      let code : List Stmt = restore_code (rules left.accept.rule) in
      let n = length-block (code_of p.blocks) fall (fallback_code (halting.falls 0) serves.choices) (serves.fallback s lt falls) in
      let n2 = length-block (code_of p.blocks) r.0 (restore_code (rules left.accept.rule)) r.2 in
      let n3 = length-block (code_of p.blocks) (rules left.accept.rule) (ending_code endings left.accept.rule left.accept.values) ends in
      let h = fallback_run p x start (at pos (Some left) u k) q (halting.falls 0) serves.choices r.0 code
      (r.1 (number_by saved left.state) (has_number saved left.state)) r.2 in
      let t = step_in p x start {s = Restore} {b = Goto (rules left.accept.rule) ∷ []} {m = at pos (Some left) u k} {q = q} refl (omega arith) in
      let is = subst (λ o. IsAccept auto.regs auto.mregs o) ok.2 (state_formed auto left.state formed).accept in
      let g = jump_run left.accept left.offset (Some left) u k b q ends is agree in
      end_in p x start (3 * all) h
      (end_in p x start (2 + length (ending_code endings left.accept.rule left.accept.values)) t g (omega arith)) (omega (arith, n, n2, n3))

  -- From the block where a match ends. What was saved counts only where a match falls back from the state, and there it is what was left
  -- last; where nothing was left, a match falls back from state 0.
  pub stop_run : (s block pos : ℕ) (code : List Stmt) (left held : Option Left) (u : Option ℕ) (k b : Bank) (q : List Answer)
      → s < length auto.states → Target s None block → Has block code → Agree k b → IsFoundAgain halting auto held
      → (halting.falls s ≡ true → held ≡ left) → (left ≡ None → halting.falls s ≡ true → halting.falls 0 ≡ true)
      → EndsIn p x start (3 * all) code (at pos held u k) q
      (told_found endings cond (or_else (found_by (state_at s).accept (record { state = s; offset = pos; bank = b; left = left }))
      (found_left b left)) pos)
  stop_run s block pos code left held u k b q lt target has agree ok same fresh =
      by (state_at s).accept refl target.1 (state_formed auto s formed).accept
    where
      accepted : (accept : Accept) → Has (rules accept.rule) (ending_code endings accept.rule accept.values)
          → EndsBy supply halting endings greatest auto (code_of p.blocks) place saved rules fall (Some accept) block → IsAccept auto.regs auto.mregs (Some accept)
          → EndsIn p x start (3 * all) code (at pos held u k) q
          (told_at endings cond accept.rule pos (map tag_value (read_all (bank_after pos accept.ops b) accept.values)))
      accepted accept ends (inl e) is =
          let c : code ≡ accept_code auto accept.ops (rules accept.rule) = cc in
          let n = length-block (code_of p.blocks) block (accept_code auto accept.ops (rules accept.rule)) e in
          let n2 = length-block (code_of p.blocks) (rules accept.rule) (ending_code endings accept.rule accept.values) ends in
          subst (λ z. EndsIn p x start (3 * all) z (at pos held u k) q
          (told_at endings cond accept.rule pos (map tag_value (read_all (bank_after pos accept.ops b) accept.values)))) (sym c)
          (widen_end p x start (3 * all) (accept_run accept pos held u k b q ends is agree) (omega (arith, n, n2)))
      accepted accept ends (inr e) is =
          let c : code ≡ ending_code endings accept.rule accept.values = let h : slice_get (code_of p.blocks) (rules accept.rule) ≡ Some code =
          ap (λ n. slice_get (code_of p.blocks) n) (sym e.0) ∙ has in cc in
          let n = length-block (code_of p.blocks) (rules accept.rule) (ending_code endings accept.rule accept.values) ends in
          let still : Agree k (bank_after pos accept.ops b) = subst (λ k. Agree k (bank_after pos accept.ops b))
          (ap (λ l. after_ops pos (sequentialized auto.regs auto.mregs l) k) e.1)
          (Agrees-after auto.regs auto.mregs pos accept.ops k b is.0 agree) in
          subst (λ z. EndsIn p x start (3 * all) z (at pos held u k) q
          (told_at endings cond accept.rule pos (map tag_value (read_all (bank_after pos accept.ops b) accept.values)))) (sym c)
          (widen_end p x start (3 * all) (rule_run accept pos held u k (bank_after pos accept.ops b) q is still) (omega (arith, n)))

      by : (o : Option Accept) → (state_at s).accept ≡ o → EndsBy supply halting endings greatest auto (code_of p.blocks) place saved rules fall o block
          → IsAccept auto.regs auto.mregs o
          → EndsIn p x start (3 * all) code (at pos held u k) q
          (told_found endings cond (or_else (found_by o (record { state = s; offset = pos; bank = b; left = left })) (found_left b left)) pos)
      by None e end is =
          let falls = serves.falls s lt e target.0 in
          let c : code ≡ fallback_code (halting.falls 0) serves.choices = let h : slice_get (code_of p.blocks) fall ≡ Some code = ap
          (λ n. slice_get (code_of p.blocks) n) (sym end) ∙ has in let f = serves.fallback s lt falls in cc in
          subst (λ z. EndsIn p x start (3 * all) z (at pos held u k) q (told_found endings cond (found_left b left) pos)) (sym c)
          (subst (λ l. EndsIn p x start (3 * all) (fallback_code (halting.falls 0) serves.choices) (at pos held u k) q
          (told_found endings cond (found_left b l) pos)) (same falls)
          (fall_run s pos held u k b q lt falls agree ok (λ none. fresh (sym (same falls) ∙ none) falls)))
      by (Some accept) e end is = accepted accept (ends_here s accept lt e target.0) end is

  -- ---- along an edge

  -- of a state that is left, by the numbers that are kept, if they are
  saving : (numbers : Option (ℕ → ℕ)) (s pos : ℕ) (left : Left) → left.state ≡ s → left.offset ≡ pos → (held : Option Left) (rest : List Stmt)
      (u : Option ℕ) (k : Bank) (q : List Answer)
      → LeadsIn p x start (save_size true (saved_by numbers s)) (save_code true (saved_by numbers s) rest)
      (machine_at pos (marker_of start held) lim u (number_of numbers held) kept first k cond []) q rest
      (machine_at pos left.offset lim u (number_by numbers left.state) kept first k cond []) q
  saving None s pos left is at_offset held rest u k q =
      subst₂ (λ number offset. LeadsIn p x start 1 (save_code true None rest)
      (machine_at pos (marker_of start held) lim u number kept first k cond []) q rest
      (machine_at pos offset lim u 0 kept first k cond []) q) (sym (number_none held)) (sym at_offset)
      (step_in p x start refl (omega arith))
  saving (Some numbers) s pos left is at_offset held rest u k q =
      subst₂ (λ state offset. LeadsIn p x start 2 (save_code true (Some (numbers s)) rest)
      (machine_at pos (marker_of start held) lim u (number_of (Some numbers) held) kept first k cond []) q rest
      (machine_at pos offset lim u (numbers state) kept first k cond []) q) (sym is) (sym at_offset)
      (then_in p x start 2 (step_in p x start refl (omega arith)) (step_in p x start refl (omega arith)) (omega arith))

  save_run : (o : Option Accept) (falls : Bool) (s pos : ℕ) (held : Option Left) (rest : List Stmt) (u : Option ℕ) (k : Bank) (q : List Answer)
      → LeadsIn p x start (save_size (is_some o && falls) (saved_by saved s)) (save_code (is_some o && falls) (saved_by saved s) rest) (at pos held u k) q rest
      (at pos (held_after o falls s pos held) u k) q
  save_run None falls s pos held rest u k q = stays_in p x start 0 rest _ q
  save_run (Some accept) false s pos held rest u k q = stays_in p x start 0 rest _ q
  save_run (Some accept) true s pos held rest u k q = saving saved s pos (record { state = s; accept = accept; offset = pos }) refl refl held rest u k q

  -- the registers of the machine behind an edge
  abbrev pub behind : (s pos : ℕ) → Edge → Bank → Bank
  behind s pos edge k = after_ops pos (sequentialized auto.regs auto.mregs edge.ops)
      (after_ops pos (sequentialized auto.regs auto.mregs (state_at s).leave) k)

  -- what is saved behind it
  abbrev pub held_behind : (s pos : ℕ) → Edge → (held : Option Left) → Option Left
  held_behind s pos edge held = held_after (state_at s).accept (halting.falls edge.to) s pos held

  pub edge_run : (edge : Edge) (to : List Stmt) (s pos : ℕ) (held : Option Left) (u : Option ℕ) (k : Bank) (q : List Answer)
      → AreOps auto.regs auto.mregs edge.ops → Has (place edge.to) to → pos < lim
      → LeadsIn p x start (length (edge_code halting auto (state_at s) (saved_by saved s) edge (place edge.to)))
      (edge_code halting auto (state_at s) (saved_by saved s) edge (place edge.to)) (at pos held u k) q
      to (at (suc pos) (held_behind s pos edge held) u (behind s pos edge k)) q
  edge_run edge to s pos held u k q are has lt =
      let state : State = state_of auto.states s in
      let held' : Option Left = held_behind s pos edge held in
      let b3 : List Stmt = Skip ∷ Goto (place edge.to) ∷ [] in
      let b2 : List Stmt = list_code auto edge.ops (Skip ∷ Goto (place edge.to) ∷ []) in
      let b1 : List Stmt = list_code auto (state_at s).leave (list_code auto edge.ops (Skip ∷ Goto (place edge.to) ∷ [])) in
      let k1 : Bank = after_ops pos (sequentialized auto.regs auto.mregs (state_at s).leave) k in
      let l1 = length-save_code (saves_on halting state edge) (saved_by saved s) b1 in
      let l2 = length-ops_code (sequentialized auto.regs auto.mregs (state_at s).leave) b2 in
      let l3 = length-ops_code (sequentialized auto.regs auto.mregs edge.ops) b3 in
      let h1 = save_run (state_at s).accept (halting.falls edge.to) s pos held b1 u k q in
      let h2 = list_run (state_at s).leave (state_formed auto s formed).leave b2 pos held' u k q in
      let h3 = list_run edge.ops are b3 pos held' u k1 q in
      let t : nat_lt pos lim ≡ true = lt-ltb pos lim lt in
      let m3 : Machine = at pos held' u (behind s pos edge k) in
      let m4 : Machine = at (suc pos) held' u (behind s pos edge k) in
      let h4 = step_in p x start {s = Skip} {b = Goto (place edge.to) ∷ []} {m = m3} {m' = m4} {q = q}
      (ap (λ t. skip t (Goto (place edge.to) ∷ []) m3 q) t) (omega arith) in
      let h5 = step_in p x start {s = Goto (place edge.to)} {b = []} {m = m4} {m' = m4} {q = q} (ap (λ o. jump o m4 q) has) (omega arith) in
      then_in p x start (length (edge_code halting auto (state_at s) (saved_by saved s) edge (place edge.to))) h1
      (then_in p x start (length b1) h2 (then_in p x start (length b2) h3 (then_in p x start 2 h4 h5 (omega arith)) (omega (arith, l3)))
      (omega (arith, l2))) (omega (arith, l1))
