-- The machine, written by what a run of an automaton knows, and what operations and tests of a unit do to it.
use Rattle.std.specs.Prelude.{◌≡◌, ◌≢◌, ℕ, zero, suc, ◌+◌, ◌<◌, List, [], ◌∷◌, length, Option, Some, None, Bool, true, false, nat_eq, refl, slice_get, if◌then◌else◌}
use Rattle.std.proofs.Common.{sym, ap, ◌∙◌, subst, arith, eqb-true, eq-eqb, true≢false}
use Rattle.std.proofs.lemmas.Bool.{ne_eqb}
use Rattle.lx_auto.specs.Bank.{Bank}
use Rattle.lx_auto.specs.declared.ops.Op.{Op}
use Rattle.lx_auto.specs.declared.ops.Op.TheVariants.{Here, Null, Copy, MHere, MNull, MCopy}
use Rattle.lx_ccode.specs.declared.piece.Stmt.{Stmt}
use Rattle.lx_ccode.specs.declared.piece.Piece.{Piece}
use Rattle.lx_ccode.specs.Machine.{Machine, Value, Answer, goes_on, step, jump, updated}
use Rattle.lx_ccode.specs.Statements.{code_of}
use Rattle.lx_sequence.specs.Turns.{after_op, after_ops}
use Rattle.lx_layout.specs.Codes.{save_code, op_code, ops_code}
use Rattle.lx_layout.specs.Layout.{StandsFrom}
use Rattle.lx_dispatch.specs.TestTrees.{Question, TestTree, fork, holds, leaf, picked, switch, test}
use Rattle.lx_layout.specs.TreeCodes.{asks, inner_blocks, inner_size, tree_code}
use Rattle.lx_layout.proofs.BlockLayouts.CodesInBlocks.{StandsFrom-back, StandsFrom-front, code_length-append}
use Rattle.lx_layout.proofs.BlockLayouts.Questions.{FitsTable, cases_step, question_fails, question_holds}
use Rattle.lx_layout.proofs.Runs.PartialRuns.{LeadsIn, stays_in, step_in, then_in, widen}
use Rattle.lx_layout.proofs.BlockLayouts.TreeCodes.{length-inner_blocks, tree_length}

-- registers counted from 1, where register 0 holds this
abbrev pub raised : Option ℕ → (ℕ → Option ℕ) → ℕ → Option ℕ
raised first regs zero = first
raised first regs (suc reg) = regs reg

updated-raised_at : (first : Option ℕ) (target : ℕ) (value : Option ℕ) (regs : ℕ → Option ℕ) (reg : ℕ)
    → updated (suc target) value (raised first regs) reg ≡ raised first (updated target value regs) reg
updated-raised_at first target value regs zero =
    let ne : 0 ≢ suc target = omega arith in
    ap (λ t. if t then value else first) (ne_eqb 0 (suc target) ne)
updated-raised_at first target value regs (suc reg) = by (nat_eq reg target) refl
  where
    by : (t : Bool) → nat_eq reg target ≡ t → updated (suc target) value (raised first regs) (suc reg) ≡
        (if nat_eq reg target then value else regs reg)
    by true q =
        let s : nat_eq (suc reg) (suc target) ≡ true = let z = eqb-true reg target q in eq-eqb (suc reg) (suc target) (omega arith) in
        ap (λ t. if t then value else regs reg) s ∙ ap (λ t. if t then value else regs reg) (sym q)
    by false q =
        let ne : suc reg ≢ suc target = λ z. true≢false (sym (eq-eqb reg target (omega arith)) ∙ q) in
        ap (λ t. if t then value else regs reg) (ne_eqb (suc reg) (suc target) ne) ∙ ap (λ t. if t then value else regs reg) (sym q)

pub updated-raised : (first : Option ℕ) (target : ℕ) (value : Option ℕ) (regs : ℕ → Option ℕ)
    → updated (suc target) value (raised first regs) ≡ raised first (updated target value regs)
updated-raised first target value regs = λ i reg. updated-raised_at first target value regs reg i

raised_at : (regs : ℕ → Option ℕ) (reg : ℕ) → raised (regs 0) (λ r. regs (suc r)) reg ≡ regs reg
raised_at regs zero = refl
raised_at regs (suc reg) = refl

-- any registers are raised ones
pub raised-shift : (regs : ℕ → Option ℕ) → raised (regs 0) (λ r. regs (suc r)) ≡ regs
raised-shift regs = λ i reg. raised_at regs reg i

-- no operation writes m-register 0
abbrev pub IsPositive : Op → Type 0
IsPositive (MHere mreg) = 0 < mreg
IsPositive (MNull mreg) = 0 < mreg
IsPositive (MCopy mreg source) = 0 < mreg
IsPositive _ = Unit {0}

abbrev pub ArePositive : List Op → Type 0
ArePositive [] = Unit {0}
ArePositive (op ∷ ops) = IsPositive op × ArePositive ops

-- where the cursor, the marker and the limit stand, the unit that was read, the saved number, the state that was stored, the registers,
-- the condition, and what was given
abbrev pub machine_at : (cur mk lim : ℕ) → (u : Option ℕ) → (ac : ℕ) → (kept first : Option ℕ) → Bank → (cond : List ℕ) → List Value → Machine
machine_at cur mk lim u ac kept first k cond values = record {
  cursor = cur;
  marker = mk;
  limit = lim;
  unit = u;
  accept = ac;
  registers = raised first k.regs;
  histories = k.mregs;
  cond = cond;
  state = kept;
  values = values;
}

abbrev pub save_size : (saves : Bool) → (saved : Option ℕ) → ℕ
save_size false saved = 0
save_size true None = 1
save_size true (Some saved) = 2

pub length-save_code : (saves : Bool) (saved : Option ℕ) (b : List Stmt) → length (save_code saves saved b) ≡ save_size saves saved + length b
length-save_code false saved b = omega arith
length-save_code true None b = omega arith
length-save_code true (Some saved) b = omega arith

pub length-ops_code : (ops : List Op) (b : List Stmt) → length (ops_code ops b) ≡ length ops + length b
length-ops_code [] b = omega arith
length-ops_code (op ∷ ops) b = let h = length-ops_code ops b in omega (arith, h)

module _ (p : Piece) (x : List ℕ) (start : ℕ) where
  module _ (cur mk lim : ℕ) (u : Option ℕ) (ac : ℕ) (kept first : Option ℕ) (cond : List ℕ) (values : List Value) (q : List Answer) where
    abbrev at : Bank → Machine
    at k = machine_at cur mk lim u ac kept first k cond values

    op_step : (op : Op) → IsPositive op → (b : List Stmt) (k : Bank) → step p x (op_code op) b (at k) q ≡ goes_on b (at (after_op cur op k)) q
    op_step (Here r) pos b k = ap (λ g. goes_on b (record (at k) { registers = g }) q) (updated-raised first r (Some cur) k.regs)
    op_step (Null r) pos b k = ap (λ g. goes_on b (record (at k) { registers = g }) q) (updated-raised first r None k.regs)
    op_step (Copy r s) pos b k = ap (λ g. goes_on b (record (at k) { registers = g }) q) (updated-raised first r (k.regs s) k.regs)
    op_step (MHere zero) pos b k = absurd (omega (arith, pos))
    op_step (MHere (suc r)) pos b k = refl
    op_step (MNull zero) pos b k = absurd (omega (arith, pos))
    op_step (MNull (suc r)) pos b k = refl
    op_step (MCopy zero s) pos b k = absurd (omega (arith, pos))
    op_step (MCopy (suc r) s) pos b k = refl

    pub ops_run : (ops : List Op) → ArePositive ops → (b : List Stmt) (k : Bank)
        → LeadsIn p x start (length ops) (ops_code ops b) (at k) q b (at (after_ops cur ops k)) q
    ops_run [] pos b k = stays_in p x start 0 b _ q
    ops_run (op ∷ ops) pos b k =
        then_in p x start (suc (length ops)) (step_in p x start (op_step op pos.0 (ops_code ops b) k) (omega arith))
        (ops_run ops pos.1 b (after_op cur op k)) (omega arith)

  module _ (sets : (set unit : ℕ) → Bool) (fits : FitsTable sets p) where
    -- a test of the unit
    module _ (question : Question) (block unit : ℕ) (rest : List Stmt) (m : Machine) (q : List Answer) (read : m.unit ≡ Some unit) where
      holds_in : (to : List Stmt) → holds sets question unit ≡ true → slice_get (code_of p.blocks) block ≡ Some to
          → LeadsIn p x start 1 (asks question block ∷ rest) m q to m q
      holds_in to h et = step_in p x start (question_holds p x rest m q sets fits unit read question block to h et) (omega arith)

      fails_in : holds sets question unit ≡ false → LeadsIn p x start 1 (asks question block ∷ rest) m q rest m q
      fails_in h = step_in p x start (question_fails p x rest m q sets fits unit read question block h) (omega arith)

    -- the tests of a unit lead to the block that they pick, in no more steps than they have statements
    pub tree_run : (tree : TestTree ℕ) (next unit : ℕ) (to : List Stmt) (m : Machine) (q : List Answer) → m.unit ≡ Some unit
        → StandsFrom (code_of p.blocks) next (inner_blocks next tree) → slice_get (code_of p.blocks) (picked sets tree unit) ≡ Some to
        → LeadsIn p x start (tree_length next tree) (tree_code next tree) m q to m q
    tree_run (leaf block) next unit to m q read stands et = step_in p x start (ap (λ o. jump o m q) et) (omega arith)
    tree_run (test question block high) next unit to m q read stands et = by (holds sets question unit) refl et (tree_run high next unit to m q read stands)
      where
        rest : List Stmt
        rest = tree_code next high

        by : (t : Bool) → holds sets question unit ≡ t → slice_get (code_of p.blocks) (if t then block else picked sets high unit) ≡ Some to
            → (slice_get (code_of p.blocks) (picked sets high unit) ≡ Some to → LeadsIn p x start (tree_length next high) rest m q to m q)
            → LeadsIn p x start (tree_length next (test question block high)) (asks question block ∷ rest) m q to m q
        by true h e again = widen p x start (tree_length next (test question block high)) (holds_in question block unit rest m q read to h e) (omega arith)
        by false h e again =
            then_in p x start (tree_length next (test question block high)) (fails_in question block unit rest m q read h) (again e) (omega arith)
    tree_run (switch cases last) next unit to m q read stands et =
        step_in p x start (cases_step p x [] m q unit read cases last to et) (omega arith)
    tree_run (fork question low high) next unit to m q read stands et =
        by (holds sets question unit) refl et (tree_run low (suc next) unit to m q read low_stands)
        (tree_run high (suc next + inner_size low) unit to m q read high_stands)
      where
        behind : ℕ
        behind = suc next + inner_size low

        below : List (List Stmt)
        below = inner_blocks (suc next) low

        above : List (List Stmt)
        above = inner_blocks (suc next + inner_size low) high

        low_stands : StandsFrom (code_of p.blocks) (suc next) (inner_blocks (suc next) low)
        low_stands = StandsFrom-front (code_of p.blocks) (suc next) below above stands.1

        high_stands : StandsFrom (code_of p.blocks) (suc next + inner_size low) (inner_blocks (suc next + inner_size low) high)
        high_stands =
            let e : suc next + length below ≡ suc next + inner_size low = ap (λ n. suc next + n) (length-inner_blocks (suc next) low) in
            subst (λ n. StandsFrom (code_of p.blocks) n above) e (StandsFrom-back (code_of p.blocks) (suc next) below above stands.1)

        by : (t : Bool) → holds sets question unit ≡ t → slice_get (code_of p.blocks) (if t then picked sets low unit else picked sets high unit) ≡ Some to
            → (slice_get (code_of p.blocks) (picked sets low unit) ≡ Some to
            → LeadsIn p x start (tree_length (suc next) low) (tree_code (suc next) low) m q to m q)
            → (slice_get (code_of p.blocks) (picked sets high unit) ≡ Some to
            → LeadsIn p x start (tree_length (suc next + inner_size low) high) (tree_code (suc next + inner_size low) high) m q to m q)
            → LeadsIn p x start (tree_length next (fork question low high)) (asks question next ∷ tree_code (suc next + inner_size low) high) m q to m q
        by true h e again_low again_high =
            let sum = code_length-append below above in
            then_in p x start (tree_length next (fork question low high))
            (holds_in question next unit (tree_code behind high) m q read (tree_code (suc next) low) h stands.0) (again_low e) (omega (arith, sum))
        by false h e again_low again_high =
            let sum = code_length-append below above in
            then_in p x start (tree_length next (fork question low high))
            (fails_in question next unit (tree_code behind high) m q read h) (again_high e) (omega (arith, sum))
