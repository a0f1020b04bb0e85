-- The steps of a trace that depend on a test: what each makes where the test holds and where it fails; and what holds of a scanner's statements.
use Rattle.std.proofs.Common.{◌≡◌, ℕ, zero, suc, ◌+◌, ◌<◌, Bool, true, false, List, [], ◌∷◌, ◌++◌, length, Some, None, refl, sym, ap, subst, ◌∙◌, arith}
use Rattle.std.specs.Prelude.{nat_lt, slice_get, slice_index_or, if◌then◌else◌, ◌==◌}
use Rattle.std.specs.List.{AllByRecursion}
use Rattle.lx_ccode.specs.declared.piece.Stmt.{Stmt}
use Rattle.lx_ccode.specs.declared.piece.Stmt.TheVariants.{Peek, Skip, IfAccept, Switch, Goto}
use Rattle.lx_ccode.specs.declared.piece.CodeBlock.{CodeBlock}
use Rattle.lx_ccode.specs.declared.piece.SwitchCase.{SwitchCase}
use Rattle.lx_ccode.specs.declared.piece.Piece.{Piece}
use Rattle.lx_ccode.specs.Machine.{Machine, Answer, Outcome, goes_on, ends, case_block, code_at, jump, choose, peek, skip, if_unit, switch_unit, step}
use Rattle.lx_ccode.specs.Runs.{Ended, ended}
use Rattle.lx_ccode.specs.Scanners.{IsMadeBy, StandsIn}
use Rattle.lx_ccode.specs.Statements.{all_statements}
use Rattle.lx_ccode.specs.Traces.{traced, trace, count_made, is_peek, is_skip, jump_target, JumpsLastTo}

module _ (piece : Piece) (stream : List ℕ) (rest : List Stmt) (machine : Machine) (answers : List Answer) where
  -- a unit before the limit is read
  pub peek_step : (unit : ℕ) → nat_lt machine.cursor machine.limit ≡ true → slice_get stream machine.cursor ≡ Some unit
      → step piece stream Peek rest machine answers ≡ goes_on rest (record machine { unit = Some unit }) answers
  peek_step unit before is =
      ap (λ t. peek (if t then slice_get stream machine.cursor else (if machine.cursor == machine.limit then piece.eof else None)) rest machine answers) before
      ∙ ap (λ o. peek o rest machine answers) is

  -- and passed
  pub skip_step : nat_lt machine.cursor machine.limit ≡ true
      → step piece stream Skip rest machine answers ≡ goes_on rest (record machine { cursor = suc machine.cursor }) answers
  skip_step before = ap (λ t. skip t rest machine answers) before

  pub goto_step : (block : ℕ) (code : List Stmt) → code_at piece.blocks (Some block) ≡ Some code
      → step piece stream (Goto block) rest machine answers ≡ goes_on code machine answers
  goto_step block code is = ap (λ o. jump o machine answers) is

  module _ (unit : ℕ) (read : machine.unit ≡ Some unit) where
    -- a statement that tests the unit goes to a block where the test holds
    pub test_holds : (test : ℕ → Bool) (block : ℕ) (code : List Stmt) → test unit ≡ true → code_at piece.blocks (Some block) ≡ Some code
        → if_unit machine.unit test (code_at piece.blocks (Some block)) rest machine answers ≡ goes_on code machine answers
    test_holds test block code holds is =
        ap (λ o. if_unit o test (code_at piece.blocks (Some block)) rest machine answers) read
        ∙ ap (λ t. choose t (code_at piece.blocks (Some block)) rest machine answers) holds
        ∙ ap (λ o. jump o machine answers) is

    -- and on where it fails
    pub test_fails : (test : ℕ → Bool) (block : ℕ) → test unit ≡ false
        → if_unit machine.unit test (code_at piece.blocks (Some block)) rest machine answers ≡ goes_on rest machine answers
    test_fails test block fails =
        ap (λ o. if_unit o test (code_at piece.blocks (Some block)) rest machine answers) read
        ∙ ap (λ t. choose t (code_at piece.blocks (Some block)) rest machine answers) fails

    -- a switch goes to the block of the case that has the unit, or else to the last one
    pub switch_goes : (cases : List SwitchCase) (last block : ℕ) (code : List Stmt) → case_block cases last unit ≡ block
        → code_at piece.blocks (Some block) ≡ Some code → step piece stream (Switch cases last) rest machine answers ≡ goes_on code machine answers
    switch_goes cases last block code goes is =
        ap (λ o. switch_unit o (λ read. code_at piece.blocks (Some (case_block cases last read))) machine answers) read
        ∙ ap (λ at. jump (code_at piece.blocks (Some at)) machine answers) goes ∙ ap (λ o. jump o machine answers) is

  pub saved_holds : (accept block : ℕ) (code : List Stmt) → (machine.accept == accept) ≡ true → code_at piece.blocks (Some block) ≡ Some code
      → step piece stream (IfAccept accept block) rest machine answers ≡ goes_on code machine answers
  saved_holds accept block code holds is =
      ap (λ t. choose t (code_at piece.blocks (Some block)) rest machine answers) holds ∙ ap (λ o. jump o machine answers) is

  pub saved_fails : (accept block : ℕ) → (machine.accept == accept) ≡ false
      → step piece stream (IfAccept accept block) rest machine answers ≡ goes_on rest machine answers
  saved_fails accept block fails = ap (λ t. choose t (code_at piece.blocks (Some block)) rest machine answers) fails

-- ---- stretches of a trace, statement by statement

JumpsLastTo-more : (block : ℕ) (statement : Stmt) (made : List Stmt) → JumpsLastTo block made → JumpsLastTo block (statement ∷ made)
JumpsLastTo-more block statement [] jumps = absurd jumps
JumpsLastTo-more block statement (first ∷ made) jumps = jumps

-- a statement that fails a test is not counted
not_counted : (test : Bool) (count : ℕ) → test ≡ false → (if test then 1 else 0) + count ≡ count
not_counted test count fails = ap (λ t. (if t then 1 else 0) + count) fails ∙ omega arith

module _ (piece : Piece) (stream : List ℕ) where
  -- some steps end the match so, and so many of their statements are a Peek and a Skip
  pub record EndsSo (peeks skips : ℕ) (code : List Stmt) (machine : Machine) (answers : List Answer) (end : Ended) : Type 0 where
    pub steps : ℕ
    pub outcome : Outcome
    pub after : Machine
    pub over : (trace piece stream steps code machine answers).next ≡ ends outcome after
    pub tells : ended outcome after ≡ end
    pub reads : count_made is_peek (trace piece stream steps code machine answers).made ≡ peeks
    pub passes : count_made is_skip (trace piece stream steps code machine answers).made ≡ skips

  -- some steps lead to code by a jump to a block at last, and ask for no refill
  pub record LeadsSo (peeks skips block : ℕ) (code : List Stmt) (machine : Machine) (answers : List Answer) (next : List Stmt) (after : Machine)
      : Type 0 where
    pub steps : ℕ
    pub leads : (trace piece stream steps code machine answers).next ≡ goes_on next after answers
    pub jumps : JumpsLastTo block (trace piece stream steps code machine answers).made
    pub reads : count_made is_peek (trace piece stream steps code machine answers).made ≡ peeks
    pub passes : count_made is_skip (trace piece stream steps code machine answers).made ≡ skips

  module _ (statement : Stmt) (rest : List Stmt) (machine : Machine) (answers : List Answer) where
    -- what is counted where a statement is made before others
    counted : (test : Stmt → Bool) (steps : ℕ) (code : List Stmt) (after : Machine)
        → step piece stream statement rest machine answers ≡ goes_on code after answers
        → count_made test (trace piece stream (suc steps) (statement ∷ rest) machine answers).made
        ≡ (if test statement then 1 else 0) + count_made test (trace piece stream steps code after answers).made
    counted test steps code after e = ap (λ n. count_made test (traced piece stream statement (trace piece stream steps) n).made) e

    next_of : (steps : ℕ) (code : List Stmt) (after : Machine) → step piece stream statement rest machine answers ≡ goes_on code after answers
        → (trace piece stream (suc steps) (statement ∷ rest) machine answers).next ≡ (trace piece stream steps code after answers).next
    next_of steps code after e = ap (λ n. (traced piece stream statement (trace piece stream steps) n).next) e

    ends_by : {peeks skips : ℕ} {code : List Stmt} {after : Machine} {end : Ended} (reads passes : ℕ)
        → step piece stream statement rest machine answers ≡ goes_on code after answers → EndsSo peeks skips code after answers end
        → (if is_peek statement then 1 else 0) + peeks ≡ reads → (if is_skip statement then 1 else 0) + skips ≡ passes
        → EndsSo reads passes (statement ∷ rest) machine answers end
    ends_by {code = code} {after = after} reads passes e h read passed = record {
      steps = suc h.steps;
      outcome = h.outcome;
      after = h.after;
      over = next_of h.steps code after e ∙ h.over;
      tells = h.tells;
      reads = counted is_peek h.steps code after e ∙ ap (λ k. (if is_peek statement then 1 else 0) + k) h.reads ∙ read;
      passes = counted is_skip h.steps code after e ∙ ap (λ k. (if is_skip statement then 1 else 0) + k) h.passes ∙ passed;
    }

    leads_by : {peeks skips block : ℕ} {code next : List Stmt} {between after : Machine} (reads passes : ℕ)
        → step piece stream statement rest machine answers ≡ goes_on code between answers → LeadsSo peeks skips block code between answers next after
        → (if is_peek statement then 1 else 0) + peeks ≡ reads → (if is_skip statement then 1 else 0) + skips ≡ passes
        → LeadsSo reads passes block (statement ∷ rest) machine answers next after
    leads_by {block = block} {code = code} {between = between} reads passes e h read passed = record {
      steps = suc h.steps;
      leads = next_of h.steps code between e ∙ h.leads;
      jumps = subst (λ n. JumpsLastTo block (traced piece stream statement (trace piece stream h.steps) n).made) (sym e)
          (JumpsLastTo-more block statement (trace piece stream h.steps code between answers).made h.jumps);
      reads = counted is_peek h.steps code between e ∙ ap (λ k. (if is_peek statement then 1 else 0) + k) h.reads ∙ read;
      passes = counted is_skip h.steps code between e ∙ ap (λ k. (if is_skip statement then 1 else 0) + k) h.passes ∙ passed;
    }

  -- a statement that neither reads nor passes a unit comes first
  module _ (statement : Stmt) {rest : List Stmt} {machine : Machine} {answers : List Answer} (quiet : is_peek statement ≡ false)
      (still : is_skip statement ≡ false) where
    pub ends_at : {after : Machine} {outcome : Outcome} → step piece stream statement rest machine answers ≡ ends outcome after
        → EndsSo 0 0 (statement ∷ rest) machine answers (ended outcome after)
    ends_at {after} {outcome} e = record {
      steps = 1;
      outcome = outcome;
      after = after;
      over = ap (λ n. (traced piece stream statement (trace piece stream 0) n).next) e;
      tells = refl;
      reads = ap (λ n. count_made is_peek (traced piece stream statement (trace piece stream 0) n).made) e ∙ not_counted (is_peek statement) 0 quiet;
      passes = ap (λ n. count_made is_skip (traced piece stream statement (trace piece stream 0) n).made) e ∙ not_counted (is_skip statement) 0 still;
    }

    pub ends_quiet : {code : List Stmt} {after : Machine} {peeks skips : ℕ} {end : Ended}
        → step piece stream statement rest machine answers ≡ goes_on code after answers → EndsSo peeks skips code after answers end
        → EndsSo peeks skips (statement ∷ rest) machine answers end
    ends_quiet {peeks = peeks} {skips = skips} e h =
        ends_by statement rest machine answers peeks skips e h (not_counted (is_peek statement) peeks quiet) (not_counted (is_skip statement) skips still)

    -- a jump
    pub leads_at : {next : List Stmt} {after : Machine} (block : ℕ) → step piece stream statement rest machine answers ≡ goes_on next after answers
        → jump_target statement ≡ Some block → LeadsSo 0 0 block (statement ∷ rest) machine answers next after
    leads_at block e jumps = record {
      steps = 1;
      leads = ap (λ n. (traced piece stream statement (trace piece stream 0) n).next) e;
      jumps = subst (λ n. JumpsLastTo block (traced piece stream statement (trace piece stream 0) n).made) (sym e) jumps;
      reads = ap (λ n. count_made is_peek (traced piece stream statement (trace piece stream 0) n).made) e ∙ not_counted (is_peek statement) 0 quiet;
      passes = ap (λ n. count_made is_skip (traced piece stream statement (trace piece stream 0) n).made) e ∙ not_counted (is_skip statement) 0 still;
    }

    pub leads_quiet : {code next : List Stmt} {between after : Machine} {peeks skips block : ℕ}
        → step piece stream statement rest machine answers ≡ goes_on code between answers → LeadsSo peeks skips block code between answers next after
        → LeadsSo peeks skips block (statement ∷ rest) machine answers next after
    leads_quiet {peeks = peeks} {skips = skips} e h =
        leads_by statement rest machine answers peeks skips e h (not_counted (is_peek statement) peeks quiet) (not_counted (is_skip statement) skips still)

  module _ {rest : List Stmt} {machine : Machine} {answers : List Answer} (before : nat_lt machine.cursor machine.limit ≡ true) where
    -- a unit before the limit is read first
    pub ends_peek : {peeks skips : ℕ} {end : Ended} (unit : ℕ) → slice_get stream machine.cursor ≡ Some unit
        → EndsSo peeks skips rest (record machine { unit = Some unit }) answers end → EndsSo (suc peeks) skips (Peek ∷ rest) machine answers end
    ends_peek {peeks} {skips} unit is h =
        ends_by Peek rest machine answers (suc peeks) skips (peek_step piece stream rest machine answers unit before is) h (omega arith) (omega arith)

    pub leads_peek : {peeks skips block : ℕ} {next : List Stmt} {after : Machine} (unit : ℕ) → slice_get stream machine.cursor ≡ Some unit
        → LeadsSo peeks skips block rest (record machine { unit = Some unit }) answers next after
        → LeadsSo (suc peeks) skips block (Peek ∷ rest) machine answers next after
    leads_peek {peeks} {skips} unit is h =
        leads_by Peek rest machine answers (suc peeks) skips (peek_step piece stream rest machine answers unit before is) h (omega arith) (omega arith)

    -- it is passed first
    pub leads_skip : {peeks skips block : ℕ} {next : List Stmt} {after : Machine}
        → LeadsSo peeks skips block rest (record machine { cursor = suc machine.cursor }) answers next after
        → LeadsSo peeks (suc skips) block (Skip ∷ rest) machine answers next after
    leads_skip {peeks} {skips} h =
        leads_by Skip rest machine answers peeks (suc skips) (skip_step piece stream rest machine answers before) h (omega arith) (omega arith)

  -- what is told, said in another way
  pub ends_telling : {peeks skips : ℕ} {code : List Stmt} {machine : Machine} {answers : List Answer} {end other : Ended}
      → EndsSo peeks skips code machine answers end → end ≡ other → EndsSo peeks skips code machine answers other
  ends_telling h e = record {
    steps = h.steps;
    outcome = h.outcome;
    after = h.after;
    over = h.over;
    tells = h.tells ∙ e;
    reads = h.reads;
    passes = h.passes;
  }

-- ---- the statements of a scanner

All-front : (Holds : Stmt → Type 0) (front behind : List Stmt) → AllByRecursion Holds (front ++ behind) → AllByRecursion Holds front
All-front Holds [] behind all = tt
All-front Holds (statement ∷ front) behind all = (all.0, All-front Holds front behind all.1)

All-behind : (Holds : Stmt → Type 0) (front behind : List Stmt) → AllByRecursion Holds (front ++ behind) → AllByRecursion Holds behind
All-behind Holds [] behind all = all
All-behind Holds (statement ∷ front) behind all = All-behind Holds front behind all.1

pub All-implied : (Holds Follows : Stmt → Type 0) → ((statement : Stmt) → Holds statement → Follows statement) → (code : List Stmt)
    → AllByRecursion Holds code → AllByRecursion Follows code
All-implied Holds Follows follows [] all = tt
All-implied Holds Follows follows (statement ∷ code) all = (follows statement all.0, All-implied Holds Follows follows code all.1)

-- what holds of all statements holds of those of a block
pub All-code : (Holds : Stmt → Type 0) (blocks : List CodeBlock) (block : ℕ) (code : List Stmt) → code_at blocks (Some block) ≡ Some code
    → AllByRecursion Holds (all_statements blocks) → AllByRecursion Holds code
All-code Holds [] block code is all = absurd cc
All-code Holds (first ∷ blocks) zero code is all =
    let same : first.stmts ≡ code = cc in
    subst (λ (l : List Stmt). AllByRecursion Holds l) same (All-front Holds first.stmts (all_statements blocks) all)
All-code Holds (first ∷ blocks) (suc block) code is all =
    All-code Holds blocks block code is (All-behind Holds first.stmts (all_statements blocks) all)

All-at : (Holds : Stmt → Type 0) (code : List Stmt) (place : ℕ) (statement : Stmt) → place < length code
    → slice_index_or code place statement ≡ statement → AllByRecursion Holds code → Holds statement
All-at Holds [] place statement below is all = absurd (omega (arith, below))
All-at Holds (first ∷ code) zero statement below is all = subst Holds is all.0
All-at Holds (first ∷ code) (suc place) statement below is all = All-at Holds code place statement (omega (arith, below)) is all.1

-- and of each statement that a scanner of the piece makes
pub All-made : (Holds : Stmt → Type 0) (blocks : List CodeBlock) (entry : ℕ) (statement : Stmt) → AllByRecursion Holds (all_statements blocks)
    → IsMadeBy blocks entry statement → Holds statement
All-made Holds blocks entry statement all made =
    let stands = made.2 in
    let contained = stands.2 in
    All-at Holds stands.0 contained.0 statement contained.1 contained.2 (All-code Holds blocks made.0 stands.0 stands.1 all)

-- a statement does not stand in a block of which each statement passes a test that it fails
pub NeverStands : (blocks : List CodeBlock) (block : ℕ) (statement : Stmt) (code : List Stmt) → code_at blocks (Some block) ≡ Some code
    → (Holds : Stmt → Type 0) → AllByRecursion Holds code → StandsIn blocks block statement → (Holds statement → ⊥) → ⊥
NeverStands blocks block statement code at Holds all stands fails =
    let found = stands.1 in
    let same : code ≡ stands.0 = cc in
    let contained = stands.2 in
    fails (All-at Holds stands.0 contained.0 statement contained.1 contained.2 (subst (λ (l : List Stmt). AllByRecursion Holds l) same all))
