-- Stretches of a trace that pass no unit and ask for no refill: how they are put together, and what comes behind them.
use Rattle.std.specs.Prelude.{◌≡◌, ℕ, ◌+◌, Bool, true, false, List, [], ◌∷◌, ◌++◌, Some, nat_lt, refl, slice_get, if◌then◌else◌}
use Rattle.std.proofs.Common.{ap, ap₂, ◌∙◌, subst, sym, arith}
use Rattle.lx_ccode.specs.declared.piece.Piece.{Piece}
use Rattle.lx_ccode.specs.declared.piece.Stmt.{Stmt}
use Rattle.lx_ccode.specs.declared.piece.Stmt.TheVariants.{Peek}
use Rattle.lx_ccode.specs.Machine.{Answer, Machine, goes_on, step}
use Rattle.lx_ccode.specs.Runs.{Ended}
use Rattle.lx_ccode.specs.Traces.{JumpsLastTo, Trace, count_made, is_peek, is_skip, trace, trace_on, traced}
use Rattle.lx_ccode.proofs.Traces.{count_made-append, trace-add}
use Rattle.lx_ccode.proofs.TraceSteps.{EndsSo, LeadsSo, peek_step}

-- statements that come before do not change where the last one jumps
JumpsLastTo-append : (block : ℕ) (front made : List Stmt) → JumpsLastTo block made → JumpsLastTo block (front ++ made)
JumpsLastTo-append block [] made jumps = jumps
JumpsLastTo-append block (statement ∷ []) [] jumps = absurd jumps
JumpsLastTo-append block (statement ∷ []) (first ∷ made) jumps = jumps
JumpsLastTo-append block (statement ∷ next ∷ front) made jumps = JumpsLastTo-append block (next ∷ front) made jumps

module _ (piece : Piece) (stream : List ℕ) where
  -- ---- a trace that goes on, and so many steps more

  module _ (code : List Stmt) (machine : Machine) (answers : List Answer) (steps more : ℕ) {next : List Stmt} {after : Machine}
      (leads : (trace piece stream steps code machine answers).next ≡ goes_on next after answers) where
    made_on : (trace piece stream (steps + more) code machine answers).made
        ≡ (trace piece stream steps code machine answers).made ++ (trace piece stream more next after answers).made
    made_on =
        ap (λ (t : Trace). t.made) (trace-add piece stream steps more code machine answers)
        ∙ ap (λ n. (trace piece stream steps code machine answers).made ++ (trace_on piece stream more n).made) leads

    pub next_on : (trace piece stream (steps + more) code machine answers).next ≡ (trace piece stream more next after answers).next
    next_on =
        ap (λ (t : Trace). t.next) (trace-add piece stream steps more code machine answers)
        ∙ ap (λ n. (trace_on piece stream more n).next) leads

    pub counted_on : (test : Stmt → Bool) → count_made test (trace piece stream (steps + more) code machine answers).made
        ≡ count_made test (trace piece stream steps code machine answers).made + count_made test (trace piece stream more next after answers).made
    counted_on test =
        ap (count_made test) made_on
        ∙ count_made-append test (trace piece stream steps code machine answers).made (trace piece stream more next after answers).made

  -- ---- stretches

  -- some steps lead from here to there; they read so many units, pass none, and ask for no refill
  pub record Walks (peeks : ℕ) (code : List Stmt) (machine : Machine) (answers : List Answer) (next : List Stmt) (after : Machine) : Type 0 where
    pub steps : ℕ
    pub leads : (trace piece stream steps code machine answers).next ≡ goes_on next after answers
    pub reads : count_made is_peek (trace piece stream steps code machine answers).made ≡ peeks
    pub passes : count_made is_skip (trace piece stream steps code machine answers).made ≡ 0

  pub stays : (code : List Stmt) (machine : Machine) (answers : List Answer) → Walks 0 code machine answers code machine
  stays code machine answers = record { steps = 0; leads = refl; reads = refl; passes = refl }

  pub walk_step : (statement : Stmt) {rest code : List Stmt} {machine after : Machine} {answers : List Answer} → is_peek statement ≡ false
      → is_skip statement ≡ false → step piece stream statement rest machine answers ≡ goes_on code after answers
      → Walks 0 (statement ∷ rest) machine answers code after
  walk_step statement quiet still e = record {
    steps = 1;
    leads = ap (λ n. (traced piece stream statement (trace piece stream 0) n).next) e;
    reads = ap (λ n. count_made is_peek (traced piece stream statement (trace piece stream 0) n).made) e
        ∙ ap (λ t. (if t then 1 else 0) + 0) quiet;
    passes = ap (λ n. count_made is_skip (traced piece stream statement (trace piece stream 0) n).made) e
        ∙ ap (λ t. (if t then 1 else 0) + 0) still;
  }

  -- a unit before the limit is read
  pub walk_peek : (unit : ℕ) {rest : List Stmt} {machine : Machine} {answers : List Answer} → nat_lt machine.cursor machine.limit ≡ true
      → slice_get stream machine.cursor ≡ Some unit → Walks 1 (Peek ∷ rest) machine answers rest (record machine { unit = Some unit })
  walk_peek unit {rest} {machine} {answers} before is =
      let e = peek_step piece stream rest machine answers unit before is in
      record {
        steps = 1;
        leads = ap (λ n. (traced piece stream Peek (trace piece stream 0) n).next) e;
        reads = ap (λ n. count_made is_peek (traced piece stream Peek (trace piece stream 0) n).made) e;
        passes = ap (λ n. count_made is_skip (traced piece stream Peek (trace piece stream 0) n).made) e;
      }

  module _ {peeks : ℕ} {code between : List Stmt} {machine middle : Machine} {answers : List Answer}
      (first : Walks peeks code machine answers between middle) where
    pub walk_on : {more : ℕ} {next : List Stmt} {after : Machine} → Walks more between middle answers next after
        → Walks (peeks + more) code machine answers next after
    walk_on second = record {
      steps = first.steps + second.steps;
      leads = next_on code machine answers first.steps second.steps first.leads ∙ second.leads;
      reads = counted_on code machine answers first.steps second.steps first.leads is_peek ∙ ap₂ (λ a b. a + b) first.reads second.reads;
      passes = counted_on code machine answers first.steps second.steps first.leads is_skip ∙ ap₂ (λ a b. a + b) first.passes second.passes;
    }

    pub walk_leads : {more skips block : ℕ} {next : List Stmt} {after : Machine} → LeadsSo piece stream more skips block between middle answers next after
        → LeadsSo piece stream (peeks + more) skips block code machine answers next after
    walk_leads {skips = skips} {block = block} second =
        let none : 0 + skips ≡ skips = omega arith in
        record {
          steps = first.steps + second.steps;
          leads = next_on code machine answers first.steps second.steps first.leads ∙ second.leads;
          jumps = subst (λ (l : List Stmt). JumpsLastTo block l) (sym (made_on code machine answers first.steps second.steps first.leads))
              (JumpsLastTo-append block (trace piece stream first.steps code machine answers).made
              (trace piece stream second.steps between middle answers).made second.jumps);
          reads = counted_on code machine answers first.steps second.steps first.leads is_peek ∙ ap₂ (λ a b. a + b) first.reads second.reads;
          passes = counted_on code machine answers first.steps second.steps first.leads is_skip ∙ ap₂ (λ a b. a + b) first.passes second.passes ∙ none;
        }

    pub walk_ends : {more skips : ℕ} {end : Ended} → EndsSo piece stream more skips between middle answers end
        → EndsSo piece stream (peeks + more) skips code machine answers end
    walk_ends {skips = skips} second =
        let none : 0 + skips ≡ skips = omega arith in
        record {
          steps = first.steps + second.steps;
          outcome = second.outcome;
          after = second.after;
          over = next_on code machine answers first.steps second.steps first.leads ∙ second.over;
          tells = second.tells;
          reads = counted_on code machine answers first.steps second.steps first.leads is_peek ∙ ap₂ (λ a b. a + b) first.reads second.reads;
          passes = counted_on code machine answers first.steps second.steps first.leads is_skip ∙ ap₂ (λ a b. a + b) first.passes second.passes ∙ none;
        }
