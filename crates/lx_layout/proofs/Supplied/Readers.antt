-- What comes of the block of what reads a unit: a unit is read, the stream ends, the block comes again with more units, or the run ends.
use Rattle.std.specs.Prelude.{◌≡◌, ◌⊎◌, ℕ, zero, suc, ◌+◌, ◌*◌, ◌<◌, ◌≤◌, Bool, true, ◌||◌, List, ◌∷◌, length, Option, Some, None, slice_get}
use Rattle.std.proofs.Common.{[], ◌∙◌, ap, arith, get_or}
use Rattle.std.proofs.Math.Bool.{or-true}
use Rattle.std.proofs.lemmas.List.Folds.{list_any-append}
use Rattle.std.proofs.lemmas.Option.{slice_get-get_or}
use Rattle.std.specs.List.{list_any}
use Rattle.lx_auto.specs.Bank.{Bank}
use Rattle.lx_ccode.specs.declared.piece.CodeBlock.{CodeBlock}
use Rattle.lx_ccode.specs.declared.piece.Mode.TheVariants.{Count}
use Rattle.lx_ccode.specs.declared.piece.Piece.{Piece}
use Rattle.lx_ccode.specs.declared.piece.Stmt.{Stmt}
use Rattle.lx_ccode.specs.Machine.{Answer, Machine, unanswered}
use Rattle.lx_ccode.specs.Runs.{Ended}
use Rattle.lx_ccode.specs.Schedules.{Buffer}
use Rattle.lx_ccode.specs.Statements.{all_statements, code_of, is_reading, is_state, statement_count}
use Rattle.lx_layout.specs.RightInMode.{EndsAtCheck}
use Rattle.lx_layout.specs.Supplies.{Supply}
use Rattle.lx_layout.proofs.Runs.PartialRuns.{EndsIn, LeadsIn}
use Rattle.lx_layout.proofs.Runs.OperationSteps.{machine_at}
use Rattle.lx_layout.proofs.Supplied.BlockSorts.{lengths_of, passing}
use Rattle.lx_layout.proofs.Supplied.Refills.{Buffered, Refilled}

-- whether the piece stores states
abbrev pub stores_states : Piece → Bool
stores_states p = list_any is_state (all_statements p.blocks)

-- the piece reads units
abbrev pub IsReading : Piece → Type 0
IsReading p = list_any is_reading (all_statements p.blocks) ≡ true

-- ---- a statement of a block is one of the piece

pub any_block : (test : Stmt → Bool) (blocks : List CodeBlock) (block : ℕ) (code : List Stmt) → slice_get (code_of blocks) block ≡ Some code
    → list_any test code ≡ true → list_any test (all_statements blocks) ≡ true
any_block test [] block code stands has = absurd (cc)
any_block test (first ∷ blocks) zero code stands has =
    let same : first.stmts ≡ code = cc in
    list_any-append test first.stmts (all_statements blocks)
    ∙ ap (λ t. t || list_any test (all_statements blocks)) (ap (λ l. list_any test l) same ∙ has)
any_block test (first ∷ blocks) (suc block) code stands has =
    list_any-append test first.stmts (all_statements blocks)
    ∙ ap (λ t. list_any test first.stmts || t) (any_block test blocks block code stands has) ∙ or-true (list_any test first.stmts)

-- a run ends with a refill that is asked and not answered, or at a check where units are counted
abbrev pub EndsBefore : Piece → Supply → (units : ℕ) → Ended → Type 0
EndsBefore p supply units e = (e.outcome ≡ unanswered) ⊎ ((supply.eof ≡ None) × EndsAtCheck Count p units e)

-- each unit that is left has its place
pub unit_there : (x : List ℕ) (pos lim : ℕ) → pos < lim → lim ≤ length x → (unit : ℕ) × (slice_get x pos ≡ Some unit)
unit_there x pos lim lt le = (get_or x pos 0, slice_get-get_or x pos 0 (omega arith))

-- With so many units to check for, where no unit stands at the end; a unit leads to some blocks, and the end of the stream to others. The cursor, the marker, the saved
-- number and the registers stay.
module _ (p : Piece) (x : List ℕ) (start : ℕ) (supply : Supply) (units : ℕ) (Leads : (unit to : ℕ) → Type 0) (Ends : ℕ → Type 0)
    (pos mk ac : ℕ) (first : Option ℕ) (k : Bank) (cond : List ℕ) where
  abbrev pub at : (lim : ℕ) → (u kept : Option ℕ) → Machine
  at lim u kept = machine_at pos mk lim u ac kept first k cond []

  pub data ReaderRun (code : List Stmt) (lim : ℕ) (u kept : Option ℕ) (q : List Answer) : Type 0 where
    reads : (unit to : ℕ) (next : List Stmt) (lim' : ℕ) (u' kept' : Option ℕ) (q' : List Answer) (buffer : Buffer) (steps : ℕ)
        → slice_get x pos ≡ Some unit → pos < lim' → (supply.eof ≡ None → pos + units ≤ lim') → Leads unit to → slice_get (code_of p.blocks) to ≡ Some next
        → Buffered (length x) start (stores_states p) lim' q' buffer → Refilled lim q lim' q'
        → LeadsIn p x start steps code (at lim u kept) q next (at lim' u' kept') q'
        → steps + lengths_of passing (code_of p.blocks) ≤ statement_count p.blocks → ReaderRun code lim u kept q
    ended : (to : ℕ) (next : List Stmt) (lim' : ℕ) (u' kept' : Option ℕ) (q' : List Answer) → pos ≡ length x → Ends to
        → slice_get (code_of p.blocks) to ≡ Some next
        → LeadsIn p x start (statement_count p.blocks) code (at lim u kept) q next (at lim' u' kept') q' → ReaderRun code lim u kept q
    again : (lim' : ℕ) (u' kept' : Option ℕ) (q' : List Answer) (buffer : Buffer) → lim < lim' → length q' < length q
        → Buffered (length x) start (stores_states p) lim' q' buffer → Refilled lim q lim' q'
        → LeadsIn p x start (statement_count p.blocks) code (at lim u kept) q code (at lim' u' kept') q' → ReaderRun code lim u kept q
    stops : (e : Ended) → EndsBefore p supply (length x) e → EndsIn p x start (4 * statement_count p.blocks) code (at lim u kept) q e
        → ReaderRun code lim u kept q
