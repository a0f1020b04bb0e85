-- Where a match starts, and where its steps go.
use Rattle.std.specs.Prelude.{◌≡◌, ℕ, ◌+◌, List, drop, Option, Some, None, Ok, Err, Result}
use Rattle.lx_ccode.specs.declared.piece.Stmt.{Stmt}
use Rattle.lx_ccode.specs.declared.piece.CodeBlock.{CodeBlock}
use Rattle.lx_ccode.specs.declared.piece.Piece.{Piece}
use Rattle.lx_ccode.specs.Machine.{Answer, Machine, goes_on, ends, code_at}
use Rattle.lx_ccode.specs.Runs.{entry_block}
use Rattle.lx_step.specs.declared.answers.Outcome.{Outcome}
use Rattle.lx_step.specs.declared.matches.Position.{Position}
use Rattle.lx_step.specs.declared.scanner.Going.{Going}
use Rattle.lx_step.specs.declared.scanner.Scanner.{Scanner}
use Rattle.lx_step.specs.Assigned.{place_after}
use Rattle.lx_step.specs.Conds.{cond_name}
use Rattle.lx_step.specs.Places.{place_of}
use Rattle.lx_step.specs.Steps.{next_of, outcome_of, Leads, IsAnswer}

-- the name of the scanner's condition
abbrev pub condition_of : Piece → Scanner → List ℕ
condition_of piece scanner = cond_name piece.conds scanner.cond

-- the rest of the block
abbrev pub code_of : Position → List Stmt
code_of at = drop at.stmt at.code.now

-- the condition's scanner starts there, where there is one
abbrev pub StartsIn : Piece → (cond : List ℕ) → Option Position → Type 0
StartsIn piece cond None = code_at piece.blocks (entry_block piece.conds cond) ≡ None
StartsIn piece cond (Some at) =
    (entry_block piece.conds cond ≡ Some at.block) × (code_at piece.blocks (Some at.block) ≡ Some at.code.now) × (at.stmt ≡ 0)

-- the start of a block, where there is one
abbrev pub IsStartOf : List CodeBlock → (block : ℕ) → Option Position → Type 0
IsStartOf blocks block None = code_at blocks (Some block) ≡ None
IsStartOf blocks block (Some at) = (at.block ≡ block) × (code_at blocks (Some block) ≡ Some at.code.now) × (at.stmt ≡ 0)

-- where a step goes on, or how it ends the match
abbrev pub GoesTo : List CodeBlock → Position → Going → Result Position Outcome → Type 0
GoesTo blocks at going (Ok next) =
    ((machine : Machine) (answers : List Answer) → next_of blocks (drop (at.stmt + 1) at.code.now) going machine answers ≡ goes_on (code_of next) machine answers)
    × (code_at blocks (Some at.block) ≡ Some at.code.now → code_at blocks (Some next.block) ≡ Some next.code.now)
    × ((block : Option ℕ) → Leads going block → place_of next ≡ place_after (place_of at) block)
GoesTo blocks at going (Err outcome) =
    ((machine : Machine) (answers : List Answer) → next_of blocks (drop (at.stmt + 1) at.code.now) going machine answers ≡ ends (outcome_of outcome) machine)
    × ((block : Option ℕ) → Leads going block → IsAnswer outcome)
