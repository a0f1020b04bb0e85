-- What is read from the declarations on.
use Rattle.std.specs.Prelude.{◌≡◌, ◌<◌, ◌-◌, ℕ, Bool, List, length, map, if◌then◌else◌}
use Rattle.std.specs.List.{AllByRecursion}
use Rattle.lx_ccode.specs.declared.piece.CodeBlock.{CodeBlock}
use Rattle.lx_ccode.specs.declared.piece.CondCase.{CondCase}
use Rattle.lx_ccode.specs.declared.piece.Stmt.{Stmt}
use Rattle.lx_ccode.specs.Reading.{Manner, behind_brace, blocks_at, conds_from, line_at, piece_at, sections_of}
use Rattle.lx_ccode.specs.Reading as text
use Rattle.lx_ccode.specs.Statements.{is_ending}
use Rattle.lx_creader.specs.declared.lines.Scope.{Scope}
use Rattle.lx_creader.specs.declared.openings.Sections.{Sections}
use Rattle.lx_creader.specs.declared.reading.BlockPart.{BlockPart}
use Rattle.lx_creader.specs.declared.reading.PieceRead.{PieceRead}
use Rattle.lx_creader.specs.Fitted.{fitted, fitted_block, fitted_cond, fitted_line, fitted_states}

-- the fuel behind a statement; none behind one that ends a block
abbrev pub fuel_behind : (fuel : ℕ) → Stmt → ℕ
fuel_behind fuel statement = if is_ending statement then 0 else fuel - 1

-- what the blocks depend on, by a scope
abbrev pub manner_of : Scope → Manner
manner_of scope = record { names = scope.names.now; custom = scope.custom; three = scope.three; placed = scope.placed; front = scope.front.now }

-- they are what is read here
pub record AreSections (sections : text.Sections) (read : Sections) : Type 0 where
  pub declares_is : read.declares ≡ sections.0
  pub states_are : read.states ≡ fitted_states sections.1
  pub conds_are : read.conds ≡ map fitted_cond sections.2
  pub rest_is : read.rest.now ≡ sections.3

-- each of the blocks has a statement
abbrev pub AreFilled : List CodeBlock → Type 0
AreFilled blocks = AllByRecursion (λ block. 0 < length block.stmts) blocks

-- the declarations and the switches
abbrev pub sections_here : (fuel : ℕ) → (kept : Bool) → Manner → List ℕ → text.Sections
sections_here fuel kept manner bytes = sections_of manner.three fuel kept manner.names bytes

-- the blocks behind the switches, whether one names the context marker as register 1, and what comes behind them
abbrev pub blocks_behind : (fuel : ℕ) → (kept : Bool) → Manner → List ℕ → List CodeBlock × Bool × List ℕ
blocks_behind fuel kept manner bytes = blocks_at fuel fuel manner (sections_here fuel kept manner bytes).3

-- the cases of the switch over conditions: in format 3 those of the labels
abbrev pub conds_here : (fuel : ℕ) → (kept : Bool) → Manner → List ℕ → List CondCase
conds_here fuel kept manner bytes =
    if manner.three then conds_from 0 (blocks_behind fuel kept manner bytes).0 else (sections_here fuel kept manner bytes).2

-- it is what is read here
pub record IsBlockPart (fuel : ℕ) (kept : Bool) (manner : Manner) (bytes : List ℕ) (part : BlockPart) : Type 0 where
  pub declares_is : part.declares ≡ (sections_here fuel kept manner bytes).0
  pub states_are : part.states ≡ fitted_states (sections_here fuel kept manner bytes).1
  pub conds_are : part.conds ≡ map fitted_cond (conds_here fuel kept manner bytes)
  pub blocks_are : part.blocks ≡ map fitted_block (blocks_behind fuel kept manner bytes).0
  pub ctx_is : part.ctx ≡ (blocks_behind fuel kept manner bytes).1
  pub line_is : part.line ≡ fitted_line (line_at (behind_brace (blocks_behind fuel kept manner bytes).2)).0

-- it is the piece that is read at the front of the bytes, and its place
pub record IsRead (bytes : List ℕ) (read : PieceRead) : Type 0 where
  pub piece_is : read.piece ≡ fitted (piece_at bytes).0
  pub place_is : read.place ≡ fitted_line (piece_at bytes).1
