-- In which blocks of a scanner rules end.
use Rattle.std.specs.Prelude.{◌≡◌, ℕ, Bool, true, false, List, Option, Some, None}
use Rattle.lx_auto.specs.declared.automaton.Held.{Held}
use Rattle.lx_ccode.specs.Machine.{code_at}
use Rattle.lx_ccode.specs.Scanners.{IsOfScanner, StandsIn}
use Rattle.lx_ccode.specs.declared.piece.Piece.{Piece}
use Rattle.lx_ccode.specs.declared.piece.Stmt.{Stmt}
use Rattle.lx_ccode.specs.declared.piece.Stmt.TheVariants.{Back, Code, Cond, Count, End, Jump, Tag}
use Rattle.lx_layout.specs.Endings.{Ending, last_code, rule_code}

-- the rule by which the statement ends a match
abbrev pub ended_rule : Stmt → Option ℕ
ended_rule (Code rule line action) = Some rule
ended_rule (Jump cond rule) = Some rule
ended_rule _ = None

-- the statement gives a value of a rule, goes back to the tag of its trailing context, or sets its condition
abbrev pub is_given : Stmt → Bool
is_given (Tag tag list register) = true
is_given (Count groups) = true
is_given (End place register) = true
is_given (Back register) = true
is_given (Cond cond) = true
is_given _ = false

-- a match ends by the rule in the block
abbrev pub EndsIn : Piece → (block rule : ℕ) → Type 0
EndsIn piece block rule = (statement : Stmt) × StandsIn piece.blocks block statement × (ended_rule statement ≡ Some rule)

-- of the blocks of the scanner that begins at the entry
pub record EndsRules (piece : Piece) (entry : ℕ) (endings : ℕ → Ending) : Type 0 where
  -- each rule ends in at most one block
  pub once : (rule block other : ℕ) → IsOfScanner piece.blocks entry block → IsOfScanner piece.blocks entry other → EndsIn piece block rule
      → EndsIn piece other rule → block ≡ other
  -- which has what the rule gives, with its values in some registers, and its last statements
  pub own : (rule block : ℕ) → IsOfScanner piece.blocks entry block → EndsIn piece block rule
      → (values : List Held) × (code_at piece.blocks (Some block) ≡ Some (rule_code endings rule values (last_code endings rule)))
  -- and nothing is given in other blocks
  pub alone : (block : ℕ) (statement : Stmt) → IsOfScanner piece.blocks entry block → StandsIn piece.blocks block statement
      → is_given statement ≡ true → (rule : ℕ) × EndsIn piece block rule
