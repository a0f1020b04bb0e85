-- The scanners of a piece: which blocks are those of the scanner that begins at a block, and which registers their statements name.
use Rattle.std.specs.Prelude.{◌≡◌, ℕ, ◌≤◌, true, false, List, [], ◌∷◌, Option, Some, None, Contains}
use Rattle.std.specs.List.{AllByRecursion}
use Rattle.lx_ccode.specs.declared.piece.Stmt.{Stmt}
use Rattle.lx_ccode.specs.declared.piece.Stmt.TheVariants.{Set, Unset, Copy, MSet, MUnset, MCopy, Need, State, Tag, End, Back}
use Rattle.lx_ccode.specs.declared.piece.CodeBlock.{CodeBlock}
use Rattle.lx_ccode.specs.Machine.{code_at}
use Rattle.lx_ccode.specs.Statements.{all_statements, targets}
use Rattle.lx_ccode.specs.States.{state_block}

-- a block, where there is one
abbrev pub block_list : Option ℕ → List ℕ
block_list None = []
block_list (Some block) = block ∷ []

-- the blocks to which a statement may lead: those to which it may jump, or the one where a scanner comes back that was left in the state
-- that it stores
abbrev pub leads_to : List CodeBlock → Stmt → List ℕ
leads_to blocks (State state) = block_list (state_block blocks state)
leads_to blocks statement = targets statement

-- the statement stands in the block with this number
abbrev pub StandsIn : List CodeBlock → (block : ℕ) → Stmt → Type 0
StandsIn blocks block statement = (code : List Stmt) × (code_at blocks (Some block) ≡ Some code) × Contains code statement

module _ (blocks : List CodeBlock) (entry : ℕ) where
  -- a block is of the scanner that begins at the entry: it is the entry, or a statement of such a block leads to it
  pub data IsOfScanner : (block : ℕ) → Type 0 where
    begins : IsOfScanner entry
    led : {block next : ℕ} (statement : Stmt) → IsOfScanner block → StandsIn blocks block statement → Contains (leads_to blocks statement) next
        → IsOfScanner next

  -- the statement stands in a block of the scanner
  abbrev pub IsMadeBy : Stmt → Type 0
  IsMadeBy statement = (block : ℕ) × IsOfScanner block × StandsIn blocks block statement

-- the registers that a statement names
abbrev pub registers_named : Stmt → List ℕ
registers_named (Set register) = register ∷ []
registers_named (Unset register) = register ∷ []
registers_named (Copy register source) = register ∷ source ∷ []
registers_named (Tag tag false register) = register ∷ []
registers_named (End place register) = register ∷ []
registers_named (Back register) = register ∷ []
registers_named _ = []

-- the histories that it names
abbrev pub histories_named : Stmt → List ℕ
histories_named (MSet history) = history ∷ []
histories_named (MUnset history) = history ∷ []
histories_named (MCopy history source) = history ∷ source ∷ []
histories_named (Tag tag true history) = history ∷ []
histories_named _ = []

-- for how many units it checks
abbrev pub units_checked : Stmt → ℕ
units_checked (Need units) = units
units_checked _ = 0

-- no check of the blocks is for more units than these
abbrev pub CheckAtMost : (units : ℕ) → List CodeBlock → Type 0
CheckAtMost units blocks = AllByRecursion (λ statement. units_checked statement ≤ units) (all_statements blocks)
