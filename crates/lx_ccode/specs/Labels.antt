-- The labels of a piece's blocks.
use Rattle.std.specs.Prelude.{ℕ, zero, suc, Bool, true, false, not, List, [], ◌∷◌, ◌++◌, length, codes, is_some, set, ◌||◌, ◌==◌, if◌then◌else◌}
use Rattle.std.specs.Fmt.{decimal}
use Rattle.std.specs.List.{list_any}
use Rattle.lx_base.specs.Letters.{begins_with}
use Rattle.lx_base.specs.Names.{Spellings, label_prefix}
use Rattle.lx_ccode.specs.declared.piece.Stmt.{Stmt}
use Rattle.lx_ccode.specs.declared.piece.StateCase.{StateCase}
use Rattle.lx_ccode.specs.declared.piece.Piece.{Piece}
use Rattle.lx_ccode.specs.Heads.{is_three}
use Rattle.lx_ccode.specs.States.{states_from}
use Rattle.lx_ccode.specs.Statements.{all_statements, targets}

-- how the labels of the blocks of a piece begin, `yyN_`
abbrev pub block_front : (number : ℕ) → List ℕ
block_front number = codes "yy" ++ (decimal number ++ codes "_")

-- the label of a condition begins as those of blocks do
abbrev pub is_like_block : (number : ℕ) → Spellings → (cond : List ℕ) → Bool
is_like_block number names cond = begins_with (block_front number) (label_prefix names ++ cond)

-- the statement may jump to the block
abbrev pub goes_to : (block : ℕ) → Stmt → Bool
goes_to block statement = list_any (λ target. target == block) (targets statement)

-- a scanner that stored the state goes on at the block
abbrev pub goes_on_at : (block : ℕ) → StateCase → Bool
goes_on_at block case = case.block == block

-- there are no conditions, and a switch over stored states goes to the first block: the piece's own, or one that the user has
abbrev pub starts_by_label : Piece → Bool
starts_by_label piece = if length piece.conds == 0 then not piece.declares || is_some piece.states else false

-- something goes to the block by its own label: a statement, a switch over stored states, or the start of a match
abbrev pub is_gone_to : Piece → (block : ℕ) → Bool
is_gone_to piece block =
    list_any (goes_to block) (all_statements piece.blocks)
    || (list_any (goes_on_at block) (states_from 0 piece.blocks) || (if starts_by_label piece then 0 == block else false))

-- what the test says of so many numbers, from this one on
abbrev pub answers_from : (test : ℕ → Bool) → (first count : ℕ) → List Bool
answers_from test first zero = []
answers_from test first (suc count) = test first ∷ answers_from test (suc first) count

-- for each block of a piece of format 3, whether its own label stands; in other formats each stands, and the list is empty
abbrev pub standing_labels : Piece → List Bool
standing_labels piece = if is_three piece.head then answers_from (is_gone_to piece) 0 (length piece.blocks) else []

-- the blocks to which statements may jump, in order
abbrev pub all_targets : List Stmt → List ℕ
all_targets [] = []
all_targets (statement ∷ statements) = targets statement ++ all_targets statements

-- truth values by blocks, of which those of these blocks are set
abbrev pub marked : List Bool → (blocks : List ℕ) → List Bool
marked labels [] = labels
marked labels (block ∷ blocks) = marked (set labels block true) blocks
