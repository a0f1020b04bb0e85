-- The statements of blocks, gone through block by block.
use Rattle.std.proofs.Common.{◌≡◌, ◌∙◌, sym, ap, ℕ, suc, ◌+◌, ◌<◌, List, ◌∷◌, ◌++◌, length, drop, get_or, arith}
use Rattle.std.proofs.Math.Seq.{drop-cons}
use Rattle.lx_ccode.specs.declared.piece.Stmt.{Stmt}
use Rattle.lx_ccode.specs.declared.piece.CodeBlock.{CodeBlock}
use Rattle.lx_ccode.specs.Statements.{all_statements}

-- the statements of a block, and of those behind it
pub all_statements-drop : (blocks : List CodeBlock) (place : ℕ) (block : CodeBlock) (front : List Stmt) → place < length blocks → block ≡ get_or blocks place block
    → front ≡ block.stmts → all_statements (drop place blocks) ≡ front ++ all_statements (drop (place + 1) blocks)
all_statements-drop blocks place block front below is front_is =
    let next : drop place blocks ≡ block ∷ drop (suc place) blocks = drop-cons blocks place block below ∙ ap (λ (first : CodeBlock). first ∷ drop (suc place) blocks) (sym is) in
    let after : suc place ≡ place + 1 = omega arith in
    ap all_statements next ∙ ap (λ (first : List Stmt). first ++ all_statements (drop (suc place) blocks)) (sym front_is)
    ∙ ap (λ place. front ++ all_statements (drop place blocks)) after

-- what is gathered from the statements of a block, and then from those behind it, is gathered from all
pub gathered-more : {A : Type 0} (gather : List Stmt → A → A) → ((front back : List Stmt) (a : A) → gather (front ++ back) a ≡ gather back (gather front a))
    → (blocks : List CodeBlock) (place : ℕ) (block : CodeBlock) (front : List Stmt) (before after all : A) → place < length blocks → block ≡ get_or blocks place block → front ≡ block.stmts
    → after ≡ gather front before → gather (all_statements (drop place blocks)) before ≡ all → gather (all_statements (drop (place + 1) blocks)) after ≡ all
gathered-more gather splits blocks place block front before after all below is front_is after_is so_far =
    ap (gather (all_statements (drop (place + 1) blocks))) after_is ∙ sym (splits front (all_statements (drop (place + 1) blocks)) before)
    ∙ ap (λ statements. gather statements before) (sym (all_statements-drop blocks place block front below is front_is)) ∙ so_far
