-- The greatest number in a list of statements, block by block.
use Rattle.std.proofs.Common.{◌≡◌, ◌∙◌, sym, ap, ℕ, suc, ◌+◌, ◌<◌, max, length, drop, get_or, List, [], ◌∷◌, ◌++◌, arith}
use Rattle.std.proofs.Math.Seq.{drop-cons}
use Rattle.lx_ccode.specs.declared.piece.Stmt.{Stmt}
use Rattle.lx_ccode.specs.declared.piece.CodeBlock.{CodeBlock}
use Rattle.lx_ccode.specs.Counts.{greatest_of}
use Rattle.lx_ccode.specs.Statements.{all_statements}

pub greatest_of-append : (number : Stmt → ℕ) (statements others : List Stmt) → greatest_of number (statements ++ others) ≡ max (greatest_of number statements) (greatest_of number others)
greatest_of-append number [] others = omega arith
greatest_of-append number (statement ∷ statements) others =
    let rest = greatest_of-append number statements others in
    omega (arith, rest)

-- one block more
pub greatest-more : (number : Stmt → ℕ) (blocks : List CodeBlock) (place : ℕ) (block : CodeBlock) (before own more total : ℕ) → place < length blocks
    → block ≡ get_or blocks place block → own ≡ greatest_of number block.stmts → more ≡ max own before
    → max before (greatest_of number (all_statements (drop place blocks))) ≡ total → max more (greatest_of number (all_statements (drop (place + 1) blocks))) ≡ total
greatest-more number blocks place block before own more total h is o m e =
    let rest : List CodeBlock = drop (place + 1) blocks in
    let next : suc place ≡ place + 1 = omega arith in
    let split : drop place blocks ≡ block ∷ rest = drop-cons blocks place block h ∙ ap (λ n. get_or blocks place block ∷ drop n blocks) next ∙ ap (λ one. one ∷ rest) (sym is) in
    let parts : greatest_of number (all_statements (drop place blocks)) ≡ max (greatest_of number block.stmts) (greatest_of number (all_statements rest)) =
    ap (λ all. greatest_of number (all_statements all)) split ∙ greatest_of-append number block.stmts (all_statements rest) in
    omega (arith, o, m, e, parts)
