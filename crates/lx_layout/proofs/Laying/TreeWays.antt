-- Trees of blocks, written one test after another.
use Rattle.std.specs.Prelude.{◌≡◌, ℕ, suc, ◌+◌, List, [], ◌∷◌, ◌++◌, Option, refl}
use Rattle.std.proofs.Common.{sym, ap, ap₂, ◌∙◌, arith, append_assoc}
use Rattle.lx_ccode.specs.declared.piece.CodeBlock.{CodeBlock}
use Rattle.lx_ccode.specs.declared.piece.Stmt.{Stmt}
use Rattle.lx_ccode.specs.declared.piece.Stmt.TheVariants.{IfUnit}
use Rattle.lx_layout.specs.Plans.{unlabelled}
use Rattle.lx_layout.specs.SuppliedLayout.{with_blocks}
use Rattle.lx_dispatch.specs.TestTrees.{TestTree, at_most, fork, leaf, switch, test}
use Rattle.lx_layout.specs.TreeCodes.{inner_blocks, inner_size, tree_code}
use Rattle.lx_layout.proofs.BlockLayouts.BlockLoops.{unlabelled-append}

module _ (block : Option ℕ → ℕ) where
  pub inner_size-ways : (tree : TestTree (Option ℕ)) → inner_size (with_blocks block tree) ≡ inner_size tree
  inner_size-ways (leaf class) = refl
  inner_size-ways (test question class high) = inner_size-ways high
  inner_size-ways (fork question low high) = ap₂ (λ a b. suc a + b) (inner_size-ways low) (inner_size-ways high)
  inner_size-ways (switch cases last) = refl

  module _ (next behind : ℕ) (low high : TestTree (Option ℕ)) (is : behind ≡ (1 + next) + inner_size low) where
    behind_is : behind ≡ suc next + inner_size (with_blocks block low)
    behind_is = is ∙ ap₂ (λ n k. n + k) (omega arith) (sym (inner_size-ways low))

    pub tests-more : (greatest : ℕ) (front pushed : List Stmt) → pushed ≡ front ++ IfUnit greatest next ∷ []
        → pushed ++ tree_code behind (with_blocks block high) ≡ front ++ tree_code next (with_blocks block (fork (at_most greatest) low high))
    tests-more greatest front pushed put =
        ap₂ (λ l n. l ++ tree_code n (with_blocks block high)) put behind_is
        ∙ append_assoc front (IfUnit greatest next ∷ []) (tree_code (suc next + inner_size (with_blocks block low)) (with_blocks block high))

    pub lower-more : (greatest inside : ℕ) (front put lower : List CodeBlock) (code : List Stmt) → inside ≡ 1 + next
        → code ≡ tree_code inside (with_blocks block low) → put ≡ front ++ unlabelled (code ∷ [])
        → lower ≡ put ++ unlabelled (inner_blocks inside (with_blocks block low))
        → lower ++ unlabelled (inner_blocks behind (with_blocks block high))
        ≡ front ++ unlabelled (inner_blocks next (with_blocks block (fork (at_most greatest) low high)))
    lower-more greatest inside front put lower code inside_is code_is put_is lower_is =
        let below : TestTree ℕ = with_blocks block low in
        let above : TestTree ℕ = with_blocks block high in
        let root : List (List Stmt) = tree_code (suc next) below ∷ [] in
        let inner : List (List Stmt) = inner_blocks (suc next) below in
        let others : List (List Stmt) = inner_blocks (suc next + inner_size below) above in
        let at : inside ≡ suc next = omega (arith, inside_is) in
        let put_at = put_is ∙ ap (λ (c : List Stmt). front ++ unlabelled (c ∷ [])) (code_is ∙ ap (λ n. tree_code n below) at) in
        let lower_at = lower_is ∙ ap₂ (λ l n. l ++ unlabelled (inner_blocks n below)) put_at at in
        ap₂ (λ l n. l ++ unlabelled (inner_blocks n above)) lower_at behind_is
        ∙ append_assoc (front ++ unlabelled root) (unlabelled inner) (unlabelled others)
        ∙ append_assoc front (unlabelled root) (unlabelled inner ++ unlabelled others)
        ∙ ap (λ l. front ++ (unlabelled root ++ l)) (sym (unlabelled-append inner others))
