-- The code of trees of tests, and the blocks in which it stands.
use Rattle.std.specs.Prelude.{◌≡◌, ◌≢◌, ℕ, suc, ◌+◌, List, ◌∷◌, length, Option, Bool, true, false, refl, if◌then◌else◌}
use Rattle.std.proofs.Common.{arith, length-append}
use Rattle.std.specs.List.{AllByRecursion}
use Rattle.lx_ccode.specs.Statements.{code_length}
use Rattle.lx_ccode.specs.declared.piece.Stmt.{Stmt}
use Rattle.lx_ccode.specs.declared.piece.Stmt.TheVariants.{Peek}
use Rattle.lx_layout.specs.Layout.{numbered, class_block}
use Rattle.lx_dispatch.specs.TestTrees.{TestTree, fork, holds, leaf, picked, switch, test}
use Rattle.lx_layout.specs.TreeCodes.{inner_blocks, inner_size, tree_code}
use Rattle.lx_layout.proofs.BlockLayouts.Questions.{each_question}
use Rattle.lx_dispatch.proofs.Cases.{case_way-by}
use Rattle.lx_layout.proofs.Validity.EachElement.{each-append}

-- how many statements a tree has
abbrev pub tree_length : (next : ℕ) → TestTree ℕ → ℕ
tree_length next tree = length (tree_code next tree) + code_length (inner_blocks next tree)

-- ---- how many blocks

pub length-inner_blocks : (next : ℕ) (tree : TestTree ℕ) → length (inner_blocks next tree) ≡ inner_size tree
length-inner_blocks next (leaf block) = refl
length-inner_blocks next (switch cases last) = refl
length-inner_blocks next (test question block high) = length-inner_blocks next high
length-inner_blocks next (fork question low high) =
    let a = length-inner_blocks (suc next) low in
    let b = length-inner_blocks (suc next + inner_size low) high in
    let c = length-append (inner_blocks (suc next) low) (inner_blocks (suc next + inner_size low) high) in
    omega (arith, a, b, c)

-- ---- numbers of blocks in place of classes

module _ (first end : ℕ) (sets : (set unit : ℕ) → Bool) where
  pub picked-numbered : (tree : TestTree (Option ℕ)) (unit : ℕ)
      → picked sets (numbered first end tree) unit ≡ class_block first end (picked sets tree unit)
  picked-numbered (leaf class) unit = refl
  picked-numbered (test question class high) unit = by (holds sets question unit) (picked-numbered high unit)
    where
      by : (t : Bool) → picked sets (numbered first end high) unit ≡ class_block first end (picked sets high unit)
          → (if t then class_block first end class else picked sets (numbered first end high) unit) ≡ class_block first end
          (if t then class else picked sets high unit)
      by true again = refl
      by false again = again
  picked-numbered (fork question low high) unit = by (holds sets question unit) (picked-numbered low unit) (picked-numbered high unit)
    where
      by : (t : Bool) → picked sets (numbered first end low) unit ≡ class_block first end (picked sets low unit)
          → picked sets (numbered first end high) unit ≡ class_block first end (picked sets high unit)
          → (if t then picked sets (numbered first end low) unit else picked sets (numbered first end high) unit) ≡ class_block first end
          (if t then picked sets low unit else picked sets high unit)
      by true again_low again_high = again_low
      by false again_low again_high = again_high
  picked-numbered (switch cases last) unit = case_way-by (class_block first end) cases last unit

-- ---- what holds of the code of a tree, if it holds of a jump, and stays so with a test in front, and with the unit read before

-- no block for lower tests reads the unit
tree_code-read : (next : ℕ) (tree : TestTree ℕ) (code : List Stmt) → tree_code next tree ≢ Peek ∷ code
tree_code-read next (leaf block) code e = cc
tree_code-read next (test question block high) code e =
    each_question (λ statement. statement ∷ tree_code next high ≢ Peek ∷ code) (λ greatest block e. cc) (λ unit block e. cc) (λ set block e. cc) question block e
tree_code-read next (fork question low high) code e =
    each_question (λ statement. statement ∷ tree_code (suc next + inner_size low) high ≢ Peek ∷ code) (λ greatest block e. cc) (λ unit block e. cc)
    (λ set block e. cc) question next e
tree_code-read next (switch cases last) code e = cc

pub inner_blocks-read : (next : ℕ) (tree : TestTree ℕ) (code : List Stmt) → AllByRecursion (λ other. other ≢ Peek ∷ code) (inner_blocks next tree)
inner_blocks-read next (leaf block) code = tt
inner_blocks-read next (test question block high) code = inner_blocks-read next high code
inner_blocks-read next (fork question low high) code = (
  tree_code-read (suc next) low code,
  each-append (λ other. other ≢ Peek ∷ code) (inner_blocks (suc next) low) (inner_blocks (suc next + inner_size low) high)
      (inner_blocks-read (suc next) low code) (inner_blocks-read (suc next + inner_size low) high code),
)
inner_blocks-read next (switch cases last) code = tt
