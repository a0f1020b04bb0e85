-- The code of trees of tests, and the blocks in which it stands.
use Rattle.std.specs.Prelude.{ℕ, suc, ◌+◌, List, [], ◌∷◌, ◌++◌}
use Rattle.lx_ccode.specs.declared.piece.Stmt.{Stmt}
use Rattle.lx_ccode.specs.declared.piece.Stmt.TheVariants.{Goto, IfIs, IfSet, IfUnit, Switch}
use Rattle.lx_ccode.specs.declared.piece.SwitchCase.{SwitchCase}
use Rattle.lx_dispatch.specs.TestTrees.{Question, TestTree, among, at_most, fork, is, leaf, switch, test}

-- the statement that asks it, and jumps to a block where the answer is yes
abbrev pub asks : Question → (block : ℕ) → Stmt
asks (at_most greatest) block = IfUnit greatest block
asks (is one) block = IfIs one block
asks (among set) block = IfSet set block

-- how many blocks a tree needs for its lower tests
abbrev pub inner_size : {A : Type 0} → TestTree A → ℕ
inner_size (leaf class) = 0
inner_size (test question class high) = inner_size high
inner_size (fork question low high) = suc (inner_size low) + inner_size high
inner_size (switch cases last) = 0

-- the cases of a statement
abbrev pub switch_cases : List (List ℕ × ℕ) → List SwitchCase
switch_cases [] = []
switch_cases (case ∷ cases) = record { units = case.0; block = case.1 } ∷ switch_cases cases

-- the code of a tree of blocks, if those for its lower tests begin at `next`
abbrev pub tree_code : (next : ℕ) → TestTree ℕ → List Stmt
tree_code next (leaf block) = Goto block ∷ []
tree_code next (test question block high) = asks question block ∷ tree_code next high
tree_code next (fork question low high) = asks question next ∷ tree_code (suc next + inner_size low) high
tree_code next (switch cases last) = Switch (switch_cases cases) last ∷ []

-- the blocks for its lower tests: behind the block of a low side come those for the lower tests in it, and then those of the high side
abbrev pub inner_blocks : (next : ℕ) → TestTree ℕ → List (List Stmt)
inner_blocks next (leaf block) = []
inner_blocks next (test question block high) = inner_blocks next high
inner_blocks next (fork question low high) =
    tree_code (suc next) low ∷ (inner_blocks (suc next) low ++ inner_blocks (suc next + inner_size low) high)
inner_blocks next (switch cases last) = []
