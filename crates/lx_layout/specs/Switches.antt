-- The cases of the switch over the conditions of a piece.
use Rattle.std.specs.Prelude.{ℕ, suc, List, [], ◌∷◌, Option, Some, None}
use Rattle.lx_ccode.specs.declared.piece.CodeBlock.{CodeBlock}
use Rattle.lx_ccode.specs.declared.piece.CondCase.{CondCase}

abbrev pub onto_conds : Option (List ℕ) → (block : ℕ) → List CondCase → List CondCase
onto_conds None block cases = cases
onto_conds (Some cond) block cases = record { cond = cond; block = block } ∷ cases

-- the blocks from a number on that begin the scanner of a condition, each with its condition
abbrev pub cond_cases : (block : ℕ) → List CodeBlock → List CondCase
cond_cases block [] = []
cond_cases block (code ∷ blocks) = onto_conds code.cond block (cond_cases (suc block) blocks)
