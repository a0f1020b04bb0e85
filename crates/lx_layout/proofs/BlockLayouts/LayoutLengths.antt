-- How many blocks a layout has, and its parts.
use Rattle.std.specs.Prelude.{◌≡◌, ℕ, zero, suc, List, [], ◌∷◌, length, Option, Some, None, refl}
use Rattle.std.proofs.Common.{ap}
use Rattle.lx_auto.specs.declared.automaton.Accept.{Accept}
use Rattle.lx_auto.specs.declared.automaton.Auto.{Auto}
use Rattle.lx_auto.specs.declared.ops.Op.{Op}
use Rattle.lx_layout.specs.Endings.{Ending}
use Rattle.lx_layout.specs.Layout.{end_blocks, end_size, ending_blocks, lone_blocks, lone_size, own_blocks, own_size, restore_blocks}
use Rattle.lx_dispatch.specs.TestTrees.{TestTree}

module _ (trees : ℕ → TestTree (Option ℕ)) (auto : Auto) (rules : ℕ → ℕ) (fall : ℕ) where
  length-own_blocks : (block : ℕ) (ops : List Op) → length (own_blocks auto rules fall block ops) ≡ own_size ops
  length-own_blocks block [] = refl
  length-own_blocks block (op ∷ ops) = refl

  pub length-end_blocks : (o : Option Accept) → length (end_blocks auto rules fall o) ≡ end_size o
  length-end_blocks None = refl
  length-end_blocks (Some accept) = length-own_blocks (rules accept.rule) accept.ops

  pub length-lone_blocks : (number : ℕ) (o : Option Accept) → length (lone_blocks auto rules fall number o) ≡ lone_size number o
  length-lone_blocks zero o = refl
  length-lone_blocks (suc number) o = length-end_blocks o

pub length-restore_blocks : (rules : ℕ → ℕ) (saved_accepts : List Accept) → length (restore_blocks rules saved_accepts) ≡ length saved_accepts
length-restore_blocks rules [] = refl
length-restore_blocks rules (accept ∷ saved_accepts) = ap suc (length-restore_blocks rules saved_accepts)

pub length-ending_blocks : (endings : ℕ → Ending) (accepts : List Accept) → length (ending_blocks endings accepts) ≡ length accepts
length-ending_blocks endings [] = refl
length-ending_blocks endings (accept ∷ accepts) = ap suc (length-ending_blocks endings accepts)
