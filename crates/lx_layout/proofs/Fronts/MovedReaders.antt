-- The blocks of what reads a unit, and those for the end of the input, move as those that they lead to.
use Rattle.std.specs.Prelude.{◌≡◌, ℕ, zero, suc, ◌+◌, Bool, true, false, List, [], ◌∷◌, map, Option, Some, None, refl}
use Rattle.std.proofs.Common.{ap, ap₂, arith}
use Rattle.lx_ccode.specs.declared.piece.Stmt.TheVariants.{Goto, IfIs, IfSet, IfUnit, Peek, Switch}
use Rattle.lx_layout.specs.Copies.{StoredBehind, moved, moved_case, moved_codes}
use Rattle.lx_layout.specs.SuppliedLayout.{blocks_at_end, check_blocks, read_blocks, reader_blocks, refill_blocks, with_blocks}
use Rattle.lx_layout.specs.Supplies.{Reader}
use Rattle.lx_dispatch.specs.TestTrees as trees
use Rattle.lx_dispatch.specs.TestTrees.{Question, TestTree, among, at_most, cases_by, fork, leaf, switch, test}
use Rattle.lx_layout.specs.TreeCodes.{asks, inner_blocks, inner_size, switch_cases, tree_code}
use Rattle.lx_layout.proofs.Fronts.MovedCodes.{append-moved, back_code-moved, end_test-moved, need_code-moved, try_code-moved}
use Rattle.lx_layout.proofs.SuppliedLayouts.Readers.{inner_size-with_blocks}

-- ---- trees

-- the blocks of the classes are moved
module _ (by stored : ℕ) (block block_on : Option ℕ → ℕ) (blocks_move : (class : Option ℕ) → block_on class ≡ block class + by) where
  high-moved : (next next_on : ℕ) → next_on ≡ next + by → (low : TestTree (Option ℕ))
      → suc next_on + inner_size (with_blocks block_on low) ≡ suc next + inner_size (with_blocks block low) + by
  high-moved next next_on e low =
      let a = inner_size-with_blocks block low in
      let b = inner_size-with_blocks block_on low in
      omega (arith, e, a, b)

  asks-moved : (question : Question) (at at_on : ℕ) → at_on ≡ at + by → asks question at_on ≡ moved by stored (asks question at)
  asks-moved (at_most greatest) at at_on e = ap (λ n. IfUnit greatest n) e
  asks-moved (trees.is unit) at at_on e = ap (λ n. IfIs unit n) e
  asks-moved (among set) at at_on e = ap (λ n. IfSet set n) e

  cases-moved : (cases : List (List ℕ × Option ℕ))
      → switch_cases (cases_by block_on cases) ≡ map (moved_case by) (switch_cases (cases_by block cases))
  cases-moved [] = refl
  cases-moved (case ∷ cases) =
      ap₂ (λ n l. record { units = case.0; block = n } ∷ l) (blocks_move case.1) (cases-moved cases)

  tree_code-moved : (next next_on : ℕ) → next_on ≡ next + by → (tree : TestTree (Option ℕ))
      → tree_code next_on (with_blocks block_on tree) ≡ map (moved by stored) (tree_code next (with_blocks block tree))
  tree_code-moved next next_on e (leaf class) = ap (λ n. Goto n ∷ []) (blocks_move class)
  tree_code-moved next next_on e (switch cases last) =
      ap₂ (λ c l. Switch c l ∷ []) (cases-moved cases) (blocks_move last)
  tree_code-moved next next_on e (test question class high) =
      ap₂ (λ s code. s ∷ code) (asks-moved question (block class) (block_on class) (blocks_move class)) (tree_code-moved next next_on e high)
  tree_code-moved next next_on e (fork question low high) =
      ap₂ (λ s code. s ∷ code) (asks-moved question next next_on e)
      (tree_code-moved (suc next + inner_size (with_blocks block low)) (suc next_on + inner_size (with_blocks block_on low))
      (high-moved next next_on e low) high)

  inner_blocks-moved : (next next_on : ℕ) → next_on ≡ next + by → (tree : TestTree (Option ℕ))
      → inner_blocks next_on (with_blocks block_on tree) ≡ moved_codes by stored (inner_blocks next (with_blocks block tree))
  inner_blocks-moved next next_on e (leaf class) = refl
  inner_blocks-moved next next_on e (switch cases last) = refl
  inner_blocks-moved next next_on e (test question class high) = inner_blocks-moved next next_on e high
  inner_blocks-moved next next_on e (fork question low high) =
      let s : suc next_on ≡ suc next + by = omega (arith, e) in
      ap₂ (λ a b. a ∷ b) (tree_code-moved (suc next) (suc next_on) s low)
      (append-moved by stored (inner_blocks (suc next) (with_blocks block low))
      (inner_blocks (suc next + inner_size (with_blocks block low)) (with_blocks block high))
      (inner_blocks (suc next_on) (with_blocks block_on low))
      (inner_blocks (suc next_on + inner_size (with_blocks block_on low)) (with_blocks block_on high))
      (inner_blocks-moved (suc next) (suc next_on) s low)
      (inner_blocks-moved (suc next + inner_size (with_blocks block low)) (suc next_on + inner_size (with_blocks block_on low))
      (high-moved next next_on e low) high))

  -- ---- what reads

  -- what reads is stored by greater numbers
  module _ (numbers numbers_on : Option (Reader → ℕ)) (numbers_move : StoredBehind stored numbers_on numbers) (reader : Reader) where
    check_blocks-moved : (units at at_on : ℕ) → at_on ≡ at + by
        → check_blocks numbers_on reader units at_on ≡ moved_codes by stored (check_blocks numbers reader units at)
    check_blocks-moved zero at at_on e = refl
    check_blocks-moved (suc units) at at_on e =
        ap (λ code. code ∷ [])
        (need_code-moved by stored numbers numbers_on numbers_move reader (suc units) (Goto at ∷ []) (Goto at_on ∷ [])
        (ap (λ n. Goto n ∷ []) e))

    read_blocks-moved : (units from from_on : ℕ) → from_on ≡ from + by → (tree : TestTree (Option ℕ))
        → read_blocks numbers_on reader units from_on (with_blocks block_on tree)
        ≡ moved_codes by stored (read_blocks numbers reader units from (with_blocks block tree))
    read_blocks-moved units from from_on e tree =
        let s : suc from_on ≡ suc from + by = omega (arith, e) in
        ap₂ (λ a b. a ∷ b)
        (need_code-moved by stored numbers numbers_on numbers_move reader units (Peek ∷ tree_code (suc from) (with_blocks block tree))
        (Peek ∷ tree_code (suc from_on) (with_blocks block_on tree))
        (ap (λ code. Peek ∷ code) (tree_code-moved (suc from) (suc from_on) s tree)))
        (inner_blocks-moved (suc from) (suc from_on) s tree)

    pub reader_blocks-moved : (eof : Option ℕ) (units from from_on : ℕ) → from_on ≡ from + by → (tree : TestTree (Option ℕ))
        → reader_blocks numbers_on reader eof units from_on (with_blocks block_on tree)
        ≡ moved_codes by stored (reader_blocks numbers reader eof units from (with_blocks block tree))
    reader_blocks-moved None units from from_on e (leaf class) = check_blocks-moved units (block class) (block_on class) (blocks_move class)
    reader_blocks-moved None units from from_on e (test question class high) =
        read_blocks-moved units from from_on e (test question class high)
    reader_blocks-moved None units from from_on e (fork question low high) = read_blocks-moved units from from_on e (fork question low high)
    reader_blocks-moved None units from from_on e (switch cases last) = read_blocks-moved units from from_on e (switch cases last)
    reader_blocks-moved (Some eof) units from from_on e tree = read_blocks-moved 0 from from_on e tree

-- ---- the end of the input

module _ (by stored : ℕ) (reader : Reader) (block block_on here here_on : ℕ) (e : block_on ≡ block + by) (f : here_on ≡ here + by) where
  refill_blocks-moved : (given given_on numbers numbers_on : Option (Reader → ℕ)) → StoredBehind stored numbers_on numbers → (tries : Bool)
      (to to_on end end_on : ℕ)
      → to_on ≡ to + by → end_on ≡ end + by
      → refill_blocks given_on reader tries numbers_on block_on here_on to_on end_on
      ≡ moved_codes by stored (refill_blocks given reader tries numbers block here to end)
  refill_blocks-moved given given_on numbers numbers_on behind false to to_on end end_on g h =
      ap (λ code. code ∷ []) (end_test-moved by stored end end_on to to_on h g)
  refill_blocks-moved given given_on None None behind true to to_on end end_on g h =
      let s : suc here_on ≡ suc here + by = omega (arith, f) in
      ap₂ (λ a b. a ∷ b ∷ []) (end_test-moved by stored (suc here) (suc here_on) to to_on s g)
      (try_code-moved by stored None None behind reader block block_on end end_on e h)
  refill_blocks-moved given given_on None (Some number_on) behind true to to_on end end_on g h = absurd behind
  refill_blocks-moved given given_on (Some number) None behind true to to_on end end_on g h = absurd behind
  refill_blocks-moved given given_on (Some number) (Some number_on) behind true to to_on end end_on g h =
      let s : suc here_on ≡ suc here + by = omega (arith, f) in
      ap₂ (λ a b. a ∷ b) (end_test-moved by stored (suc here) (suc here_on) to to_on s g)
      (ap₂ (λ a b. a ∷ b ∷ []) (try_code-moved by stored (Some number) (Some number_on) behind reader block block_on end end_on e h)
      (back_code-moved by stored block block_on end end_on e h))

  pub blocks_at_end-moved : (numbers numbers_on : Option (Reader → ℕ)) → StoredBehind stored numbers_on numbers
      → (eof : Option ℕ) (tries : Bool) (to to_on : ℕ → ℕ) (end end_on : ℕ) → ((unit : ℕ) → to_on unit ≡ to unit + by)
      → end_on ≡ end + by
      → blocks_at_end numbers_on reader eof tries block_on here_on to_on end_on
      ≡ moved_codes by stored (blocks_at_end numbers reader eof tries block here to end)
  blocks_at_end-moved numbers numbers_on behind None tries to to_on end end_on g h = refl
  blocks_at_end-moved numbers numbers_on behind (Some eof) tries to to_on end end_on g h =
      refill_blocks-moved numbers numbers_on numbers numbers_on behind tries (to eof) (to_on eof) end end_on (g eof) h
