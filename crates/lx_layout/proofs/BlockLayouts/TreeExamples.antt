-- The examples of trees are trees of their splits.
use Rattle.std.specs.Prelude.{ℕ, ◌≤◌, List, [], ◌∷◌, ◌++◌, length, Option, Some, None}
use Rattle.std.proofs.Common.{arith}
use Rattle.lx_auto.specs.Examples.{dotted}
use Rattle.lx_layout.specs.Examples.{any_then, any_trees, dotted_trees, letters, letters_tree, seven, seven_tree}
use Rattle.lx_layout.specs.SuppliedLayout.{EachState}
use Rattle.lx_dispatch.specs.TestTrees.{IsTreeOf, IsTreeWithin, TestTree, at_most, fork, leaf, test}
use Rattle.lx_dispatch.specs.TransitionClasses.{Split, Stretch}
use Rattle.lx_dispatch.proofs.SplitTrees.{few_within, within_first, within_middle, within_none}

abbrev stretch : (greatest : ℕ) → (class : Option ℕ) → Stretch
stretch greatest class = record { greatest = greatest; class = class }

abbrev split_by : List Stretch → (last : Option ℕ) → Split
split_by tests last = record { tests = tests; last = last }

-- tests one after another
abbrev chain : List Stretch → (last : Option ℕ) → TestTree (Option ℕ)
chain [] last = leaf last
chain (first ∷ high) last = test (at_most first.greatest) first.class (chain high last)

within_chain : (list : List Stretch) (last : Option ℕ) → IsTreeWithin (length list) (split_by list last) (chain list last)
within_chain [] last = within_none 0 last
within_chain (first ∷ high) last = within_first (length high) first high last (chain high last) (within_chain high last)

-- two ranges of a class, parted between them
abbrev pair : (first between last : ℕ) → TestTree (Option ℕ)
pair first between last = fork (at_most between) (test (at_most first) (Some 0) (leaf None)) (test (at_most last) (Some 0) (leaf None))

abbrev ranges : (first between last : ℕ) → List Stretch
ranges first between last = stretch first (Some 0) ∷ stretch between None ∷ stretch last (Some 0) ∷ []

within_pair : (first between last : ℕ) → first ≤ between → between ≤ last
    → IsTreeWithin 2 (split_by (ranges first between last) None) (pair first between last)
within_pair first between last below above =
    within_middle 1 0 (stretch first (Some 0) ∷ []) (stretch between None) (stretch last (Some 0) ∷ []) None (test (at_most first) (Some 0) (leaf None))
    (test (at_most last) (Some 0) (leaf None)) (omega arith, (below, (above, tt))) (within_chain (stretch first (Some 0) ∷ []) None)
    (within_chain (stretch last (Some 0) ∷ []) None)

pub dotted_are_trees : EachState IsTreeOf None 255 dotted_trees 0 dotted.states
dotted_are_trees = (
  few_within 3 (split_by (stretch 96 None ∷ ranges 99 119 122) None) (test (at_most 96) None (pair 99 119 122))
      (within_first 2 (stretch 96 None) (ranges 99 119 122) None (pair 99 119 122) (within_pair 99 119 122 (omega arith) (omega arith))) (omega arith),
  (
    few_within 2 (split_by (stretch 45 None ∷ stretch 46 (Some 0) ∷ []) None) (test (at_most 45) None (test (at_most 46) (Some 0) (leaf None)))
        (within_chain (stretch 45 None ∷ stretch 46 (Some 0) ∷ []) None) (omega arith),
    tt,
  ),
)

pub any_are_trees : EachState IsTreeOf None 255 any_trees 0 any_then.states
any_are_trees = (
  few_within 0 (split_by [] (Some 0)) (leaf (Some 0)) (within_none 0 (Some 0)) (omega arith),
  (
    few_within 2 (split_by (stretch 96 None ∷ stretch 122 (Some 0) ∷ []) None) (test (at_most 96) None (test (at_most 122) (Some 0) (leaf None)))
        (within_chain (stretch 96 None ∷ stretch 122 (Some 0) ∷ []) None) (omega arith),
    tt,
  ),
)

pub seven_is_tree : IsTreeOf seven seven_tree
seven_is_tree =
    let low : List Stretch = stretch 10 (Some 0) ∷ stretch 20 (Some 1) ∷ stretch 30 (Some 2) ∷ [] in
    let high : List Stretch = stretch 50 (Some 4) ∷ stretch 60 (Some 5) ∷ stretch 70 (Some 6) ∷ [] in
    few_within 4 seven seven_tree
    (within_middle 3 0 low (stretch 40 (Some 3)) high (Some 7) (chain low (Some 3)) (chain high (Some 7))
    (omega arith, (omega arith, (omega arith, (omega arith, (omega arith, (omega arith, (omega arith, tt)))))))
    (within_chain low (Some 3)) (within_chain high (Some 7)))
    (omega arith)

pub letters_is_tree : IsTreeOf letters letters_tree
letters_is_tree =
    let low : List Stretch = ranges 57 64 90 in
    let high : List Stretch = ranges 95 96 122 in
    few_within 4 letters letters_tree
    (within_first 3 (stretch 47 None) (low ++ stretch 94 None ∷ high) None (fork (at_most 94) (pair 57 64 90) (pair 95 96 122))
    (within_middle 2 0 low (stretch 94 None) high None (pair 57 64 90) (pair 95 96 122)
    (omega arith, (omega arith, (omega arith, (omega arith, (omega arith, (omega arith, (omega arith, tt)))))))
    (within_pair 57 64 90 (omega arith) (omega arith)) (within_pair 95 96 122 (omega arith) (omega arith))))
    (omega arith)
