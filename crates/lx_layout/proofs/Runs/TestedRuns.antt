-- From a block that reads a unit the machine comes to the block of the unit's way, by no more tests than its tree is deep.
use Rattle.std.specs.Prelude.{◌≡◌, ℕ, suc, ◌+◌, ◌≤◌, Bool, true, false, List, [], ◌∷◌, length, max, Option, Some, refl, slice_get, if◌then◌else◌}
use Rattle.std.proofs.Common.{ap, ap₂, ◌∙◌, subst, arith}
use Rattle.lx_ccode.specs.declared.piece.Piece.{Piece}
use Rattle.lx_ccode.specs.declared.piece.Stmt.{Stmt}
use Rattle.lx_ccode.specs.declared.piece.Stmt.TheVariants.{Goto, Peek, Switch}
use Rattle.lx_ccode.specs.Machine.{Answer, Machine, Next, goes_on, is_among, peek, step, unit_at}
use Rattle.lx_ccode.specs.Statements.{code_of}
use Rattle.lx_ccode.specs.Traces.{count_made, trace, traced}
use Rattle.lx_ccode.proofs.TraceSteps.{goto_step}
use Rattle.lx_layout.specs.Layout.{StandsFrom, class_block, numbered}
use Rattle.lx_layout.specs.TestRuns.{ComesTo, is_test}
use Rattle.lx_dispatch.specs.TestTrees.{IsTreeOf, Question, TestTree, depth, fork, holds, leaf, picked, split_class, switch, test}
use Rattle.lx_layout.specs.TreeCodes.{asks, inner_blocks, inner_size, switch_cases, tree_code}
use Rattle.lx_dispatch.specs.TransitionClasses.{Split}
use Rattle.lx_layout.proofs.BlockLayouts.CodesInBlocks.{StandsFrom-back, StandsFrom-front}
use Rattle.lx_layout.proofs.BlockLayouts.Questions.{any_question, cases_step, question_fails, question_holds}
use Rattle.lx_layout.proofs.BlockLayouts.TreeCodes.{length-inner_blocks, picked-numbered}

-- the blocks of the ways in place of the classes leave a tree as deep as it was
depth-numbered : (first end : ℕ) (tree : TestTree (Option ℕ)) → depth (numbered first end tree) ≡ depth tree
depth-numbered first end (leaf class) = refl
depth-numbered first end (test question class high) = ap suc (depth-numbered first end high)
depth-numbered first end (fork question low high) = ap₂ (λ a b. suc (max a b)) (depth-numbered first end low) (depth-numbered first end high)
depth-numbered first end (switch cases last) = refl

pub numbered_ways : (first end : ℕ) (split : Split) (tree : TestTree (Option ℕ)) → IsTreeOf split tree
    → (depth (numbered first end tree) ≡ depth tree)
    × ((sets : (set unit : ℕ) → Bool) (unit : ℕ) → picked sets (numbered first end tree) unit ≡ class_block first end (split_class split unit))
numbered_ways first end split tree is = (
  depth-numbered first end tree,
  λ sets unit. picked-numbered first end sets tree unit ∙ ap (class_block first end) (is.picks sets unit),
)

module _ (piece : Piece) (stream : List ℕ) (answers : List Answer) where
  -- from its code on the machine, which has read a unit, comes to other code by at most so many tests
  record Tests (code : List Stmt) (machine : Machine) (most : ℕ) (to : List Stmt) : Type 0 where
    steps : ℕ
    comes : (trace piece stream steps code machine answers).next ≡ goes_on to machine answers
    tests : count_made is_test (trace piece stream steps code machine answers).made ≤ most

  -- a statement before, which changes the machine so
  module _ (statement : Stmt) (rest code : List Stmt) (before machine : Machine) (most all : ℕ) (to : List Stmt)
      (e : step piece stream statement rest before answers ≡ goes_on code machine answers) (is : Tests code machine most to)
      (counted : (if is_test statement then 1 else 0) + most ≤ all) where
    made_by : Next → ℕ
    made_by next = count_made is_test (traced piece stream statement (trace piece stream is.steps) next).made

    after : (trace piece stream (suc is.steps) (statement ∷ rest) before answers).next ≡ goes_on to machine answers
    after = ap (λ n. (traced piece stream statement (trace piece stream is.steps) n).next) e ∙ is.comes

    few : count_made is_test (trace piece stream (suc is.steps) (statement ∷ rest) before answers).made ≤ all
    unfolding made_by
    few =
        let count = ap made_by e in
        let tests = is.tests in
        omega (arith, count, tests, counted)

  module _ (unit : ℕ) (to : List Stmt) (machine : Machine) (read : machine.unit ≡ Some unit) where
    tested : (statement : Stmt) (rest code : List Stmt) (most all : ℕ) → step piece stream statement rest machine answers ≡ goes_on code machine answers
        → Tests code machine most to → (if is_test statement then 1 else 0) + most ≤ all → Tests (statement ∷ rest) machine all to
    tested statement rest code most all e is counted = record {
      steps = suc is.steps;
      comes = after statement rest code machine machine most all to e is counted;
      tests = few statement rest code machine machine most all to e is counted;
    }

    there : (all : ℕ) → Tests to machine all to
    there all = record { steps = 0; comes = refl; tests = omega arith }

    asked : (question : Question) (block : ℕ) (rest code : List Stmt) (most all : ℕ)
        → step piece stream (asks question block) rest machine answers ≡ goes_on code machine answers
        → Tests code machine most to → suc most ≤ all → Tests (asks question block ∷ rest) machine all to
    asked question block rest code most all e is counted =
        tested (asks question block) rest code most all e is
        (any_question (λ statement. (if is_test statement then 1 else 0) + most ≤ all) block (λ greatest. omega (arith, counted))
        (λ unit. omega (arith, counted)) (λ set. omega (arith, counted)) question)

    tree_tests : (tree : TestTree ℕ) (next : ℕ) → StandsFrom (code_of piece.blocks) next (inner_blocks next tree)
        → slice_get (code_of piece.blocks) (picked (is_among piece.table) tree unit) ≡ Some to → Tests (tree_code next tree) machine (depth tree) to
    tree_tests (leaf block) next stands at =
        tested (Goto block) [] to 0 0 (goto_step piece stream [] machine answers block to at) (there 0) (omega arith)
    tree_tests (test question block high) next stands at = by (holds (is_among piece.table) question unit) refl at (tree_tests high next stands)
      where
        by : (t : Bool) → holds (is_among piece.table) question unit ≡ t
            → slice_get (code_of piece.blocks) (if t then block else picked (is_among piece.table) high unit) ≡ Some to
            → (slice_get (code_of piece.blocks) (picked (is_among piece.table) high unit) ≡ Some to → Tests (tree_code next high) machine (depth high) to)
            → Tests (asks question block ∷ tree_code next high) machine (suc (depth high)) to
        by true e at again =
            asked question block (tree_code next high) to 0 (suc (depth high))
            (question_holds piece stream (tree_code next high) machine answers (is_among piece.table) (λ set unit. refl) unit read question block to e at)
            (there 0) (omega arith)
        by false e at again =
            asked question block (tree_code next high) (tree_code next high) (depth high) (suc (depth high))
            (question_fails piece stream (tree_code next high) machine answers (is_among piece.table) (λ set unit. refl) unit read question block e)
            (again at) (omega arith)
    tree_tests (fork question low high) next stands at =
        by (holds (is_among piece.table) question unit) refl at (tree_tests low (suc next) low_stands) (tree_tests high (suc next + inner_size low) high_stands)
      where
        below : List (List Stmt)
        below = inner_blocks (suc next) low

        above : List (List Stmt)
        above = inner_blocks (suc next + inner_size low) high

        low_stands : StandsFrom (code_of piece.blocks) (suc next) (inner_blocks (suc next) low)
        low_stands = StandsFrom-front (code_of piece.blocks) (suc next) below above stands.1

        high_stands : StandsFrom (code_of piece.blocks) (suc next + inner_size low) (inner_blocks (suc next + inner_size low) high)
        high_stands =
            let e : suc next + length below ≡ suc next + inner_size low = ap (λ n. suc next + n) (length-inner_blocks (suc next) low) in
            subst (λ n. StandsFrom (code_of piece.blocks) n above) e (StandsFrom-back (code_of piece.blocks) (suc next) below above stands.1)

        by : (t : Bool) → holds (is_among piece.table) question unit ≡ t
            → slice_get (code_of piece.blocks) (if t then picked (is_among piece.table) low unit else picked (is_among piece.table) high unit) ≡ Some to
            → (slice_get (code_of piece.blocks) (picked (is_among piece.table) low unit) ≡ Some to → Tests (tree_code (suc next) low) machine (depth low) to)
            → (slice_get (code_of piece.blocks) (picked (is_among piece.table) high unit) ≡ Some to
            → Tests (tree_code (suc next + inner_size low) high) machine (depth high) to)
            → Tests (asks question next ∷ tree_code (suc next + inner_size low) high) machine (suc (max (depth low) (depth high))) to
        by true e at again_low again_high =
            asked question next (tree_code (suc next + inner_size low) high) (tree_code (suc next) low) (depth low) (suc (max (depth low) (depth high)))
            (question_holds piece stream (tree_code (suc next + inner_size low) high) machine answers (is_among piece.table) (λ set unit. refl) unit read
            question next (tree_code (suc next) low) e stands.0)
            (again_low at) (omega arith)
        by false e at again_low again_high =
            asked question next (tree_code (suc next + inner_size low) high) (tree_code (suc next + inner_size low) high) (depth high)
            (suc (max (depth low) (depth high)))
            (question_fails piece stream (tree_code (suc next + inner_size low) high) machine answers (is_among piece.table) (λ set unit. refl) unit read
            question next e)
            (again_high at) (omega arith)
    tree_tests (switch cases last) next stands at =
        tested (Switch (switch_cases cases) last) [] to 0 1 (cases_step piece stream [] machine answers unit read cases last to at) (there 0) (omega arith)

pub tree_comes : (piece : Piece) (stream : List ℕ) (tree : TestTree ℕ) (next unit : ℕ) (to : List Stmt) (machine : Machine) (answers : List Answer)
    → StandsFrom (code_of piece.blocks) next (inner_blocks next tree)
    → unit_at piece.eof stream machine.cursor machine.limit ≡ Some unit → slice_get (code_of piece.blocks) (picked (is_among piece.table) tree unit) ≡ Some to
    → ComesTo piece stream (Peek ∷ tree_code next tree) machine answers unit (depth tree) to
tree_comes piece stream tree next unit to machine answers stands is at =
    let read : Machine = record machine { unit = Some unit } in
    let tests = tree_tests piece stream answers unit to read refl tree next stands at in
    let e : step piece stream Peek (tree_code next tree) machine answers ≡ goes_on (tree_code next tree) read answers =
    ap (λ o. peek o (tree_code next tree) machine answers) is in
    record {
      steps = suc tests.steps;
      comes = after piece stream answers Peek (tree_code next tree) (tree_code next tree) machine read (depth tree) (depth tree) to e tests (omega arith);
      tests = few piece stream answers Peek (tree_code next tree) (tree_code next tree) machine read (depth tree) (depth tree) to e tests (omega arith);
    }
