-- Scanners ask for sets of their table alone.
use Rattle.std.specs.Prelude.{◌≡◌, ℕ, ◌+◌, ◌*◌, ◌<◌, ◌≤◌, false, List, [], ◌∷◌, length, Option}
use Rattle.std.proofs.Common.{arith, subst, sym, true≢false}
use Rattle.std.proofs.Math.Nat.{div-lt_iff_lt-mul}
use Rattle.std.specs.List.{AllByRecursion}
use Rattle.lx_ccode.specs.Counts.{greatest_of, groups_in}
use Rattle.lx_ccode.specs.Statements.{all_statements}
use Rattle.lx_ccode.specs.declared.piece.CodeBlock.{CodeBlock}
use Rattle.lx_ccode.specs.declared.piece.Stmt.{Stmt}
use Rattle.lx_ccode.specs.declared.piece.Stmt.TheVariants.{IfSet}
use Rattle.lx_dispatch.specs.Dispatch.{AreTestsOf, MayAsk}
use Rattle.lx_dispatch.specs.TestTrees as trees
use Rattle.lx_dispatch.specs.TestTrees.{Asked, HasWay, Question, TestTree, among, at_most, by_cases, by_question}
use Rattle.lx_dispatch.specs.TransitionClasses.{Split}
use Rattle.lx_dispatch.proofs.SplitTrees.{each-tests}
use Rattle.lx_layout.specs.FormedParts.{AreFormed}
use Rattle.lx_layout.specs.Parts.{EachPart, Part, given_asked, part_codes, parts_blocks}
use Rattle.lx_layout.specs.TestRuns.{is_test}
use Rattle.lx_layout.specs.TreeCodes.{asks}
use Rattle.lx_layout.proofs.PartLayouts.PartBlocks.{of_parts, of_statements}
use Rattle.lx_layout.proofs.PartLayouts.ReaderBlocks.{EachUnit}
use Rattle.lx_layout.proofs.PartLayouts.TestStatements.{tests_so}

module _ (groups : ℕ) where
  abbrev HasFewSets : Stmt → Type 0
  HasFewSets statement = groups_in statement ≤ groups

  abbrev AsksFewSets : Asked → Type 0
  AsksFewSets (by_question (at_most greatest)) = Unit {0}
  AsksFewSets (by_question (trees.is unit)) = Unit {0}
  AsksFewSets (by_question (among set)) = set < groups * 8
  AsksFewSets (by_cases units) = Unit {0}

  none_asked : (statement : Stmt) → is_test statement ≡ false → HasFewSets statement
  none_asked (IfSet set block) none = absurd (true≢false none)
  none_asked _ none = omega arith

  question_asked : (question : Question) (block : ℕ) → AsksFewSets (by_question question) → HasFewSets (asks question block)
  question_asked (at_most greatest) block is = omega arith
  question_asked (trees.is unit) block is = omega arith
  question_asked (among set) block is = let lt = (div-lt_iff_lt-mul {k = 8} (omega arith)).1 is in omega (arith, lt)

  tree_asked : (greatest : ℕ) (part : Part) → length part.given.demand.table ≡ 256 * groups → (split : Split) (tree : TestTree (Option ℕ))
      → AreTestsOf part.given.demand.format part.given.demand.table part.given.demand.eof greatest split tree → EachUnit AsksFewSets tree
  tree_asked greatest part long split tree are =
      each-tests (MayAsk (length part.given.demand.table) greatest split.tests) AsksFewSets (HasWay split.tests split.last) (λ class. Unit {0}) by
      (λ class has. tt) tree are.within
    where
      by : (asked : Asked) → MayAsk (length part.given.demand.table) greatest split.tests asked → AsksFewSets asked
      by (by_question (at_most unit)) may = tt
      by (by_question (trees.is unit)) may = tt
      by (by_question (among set)) may = omega (arith, may, long)
      by (by_cases units) may = tt

  parts_asked : (greatest begin first : ℕ) (parts : List Part) → AreFormed greatest parts
      → AllByRecursion (λ (part : Part). length part.given.demand.table ≡ 256 * groups) parts
      → EachPart (λ part begin from. AllByRecursion (λ code. AllByRecursion HasFewSets code) (part_codes part begin from)) begin first parts
  parts_asked greatest begin first [] are long = tt
  parts_asked greatest begin first (part ∷ parts) are long = (
    tests_so HasFewSets AsksFewSets none_asked question_asked (λ cases last any. omega arith) greatest part are.0 (tree_asked greatest part long.0) begin first,
    parts_asked greatest (begin + length (part_codes part begin first)) (first + given_asked part.given) parts are.1 long.1,
  )

  greatest_few : (code : List Stmt) → AllByRecursion HasFewSets code → greatest_of groups_in code ≤ groups
  greatest_few [] few = omega arith
  greatest_few (statement ∷ code) few = let own = few.0 in let others = greatest_few code few.1 in omega (arith, own, others)

  -- scanners that all have a table of so many groups of sets ask for no other ones
  pub sets_few : (greatest first : ℕ) (parts : List Part) (blocks : List CodeBlock) → AreFormed greatest parts
      → AllByRecursion (λ (part : Part). length part.given.demand.table ≡ 256 * groups) parts → blocks ≡ parts_blocks 0 first parts
      → greatest_of groups_in (all_statements blocks) ≤ groups
  sets_few greatest first parts blocks are long same =
      greatest_few (all_statements blocks)
      (subst (λ l. AllByRecursion HasFewSets (all_statements l)) (sym same)
      (of_statements HasFewSets (parts_blocks 0 first parts)
      (of_parts (λ code. AllByRecursion HasFewSets code) 0 first parts (parts_asked greatest 0 first parts are long))))
