-- A scanner has statements of format 3 only in text of that format, and a switch over units only where these are bytes.
use Rattle.std.specs.Prelude.{◌≡◌, ℕ, ◌+◌, ◌||◌, Bool, true, false, List, [], ◌∷◌, length, Option, refl}
use Rattle.std.proofs.Common.{subst, sym, true≢false}
use Rattle.std.proofs.lemmas.Bool.{false≢true}
use Rattle.std.proofs.lemmas.List.Elements.{All-from_recursion}
use Rattle.std.proofs.lemmas.List.Folds.{list_any_none}
use Rattle.std.specs.List.{AllByRecursion, list_any}
use Rattle.lx_base.specs.declared.settings.Format.TheVariants.{Two}
use Rattle.lx_ccode.specs.Machine.{is_among}
use Rattle.lx_ccode.specs.Statements.{all_statements, is_of_three, is_switch}
use Rattle.lx_ccode.specs.declared.piece.CodeBlock.{CodeBlock}
use Rattle.lx_ccode.specs.declared.piece.Stmt.{Stmt}
use Rattle.lx_ccode.specs.declared.piece.Stmt.TheVariants.{IfIs, IfSet, Switch}
use Rattle.lx_dispatch.specs.Dispatch as dispatch
use Rattle.lx_dispatch.specs.Dispatch.{AreTestsOf, MayAsk, top_of}
use Rattle.lx_dispatch.specs.TestTrees as trees
use Rattle.lx_dispatch.specs.TestTrees.{Asked, AsksAtMost, HasWay, Question, TestTree, among, at_most, by_cases, by_question}
use Rattle.lx_dispatch.specs.TransitionClasses.{Split}
use Rattle.lx_dispatch.proofs.SplitTrees.{each-tests}
use Rattle.lx_layout.specs.FormedParts.{AreFormed, IsFormed}
use Rattle.lx_layout.specs.Parts.{EachPart, Part, given_asked, part_codes, parts_blocks}
use Rattle.lx_layout.specs.TestRuns.{is_test}
use Rattle.lx_layout.specs.TreeCodes.{asks}
use Rattle.lx_layout.proofs.PartLayouts.PartBlocks.{of_parts, of_statements}
use Rattle.lx_layout.proofs.PartLayouts.ReaderBlocks.{EachUnit}
use Rattle.lx_layout.proofs.PartLayouts.TestStatements.{tests_so}

-- ---- in text of format 2

abbrev IsOfTwo : Stmt → Type 0
IsOfTwo statement = is_of_three statement ≡ false

-- it is asked whether a unit is at most another one
abbrev AsksGreatest : Asked → Type 0
AsksGreatest asked = AsksAtMost (λ greatest. Unit {0}) asked

none_two : (statement : Stmt) → is_test statement ≡ false → IsOfTwo statement
none_two (IfIs unit block) none = absurd (true≢false none)
none_two (IfSet set block) none = absurd (true≢false none)
none_two (Switch cases last) none = absurd (true≢false none)
none_two _ none = refl

question_two : (question : Question) (block : ℕ) → AsksGreatest (by_question question) → IsOfTwo (asks question block)
question_two (at_most greatest) block is = refl
question_two (trees.is unit) block is = absurd is
question_two (among set) block is = absurd is

tree_two : (greatest : ℕ) (part : Part) → part.given.demand.format ≡ Two → (split : Split) (tree : TestTree (Option ℕ))
    → AreTestsOf part.given.demand.format part.given.demand.table part.given.demand.eof greatest split tree → EachUnit AsksGreatest tree
tree_two greatest part two split tree are =
    (subst (λ format. dispatch.TestsFew format (is_among part.given.demand.table) (top_of part.given.demand.eof greatest) split tree) two are.few).plain

part_two : (greatest begin first : ℕ) (part : Part) → IsFormed greatest part → part.given.demand.format ≡ Two
    → AllByRecursion (λ code. AllByRecursion IsOfTwo code) (part_codes part begin first)
part_two greatest begin first part formed two =
    tests_so IsOfTwo AsksGreatest none_two question_two (λ cases last is. absurd is) greatest part formed (tree_two greatest part two) begin first

parts_two : (greatest begin first : ℕ) (parts : List Part) → AreFormed greatest parts
    → AllByRecursion (λ (part : Part). part.given.demand.format ≡ Two) parts
    → EachPart (λ part begin from. AllByRecursion (λ code. AllByRecursion IsOfTwo code) (part_codes part begin from)) begin first parts
parts_two greatest begin first [] are two = tt
parts_two greatest begin first (part ∷ parts) are two = (
  part_two greatest begin first part are.0 two.0,
  parts_two greatest (begin + length (part_codes part begin first)) (first + given_asked part.given) parts are.1 two.1,
)

pub none_of_three : (greatest first : ℕ) (parts : List Part) (blocks : List CodeBlock) → AreFormed greatest parts
    → AllByRecursion (λ (part : Part). part.given.demand.format ≡ Two) parts → blocks ≡ parts_blocks 0 first parts
    → list_any is_of_three (all_statements blocks) ≡ false
none_of_three greatest first parts blocks are two same =
    list_any_none is_of_three (all_statements blocks)
    (All-from_recursion IsOfTwo (all_statements blocks)
    (subst (λ l. AllByRecursion IsOfTwo (all_statements l)) (sym same)
    (of_statements IsOfTwo (parts_blocks 0 first parts)
    (of_parts (λ code. AllByRecursion IsOfTwo code) 0 first parts (parts_two greatest 0 first parts are two)))))

-- ---- switches

module _ (greatest : ℕ) where
  abbrev SwitchesBytes : Stmt → Type 0
  SwitchesBytes statement = is_switch statement ≡ true → greatest ≡ 0xFF

  abbrev CasesOfBytes : Asked → Type 0
  CasesOfBytes (by_question question) = Unit {0}
  CasesOfBytes (by_cases units) = greatest ≡ 0xFF

  none_switch : (statement : Stmt) → is_test statement ≡ false → SwitchesBytes statement
  none_switch (Switch cases last) none is = absurd (true≢false none)
  none_switch _ none is = absurd (false≢true is)

  question_switch : (question : Question) (block : ℕ) → CasesOfBytes (by_question question) → SwitchesBytes (asks question block)
  question_switch (at_most greatest) block any is = absurd (false≢true is)
  question_switch (trees.is unit) block any is = absurd (false≢true is)
  question_switch (among set) block any is = absurd (false≢true is)

  tree_switch : (part : Part) (split : Split) (tree : TestTree (Option ℕ))
      → AreTestsOf part.given.demand.format part.given.demand.table part.given.demand.eof greatest split tree → EachUnit CasesOfBytes tree
  tree_switch part split tree are =
      each-tests (MayAsk (length part.given.demand.table) greatest split.tests) CasesOfBytes (HasWay split.tests split.last) (λ class. Unit {0}) by
      (λ class has. tt) tree are.within
    where
      by : (asked : Asked) → MayAsk (length part.given.demand.table) greatest split.tests asked → CasesOfBytes asked
      by (by_question question) may = tt
      by (by_cases units) may = may.0

  parts_switch : (begin first : ℕ) (parts : List Part) → AreFormed greatest parts
      → EachPart (λ part begin from. AllByRecursion (λ code. AllByRecursion SwitchesBytes code) (part_codes part begin from)) begin first parts
  parts_switch begin first [] are = tt
  parts_switch begin first (part ∷ parts) are = (
    tests_so SwitchesBytes CasesOfBytes none_switch question_switch (λ cases last bytes is. bytes) greatest part are.0 (tree_switch part) begin first,
    parts_switch (begin + length (part_codes part begin first)) (first + given_asked part.given) parts are.1,
  )

  any_switch : (code : List Stmt) → AllByRecursion SwitchesBytes code → list_any is_switch code ≡ true → greatest ≡ 0xFF
  any_switch [] all some = absurd (false≢true some)
  any_switch (statement ∷ code) all some = by (is_switch statement) refl some (λ others. any_switch code all.1 others)
    where
      by : (t : Bool) → is_switch statement ≡ t → (t || list_any is_switch code) ≡ true → (list_any is_switch code ≡ true → greatest ≡ 0xFF)
          → greatest ≡ 0xFF
      by true is some again = all.0 is
      by false is some again = again some

  pub switches_bytes : (first : ℕ) (parts : List Part) (blocks : List CodeBlock) → AreFormed greatest parts → blocks ≡ parts_blocks 0 first parts
      → list_any is_switch (all_statements blocks) ≡ true → greatest ≡ 0xFF
  switches_bytes first parts blocks are same =
      any_switch (all_statements blocks)
      (subst (λ l. AllByRecursion SwitchesBytes (all_statements l)) (sym same)
      (of_statements SwitchesBytes (parts_blocks 0 first parts)
      (of_parts (λ code. AllByRecursion SwitchesBytes code) 0 first parts (parts_switch 0 first parts are))))
