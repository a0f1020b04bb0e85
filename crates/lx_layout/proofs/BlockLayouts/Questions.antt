-- The statements that ask a question of the unit, and those that go by cases: what they are, and their steps.
use Rattle.std.specs.Prelude.{◌≡◌, ℕ, Bool, true, false, List, [], ◌∷◌, Some, map, slice_get, if◌then◌else◌, refl}
use Rattle.std.specs.List.{AllByRecursion}
use Rattle.std.proofs.Common.{sym, ap, ◌∙◌}
use Rattle.lx_ccode.specs.Machine.{Answer, Machine, case_block, code_at, goes_on, has_unit, if_unit, is_among, step}
use Rattle.lx_ccode.specs.Statements.{code_of, targets}
use Rattle.lx_ccode.specs.Traces.{is_peek, is_skip}
use Rattle.lx_ccode.specs.declared.piece.Piece.{Piece}
use Rattle.lx_ccode.specs.declared.piece.Stmt.{Stmt}
use Rattle.lx_ccode.specs.declared.piece.Stmt.TheVariants.{IfIs, IfSet, IfUnit, Switch}
use Rattle.lx_ccode.specs.declared.piece.SwitchCase.{SwitchCase}
use Rattle.lx_ccode.proofs.TraceSteps.{switch_goes, test_fails, test_holds}
use Rattle.lx_dispatch.specs.TestTrees as trees
use Rattle.lx_dispatch.specs.TestTrees.{EachTest, Question, TestTree, among, at_most, case_way, cases_by, fork, holds, leaf, switch, test}
use Rattle.lx_layout.specs.TreeCodes.{asks, switch_cases}
use Rattle.lx_layout.proofs.Validity.EachElement.{each-append}

-- what is so of each of the three statements is so of what asks a question
pub each_question : (Q : Stmt → Type 0) → ((greatest block : ℕ) → Q (IfUnit greatest block)) → ((unit block : ℕ) → Q (IfIs unit block))
    → ((set block : ℕ) → Q (IfSet set block)) → (question : Question) (block : ℕ) → Q (asks question block)
each_question Q at_most_so is_so among_so (at_most greatest) block = at_most_so greatest block
each_question Q at_most_so is_so among_so (trees.is unit) block = is_so unit block
each_question Q at_most_so is_so among_so (among set) block = among_so set block

-- the same by the block alone
pub any_question : (Q : Stmt → Type 0) (block : ℕ) → ((greatest : ℕ) → Q (IfUnit greatest block)) → ((unit : ℕ) → Q (IfIs unit block))
    → ((set : ℕ) → Q (IfSet set block)) → (question : Question) → Q (asks question block)
any_question Q block at_most_so is_so among_so (at_most greatest) = at_most_so greatest
any_question Q block at_most_so is_so among_so (trees.is unit) = is_so unit
any_question Q block at_most_so is_so among_so (among set) = among_so set

pub targets-asks : (question : Question) (block : ℕ) → targets (asks question block) ≡ block ∷ []
targets-asks question block = any_question (λ statement. targets statement ≡ block ∷ []) block (λ greatest. refl) (λ unit. refl) (λ set. refl) question

pub is_peek-asks : (question : Question) (block : ℕ) → is_peek (asks question block) ≡ false
is_peek-asks question block = any_question (λ statement. is_peek statement ≡ false) block (λ greatest. refl) (λ unit. refl) (λ set. refl) question

pub is_skip-asks : (question : Question) (block : ℕ) → is_skip (asks question block) ≡ false
is_skip-asks question block = any_question (λ statement. is_skip statement ≡ false) block (λ greatest. refl) (λ unit. refl) (λ set. refl) question

-- ---- cases

-- a unit goes by the cases of the statement as by those of the tree
pub case_block-ways : (cases : List (List ℕ × ℕ)) (last unit : ℕ) → case_block (switch_cases cases) last unit ≡ case_way cases last unit
case_block-ways [] last unit = refl
case_block-ways (case ∷ cases) last unit = ap (λ way. if has_unit case.0 unit then case.1 else way) (case_block-ways cases last unit)

-- the blocks that the statement names are those of the cases, and the last one
pub targets-switch : (B : ℕ → Type 0) (cases : List (List ℕ × ℕ)) (last : ℕ) → AllByRecursion (λ case. B case.1) cases → B last
    → AllByRecursion B (targets (Switch (switch_cases cases) last))
targets-switch B cases last h own = each-append B (map (λ (case : SwitchCase). case.block) (switch_cases cases)) (last ∷ []) (by cases h) (own, tt)
  where
    by : (cases : List (List ℕ × ℕ)) → AllByRecursion (λ case. B case.1) cases → AllByRecursion B (map (λ (case : SwitchCase). case.block) (switch_cases cases))
    by [] h = tt
    by (case ∷ cases) h = (h.0, by cases h.1)

-- ---- steps

-- what is known to be in sets is in those of the piece's table
abbrev pub FitsTable : (sets : (set unit : ℕ) → Bool) → Piece → Type 0
FitsTable sets piece = (set unit : ℕ) → sets set unit ≡ is_among piece.table set unit

module _ (piece : Piece) (stream : List ℕ) (rest : List Stmt) (machine : Machine) (answers : List Answer) where
  -- a question is asked as the machine asks it
  pub asks_step : (question : Question) (block : ℕ) → step piece stream (asks question block) rest machine answers
      ≡ if_unit machine.unit (holds (is_among piece.table) question) (code_at piece.blocks (Some block)) rest machine answers
  asks_step (at_most greatest) block = refl
  asks_step (trees.is unit) block = refl
  asks_step (among set) block = refl

  -- where it is known what is in a set
  module _ (sets : (set unit : ℕ) → Bool) (fits : FitsTable sets piece) where
    holds-table : (question : Question) (unit : ℕ) → holds sets question unit ≡ holds (is_among piece.table) question unit
    holds-table (at_most greatest) unit = refl
    holds-table (trees.is one) unit = refl
    holds-table (among set) unit = fits set unit

    module _ (unit : ℕ) (read : machine.unit ≡ Some unit) (question : Question) (block : ℕ) where
      pub question_holds : (code : List Stmt) → holds sets question unit ≡ true → slice_get (code_of piece.blocks) block ≡ Some code
          → step piece stream (asks question block) rest machine answers ≡ goes_on code machine answers
      question_holds code answered is =
          asks_step question block
          ∙ test_holds piece stream rest machine answers unit read (holds (is_among piece.table) question) block code
          (sym (holds-table question unit) ∙ answered) is

      pub question_fails : holds sets question unit ≡ false → step piece stream (asks question block) rest machine answers ≡ goes_on rest machine answers
      question_fails failed =
          asks_step question block
          ∙ test_fails piece stream rest machine answers unit read (holds (is_among piece.table) question) block (sym (holds-table question unit) ∙ failed)

  -- cases lead to the block of the unit
  pub cases_step : (unit : ℕ) → machine.unit ≡ Some unit → (cases : List (List ℕ × ℕ)) (last : ℕ) (code : List Stmt)
      → slice_get (code_of piece.blocks) (case_way cases last unit) ≡ Some code
      → step piece stream (Switch (switch_cases cases) last) rest machine answers ≡ goes_on code machine answers
  cases_step unit read cases last code is =
      switch_goes piece stream rest machine answers unit read (switch_cases cases) last (case_way cases last unit) code (case_block-ways cases last unit) is
