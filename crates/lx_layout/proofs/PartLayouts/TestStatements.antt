-- What holds of each statement of a scanner, if it holds of what tests no unit, and of the tests by what they ask.
use Rattle.std.specs.Prelude.{◌≡◌, ℕ, suc, ◌+◌, ◌<◌, true, false, List, [], ◌∷◌, length, map, Option, Some, None, refl}
use Rattle.std.proofs.Common.{arith, subst, true≢false, sym}
use Rattle.std.specs.List.{AllByRecursion}
use Rattle.lx_auto.specs.declared.automaton.Accept.{Accept}
use Rattle.lx_auto.specs.declared.automaton.Held.{Held}
use Rattle.lx_auto.specs.declared.automaton.State.{State}
use Rattle.lx_auto.specs.declared.ops.Op.{Op}
use Rattle.lx_auto.specs.declared.ops.Op.TheVariants.{Here, Null, Copy, MHere, MNull, MCopy}
use Rattle.lx_ccode.specs.declared.piece.Stmt.{Stmt}
use Rattle.lx_ccode.specs.declared.piece.Stmt.TheVariants.{Accept as SaveAccept, Backup, Goto, IfAccept, IfEnd, IfIs, IfSet, IfUnit, Leave, Need, Peek, Restore, Skip, State as Store, Switch, Try}
use Rattle.lx_dispatch.specs.Dispatch.{AreTestsOf}
use Rattle.lx_dispatch.specs.TestTrees.{Asked, Question, TestTree, by_cases, by_question}
use Rattle.lx_dispatch.specs.TransitionClasses.{Split}
use Rattle.lx_layout.specs.Codes.{op_code}
use Rattle.lx_layout.specs.Endings.{Ending, ending_code}
use Rattle.lx_layout.specs.FormedParts.{IsFormed}
use Rattle.lx_layout.specs.Parts.{Part, given_supply, part_codes}
use Rattle.lx_layout.specs.Supplies.{Supply, entry, state}
use Rattle.lx_layout.specs.TestRuns.{is_test}
use Rattle.lx_layout.specs.TreeCodes.{asks, switch_cases}
use Rattle.lx_layout.proofs.PartLayouts.EachStatement.{statements_each}
use Rattle.lx_layout.proofs.PartLayouts.PlainBlocks.{OfAccept, OfAccepts}
use Rattle.lx_layout.proofs.PartLayouts.ReaderBlocks.{EachUnit}
use Rattle.lx_layout.proofs.PartLayouts.StatementSorts.{PlainStatements, ReaderStatements}
use Rattle.lx_layout.proofs.SuppliedLayouts.CommonCodes.{ending_common, is_common}
use Rattle.lx_layout.proofs.SuppliedLayouts.Places.{tree_at}
use Rattle.lx_layout.proofs.Validity.EachElement.{each-map}

-- code that all layouts have tests no unit
others_test : (statement : Stmt) → is_common statement ≡ true → is_test statement ≡ false
others_test (IfUnit greatest block) e = absurd (true≢false (sym e))
others_test (IfIs unit block) e = absurd (true≢false (sym e))
others_test (IfSet set block) e = absurd (true≢false (sym e))
others_test (Switch cases last) e = absurd (true≢false (sym e))
others_test _ e = refl

-- ---- the trees of a scanner

module _ (G : Asked → Type 0) (greatest : ℕ) (part : Part) (formed : IsFormed greatest part)
    (f : (split : Split) (tree : TestTree (Option ℕ))
    → AreTestsOf part.given.demand.format part.given.demand.table part.given.demand.eof greatest split tree → EachUnit G tree) where
  pub part_units : (number : ℕ) → number < length part.given.auto.states → EachUnit G (part.trees (state number))
  part_units number lt =
      let e : 0 + number ≡ number = omega arith in
      subst (λ n. EachUnit G (part.trees (state n))) e
      (f _ _ (tree_at (AreTestsOf part.given.demand.format part.given.demand.table part.given.demand.eof greatest) part.given.demand.eof greatest part.trees 0
      part.given.auto.states formed.chosen.trees.states number lt))

  pub entry_units : EachUnit G (part.trees entry)
  entry_units = f _ _ formed.chosen.trees.entry

-- ---- its statements

module _ (Q : Stmt → Type 0) (G : Asked → Type 0) (none : (statement : Stmt) → is_test statement ≡ false → Q statement)
    (question : (question : Question) (block : ℕ) → G (by_question question) → Q (asks question block))
    (switches : (cases : List (List ℕ × ℕ)) (last : ℕ) → G (by_cases (map (λ case. case.0) cases)) → Q (Switch (switch_cases cases) last)) where
  ending_so : (endings : ℕ → Ending) (rule : ℕ) (values : List Held) → AllByRecursion Q (ending_code endings rule values)
  ending_so endings rule values =
      each-map (λ statement. is_common statement ≡ true) Q (λ statement is. none statement (others_test statement is)) (ending_code endings rule values)
      (ending_common endings rule values)

  accepts_so : (endings : ℕ → Ending) (states : List State)
      → OfAccepts (λ (accept : Accept). AllByRecursion Q (ending_code endings accept.rule accept.values)) states
  accepts_so endings [] = tt
  accepts_so endings (given ∷ states) = (by given.accept, accepts_so endings states)
    where
      by : (o : Option Accept) → OfAccept (λ (accept : Accept). AllByRecursion Q (ending_code endings accept.rule accept.values)) o
      by None = tt
      by (Some accept) = ending_so endings accept.rule accept.values

  op_so : (op : Op) → Q (op_code op)
  op_so (Here r) = none (op_code (Here r)) refl
  op_so (Null r) = none (op_code (Null r)) refl
  op_so (Copy r s) = none (op_code (Copy r s)) refl
  op_so (MHere r) = none (op_code (MHere r)) refl
  op_so (MNull r) = none (op_code (MNull r)) refl
  op_so (MCopy r s) = none (op_code (MCopy r s)) refl

  module _ (greatest : ℕ) (part : Part) (formed : IsFormed greatest part)
      (f : (split : Split) (tree : TestTree (Option ℕ))
      → AreTestsOf part.given.demand.format part.given.demand.table part.given.demand.eof greatest split tree → EachUnit G tree) (begin first : ℕ) where
    abbrev supply : Supply
    supply = given_supply part.given first

    plain_so : PlainStatements Q (λ saved. Unit {0}) part.halting part.given.endings part.given.auto
    plain_so = record {
      goes = λ block. none (Goto block) refl;
      skips = none Skip refl;
      backs_up = none Backup refl;
      restores = none Restore refl;
      leaves = none Leave refl;
      saves = λ saved is. none (SaveAccept saved) refl;
      chooses = λ saved block is. none (IfAccept saved block) refl;
    }

    readers_so : ReaderStatements Q G (λ reader. Unit {0}) (λ units. Unit {0}) supply
    readers_so = record {
      goes = λ block. none (Goto block) refl;
      unit = question;
      switches = switches;
      peeks = none Peek refl;
      unchecked = tt;
      needs = λ units is. none (Need (suc units)) refl;
      stores = λ number reader same is. none (Store (number reader)) refl;
      tries = λ block some tries. none (Try block) refl;
      at_end = λ block. none (IfEnd block) refl;
    }

    pub tests_so : AllByRecursion (λ code. AllByRecursion Q code) (part_codes part begin first)
    tests_so =
        statements_each Q G (λ reader. Unit {0}) (λ units. Unit {0}) (λ saved. Unit {0}) supply part.halting part.given.endings part.given.end_rule part.trees
        part.given.auto
        (record {
          plain = plain_so;
          readers = readers_so;
          own = λ op is. op_so op;
          reads = λ number lt. tt;
          entry_reads = tt;
          check = λ none number lt. tt;
          units = part_units G greatest part formed f;
          entry_units = entry_units G greatest part formed f;
          saved = λ saved le. tt;
          ends = accepts_so part.given.endings part.given.auto.states;
          ends_by = λ rule is. ending_so part.given.endings rule [];
        }) formed.auto begin
