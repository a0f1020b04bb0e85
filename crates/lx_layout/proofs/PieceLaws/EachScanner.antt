-- Each scanner stands in the piece of scanners one behind another, and each action is that of a rule of one of them.
use Rattle.std.specs.Prelude.{◌≡◌, ◌≢◌, ℕ, suc, ◌+◌, Bool, List, [], ◌∷◌, length, Option, Some, None, Contains, refl}
use Rattle.std.proofs.Common.{◌∙◌, ap, arith, subst, sym}
use Rattle.std.specs.List.{AllByRecursion}
use Rattle.lx_base.specs.Spelling.{greatest_unit}
use Rattle.lx_ccode.specs.Runs.{entry_block}
use Rattle.lx_ccode.specs.Statements.{code_of}
use Rattle.lx_ccode.specs.declared.piece.CodeBlock.{CodeBlock}
use Rattle.lx_ccode.specs.declared.piece.Piece.{Piece}
use Rattle.lx_ccode.specs.declared.piece.Stmt.{Stmt}
use Rattle.lx_ccode.specs.declared.piece.Stmt.TheVariants.{Code, Jump}
use Rattle.lx_layout.specs.Actions.{IsOwnAction}
use Rattle.lx_layout.specs.Carries.{NamesItsOwn}
use Rattle.lx_layout.specs.Endings.{Ending}
use Rattle.lx_layout.specs.Forgetting.{any_tests_kept, forgetting_by}
use Rattle.lx_layout.specs.FormedParts as formed
use Rattle.lx_layout.specs.FormedParts.{AreFormed}
use Rattle.lx_layout.specs.Layout.{StandsFrom}
use Rattle.lx_layout.specs.Parts.{EachPart, Part, given_asked, given_supply, part_codes}
use Rattle.lx_layout.specs.Pieces.{ArePartsOf, Form, HaveDifferentConditions, IsActionOf, IsScannerIn, MayBegin, Source, conds_of, given_of, mode_of, onto_conds, source_in, sources_in}
use Rattle.lx_layout.specs.SuppliedLayout.{supplied_layout}
use Rattle.lx_layout.proofs.Jumps.ForgettingTold.{as_given}
use Rattle.lx_layout.proofs.PieceLaws.EachPart.{AreFitScanners}
use Rattle.lx_layout.proofs.PieceLaws.PartActions.{actions_own}
use Rattle.lx_layout.proofs.PieceLaws.ScannerEntries.{AreDifferent, BeginsAt}
use Rattle.lx_layout.proofs.PieceLaws.OneScanner.{FitsForm, scanner_stands}
use Rattle.lx_layout.proofs.Validity.EachElement.{each-map}

module _ (form : Form) (table : List ℕ) where
  pub same_length : (scanners : List Source) (parts : List Part) → ArePartsOf form table scanners parts → length parts ≡ length scanners
  same_length [] [] are = refl
  same_length [] (part ∷ parts) are = absurd are
  same_length (scanner ∷ scanners) [] are = absurd are
  same_length (scanner ∷ scanners) (part ∷ parts) are = let e = same_length scanners parts are.1 in omega (arith, e)

  -- ---- conditions

  pub same_conds : (scanners : List Source) (parts : List Part) → ArePartsOf form table scanners parts → formed.conds_of parts ≡ conds_of scanners
  same_conds [] [] are = refl
  same_conds [] (part ∷ parts) are = absurd are
  same_conds (scanner ∷ scanners) [] are = absurd are
  same_conds (scanner ∷ scanners) (part ∷ parts) are =
      ap (λ o. formed.with_cond o (formed.conds_of parts)) (ap (λ given. given.cond) are.0.is) ∙ by scanner.cond (same_conds scanners parts are.1)
    where
      by : (o : Option (List ℕ)) → formed.conds_of parts ≡ conds_of scanners → formed.with_cond o (formed.conds_of parts) ≡ onto_conds o (conds_of scanners)
      by None e = e
      by (Some own) e = ap (λ l. own ∷ l) e

  other_conds : (own : Option (List ℕ)) (scanners : List Source) (parts : List Part) → ArePartsOf form table scanners parts
      → AllByRecursion (λ (other : Source). other.cond ≢ own) scanners → AllByRecursion (λ (other : Part). other.given.cond ≢ own) parts
  other_conds own [] [] are apart = tt
  other_conds own [] (part ∷ parts) are apart = absurd are
  other_conds own (scanner ∷ scanners) [] are apart = absurd are
  other_conds own (scanner ∷ scanners) (part ∷ parts) are apart =
      ((λ e. apart.0 (sym (ap (λ given. given.cond) are.0.is) ∙ e)), other_conds own scanners parts are.1 apart.1)

  pub conds_differ : (scanners : List Source) (parts : List Part) → ArePartsOf form table scanners parts → HaveDifferentConditions scanners → AreDifferent parts
  conds_differ [] [] are apart = tt
  conds_differ [] (part ∷ parts) are apart = absurd are
  conds_differ (scanner ∷ scanners) [] are apart = absurd are
  conds_differ (scanner ∷ scanners) (part ∷ parts) are apart = (
    other_conds part.given.cond scanners parts are.1
        (subst (λ own. AllByRecursion (λ (other : Source). other.cond ≢ own) scanners) (sym (ap (λ given. given.cond) are.0.is)) apart.0),
    conds_differ scanners parts are.1 apart.1,
  )

  -- ---- actions

  own_given : (forgets : Bool) (endings : ℕ → Ending) (statement : Stmt) → IsOwnAction (forgetting_by forgets endings) statement
      → IsOwnAction endings statement
  own_given forgets endings (Code rule line action) own = own
  own_given forgets endings (Jump cond rule) own = own
  own_given forgets endings statement own = own

  pub parts_act : (blocks : List CodeBlock) (all : List Source) (begin first : ℕ) (scanners : List Source) (parts : List Part)
      → AreFormed (greatest_unit form.enc) parts → ArePartsOf form table (sources_in blocks scanners) parts
      → ((scanner : Source) → Contains scanners scanner → Contains all scanner)
      → EachPart (λ part begin first. AllByRecursion (λ code. AllByRecursion (IsActionOf all) code) (part_codes part begin first)) begin first parts
  parts_act blocks all begin first [] [] formed are within = tt
  parts_act blocks all begin first [] (part ∷ parts) formed are within = absurd are
  parts_act blocks all begin first (scanner ∷ scanners) [] formed are within = absurd are
  parts_act blocks all begin first (scanner ∷ scanners) (part ∷ parts) formed are within = (
    each-map (λ code. AllByRecursion (IsOwnAction part.given.endings) code) (λ code. AllByRecursion (IsActionOf all) code)
        (λ code own. each-map (IsOwnAction part.given.endings) (IsActionOf all)
        (λ statement is. (
          scanner,
          within scanner (0, omega arith, refl),
          own_given (any_tests_kept blocks) scanner.endings statement
              (subst (λ endings. IsOwnAction endings statement) (ap (λ given. given.endings) are.0.is) is),
        )) code own)
        (part_codes part begin first) (actions_own (greatest_unit form.enc) begin first part formed.0),
    parts_act blocks all (begin + length (part_codes part begin first)) (first + given_asked part.given) scanners parts formed.1 are.1
        (λ other has. within other (suc has.0, (let lt = has.1 in omega (arith, lt)), has.2)),
  )
  -- ---- scanners

-- in blocks in which what was kept is forgotten before jumps
pub parts_in : (form : Form) (conds : List (List ℕ)) (piece : Piece) → FitsForm form piece → (begin first : ℕ) (scanners : List Source) (parts : List Part)
    → AreFitScanners form conds (sources_in piece.blocks scanners) → ArePartsOf form piece.table (sources_in piece.blocks scanners) parts
    → EachPart (λ part begin first. StandsFrom (code_of piece.blocks) begin (part_codes part begin first)) begin first parts
    → EachPart (λ part begin first. AllByRecursion (λ code. AllByRecursion (NamesItsOwn part.given.auto) code) (part_codes part begin first)) begin first parts
    → EachPart (BeginsAt piece.conds) begin first parts
    → AllByRecursion (λ (scanner : Source). IsScannerIn (mode_of form.eof form.fill) form.enc (given_of form piece.table scanner) scanner.checks piece) scanners
parts_in form conds piece ready begin first [] [] fit are stand own begins = tt
parts_in form conds piece ready begin first [] (part ∷ parts) fit are stand own begins = tt
parts_in form conds piece ready begin first (scanner ∷ scanners) [] fit are stand own begins = absurd are
parts_in form conds piece ready begin first (scanner ∷ scanners) (part ∷ parts) fit are stand own begins = (
  as_given (mode_of form.eof form.fill) form piece.table scanner piece
      (scanner_stands form conds (source_in piece.blocks scanner) fit.0 part.halting part.trees begin first piece ready are.0.marked are.0.trees
      (subst (λ given. StandsFrom (code_of piece.blocks) begin
      (supplied_layout (given_supply given first) part.halting given.endings given.end_rule part.trees given.auto begin)) are.0.is stand.0) refl
      (subst (λ given. AllByRecursion (λ code. AllByRecursion (NamesItsOwn given.auto) code)
      (supplied_layout (given_supply given first) part.halting given.endings given.end_rule part.trees given.auto begin)) are.0.is own.0)
      (subst (λ given. (cond : List ℕ) → MayBegin given.cond cond → entry_block piece.conds cond ≡ Some begin) are.0.is begins.0)),
  parts_in form conds piece ready (begin + length (part_codes part begin first)) (first + given_asked part.given) scanners parts fit.1 are.1 stand.1 own.1
      begins.1,
)
