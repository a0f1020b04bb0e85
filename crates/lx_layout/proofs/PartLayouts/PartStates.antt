-- The states of scanners one behind another ascend from a first number on, or there are none.
use Rattle.std.specs.Prelude.{◌≡◌, ℕ, zero, suc, ◌+◌, ◌<◌, ◌≤◌, Bool, true, false, ◌||◌, List, [], ◌∷◌, length, map, Option, Some, None, is_some, refl, if◌then◌else◌}
use Rattle.std.proofs.Common.{◌∙◌, ap, arith, subst, sym}
use Rattle.std.specs.List.{AllByRecursion, list_any, range_with_len}
use Rattle.lx_auto.specs.declared.automaton.Accept.{Accept}
use Rattle.lx_auto.specs.declared.automaton.State.{State}
use Rattle.lx_ccode.specs.States.{onto_cases, states_from, states_in, try_first}
use Rattle.lx_ccode.specs.Statements.{all_statements, is_state, state_of}
use Rattle.lx_ccode.specs.Validity.{AreAscending, AreOnce, IsStateSwitch}
use Rattle.lx_ccode.specs.declared.piece.CodeBlock.{CodeBlock}
use Rattle.lx_ccode.specs.declared.piece.StateCase.{StateCase}
use Rattle.lx_ccode.specs.declared.piece.Stmt.{Stmt}
use Rattle.lx_layout.specs.Endings.{ending_code}
use Rattle.lx_layout.specs.FormedParts.{AllStore, AreFormed, IsFormed, all_asked}
use Rattle.lx_layout.specs.Parts.{EachPart, Part, given_asked, given_supply, part_codes, parts_blocks, stored_from}
use Rattle.lx_layout.specs.Supplies.{Reader, Supply, entry, state}
use Rattle.lx_layout.proofs.BlockLayouts.Questions.{any_question}
use Rattle.lx_layout.proofs.PartLayouts.CalmBlocks.{IsCalm, calm_ending, calm_op}
use Rattle.lx_layout.proofs.PartLayouts.EachStatement.{statements_each, units_any}
use Rattle.lx_layout.proofs.PartLayouts.PartBlocks.{OfBlocks, of_parts, of_statements}
use Rattle.lx_layout.proofs.PartLayouts.PlainBlocks.{OfAccept, OfAccepts}
use Rattle.lx_layout.proofs.PartLayouts.StatementSorts.{PlainStatements, ReaderStatements}
use Rattle.lx_layout.proofs.PartLayouts.StoredLayouts.{parts_stored}
use Rattle.lx_layout.proofs.PartLayouts.StoredNumbers.{numbers_from}
use Rattle.lx_layout.proofs.Validity.EachElement.{each-map}

-- ---- states in a row

abbrev numbers : List StateCase → List ℕ
numbers cases = map (λ case. case.state) cases

all_from : (least low n : ℕ) (cases : List StateCase) → least ≤ low → numbers cases ≡ range_with_len low n
    → AllByRecursion (λ (other : StateCase). least ≤ other.state) cases
all_from least low n [] le e = tt
all_from least low zero (case ∷ cases) le e = absurd (cc)
all_from least low (suc n) (case ∷ cases) le e =
    let here : case.state ≡ low = cc in
    let rest : numbers cases ≡ range_with_len (low + 1) n = cc in
    (omega (arith, here, le), all_from least (low + 1) n cases (omega (arith, le)) rest)

ascend_from : (low n : ℕ) (cases : List StateCase) → numbers cases ≡ range_with_len low n → AreAscending cases
ascend_from low n [] e = tt
ascend_from low zero (case ∷ cases) e = absurd (cc)
ascend_from low (suc n) (case ∷ cases) e =
    let here : case.state ≡ low = cc in
    let rest : numbers cases ≡ range_with_len (low + 1) n = cc in (
      each-map (λ (other : StateCase). low + 1 ≤ other.state) (λ (other : StateCase). case.state < other.state)
          (λ other le. omega (arith, here, le)) cases (all_from (low + 1) (low + 1) n cases (omega arith) rest),
      ascend_from (low + 1) n cases rest,
    )

once_ascending : (cases : List StateCase) → AreAscending cases → AreOnce cases
once_ascending [] h = tt
once_ascending (case ∷ cases) h = (
  each-map (λ (other : StateCase). case.state < other.state) (λ (other : StateCase). other.state ≡ case.state → ⊥)
      (λ other lt e. omega (arith, lt, e)) cases h.0,
  once_ascending cases h.1,
)

module _ (first : ℕ) (parts : List Part) (blocks : List CodeBlock) (stores : AllStore true parts) (same : blocks ≡ parts_blocks 0 first parts) where
  pub states_numbered : map (λ case. case.state) (states_from 0 blocks) ≡ range_with_len first (all_asked parts)
  states_numbered =
      subst (λ l. map (λ case. case.state) (states_from 0 l) ≡ range_with_len first (all_asked parts)) (sym same)
      (numbers_from 0 (parts_blocks 0 first parts) ∙ parts_stored 0 first parts stores)

  pub states_ascend : AreAscending (states_from 0 blocks)
  states_ascend = ascend_from first (all_asked parts) (states_from 0 blocks) states_numbered

  pub states_once : AreOnce (states_from 0 blocks)
  states_once = once_ascending (states_from 0 blocks) states_ascend

  pub states_switch : IsStateSwitch blocks (states_from 0 blocks)
  states_switch = (states_ascend, λ number. refl)

-- ---- where nothing is stored

abbrev StoresNothing : Stmt → Type 0
StoresNothing statement = state_of statement ≡ None

module _ (greatest first : ℕ) (part : Part) (formed : IsFormed greatest part) (none : part.given.demand.stores ≡ false) where
  abbrev supply : Supply
  supply = given_supply part.given first

  without : (stores : Bool) (number : Reader → ℕ) → stores ≡ false
      → stored_from part.given.demand part.given.end_rule part.given.auto stores first ≡ Some number → ⊥
  without false number e same = cc
  without true number e same = cc

  plain_none : PlainStatements StoresNothing (λ saved. Unit {0}) part.halting part.given.endings part.given.auto
  plain_none = record {
    goes = λ block. refl;
    skips = refl;
    backs_up = refl;
    restores = refl;
    leaves = refl;
    saves = λ saved is. refl;
    chooses = λ saved block is. refl;
  }

  readers_none : ReaderStatements StoresNothing (λ unit. Unit {0}) (λ reader. Unit {0}) (λ units. Unit {0}) supply
  readers_none = record {
    goes = λ block. refl;
    unit = λ question block is. any_question (StoresNothing) block (λ greatest. refl) (λ unit. refl) (λ set. refl) question;
    switches = λ cases last is. refl;
    peeks = refl;
    unchecked = tt;
    needs = λ units is. refl;
    stores = λ number reader same is. absurd (without part.given.demand.stores number none same);
    tries = λ block some tries. refl;
    at_end = λ block. refl;
  }

  ends_none : (states : List State) → OfAccepts (λ (accept : Accept). AllByRecursion StoresNothing (ending_code part.given.endings accept.rule accept.values)) states
  ends_none [] = tt
  ends_none (given ∷ states) = (by given.accept, ends_none states)
    where
      by : (o : Option Accept) → OfAccept (λ (accept : Accept). AllByRecursion StoresNothing (ending_code part.given.endings accept.rule accept.values)) o
      by None = tt
      by (Some accept) = each-map IsCalm StoresNothing (λ statement is. is.state) _ (calm_ending part.given.endings accept.rule accept.values)

  part_none : (begin : ℕ) → AllByRecursion (λ code. AllByRecursion StoresNothing code) (part_codes part begin first)
  part_none begin =
      statements_each StoresNothing (λ unit. Unit {0}) (λ reader. Unit {0}) (λ units. Unit {0}) (λ saved. Unit {0}) supply part.halting part.given.endings
      part.given.end_rule part.trees part.given.auto
      (record {
        plain = plain_none;
        readers = readers_none;
        own = λ op is. let h = calm_op op in h.state;
        reads = λ number lt. tt;
        entry_reads = tt;
        check = λ none number lt. tt;
        units = λ number lt. units_any (part.trees (state number));
        entry_units = units_any (part.trees entry);
        saved = λ saved le. tt;
        ends = ends_none part.given.auto.states;
        ends_by = λ rule is. each-map IsCalm StoresNothing (λ statement is. is.state) _ (calm_ending part.given.endings rule []);
      }) formed.auto begin

parts_none : (greatest begin first : ℕ) (parts : List Part) → AreFormed greatest parts → AllStore false parts
    → EachPart (λ part begin from. AllByRecursion (λ code. AllByRecursion StoresNothing code) (part_codes part begin from)) begin first parts
parts_none greatest begin first [] are none = tt
parts_none greatest begin first (part ∷ parts) are none = (
  part_none greatest first part are.0 none.0 begin,
  parts_none greatest (begin + length (part_codes part begin first)) (first + given_asked part.given) parts are.1 none.1,
)

any_none : (code : List Stmt) → AllByRecursion StoresNothing code → list_any is_state code ≡ false
any_none [] h = refl
any_none (statement ∷ code) h = ap (λ o. is_some o || list_any is_state code) h.0 ∙ any_none code h.1

pub nothing_stored : (greatest first : ℕ) (parts : List Part) (blocks : List CodeBlock) → AreFormed greatest parts → AllStore false parts
    → blocks ≡ parts_blocks 0 first parts → list_any is_state (all_statements blocks) ≡ false
nothing_stored greatest first parts blocks are none same =
    subst (λ l. list_any is_state (all_statements l) ≡ false) (sym same)
    (any_none (all_statements (parts_blocks 0 first parts))
    (of_statements StoresNothing (parts_blocks 0 first parts)
    (of_parts (λ code. AllByRecursion StoresNothing code) 0 first parts (parts_none greatest 0 first parts are none))))

none_from : (place : ℕ) (blocks : List CodeBlock) → OfBlocks (λ code. AllByRecursion StoresNothing code) blocks → states_from place blocks ≡ []
none_from place [] h = refl
none_from place (block ∷ blocks) h = within block.stmts h.0 ∙ none_from (suc place) blocks h.1
  where
    within : (code : List Stmt) → AllByRecursion StoresNothing code → states_in place code (states_from (suc place) blocks) ≡ states_from (suc place) blocks
    within [] h = refl
    within (statement ∷ code) h =
        ap (λ o. onto_cases o (if try_first code then suc place else place) (states_in place code (states_from (suc place) blocks))) h.0 ∙ within code h.1

pub no_states : (greatest first : ℕ) (parts : List Part) (blocks : List CodeBlock) → AreFormed greatest parts → AllStore false parts
    → blocks ≡ parts_blocks 0 first parts → states_from 0 blocks ≡ []
no_states greatest first parts blocks are none same =
    ap (λ l. states_from 0 l) same
    ∙ none_from 0 (parts_blocks 0 first parts)
    (of_parts (λ code. AllByRecursion StoresNothing code) 0 first parts (parts_none greatest 0 first parts are none))
