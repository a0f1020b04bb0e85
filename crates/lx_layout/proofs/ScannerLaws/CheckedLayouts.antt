-- A layout whose supply has no unit at the end checks for units as its supply says.
use Rattle.std.specs.Prelude.{◌≡◌, ◌≢◌, ◌⊎◌, ℕ, zero, suc, ◌+◌, ◌<◌, Bool, true, false, List, [], ◌∷◌, ◌++◌, length, Option, Some, None, IsSome, refl, slice_get, slice_index}
use Rattle.std.proofs.Common.{inl, inr, sym, ap, ◌∙◌, subst, arith}
use Rattle.lx_auto.specs.Automaton.{IsAuto, state_of}
use Rattle.lx_auto.specs.declared.automaton.Accept.{Accept}
use Rattle.lx_auto.specs.declared.automaton.Auto.{Auto}
use Rattle.lx_auto.specs.declared.automaton.Edge.{Edge}
use Rattle.lx_auto.specs.declared.automaton.State.{State}
use Rattle.lx_ccode.specs.Scanners.{IsOfScanner, StandsIn}
use Rattle.lx_ccode.specs.States.{states_from}
use Rattle.lx_ccode.specs.Statements.{code_of, is_need}
use Rattle.lx_ccode.specs.Validity.{AreOnce}
use Rattle.lx_ccode.specs.declared.piece.Piece.{Piece}
use Rattle.lx_ccode.specs.declared.piece.Stmt.{Stmt}
use Rattle.lx_ccode.specs.declared.piece.Stmt.TheVariants.{Goto, Need, Peek}
use Rattle.lx_fill.specs.Checks.{AreChecks, Reads, graph_of}
use Rattle.lx_layout.specs.Carries.{HasEdge}
use Rattle.lx_layout.specs.CheckedStates.{ChecksAs, ChecksByWalks, needed}
use Rattle.lx_layout.specs.Endings.{Ending}
use Rattle.lx_layout.specs.Fallback.{edge_code}
use Rattle.lx_layout.specs.Halting.{AreHalting, Halting, halted_accept, is_entered, saved_accepts, kept_number}
use Rattle.lx_layout.specs.Layout.{StandsFrom, end_blocks}
use Rattle.lx_layout.specs.SuppliedLayout.{EachReader, blocks_by, class_blocks, entry_of, fall_block, kept, place_of, reader_blocks, rule_block, state_way, states_begin, supplied_layout, turn_of, with_blocks}
use Rattle.lx_layout.specs.Supplies.{Reader, Supply, need_code, state}
use Rattle.lx_dispatch.specs.TestTrees.{TestTree, fork, leaf, switch, test}
use Rattle.lx_layout.specs.TreeCodes.{inner_size, tree_code}
use Rattle.lx_dispatch.specs.TransitionClasses.{transition_classes}
use Rattle.lx_layout.proofs.BlockLayouts.Questions.{any_question}
use Rattle.lx_layout.proofs.Carrying.RunStates.{edge_within}
use Rattle.lx_layout.proofs.ScannerLaws.CheckedCodes.{ChecksAtHome, ChecksNone, IsCheckFor, checked_sorts, needed-check, none_needed, others_check}
use Rattle.lx_layout.proofs.SuppliedLayouts.ApartPlaces.{entered_place, size_some}
use Rattle.lx_layout.proofs.SuppliedLayouts.CommonCodes.{none-edge}
use Rattle.lx_layout.proofs.SuppliedLayouts.EachBlock.{EachFrom}
use Rattle.lx_layout.proofs.SuppliedLayouts.EachLayout.{some_class}
use Rattle.lx_layout.proofs.SuppliedLayouts.HeldLayouts.{layout_any}
use Rattle.lx_layout.proofs.SuppliedLayouts.LayoutServes.{state_stands}
use Rattle.lx_layout.proofs.SuppliedLayouts.OwnBlocks.{all-contained, each_from-get, none-contained, scanner_code}
use Rattle.lx_layout.proofs.SuppliedLayouts.Places.{begin_in}
use Rattle.lx_layout.proofs.SuppliedLayouts.WholeLayout.{begin_in-high}
use Rattle.lx_layout.proofs.SuppliedLayouts.LeadingTrees.{LeadsWithin}

-- ---- the block where a state's code begins

tree_none : (next : ℕ) (tree : TestTree ℕ) → ChecksNone (tree_code next tree)
tree_none next (leaf block) = refl
tree_none next (test question block high) =
    let again = tree_none next high in
    any_question (λ statement. ChecksNone (statement ∷ tree_code next high)) block (λ greatest. again) (λ unit. again) (λ set. again) question
tree_none next (fork question low high) =
    let again = tree_none (suc next + inner_size low) high in
    any_question (λ statement. ChecksNone (statement ∷ tree_code (suc next + inner_size low) high)) next (λ greatest. again) (λ unit. again)
    (λ set. again) question
tree_none next (switch cases last) = refl

-- Where what stands behind the tests of a reader checks for nothing first, the first block checks for the reader's units.
module _ (blocks : List (List Stmt)) (stored : Option (Reader → ℕ)) (reader : Reader) (from : ℕ) (rest : List (List Stmt))
    (behind : StandsFrom blocks from rest → (code : List Stmt) → slice_get blocks from ≡ Some code → needed code ≡ 0) where
  reader_first : (units : ℕ) (tree : TestTree ℕ) → StandsFrom blocks from (reader_blocks stored reader None units from tree ++ rest)
      → (code : List Stmt) → slice_get blocks from ≡ Some code → needed code ≡ units
  reader_first zero (leaf block) stands code is = behind stands code is
  reader_first (suc units) (leaf block) stands code is =
      let own = stands.0 in
      let same : need_code stored reader (suc units) (Goto block ∷ []) ≡ code = cc in
      ap needed (sym same) ∙ needed-check stored reader (suc units) (Goto block ∷ []) refl
  reader_first units (test question block high) stands code is =
      let own = stands.0 in
      let same : need_code stored reader units (Peek ∷ tree_code (suc from) (test question block high)) ≡ code = cc in
      ap needed (sym same)
      ∙ needed-check stored reader units (Peek ∷ tree_code (suc from) (test question block high)) (tree_none (suc from) (test question block high))
  reader_first units (fork question low high) stands code is =
      let own = stands.0 in
      let same : need_code stored reader units (Peek ∷ tree_code (suc from) (fork question low high)) ≡ code = cc in
      ap needed (sym same)
      ∙ needed-check stored reader units (Peek ∷ tree_code (suc from) (fork question low high)) (tree_none (suc from) (fork question low high))
  reader_first units (switch cases last) stands code is =
      let own = stands.0 in
      let same : need_code stored reader units (Peek ∷ tree_code (suc from) (switch cases last)) ≡ code = cc in
      ap needed (sym same)
      ∙ needed-check stored reader units (Peek ∷ tree_code (suc from) (switch cases last)) (tree_none (suc from) (switch cases last))

  kept_first : (t : Bool) (eof : Option ℕ) (units : ℕ) (tree : TestTree ℕ) → t ≡ true → eof ≡ None
      → StandsFrom blocks from (kept t (reader_blocks stored reader eof units from tree) ++ rest)
      → (code : List Stmt) → slice_get blocks from ≡ Some code → needed code ≡ units
  kept_first false eof units tree is none stands code at = absurd (cc)
  kept_first true (Some eof) units tree is none stands code at = absurd (cc)
  kept_first true None units tree is none stands code at = reader_first units tree stands code at

module _ (halting : Halting) (auto : Auto) (saved_list : List Accept) (place : ℕ → ℕ) (blocks : List (List Stmt)) (given : State) (from : ℕ)
    (others : List (List Stmt)) where
  classes_first : (classes : List Edge) → 0 < length classes → StandsFrom blocks from (class_blocks halting auto saved_list place given classes ++ others)
      → (code : List Stmt) → slice_get blocks from ≡ Some code → needed code ≡ 0
  classes_first [] some stands code is = absurd (omega (arith, some))
  classes_first (class ∷ classes) some stands code is =
      let first : List Stmt = edge_code halting auto given (kept_number halting saved_list given.accept) class (place class.to) in
      let own : slice_get blocks from ≡ Some first = stands.0 in
      let same : code ≡ first = cc in
      ap needed same
      ∙ none_needed first (none-edge is_need others_check refl halting auto given (kept_number halting saved_list given.accept) class (place class.to))

-- ---- the whole

module _ (supply : Supply) (halting : Halting) (endings : ℕ → Ending) (end_rule : Option ℕ) (greatest : ℕ) (trees : Reader → TestTree (Option ℕ)) (auto : Auto)
    (begin : ℕ) (piece : Piece) (stands : StandsFrom (code_of piece.blocks) begin (supplied_layout supply halting endings end_rule trees auto begin))
    (formed : IsAuto auto) (are : EachReader LeadsWithin supply.eof greatest trees auto) (some : IsSome end_rule → IsSome supply.eof)
    (eof : supply.eof ≡ None) (marked : AreHalting supply.eof end_rule greatest auto halting)
    (stored : (supply.stored ≡ None) ⊎ AreOnce (states_from 0 piece.blocks)) where
  abbrev place : ℕ → ℕ
  place = place_of supply halting end_rule trees auto begin

  abbrev own : ℕ → ℕ
  own s = begin_in supply halting end_rule trees auto 0 (states_begin supply halting end_rule trees auto begin) auto.states s

  abbrev fall : ℕ
  fall = fall_block supply halting end_rule trees auto begin

  -- no entry stands apart
  no_rule : end_rule ≡ None
  no_rule = by end_rule refl
    where
      by : (o : Option ℕ) → end_rule ≡ o → end_rule ≡ None
      by None is = is
      by (Some rule) is =
          let there : IsSome {T = ℕ} None = subst (λ o. IsSome o) eof (some (subst (λ o. IsSome o) (sym is) refl)) in absurd (cc)

  entered : (s : ℕ) → is_entered end_rule auto s ≡ true
  entered s = ap (λ o. is_entered o auto s) no_rule

  place_is : (s : ℕ) → HasEdge auto s → place s ≡ own s
  place_is s edge = entered_place supply halting end_rule trees auto begin some s (edge_within auto s edge) edge (entered s)

  -- ---- the states

  first_checks : (s : ℕ) → HasEdge auto s → (code : List Stmt) → slice_get (code_of piece.blocks) (own s) ≡ Some code → needed code ≡ supply.check s
  first_checks s edge code is =
      by (state_of auto.states s).edges refl
      (state_stands supply halting endings end_rule greatest trees auto begin (code_of piece.blocks) stands s (edge_within auto s edge))
    where
      by : (edges : List Edge) → (state_of auto.states s).edges ≡ edges
          → StandsFrom (code_of piece.blocks) (own s)
          (blocks_by supply halting end_rule trees auto (rule_block supply halting end_rule trees auto begin) (fall_block supply halting end_rule trees auto begin)
          begin (saved_accepts halting auto.states) (place_of supply halting end_rule trees auto begin) s (own s) (state_of auto.states s) edges)
          → needed code ≡ supply.check s
      by [] none h = absurd (edge none)
      by (first ∷ edges) same h =
          let rules : ℕ → ℕ = rule_block supply halting end_rule trees auto begin in
          let given : State = state_of auto.states s in
          let others : List (List Stmt) = turn_of supply halting end_rule trees auto rules fall begin (saved_accepts halting auto.states) place s (own s) given
          ++ end_blocks auto rules fall (halted_accept halting s given) in
          let row : List (List Stmt) = class_blocks halting auto (saved_accepts halting auto.states) place given (transition_classes (first ∷ edges)) in
          kept_first (code_of piece.blocks) supply.stored (state s) (own s) (row ++ others)
          (λ there. classes_first halting auto (saved_accepts halting auto.states) place (code_of piece.blocks) given (own s) others
          (transition_classes (first ∷ edges)) (some_class first edges) there)
          (is_entered end_rule auto s) supply.eof (supply.check s)
          (with_blocks (state_way supply halting end_rule trees auto rules fall begin s (own s) given) (trees (state s))) (entered s) eof h code is

  states_check : (s : ℕ) (code : List Stmt) → HasEdge auto s → slice_get (code_of piece.blocks) (place s) ≡ Some code → needed code ≡ supply.check s
  states_check s code edge is = first_checks s edge code (subst (λ n. slice_get (code_of piece.blocks) n ≡ Some code) (place_is s edge) is)

  -- ---- no other block

  -- a state with an edge stands there, before the fallback
  abbrev Home : ℕ → Type 0
  Home block = ((number : ℕ) × HasEdge auto number × (place number ≡ block)) × (block < fall)

  never : Home fall → ⊥
  never home = let lt = home.1 in omega (arith, lt)

  homes : EachFrom (ChecksAtHome Home fall never) begin (supplied_layout supply halting endings end_rule trees auto begin)
  homes =
      layout_any (ChecksAtHome Home fall never) (λ reader at. Home at) (λ units. Unit {0}) supply halting endings auto
      (checked_sorts Home fall never supply halting endings auto) end_rule greatest trees begin formed are (λ s. tt)
      (λ s lt entered edge. home s lt edge) (λ rule is. absurd (let none = no_rule in cc))
    where
      home : (s : ℕ) → s < length auto.states → HasEdge auto s → Home (own s)
      home s lt edge =
          let e : 0 + s ≡ s = omega arith in
          let high = begin_in-high supply halting end_rule trees auto 0 (states_begin supply halting end_rule trees auto begin) auto.states s lt in
          let size = size_some supply halting end_rule trees auto (0 + s) (state_of auto.states s) edge in
          ((s, edge, place_is s edge), omega (arith, high, size))

  -- a check stands at a state, and is for as many units as its supply says
  pub check_alone : (block units : ℕ) → IsOfScanner piece.blocks (entry_of supply halting end_rule trees auto begin) block
      → StandsIn piece.blocks block (Need units)
      → ((number : ℕ) × HasEdge auto number × (place_of supply halting end_rule trees auto begin number ≡ block) × (supply.check number ≡ units)) × (units ≢ 0)
  check_alone block units of check =
      let codes : List (List Stmt) = supplied_layout supply halting endings end_rule trees auto begin in
      let found = scanner_code piece.blocks supply halting endings end_rule greatest trees auto begin formed are marked stands stored block of check.0 check.1 in
      by (subst (λ n. ChecksAtHome Home fall never n check.0) found.1
      (each_from-get (ChecksAtHome Home fall never) begin codes found.0 check.0 homes found.2))
    where
      by : ChecksAtHome Home fall never block check.0
          → ((number : ℕ) × HasEdge auto number × (place_of supply halting end_rule trees auto begin number ≡ block) × (supply.check number ≡ units)) × (units ≢ 0)
      by (inl none) =
          let no : is_need (Need units) ≡ false = none-contained is_need check.0 (Need units) none check.2 in
          absurd (cc)
      by (inr there) =
          let number : ℕ = there.0.0.0 in
          let once = there.1 in
          let for : units ≡ suc once.0 = all-contained (IsCheckFor (suc once.0)) check.0 (Need units) once.2 check.2 in
          let at : slice_get (code_of piece.blocks) (place number) ≡ Some check.0 =
          subst (λ n. slice_get (code_of piece.blocks) n ≡ Some check.0) (sym there.0.0.2) check.1 in
          let says = states_check number check.0 there.0.0.1 at in
          ((number, there.0.0.1, there.0.0.2, sym says ∙ once.1 ∙ sym for), λ none. omega (arith, for, none))

  pub layout_checks : ChecksAs piece (entry_of supply halting end_rule trees auto begin) (place_of supply halting end_rule trees auto begin) auto supply.check
  layout_checks = record {
    states = λ s code edge is. states_check s code edge is;
    alone = λ block units of check. (check_alone block units of check).0;
  }

  -- by the checks of walks
  pub layout_walks : (checks : List ℕ) → AreChecks auto checks → ((s : ℕ) → supply.check s ≡ slice_index checks s)
      → ChecksByWalks piece (entry_of supply halting end_rule trees auto begin) (place_of supply halting end_rule trees auto begin) auto checks
  layout_walks checks right same block units of check =
      let found = check_alone block units of check in
      let number : ℕ = found.0.0 in
      let is : slice_index checks number ≡ units = sym (same number) ∙ found.0.3 in
      let some : slice_index checks number ≢ 0 = λ none. found.1 (sym is ∙ none) in (
        number,
        found.0.1,
        found.0.2,
        subst (λ n. Reads (graph_of auto) (slice_index checks) number n) is (right.exact number some),
        λ other. right.cycle number some other,
      )
