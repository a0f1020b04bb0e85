-- A layout by trees of tests within their bound tests each unit few times.
use Rattle.std.specs.Prelude.{◌≡◌, ◌⊎◌, ℕ, suc, ◌+◌, ◌^◌, ◌<◌, ◌≤◌, Bool, true, false, List, [], ◌∷◌, length, map, Option, Some, None, IsSome, refl, slice_get, if◌then◌else◌}
use Rattle.std.proofs.Common.{inl, inr, sym, ap, ◌∙◌, subst, arith, true≢false}
use Rattle.std.proofs.lemmas.List.{length-map}
use Rattle.std.specs.List.{list_any}
use Rattle.lx_auto.specs.Automaton.{IsAuto, state_of}
use Rattle.lx_auto.specs.declared.automaton.Accept.{Accept}
use Rattle.lx_auto.specs.declared.automaton.Auto.{Auto}
use Rattle.lx_auto.specs.declared.automaton.Edge.{Edge}
use Rattle.lx_auto.specs.declared.automaton.State.{State}
use Rattle.lx_base.specs.declared.settings.Format.{Format}
use Rattle.lx_base.specs.declared.settings.Format.TheVariants.{Two, Three}
use Rattle.lx_ccode.specs.Machine.{Machine, is_among}
use Rattle.lx_ccode.specs.Scanners.{IsOfScanner, StandsIn}
use Rattle.lx_ccode.specs.States.{state_block, states_from, states_in}
use Rattle.lx_ccode.specs.Statements.{code_of, is_state}
use Rattle.lx_ccode.specs.Traces.{is_peek}
use Rattle.lx_ccode.specs.Validity.{AreOnce}
use Rattle.lx_ccode.specs.declared.piece.Piece.{Piece}
use Rattle.lx_ccode.specs.declared.piece.Stmt.{Stmt}
use Rattle.lx_ccode.specs.declared.piece.Stmt.TheVariants.{IfIs, IfSet, Peek, State as Store}
use Rattle.lx_layout.specs.Carries.{HasEdge}
use Rattle.lx_layout.specs.Codes.{accept_code}
use Rattle.lx_layout.specs.Endings.{Ending}
use Rattle.lx_layout.specs.Fallback.{edge_code}
use Rattle.lx_layout.specs.FewTests.{AreFewFor, HasFewTests, HasOwnState, TestsFew, TestsFewOf, first_questions, runs_left}
use Rattle.lx_layout.specs.Halting.{AreHalting, Halting, is_entered, saved_accepts, kept_number}
use Rattle.lx_layout.specs.Layout.{StandsFrom, lone_blocks, lone_code}
use Rattle.lx_layout.specs.SuppliedLayout.{EachReader, blocks_by, entry_by, entry_of, fall_block, lone_number, place_by, place_of, rule_block, supplied_layout, with_blocks}
use Rattle.lx_layout.specs.Supplies.{Reader, Supply, entry, state}
use Rattle.lx_layout.specs.TestRuns.{is_first_test}
use Rattle.lx_layout.specs.TreeCodes.{tree_code}
use Rattle.lx_dispatch.specs.Dispatch as dispatch
use Rattle.lx_dispatch.specs.Dispatch.{AreTestsOf, IsFronted, top_of}
use Rattle.lx_dispatch.specs.LeftUnits.{any_holds, left_split}
use Rattle.lx_dispatch.specs.TestTrees.{TestTree, depth, leaf}
use Rattle.lx_dispatch.specs.TransitionClasses.{Split}
use Rattle.lx_dispatch.specs.UnitApart.{reader_split}
use Rattle.lx_layout.proofs.Carrying.RunStates.{edge_within}
use Rattle.lx_layout.proofs.ScannerLaws.CalmCodes.{At}
use Rattle.lx_layout.proofs.ScannerLaws.CalmLayouts.{Base, Is, IsBack, IsStored, base_all, class_first, class_some, here_of, home_at, home_of, home_stored, leads_at, once_of, own_of, place_own, state_ways, stop_of, to_of, tree_of, turn_stored, units_of, ways_of}
use Rattle.lx_layout.proofs.ScannerLaws.CalmReaders.{IsBare, home_asks, one_calm}
use Rattle.lx_layout.proofs.ScannerLaws.CalmWays.{class_there}
use Rattle.lx_layout.proofs.ScannerLaws.FewSteps.{Calm}
use Rattle.lx_layout.proofs.ScannerLaws.LayoutReaders.{reader_stands}
use Rattle.lx_layout.proofs.ScannerLaws.TestSorts.{Sort, all_tests, depth_of, depth_of-all, depth_of-with_blocks, first_tests, fronted-asks, fronted-firsts, fronted-others, is_of, other_tests, questions_none}
use Rattle.lx_layout.proofs.ScannerLaws.StoredBlocks.{IsCase, StoresAt, found_state, stored_sorts}
use Rattle.lx_layout.proofs.Supplied.EnteredStates.{behind_entry}
use Rattle.lx_layout.proofs.Supplied.StoredStates.{IsAmong, among_states, block_of-among}
use Rattle.lx_layout.proofs.SuppliedLayouts.CommonCodes.{is_common, none-accept, none-edge}
use Rattle.lx_layout.proofs.SuppliedLayouts.EachBlock.{EachFrom}
use Rattle.lx_layout.proofs.SuppliedLayouts.HeldLayouts.{layout_any}
use Rattle.lx_layout.proofs.SuppliedLayouts.LeadingTrees.{LeadsWithin, each_reader, leads_within}
use Rattle.lx_layout.proofs.SuppliedLayouts.LayoutServes.{place_is, state_stands}
use Rattle.lx_layout.proofs.SuppliedLayouts.OwnBlocks.{all-get, each_from-get, none-contained, scanner_code}
use Rattle.lx_layout.proofs.SuppliedLayouts.PeekedBlocks.{others_peek}
use Rattle.lx_layout.proofs.SuppliedLayouts.Places.{tree_at}
use Rattle.lx_layout.proofs.SuppliedLayouts.StoredNothing.{layout_stores_nothing}

-- code that all layouts have asks no first question
others_first : (statement : Stmt) → is_common statement ≡ true → is_first_test statement ≡ false
others_first (IfIs unit block) e = absurd (true≢false (sym e))
others_first (IfSet set block) e = absurd (true≢false (sym e))
others_first _ e = refl

unit_of : (eof : Option ℕ) → IsSome eof → (unit : ℕ) × (eof ≡ Some unit)
unit_of None some = absurd (cc)
unit_of (Some unit) some = (unit, refl)

module _ (piece : Piece) (format : Format) (supply : Supply) (halting : Halting) (endings : ℕ → Ending) (end_rule : Option ℕ) (greatest : ℕ) (trees : Reader → TestTree (Option ℕ))
    (auto : Auto) (begin : ℕ) (formed : IsAuto auto) (are : EachReader (AreTestsOf format piece.table supply.eof greatest) supply.eof greatest trees auto)
    (some : IsSome end_rule → IsSome supply.eof)
    (marked : AreHalting supply.eof end_rule greatest auto halting)
    (stands : StandsFrom (code_of piece.blocks) begin (supplied_layout supply halting endings end_rule trees auto begin))
    (stored : (supply.stored ≡ None) ⊎ AreOnce (states_from 0 piece.blocks)) where
  abbrev blocks : List (List Stmt)
  blocks = code_of piece.blocks

  abbrev codes : List (List Stmt)
  codes = supplied_layout supply halting endings end_rule trees auto begin

  abbrev first : ℕ
  first = entry_of supply halting end_rule trees auto begin

  tests : EachReader LeadsWithin supply.eof greatest trees auto
  tests =
      each_reader (AreTestsOf format piece.table supply.eof greatest) LeadsWithin
      (λ split tree is. leads_within (length piece.table) greatest split tree is.within) supply.eof greatest trees auto are

  abbrev Reads : Reader → Type 0
  Reads reader = Is piece supply halting endings end_rule greatest trees auto begin formed tests some marked stands stored reader

  abbrev home : Reader → ℕ
  home reader = home_of piece supply halting endings end_rule greatest trees auto begin formed tests some marked stands stored reader

  abbrev tree : Reader → TestTree ℕ
  tree reader = tree_of piece supply halting endings end_rule greatest trees auto begin formed tests some marked stands stored reader

  abbrev ways : Reader → Option ℕ → ℕ
  ways reader class = ways_of piece supply halting endings end_rule greatest trees auto begin formed tests some marked stands stored reader class

  abbrev own : ℕ
  own = own_of piece supply halting endings end_rule greatest trees auto begin formed tests some marked stands stored 0

  abbrev fall : ℕ
  fall = fall_block supply halting end_rule trees auto begin

  abbrev rules : ℕ → ℕ
  rules = rule_block supply halting end_rule trees auto begin

  abbrev Stored : ℕ → Type 0
  Stored number = IsStored piece supply halting endings end_rule greatest trees auto begin formed tests some marked stands stored number

  abbrev Back : ℕ → Type 0
  Back block = IsBack piece supply halting endings end_rule greatest trees auto begin formed tests some marked stands stored block

  base : (stream : List ℕ) (n : ℕ) → Base piece supply halting endings end_rule greatest trees auto begin formed tests some marked stands stored stream n
  base stream n = base_all piece supply halting endings end_rule greatest trees auto begin formed tests some marked stands stored stream n

  -- ---- what is stored

  -- what reads has its home there
  abbrev Here : Reader → ℕ → Type 0
  Here reader at = Reads reader × (home reader ≡ at)

  stores : EachFrom (StoresAt supply Here) begin (supplied_layout supply halting endings end_rule trees auto begin)
  stores =
      layout_any (StoresAt supply Here) Here (λ units. Unit {0}) supply halting endings auto (stored_sorts supply Here halting endings auto) end_rule greatest trees
      begin formed tests (λ s. tt) (λ s lt entered edge. ((lt, edge, entered), refl)) (λ rule is. ((rule, is), refl))

  module _ (number block : ℕ) (of : IsOfScanner piece.blocks (entry_of supply halting end_rule trees auto begin) block)
      (there : StandsIn piece.blocks block (Store number)) where
    found : (k : ℕ) × (begin + k ≡ block) × (slice_get (supplied_layout supply halting endings end_rule trees auto begin) k ≡ Some there.0)
    found = scanner_code piece.blocks supply halting endings end_rule greatest trees auto begin formed tests marked stands stored block of there.0 there.1

    not_none : supply.stored ≡ None → ⊥
    not_none none =
        let quiet = all-get (λ code. list_any is_state code ≡ false) codes found.0 there.0
        (layout_stores_nothing supply halting endings end_rule greatest trees auto begin formed tests none) found.2 in
        true≢false (none-contained is_state there.0 (Store number) quiet there.2)

    once : AreOnce (states_from 0 piece.blocks)
    once = by stored
      where
        by : (supply.stored ≡ None) ⊎ AreOnce (states_from 0 piece.blocks) → AreOnce (states_from 0 piece.blocks)
        by (inl none) = absurd (not_none none)
        by (inr once) = once

    is_stored : Stored number
    is_stored =
        let has = there.2 in (
          not_none,
          λ back leads. by
              (found_state supply Here block there.0 number has.0
              (subst (λ n. StoresAt supply Here n there.0) found.1 (each_from-get (StoresAt supply Here) begin codes found.0 there.0 stores found.2)) has.1 has.2) back leads,
        )
      where
        by : IsCase supply Here block there.0 number → (back : ℕ) → state_block piece.blocks number ≡ Some back → Back back
        by (inl asked) back leads =
            let there_unit = unit_of supply.eof asked.some in
            let reader : Reader = asked.reader in
            (turn_stored piece supply halting endings end_rule greatest trees auto begin formed tests some marked stands stored asked.reader asked.is.0
            (asked.numbers, asked.tries, asked.stored, there_unit.0, there_unit.1)).1 back
            (subst (λ n. state_block piece.blocks n ≡ Some back) asked.same leads)
        by (inr case) back leads =
            let z : 0 + block ≡ block = omega arith in
            let among : IsAmong (record { state = number; block = block }) (states_from 0 piece.blocks) =
            among_states (record { state = number; block = block }) piece.blocks 0 block there.0 there.1
            (λ cases. subst (λ n. IsAmong (record { state = number; block = block }) (states_in n there.0 cases)) (sym z) (case.1 cases)) in
            let own = block_of-among (record { state = number; block = block }) (states_from 0 piece.blocks) once among in
            let same : block ≡ back = (let e : Some block ≡ Some back = sym own ∙ leads in cc) in
            inl (case.0.0, case.0.1.0, case.0.1.1 ∙ same)

  ok_of : (machine : Machine) → HasOwnState piece (entry_of supply halting end_rule trees auto begin) machine
      → (number : ℕ) → machine.state ≡ Some number → Stored number
  ok_of machine own number is = let at = own number is in is_stored number at.0 at.1 at.2

  -- ---- from a block

  abbrev FewFrom : (sort : Sort) (block most : ℕ) → Type 0
  FewFrom sort block most = TestsFew piece (entry_of supply halting end_rule trees auto begin) block (is_of sort) most

  calm_few : (sort : Sort) (block most : ℕ) → ((stream : List ℕ) (n : ℕ) → At piece stream Stored n block)
      → ((stream : List ℕ) (n : ℕ) (code : List Stmt) → slice_get (code_of piece.blocks) block ≡ Some code
      → (list_any is_peek code ≡ false) ⊎ Calm sort piece stream Stored 1 most n code)
      → FewFrom sort block most
  calm_few sort block most calm one = record {
    none = λ stream code machine answers steps is own none.
        (let least = calm stream steps code is steps (omega arith) machine answers (ok_of machine own) (omega (arith, none)) in omega (arith, least));
    few = λ peek stream code machine answers steps is own few.
        by peek stream code is (one stream steps code is) (λ h. h steps (omega arith) machine answers (ok_of machine own) few);
  }
    where
      by : {A : Type 0} → StandsIn piece.blocks block Peek → (stream : List ℕ) (code : List Stmt) → slice_get (code_of piece.blocks) block ≡ Some code
          → {n : ℕ} → (list_any is_peek code ≡ false) ⊎ Calm sort piece stream Stored 1 most n code → (Calm sort piece stream Stored 1 most n code → A) → A
      by peek stream code is (inl none) f =
          let at = peek.1 in
          let same : peek.0 ≡ code = cc in
          absurd (true≢false (none-contained is_peek peek.0 Peek (subst (λ l. list_any is_peek l ≡ false) (sym same) none) peek.2))
      by peek stream code is (inr h) f = f h

  edge_bare : (s : ℕ) (class : Edge) (block : ℕ)
      → IsBare (edge_code halting auto (state_of auto.states s) (kept_number halting (saved_accepts halting auto.states) (state_of auto.states s).accept) class block)
  edge_bare s class block =
      let given : State = state_of auto.states s in
      let saved : Option ℕ = kept_number halting (saved_accepts halting auto.states) (state_of auto.states s).accept in record {
        peeks = none-edge is_peek others_peek refl halting auto (state_of auto.states s)
            (kept_number halting (saved_accepts halting auto.states) (state_of auto.states s).accept) class block;
        asks = questions_none (edge_code halting auto given saved class block)
            (none-edge is_first_test others_first refl halting auto (state_of auto.states s)
            (kept_number halting (saved_accepts halting auto.states) (state_of auto.states s).accept) class block);
      }

  module _ (reader : Reader) (is : Reads reader) where
    -- where it has no block of its own, its home is that of a class
    no_block : supply.eof ≡ None → units_of piece supply halting endings end_rule greatest trees auto begin formed tests some marked stands stored reader ≡ 0
        → (block : ℕ) → tree reader ≡ leaf block → (code : List Stmt) → slice_get (code_of piece.blocks) (home reader) ≡ Some code → IsBare code
    no_block = by reader is
      where
        by : (reader : Reader) → Reads reader → supply.eof ≡ None
            → units_of piece supply halting endings end_rule greatest trees auto begin formed tests some marked stands stored reader ≡ 0
            → (block : ℕ) → tree reader ≡ leaf block → (code : List Stmt) → slice_get (code_of piece.blocks) (home reader) ≡ Some code
            → IsBare code
        by (entry) is none unchecked block one code at =
            let there : IsSome {T = ℕ} None = subst (λ o. IsSome o) none (some (subst (λ o. IsSome o) (sym is.1) refl)) in absurd (cc)
        by (state s) is none unchecked block one code at =
            let own : ℕ = own_of piece supply halting endings end_rule greatest trees auto begin formed tests some marked stands stored s in
            let class = class_there piece supply halting endings end_rule greatest trees auto begin formed stands marked s
            (own_of piece supply halting endings end_rule greatest trees auto begin formed tests some marked stands stored s) is.0
            (state_ways piece supply halting endings end_rule greatest trees auto begin formed tests some marked stands stored s is) 0
            (class_some piece supply halting endings end_rule greatest trees auto begin formed tests some marked stands stored s is) in
            let first_class = class_first piece supply halting endings end_rule greatest trees auto begin formed tests some marked stands stored s is none
            unchecked block one in
            let edge : List Stmt = edge_code halting auto (state_of auto.states s) (kept_number halting (saved_accepts halting auto.states) (state_of auto.states s).accept)
            class.0 (place_of supply halting end_rule trees auto begin class.0.to) in
            let here : slice_get (code_of piece.blocks) own ≡ Some edge = subst (λ b. slice_get (code_of piece.blocks) b ≡ Some edge) first_class class.1 in
            let same : edge ≡ code = (let e : Some edge ≡ Some code = sym here ∙ at in cc) in
            subst (λ l. IsBare l) same (edge_bare s class.0 (place_of supply halting end_rule trees auto begin class.0.to))

    asked_there : (code : List Stmt) → slice_get (code_of piece.blocks) (home reader) ≡ Some code
        → IsBare code ⊎ (first_questions code ≡ first_questions (tree_code (suc (home reader)) (tree reader)))
    asked_there =
        let rows = reader_stands supply halting endings end_rule greatest trees auto begin (code_of piece.blocks) formed stands reader is in
        home_asks piece supply reader (units_of piece supply halting endings end_rule greatest trees auto begin formed tests some marked stands stored reader)
        (home reader) (here_of piece supply halting endings end_rule greatest trees auto begin formed tests some marked stands stored reader) (tree reader)
        (to_of piece supply halting endings end_rule greatest trees auto begin formed tests some marked stands stored reader)
        (stop_of piece supply halting endings end_rule greatest trees auto begin formed tests some marked stands stored reader) rows.row rows.turn no_block

    reader_calm : (stream : List ℕ) (n : ℕ) → At piece stream Stored n (home reader)
    reader_calm stream n =
        home_at piece supply halting endings end_rule greatest trees auto begin formed tests some marked stands stored stream n (base stream n) reader is

    reader_few : (sort : Sort) → FewFrom sort (home reader) (depth_of sort (trees reader))
    reader_few sort =
        let rows = reader_stands supply halting endings end_rule greatest trees auto begin (code_of piece.blocks) formed stands reader is in
        calm_few sort (home reader) (depth_of sort (trees reader)) reader_calm
        (λ stream n code at.
        subst (λ d. (list_any is_peek code ≡ false) ⊎ Calm sort piece stream Stored 1 d n code) (depth_of-with_blocks sort (ways reader) (trees reader))
        (one_calm piece supply reader (units_of piece supply halting endings end_rule greatest trees auto begin formed tests some marked stands stored reader)
        (home reader) (here_of piece supply halting endings end_rule greatest trees auto begin formed tests some marked stands stored reader) (tree reader)
        (to_of piece supply halting endings end_rule greatest trees auto begin formed tests some marked stands stored reader)
        (stop_of piece supply halting endings end_rule greatest trees auto begin formed tests some marked stands stored reader) rows.row rows.turn
        (once_of piece supply halting endings end_rule greatest trees auto begin formed tests some marked stands stored) stream Stored
        (home_stored piece supply halting endings end_rule greatest trees auto begin formed tests some marked stands stored reader is) sort
        (λ m. leads_at piece supply halting endings end_rule greatest trees auto begin formed tests some marked stands stored stream m (base stream m) reader is)
        (λ none number stored_number. stored_number.0 none)
        (λ none unchecked block one other there. (no_block none unchecked block one other there).peeks) n code at))

  -- ---- a block, by the format

  abbrev FewOf : (s block : ℕ) → Type 0
  FewOf s block = TestsFewOf piece (entry_of supply halting end_rule trees auto begin) format supply.eof greatest auto s block

  abbrev ThreeOf : (s block : ℕ) → List Stmt → Type 0
  ThreeOf s block code =
      (length (first_questions code) ≤ 5) × FewFrom first_tests block (length (first_questions code))
      × ((most : ℕ) × AreFewFor (runs_left piece (entry_of supply halting end_rule trees auto begin) supply.eof greatest auto s code) most
      × FewFrom other_tests block most)

  -- one that reads no unit
  module _ (s block : ℕ) (calm : (stream : List ℕ) (n : ℕ) → At piece stream Stored n block)
      (bare : (code : List Stmt) → slice_get (code_of piece.blocks) block ≡ Some code → IsBare code) where
    never : (sort : Sort) (most : ℕ) → FewFrom sort block most
    never sort most = calm_few sort block most calm (λ stream n code at. inl (bare code at).peeks)

    bare_three : (code : List Stmt) → slice_get (code_of piece.blocks) block ≡ Some code → ThreeOf s block code
    bare_three code at =
        let none : length (first_questions code) ≡ 0 = ap (λ l. length l) (bare code at).asks in
        let one : 2 ^ 0 ≡ 1 = refl in
        (omega (arith, none), never first_tests (length (first_questions code)), (0, omega (arith, one), never other_tests 0))

    bare_few : FewOf s block
    bare_few = by format
      where
        by : (given : Format) → TestsFewOf piece (entry_of supply halting end_rule trees auto begin) given supply.eof greatest auto s block
        by Two = let one : 2 ^ 0 ≡ 1 = refl in (0, omega (arith, one), never all_tests 0)
        by Three = bare_three

  -- the home of what reads, as a state does
  module _ (s : ℕ) (reader : Reader) (is : Reads reader)
      (own : AreTestsOf format piece.table supply.eof greatest (reader_split supply.eof greatest (state_of auto.states s).edges) (trees reader)) where
    abbrev split : Split
    split = reader_split supply.eof greatest (state_of auto.states s).edges

    fronted_three : (few : IsFronted (is_among piece.table) (top_of supply.eof greatest) split (trees reader)) (code : List Stmt)
        → first_questions code ≡ first_questions (tree_code (suc (home reader)) (tree reader)) → ThreeOf s (home reader) code
    fronted_three few code asks =
        let same : first_questions code ≡ map (λ one. one.0) few.first =
        asks ∙ ap (λ t. first_questions (tree_code (suc (home reader)) (with_blocks (ways reader) t))) few.is
        ∙ fronted-asks (ways reader) (suc (home reader)) few.rest few.others few.first few.sorts in
        let count : length (first_questions code) ≡ length few.first = ap (λ l. length l) same ∙ length-map few.first (λ one. one.0) in
        let front : depth_of first_tests (trees reader) ≡ length few.first =
        ap (λ t. depth_of first_tests t) few.is ∙ fronted-firsts few.rest few.others few.first few.sorts in
        let back : depth_of other_tests (trees reader) ≡ depth few.rest =
        ap (λ t. depth_of other_tests t) few.is ∙ fronted-others few.rest few.others few.first few.sorts in
        let five = few.at_most_five in (
          omega (arith, count, five),
          subst (λ n. FewFrom first_tests (home reader) n) (front ∙ sym count) (reader_few reader is first_tests),
          (
            depth few.rest,
            subst (λ asked. AreFewFor (left_split (any_holds (is_among piece.table) asked) (top_of supply.eof greatest) split) (depth few.rest)) (sym same) few.few,
            subst (λ n. FewFrom other_tests (home reader) n) back (reader_few reader is other_tests),
          ),
        )

    three : (few : IsFronted (is_among piece.table) (top_of supply.eof greatest) split (trees reader)) (code : List Stmt)
        → slice_get (code_of piece.blocks) (home reader) ≡ Some code → ThreeOf s (home reader) code
    three few code at = by (asked_there reader is code at)
      where
        by : IsBare code ⊎ (first_questions code ≡ first_questions (tree_code (suc (home reader)) (tree reader))) → ThreeOf s (home reader) code
        by (inl bare) =
            bare_three s (home reader) (reader_calm reader is)
            (λ other there. let same : code ≡ other = cc in subst (λ l. IsBare l) same bare) code at
        by (inr asks) = fronted_three few code asks

    few_of : FewOf s (home reader)
    few_of = by format own.few
      where
        by : (given : Format) → dispatch.TestsFew given (is_among piece.table) (top_of supply.eof greatest) split (trees reader)
            → TestsFewOf piece (entry_of supply halting end_rule trees auto begin) given supply.eof greatest auto s (home reader)
        by Two few = (
          depth (trees reader),
          few.few,
          subst (λ n. FewFrom all_tests (home reader) n) (depth_of-all (trees reader)) (reader_few reader is all_tests),
        )
        by Three few = three few

  -- ---- the states and the entry

  tests_at : (s : ℕ) → s < length auto.states
      → AreTestsOf format piece.table supply.eof greatest (reader_split supply.eof greatest (state_of auto.states s).edges) (trees (state s))
  tests_at s lt =
      let e : 0 + s ≡ s = omega arith in
      subst (λ k. AreTestsOf format piece.table supply.eof greatest (reader_split supply.eof greatest (state_of auto.states s).edges) (trees (state k))) e
      (tree_at (AreTestsOf format piece.table supply.eof greatest) supply.eof greatest trees 0 auto.states are.states s lt)

  entry_few : (rule : ℕ) → end_rule ≡ Some rule → FewOf 0 begin
  entry_few rule is = few_of 0 (entry) (rule, is) are.entry

  state_few : (s : ℕ) → HasEdge auto s → FewOf s (place_of supply halting end_rule trees auto begin s)
  state_few s edge = by (is_entered end_rule auto s) refl
    where
      begins : is_entered end_rule auto s ≡ false → place_of supply halting end_rule trees auto begin s ≡ begin
      begins never =
          place_is supply halting endings end_rule greatest trees auto begin (code_of piece.blocks) stands s (edge_within auto s edge)
          ∙ at (state_of auto.states s).edges refl
        where
          at : (edges : List Edge) → (state_of auto.states s).edges ≡ edges
              → place_by supply halting end_rule trees auto (rule_block supply halting end_rule trees auto begin)
              (fall_block supply halting end_rule trees auto begin) begin s
              (own_of piece supply halting endings end_rule greatest trees auto begin formed tests some marked stands stored s) edges
              (state_of auto.states s).accept ≡ begin
          at [] none = absurd (edge none)
          at (first_edge ∷ edges) e =
              ap (λ t. if t then own_of piece supply halting endings end_rule greatest trees auto begin formed tests some marked stands stored s else begin) never

      by : (t : Bool) → is_entered end_rule auto s ≡ t → FewOf s (place_of supply halting end_rule trees auto begin s)
      by true entered =
          let lt = edge_within auto s edge in
          let is : Reads (state s) = (lt, edge, entered) in
          subst (λ b. FewOf s b)
          (sym (place_own piece supply halting endings end_rule greatest trees auto begin formed tests some marked stands stored s is))
          (few_of s (state s) is (tests_at s lt))
      by false never =
          let apart = behind_entry end_rule auto s never in
          subst (λ b. FewOf s b) (sym (begins never)) (subst (λ k. FewOf k begin) (sym apart.zeroth) (entry_few apart.rule apart.some))

  -- a first state without an edge reads no unit
  lone_few : end_rule ≡ None → (state_of auto.states 0).edges ≡ [] → FewOf 0 (place_of supply halting end_rule trees auto begin 0)
  lone_few apart none =
      bare_few 0 (place_of supply halting end_rule trees auto begin 0) (λ stream n. (base stream n).states 0 formed.start) bare_there
    where
      lone_bare : (o : Option Accept) → IsBare (lone_code auto (rule_block supply halting end_rule trees auto begin)
          (fall_block supply halting end_rule trees auto begin) o)
      lone_bare None = record { peeks = refl; asks = refl }
      lone_bare (Some accept) = record {
        peeks = none-accept is_peek others_peek auto accept.ops (rule_block supply halting end_rule trees auto begin accept.rule);
        asks = questions_none (accept_code auto accept.ops (rule_block supply halting end_rule trees auto begin accept.rule))
            (none-accept is_first_test others_first auto accept.ops (rule_block supply halting end_rule trees auto begin accept.rule));
      }

      lone_there : StandsFrom (code_of piece.blocks)
          (own_of piece supply halting endings end_rule greatest trees auto begin formed tests some marked stands stored 0)
          (lone_blocks auto (rule_block supply halting end_rule trees auto begin) (fall_block supply halting end_rule trees auto begin) 0
          (state_of auto.states 0).accept)
      lone_there =
          subst (λ o. StandsFrom (code_of piece.blocks) own (lone_blocks auto rules fall (lone_number o 0) (state_of auto.states 0).accept)) apart
          (subst (λ l. StandsFrom (code_of piece.blocks) own
          (blocks_by supply halting end_rule trees auto rules fall begin (saved_accepts halting auto.states) (place_of supply halting end_rule trees auto begin) 0 own
          (state_of auto.states 0) l)) none
          (state_stands supply halting endings end_rule greatest trees auto begin (code_of piece.blocks) stands 0 formed.start))

      place_there : place_of supply halting end_rule trees auto begin 0
          ≡ own_of piece supply halting endings end_rule greatest trees auto begin formed tests some marked stands stored 0
      place_there =
          place_is supply halting endings end_rule greatest trees auto begin (code_of piece.blocks) stands 0 formed.start
          ∙ ap (λ l. place_by supply halting end_rule trees auto rules fall begin 0 own l (state_of auto.states 0).accept) none
          ∙ ap (λ o. place_by supply halting o trees auto rules fall begin 0 own [] (state_of auto.states 0).accept) apart

      bare_there : (code : List Stmt) → slice_get (code_of piece.blocks) (place_of supply halting end_rule trees auto begin 0) ≡ Some code
          → IsBare code
      bare_there code at =
          let lone : List Stmt = lone_code auto rules fall (state_of auto.states 0).accept in
          let here : slice_get (code_of piece.blocks) own ≡ Some code = subst (λ b. slice_get (code_of piece.blocks) b ≡ Some code) place_there at in
          let same : lone ≡ code = (let e : Some lone ≡ Some code = sym lone_there.0 ∙ here in cc) in
          subst (λ l. IsBare l) same (lone_bare (state_of auto.states 0).accept)

  first_few : FewOf 0 (entry_of supply halting end_rule trees auto begin)
  first_few = by end_rule refl
    where
      at_place : end_rule ≡ None → FewOf 0 (place_of supply halting end_rule trees auto begin 0)
      at_place apart = one (state_of auto.states 0).edges refl
        where
          one : (edges : List Edge) → (state_of auto.states 0).edges ≡ edges → FewOf 0 (place_of supply halting end_rule trees auto begin 0)
          one [] none = lone_few apart none
          one (edge ∷ edges) e = state_few 0 (λ none. (let f = sym e ∙ none in cc))

      by : (o : Option ℕ) → end_rule ≡ o → FewOf 0 (entry_by supply halting end_rule trees auto begin o)
      by None is = at_place is
      by (Some rule) is = entry_few rule is

  pub layout_tests_few : HasFewTests piece (entry_of supply halting end_rule trees auto begin) format
      (place_of supply halting end_rule trees auto begin) supply.eof greatest auto
  layout_tests_few = record { first = first_few; states = λ s edge. state_few s edge }
