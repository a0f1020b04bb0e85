-- What holds of each block of a layout with a supply of units, if it holds of the code of each sort, wherever that stands.
use Rattle.std.specs.Prelude.{◌≡◌, ℕ, suc, ◌+◌, ◌≤◌, Bool, true, false, List, [], ◌∷◌, ◌++◌, length, Option, Some, None}
use Rattle.std.specs.List.{AllByRecursion}
use Rattle.lx_auto.specs.Automaton.{state_of}
use Rattle.lx_auto.specs.declared.automaton.Accept.{Accept}
use Rattle.lx_auto.specs.declared.automaton.Auto.{Auto}
use Rattle.lx_auto.specs.declared.automaton.Edge.{Edge}
use Rattle.lx_auto.specs.declared.automaton.State.{State}
use Rattle.lx_ccode.specs.declared.piece.Stmt.{Stmt}
use Rattle.lx_layout.specs.Endings.{Ending}
use Rattle.lx_layout.specs.Halting.{Halting, ended_accepts, halted_accept, is_entered, saved_accepts}
use Rattle.lx_layout.specs.Layout.{end_blocks, ending_blocks, restore_blocks, saved_number}
use Rattle.lx_layout.specs.SuppliedLayout.{at_end_blocks, blocks_by, class_blocks, end_rule_block, end_rule_part, entry_part, entry_tests_size, entry_way, fall_block, fallback_part, first_restore, kept, lone_number, place_of, reader_blocks, rule_block, state_blocks, state_end, state_size, state_to, state_way, states_begin, states_blocks, states_part, supplied_layout, tests_of, turn_begin, turn_of, with_blocks}
use Rattle.lx_layout.specs.Supplies.{Reader, Supply, entry, state}
use Rattle.lx_dispatch.specs.TestTrees.{Asked, TestTree}
use Rattle.lx_dispatch.specs.TransitionClasses.{transition_classes}
use Rattle.lx_layout.proofs.PartLayouts.PlainBlocks.{HoldsOfPlain, OfAccept, of_classes, of_halted, plain-classes, plain-end, plain-lone, plain-rest, saved_number-few, kept_number-of}
use Rattle.lx_layout.proofs.PartLayouts.ReaderBlocks.{EachUnit, HoldsOfReaders, reader-tests, reader-turn, units-with_blocks}
use Rattle.lx_layout.proofs.Validity.EachElement.{each-append}

each-kept : (P : List Stmt → Type 0) (t : Bool) (codes : List (List Stmt)) → AllByRecursion P codes → AllByRecursion P (kept t codes)
each-kept P false codes h = tt
each-kept P true codes h = h

module _ (P : List Stmt → Type 0) (G : Asked → Type 0) (R : Reader → Type 0) (C S : ℕ → Type 0) (E : State → Edge → Type 0) (A : Accept → Type 0) (D : ℕ → Type 0)
    (supply : Supply) (halting : Halting) (endings : ℕ → Ending) (end_rule : Option ℕ) (trees : Reader → TestTree (Option ℕ)) (auto : Auto) where
  -- what is asked of a state with a number
  pub record StateAsks (number : ℕ) (given : State) : Type 0 where
    pub reader : R (state number)
    pub check : supply.eof ≡ None → C (supply.check number)
    pub units : EachUnit G (trees (state number))
    pub edges : AllByRecursion (E given) given.edges
    pub accept : OfAccept A given.accept

  abbrev pub StatesAsk : (number : ℕ) → List State → Type 0
  StatesAsk number [] = Unit {0}
  StatesAsk number (given ∷ states) = StateAsks number given × StatesAsk (suc number) states

  -- what is asked of a layout
  pub record LayoutAsks : Type 0 where
    pub readers : HoldsOfReaders P G R C supply
    pub plain : HoldsOfPlain P S E A D halting endings auto
    pub states : StatesAsk 0 auto.states
    pub entry_reads : R entry
    pub entry_units : EachUnit G (trees entry)
    pub saved : (saved : ℕ) → saved ≤ suc (length (saved_accepts halting auto.states)) → S saved
    pub ends_by : (rule : ℕ) → end_rule ≡ Some rule → D rule

  module _ (asks : LayoutAsks) where
    accepts_of : (number : ℕ) (states : List State) → StatesAsk number states → AllByRecursion (λ (given : State). OfAccept A given.accept) states
    accepts_of number [] h = tt
    accepts_of number (given ∷ states) h = (h.0.accept, accepts_of (suc number) states h.1)

    module _ (rules : ℕ → ℕ) (fall begin : ℕ) (place : ℕ → ℕ) where
      abbrev saved : List Accept
      saved = saved_accepts halting auto.states

      state_each : (number from : ℕ) (given : State) (edges : List Edge) → StateAsks number given → AllByRecursion (E given) edges
          → AllByRecursion P (blocks_by supply halting end_rule trees auto rules fall begin (saved_accepts halting auto.states) place number from given edges)
      state_each number from given [] h are =
          plain-lone P S E A D halting endings auto asks.plain rules fall (lone_number end_rule number) given.accept h.accept
      state_each number from given (edge ∷ edges) h are =
          let tests_row : List (List Stmt) = tests_of supply halting end_rule trees auto rules fall begin (saved_accepts halting auto.states) place number from given in
          let classes_row : List (List Stmt) = class_blocks halting auto (saved_accepts halting auto.states) place given (transition_classes (edge ∷ edges)) in
          let turn_row : List (List Stmt) = turn_of supply halting end_rule trees auto rules fall begin (saved_accepts halting auto.states) place number from given in
          let end_row : List (List Stmt) = end_blocks auto rules fall (halted_accept halting number given) in
          let way = state_way supply halting end_rule trees auto rules fall begin number from given in
          each-append P tests_row (classes_row ++ (turn_row ++ end_row))
          (each-kept P (is_entered end_rule auto number) _
          (reader-tests P G R C supply asks.readers (state number) (supply.check number) from
          (with_blocks (state_way supply halting end_rule trees auto rules fall begin number from given) (trees (state number))) h.reader h.check
          (units-with_blocks G (state_way supply halting end_rule trees auto rules fall begin number from given) (trees (state number)) h.units)))
          (each-append P classes_row (turn_row ++ end_row)
          (plain-classes P S E A D halting endings auto asks.plain (saved_accepts halting auto.states) place given (transition_classes (edge ∷ edges))
          (kept_number-of S halting (saved_accepts halting auto.states) given.accept
          (asks.saved (saved_number (saved_accepts halting auto.states) given.accept) (saved_number-few (saved_accepts halting auto.states) given.accept)))
          (of_classes (E given) [] (edge ∷ edges) tt are))
          (each-append P turn_row end_row
          (each-kept P (is_entered end_rule auto number) _
          (reader-turn P G R C supply asks.readers (state number) from (turn_begin supply halting end_rule trees auto number from given.edges)
          (state_to supply halting end_rule trees auto rules fall begin number from given)
          (state_end supply halting end_rule trees auto rules fall begin number from given) h.reader))
          (plain-end P S E A D halting endings auto asks.plain rules fall (halted_accept halting number given) (of_halted A halting number given h.accept))))

      states_each : (number from : ℕ) (states : List State) → StatesAsk number states
          → AllByRecursion P (states_blocks supply halting end_rule trees auto rules fall begin (saved_accepts halting auto.states) place number from states)
      states_each number from [] h = tt
      states_each number from (given ∷ states) h =
          each-append P
          (state_blocks supply halting end_rule trees auto rules fall begin (saved_accepts halting auto.states) place number from given)
          (states_blocks supply halting end_rule trees auto rules fall begin (saved_accepts halting auto.states) place (suc number)
          (from + state_size supply halting end_rule trees auto number given) states)
          (state_each number from given given.edges h.0 h.0.edges)
          (states_each (suc number) (from + state_size supply halting end_rule trees auto number given) states h.1)

    module _ (begin : ℕ) where
      abbrev rules : ℕ → ℕ
      rules = rule_block supply halting end_rule trees auto begin

      abbrev fall : ℕ
      fall = fall_block supply halting end_rule trees auto begin

      abbrev start : ℕ
      start = states_begin supply halting end_rule trees auto begin

      entry_each : (o : Option ℕ) → AllByRecursion P (entry_part supply halting end_rule trees auto begin o)
      entry_each None = tt
      entry_each (Some rule) =
          let way = entry_way supply halting end_rule trees auto rules fall begin start (state_of auto.states 0) in
          let tests_row : List (List Stmt) = reader_blocks supply.stored entry supply.eof 0 begin (with_blocks way (trees entry)) in
          let turn_row : List (List Stmt) = at_end_blocks supply entry begin (begin + entry_tests_size supply halting end_rule trees auto)
          (state_to supply halting end_rule trees auto rules fall begin 0 start (state_of auto.states 0))
          (end_rule_block supply halting end_rule trees auto begin) in
          each-append P tests_row turn_row
          (reader-tests P G R C supply asks.readers entry 0 begin (with_blocks way (trees entry)) asks.entry_reads (λ none. asks.readers.unchecked)
          (units-with_blocks G way (trees entry) asks.entry_units))
          (reader-turn P G R C supply asks.readers entry begin (begin + entry_tests_size supply halting end_rule trees auto)
          (state_to supply halting end_rule trees auto rules fall begin 0 start (state_of auto.states 0))
          (end_rule_block supply halting end_rule trees auto begin) asks.entry_reads)

      pub codes_each : AllByRecursion P (supplied_layout supply halting endings end_rule trees auto begin)
      codes_each =
          let first : List (List Stmt) = entry_part supply halting end_rule trees auto begin end_rule in
          let states : List (List Stmt) = states_part supply halting end_rule trees auto begin in
          let rest : List (List Stmt) = fallback_part halting auto (first_restore supply halting end_rule trees auto begin)
          ++ (restore_blocks rules (saved_accepts halting auto.states)
          ++ (ending_blocks endings (ended_accepts halting auto.states) ++ end_rule_part endings end_rule)) in
          each-append P first (states ++ rest) (entry_each end_rule)
          (each-append P states rest
          (states_each rules fall begin (place_of supply halting end_rule trees auto begin) 0 start auto.states asks.states)
          (plain-rest P S E A D halting endings auto asks.plain rules (first_restore supply halting end_rule trees auto begin) end_rule asks.saved
          (accepts_of 0 auto.states asks.states) asks.ends_by))
