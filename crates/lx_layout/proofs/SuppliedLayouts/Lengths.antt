-- How many blocks a layout with a supply of units has, and its parts.
use Rattle.std.specs.Prelude.{◌≡◌, ℕ, suc, ◌+◌, Bool, true, false, List, [], ◌∷◌, ◌++◌, length, Option, Some, None, refl}
use Rattle.std.proofs.Common.{ap, ◌∙◌, arith, length-append}
use Rattle.lx_auto.specs.Automaton.{state_of}
use Rattle.lx_auto.specs.declared.automaton.Accept.{Accept}
use Rattle.lx_auto.specs.declared.automaton.Auto.{Auto}
use Rattle.lx_auto.specs.declared.automaton.Edge.{Edge}
use Rattle.lx_auto.specs.declared.automaton.State.{State}
use Rattle.lx_ccode.specs.declared.piece.Stmt.{Stmt}
use Rattle.lx_layout.specs.Endings.{Ending}
use Rattle.lx_layout.specs.Halting.{Halting, any_falls, ended_accepts, halted_accept, is_entered, saved_accepts}
use Rattle.lx_layout.specs.Layout.{end_blocks, ending_blocks, restore_blocks}
use Rattle.lx_layout.specs.SuppliedLayout.{at_end_blocks, blocks_by, class_blocks, end_of, end_rule_block, end_rule_part, supplied_layout, states_part, place_of, entry_part, entry_part_size, entry_tests_size, entry_way, fall_block, fallback_part, first_restore, rule_block, states_begin, kept, lone_number, reader_blocks, size_in, sized, state_blocks, state_end, state_size, state_to, state_way, states_blocks, tests_of, tests_size, turn_begin, turn_of, turn_size, with_blocks}
use Rattle.lx_layout.specs.Supplies.{Reader, Supply, entry, state}
use Rattle.lx_dispatch.specs.TestTrees.{TestTree, leaf}
use Rattle.lx_dispatch.specs.TransitionClasses.{transition_classes}
use Rattle.lx_layout.proofs.BlockLayouts.LayoutLengths.{length-end_blocks, length-ending_blocks, length-lone_blocks, length-restore_blocks}
use Rattle.lx_layout.proofs.SuppliedLayouts.Readers.{length-at_end_blocks, length-reader_blocks, reader_size-with_blocks}

length-kept : (t : Bool) (blocks : List (List Stmt)) (size : ℕ) → length blocks ≡ size → length (kept t blocks) ≡ sized t size
length-kept false blocks size e = refl
length-kept true blocks size e = e

abbrev pub no_trees : ℕ → TestTree (Option ℕ)
no_trees number = leaf None

pub length-class_blocks : (halting : Halting) (auto : Auto) (saved : List Accept) (place : ℕ → ℕ) (given : State) (classes : List Edge)
    → length (class_blocks halting auto saved place given classes) ≡ length classes
length-class_blocks halting auto saved place given [] = refl
length-class_blocks halting auto saved place given (class ∷ classes) = ap suc (length-class_blocks halting auto saved place given classes)

-- the fallback has one block, or none
pub length-fallback_part : (halting : Halting) (auto : Auto) (first : ℕ)
    → length (fallback_part halting auto first) ≡ sized (any_falls halting 0 auto.states) 1
length-fallback_part halting auto first = length-kept (any_falls halting 0 auto.states) _ 1 refl

module _ (supply : Supply) (halting : Halting) (end_rule : Option ℕ) (trees : Reader → TestTree (Option ℕ)) (auto : Auto) (rules : ℕ → ℕ) (fall begin : ℕ)
    (saved_list : List Accept) (place : ℕ → ℕ) where
  pub length-tests_of : (number from : ℕ) (given : State)
      → length (tests_of supply halting end_rule trees auto rules fall begin saved_list place number from given) ≡ tests_size supply halting end_rule trees auto number
  length-tests_of number from given =
      let tree : TestTree ℕ = with_blocks (state_way supply halting end_rule trees auto rules fall begin number from given) (trees (state number)) in
      length-kept (is_entered end_rule auto number) (reader_blocks supply.stored (state number) supply.eof (supply.check number) from tree) _
      (length-reader_blocks supply.stored (state number) supply.eof (supply.check number) from tree
      ∙ reader_size-with_blocks (state_way supply halting end_rule trees auto rules fall begin number from given) supply.eof (supply.check number) (trees (state number)))

  pub length-turn_of : (number from : ℕ) (given : State)
      → length (turn_of supply halting end_rule trees auto rules fall begin saved_list place number from given) ≡ turn_size supply halting end_rule trees auto number
  length-turn_of number from given =
      length-kept (is_entered end_rule auto number) _ _
      (length-at_end_blocks supply (state number) from (turn_begin supply halting end_rule trees auto number from given.edges)
      (state_to supply halting end_rule trees auto rules fall begin number from given) (state_end supply halting end_rule trees auto rules fall begin number from given))

  length-blocks_by : (number from : ℕ) (given : State) (edges : List Edge)
      → length (blocks_by supply halting end_rule trees auto rules fall begin saved_list place number from given edges)
      ≡ size_in supply halting end_rule trees auto number given edges
  length-blocks_by number from given [] = length-lone_blocks no_trees auto rules fall (lone_number end_rule number) given.accept
  length-blocks_by number from given (edge ∷ edges) =
      let tests : List (List Stmt) = tests_of supply halting end_rule trees auto rules fall begin saved_list place number from given in
      let classes : List (List Stmt) = class_blocks halting auto saved_list place given (transition_classes (edge ∷ edges)) in
      let turns : List (List Stmt) = turn_of supply halting end_rule trees auto rules fall begin saved_list place number from given in
      let ends : List (List Stmt) = end_blocks auto rules fall (halted_accept halting number given) in
      let a = length-tests_of number from given in
      let b = length-class_blocks halting auto saved_list place given (transition_classes (edge ∷ edges)) in
      let c = length-turn_of number from given in
      let d = length-end_blocks no_trees auto rules fall (halted_accept halting number given) in
      let e = length-append turns ends in
      let f = length-append classes (turns ++ ends) in
      let g = length-append tests (classes ++ (turns ++ ends)) in
      omega (arith, a, b, c, d, e, f, g)

  pub length-state_blocks : (number from : ℕ) (given : State)
      → length (state_blocks supply halting end_rule trees auto rules fall begin saved_list place number from given)
      ≡ state_size supply halting end_rule trees auto number given
  length-state_blocks number from given = length-blocks_by number from given given.edges

  pub length-states_blocks : (number from : ℕ) (states : List State)
      → from + length (states_blocks supply halting end_rule trees auto rules fall begin saved_list place number from states)
      ≡ end_of supply halting end_rule trees auto number from states
  length-states_blocks number from [] = omega arith
  length-states_blocks number from (given ∷ states) =
      let own : List (List Stmt) = state_blocks supply halting end_rule trees auto rules fall begin saved_list place number from given in
      let next : ℕ = from + state_size supply halting end_rule trees auto number given in
      let others : List (List Stmt) = states_blocks supply halting end_rule trees auto rules fall begin saved_list place (suc number)
      (from + state_size supply halting end_rule trees auto number given) states in
      let a = length-append own others in
      let b = length-state_blocks number from given in
      let c = length-states_blocks (suc number) (from + state_size supply halting end_rule trees auto number given) states in
      omega (arith, a, b, c)

-- the entry, where it stands apart
module _ (supply : Supply) (halting : Halting) (endings : ℕ → Ending) (end_rule : Option ℕ) (trees : Reader → TestTree (Option ℕ)) (auto : Auto) (begin : ℕ) where
  pub length-entry_part : (given : Option ℕ) → length (entry_part supply halting end_rule trees auto begin given) ≡ entry_part_size supply halting end_rule trees auto given
  length-entry_part None = refl
  length-entry_part (Some rule) =
      let rules : ℕ → ℕ = rule_block supply halting end_rule trees auto begin in
      let fall : ℕ = fall_block supply halting end_rule trees auto begin in
      let start : ℕ = states_begin supply halting end_rule trees auto begin in
      let block_of : Option ℕ → ℕ = entry_way supply halting end_rule trees auto (rule_block supply halting end_rule trees auto begin)
      (fall_block supply halting end_rule trees auto begin) begin (states_begin supply halting end_rule trees auto begin) (state_of auto.states 0) in
      let tests : List (List Stmt) = reader_blocks supply.stored entry supply.eof 0 begin (with_blocks block_of (trees entry)) in
      let turn : List (List Stmt) = at_end_blocks supply entry begin (begin + entry_tests_size supply halting end_rule trees auto)
      (state_to supply halting end_rule trees auto rules fall begin 0 start (state_of auto.states 0)) (end_rule_block supply halting end_rule trees auto begin) in
      let a = length-reader_blocks supply.stored entry supply.eof 0 begin (with_blocks block_of (trees entry))
      ∙ reader_size-with_blocks block_of supply.eof 0 (trees entry) in
      let b = length-at_end_blocks supply entry begin (begin + entry_tests_size supply halting end_rule trees auto)
      (state_to supply halting end_rule trees auto rules fall begin 0 start (state_of auto.states 0)) (end_rule_block supply halting end_rule trees auto begin) in
      let c = length-append tests turn in
      omega (arith, a, b, c)

  -- behind the last end of a rule there is no block
  pub length-layout : begin + length (supplied_layout supply halting endings end_rule trees auto begin)
      ≡ end_rule_block supply halting end_rule trees auto begin + length (end_rule_part endings end_rule)
  length-layout =
      let rules : ℕ → ℕ = rule_block supply halting end_rule trees auto begin in
      let fall : ℕ = fall_block supply halting end_rule trees auto begin in
      let place : ℕ → ℕ = place_of supply halting end_rule trees auto begin in
      let first : List (List Stmt) = entry_part supply halting end_rule trees auto begin end_rule in
      let states : List (List Stmt) = states_part supply halting end_rule trees auto begin in
      let fallback : List (List Stmt) = fallback_part halting auto (first_restore supply halting end_rule trees auto begin) in
      let restores : List (List Stmt) = restore_blocks (rule_block supply halting end_rule trees auto begin) (saved_accepts halting auto.states) in
      let ends : List (List Stmt) = ending_blocks endings (ended_accepts halting auto.states) in
      let last : List (List Stmt) = end_rule_part endings end_rule in
      let a = length-entry_part end_rule in
      let b = length-states_blocks supply halting end_rule trees auto rules fall begin (saved_accepts halting auto.states) place 0
      (states_begin supply halting end_rule trees auto begin) auto.states in
      let c = length-restore_blocks rules (saved_accepts halting auto.states) in
      let d = length-ending_blocks endings (ended_accepts halting auto.states) in
      let k = length-fallback_part halting auto (first_restore supply halting end_rule trees auto begin) in
      let e = length-append first (states ++ (fallback ++ (restores ++ (ends ++ last)))) in
      let f = length-append states (fallback ++ (restores ++ (ends ++ last))) in
      let i = length-append fallback (restores ++ (ends ++ last)) in
      let g = length-append restores (ends ++ last) in
      let h = length-append ends last in
      omega (arith, a, b, c, d, e, f, g, h, i, k)
