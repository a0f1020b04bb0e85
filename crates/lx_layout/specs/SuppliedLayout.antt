-- The blocks of an automaton whose scanner gets its units in some way: with tests of the end, checks for units, and refills.
use Rattle.std.specs.Prelude.{ℕ, zero, suc, ◌+◌, ◌<◌, ◌≤◌, Bool, true, false, List, [], ◌∷◌, ◌++◌, length, Option, Some, None, if◌then◌else◌}
use Rattle.std.specs.List.{AllByRecursion}
use Rattle.lx_auto.specs.Automaton.{edge_on, state_of}
use Rattle.lx_auto.specs.declared.automaton.Accept.{Accept}
use Rattle.lx_auto.specs.declared.automaton.Auto.{Auto}
use Rattle.lx_auto.specs.declared.automaton.Edge.{Edge}
use Rattle.lx_auto.specs.declared.automaton.State.{State}
use Rattle.lx_ccode.specs.declared.piece.Stmt.{Stmt}
use Rattle.lx_ccode.specs.declared.piece.Stmt.TheVariants.{Goto, Peek}
use Rattle.lx_ccode.specs.Statements.{targets}
use Rattle.lx_layout.specs.Fallback.{edge_code, fallback_code}
use Rattle.lx_layout.specs.Endings.{Ending, ending_code}
use Rattle.lx_layout.specs.Layout.{choices_from, class_block, end_block, end_blocks, end_size, ending_blocks, lone_blocks, lone_place, lone_size, restore_blocks, rule_place, saved_number}
use Rattle.lx_layout.specs.Halting.{Halting, any_falls, ended_accepts, halted_accept, is_entered, keeps_numbers, kept_number, saved_accepts}
use Rattle.lx_layout.specs.Supplies.{Reader, Supply, back_code, end_test, entry, need_code, state as by_state, try_code}
use Rattle.lx_dispatch.specs.TestTrees.{TestTree, cases_by, fork, leaf, switch, test}
use Rattle.lx_layout.specs.TreeCodes.{inner_blocks, inner_size, tree_code}
use Rattle.lx_dispatch.specs.TransitionClasses.{Split, edge_class, same_place, transition_classes}
use Rattle.lx_dispatch.specs.UnitApart.{reader_split}

-- ---- what reads a unit

-- a check stands in a block
abbrev pub check_size : (units : ℕ) → ℕ
check_size zero = 0
check_size (suc units) = 1

-- Tests have a block, and further ones for the lower tests. Where all units go one way there is a block for a check alone, but where a unit
-- stands at the end that is told apart from the others.
abbrev pub reader_size : {A : Type 0} → (eof : Option ℕ) → (units : ℕ) → TestTree A → ℕ
reader_size None units (leaf class) = check_size units
reader_size None units (test question class high) = suc (inner_size high)
reader_size None units (fork question low high) = suc (suc (inner_size low) + inner_size high)
reader_size None units (switch cases last) = 1
reader_size (Some eof) units tree = suc (inner_size tree)

-- what reads has so many blocks for the end of the input
abbrev pub refill_size : (tries : Bool) → (stored : Option (Reader → ℕ)) → ℕ
refill_size false stored = 1
refill_size true None = 2
refill_size true (Some number) = 3

abbrev pub size_at_end : (eof : Option ℕ) → (tries : Bool) → (stored : Option (Reader → ℕ)) → ℕ
size_at_end None tries stored = 0
size_at_end (Some eof) tries stored = refill_size tries stored

abbrev pub at_end_size : Supply → ℕ
at_end_size supply = size_at_end supply.eof supply.tries supply.stored

module _ (stored : Option (Reader → ℕ)) (reader : Reader) where
  -- a jump behind a check
  abbrev pub check_blocks : (units block : ℕ) → List (List Stmt)
  check_blocks zero block = []
  check_blocks (suc units) block = need_code stored reader (suc units) (Goto block ∷ []) ∷ []

  -- the block that reads the unit stands at `from`, behind a check, and those for its lower tests come behind it
  abbrev pub read_blocks : (units from : ℕ) → TestTree ℕ → List (List Stmt)
  read_blocks units from tree = need_code stored reader units (Peek ∷ tree_code (suc from) tree) ∷ inner_blocks (suc from) tree

  abbrev pub reader_blocks : (eof : Option ℕ) → (units from : ℕ) → TestTree ℕ → List (List Stmt)
  reader_blocks None units from (leaf block) = check_blocks units block
  reader_blocks None units from (test question block high) = read_blocks units from (test question block high)
  reader_blocks None units from (fork question low high) = read_blocks units from (fork question low high)
  reader_blocks None units from (switch cases last) = read_blocks units from (switch cases last)
  reader_blocks (Some eof) units from tree = read_blocks 0 from tree

  -- What stands where the unit at the end was read, from the block `here` on: if it is a unit of the input it leads to `to`. At the end the
  -- match ends, or a refill is tried and the unit is read anew in the reader's block.
  abbrev pub refill_blocks : (tries : Bool) → (back : Option (Reader → ℕ)) → (block here to end : ℕ) → List (List Stmt)
  refill_blocks false back block here to end = end_test end to ∷ []
  refill_blocks true None block here to end = end_test (suc here) to ∷ try_code None reader block end ∷ []
  refill_blocks true (Some number) block here to end =
      end_test (suc here) to ∷ try_code (Some number) reader block end ∷ back_code block end ∷ []

  -- of each unit it is known where it leads
  abbrev pub blocks_at_end : (eof : Option ℕ) → (tries : Bool) → (block here : ℕ) → (to : ℕ → ℕ) → (end : ℕ) → List (List Stmt)
  blocks_at_end None tries block here to end = []
  blocks_at_end (Some eof) tries block here to end = refill_blocks tries stored block here (to eof) end

abbrev pub at_end_blocks : Supply → Reader → (block here : ℕ) → (to : ℕ → ℕ) → (end : ℕ) → List (List Stmt)
at_end_blocks supply reader block here to end = blocks_at_end supply.stored reader supply.eof supply.tries block here to end

-- the blocks of the classes that a tree picks
abbrev pub with_blocks : (block : Option ℕ → ℕ) → TestTree (Option ℕ) → TestTree ℕ
with_blocks block (leaf class) = leaf (block class)
with_blocks block (test question class high) = test question (block class) (with_blocks block high)
with_blocks block (fork question low high) = fork question (with_blocks block low) (with_blocks block high)
with_blocks block (switch cases last) = switch (cases_by block cases) (block last)

-- the numbers by which states are saved, if they are kept
abbrev pub number_in : Halting → List State → Option (ℕ → ℕ)
number_in halting states =
    if keeps_numbers halting halting.format (saved_accepts halting states) then Some (λ number. saved_number (saved_accepts halting states) (state_of states number).accept) else None

-- the blocks of transition classes, if the states stand at these places
abbrev pub class_blocks : Halting → Auto → (saved_accepts : List Accept) → (place : ℕ → ℕ) → State → (classes : List Edge) → List (List Stmt)
class_blocks halting auto saved place given [] = []
class_blocks halting auto saved place given (class ∷ classes) =
    edge_code halting auto given (kept_number halting saved given.accept) class (place class.to) ∷ class_blocks halting auto saved place given classes

-- ---- a state, and the entry where a rule stands at the end of the input

-- only if it is asked for
abbrev pub sized : Bool → ℕ → ℕ
sized false size = 0
sized true size = size

abbrev pub kept : Bool → List (List Stmt) → List (List Stmt)
kept false blocks = []
kept true blocks = blocks

-- state 0 without edges has a block in any case where the entry does not stand apart
abbrev pub lone_number : (end_rule : Option ℕ) → (number : ℕ) → ℕ
lone_number None number = number
lone_number (Some rule) number = suc number

module _ (supply : Supply) (halting : Halting) (end_rule : Option ℕ) (trees : Reader → TestTree (Option ℕ)) (auto : Auto) where
  -- how many blocks a state has for its tests, and for the end of the input; none where it is no reader
  abbrev pub tests_size : (number : ℕ) → ℕ
  tests_size number =
      sized (is_entered end_rule auto number) (reader_size supply.eof (supply.check number) (trees (by_state number)))

  abbrev pub turn_size : (number : ℕ) → ℕ
  turn_size number = sized (is_entered end_rule auto number) (at_end_size supply)

  -- where the blocks of its classes begin, if its own ones begin at `from`; where those for the end of the input do; and where its own end stands
  abbrev pub classes_begin : (number from : ℕ) → List Edge → ℕ
  classes_begin number from [] = from
  classes_begin number from (edge ∷ edges) = from + tests_size number

  abbrev pub turn_begin : (number from : ℕ) → List Edge → ℕ
  turn_begin number from edges = classes_begin number from edges + length (transition_classes edges)

  abbrev pub own_end : (number from : ℕ) → List Edge → ℕ
  own_end number from [] = from
  own_end number from (edge ∷ edges) = turn_begin number from (edge ∷ edges) + turn_size number

  -- the end of a match has a block only where one can end
  abbrev pub size_in : (number : ℕ) → State → List Edge → ℕ
  size_in number given [] = lone_size (lone_number end_rule number) given.accept
  size_in number given (edge ∷ edges) =
      tests_size number + (length (transition_classes (edge ∷ edges)) + (turn_size number + end_size (halted_accept halting number given)))

  abbrev pub state_size : (number : ℕ) → State → ℕ
  state_size number given = size_in number given given.edges

  -- where the blocks of states end, if the first ones begin at `from`
  abbrev pub end_of : (number from : ℕ) → List State → ℕ
  end_of number from [] = from
  end_of number from (given ∷ states) = end_of (suc number) (from + state_size number given) states

  -- the entry, where it stands apart
  abbrev pub entry_tests_size : ℕ
  entry_tests_size = reader_size supply.eof 0 (trees entry)

  abbrev pub entry_part_size : Option ℕ → ℕ
  entry_part_size None = 0
  entry_part_size (Some rule) = entry_tests_size + at_end_size supply

  -- the entry stands at `begin`, and the blocks of rules and of the fallback are known
  module _ (rules : ℕ → ℕ) (fall begin : ℕ) where
    -- where a match ends in a state, whose blocks begin at `from`
    abbrev pub state_end : (number from : ℕ) → State → ℕ
    state_end number from given = end_block auto rules fall (own_end number from given.edges) given.accept

    -- the block of a class of a state; the unit at the end has the place behind those of the classes
    abbrev pub state_way : (number from : ℕ) → State → Option ℕ → ℕ
    state_way number from given class = class_block (classes_begin number from given.edges) (state_end number from given) class

    -- where a unit of the input leads
    abbrev pub state_to : (number from : ℕ) → State → (unit : ℕ) → ℕ
    state_to number from given unit = state_way number from given (edge_class (transition_classes given.edges) (edge_on given.edges unit))

    -- where the code of a state stands; a match that comes to a state which no edge leads to is one that begins
    abbrev pub place_by : (number from : ℕ) → List Edge → Option Accept → ℕ
    place_by number from [] accept = lone_place auto rules fall (lone_number end_rule number) from accept
    place_by number from (edge ∷ edges) accept = if is_entered end_rule auto number then from else begin

    abbrev pub place_in : (number from : ℕ) → List State → (n : ℕ) → ℕ
    place_in number from [] n = from
    place_in number from (given ∷ states) zero = place_by number from given.edges given.accept
    place_in number from (given ∷ states) (suc n) = place_in (suc number) (from + state_size number given) states n

    -- the entry leads as state 0 does, whose blocks begin at `from`; where the unit at the end was read it has blocks of its own
    abbrev pub entry_way : (from : ℕ) → State → Option ℕ → ℕ
    entry_way from given class =
        if same_place class (Some (length (transition_classes given.edges))) then begin + entry_tests_size else state_way 0 from given class

    abbrev pub entry_blocks : (end from : ℕ) → State → List (List Stmt)
    entry_blocks end from given =
        reader_blocks supply.stored entry supply.eof 0 begin (with_blocks (entry_way from given) (trees entry))
        ++ at_end_blocks supply entry begin (begin + entry_tests_size) (state_to 0 from given) end

    module _ (saved : List Accept) (place : ℕ → ℕ) where
      abbrev pub tests_of : (number from : ℕ) → State → List (List Stmt)
      tests_of number from given =
          kept (is_entered end_rule auto number)
          (reader_blocks supply.stored (by_state number) supply.eof (supply.check number) from
          (with_blocks (state_way number from given) (trees (by_state number))))

      abbrev pub turn_of : (number from : ℕ) → State → List (List Stmt)
      turn_of number from given =
          kept (is_entered end_rule auto number)
          (at_end_blocks supply (by_state number) from (turn_begin number from given.edges) (state_to number from given) (state_end number from given))

      abbrev pub blocks_by : (number from : ℕ) → State → List Edge → List (List Stmt)
      blocks_by number from given [] = lone_blocks auto rules fall (lone_number end_rule number) given.accept
      blocks_by number from given (edge ∷ edges) =
          tests_of number from given
          ++ (class_blocks halting auto saved place given (transition_classes (edge ∷ edges))
          ++ (turn_of number from given ++ end_blocks auto rules fall (halted_accept halting number given)))

      abbrev pub state_blocks : (number from : ℕ) → State → List (List Stmt)
      state_blocks number from given = blocks_by number from given given.edges

      abbrev pub states_blocks : (number from : ℕ) → List State → List (List Stmt)
      states_blocks number from [] = []
      states_blocks number from (given ∷ states) =
          state_blocks number from given ++ states_blocks (suc number) (from + state_size number given) states

  -- ---- the whole, if its first block stands at `begin`

  abbrev pub states_begin : (begin : ℕ) → ℕ
  states_begin begin = begin + entry_part_size end_rule

  -- Behind the states comes the fallback, if a match falls back from some state, then what is done in it by rule, then the ends of the
  -- rules, and at last that of `$`.
  abbrev pub fall_block : (begin : ℕ) → ℕ
  fall_block begin = end_of 0 (states_begin begin) auto.states

  abbrev pub first_restore : (begin : ℕ) → ℕ
  first_restore begin = fall_block begin + sized (any_falls halting 0 auto.states) 1

  abbrev pub first_rule : (begin : ℕ) → ℕ
  first_rule begin = first_restore begin + length (saved_accepts halting auto.states)

  abbrev pub rule_block : (begin : ℕ) → (rule : ℕ) → ℕ
  rule_block begin rule = first_rule begin + rule_place (ended_accepts halting auto.states) rule

  abbrev pub end_rule_block : (begin : ℕ) → ℕ
  end_rule_block begin = first_rule begin + length (ended_accepts halting auto.states)

  abbrev pub place_of : (begin number : ℕ) → ℕ
  place_of begin number = place_in (rule_block begin) (fall_block begin) begin 0 (states_begin begin) auto.states number

  -- where a match begins
  abbrev pub entry_by : (begin : ℕ) → Option ℕ → ℕ
  entry_by begin None = place_of begin 0
  entry_by begin (Some rule) = begin

  abbrev pub entry_of : (begin : ℕ) → ℕ
  entry_of begin = entry_by begin end_rule

  abbrev pub entry_part : (begin : ℕ) → Option ℕ → List (List Stmt)
  entry_part begin None = []
  entry_part begin (Some rule) =
      entry_blocks (rule_block begin) (fall_block begin) begin (end_rule_block begin) (states_begin begin) (state_of auto.states 0)

  abbrev pub states_part : (begin : ℕ) → List (List Stmt)
  states_part begin =
      states_blocks (rule_block begin) (fall_block begin) begin (saved_accepts halting auto.states) (place_of begin) 0 (states_begin begin) auto.states

-- the end of the rule that stands at the end of the input, which has no values
abbrev pub end_rule_part : (endings : ℕ → Ending) → (end_rule : Option ℕ) → List (List Stmt)
end_rule_part endings None = []
end_rule_part endings (Some rule) = ending_code endings rule [] ∷ []

abbrev pub fallback_part : Halting → Auto → (first_restore : ℕ) → List (List Stmt)
fallback_part halting auto first_restore =
    kept (any_falls halting 0 auto.states)
    (fallback_code (halting.falls 0) (choices_from 1 first_restore (saved_accepts halting auto.states)) ∷ [])

-- The blocks of the automaton with this supply of units and this rule at the end of the input, by trees of the tests of all that reads, and
-- by marks of the states in which a match can end.
abbrev pub supplied_layout : Supply → Halting → (endings : ℕ → Ending) → (end_rule : Option ℕ) → (trees : Reader → TestTree (Option ℕ)) → Auto → (begin : ℕ) → List (List Stmt)
supplied_layout supply halting endings end_rule trees auto begin =
    entry_part supply halting end_rule trees auto begin end_rule
    ++ (states_part supply halting end_rule trees auto begin
    ++ (fallback_part halting auto (first_restore supply halting end_rule trees auto begin)
    ++ (restore_blocks (rule_block supply halting end_rule trees auto begin) (saved_accepts halting auto.states)
    ++ (ending_blocks endings (ended_accepts halting auto.states) ++ end_rule_part endings end_rule))))

-- ---- jumps

-- where the statement jumps, it jumps to a block of some sort
abbrev pub JumpsTo : (B : ℕ → Type 0) → Stmt → Type 0
JumpsTo B statement = AllByRecursion B (targets statement)

-- where it jumps, it jumps to a block from one on that comes before another one
abbrev pub JumpsWithin : (low high : ℕ) → Stmt → Type 0
JumpsWithin low high statement = JumpsTo (λ block. (low ≤ block) × (block < high)) statement

-- ---- the trees

-- of the tests of each state of a list, and of its tree
module _ (P : Split → TestTree (Option ℕ) → Type 0) (eof : Option ℕ) (greatest : ℕ) (trees : Reader → TestTree (Option ℕ)) where
  abbrev pub EachState : (number : ℕ) → List State → Type 0
  EachState number [] = Unit {0}
  EachState number (given ∷ states) = P (reader_split eof greatest given.edges) (trees (by_state number)) × EachState (suc number) states

  -- of all that reads: the entry reads as state 0
  pub record EachReader (auto : Auto) : Type 0 where
    pub states : EachState 0 auto.states
    pub entry : P (reader_split eof greatest (state_of auto.states 0).edges) (trees entry)
