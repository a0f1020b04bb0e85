-- The blocks of a scanner without the ends of its rules move with its first block, and with the number by which it begins to store.
use Rattle.std.specs.Prelude.{◌≡◌, ℕ, suc, ◌+◌, List, [], ◌∷◌, ◌++◌, Option, Some, None, refl}
use Rattle.std.proofs.Common.{ap, ◌∙◌, sym, arith}
use Rattle.std.proofs.lemmas.List.{append_assoc}
use Rattle.lx_auto.specs.Automaton.{state_of}
use Rattle.lx_auto.specs.declared.automaton.Accept.{Accept}
use Rattle.lx_auto.specs.declared.automaton.Auto.{Auto}
use Rattle.lx_auto.specs.declared.automaton.Edge.{Edge}
use Rattle.lx_auto.specs.declared.automaton.State.{State}
use Rattle.lx_layout.specs.Copies.{StoredBehind, SuppliesBehind, back_layout, front_layout, moved_codes}
use Rattle.lx_layout.specs.Endings.{Ending}
use Rattle.lx_layout.specs.Halting.{Halting, halted_accept, is_entered, saved_accepts}
use Rattle.lx_layout.specs.Layout.{end_blocks, restore_blocks}
use Rattle.lx_layout.specs.SuppliedLayout.{at_end_blocks, at_end_size, blocks_by, class_blocks, end_rule_block, entry_blocks, entry_part, entry_tests_size, entry_way, fall_block, fallback_part, first_restore, lone_number, place_of, reader_blocks, rule_block, size_at_end, state_blocks, state_end, state_size, state_to, state_way, states_begin, states_blocks, states_part, supplied_layout, tests_of, turn_begin, turn_of, with_blocks}
use Rattle.lx_layout.specs.Supplies.{Reader, Supply, entry, state}
use Rattle.lx_dispatch.specs.TestTrees.{TestTree}
use Rattle.lx_dispatch.specs.TransitionClasses.{transition_classes}
use Rattle.lx_layout.proofs.Fronts.MovedCodes.{append-moved, class_blocks-moved, end_blocks-moved, fallback_part-moved, kept-moved, lone_blocks-moved, restore_blocks-moved}
use Rattle.lx_layout.proofs.Fronts.MovedPlaces.{end_rule_block-moved, entry_way-moved, fall_block-moved, first_restore-moved, place_of-moved, rule_block-moved, size_at_end-moved, state_end-moved, state_size-moved, state_to-moved, state_way-moved, states_begin-moved, turn_begin-moved}
use Rattle.lx_layout.proofs.Fronts.MovedReaders.{blocks_at_end-moved, reader_blocks-moved}

-- what reads is stored by greater numbers
module _ (by stored : ℕ) (supply : Supply) (numbers_on : Option (Reader → ℕ)) (numbers_move : StoredBehind stored numbers_on supply.stored)
    (halting : Halting) (end_rule : Option ℕ) (trees : Reader → TestTree (Option ℕ)) (auto : Auto) where
  abbrev other : Supply
  other = record supply { stored = numbers_on }

  -- there are as many blocks at the end of the input
  same : size_at_end supply.eof supply.tries numbers_on ≡ at_end_size supply
  same = size_at_end-moved stored supply.eof supply.tries supply.stored numbers_on numbers_move

  at_end_blocks-moved : (reader : Reader) (block block_on here here_on : ℕ) (to to_on : ℕ → ℕ) (end end_on : ℕ) → block_on ≡ block + by
      → here_on ≡ here + by → ((unit : ℕ) → to_on unit ≡ to unit + by) → end_on ≡ end + by
      → at_end_blocks other reader block_on here_on to_on end_on ≡ moved_codes by stored (at_end_blocks supply reader block here to end)
  at_end_blocks-moved reader block block_on here here_on to to_on end end_on e f g h =
      blocks_at_end-moved by stored reader block block_on here here_on e f supply.stored numbers_on numbers_move supply.eof supply.tries
      to to_on end end_on g h

  -- the blocks of the rules' ends, of the fallback and of the entry are moved
  module _ (rules rules_on : ℕ → ℕ) (fall fall_on begin begin_on : ℕ) (rules_move : (n : ℕ) → rules_on n ≡ rules n + by)
      (fall_moves : fall_on ≡ fall + by)
      (begin_moves : begin_on ≡ begin + by) where
    -- ---- the entry

    entry_blocks-moved : (end end_on : ℕ) → end_on ≡ end + by → (from from_on : ℕ) → from_on ≡ from + by → (given : State)
        → entry_blocks other halting end_rule trees auto rules_on fall_on begin_on end_on from_on given
        ≡ moved_codes by stored (entry_blocks supply halting end_rule trees auto rules fall begin end from given)
    entry_blocks-moved end end_on e from from_on f given =
        let way = entry_way supply halting end_rule trees auto rules fall begin from given in
        let way_on = entry_way other halting end_rule trees auto rules_on fall_on begin_on from_on given in
        let here = begin + entry_tests_size supply halting end_rule trees auto in
        let here_on = begin_on + entry_tests_size other halting end_rule trees auto in
        let to = state_to supply halting end_rule trees auto rules fall begin 0 from given in
        let to_on = state_to other halting end_rule trees auto rules_on fall_on begin_on 0 from_on given in
        append-moved by stored (reader_blocks supply.stored entry supply.eof 0 begin (with_blocks way (trees entry)))
        (at_end_blocks supply entry begin here to end)
        (reader_blocks numbers_on entry supply.eof 0 begin_on (with_blocks way_on (trees entry)))
        (at_end_blocks other entry begin_on here_on to_on end_on)
        (reader_blocks-moved by stored way way_on
        (entry_way-moved by supply numbers_on same halting end_rule trees auto rules rules_on fall fall_on begin begin_on rules_move
        fall_moves begin_moves from from_on f given)
        supply.stored numbers_on numbers_move entry supply.eof 0 begin begin_on begin_moves (trees entry))
        (at_end_blocks-moved entry begin begin_on here here_on to to_on end end_on begin_moves (omega (arith, begin_moves))
        (state_to-moved by supply numbers_on same halting end_rule trees auto rules rules_on fall fall_on begin begin_on rules_move
        fall_moves begin_moves 0 from from_on f given) e)

    -- ---- the states

    -- the states' places are moved
    module _ (saved : List Accept) (place place_on : ℕ → ℕ) (place_moves : (n : ℕ) → place_on n ≡ place n + by) where
      tests_of-moved : (number from from_on : ℕ) → from_on ≡ from + by → (given : State)
          → tests_of other halting end_rule trees auto rules_on fall_on begin_on saved place_on number from_on given
          ≡ moved_codes by stored (tests_of supply halting end_rule trees auto rules fall begin saved place number from given)
      tests_of-moved number from from_on e given =
          let way = state_way supply halting end_rule trees auto rules fall begin number from given in
          let way_on = state_way other halting end_rule trees auto rules_on fall_on begin_on number from_on given in
          kept-moved by stored (is_entered end_rule auto number)
          (reader_blocks supply.stored (state number) supply.eof (supply.check number) from (with_blocks way (trees (state number))))
          (reader_blocks numbers_on (state number) supply.eof (supply.check number) from_on (with_blocks way_on (trees (state number))))
          (reader_blocks-moved by stored way way_on
          (state_way-moved by supply numbers_on same halting end_rule trees auto rules rules_on fall fall_on begin begin_on rules_move
          fall_moves begin_moves number from from_on e given)
          supply.stored numbers_on numbers_move (state number) supply.eof (supply.check number) from from_on e (trees (state number)))

      turn_of-moved : (number from from_on : ℕ) → from_on ≡ from + by → (given : State)
          → turn_of other halting end_rule trees auto rules_on fall_on begin_on saved place_on number from_on given
          ≡ moved_codes by stored (turn_of supply halting end_rule trees auto rules fall begin saved place number from given)
      turn_of-moved number from from_on e given =
          let here = turn_begin supply halting end_rule trees auto number from given.edges in
          let here_on = turn_begin other halting end_rule trees auto number from_on given.edges in
          let to = state_to supply halting end_rule trees auto rules fall begin number from given in
          let to_on = state_to other halting end_rule trees auto rules_on fall_on begin_on number from_on given in
          let end = state_end supply halting end_rule trees auto rules fall begin number from given in
          let end_on = state_end other halting end_rule trees auto rules_on fall_on begin_on number from_on given in
          kept-moved by stored (is_entered end_rule auto number) (at_end_blocks supply (state number) from here to end)
          (at_end_blocks other (state number) from_on here_on to_on end_on)
          (at_end_blocks-moved (state number) from from_on here here_on to to_on end end_on e
          (turn_begin-moved by supply numbers_on same halting end_rule trees auto number from from_on e given.edges)
          (state_to-moved by supply numbers_on same halting end_rule trees auto rules rules_on fall fall_on begin begin_on rules_move
          fall_moves begin_moves number from from_on e given)
          (state_end-moved by supply numbers_on same halting end_rule trees auto rules rules_on fall fall_on begin begin_on rules_move
          fall_moves begin_moves number from from_on e given))

      blocks_by-moved : (number from from_on : ℕ) → from_on ≡ from + by → (given : State) (edges : List Edge)
          → blocks_by other halting end_rule trees auto rules_on fall_on begin_on saved place_on number from_on given edges
          ≡ moved_codes by stored (blocks_by supply halting end_rule trees auto rules fall begin saved place number from given edges)
      blocks_by-moved number from from_on e given [] =
          lone_blocks-moved by stored auto rules rules_on fall fall_on rules_move fall_moves (lone_number end_rule number) given.accept
      blocks_by-moved number from from_on e given (edge ∷ edges) =
          let tests = tests_of supply halting end_rule trees auto rules fall begin saved place number from given in
          let tests_on = tests_of other halting end_rule trees auto rules_on fall_on begin_on saved place_on number from_on given in
          let classes = class_blocks halting auto saved place given (transition_classes (edge ∷ edges)) in
          let classes_on = class_blocks halting auto saved place_on given (transition_classes (edge ∷ edges)) in
          let turn = turn_of supply halting end_rule trees auto rules fall begin saved place number from given in
          let turn_on = turn_of other halting end_rule trees auto rules_on fall_on begin_on saved place_on number from_on given in
          let ends = end_blocks auto rules fall (halted_accept halting number given) in
          let ends_on = end_blocks auto rules_on fall_on (halted_accept halting number given) in
          append-moved by stored tests (classes ++ (turn ++ ends)) tests_on (classes_on ++ (turn_on ++ ends_on))
          (tests_of-moved number from from_on e given)
          (append-moved by stored classes (turn ++ ends) classes_on (turn_on ++ ends_on)
          (class_blocks-moved by stored halting auto saved place place_on place_moves given (transition_classes (edge ∷ edges)))
          (append-moved by stored turn ends turn_on ends_on (turn_of-moved number from from_on e given)
          (end_blocks-moved by stored auto rules rules_on fall fall_on rules_move fall_moves (halted_accept halting number given))))

      states_blocks-moved : (number from from_on : ℕ) → from_on ≡ from + by → (states : List State)
          → states_blocks other halting end_rule trees auto rules_on fall_on begin_on saved place_on number from_on states
          ≡ moved_codes by stored (states_blocks supply halting end_rule trees auto rules fall begin saved place number from states)
      states_blocks-moved number from from_on e [] = refl
      states_blocks-moved number from from_on e (given ∷ states) =
          let next = from + state_size supply halting end_rule trees auto number given in
          let next_on = from_on + state_size other halting end_rule trees auto number given in
          append-moved by stored (state_blocks supply halting end_rule trees auto rules fall begin saved place number from given)
          (states_blocks supply halting end_rule trees auto rules fall begin saved place (suc number) next states)
          (state_blocks other halting end_rule trees auto rules_on fall_on begin_on saved place_on number from_on given)
          (states_blocks other halting end_rule trees auto rules_on fall_on begin_on saved place_on (suc number) next_on states)
          (blocks_by-moved number from from_on e given given.edges)
          (states_blocks-moved (suc number) next next_on
          (let s = state_size-moved by supply numbers_on same halting end_rule trees auto number given in omega (arith, e, s)) states)

  -- ---- the parts of a front

  module _ (begin : ℕ) where
    abbrev rules : ℕ → ℕ
    rules = rule_block supply halting end_rule trees auto begin

    abbrev fall : ℕ
    fall = fall_block supply halting end_rule trees auto begin

    abbrev start : ℕ
    start = states_begin supply halting end_rule trees auto begin

    abbrev rules_of_other : ℕ → ℕ
    rules_of_other = rule_block other halting end_rule trees auto (begin + by)

    abbrev fall_of_other : ℕ
    fall_of_other = fall_block other halting end_rule trees auto (begin + by)

    abbrev start_of_other : ℕ
    start_of_other = states_begin other halting end_rule trees auto (begin + by)

    entry_part-moved : (given : Option ℕ)
        → entry_part other halting end_rule trees auto (begin + by) given
        ≡ moved_codes by stored (entry_part supply halting end_rule trees auto begin given)
    entry_part-moved None = refl
    entry_part-moved (Some rule) =
        entry_blocks-moved rules rules_of_other fall fall_of_other begin (begin + by)
        (rule_block-moved by supply numbers_on same halting end_rule trees auto begin)
        (fall_block-moved by supply numbers_on same halting end_rule trees auto begin) refl
        (end_rule_block supply halting end_rule trees auto begin) (end_rule_block other halting end_rule trees auto (begin + by))
        (end_rule_block-moved by supply numbers_on same halting end_rule trees auto begin) start start_of_other
        (states_begin-moved by supply numbers_on same halting end_rule trees auto begin) (state_of auto.states 0)

    states_part-moved : states_part other halting end_rule trees auto (begin + by)
        ≡ moved_codes by stored (states_part supply halting end_rule trees auto begin)
    states_part-moved =
        states_blocks-moved rules rules_of_other fall fall_of_other begin (begin + by)
        (rule_block-moved by supply numbers_on same halting end_rule trees auto begin)
        (fall_block-moved by supply numbers_on same halting end_rule trees auto begin) refl
        (saved_accepts halting auto.states) (place_of supply halting end_rule trees auto begin)
        (place_of other halting end_rule trees auto (begin + by))
        (place_of-moved by supply numbers_on same halting end_rule trees auto begin) 0 start start_of_other
        (states_begin-moved by supply numbers_on same halting end_rule trees auto begin) auto.states

    whole-moved : front_layout other halting end_rule trees auto (begin + by)
        ≡ moved_codes by stored (front_layout supply halting end_rule trees auto begin)
    whole-moved =
        let accepts = saved_accepts halting auto.states in
        let first = first_restore supply halting end_rule trees auto begin in
        let first_on = first_restore other halting end_rule trees auto (begin + by) in
        let entries = entry_part supply halting end_rule trees auto begin end_rule in
        let entries_on = entry_part other halting end_rule trees auto (begin + by) end_rule in
        let states = states_part supply halting end_rule trees auto begin in
        let states_on = states_part other halting end_rule trees auto (begin + by) in
        let fallback = fallback_part halting auto first in
        let fallback_on = fallback_part halting auto first_on in
        let restores = restore_blocks rules accepts in
        let restores_on = restore_blocks rules_of_other accepts in
        append-moved by stored entries (states ++ (fallback ++ restores)) entries_on (states_on ++ (fallback_on ++ restores_on))
        (entry_part-moved end_rule)
        (append-moved by stored states (fallback ++ restores) states_on (fallback_on ++ restores_on) states_part-moved
        (append-moved by stored fallback restores fallback_on restores_on
        (fallback_part-moved by stored halting auto first first_on
        (first_restore-moved by supply numbers_on same halting end_rule trees auto begin))
        (restore_blocks-moved by stored rules rules_of_other
        (rule_block-moved by supply numbers_on same halting end_rule trees auto begin) accepts)))

-- ---- the front

-- a supply behind another one is that one but for the numbers
behind-is : (stored : ℕ) (other supply : Supply) → SuppliesBehind stored other supply → other ≡ record supply { stored = other.stored }
behind-is stored other supply behind =
    ap (λ eof. record other { eof = eof }) behind.eof
    ∙ (ap (λ tries. record other { eof = supply.eof; tries = tries }) behind.tries
    ∙ (ap (λ check. record other { eof = supply.eof; tries = supply.tries; check = check }) behind.check
    ∙ ap (λ sets. record other { eof = supply.eof; tries = supply.tries; check = supply.check; among = sets }) behind.among))

pub front-moved : (stored : ℕ) (other supply : Supply) → SuppliesBehind stored other supply → (halting : Halting) (end_rule : Option ℕ)
    (trees : Reader → TestTree (Option ℕ)) (auto : Auto) (begin by : ℕ)
    → front_layout other halting end_rule trees auto (begin + by)
    ≡ moved_codes by stored (front_layout supply halting end_rule trees auto begin)
front-moved stored other supply behind halting end_rule trees auto begin by =
    ap (λ given. front_layout given halting end_rule trees auto (begin + by)) (behind-is stored other supply behind)
    ∙ whole-moved by stored supply other.stored behind.numbers halting end_rule trees auto begin

-- behind the front come the ends of the rules
pub supplied-parts : (supply : Supply) (halting : Halting) (endings : ℕ → Ending) (end_rule : Option ℕ)
    (trees : Reader → TestTree (Option ℕ)) (auto : Auto)
    (begin : ℕ)
    → supplied_layout supply halting endings end_rule trees auto begin
    ≡ front_layout supply halting end_rule trees auto begin ++ back_layout halting endings end_rule auto
supplied-parts supply halting endings end_rule trees auto begin =
    let entries = entry_part supply halting end_rule trees auto begin end_rule in
    let states = states_part supply halting end_rule trees auto begin in
    let fallback = fallback_part halting auto (first_restore supply halting end_rule trees auto begin) in
    let restores = restore_blocks (rule_block supply halting end_rule trees auto begin) (saved_accepts halting auto.states) in
    let ends = back_layout halting endings end_rule auto in
    sym
    (append_assoc entries (states ++ (fallback ++ restores)) ends
    ∙ ap (λ codes. entries ++ codes)
    (append_assoc states (fallback ++ restores) ends ∙ ap (λ codes. states ++ codes) (append_assoc fallback restores ends)))
