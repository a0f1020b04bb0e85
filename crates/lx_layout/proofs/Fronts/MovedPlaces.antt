-- The numbers of blocks of a scanner move with its first block.
use Rattle.std.specs.Prelude.{◌≡◌, ℕ, zero, suc, ◌+◌, Bool, true, false, List, [], ◌∷◌, length, Option, Some, None, refl, if◌then◌else◌}
use Rattle.std.proofs.Common.{ap, arith}
use Rattle.lx_auto.specs.Automaton.{edge_on}
use Rattle.lx_auto.specs.declared.automaton.Accept.{Accept}
use Rattle.lx_auto.specs.declared.automaton.Auto.{Auto}
use Rattle.lx_auto.specs.declared.automaton.Edge.{Edge}
use Rattle.lx_auto.specs.declared.automaton.State.{State}
use Rattle.lx_auto.specs.declared.ops.Op.{Op}
use Rattle.lx_layout.specs.Copies.{StoredBehind}
use Rattle.lx_layout.specs.Halting.{Halting, halted_accept, is_entered}
use Rattle.lx_layout.specs.Layout.{class_block, end_block, end_size, lone_place, own_block}
use Rattle.lx_layout.specs.SuppliedLayout.{at_end_size, classes_begin, end_of, end_rule_block, entry_part_size, entry_tests_size, entry_way, fall_block, first_restore, first_rule, lone_number, own_end, place_by, place_in, place_of, refill_size, rule_block, size_at_end, size_in, sized, state_end, state_size, state_to, state_way, states_begin, tests_size, turn_begin, turn_size}
use Rattle.lx_layout.specs.Supplies.{Reader, Supply}
use Rattle.lx_dispatch.specs.TestTrees.{TestTree}
use Rattle.lx_dispatch.specs.TransitionClasses.{edge_class, same_place, transition_classes}

-- where what reads is stored by greater numbers there are as many blocks at the end of the input
refill_size-moved : (stored : ℕ) (tries : Bool) (numbers numbers_on : Option (Reader → ℕ)) → StoredBehind stored numbers_on numbers
    → refill_size tries numbers_on ≡ refill_size tries numbers
refill_size-moved stored false numbers numbers_on behind = refl
refill_size-moved stored true None None behind = refl
refill_size-moved stored true None (Some number_on) behind = absurd behind
refill_size-moved stored true (Some number) None behind = absurd behind
refill_size-moved stored true (Some number) (Some number_on) behind = refl

pub size_at_end-moved : (stored : ℕ) (eof : Option ℕ) (tries : Bool) (numbers numbers_on : Option (Reader → ℕ))
    → StoredBehind stored numbers_on numbers
    → size_at_end eof tries numbers_on ≡ size_at_end eof tries numbers
size_at_end-moved stored None tries numbers numbers_on behind = refl
size_at_end-moved stored (Some eof) tries numbers numbers_on behind = refill_size-moved stored tries numbers numbers_on behind

-- of two numbers that are moved, the same one is taken
if-moved : (by : ℕ) (t : Bool) (a a_on b b_on : ℕ) → a_on ≡ a + by → b_on ≡ b + by → (if t then a_on else b_on) ≡ (if t then a else b) + by
if-moved by true a a_on b b_on e f = e
if-moved by false a a_on b b_on e f = f

class_block-moved : (by first first_on end end_on : ℕ) → first_on ≡ first + by → end_on ≡ end + by → (class : Option ℕ)
    → class_block first_on end_on class ≡ class_block first end class + by
class_block-moved by first first_on end end_on e f None = f
class_block-moved by first first_on end end_on e f (Some place) = omega (arith, e)

own_block-moved : (by own own_on rule rule_on : ℕ) → own_on ≡ own + by → rule_on ≡ rule + by → (ops : List Op)
    → own_block own_on rule_on ops ≡ own_block own rule ops + by
own_block-moved by own own_on rule rule_on e f [] = f
own_block-moved by own own_on rule rule_on e f (op ∷ ops) = e

-- the supplies store by other numbers, and have as many blocks at the end of the input
module _ (by : ℕ) (supply : Supply) (numbers_on : Option (Reader → ℕ))
    (same : size_at_end supply.eof supply.tries numbers_on ≡ at_end_size supply)
    (halting : Halting) (end_rule : Option ℕ) (trees : Reader → TestTree (Option ℕ)) (auto : Auto) where
  abbrev other : Supply
  other = record supply { stored = numbers_on }

  -- ---- sizes

  turn_size-moved : (number : ℕ) → turn_size other halting end_rule trees auto number ≡ turn_size supply halting end_rule trees auto number
  turn_size-moved number = ap (λ n. sized (is_entered end_rule auto number) n) same

  size_in-moved : (number : ℕ) (given : State) (edges : List Edge)
      → size_in other halting end_rule trees auto number given edges ≡ size_in supply halting end_rule trees auto number given edges
  size_in-moved number given [] = refl
  size_in-moved number given (edge ∷ edges) =
      ap
      (λ n. tests_size supply halting end_rule trees auto number
      + (length (transition_classes (edge ∷ edges)) + (n + end_size (halted_accept halting number given))))
      (turn_size-moved number)

  pub state_size-moved : (number : ℕ) (given : State)
      → state_size other halting end_rule trees auto number given ≡ state_size supply halting end_rule trees auto number given
  state_size-moved number given = size_in-moved number given given.edges

  entry_part_size-moved : (given : Option ℕ)
      → entry_part_size other halting end_rule trees auto given ≡ entry_part_size supply halting end_rule trees auto given
  entry_part_size-moved None = refl
  entry_part_size-moved (Some rule) = ap (λ n. entry_tests_size supply halting end_rule trees auto + n) same

  -- ---- where a state's blocks begin and end

  classes_begin-moved : (number from from_on : ℕ) → from_on ≡ from + by → (edges : List Edge)
      → classes_begin other halting end_rule trees auto number from_on edges
      ≡ classes_begin supply halting end_rule trees auto number from edges + by
  classes_begin-moved number from from_on e [] = e
  classes_begin-moved number from from_on e (edge ∷ edges) = omega (arith, e)

  pub turn_begin-moved : (number from from_on : ℕ) → from_on ≡ from + by → (edges : List Edge)
      → turn_begin other halting end_rule trees auto number from_on edges
      ≡ turn_begin supply halting end_rule trees auto number from edges + by
  turn_begin-moved number from from_on e edges =
      let a = classes_begin-moved number from from_on e edges in
      omega (arith, a)

  own_end-moved : (number from from_on : ℕ) → from_on ≡ from + by → (edges : List Edge)
      → own_end other halting end_rule trees auto number from_on edges ≡ own_end supply halting end_rule trees auto number from edges + by
  own_end-moved number from from_on e [] = e
  own_end-moved number from from_on e (edge ∷ edges) =
      let a = turn_begin-moved number from from_on e (edge ∷ edges) in
      let b = turn_size-moved number in
      omega (arith, a, b)

  end_of-moved : (number from from_on : ℕ) → from_on ≡ from + by → (states : List State)
      → end_of other halting end_rule trees auto number from_on states ≡ end_of supply halting end_rule trees auto number from states + by
  end_of-moved number from from_on e [] = e
  end_of-moved number from from_on e (given ∷ states) =
      end_of-moved (suc number) (from + state_size supply halting end_rule trees auto number given)
      (from_on + state_size other halting end_rule trees auto number given)
      (let s = state_size-moved number given in omega (arith, e, s)) states

  -- ---- where a state leads

  -- the blocks of the rules' ends, of the fallback and of the entry are moved
  module _ (rules rules_on : ℕ → ℕ) (fall fall_on begin begin_on : ℕ) (rules_move : (n : ℕ) → rules_on n ≡ rules n + by)
      (fall_moves : fall_on ≡ fall + by)
      (begin_moves : begin_on ≡ begin + by) where
    end_block-moved : (own own_on : ℕ) → own_on ≡ own + by → (accept : Option Accept)
        → end_block auto rules_on fall_on own_on accept ≡ end_block auto rules fall own accept + by
    end_block-moved own own_on e None = fall_moves
    end_block-moved own own_on e (Some accept) =
        own_block-moved by own own_on (rules accept.rule) (rules_on accept.rule) e (rules_move accept.rule) accept.ops

    lone_place-moved : (number own own_on : ℕ) → own_on ≡ own + by → (accept : Option Accept)
        → lone_place auto rules_on fall_on number own_on accept ≡ lone_place auto rules fall number own accept + by
    lone_place-moved zero own own_on e accept = e
    lone_place-moved (suc number) own own_on e accept = end_block-moved own own_on e accept

    pub state_end-moved : (number from from_on : ℕ) → from_on ≡ from + by → (given : State)
        → state_end other halting end_rule trees auto rules_on fall_on begin_on number from_on given
        ≡ state_end supply halting end_rule trees auto rules fall begin number from given + by
    state_end-moved number from from_on e given =
        end_block-moved (own_end supply halting end_rule trees auto number from given.edges)
        (own_end other halting end_rule trees auto number from_on given.edges)
        (own_end-moved number from from_on e given.edges) given.accept

    pub state_way-moved : (number from from_on : ℕ) → from_on ≡ from + by → (given : State) (class : Option ℕ)
        → state_way other halting end_rule trees auto rules_on fall_on begin_on number from_on given class
        ≡ state_way supply halting end_rule trees auto rules fall begin number from given class + by
    state_way-moved number from from_on e given class =
        class_block-moved by (classes_begin supply halting end_rule trees auto number from given.edges)
        (classes_begin other halting end_rule trees auto number from_on given.edges)
        (state_end supply halting end_rule trees auto rules fall begin number from given)
        (state_end other halting end_rule trees auto rules_on fall_on begin_on number from_on given)
        (classes_begin-moved number from from_on e given.edges) (state_end-moved number from from_on e given) class

    pub state_to-moved : (number from from_on : ℕ) → from_on ≡ from + by → (given : State) (unit : ℕ)
        → state_to other halting end_rule trees auto rules_on fall_on begin_on number from_on given unit
        ≡ state_to supply halting end_rule trees auto rules fall begin number from given unit + by
    state_to-moved number from from_on e given unit =
        state_way-moved number from from_on e given (edge_class (transition_classes given.edges) (edge_on given.edges unit))

    place_by-moved : (number from from_on : ℕ) → from_on ≡ from + by → (edges : List Edge) (accept : Option Accept)
        → place_by other halting end_rule trees auto rules_on fall_on begin_on number from_on edges accept
        ≡ place_by supply halting end_rule trees auto rules fall begin number from edges accept + by
    place_by-moved number from from_on e [] accept = lone_place-moved (lone_number end_rule number) from from_on e accept
    place_by-moved number from from_on e (edge ∷ edges) accept =
        if-moved by (is_entered end_rule auto number) from from_on begin begin_on e begin_moves

    place_in-moved : (number from from_on : ℕ) → from_on ≡ from + by → (states : List State) (n : ℕ)
        → place_in other halting end_rule trees auto rules_on fall_on begin_on number from_on states n
        ≡ place_in supply halting end_rule trees auto rules fall begin number from states n + by
    place_in-moved number from from_on e [] n = e
    place_in-moved number from from_on e (given ∷ states) zero = place_by-moved number from from_on e given.edges given.accept
    place_in-moved number from from_on e (given ∷ states) (suc n) =
        place_in-moved (suc number) (from + state_size supply halting end_rule trees auto number given)
        (from_on + state_size other halting end_rule trees auto number given)
        (let s = state_size-moved number given in omega (arith, e, s)) states n

    pub entry_way-moved : (from from_on : ℕ) → from_on ≡ from + by → (given : State) (class : Option ℕ)
        → entry_way other halting end_rule trees auto rules_on fall_on begin_on from_on given class
        ≡ entry_way supply halting end_rule trees auto rules fall begin from given class + by
    entry_way-moved from from_on e given class =
        if-moved by (same_place class (Some (length (transition_classes given.edges))))
        (begin + entry_tests_size supply halting end_rule trees auto) (begin_on + entry_tests_size other halting end_rule trees auto)
        (state_way supply halting end_rule trees auto rules fall begin 0 from given class)
        (state_way other halting end_rule trees auto rules_on fall_on begin_on 0 from_on given class)
        (omega (arith, begin_moves)) (state_way-moved 0 from from_on e given class)

  -- ---- the whole

  module _ (begin : ℕ) where
    pub states_begin-moved : states_begin other halting end_rule trees auto (begin + by)
        ≡ states_begin supply halting end_rule trees auto begin + by
    states_begin-moved = let a = entry_part_size-moved end_rule in omega (arith, a)

    pub fall_block-moved : fall_block other halting end_rule trees auto (begin + by)
        ≡ fall_block supply halting end_rule trees auto begin + by
    fall_block-moved =
        end_of-moved 0 (states_begin supply halting end_rule trees auto begin)
        (states_begin other halting end_rule trees auto (begin + by))
        states_begin-moved auto.states

    pub first_restore-moved : first_restore other halting end_rule trees auto (begin + by)
        ≡ first_restore supply halting end_rule trees auto begin + by
    first_restore-moved = let a = fall_block-moved in omega (arith, a)

    first_rule-moved : first_rule other halting end_rule trees auto (begin + by) ≡ first_rule supply halting end_rule trees auto begin + by
    first_rule-moved = let a = first_restore-moved in omega (arith, a)

    pub rule_block-moved : (rule : ℕ)
        → rule_block other halting end_rule trees auto (begin + by) rule ≡ rule_block supply halting end_rule trees auto begin rule + by
    rule_block-moved rule = let a = first_rule-moved in omega (arith, a)

    pub end_rule_block-moved : end_rule_block other halting end_rule trees auto (begin + by)
        ≡ end_rule_block supply halting end_rule trees auto begin + by
    end_rule_block-moved = let a = first_rule-moved in omega (arith, a)

    pub place_of-moved : (number : ℕ)
        → place_of other halting end_rule trees auto (begin + by) number ≡ place_of supply halting end_rule trees auto begin number + by
    place_of-moved number =
        place_in-moved (rule_block supply halting end_rule trees auto begin) (rule_block other halting end_rule trees auto (begin + by))
        (fall_block supply halting end_rule trees auto begin) (fall_block other halting end_rule trees auto (begin + by)) begin
        (begin + by)
        rule_block-moved fall_block-moved refl 0 (states_begin supply halting end_rule trees auto begin)
        (states_begin other halting end_rule trees auto (begin + by)) states_begin-moved auto.states number
