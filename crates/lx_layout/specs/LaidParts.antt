-- What is known before the blocks of a scanner are laid.
use Rattle.std.specs.Prelude.{◌≡◌, ℕ, suc, ◌+◌, ◌<◌, List, [], ◌∷◌, length, map, Option, Some, None, option_copied, slice_index_or}
use Rattle.std.specs.List.{AllByRecursion}
use Rattle.lx_auto.specs.Automaton.{IsAuto, state_of}
use Rattle.lx_auto.specs.declared.automaton.Accept.{Accept}
use Rattle.lx_auto.specs.declared.automaton.Edge.{Edge}
use Rattle.lx_auto.specs.declared.automaton.State.{State}
use Rattle.lx_ccode.specs.declared.piece.Stmt.{Stmt}
use Rattle.lx_layout.specs.Halting.{AreHalting, Halting, ended_accepts, is_entered, saved_accepts}
use Rattle.lx_layout.specs.Layout.{end_block}
use Rattle.lx_layout.specs.Marks.{seen_marks}
use Rattle.lx_layout.specs.Parts as parts
use Rattle.lx_layout.specs.Parts.{Given, asked_below, checked_by, number_of, supply_from}
use Rattle.lx_layout.specs.Plans.{AreIndexed, seen_accepts}
use Rattle.lx_layout.specs.RuleEnds.{HasEnd, HasToldEnd, endings_of}
use Rattle.lx_layout.specs.SuppliedLayout as layouts
use Rattle.lx_layout.specs.Supplies.{Reader, Supply, entry, state}
use Rattle.lx_base.specs.declared.settings.Format.{Format}
use Rattle.lx_dispatch.specs.Dispatch.{AreTestsOf}
use Rattle.lx_dispatch.specs.TestTrees.{TestTree, leaf}
use Rattle.lx_dispatch.specs.TransitionClasses.{transition_classes}
use Rattle.lx_dispatch.specs.UnitApart.{reader_split}
use Rattle.lx_dispatch.specs.Views.{class_list, seen_classes, seen_tree}
use Rattle.lx_layout.specs.declared.demands.Demand.{Demand}
use Rattle.lx_layout.specs.declared.demands.PartInput.{PartInput}
use Rattle.lx_layout.specs.declared.part_ends.PartEnds.{PartEnds}
use Rattle.lx_layout.specs.declared.part_places.PartPlaces.{PartPlaces}
use Rattle.lx_layout.specs.declared.part_states.Spot.{Spot}
use Rattle.lx_layout.specs.declared.readers.Exits.{Exits}
use Rattle.lx_layout.specs.declared.rule_ends.RuleEnd.{RuleEnd}
use Rattle.lx_layout.specs.declared.state_plans.PartPlans.{PartPlans}
use Rattle.lx_layout.specs.declared.state_plans.StatePlan.{StatePlan}

-- ---- what is given

abbrev pub seen_demand : Demand → parts.Demand
seen_demand demand = record {
  eof = demand.eof;
  tries = demand.tries;
  check = checked_by (option_copied demand.checks);
  stores = demand.stores;
  format = demand.asking.format;
  table = demand.asking.sets.now.table.items;
}

abbrev pub seen_given : PartInput → Given
seen_given input =
    record {
      cond = input.cond.now;
      demand = seen_demand input.demand;
      endings = endings_of input.ends.now;
      end_rule = input.end_rule;
      auto = input.auto.now;
    }

-- ---- the tests

abbrev pub planned_states : List StatePlan → List State
planned_states plans = map (λ plan. plan.state.now) plans

-- the transition classes are those of the state, and the tests are a tree of its tests
pub record IsStatePlan (format : Format) (table : List ℕ) (eof : Option ℕ) (greatest : ℕ) (plan : StatePlan) : Type 0 where
  pub classes : seen_classes (class_list plan.classes) ≡ transition_classes plan.state.now.edges
  pub tests : AreTestsOf format table eof greatest (reader_split eof greatest plan.state.now.edges) (seen_tree plan.tests)

abbrev pub AreStatePlans : Format → (table : List ℕ) → (eof : Option ℕ) → (greatest : ℕ) → List StatePlan → Type 0
AreStatePlans format table eof greatest plans = AllByRecursion (IsStatePlan format table eof greatest) plans

-- the entry reads as state 0
abbrev pub reader_number : Reader → ℕ
reader_number entry = 0
reader_number (state number) = number

abbrev pub trees_of : List StatePlan → Reader → TestTree (Option ℕ)
trees_of plans reader = slice_index_or (map (λ plan. seen_tree plan.tests) plans) (reader_number reader) (leaf None)

-- ---- what is known of a scanner

abbrev pub supply_at : PartPlans → Supply
supply_at plans = supply_from (seen_demand plans.input.demand) plans.input.end_rule plans.input.auto.now plans.first

abbrev pub halting_at : PartPlans → Halting
halting_at plans = seen_marks plans.marks

abbrev pub trees_at : PartPlans → Reader → TestTree (Option ℕ)
trees_at plans = trees_of plans.states.items

abbrev pub given_at : PartPlans → (number : ℕ) → State
given_at plans number = state_of plans.input.auto.now.states number

pub record ArePlans (plans : PartPlans) : Type 0 where
  pub formed : IsAuto plans.input.auto.now
  pub states : planned_states plans.states.items ≡ plans.input.auto.now.states
  pub planned : AreStatePlans plans.input.demand.asking.format plans.input.demand.asking.sets.now.table.items plans.input.demand.eof plans.input.greatest
      plans.states.items
  pub marked : AreHalting plans.input.demand.eof plans.input.end_rule plans.input.greatest plans.input.auto.now (seen_marks plans.marks)
  pub format : plans.marks.format ≡ plans.input.demand.asking.format
  pub entered : plans.entered ≡ is_entered plans.input.end_rule plans.input.auto.now 0

-- how many blocks there are for tests, for the end of the input, and for a state as a whole
abbrev pub tests_at : PartPlans → (number : ℕ) → ℕ
tests_at plans number =
    layouts.tests_size (supply_at plans) (halting_at plans) plans.input.end_rule (trees_at plans) plans.input.auto.now number

abbrev pub turn_at : PartPlans → (number : ℕ) → ℕ
turn_at plans number =
    layouts.turn_size (supply_at plans) (halting_at plans) plans.input.end_rule (trees_at plans) plans.input.auto.now number

abbrev pub size_at : PartPlans → (number : ℕ) → ℕ
size_at plans number =
    layouts.state_size (supply_at plans) (halting_at plans) plans.input.end_rule (trees_at plans) plans.input.auto.now number (given_at plans number)

-- and for the entry
abbrev pub entry_tests_at : PartPlans → ℕ
entry_tests_at plans =
    layouts.entry_tests_size (supply_at plans) (halting_at plans) plans.input.end_rule (trees_at plans) plans.input.auto.now

abbrev pub entry_size_at : PartPlans → ℕ
entry_size_at plans =
    layouts.entry_part_size (supply_at plans) (halting_at plans) plans.input.end_rule (trees_at plans) plans.input.auto.now plans.input.end_rule

-- where the blocks of states begin and end
abbrev pub begin_at : PartPlans → ℕ
begin_at plans =
    layouts.states_begin (supply_at plans) (halting_at plans) plans.input.end_rule (trees_at plans) plans.input.auto.now plans.begin

abbrev pub end_from : PartPlans → (number from : ℕ) → List State → ℕ
end_from plans number from states =
    layouts.end_of (supply_at plans) (halting_at plans) plans.input.end_rule (trees_at plans) plans.input.auto.now number from states

abbrev pub fall_at : PartPlans → ℕ
fall_at plans = layouts.fall_block (supply_at plans) (halting_at plans) plans.input.end_rule (trees_at plans) plans.input.auto.now plans.begin

-- ---- where matches end

-- the first accept of each rule by which one can end, and of each to which it can fall back
abbrev pub ended_at : PartPlans → List Accept
ended_at plans = ended_accepts (seen_marks plans.marks) plans.input.auto.now.states

abbrev pub saved_at : PartPlans → List Accept
saved_at plans = saved_accepts (seen_marks plans.marks) plans.input.auto.now.states

-- the first block of what is done in the fallback, and that of the ends of rules
abbrev pub restores_at : PartPlans → ℕ
restores_at plans = layouts.first_restore (supply_at plans) (halting_at plans) plans.input.end_rule (trees_at plans) plans.input.auto.now plans.begin

abbrev pub rules_at : PartPlans → ℕ
rules_at plans = layouts.first_rule (supply_at plans) (halting_at plans) plans.input.end_rule (trees_at plans) plans.input.auto.now plans.begin

abbrev pub rule_at : PartPlans → (rule : ℕ) → ℕ
rule_at plans rule =
    layouts.rule_block (supply_at plans) (halting_at plans) plans.input.end_rule (trees_at plans) plans.input.auto.now plans.begin rule

abbrev pub end_rule_at : PartPlans → ℕ
end_rule_at plans =
    layouts.end_rule_block (supply_at plans) (halting_at plans) plans.input.end_rule (trees_at plans) plans.input.auto.now plans.begin

-- where a match ends in a state, whose own block for that is known
abbrev pub end_at : PartPlans → (own : ℕ) → Option Accept → ℕ
end_at plans own accept = end_block plans.input.auto.now (rule_at plans) (fall_at plans) own accept

pub record ArePartEnds (ends : PartEnds) : Type 0 where
  pub plans : ArePlans ends.plans
  pub ended : seen_accepts ends.ended.list.items ≡ ended_at ends.plans
  pub ended_places : AreIndexed ends.ended
  pub saved : seen_accepts ends.saved.list.items ≡ saved_at ends.plans
  pub saved_places : AreIndexed ends.saved
  pub few_saved : length ends.saved.list.items < 4294967295
  pub fall : ends.fall ≡ fall_at ends.plans
  pub restores : ends.restores ≡ restores_at ends.plans
  pub rules : ends.rules ≡ rules_at ends.plans

-- where the blocks of a state stand, if they begin at `from`: those of its classes, those for the end of the input, and its own end
abbrev pub first_at : PartPlans → (number from : ℕ) → ℕ
first_at plans number from =
    layouts.classes_begin (supply_at plans) (halting_at plans) plans.input.end_rule (trees_at plans) plans.input.auto.now number from
    (given_at plans number).edges

abbrev pub turn_begin_at : PartPlans → (number from : ℕ) → ℕ
turn_begin_at plans number from =
    layouts.turn_begin (supply_at plans) (halting_at plans) plans.input.end_rule (trees_at plans) plans.input.auto.now number from
    (given_at plans number).edges

abbrev pub own_at : PartPlans → (number from : ℕ) → ℕ
own_at plans number from =
    layouts.own_end (supply_at plans) (halting_at plans) plans.input.end_rule (trees_at plans) plans.input.auto.now number from
    (given_at plans number).edges

-- where its tests lead
pub record IsExits (plans : PartPlans) (number from : ℕ) (exits : Exits) : Type 0 where
  pub first : exits.first ≡ first_at plans number from
  pub end : exits.end ≡ end_at plans (own_at plans number from) (given_at plans number).accept
  pub count : exits.count ≡ length (transition_classes (given_at plans number).edges)
  pub turn : exits.turn ≡ turn_begin_at plans number from

-- ---- where the code of states stands

abbrev pub place_in : PartPlans → (number from : ℕ) → State → ℕ
place_in plans number from given =
    layouts.place_by (supply_at plans) (halting_at plans) plans.input.end_rule (trees_at plans) plans.input.auto.now (rule_at plans) (fall_at plans)
    plans.begin number from given.edges given.accept

-- that of a state whose blocks begin at `from`
abbrev pub place_at : PartPlans → (number from : ℕ) → ℕ
place_at plans number from = place_in plans number from (given_at plans number)

-- the same of all states of a list, of which the first one has this number
abbrev pub places_from : PartPlans → (number from : ℕ) → List State → List ℕ
places_from plans number from [] = []
places_from plans number from (given ∷ states) =
    place_in plans number from given
    ∷ places_from plans (suc number)
    (from + layouts.state_size (supply_at plans) (halting_at plans) plans.input.end_rule (trees_at plans) plans.input.auto.now number given) states

pub record ArePlaces (places : PartPlaces) : Type 0 where
  pub ends : ArePartEnds places.ends
  pub states : places.states.items
      ≡ places_from places.ends.plans 0 (begin_at places.ends.plans) places.ends.plans.input.auto.now.states

-- where the code of each state stands
abbrev pub place_of : PartPlans → (number : ℕ) → ℕ
place_of plans number =
    layouts.place_of (supply_at plans) (halting_at plans) plans.input.end_rule (trees_at plans) plans.input.auto.now plans.begin number

-- ---- the blocks of states

-- a state with this number, whose first block is known, and the number by which it is stored, if what reads is stored
pub record IsSpot (plans : PartPlans) (spot : Spot) : Type 0 where
  pub within : spot.number < length plans.states.items
  pub asked : spot.asked ≡ number_of (seen_demand plans.input.demand) plans.input.end_rule plans.input.auto.now plans.first (state spot.number)

abbrev pub tests_blocks : PartPlans → (number from : ℕ) → List (List Stmt)
tests_blocks plans number from =
    layouts.tests_of (supply_at plans) (halting_at plans) plans.input.end_rule (trees_at plans) plans.input.auto.now (rule_at plans) (fall_at plans)
    plans.begin (saved_at plans) (place_of plans) number from (given_at plans number)

abbrev pub turn_blocks : PartPlans → (number from : ℕ) → List (List Stmt)
turn_blocks plans number from =
    layouts.turn_of (supply_at plans) (halting_at plans) plans.input.end_rule (trees_at plans) plans.input.auto.now (rule_at plans) (fall_at plans)
    plans.begin (saved_at plans) (place_of plans) number from (given_at plans number)

abbrev pub class_blocks : PartPlans → State → (classes : List Edge) → List (List Stmt)
class_blocks plans given classes = layouts.class_blocks (halting_at plans) plans.input.auto.now (saved_at plans) (place_of plans) given classes

abbrev pub state_blocks : PartPlans → (number from : ℕ) → State → List (List Stmt)
state_blocks plans number from given =
    layouts.state_blocks (supply_at plans) (halting_at plans) plans.input.end_rule (trees_at plans) plans.input.auto.now (rule_at plans) (fall_at plans)
    plans.begin (saved_at plans) (place_of plans) number from given

abbrev pub states_blocks : PartPlans → (number from : ℕ) → List State → List (List Stmt)
states_blocks plans number from states =
    layouts.states_blocks (supply_at plans) (halting_at plans) plans.input.end_rule (trees_at plans) plans.input.auto.now (rule_at plans) (fall_at plans)
    plans.begin (saved_at plans) (place_of plans) number from states

-- by how many before a number what reads is stored
abbrev pub asked_at : PartPlans → (number : ℕ) → ℕ
asked_at plans number = plans.first + asked_below (seen_demand plans.input.demand) plans.input.end_rule plans.input.auto.now number

-- ---- the blocks of the entry

-- where its tests lead
pub record IsEntryExits (plans : PartPlans) (exits : Exits) : Type 0 where
  pub first : exits.first ≡ first_at plans 0 (begin_at plans)
  pub end : exits.end ≡ end_at plans (own_at plans 0 (begin_at plans)) (given_at plans 0).accept
  pub count : exits.count ≡ length (transition_classes (given_at plans 0).edges)
  pub turn : exits.turn ≡ plans.begin + entry_tests_at plans

abbrev pub entry_way : PartPlans → (class : Option ℕ) → ℕ
entry_way plans class =
    layouts.entry_way (supply_at plans) (halting_at plans) plans.input.end_rule (trees_at plans) plans.input.auto.now (rule_at plans) (fall_at plans)
    plans.begin (begin_at plans) (given_at plans 0) class

abbrev pub entry_tests_blocks : PartPlans → List (List Stmt)
entry_tests_blocks plans =
    layouts.reader_blocks (supply_at plans).stored entry (supply_at plans).eof 0 plans.begin (layouts.with_blocks (entry_way plans) (trees_at plans entry))

abbrev pub entry_turn_blocks : PartPlans → List (List Stmt)
entry_turn_blocks plans =
    layouts.at_end_blocks (supply_at plans) entry plans.begin (plans.begin + entry_tests_at plans)
    (layouts.state_to (supply_at plans) (halting_at plans) plans.input.end_rule (trees_at plans) plans.input.auto.now (rule_at plans) (fall_at plans)
    plans.begin 0 (begin_at plans) (given_at plans 0)) (end_rule_at plans)

abbrev pub entry_blocks : PartPlans → List (List Stmt)
entry_blocks plans =
    layouts.entry_part (supply_at plans) (halting_at plans) plans.input.end_rule (trees_at plans) plans.input.auto.now plans.begin plans.input.end_rule

-- ---- the whole

-- the end of an accept's rule is told, if there is one
abbrev pub AcceptIsTold : List RuleEnd → Option Accept → Type 0
AcceptIsTold ends None = Unit {0}
AcceptIsTold ends (Some accept) = HasToldEnd ends accept

-- so is that of the rule at the end of the input
abbrev pub EndIsTold : List RuleEnd → Option ℕ → Type 0
EndIsTold ends None = Unit {0}
EndIsTold ends (Some rule) = HasEnd ends rule

-- the ends of all rules by which states accept are told, and that of the rule at the end of the input
pub record IsTold (input : PartInput) : Type 0 where
  pub accepts : AllByRecursion (λ (given : State). AcceptIsTold input.ends.now given.accept) input.auto.now.states
  pub end_rule : EndIsTold input.ends.now input.end_rule

abbrev pub codes_at : PartPlans → List (List Stmt)
codes_at plans =
    layouts.supplied_layout (supply_at plans) (halting_at plans) (endings_of plans.input.ends.now) plans.input.end_rule
    (trees_at plans) plans.input.auto.now plans.begin
