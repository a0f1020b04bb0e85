-- What is known of a state by its plan.
use Rattle.std.specs.Prelude.{◌≡◌, ℕ, zero, suc, ◌+◌, ◌<◌, List, [], ◌∷◌, length, None, slice_index_or, refl}
use Rattle.std.proofs.Common.{sym, ap, ap₂, ◌∙◌, arith, subst}
use Rattle.std.proofs.lemmas.List.{get_or-map, length-map}
use Rattle.std.specs.List.{AllByRecursion}
use Rattle.lx_auto.specs.declared.automaton.Edge.{Edge}
use Rattle.lx_auto.specs.declared.automaton.State.{State}
use Rattle.lx_layout.specs.LaidParts.{ArePlans, IsStatePlan, first_at, given_at, halting_at, size_at, supply_at, tests_at, trees_at, turn_at}
use Rattle.lx_layout.specs.Halting.{halted_accept}
use Rattle.lx_layout.specs.Layout.{end_size, lone_size}
use Rattle.lx_layout.specs.SuppliedLayout.{classes_begin, lone_number, size_in}
use Rattle.lx_layout.specs.Supplies.{state}
use Rattle.lx_dispatch.specs.TestTrees.{leaf}
use Rattle.lx_dispatch.specs.TransitionClasses.{transition_classes}
use Rattle.lx_dispatch.specs.Views.{class_list, seen_classes, seen_tree}
use Rattle.lx_layout.specs.declared.state_plans.PartPlans.{PartPlans}
use Rattle.lx_layout.specs.declared.state_plans.StatePlan.{StatePlan}
use Rattle.lx_dispatch.specs.declared.classes.TransitionClass.{TransitionClass}

pub each_at : {X : Type 0} (P : X → Type 0) (xs : List X) (n : ℕ) (x : X) → AllByRecursion P xs → n < length xs → x ≡ slice_index_or xs n x → P x
each_at P [] n x all within is = absurd (omega (arith, within))
each_at P (y ∷ xs) zero x all within is = subst P (sym is) all.0
each_at P (y ∷ xs) (suc n) x all within is = each_at P xs n x all.1 (omega (arith, within)) is

pub states_length : (plans : PartPlans) → ArePlans plans → length plans.states.items ≡ length plans.input.auto.now.states
states_length plans are =
    sym (length-map plans.states.items (λ (plan : StatePlan). plan.state.now)) ∙ ap length are.states

module _ (plans : PartPlans) (are : ArePlans plans) (number : ℕ) (within : number < length plans.states.items) (plan : StatePlan)
    (is : plan ≡ slice_index_or plans.states.items number plan) where
  pub plan_given : plan.state.now ≡ given_at plans number
  plan_given =
      ap (λ (p : StatePlan). p.state.now) is
      ∙ sym (get_or-map (λ (p : StatePlan). p.state.now) plans.states.items number plan (record { edges = []; accept = None; leave = [] }) within)
      ∙ ap (λ (l : List State). slice_index_or l number (record { edges = []; accept = None; leave = [] })) are.states

  pub plan_tree : seen_tree plan.tests ≡ trees_at plans (state number)
  plan_tree =
      ap (λ (p : StatePlan). seen_tree p.tests) is
      ∙ sym (get_or-map (λ (p : StatePlan). seen_tree p.tests) plans.states.items number plan (leaf None) within)

  pub plan_planned : IsStatePlan plans.input.demand.asking.format plans.input.demand.asking.sets.now.table.items plans.input.demand.eof plans.input.greatest plan
  plan_planned =
      each_at (IsStatePlan plans.input.demand.asking.format plans.input.demand.asking.sets.now.table.items plans.input.demand.eof plans.input.greatest) plans.states.items number plan are.planned within is

  pub plan_classes : seen_classes (class_list plan.classes) ≡ transition_classes (given_at plans number).edges
  plan_classes = plan_planned.classes ∙ ap (λ (s : State). transition_classes s.edges) plan_given

  pub plan_count : length (class_list plan.classes) ≡ length (transition_classes (given_at plans number).edges)
  plan_count =
      sym (length-map (class_list plan.classes) (λ (class : TransitionClass). class.edge.now)) ∙ ap length plan_classes

-- the size of a state with edges
size_some : (plans : PartPlans) (number : ℕ) (given : State) (edges : List Edge) → 0 < length edges
    → tests_at plans number + (length (transition_classes edges) + (turn_at plans number + end_size (halted_accept (halting_at plans) number given)))
    ≡ size_in (supply_at plans) (halting_at plans) plans.input.end_rule (trees_at plans) plans.input.auto.now number given edges
size_some plans number given [] some = absurd (omega (arith, some))
size_some plans number given (edge ∷ edges) some = refl

pub size_of-some : (plans : PartPlans) (number : ℕ) (given : State) → given ≡ given_at plans number → 0 < length given.edges → (classes turn end tests behind all last : ℕ)
    → classes ≡ length (transition_classes given.edges) → turn ≡ turn_at plans number
    → end ≡ end_size (halted_accept (halting_at plans) number given) → last ≡ turn + end → behind ≡ classes + last → tests ≡ tests_at plans number
    → all ≡ tests + behind → all ≡ size_at plans number
size_of-some plans number given is some classes turn end tests behind all last classes_is turn_is end_is last_is behind_is tests_is all_is =
    all_is ∙ ap₂ (λ a b. a + b) tests_is (behind_is ∙ ap₂ (λ a b. a + b) classes_is (last_is ∙ ap₂ (λ a b. a + b) turn_is end_is))
    ∙ size_some plans number given given.edges some
    ∙ ap (λ (s : State). size_in (supply_at plans) (halting_at plans) plans.input.end_rule (trees_at plans) plans.input.auto.now number s s.edges) is

pub size_of-none : (plans : PartPlans) (number : ℕ) (given : State) → given ≡ given_at plans number → length given.edges ≡ 0
    → lone_size (lone_number plans.input.end_rule number) given.accept ≡ size_at plans number
size_of-none plans number given is none =
    by given.edges none
    ∙ ap (λ (s : State). size_in (supply_at plans) (halting_at plans) plans.input.end_rule (trees_at plans) plans.input.auto.now number s s.edges) is
  where
    by : (edges : List Edge) → length edges ≡ 0 → lone_size (lone_number plans.input.end_rule number) given.accept
        ≡ size_in (supply_at plans) (halting_at plans) plans.input.end_rule (trees_at plans) plans.input.auto.now number given edges
    by [] none = refl
    by (edge ∷ edges) none = absurd (omega (arith, none))

-- where the classes of a state with edges begin
pub first_of-some : (plans : PartPlans) (number from : ℕ) (given : State) → given ≡ given_at plans number → 0 < length given.edges
    → from + tests_at plans number ≡ first_at plans number from
first_of-some plans number from given is some =
    by given.edges some
    ∙ ap (λ (s : State). classes_begin (supply_at plans) (halting_at plans) plans.input.end_rule (trees_at plans) plans.input.auto.now number from s.edges) is
  where
    by : (edges : List Edge) → 0 < length edges → from + tests_at plans number
        ≡ classes_begin (supply_at plans) (halting_at plans) plans.input.end_rule (trees_at plans) plans.input.auto.now number from edges
    by [] some = absurd (omega (arith, some))
    by (edge ∷ edges) some = refl
