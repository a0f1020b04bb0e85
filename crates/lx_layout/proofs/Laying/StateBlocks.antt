-- The blocks of a state, one behind another.
use Rattle.std.specs.Prelude.{◌≡◌, ℕ, zero, suc, ◌+◌, ◌<◌, List, [], ◌∷◌, ◌++◌, length, drop, slice_index_or, None, Bool, true, false, ◌&&◌, refl, Option, Some}
use Rattle.std.proofs.Common.{ap, ap₂, sym, ◌∙◌, arith, append_assoc}
use Rattle.std.proofs.lemmas.List.{drop_more}
use Rattle.lx_auto.specs.declared.automaton.Auto.{Auto}
use Rattle.lx_auto.specs.declared.automaton.Edge.{Edge}
use Rattle.lx_auto.specs.declared.automaton.State.{State}
use Rattle.lx_ccode.specs.declared.piece.CodeBlock.{CodeBlock}
use Rattle.lx_ccode.specs.declared.piece.Stmt.{Stmt}
use Rattle.lx_ccode.specs.declared.piece.Stmt.TheVariants.{Goto, Skip}
use Rattle.lx_layout.specs.Codes.{list_code, save_code}
use Rattle.lx_layout.specs.Fallback.{edge_code}
use Rattle.lx_layout.specs.Halting.{Halting, halted_accept, is_entered, saves_on, kept_number}
use Rattle.lx_layout.specs.LaidParts.{class_blocks, fall_at, halting_at, place_of, places_from, rule_at, saved_at, seen_demand, size_at, state_blocks, states_blocks, supply_at, tests_blocks, trees_at, turn_blocks, given_at}
use Rattle.lx_layout.specs.Layout.{end_blocks}
use Rattle.lx_layout.specs.Parts.{asks_by, asks_with, state_asks}
use Rattle.lx_layout.specs.Plans.{unlabelled}
use Rattle.lx_layout.specs.SuppliedLayout as layouts
use Rattle.lx_layout.specs.SuppliedLayout.{lone_number}
use Rattle.lx_dispatch.specs.TransitionClasses.{transition_classes}
use Rattle.lx_dispatch.specs.Views.{seen_classes}
use Rattle.lx_layout.specs.declared.state_plans.PartPlans.{PartPlans}
use Rattle.lx_dispatch.specs.declared.classes.TransitionClass.{TransitionClass}
use Rattle.lx_layout.proofs.BlockLayouts.BlockLoops.{list_code-append, unlabelled-append}

-- ---- an edge

save_code-append : (saves : Bool) (saved : Option ℕ) (rest : List Stmt) → save_code saves saved rest ≡ save_code saves saved [] ++ rest
save_code-append false saved rest = refl
save_code-append true None rest = refl
save_code-append true (Some saved) rest = refl

pub edge_code-parts : (halting : Halting) (auto : Auto) (given : State) (saved : Option ℕ) (edge : Edge) (block : ℕ)
    → (((save_code (saves_on halting given edge) saved [] ++ list_code auto given.leave []) ++ list_code auto edge.ops []) ++ Skip ∷ [])
    ++ Goto block ∷ [] ≡ edge_code halting auto given saved edge block
edge_code-parts halting auto given saved edge block =
    let save = save_code (saves_on halting given edge) saved [] in
    let leave = list_code auto given.leave [] in
    let ops = list_code auto edge.ops [] in
    append_assoc ((save ++ leave) ++ ops) (Skip ∷ []) (Goto block ∷ [])
    ∙ append_assoc (save ++ leave) ops (Skip ∷ Goto block ∷ [])
    ∙ append_assoc save leave (ops ++ Skip ∷ Goto block ∷ [])
    ∙ ap (λ l. save ++ (leave ++ l)) (sym (list_code-append auto edge.ops (Skip ∷ Goto block ∷ [])))
    ∙ ap (λ l. save ++ l) (sym (list_code-append auto given.leave (list_code auto edge.ops (Skip ∷ Goto block ∷ []))))
    ∙ sym (save_code-append (saves_on halting given edge) saved
    (list_code auto given.leave (list_code auto edge.ops (Skip ∷ Goto block ∷ []))))

-- ---- where states stand

module _ (plans : PartPlans) where
  abbrev size : (number : ℕ) → State → ℕ
  size number given =
      layouts.state_size (supply_at plans) (halting_at plans) plans.input.end_rule (trees_at plans) plans.input.auto.now number given

  pub places_from-length : (number from : ℕ) (states : List State) → length (places_from plans number from states) ≡ length states
  places_from-length number from [] = refl
  places_from-length number from (given ∷ states) = ap suc (places_from-length (suc number) (from + size number given) states)

  pub places_from-at : (number from : ℕ) (states : List State) (n other : ℕ) → n < length states
      → slice_index_or (places_from plans number from states) n other
      ≡ layouts.place_in (supply_at plans) (halting_at plans) plans.input.end_rule (trees_at plans) plans.input.auto.now (rule_at plans) (fall_at plans)
      plans.begin number from states n
  places_from-at number from [] n other lt = absurd (omega (arith, lt))
  places_from-at number from (given ∷ states) zero other lt = refl
  places_from-at number from (given ∷ states) (suc n) other lt =
      places_from-at (suc number) (from + size number given) states n other (omega (arith, lt))

-- ---- the blocks of classes

module _ (classes : List TransitionClass) (index : ℕ) (class : TransitionClass) (within : index < length classes) (is : class ≡ slice_index_or classes index class) where
  here : drop index classes ≡ class ∷ drop (index + 1) classes
  here = drop_more classes index class within ∙ ap (λ w. w ∷ drop (index + 1) classes) (sym is)

  pub classes-more : (plans : PartPlans) (given : State) (code : List Stmt) (front next whole : List CodeBlock)
      → next ≡ front ++ unlabelled (code ∷ []) → front ++ unlabelled (class_blocks plans given (seen_classes (drop index classes))) ≡ whole
      → code ≡ edge_code (halting_at plans) plans.input.auto.now given (kept_number (halting_at plans) (saved_at plans) given.accept) class.edge.now (place_of plans class.edge.now.to)
      → next ++ unlabelled (class_blocks plans given (seen_classes (drop (index + 1) classes))) ≡ whole
  classes-more plans given code front next whole put before e =
      let rest : List (List Stmt) = class_blocks plans given (seen_classes (drop (index + 1) classes)) in
      ap (λ l. l ++ unlabelled rest) put
      ∙ append_assoc front (unlabelled (code ∷ [])) (unlabelled rest)
      ∙ ap (λ (c : List Stmt). front ++ unlabelled (c ∷ rest)) e
      ∙ ap (λ (l : List TransitionClass). front ++ unlabelled (class_blocks plans given (seen_classes l))) (sym here) ∙ before

-- ---- a state

-- with edges
state_some : (plans : PartPlans) (number from : ℕ) (given : State) → given ≡ given_at plans number → (edges : List Edge) → 0 < length edges
    → tests_blocks plans number from ++ (class_blocks plans given (transition_classes edges)
    ++ (turn_blocks plans number from
    ++ end_blocks plans.input.auto.now (rule_at plans) (fall_at plans) (halted_accept (halting_at plans) number given)))
    ≡ layouts.blocks_by (supply_at plans) (halting_at plans) plans.input.end_rule (trees_at plans) plans.input.auto.now (rule_at plans) (fall_at plans)
    plans.begin (saved_at plans) (place_of plans) number from given edges
state_some plans number from given is [] some = absurd (omega (arith, some))
state_some plans number from given is (edge ∷ edges) some =
    let classes : List (List Stmt) = class_blocks plans given (transition_classes (edge ∷ edges)) in
    let last : List (List Stmt) = end_blocks plans.input.auto.now (rule_at plans) (fall_at plans) (halted_accept (halting_at plans) number given) in
    ap (λ (s : State).
    layouts.tests_of (supply_at plans) (halting_at plans) plans.input.end_rule (trees_at plans) plans.input.auto.now (rule_at plans) (fall_at plans)
    plans.begin (saved_at plans) (place_of plans) number from s
    ++ (classes
    ++ (layouts.turn_of (supply_at plans) (halting_at plans) plans.input.end_rule (trees_at plans) plans.input.auto.now (rule_at plans) (fall_at plans)
    plans.begin (saved_at plans) (place_of plans) number from s ++ last))) (sym is)

four_parts : (old : List CodeBlock) (a b d e : List (List Stmt))
    → (((old ++ unlabelled a) ++ unlabelled b) ++ unlabelled d) ++ unlabelled e ≡ old ++ unlabelled (a ++ (b ++ (d ++ e)))
four_parts old a b d e =
    append_assoc ((old ++ unlabelled a) ++ unlabelled b) (unlabelled d) (unlabelled e)
    ∙ append_assoc (old ++ unlabelled a) (unlabelled b) (unlabelled d ++ unlabelled e)
    ∙ append_assoc old (unlabelled a) (unlabelled b ++ (unlabelled d ++ unlabelled e))
    ∙ ap (λ l. old ++ (unlabelled a ++ (unlabelled b ++ l))) (sym (unlabelled-append d e))
    ∙ ap (λ l. old ++ (unlabelled a ++ l)) (sym (unlabelled-append b (d ++ e)))
    ∙ ap (λ l. old ++ l) (sym (unlabelled-append a (b ++ (d ++ e))))

module _ (plans : PartPlans) (number from : ℕ) (given : State) (is : given ≡ given_at plans number)
    (old front classes turn all : List CodeBlock) where
  pub state_branches : 0 < length given.edges → front ≡ old ++ unlabelled (tests_blocks plans number from)
      → classes ≡ front ++ unlabelled (class_blocks plans given (transition_classes given.edges))
      → turn ≡ classes ++ unlabelled (turn_blocks plans number from)
      → all ≡ turn ++ unlabelled (end_blocks plans.input.auto.now (rule_at plans) (fall_at plans) (halted_accept (halting_at plans) number given))
      → all ≡ old ++ unlabelled (state_blocks plans number from (given_at plans number))
  state_branches some put_front put_classes put_turn put_all =
      let a : List (List Stmt) = tests_blocks plans number from in
      let b : List (List Stmt) = class_blocks plans given (transition_classes given.edges) in
      let d : List (List Stmt) = turn_blocks plans number from in
      let e : List (List Stmt) = end_blocks plans.input.auto.now (rule_at plans) (fall_at plans) (halted_accept (halting_at plans) number given) in
      put_all ∙ ap (λ l. l ++ unlabelled e) (put_turn ∙ ap (λ l. l ++ unlabelled d) (put_classes ∙ ap (λ l. l ++ unlabelled b) put_front))
      ∙ four_parts old a b d e ∙ ap (λ l. old ++ unlabelled l) (state_some plans number from given is given.edges some)
      ∙ ap (λ (s : State). old ++ unlabelled (state_blocks plans number from s)) is

-- ---- all states

module _ (plans : PartPlans) (number from asked next : ℕ) (within : number < length plans.input.auto.now.states) (old put new : List CodeBlock) where
  states_here : drop number plans.input.auto.now.states ≡ given_at plans number ∷ drop (number + 1) plans.input.auto.now.states
  states_here = drop_more plans.input.auto.now.states number (record { edges = []; accept = None; leave = [] }) within

  pub states-more : put ≡ old ++ unlabelled (state_blocks plans number from (given_at plans number)) → next ≡ from + size_at plans number
      → (whole : List CodeBlock) → old ++ unlabelled (states_blocks plans number from (drop number plans.input.auto.now.states)) ≡ whole
      → put ++ unlabelled (states_blocks plans (number + 1) next (drop (number + 1) plans.input.auto.now.states)) ≡ whole
  states-more put_is next_is whole before =
      let rest : List State = drop (number + 1) plans.input.auto.now.states in
      let here : List (List Stmt) = state_blocks plans number from (given_at plans number) in
      let more : number + 1 ≡ suc number = omega arith in
      ap₂ (λ n k. put ++ unlabelled (states_blocks plans n k rest)) more next_is
      ∙ ap (λ l. l ++ unlabelled (states_blocks plans (suc number) (from + size_at plans number) rest)) put_is
      ∙ append_assoc old (unlabelled here) (unlabelled (states_blocks plans (suc number) (from + size_at plans number) rest))
      ∙ ap (λ l. old ++ l) (sym (unlabelled-append here (states_blocks plans (suc number) (from + size_at plans number) rest)))
      ∙ ap (λ (l : List State). old ++ unlabelled (states_blocks plans number from l)) (sym states_here) ∙ before

-- ---- whether a state asks for a refill

module _ (plans : PartPlans) (number : ℕ) (given : State) (is : given ≡ given_at plans number) where
  abbrev asks_in : List Edge → Bool
  asks_in edges = asks_with (seen_demand plans.input.demand) plans.input.end_rule plans.input.auto.now number edges

  pub asks-none : length given.edges ≡ 0 → false ≡ state_asks (seen_demand plans.input.demand) plans.input.end_rule plans.input.auto.now number
  asks-none none = by given.edges none ∙ ap (λ (s : State). asks_in s.edges) is
    where
      by : (edges : List Edge) → length edges ≡ 0 → false ≡ asks_in edges
      by [] none = refl
      by (edge ∷ edges) none = absurd (omega (arith, none))

  pub asks-some : 0 < length given.edges → (entered asks : Bool) → entered ≡ is_entered plans.input.end_rule plans.input.auto.now number
      → asks ≡ asks_by (seen_demand plans.input.demand) plans.input.end_rule plans.input.auto.now plans.input.demand.eof number
      → (entered && asks) ≡ state_asks (seen_demand plans.input.demand) plans.input.end_rule plans.input.auto.now number
  asks-some some entered asks entered_is asks_is =
      ap₂ (λ a b. a && b) entered_is asks_is ∙ by given.edges some ∙ ap (λ (s : State). asks_in s.edges) is
    where
      by : (edges : List Edge) → 0 < length edges
          → (is_entered plans.input.end_rule plans.input.auto.now number
          && asks_by (seen_demand plans.input.demand) plans.input.end_rule plans.input.auto.now plans.input.demand.eof number) ≡ asks_in edges
      by [] some = absurd (omega (arith, some))
      by (edge ∷ edges) some = refl
