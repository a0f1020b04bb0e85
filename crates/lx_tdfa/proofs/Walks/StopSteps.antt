-- The steps between stops are the moves of the automaton, with their tag events, and those into leaves.
use Rattle.std.proofs.Common.{◌≡◌, ℕ, zero, suc, ◌<◌, arith, Bool, true, false, List, [], ◌∷◌, ◌++◌, map, length, refl, sym, ap, ap₂, ◌∙◌, subst, Some, None, ⊎_elim}
use Rattle.std.proofs.lemmas.Bool.{false≢true}
use Rattle.std.specs.Prelude.{◌/◌, ◌%◌, nat_eq, slice_get, slice_index, if◌then◌else◌}
use Rattle.lx_regex.specs.ClassLimits.{AllClassesFit}
use Rattle.lx_encode.specs.Graph.{numbered}
use Rattle.lx_encode.specs.declared.graph.Residual.{Residual}
use Rattle.lx_regex.specs.Automaton as spec
use Rattle.lx_regex.specs.Automaton.{automaton, label, leaf, move, moves, target, unit_leaf}
use Rattle.lx_regex.specs.Script.{Symbol, begins, ends, picks, reads, sets, unsets}
use Rattle.lx_regex.specs.Term.{Term}
use Rattle.lx_regex.specs.Walk.{mark}
use Rattle.lx_tnfa.specs.Classes.{AreClasses}
use Rattle.lx_tnfa.specs.Closure.{IsDead, Step, leaf_step, steps_from, steps_of, stop_at}
use Rattle.lx_tnfa.specs.DepthFirst.{successors}
use Rattle.lx_tnfa.specs.LeafReadings.{IsNth}
use Rattle.lx_tnfa.specs.Live.{AreLive, ReachesEnd, mark_at, starts_at, state_of}
use Rattle.lx_tnfa.specs.Moves.{shown_move}
use Rattle.lx_tnfa.specs.Rows.{RepresentEach, Represents}
use Rattle.lx_tnfa.specs.Tnfa.{Tnfa}
use Rattle.lx_tnfa.specs.declared.classes.ClassGraph.{ClassGraph}
use Rattle.lx_tnfa.specs.declared.closure.Stop.TheVariants.{AtState}
use Rattle.lx_tnfa.specs.declared.states.Event.TheVariants.{Set, Unset}
use Rattle.lx_tnfa.specs.declared.states.Move.{Move}
use Rattle.lx_tnfa.specs.declared.states.State.{State}
use Rattle.lx_tnfa.specs.declared.states.State.TheVariants as held
use Rattle.lx_tnfa.proofs.Construction.HeldStates.{held_at, held_moves}
use Rattle.lx_tnfa.proofs.Construction.NthLists.{nth_map, nth_unmap}
use Rattle.lx_tnfa.proofs.Searching.SimplePaths.{IsAt}
use Rattle.lx_tnfa.proofs.Leaves.TableLeaves.{row_or_none}
use Rattle.lx_tdfa.specs.Graph.{graph_of, move_at, moves_at}
use Rattle.lx_tdfa.proofs.Walks.ClosureSearches.{events_of}
use Rattle.lx_tdfa.proofs.WordKernels.OrderedLists.{at_zero_nth, nth_at_zero}
use Rattle.lx_tdfa.proofs.Walks.StatePaths.{at_move, moves_are, nth_is_move}

pub get_nth : {X : Type 0} (xs : List X) (index : ℕ) (x : X) → slice_get xs index ≡ Some x → IsNth xs index x
get_nth [] index x e = cc
get_nth (y ∷ xs) zero x e = cc
get_nth (y ∷ xs) (suc index) x e = get_nth xs index x e

pub nth_get : {X : Type 0} (xs : List X) (index : ℕ) (x : X) → IsNth xs index x → slice_get xs index ≡ Some x
nth_get [] index x nth = absurd nth
nth_get (y ∷ xs) zero x nth = ap Some nth
nth_get (y ∷ xs) (suc index) x nth = nth_get xs index x nth

-- the tag events of symbols that are put together
pub events_append : (a b : List Symbol) → events_of (a ++ b) ≡ events_of a ++ events_of b
events_append [] b = refl
events_append (sets tag ∷ a) b = ap (λ l. Set tag ∷ l) (events_append a b)
events_append (unsets tag ∷ a) b = ap (λ l. Unset tag ∷ l) (events_append a b)
events_append (reads unit ∷ a) b = events_append a b
events_append (begins part ∷ a) b = events_append a b
events_append (ends part ∷ a) b = events_append a b
events_append (picks choice ∷ a) b = events_append a b

-- a mark is none
pub events_mark : (number : ℕ) (symbols : List Symbol) → events_of (mark number ∷ symbols) ≡ events_of symbols
events_mark number symbols = at (nat_eq (number % 2) 0)
  where
    at : (b : Bool) → events_of ((if b then begins (number / 2) else ends (number / 2)) ∷ symbols) ≡ events_of symbols
    at true = refl
    at false = refl

events_sets : (tags : List ℕ) → events_of (map sets tags) ≡ map Set tags
events_sets [] = refl
events_sets (tag ∷ tags) = ap (λ l. Set tag ∷ l) (events_sets tags)

events_unsets : (tags : List ℕ) → events_of (map unsets tags) ≡ map Unset tags
events_unsets [] = refl
events_unsets (tag ∷ tags) = ap (λ l. Unset tag ∷ l) (events_unsets tags)

events_tags : (set unset : List ℕ) → events_of (map sets set ++ map unsets unset) ≡ map Set set ++ map Unset unset
events_tags set unset = events_append (map sets set) (map unsets unset) ∙ ap₂ (λ a b. a ++ b) (events_sets set) (events_unsets unset)

-- a move has the events of its label
pub events_label : (way : spec.Move) → events_of (label way) ≡ (shown_move way).events
events_label (move None set unset to) = events_tags set unset
events_label (move (Some choice) set unset to) = events_tags set unset

-- the residuals with which a state begins, if it is a leaf
abbrev pub starts_in : List ClassGraph → State → List Residual
starts_in classes (held.Moves ways) = []
starts_in classes (held.Class number) = starts_at classes number
starts_in classes held.AnyUnit = numbered 1 ∷ []

pub start_within : (classes : List ClassGraph) (states : List State) (number index : ℕ) (rest : Residual)
    → IsNth (starts_in classes (state_of states number)) index rest → number < length states
start_within classes [] number index rest nth = absurd nth
start_within classes (state ∷ states) zero index rest nth = omega arith
start_within classes (state ∷ states) (suc number) index rest nth =
    let below = start_within classes states number index rest nth in omega arith

-- an automaton of rules, as far as walks are concerned
pub record Holds (tnfa : Tnfa) (rules : List Term) : Type 0 where
  pub are : AreClasses tnfa.enc tnfa.classes
  pub states : RepresentEach tnfa.classes (automaton rules) tnfa.states
  pub fits : AllClassesFit tnfa.enc rules
  pub live : AreLive tnfa.classes tnfa.states tnfa.live
  pub marks : length tnfa.live ≡ length tnfa.states

successors_are : (rows : List spec.State) (number : ℕ) (ways : List spec.Move) → slice_get rows number ≡ Some (moves ways)
    → successors (graph_of rows) number ≡ map target ways
successors_are [] number ways e = cc
successors_are (row ∷ rows) zero ways e = let same : row ≡ moves ways = cc in ap (λ r. successors (graph_of (r ∷ [])) 0) same
successors_are (row ∷ rows) (suc number) ways e = successors_are rows number ways e

-- the step of a move
abbrev pub move_step : (rule to : ℕ) → spec.Move → Step
move_step rule to way = record { to = stop_at rule to; events = events_of (label way) }

shown_step : (rule : ℕ) (way : spec.Move) → record { to = stop_at rule (shown_move way).to; events = (shown_move way).events } ≡ move_step rule (target way) way
shown_step rule (move picked set unset to) = λ i. record { to = stop_at rule to; events = sym (events_label (move picked set unset to)) i }

module _ (tnfa : Tnfa) (rules : List Term) (is : Holds tnfa rules) where
  -- the rule of a state
  abbrev pub rule_at : ℕ → ℕ
  rule_at number = slice_index tnfa.owners (number / 2)

  -- a step is a move, or leads into a leaf
  pub data IsStep (number choice : ℕ) (step : Step) : Type 0 where
    by_move : (to : ℕ) → IsAt 0 (successors (graph_of (automaton rules)) number) choice to
        → step ≡ move_step (rule_at number) to (move_at (automaton rules) number choice) → IsStep number choice step
    by_start : (rest : Residual) → IsNth (starts_in tnfa.classes (state_of tnfa.states number)) choice rest
        → step ≡ leaf_step (number / 2) rest → IsStep number choice step

  steps_are : (number : ℕ) → 0 < number
      → steps_from tnfa (AtState number) ≡ steps_of tnfa.classes (rule_at number) (number / 2) (state_of tnfa.states number)
  steps_are zero lt = absurd (omega arith)
  steps_are (suc number) lt = refl

  ways_kind : (number choice : ℕ) (step : Step) (ways : List spec.Move) → slice_get (automaton rules) number ≡ Some (moves ways)
      → slice_get (map (λ (way : Move). record { to = stop_at (rule_at number) way.to; events = way.events }) (map shown_move ways)) choice ≡ Some step
      → IsStep number choice step
  ways_kind number choice step ways at get =
      let shown = nth_unmap (λ (way : Move). record { to = stop_at (rule_at number) way.to; events = way.events }) (map shown_move ways) choice step
      (get_nth _ choice step get) in
      let way = nth_unmap shown_move ways choice shown.0 shown.1 in
      let same : move_at (automaton rules) number choice ≡ way.0 =
      nth_is_move (moves_at (automaton rules) number) choice way.0
      (subst (λ l. IsNth l choice way.0) (sym (moves_are (automaton rules) number ways at)) way.1) in
      by_move (target way.0)
      (nth_at_zero (successors (graph_of (automaton rules)) number) choice (target way.0)
      (subst (λ l. IsNth l choice (target way.0)) (sym (successors_are (automaton rules) number ways at)) (nth_map target ways choice way.0 way.1)))
      (sym shown.2 ∙ ap (λ (m : Move). record { to = stop_at (rule_at number) m.to; events = m.events }) (sym way.2)
      ∙ shown_step (rule_at number) way.0 ∙ ap (move_step (rule_at number) (target way.0)) (sym same))

  kind : (number choice : ℕ) (step : Step) (row : spec.State) (state : State) → slice_get (automaton rules) number ≡ Some row
      → Represents tnfa.classes row state → state_of tnfa.states number ≡ state
      → slice_get (steps_of tnfa.classes (rule_at number) (number / 2) state) choice ≡ Some step → IsStep number choice step
  kind number choice step (moves ways) (held.Moves others) at h same get =
      ways_kind number choice step ways at
      (subst (λ l. slice_get (map (λ (way : Move). record { to = stop_at (rule_at number) way.to; events = way.events }) l) choice ≡ Some step) h get)
  kind number choice step (leaf ranges) (held.Moves others) at h same get = absurd h
  kind number choice step unit_leaf (held.Moves others) at h same get = absurd h
  kind number choice step row (held.Class class) at h same get =
      let start = nth_unmap (leaf_step (number / 2)) (starts_at tnfa.classes class) choice step (get_nth _ choice step get) in
      by_start start.0 (subst (λ s. IsNth (starts_in tnfa.classes s) choice start.0) (sym same) start.1) (sym start.2)
  kind number choice step row held.AnyUnit at h same get =
      let start = nth_unmap (leaf_step (number / 2)) (numbered 1 ∷ []) choice step (get_nth (leaf_step (number / 2) (numbered 1) ∷ []) choice step get) in
      by_start start.0 (subst (λ s. IsNth (starts_in tnfa.classes s) choice start.0) (sym same) start.1) (sym start.2)

  pub step_is : (number choice : ℕ) (step : Step) → 0 < number → slice_get (steps_from tnfa (AtState number)) choice ≡ Some step
      → IsStep number choice step
  step_is number choice step lt get =
      let g = subst (λ l. slice_get l choice ≡ Some step) (steps_are number lt) get in
      ⊎_elim
      (λ row. kind number choice step row.0 (state_of tnfa.states number) row.1 row.2 refl g)
      (λ none. nothing (subst (λ s. slice_get (steps_of tnfa.classes (rule_at number) (number / 2) s) choice ≡ Some step) none g))
      (row_or_none tnfa.classes (automaton rules) tnfa.states number is.states)
    where
      nothing : slice_get (steps_of tnfa.classes (rule_at number) (number / 2) (held.Moves [])) choice ≡ Some step → IsStep number choice step
      nothing e = cc

  pub state_moves : (number : ℕ) (ways : List spec.Move) → slice_get (automaton rules) number ≡ Some (moves ways)
      → state_of tnfa.states number ≡ held.Moves (map shown_move ways)
  state_moves number ways at =
      held_moves tnfa.classes ways (state_of tnfa.states number) (held_at tnfa.classes (automaton rules) tnfa.states number (moves ways) is.states at)

  -- an edge of the graph is a step
  pub edge_step : (number choice to : ℕ) → 0 < number → IsAt 0 (successors (graph_of (automaton rules)) number) choice to
      → slice_get (steps_from tnfa (AtState number)) choice ≡ Some (move_step (rule_at number) to (move_at (automaton rules) number choice))
  edge_step number choice to lt edge =
      let at = (at_move (automaton rules) number choice to edge).0 in
      let ways = moves_at (automaton rules) number in
      let way =
      nth_unmap target ways choice to
      (subst (λ l. IsNth l choice to) (successors_are (automaton rules) number ways at) (at_zero_nth _ choice to edge)) in
      let shown : Move → Step = λ (m : Move). record { to = stop_at (rule_at number) m.to; events = m.events } in
      let same : move_at (automaton rules) number choice ≡ way.0 = nth_is_move ways choice way.0 way.1 in
      let step : shown (shown_move way.0) ≡ move_step (rule_at number) to (move_at (automaton rules) number choice) =
      shown_step (rule_at number) way.0 ∙ ap₂ (move_step (rule_at number)) way.2 (sym same) in
      ap (λ l. slice_get l choice)
      (steps_are number lt ∙ ap (steps_of tnfa.classes (rule_at number) (number / 2)) (state_moves number ways at))
      ∙ nth_get (map shown (map shown_move ways)) choice (shown (shown_move way.0))
      (nth_map shown (map shown_move ways) choice (shown_move way.0) (nth_map shown_move ways choice way.0 way.1))
      ∙ ap Some step

  -- and so is the beginning of a leaf
  pub start_step : (number choice : ℕ) (rest : Residual) → 0 < number
      → IsNth (starts_in tnfa.classes (state_of tnfa.states number)) choice rest
      → slice_get (steps_from tnfa (AtState number)) choice ≡ Some (leaf_step (number / 2) rest)
  start_step number choice rest lt nth =
      ap (λ l. slice_get l choice) (steps_are number lt) ∙ at (state_of tnfa.states number) nth
    where
      at : (state : State) → IsNth (starts_in tnfa.classes state) choice rest
          → slice_get (steps_of tnfa.classes (rule_at number) (number / 2) state) choice ≡ Some (leaf_step (number / 2) rest)
      at (held.Moves ways) nth = absurd nth
      at (held.Class class) nth =
          nth_get (map (leaf_step (number / 2)) (starts_at tnfa.classes class)) choice (leaf_step (number / 2) rest)
          (nth_map (leaf_step (number / 2)) (starts_at tnfa.classes class) choice rest nth)
      at held.AnyUnit nth =
          nth_get (leaf_step (number / 2) (numbered 1) ∷ []) choice (leaf_step (number / 2) rest)
          (nth_map (leaf_step (number / 2)) (numbered 1 ∷ []) choice rest nth)

  -- no edge leads on from a leaf
  pub start_no_edge : (number index choice to : ℕ) (rest : Residual) → IsNth (starts_in tnfa.classes (state_of tnfa.states number)) index rest
      → IsAt 0 (successors (graph_of (automaton rules)) number) choice to → ⊥
  start_no_edge number index choice to rest nth edge =
      subst (λ s. IsNth (starts_in tnfa.classes s) index rest)
      (state_moves number (moves_at (automaton rules) number) (at_move (automaton rules) number choice to edge).0) nth

  -- no state from which an end can be reached is dead
  pub reaches_alive : (number : ℕ) → ReachesEnd tnfa.classes tnfa.states number → ¬ IsDead tnfa (AtState number)
  reaches_alive number reaches dead =
      let lt : number < length tnfa.states = omega (arith, dead.0, is.marks) in
      false≢true (sym dead.1 ∙ (is.live number lt).1 reaches)

  pub alive_reaches : (number : ℕ) → number < length tnfa.states → ¬ IsDead tnfa (AtState number) → ReachesEnd tnfa.classes tnfa.states number
  alive_reaches number lt alive = at (mark_at tnfa.live number) refl
    where
      at : (b : Bool) → mark_at tnfa.live number ≡ b → ReachesEnd tnfa.classes tnfa.states number
      at true e = (is.live number lt).0 e
      at false e = absurd (alive (omega (arith, lt, is.marks), e))
