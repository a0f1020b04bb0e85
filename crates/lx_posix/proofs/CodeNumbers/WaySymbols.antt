-- The symbols of a way by moves, and the lowest depth on it.
use Rattle.std.proofs.Common.{sym, ap, ◌∙◌, subst, arith}
use Rattle.std.specs.Prelude.{◌≡◌, ℕ, zero, suc, ◌-◌, ◌/◌, ◌%◌, ◌<◌, ◌≤◌, ◌^◌, min, List, [], ◌∷◌, ◌++◌, map, length, Option, Some, None, Bool, true, false, nat_eq, if◌then◌else◌, refl}
use Rattle.lx_base.specs.declared.settings.Enc.{Enc}
use Rattle.lx_regex.specs.Automaton as spec
use Rattle.lx_regex.specs.Automaton.{automaton, label, leaf, move, moves, target, unit_leaf}
use Rattle.lx_regex.specs.Pattern.{Pattern, terms_of}
use Rattle.lx_regex.specs.Script.{Symbol, begins, ends, picks, sets, unsets}
use Rattle.lx_regex.specs.Walk.{mark}
use Rattle.lx_regex.proofs.Walks.Clear.{picked}
use Rattle.lx_tnfa.specs.DepthFirst.{successors}
use Rattle.lx_tnfa.specs.LeafReadings.{IsNth}
use Rattle.lx_tnfa.specs.Live.{state_of}
use Rattle.lx_tnfa.specs.Moves.{moves_in, shown_move}
use Rattle.lx_tnfa.specs.Rows.{RepresentEach}
use Rattle.lx_tnfa.specs.Tnfa.{IsTnfaOf, Tnfa}
use Rattle.lx_tnfa.specs.declared.classes.ClassGraph.{ClassGraph}
use Rattle.lx_tnfa.specs.declared.states.Move.{Move}
use Rattle.lx_tnfa.specs.declared.states.State.{State}
use Rattle.lx_tnfa.specs.declared.states.State.TheVariants.{AnyUnit, Class, Moves}
use Rattle.lx_tnfa.proofs.Construction.NthLists.{nth_map, nth_read}
use Rattle.lx_tdfa.specs.Graph.{graph_of, move_at, path_end, path_symbols}
use Rattle.lx_tdfa.proofs.Walks.StatePaths.{at_move}
use Rattle.lx_tdfa.proofs.WordKernels.OrderedLists.{nth_at_zero}
use Rattle.lx_posix.specs.Comparing.{forked}
use Rattle.lx_posix.specs.LevelPaths.{AreDepths}
use Rattle.lx_posix.specs.Parting.{Event, digit, events}
use Rattle.lx_posix.specs.Walks.{depth, lowest}
use Rattle.lx_posix.specs.Finding.{IsWay}
use Rattle.lx_posix.specs.WayNumbers.{FitsOnWay, depth_behind, lowest_on_way, next_state, next_states}

-- over the symbol of a state
module _ (s : ℕ) where
  depth_behind-begins : (outer : ℕ) (l : List Symbol) → depth outer (mark s ∷ l) ≡ depth (depth_behind outer s) l
  depth_behind-begins outer l = by (nat_eq (s % 2) 0)
    where
      by : (b : Bool) → depth outer ((if b then begins (s / 2) else ends (s / 2)) ∷ l) ≡ depth (if b then suc outer else outer - 1) l
      by true = refl
      by false = refl

  pub depth_behind-is : (outer : ℕ) → depth outer (mark s ∷ []) ≡ depth_behind outer s
  depth_behind-is outer = depth_behind-begins outer []

  pub lowest-mark : (outer low : ℕ) (l : List Symbol) → low ≤ outer
      → lowest outer low (mark s ∷ l) ≡ lowest (depth_behind outer s) (min low (depth_behind outer s)) l
  lowest-mark outer low l le = by (nat_eq (s % 2) 0)
    where
      by : (b : Bool) → lowest outer low ((if b then begins (s / 2) else ends (s / 2)) ∷ l)
          ≡ lowest (if b then suc outer else outer - 1) (min low (if b then suc outer else outer - 1)) l
      by true = let q : low ≡ min low (suc outer) = omega arith in ap (λ m. lowest (suc outer) m l) q
      by false = refl

  pub forked-mark : (outer : ℕ) (l k : List Symbol)
      → forked outer (events (mark s ∷ l)) (events (mark s ∷ k)) ≡ forked (depth_behind outer s) (events l) (events k)
  forked-mark outer l k = by (nat_eq (s % 2) 0)
    where
      by : (b : Bool) → forked outer (events ((if b then begins (s / 2) else ends (s / 2)) ∷ l))
          (events ((if b then begins (s / 2) else ends (s / 2)) ∷ k)) ≡ forked (if b then suc outer else outer - 1) (events l) (events k)
      by true = refl
      by false = refl

-- over the symbols of a move
module _ {X : Type 0} (f : List Symbol → X) (set : (t : ℕ) (l : List Symbol) → f (sets t ∷ l) ≡ f l)
    (unset : (t : ℕ) (l : List Symbol) → f (unsets t ∷ l) ≡ f l) (l : List Symbol) where
  over_unsets : (us : List ℕ) → f (map unsets us ++ l) ≡ f l
  over_unsets [] = refl
  over_unsets (u ∷ us) = unset u (map unsets us ++ l) ∙ over_unsets us

  over_sets : (ss us : List ℕ) → f ((map sets ss ++ map unsets us) ++ l) ≡ f l
  over_sets [] us = over_unsets us
  over_sets (s ∷ ss) us = set s ((map sets ss ++ map unsets us) ++ l) ∙ over_sets ss us

  over_label : ((x : ℕ) (l : List Symbol) → f (picks x ∷ l) ≡ f l) → (way : spec.Move) → f (label way ++ l) ≡ f l
  over_label pick (move None ss us to) = over_sets ss us
  over_label pick (move (Some x) ss us to) = pick x ((map sets ss ++ map unsets us) ++ l) ∙ over_sets ss us

-- the digit of a move before events
abbrev pub digits : Option ℕ → List Event → List Event
digits None l = l
digits (Some x) l = digit x ∷ l

pub events-label : (way : spec.Move) (l : List Symbol) → events (label way ++ l) ≡ digits (picked way) (events l)
events-label (move None ss us to) l = over_sets events (λ t l. refl) (λ t l. refl) l ss us
events-label (move (Some x) ss us to) l = ap (λ k. digit x ∷ k) (over_sets events (λ t l. refl) (λ t l. refl) l ss us)

pub lowest-label : (outer low : ℕ) (way : spec.Move) (l : List Symbol) → lowest outer low (label way ++ l) ≡ lowest outer low l
lowest-label outer low way l = over_label (lowest outer low) (λ t l. refl) (λ t l. refl) l (λ x l. refl) way

pub depth-label : (outer : ℕ) (way : spec.Move) (l : List Symbol) → depth outer (label way ++ l) ≡ depth outer l
depth-label outer way l = over_label (depth outer) (λ t l. refl) (λ t l. refl) l (λ x l. refl) way

-- the program's moves lead to the states of the automaton's
shown_targets : (ways : List spec.Move) → map (λ (way : Move). way.to) (map shown_move ways) ≡ map target ways
shown_targets [] = refl
shown_targets (move picked set unset to ∷ ways) = ap (λ l. to ∷ l) (shown_targets ways)

same_targets : (classes : List ClassGraph) (rows : List spec.State) (states : List State) (number : ℕ) → RepresentEach classes rows states
    → map (λ (way : Move). way.to) (moves_in (state_of states number)) ≡ successors (graph_of rows) number
same_targets classes [] [] number h = refl
same_targets classes [] (state ∷ states) number h = absurd h
same_targets classes (row ∷ rows) [] number h = absurd h
same_targets classes (moves ways ∷ rows) (Moves held ∷ states) zero h =
    ap (λ l. map (λ (way : Move). way.to) l) h.0 ∙ shown_targets ways
same_targets classes (moves ways ∷ rows) (Class class ∷ states) zero h = absurd h.0
same_targets classes (moves ways ∷ rows) (AnyUnit ∷ states) zero h = absurd h.0
same_targets classes (leaf ranges ∷ rows) (Moves held ∷ states) zero h = absurd h.0
same_targets classes (leaf ranges ∷ rows) (Class class ∷ states) zero h = refl
same_targets classes (leaf ranges ∷ rows) (AnyUnit ∷ states) zero h = absurd h.0
same_targets classes (unit_leaf ∷ rows) (Moves held ∷ states) zero h = absurd h.0
same_targets classes (unit_leaf ∷ rows) (Class class ∷ states) zero h = absurd h.0
same_targets classes (unit_leaf ∷ rows) (AnyUnit ∷ states) zero h = refl
same_targets classes (row ∷ rows) (state ∷ states) (suc number) h = same_targets classes rows states number h.1

same_length : (classes : List ClassGraph) (rows : List spec.State) (states : List State) → RepresentEach classes rows states
    → length states ≡ length rows
same_length classes [] [] h = refl
same_length classes [] (state ∷ states) h = absurd h
same_length classes (row ∷ rows) [] h = absurd h
same_length classes (row ∷ rows) (state ∷ states) h = ap suc (same_length classes rows states h.1)

module _ (tnfa : Tnfa) where
  pub next_states-nth : (state index : ℕ) (way : Move) → IsNth (moves_in (state_of tnfa.states state)) index way
      → IsNth (next_states tnfa state) index way.to
  next_states-nth state index way nth = nth_map (λ (move : Move). move.to) (moves_in (state_of tnfa.states state)) index way nth

  pub next_state-is : (state index next : ℕ) → IsNth (next_states tnfa state) index next → next_state tnfa state index ≡ next
  next_state-is state index next nth = nth_read (next_states tnfa state) index next 0 nth

  pub lowest_on_way-most : (way : List ℕ) (state outer low : ℕ) → lowest_on_way tnfa state outer low way ≤ low
  lowest_on_way-most [] state outer low = omega arith
  lowest_on_way-most (index ∷ way) state outer low =
      let next : ℕ = next_state tnfa state index in
      let h = lowest_on_way-most way next (depth_behind outer next) (min low (depth_behind outer next)) in omega arith

module _ (enc : Enc) (patterns : List Pattern) (tnfa : Tnfa) (is : IsTnfaOf enc patterns tnfa) where
  abbrev states : List spec.State
  states = automaton (terms_of patterns)

  pub next_states-are : (state : ℕ) → next_states tnfa state ≡ successors (graph_of states) state
  next_states-are state = same_targets tnfa.classes states tnfa.states state is.states

  pub states-length : length tnfa.states ≡ length states
  states-length = same_length tnfa.classes states tnfa.states is.states

  pub in_graph : (state index next : ℕ) → IsNth (next_states tnfa state) index next → IsNth (successors (graph_of states) state) index next
  in_graph state index next nth = subst (λ l. IsNth l index next) (next_states-are state) nth

  pub target-is : (state index next : ℕ) → IsNth (next_states tnfa state) index next → target (move_at states state index) ≡ next
  target-is state index next nth =
      (at_move states state index next (nth_at_zero (successors (graph_of states) state) index next (in_graph state index next nth))).2

  pub target-next : (state index next : ℕ) → IsNth (next_states tnfa state) index next
      → target (move_at states state index) ≡ next_state tnfa state index
  target-next state index next nth = target-is state index next nth ∙ sym (next_state-is tnfa state index next nth)

  -- the rest of a way leads on from the target of its first move
  pub way-rest : (state index to : ℕ) (way : List ℕ) → (w : IsWay tnfa state (index ∷ way) to)
      → IsWay tnfa (target (move_at states state index)) way to
  way-rest state index to way w = subst (λ n. IsWay tnfa n way to) (sym (target-is state index w.0.to (next_states-nth tnfa state index w.0 w.1))) w.2

  pub path_end-way : (way : List ℕ) (state to : ℕ) → IsWay tnfa state way to → path_end states state way ≡ to
  path_end-way [] state to w = w
  path_end-way (index ∷ way) state to w = path_end-way way (target (move_at states state index)) to (way-rest state index to way w)

  -- the lowest depth of a way and symbols among which no part ends
  pub lowest-way : (way : List ℕ) (state to outer low : ℕ) (behind : List Symbol) → low ≤ outer → IsWay tnfa state way to
      → ((d m : ℕ) → lowest d m behind ≡ m)
      → lowest outer low (path_symbols states state way (mark to ∷ behind))
      ≡ lowest_on_way tnfa state (depth_behind outer state) (min low (depth_behind outer state)) way
  lowest-way [] state to outer low behind le w flat =
      ap (λ n. lowest outer low (mark n ∷ behind)) (sym w) ∙ lowest-mark state outer low behind le ∙ flat _ _
  lowest-way (index ∷ way) state to outer low behind le w flat =
      let way_move : spec.Move = move_at states state index in
      let rest : List Symbol = path_symbols states (target way_move) way (mark to ∷ behind) in
      let d : ℕ = depth_behind outer state in
      let m : ℕ = min low d in
      lowest-mark state outer low (label way_move ++ rest) le ∙ lowest-label d m way_move rest
      ∙ lowest-way way (target way_move) to d m behind (omega arith) (way-rest state index to way w) flat
      ∙ ap (λ n. lowest_on_way tnfa n (depth_behind d n) (min m (depth_behind d n)) way) (target-next state index w.0.to (next_states-nth tnfa state index w.0 w.1))

  module _ (deep : ℕ → ℕ) (depths : AreDepths states deep) where
    -- the depth behind a way is that of the state to which it leads
    pub depth-way : (way : List ℕ) (state to outer : ℕ) (behind : List Symbol) → IsWay tnfa state way to
        → ((d : ℕ) → depth d behind ≡ d) → deep state ≡ depth_behind outer state
        → depth outer (path_symbols states state way (mark to ∷ behind)) ≡ deep to
    depth-way [] state to outer behind w flat e =
        ap (λ n. depth outer (mark n ∷ behind)) (sym w) ∙ depth_behind-begins state outer behind ∙ flat _ ∙ sym e ∙ ap deep w
    depth-way (index ∷ way) state to outer behind w flat e =
        let next_nth : IsNth (next_states tnfa state) index w.0.to = next_states-nth tnfa state index w.0 w.1 in
        let way_move : spec.Move = move_at states state index in
        let rest : List Symbol = path_symbols states (target way_move) way (mark to ∷ behind) in
        let next : deep (target way_move) ≡ depth_behind (depth_behind outer state) (target way_move) =
        ap deep (target-is state index w.0.to next_nth) ∙ depths state index w.0.to (in_graph state index w.0.to next_nth)
        ∙ ap (λ n. depth (deep state) (mark n ∷ [])) (sym (target-is state index w.0.to next_nth))
        ∙ depth_behind-is (target way_move) (deep state) ∙ ap (λ d. depth_behind d (target way_move)) e in
        depth_behind-begins state outer (label way_move ++ rest) ∙ depth-label (depth_behind outer state) way_move rest
        ∙ depth-way way (target way_move) to (depth_behind outer state) behind (way-rest state index to way w) flat next

    -- the depths on a way fit where all do
    pub way-fits : ((state : ℕ) → deep state < 2 ^ 32) → (way : List ℕ) (state to outer : ℕ) → IsWay tnfa state way to → outer ≡ deep state
        → FitsOnWay tnfa state outer way
    way-fits small [] state to outer w e = tt
    way-fits small (index ∷ way) state to outer w e =
        let next_nth : IsNth (next_states tnfa state) index w.0.to = next_states-nth tnfa state index w.0 w.1 in
        let next : next_state tnfa state index ≡ w.0.to = next_state-is tnfa state index w.0.to next_nth in
        let behind : depth_behind outer w.0.to ≡ deep w.0.to =
        ap (λ d. depth_behind d w.0.to) e ∙ sym (depth_behind-is w.0.to (deep state))
        ∙ sym (depths state index w.0.to (in_graph state index w.0.to next_nth)) in
        let fits : depth_behind outer w.0.to < 2 ^ 32 = subst (λ d. d < 2 ^ 32) (sym behind) (small w.0.to) in (
          nth_within (moves_in (state_of tnfa.states state)) index w.0 w.1,
          subst (λ n. depth_behind outer n < 2 ^ 32) (sym next) fits,
          subst (λ n. FitsOnWay tnfa n (depth_behind outer n) way) (sym next)
              (way-fits small way w.0.to to (depth_behind outer w.0.to) w.2 behind),
        )
      where
        nth_within : (ways : List Move) (index : ℕ) (way : Move) → IsNth ways index way → index < length ways
        nth_within [] index way nth = absurd nth
        nth_within (first ∷ ways) zero way nth = omega arith
        nth_within (first ∷ ways) (suc index) way nth = let h = nth_within ways index way nth in omega arith
