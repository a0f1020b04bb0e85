-- The states from which an end can be reached are those from which a walk leads to the last state of all.
use Rattle.std.proofs.Common.{◌≡◌, ℕ, zero, suc, ◌+◌, ◌<◌, arith, List, [], ◌∷◌, length, map, get_or, refl, sym, ◌∙◌, subst, Some, ⊎_elim}
use Rattle.std.specs.Prelude.{Contains, slice_get}
use Rattle.lx_regex.specs.ClassLimits.{AllClassesFit}
use Rattle.lx_class.specs.Ranges.{InRanges}
use Rattle.lx_class.specs.declared.ranges.Range.{Range}
use Rattle.lx_encode.specs.Graph.{AreStarts, IsGraphOf, parts}
use Rattle.lx_encode.specs.declared.graph.Residual.{Residual}
use Rattle.lx_regex.specs.Automaton as spec
use Rattle.lx_regex.specs.Automaton.{automaton, leaf, move, moves, target, unit_leaf}
use Rattle.lx_regex.specs.PartList.{set_of}
use Rattle.lx_regex.specs.Reading.{IsReading, of_point, of_unit}
use Rattle.lx_regex.specs.Script.{Symbol}
use Rattle.lx_regex.specs.Term.{Term}
use Rattle.lx_regex.specs.Walk.{IsAmong, first, next, Walk, at_point, at_unit, moved, stay}
use Rattle.lx_tnfa.specs.Classes.{AreClasses}
use Rattle.lx_tnfa.specs.LeafReadings.{IsNth}
use Rattle.lx_tnfa.specs.Live.{ReachesEnd, at_end, onward, behind_leaf, leads_to, starts_at, state_of}
use Rattle.lx_tnfa.specs.Moves.{shown_move}
use Rattle.lx_tnfa.specs.PlaceNumbers.{class_starts, set_at}
use Rattle.lx_tnfa.specs.Rows.{RepresentEach, Represents}
use Rattle.lx_tnfa.specs.Tnfa.{Tnfa, rows_at}
use Rattle.lx_tnfa.specs.declared.states.Move.{Move}
use Rattle.lx_tnfa.specs.declared.states.State.{State}
use Rattle.lx_tnfa.specs.declared.states.State.TheVariants as held
use Rattle.lx_tnfa.proofs.Leaves.ClassStarts.{some_point}
use Rattle.lx_tnfa.proofs.Construction.HeldStates.{held_at, held_moves}
use Rattle.lx_tnfa.proofs.Leaves.LeafStarts.{class_graph, graph_at, set_in, starts_have}
use Rattle.lx_tnfa.proofs.Leaves.TableLeaves.{leaf_fits, row_or_none}

pub to_of : (way : spec.Move) → (shown_move way).to ≡ target way
to_of (move picked set unset to) = refl

-- the moves of a state lead where those of the automaton lead
way_to : (ways : List spec.Move) (to : ℕ) → Contains (map (λ (way : Move). way.to) (map shown_move ways)) to
    → (way : spec.Move) × IsAmong way ways × (target way ≡ to)
way_to [] to c = absurd (omega (arith, c.1))
way_to (way ∷ ways) to c = at c.0 c.1 c.2 (λ others. way_to ways to others)
  where
    at : (k : ℕ) → k < length (map (λ (way : Move). way.to) (map shown_move (way ∷ ways)))
        → get_or (map (λ (way : Move). way.to) (map shown_move (way ∷ ways))) k to ≡ to
        → (Contains (map (λ (way : Move). way.to) (map shown_move ways)) to → (found : spec.Move) × IsAmong found ways × (target found ≡ to))
        → (found : spec.Move) × IsAmong found (way ∷ ways) × (target found ≡ to)
    at zero lt is later = (way, first, sym (to_of way) ∙ is)
    at (suc k) lt is later = let r = later (k, omega arith, is) in (r.0, next r.1, r.2)

to_way : (way : spec.Move) (ways : List spec.Move) → IsAmong way ways → Contains (map (λ (way : Move). way.to) (map shown_move ways)) (target way)
to_way way ways (first) = (0, omega arith, to_of way)
to_way way (other ∷ ways) (next among) = let r = to_way way ways among in (suc r.0, omega (arith, r.1), r.2)

only_one : (x y : ℕ) → Contains (x ∷ []) y → x ≡ y
only_one x y c = at c.0 c.1 c.2
  where
    at : (k : ℕ) → k < 1 → get_or (x ∷ []) k y ≡ y → x ≡ y
    at zero lt is = is
    at (suc k) lt is = absurd (omega arith)

module _ (tnfa : Tnfa) (rules : List Term) (are : AreClasses tnfa.enc tnfa.classes) (states : RepresentEach tnfa.classes (automaton rules) tnfa.states) where
  walk_at : (number to : ℕ) → suc number ≡ to → Walk (automaton rules) 0 to → Walk (automaton rules) 0 (number + 1)
  walk_at number to e walk = let same : to ≡ number + 1 = omega arith in subst (Walk (automaton rules) 0) same walk

  -- a step to where an end is reached
  step_walk : (number to : ℕ) (row : spec.State) (state : State) → Represents tnfa.classes row state
      → slice_get (automaton rules) number ≡ Some row → Contains (leads_to tnfa.classes number state) to → Walk (automaton rules) 0 to
      → Walk (automaton rules) 0 number
  step_walk number to (moves ways) (held.Moves others) h at leads walk =
      let way = way_to ways to (subst (λ l. Contains (map (λ (way : Move). way.to) l) to) h leads) in
      moved ways way.0 at way.1 (subst (Walk (automaton rules) 0) (sym way.2) walk)
  step_walk number to (moves ways) (held.Class class) h at leads walk = absurd h
  step_walk number to (moves ways) held.AnyUnit h at leads walk = absurd h
  step_walk number to (leaf ranges) (held.Moves others) h at leads walk = absurd h
  step_walk number to (leaf ranges) (held.Class class) h at leads walk =
      by (starts_at tnfa.classes class) leads
      (λ start starts e. some_point (rows_at tnfa.classes class) tnfa.enc (set_of ranges) graph.1.live (parts tnfa.enc) start starts
      (subst (λ l. AreStarts (rows_at tnfa.classes class) tnfa.enc (set_of ranges) (parts tnfa.enc) l) e graph.1.starts)) refl
    where
      graph : (set_at tnfa.classes class ≡ set_of ranges) × IsGraphOf tnfa.enc (set_of ranges) (graph_at tnfa.classes class)
      graph = class_graph tnfa.enc tnfa.classes class (set_of ranges) are h

      by : (list : List Residual) → Contains (behind_leaf list (suc number)) to
          → ((start : Residual) (starts : List Residual) → starts_at tnfa.classes class ≡ start ∷ starts → (point : ℕ) × InRanges (set_of ranges) point)
          → starts_at tnfa.classes class ≡ list → Walk (automaton rules) 0 number
      by [] c some e = absurd (omega (arith, c.1))
      by (start ∷ starts) c some e =
          let point = some start starts e in
          at_point ranges point.0 at (set_in ranges point.0 point.1) (walk_at number to (only_one (suc number) to c) walk)
  step_walk number to (leaf ranges) held.AnyUnit h at leads walk = absurd h
  step_walk number to unit_leaf (held.Moves others) h at leads walk = absurd h
  step_walk number to unit_leaf (held.Class class) h at leads walk = absurd h
  step_walk number to unit_leaf held.AnyUnit h at leads walk =
      at_unit 0 at (walk_at number to (only_one (suc number) to leads) walk)

  -- a state from which an end can be reached has a walk
  pub reaches_walk : (number : ℕ) → ReachesEnd tnfa.classes tnfa.states number → Walk (automaton rules) 0 number
  reaches_walk zero at_end = stay
  reaches_walk number (onward to leads reaches) =
      let walk = reaches_walk to reaches in
      ⊎_elim
      (λ row. step_walk number to row.0 (state_of tnfa.states number) row.2 row.1 leads walk)
      (λ none. let c = subst (λ s. Contains (leads_to tnfa.classes number s) to) none leads in absurd (omega (arith, c.1)))
      (row_or_none tnfa.classes (automaton rules) tnfa.states number states)

  module _ (fits : AllClassesFit tnfa.enc rules) where
    -- behind a leaf that can be read
    leaf_leads : (number : ℕ) (row : spec.State) (state : State) (choice : List Symbol) (units : List ℕ) → Represents tnfa.classes row state
        → slice_get (automaton rules) number ≡ Some row → IsReading tnfa.enc row choice units
        → Contains (leads_to tnfa.classes number state) (number + 1)
    leaf_leads number row (held.Moves ways) choice units h at reading =
        absurd ((starts_have tnfa are row (held.Moves ways) choice units h (leaf_fits tnfa.enc rules number row fits at) reading).nth)
    leaf_leads number row (held.Class class) choice units h at reading =
        let start = starts_have tnfa are row (held.Class class) choice units h (leaf_fits tnfa.enc rules number row fits at) reading in
        by (starts_at tnfa.classes class) start.index (choice, start.rest) start.nth
      where
        none : (all : List Range) (index : ℕ) (start : List Symbol × ℕ)
            → IsNth (class_starts tnfa.enc (set_at tnfa.classes class) all []) index start → ⊥
        none [] index start nth = nth
        none (part ∷ others) index start nth = nth

        by : (list : List Residual) (index : ℕ) (start : List Symbol × ℕ)
            → IsNth (class_starts tnfa.enc (set_at tnfa.classes class) (parts tnfa.enc) list) index start
            → Contains (behind_leaf list (suc number)) (number + 1)
        by [] index start nth = absurd (none (parts tnfa.enc) index start nth)
        by (begin ∷ starts) index start nth = (0, omega arith, omega arith)
    leaf_leads number row held.AnyUnit choice units h at reading = (0, omega arith, omega arith)

    -- and a walk tells that an end can be reached
    pub walk_reaches : {number : ℕ} → Walk (automaton rules) 0 number → ReachesEnd tnfa.classes tnfa.states number
    walk_reaches stay = at_end
    walk_reaches (moved {state = number} ways way at among walk) =
        let is = held_moves tnfa.classes ways (state_of tnfa.states number) (held_at tnfa.classes (automaton rules) tnfa.states number (moves ways) states at) in
        onward (target way)
        (subst (λ s. Contains (leads_to tnfa.classes number s) (target way)) (sym is) (to_way way ways among)) (walk_reaches walk)
    walk_reaches (at_point {state = number} ranges point at within walk) =
        onward (number + 1)
        (leaf_leads number (leaf ranges) (state_of tnfa.states number) _ _
        (held_at tnfa.classes (automaton rules) tnfa.states number (leaf ranges) states at) at (of_point point within)) (walk_reaches walk)
    walk_reaches (at_unit {state = number} unit at walk) =
        onward (number + 1)
        (leaf_leads number unit_leaf (state_of tnfa.states number) _ _
        (held_at tnfa.classes (automaton rules) tnfa.states number unit_leaf states at) at (of_unit unit)) (walk_reaches walk)
