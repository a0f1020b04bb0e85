-- Each walk over the automaton takes choices of closures until its first unit, into the leaf that reads the unit.
use Rattle.std.proofs.Common.{◌≡◌, ℕ, zero, suc, ◌/◌, Bool, true, false, List, [], ◌∷◌, Some, refl, sym, ap, ◌∙◌, subst}
use Rattle.std.specs.Option.{option_map}
use Rattle.std.specs.Prelude.{if◌then◌else◌, slice_get, slice_index}
use Rattle.std.proofs.lemmas.Option.{slice_get-map}
use Rattle.lx_regex.specs.ClassLimits.{AllClassesFit}
use Rattle.lx_base.specs.declared.settings.Enc.{Enc}
use Rattle.lx_class.specs.declared.ranges.Range.{Range}
use Rattle.lx_encode.specs.Graph.{numbered, parts}
use Rattle.lx_encode.specs.declared.graph.Residual.{Residual}
use Rattle.lx_regex.specs.Automaton as spec
use Rattle.lx_regex.specs.Automaton.{automaton, leaf, unit_leaf}
use Rattle.lx_regex.specs.Expr.{ranges_of}
use Rattle.lx_regex.specs.Pattern.{Pattern, terms_of}
use Rattle.lx_regex.specs.Reading.{IsReading, of_point, of_unit}
use Rattle.lx_regex.specs.Script.{Symbol, leaf_choice}
use Rattle.lx_regex.specs.Walk.{Walk, stay, moved, at_point, at_unit}
use Rattle.lx_tnfa.specs.Classes.{AreClasses}
use Rattle.lx_tnfa.specs.Closure.{leaf_step, steps_of}
use Rattle.lx_tnfa.specs.LeafReadings.{IsNth}
use Rattle.lx_tnfa.specs.Live.{starts_at, state_of}
use Rattle.lx_tnfa.specs.PlaceNumbers.{class_starts, has_point, leaf_starts, set_at}
use Rattle.lx_tnfa.specs.TakenWalks.{FinishesAt, IsLeafChoice, ReadsAt, Takes, index_among}
use Rattle.lx_tnfa.specs.Tnfa.{FinishesRest, HasMoves, IsTnfaOf, Tnfa}
use Rattle.lx_tnfa.specs.declared.closure.Target.{Target}
use Rattle.lx_tnfa.specs.declared.closure.Target.TheVariants.{End, Leaf}
use Rattle.lx_tnfa.specs.declared.states.State.{State}
use Rattle.lx_tnfa.specs.declared.states.State.TheVariants as held
use Rattle.lx_tnfa.proofs.Leaves.FormedLeaves.{automaton_formed, leaf_even}
use Rattle.lx_tnfa.proofs.Construction.HeldStates.{held_at}
use Rattle.lx_tnfa.proofs.Leaves.LeafStarts.{starts_have}
use Rattle.lx_tnfa.proofs.Leaves.RestPlaces.{rest_ends, start_rest}
use Rattle.lx_tnfa.proofs.Leaves.TableLeaves.{leaf_fits}

-- a start of a class with its choice is the start with the same index
start_at : (enc : Enc) (set all : List Range) (starts : List Residual) (index : ℕ) (start : List Symbol × ℕ)
    → IsNth (class_starts enc set all starts) index start → slice_get starts index ≡ Some (numbered start.1)
start_at enc set [] starts index start nth = absurd nth
start_at enc set (part ∷ all) [] index start nth = absurd nth
start_at enc set (part ∷ all) (residual ∷ starts) index start nth =
    by (has_point set part) index nth (λ index nth. start_at enc set all starts index start nth)
    (λ index nth. start_at enc set all (residual ∷ starts) index start nth)
  where
    by : (has : Bool) (index : ℕ)
        → IsNth (if has then (leaf_choice enc (ranges_of set) part.lo, residual.0) ∷ class_starts enc set all starts else class_starts enc set all (residual ∷ starts)) index start
        → ((index : ℕ) → IsNth (class_starts enc set all starts) index start → slice_get starts index ≡ Some (numbered start.1))
        → ((index : ℕ) → IsNth (class_starts enc set all (residual ∷ starts)) index start → slice_get (residual ∷ starts) index ≡ Some (numbered start.1))
        → slice_get (residual ∷ starts) index ≡ Some (numbered start.1)
    by true zero nth later same = ap (λ (s : List Symbol × ℕ). Some (numbered s.1)) nth
    by true (suc index) nth later same = later index nth
    by false index nth later same = same index nth

module _ (tnfa : Tnfa) where
  -- it is the step into the leaf with this index
  leaf_into : (rule part : ℕ) (state : State) (index : ℕ) (start : List Symbol × ℕ) → IsNth (leaf_starts tnfa state) index start
      → slice_get (steps_of tnfa.classes rule part state) index ≡ Some (leaf_step part (numbered start.1))
  leaf_into rule part (held.Moves ways) index start nth = absurd nth
  leaf_into rule part (held.Class number) index start nth =
      slice_get-map (leaf_step part) (starts_at tnfa.classes number) index
      ∙ ap (λ found. option_map (leaf_step part) found)
      (start_at tnfa.enc (set_at tnfa.classes number) (parts tnfa.enc) (starts_at tnfa.classes number) index start nth)
  leaf_into rule part held.AnyUnit zero start nth = ap (λ (s : List Symbol × ℕ). Some (leaf_step part (numbered s.1))) nth
  leaf_into rule part held.AnyUnit (suc index) start nth = absurd nth

  -- what has moves has no start
  no_start : (state : State) (index : ℕ) (start : List Symbol × ℕ) → IsNth (leaf_starts tnfa state) index start → HasMoves state → ⊥
  no_start (held.Moves ways) index start nth has = nth
  no_start (held.Class number) index start nth has = has
  no_start held.AnyUnit index start nth has = has

module _ (enc : Enc) (patterns : List Pattern) (tnfa : Tnfa) (is : IsTnfaOf enc patterns tnfa) (fits : AllClassesFit enc (terms_of patterns)) where
  -- a choice into the leaf, and a target there
  record Comes (state : ℕ) (units : List ℕ) : Type 0 where
    choices : List ℕ
    to : Target
    takes : IsLeafChoice tnfa state choices to
    reads : FinishesAt tnfa to units

  -- what is read in a leaf is read from a start
  leaf_comes : (number : ℕ) (row : spec.State) (choice : List Symbol) (units : List ℕ) → slice_get (automaton (terms_of patterns)) (suc number) ≡ Some row
      → IsReading enc row choice units → Comes (suc number) units
  leaf_comes number row choice units at reading =
      let are = subst (λ e. AreClasses e tnfa.classes) (sym is.enc) is.classes in
      let held_row = held_at tnfa.classes (automaton (terms_of patterns)) tnfa.states (suc number) row is.states at in
      let begin =
      starts_have tnfa are row (state_of tnfa.states (suc number)) choice units held_row
      (leaf_fits tnfa.enc (terms_of patterns) (suc number) row (subst (λ e. AllClassesFit e (terms_of patterns)) (sym is.enc) fits) at)
      (subst (λ e. IsReading e row choice units) (sym is.enc) reading) in
      let part = suc number / 2 in
      let rest = start_rest tnfa are row (state_of tnfa.states (suc number)) part begin.index begin.rest choice held_row begin.nth in
      let even =
      leaf_even tnfa.enc tnfa.classes tnfa.states (automaton_formed tnfa.enc tnfa.classes (terms_of patterns) tnfa.states is.states are) (suc number)
      (no_start tnfa (state_of tnfa.states (suc number)) begin.index (choice, begin.rest) begin.nth) in
      record {
        choices = begin.index ∷ [];
        to = Leaf (record { part = part; rest = numbered begin.rest });
        takes = (
          begin.index,
          refl,
          leaf_into tnfa (slice_index tnfa.owners part) part (state_of tnfa.states (suc number)) begin.index (choice, begin.rest) begin.nth,
        );
        reads =
            subst (λ state. FinishesRest tnfa.classes (state_of tnfa.states state) begin.rest units) (sym even)
            ((rest_ends tnfa.classes (state_of tnfa.states (suc number)) part begin.rest units rest).0 begin.ends);
      }

  -- a walk takes choices to where its first unit is read
  pub some_taken : (rule : ℕ) {state : ℕ} (walk : Walk (automaton (terms_of patterns)) 0 state)
      → (choices : List ℕ) × (to : Target) × Takes tnfa rule walk choices to × ReadsAt enc tnfa walk to
  some_taken rule stay = ([], End rule, (refl, refl), tt)
  some_taken rule (moved {state = state} ways way stands among walk) =
      let later = some_taken (slice_index tnfa.owners (state / 2)) walk in
      (index_among among ∷ later.0, later.1, (later.0, refl, later.2), later.3)
  some_taken rule (at_point {state = zero} ranges point stands within walk) = cc
  some_taken rule (at_point {state = suc number} ranges point stands within walk) =
      let found = leaf_comes number (leaf ranges) _ _ stands (of_point point within) in (found.choices, found.to, found.takes, found.reads)
  some_taken rule (at_unit {state = zero} unit stands walk) = cc
  some_taken rule (at_unit {state = suc number} unit stands walk) =
      let found = leaf_comes number unit_leaf _ _ stands (of_unit unit) in (found.choices, found.to, found.takes, found.reads)
