-- The stops at which walks from places begin, and the numbers of these places.
use Rattle.std.proofs.Common.{◌≡◌, ℕ, zero, suc, ◌+◌, ◌*◌, ◌<◌, ◌≤◌, arith, Bool, true, false, List, [], ◌∷◌, map, length, refl, sym, ap, ◌∙◌, subst, Some, ⊎_elim}
use Rattle.std.proofs.lemmas.Bool.{false≢true}
use Rattle.std.specs.Prelude.{◌/◌, slice_get, if◌then◌else◌}
use Rattle.lx_encode.specs.Table.{row_of}
use Rattle.lx_encode.specs.declared.graph.Residual.{Residual}
use Rattle.lx_encode.specs.declared.runs.Run.{Run}
use Rattle.lx_regex.specs.Automaton as spec
use Rattle.lx_regex.specs.Automaton.{automaton, leaf, moves, unit_leaf}
use Rattle.lx_regex.specs.Term.{Term, parts}
use Rattle.lx_regex.proofs.KernelCuts.Cuts.{ArePaired, paired_rules}
use Rattle.lx_tnfa.specs.Closure.{beginning_at, beginning_of, behind_or_at}
use Rattle.lx_tnfa.specs.LeafReadings.{IsNth}
use Rattle.lx_tnfa.specs.Live.{state_of}
use Rattle.lx_tnfa.specs.PlaceNumbers.{is_finished, is_last}
use Rattle.lx_tnfa.specs.Rows.{Represents}
use Rattle.lx_tnfa.specs.Tnfa.{IsRest, Tnfa, beginnings_from, rows_at, state_at}
use Rattle.lx_tnfa.specs.declared.classes.ClassGraph.{ClassGraph}
use Rattle.lx_tnfa.specs.declared.closure.Stop.{Stop}
use Rattle.lx_tnfa.specs.declared.closure.Stop.TheVariants.{AtState, AtTarget}
use Rattle.lx_tnfa.specs.declared.closure.Target.TheVariants.{End, Leaf}
use Rattle.lx_tnfa.specs.declared.places.Place.{Place}
use Rattle.lx_tnfa.specs.declared.states.State.{State}
use Rattle.lx_tnfa.specs.declared.states.State.TheVariants as held
use Rattle.lx_tnfa.proofs.Leaves.LeafNumbers.{beyond, finished_number, unfinished_number}
use Rattle.lx_tnfa.proofs.Searching.SearchBasics.{Each}
use Rattle.lx_tnfa.proofs.Leaves.TableLeaves.{row_or_none}
use Rattle.lx_tnfa.proofs.Construction.WholeTable.{held_length}
use Rattle.lx_tdfa.specs.Graph.{rule_starts, starts_behind}
use Rattle.lx_tdfa.specs.Steps.{IsInLeaf}
use Rattle.lx_tdfa.specs.Values.{value_at}
use Rattle.lx_tdfa.proofs.Walks.ClosureSearches.{number_of}
use Rattle.lx_tdfa.proofs.WordKernels.OrderedLists.{each_from, member_nth}
use Rattle.lx_tdfa.proofs.Walks.StopSteps.{Holds, starts_in}
use Rattle.lx_tdfa.proofs.Rules.WithinStates.{rules_begin_within}

-- the state is a leaf
abbrev pub IsLeafState : State → Type 0
IsLeafState (held.Moves ways) = ⊥
IsLeafState (held.Class number) = Unit {0}
IsLeafState held.AnyUnit = Unit {0}

pub start_leaf : (classes : List ClassGraph) (state : State) (index : ℕ) (rest : Residual) → IsNth (starts_in classes state) index rest → IsLeafState state
start_leaf classes (held.Moves ways) index rest nth = nth
start_leaf classes (held.Class number) index rest nth = tt
start_leaf classes held.AnyUnit index rest nth = tt

abbrev IsLeafRow : spec.State → Type 0
IsLeafRow (moves ways) = ⊥
IsLeafRow (leaf ranges) = Unit {0}
IsLeafRow unit_leaf = Unit {0}

held_leaf : (classes : List ClassGraph) (row : spec.State) (state : State) → Represents classes row state → IsLeafState state → IsLeafRow row
held_leaf classes (moves ways) (held.Moves others) h l = l
held_leaf classes (moves ways) (held.Class number) h l = h
held_leaf classes (moves ways) held.AnyUnit h l = h
held_leaf classes (leaf ranges) state h l = tt
held_leaf classes unit_leaf state h l = tt

-- leaves are the first rows of pairs
paired_leaf : (rows : List spec.State) (number : ℕ) (row : spec.State) → ArePaired rows → slice_get rows number ≡ Some row → IsLeafRow row
    → (part : ℕ) × (number ≡ 2 * part) × (number + 1 < length rows)
paired_leaf [] number row paired at l = cc
paired_leaf (first ∷ []) number row paired at l = absurd paired
paired_leaf (first ∷ moves ways ∷ rows) zero row paired at l = (0, refl, omega arith)
paired_leaf (first ∷ moves ways ∷ rows) (suc zero) row paired at l =
    let same : moves ways ≡ row = cc in absurd (subst IsLeafRow (sym same) l)
paired_leaf (first ∷ moves ways ∷ rows) (suc (suc number)) row paired at l =
    let r = paired_leaf rows number row paired at l in (suc r.0, omega (arith, r.1), omega (arith, r.2))
paired_leaf (first ∷ leaf ranges ∷ rows) number row paired at l = absurd paired
paired_leaf (first ∷ unit_leaf ∷ rows) number row paired at l = absurd paired

module _ (tnfa : Tnfa) (rules : List Term) (is : Holds tnfa rules) where
  pub state_count : length tnfa.states ≡ length (automaton rules)
  state_count = held_length tnfa.classes (automaton rules) tnfa.states is.states

  -- so their numbers are even, and a state follows
  pub leaf_even : (number : ℕ) → IsLeafState (state_of tnfa.states number) → (2 * (number / 2) ≡ number) × (number + 1 < length tnfa.states)
  leaf_even number l =
      ⊎_elim
      (λ row.
      let r = paired_leaf (automaton rules) number row.0 (paired_rules rules 1) row.1 (held_leaf tnfa.classes row.0 (state_of tnfa.states number) row.2 l) in
      let half : number / 2 ≡ r.0 = omega (arith, r.1) in
      (omega (arith, r.1), omega (arith, r.2, state_count)))
      (λ none. absurd (subst IsLeafState none l))
      (row_or_none tnfa.classes (automaton rules) tnfa.states number is.states)

  -- walks from a place begin at this stop, and it has this number
  abbrev pub Begin : Stop → (number : ℕ) → Type 0
  Begin (AtState state) number = (state ≡ number) × (0 < state) × (state < length tnfa.states)
  Begin (AtTarget (Leaf place)) number =
      IsInLeaf tnfa place × (is_finished tnfa.classes (state_at tnfa place) place.rest.0 ≡ false) × (number ≡ number_of tnfa place)
  Begin (AtTarget (End rule)) number = ⊥

  abbrev pub AreBeginnings : List Stop → List ℕ → Type 0
  AreBeginnings [] [] = Unit {0}
  AreBeginnings [] (number ∷ numbers) = ⊥
  AreBeginnings (stop ∷ stops) [] = ⊥
  AreBeginnings (stop ∷ stops) (number ∷ numbers) = Begin stop number × AreBeginnings stops numbers

  pub begin_number : (stops : List Stop) (numbers : List ℕ) (index : ℕ) (stop : Stop) → AreBeginnings stops numbers → IsNth stops index stop
      → (number : ℕ) × IsNth numbers index number × Begin stop number
  begin_number [] numbers index stop b nth = absurd nth
  begin_number (first ∷ stops) [] index stop b nth = absurd b
  begin_number (first ∷ stops) (number ∷ numbers) zero stop b nth = (number, refl, subst (λ s. Begin s number) nth b.0)
  begin_number (first ∷ stops) (number ∷ numbers) (suc index) stop b nth = begin_number stops numbers index stop b.1 nth

  pub begin_stop : (stops : List Stop) (numbers : List ℕ) (index number : ℕ) → AreBeginnings stops numbers → IsNth numbers index number
      → (stop : Stop) × IsNth stops index stop × Begin stop number
  begin_stop stops [] index number b nth = absurd nth
  begin_stop [] (first ∷ numbers) index number b nth = absurd b
  begin_stop (stop ∷ stops) (first ∷ numbers) zero number b nth = (stop, refl, subst (Begin stop) nth b.0)
  begin_stop (stop ∷ stops) (first ∷ numbers) (suc index) number b nth = begin_stop stops numbers index number b.1 nth

  pub place_leaf : (place : Place) → IsInLeaf tnfa place → IsLeafState (state_at tnfa place)
  place_leaf place within = at (state_at tnfa place) within.0.rest
    where
      at : (state : State) → IsRest tnfa.classes state place.part place.rest.0 → IsLeafState state
      at (held.Moves ways) rest = omega (arith, rest.0, within.1)
      at (held.Class number) rest = tt
      at held.AnyUnit rest = tt

  finished_begins : (state : State) (place : Place) → IsLeafState state → is_finished tnfa.classes state place.rest.0 ≡ true
      → beginning_at tnfa.classes state place ≡ AtState (2 * place.part + 1)
  finished_begins (held.Moves ways) place l e = absurd l
  finished_begins (held.Class number) place l e = at (row_of (rows_at tnfa.classes number) place.rest.0) e
    where
      at : (runs : List Run) → is_last runs ≡ true → behind_or_at runs place ≡ AtState (2 * place.part + 1)
      at [] e = refl
      at (run ∷ runs) e = absurd (false≢true e)
  finished_begins held.AnyUnit place l e = ap (λ b. if b then AtState (2 * place.part + 1) else AtTarget (Leaf place)) e

  unfinished_begins : (state : State) (place : Place) → IsLeafState state → is_finished tnfa.classes state place.rest.0 ≡ false
      → beginning_at tnfa.classes state place ≡ AtTarget (Leaf place)
  unfinished_begins (held.Moves ways) place l e = absurd l
  unfinished_begins (held.Class number) place l e = at (row_of (rows_at tnfa.classes number) place.rest.0) e
    where
      at : (runs : List Run) → is_last runs ≡ false → behind_or_at runs place ≡ AtTarget (Leaf place)
      at [] e = absurd (false≢true (sym e))
      at (run ∷ runs) e = refl
  unfinished_begins held.AnyUnit place l e = ap (λ b. if b then AtState (2 * place.part + 1) else AtTarget (Leaf place)) e

  place_begins : (place : Place) → IsInLeaf tnfa place → Begin (beginning_of tnfa place) (number_of tnfa place)
  place_begins place within = at (is_finished tnfa.classes (state_at tnfa place) place.rest.0) refl
    where
      l : IsLeafState (state_at tnfa place)
      l = place_leaf place within

      at : (b : Bool) → is_finished tnfa.classes (state_at tnfa place) place.rest.0 ≡ b → Begin (beginning_of tnfa place) (number_of tnfa place)
      at true e =
          subst (λ s. Begin s (number_of tnfa place)) (sym (finished_begins (state_at tnfa place) place l e)) (
            sym (finished_number tnfa (2 * place.part) place.rest.0 e),
            omega arith,
            (leaf_even (2 * place.part) l).1,
          )
      at false e =
          subst (λ s. Begin s (number_of tnfa place)) (sym (unfinished_begins (state_at tnfa place) place l e)) (within, e, refl)

  pub places_begin : (kernel : List Place) → Each (IsInLeaf tnfa) kernel → AreBeginnings (map (beginning_of tnfa) kernel) (map (number_of tnfa) kernel)
  places_begin [] within = tt
  places_begin (place ∷ kernel) within = (place_begins place within.0, places_begin kernel within.1)

  -- the number of a place within a leaf is beyond the states
  pub begin_beyond : (place : Place) (number : ℕ) → Begin (AtTarget (Leaf place)) number → length (automaton rules) ≤ number
  begin_beyond place number b =
      omega (arith, state_count, b.2 ∙ unfinished_number tnfa (2 * place.part) place.rest.0 b.1, beyond tnfa (2 * place.part) place.rest.0 (length tnfa.states))

  starts_begin : (numbers : List ℕ) → Each (λ number. (0 < number) × (number < length tnfa.states)) numbers → AreBeginnings (map AtState numbers) numbers
  starts_begin [] h = tt
  starts_begin (number ∷ numbers) h = ((refl, h.0.0, h.0.1), starts_begin numbers h.1)

  starts_within : Each (λ number. (0 < number) × (number < length tnfa.states)) (rule_starts rules)
  starts_within =
      each_from (λ number. (0 < number) × (number < length tnfa.states)) (rule_starts rules)
      (λ number member.
      let nth = member_nth (rule_starts rules) number member in
      (above 0 rules nth.0 number nth.1, omega (arith, rules_begin_within rules nth.0 number nth.1, state_count)))
    where
      above : (before : ℕ) (rules : List Term) (index number : ℕ) → IsNth (starts_behind before rules) index number → 0 < number
      above before [] index number nth = absurd nth
      above before (e ∷ rules) zero number nth = omega (arith, nth)
      above before (e ∷ rules) (suc index) number nth = above (before + parts e) rules index number nth

  -- the rules begin at these states
  pub begins_are : (before part : ℕ) (terms : List Term) → part ≡ before + 1 → beginnings_from terms part ≡ starts_behind before terms
  begins_are before part [] e = refl
  begins_are before part (term ∷ terms) e =
      let more : part + parts term ≡ (before + parts term) + 1 = omega (arith, e) in
      ap (λ n. 2 * n ∷ beginnings_from terms (part + parts term)) e
      ∙ ap (λ l. 2 * (before + 1) ∷ l) (begins_are (before + parts term) (part + parts term) terms more)

  pub begins_positive : tnfa.begins ≡ rule_starts rules → Each (λ begin. 0 < begin) tnfa.begins
  begins_positive same =
      subst (Each (λ begin. 0 < begin)) (sym same) (firsts (rule_starts rules) starts_within)
    where
      firsts : (numbers : List ℕ) → Each (λ number. (0 < number) × (number < length tnfa.states)) numbers → Each (λ begin. 0 < begin) numbers
      firsts [] h = tt
      firsts (number ∷ numbers) h = (h.0.0, firsts numbers h.1)

  pub rules_begin : tnfa.begins ≡ rule_starts rules → AreBeginnings (map AtState tnfa.begins) (rule_starts rules)
  rules_begin same = subst (λ l. AreBeginnings (map AtState l) (rule_starts rules)) (sym same) (starts_begin (rule_starts rules) starts_within)

-- an element by its index
pub value_nth : {X : Type 0} (none : X) (xs : List X) (index : ℕ) (x : X) → IsNth xs index x → value_at none xs index ≡ x
value_nth none [] index x nth = absurd nth
value_nth none (y ∷ xs) zero x nth = nth
value_nth none (y ∷ xs) (suc index) x nth = value_nth none xs index x nth
