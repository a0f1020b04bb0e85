-- The closure of places and the search from their numbers go on alike: what later laws use of it.
use Rattle.std.specs.Prelude.{◌≡◌, ◌≢◌, ℕ, ◌*◌, ◌/◌, List, [], ◌∷◌, ◌++◌, map, Option, Some, None, Bool, true, false, All, Contains, slice_get, slice_index}
use Rattle.lx_base.specs.declared.settings.Enc.{Enc}
use Rattle.lx_regex.specs.Automaton.{State, automaton, target}
use Rattle.lx_regex.specs.Cut.{rule_part}
use Rattle.lx_regex.specs.Pattern.{Pattern, sorts_of, terms_of, with_terms}
use Rattle.lx_regex.specs.Script.{Symbol, begins, ends, picks, reads, script, sets, units, unsets}
use Rattle.lx_regex.specs.Term.{Term}
use Rattle.lx_regex.specs.Tree.{Tree}
use Rattle.lx_tnfa.specs.Closure.{IsClosureOf}
use Rattle.lx_tnfa.specs.DepthFirst.{Found, search_from}
use Rattle.lx_tnfa.specs.PlaceNumbers.{numbers_after, place_number, symbols_added}
use Rattle.lx_tnfa.specs.Tnfa.{Tnfa}
use Rattle.lx_tnfa.specs.declared.closure.Reach.{Reach}
use Rattle.lx_tnfa.specs.declared.places.Place.{Place}
use Rattle.lx_tnfa.specs.declared.states.Event.{Event}
use Rattle.lx_tnfa.specs.declared.states.Event.TheVariants.{Set, Unset}
use Rattle.lx_tdfa.specs.Accepts.{first_final}
use Rattle.lx_tdfa.specs.Graph.{graph_of, move_at, path_symbols, rule_starts}
use Rattle.lx_tdfa.specs.Kernels.{Candidate, Key, next_candidates, segment_symbols}
use Rattle.lx_tdfa.specs.Registers.{kinds_of_rule}
use Rattle.lx_tdfa.specs.Steps.{Ending, IsInLeaf, Step, first_ending, next_steps, start_place}
use Rattle.lx_tdfa.specs.Values.{value_at}

-- the number of a place
abbrev pub number_of : Tnfa → Place → ℕ
number_of tnfa place = place_number tnfa (2 * place.part) place.rest.0

-- the tag events of symbols
abbrev pub events_of : List Symbol → List Event
events_of [] = []
events_of (sets tag ∷ symbols) = Set tag ∷ events_of symbols
events_of (unsets tag ∷ symbols) = Unset tag ∷ events_of symbols
events_of (reads unit ∷ symbols) = events_of symbols
events_of (begins part ∷ symbols) = events_of symbols
events_of (ends part ∷ symbols) = events_of symbols
events_of (picks choice ∷ symbols) = events_of symbols

-- the segments over a unit from numbers of places
abbrev pub candidates_from : Tnfa → List Term → (from : List ℕ) → (unit : ℕ) → List Candidate
candidates_from tnfa rules from unit =
    next_candidates (graph_of (automaton rules)) (numbers_after tnfa) (segment_symbols rules (symbols_added tnfa)) (rule_starts rules) from unit

-- how the search from numbers of places goes on to the end
abbrev pub end_from : List Term → (from : List ℕ) → Option Found
end_from rules from = first_final (0 ∷ []) (search_from (graph_of (automaton rules)) [] from)

-- the same index, but where the list of the start alone stands beside those of the beginnings of rules
abbrev pub IsSource : (first : Bool) → (from other : ℕ) → Type 0
IsSource true from other = Unit {0}
IsSource false from other = from ≡ other

-- the segment has these events, and then it reads the unit
pub record IsSegment (tnfa : Tnfa) (rules : List Term) (place unit : ℕ) (key : Key) (events : List Event) : Type 0 where
  pub before : List Symbol
  pub says : segment_symbols rules (symbols_added tnfa) place unit key ≡ before ++ reads unit ∷ []
  pub silent : units before ≡ []
  pub events_are : events_of before ≡ events

-- candidates from these numbers are steps, one by one
abbrev pub AreAlike : Tnfa → List Term → (first : Bool) → (numbers : List ℕ) → (unit : ℕ) → List Candidate → List Step → Type 0
AreAlike tnfa rules first numbers unit [] [] = Unit {0}
AreAlike tnfa rules first numbers unit [] (step ∷ steps) = ⊥
AreAlike tnfa rules first numbers unit (candidate ∷ candidates) [] = ⊥
AreAlike tnfa rules first numbers unit (candidate ∷ candidates) (step ∷ steps) =
    (candidate.to ≡ number_of tnfa step.to) × IsSource first candidate.from step.from
    × IsSegment tnfa rules (value_at 0 numbers candidate.from) unit candidate.key step.events
    × AreAlike tnfa rules first numbers unit candidates steps

-- the last state at which a path takes a move
abbrev pub last_state : List State → (number : ℕ) → (indices : List ℕ) → ℕ
last_state states number [] = number
last_state states number (index ∷ []) = number
last_state states number (index ∷ other ∷ indices) = last_state states (target (move_at states number index)) (other ∷ indices)

-- the way that was found is the walk of an ending
pub record IsEndAlike (tnfa : Tnfa) (rules : List Term) (first : Bool) (numbers : List ℕ) (found : Found) (ending : Ending) : Type 0 where
  pub from : ℕ
  pub way : List ℕ
  pub choices : found.choices ≡ from ∷ way
  pub moves : way ≢ []
  pub source : IsSource first from ending.from
  pub silent : units (path_symbols (automaton rules) (value_at 0 numbers from) way []) ≡ []
  pub events_are : events_of (path_symbols (automaton rules) (value_at 0 numbers from) way []) ≡ ending.events
  pub rule : ending.rule ≡ slice_index tnfa.owners (last_state (automaton rules) (value_at 0 numbers from) way / 2)

abbrev pub AreEndsAlike : Tnfa → List Term → (first : Bool) → (numbers : List ℕ) → Option Found → Option Ending → Type 0
AreEndsAlike tnfa rules first numbers None None = Unit {0}
AreEndsAlike tnfa rules first numbers None (Some ending) = ⊥
AreEndsAlike tnfa rules first numbers (Some found) None = ⊥
AreEndsAlike tnfa rules first numbers (Some found) (Some ending) = IsEndAlike tnfa rules first numbers found ending

-- the closure of places is the search from their numbers; the closure of the start is that from the beginnings of the rules
pub record SearchesAlike (patterns : List Pattern) (tnfa : Tnfa) : Type 0 where
  pub steps : (kernel : List Place) (reaches : List Reach) (unit : ℕ) → All (IsInLeaf tnfa) kernel → IsClosureOf tnfa kernel reaches
      → AreAlike tnfa (terms_of patterns) false (map (number_of tnfa) kernel) unit
      (candidates_from tnfa (terms_of patterns) (map (number_of tnfa) kernel) unit) (next_steps tnfa unit reaches)
  pub first_steps : (reaches : List Reach) (unit : ℕ) → IsClosureOf tnfa (start_place ∷ []) reaches
      → AreAlike tnfa (terms_of patterns) true (rule_starts (terms_of patterns)) unit
      (candidates_from tnfa (terms_of patterns) (rule_starts (terms_of patterns)) unit) (next_steps tnfa unit reaches)
  pub endings : (kernel : List Place) (reaches : List Reach) → All (IsInLeaf tnfa) kernel → IsClosureOf tnfa kernel reaches
      → AreEndsAlike tnfa (terms_of patterns) false (map (number_of tnfa) kernel)
      (end_from (terms_of patterns) (map (number_of tnfa) kernel)) (first_ending reaches)
  pub first_endings : (reaches : List Reach) → IsClosureOf tnfa (start_place ∷ []) reaches
      → AreEndsAlike tnfa (terms_of patterns) true (rule_starts (terms_of patterns))
      (end_from (terms_of patterns) (rule_starts (terms_of patterns))) (first_ending reaches)

-- the first ending from any list of places is that of a rule of the list
abbrev pub EndsAreOwned : List Pattern → Tnfa → Type 0
EndsAreOwned patterns tnfa =
    (kernel : List Place) (reaches : List Reach) (ending : Ending) → IsClosureOf tnfa kernel reaches → first_ending reaches ≡ Some ending
    → (pattern : Pattern) × Contains (with_terms patterns) pattern × (pattern.number ≡ ending.rule)

-- walks stay in their rules, and numbers tell places apart
pub record RulesKept (enc : Enc) (patterns : List Pattern) (tnfa : Tnfa) : Type 0 where
  pub numbers : (place other : Place) → IsInLeaf tnfa place → IsInLeaf tnfa other → number_of tnfa place ≡ number_of tnfa other → place ≡ other
  pub steps : (kernel : List Place) (reaches : List Reach) (unit : ℕ) (step : Step) → All (IsInLeaf tnfa) kernel
      → IsClosureOf tnfa kernel reaches → Contains (next_steps tnfa unit reaches) step
      → (place : Place) × (slice_get kernel step.from ≡ Some place)
      × (slice_index tnfa.owners place.part ≡ slice_index tnfa.owners step.to.part)
  pub endings : (kernel : List Place) (reaches : List Reach) (ending : Ending) → All (IsInLeaf tnfa) kernel
      → IsClosureOf tnfa kernel reaches → first_ending reaches ≡ Some ending
      → (place : Place) × (slice_get kernel ending.from ≡ Some place) × (slice_index tnfa.owners place.part ≡ ending.rule)
  pub ending_rules : (index : ℕ) (term : Term) (tree : Tree term) (front : List Symbol) (place : ℕ) (way : List ℕ) → way ≢ []
      → slice_get (terms_of patterns) index ≡ Some term
      → script enc (rule_part (terms_of patterns) index) tree ≡ front ++ path_symbols (automaton (terms_of patterns)) place way []
      → (pattern : Pattern) × (slice_get (with_terms patterns) index ≡ Some pattern)
      × (pattern.number ≡ slice_index tnfa.owners (last_state (automaton (terms_of patterns)) place way / 2))
  pub kinds : (pattern : Pattern) → Contains (with_terms patterns) pattern → kinds_of_rule tnfa pattern.number ≡ sorts_of pattern
