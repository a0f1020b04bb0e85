-- The values that are kept beside places, by the steps that lead there.
use Rattle.std.proofs.Common.{◌≡◌, ℕ, zero, suc, List, [], ◌∷◌, ◌++◌, map, Option, Some, None, Bool, true, false, slice_get, refl, ap, ap₂, ◌∙◌, sym, subst}
use Rattle.lx_regex.specs.Automaton.{automaton}
use Rattle.lx_regex.specs.Term.{Term}
use Rattle.lx_regex.specs.Values.{all_events, last_event}
use Rattle.lx_tnfa.specs.PlaceNumbers.{numbers_after, symbols_added}
use Rattle.lx_tnfa.specs.Tnfa.{Tnfa}
use Rattle.lx_tdfa.specs.Graph.{graph_of, rule_starts}
use Rattle.lx_tdfa.specs.Kernels.{Candidate, Entry, entry_at, places, segment_symbols}
use Rattle.lx_tdfa.specs.Registers.{last_mark}
use Rattle.lx_tdfa.specs.Steps.{Step, places_of}
use Rattle.lx_tdfa.specs.Values.{value_at, values_on}
use Rattle.lx_tdfa.proofs.Walks.ClosureSearches.{AreAlike, IsSource, number_of}
use Rattle.lx_tdfa.proofs.Values.SymbolValues.{all_events-segment, last_event-segment}
use Rattle.lx_tdfa.proofs.Values.TagOps.{marked, marks}

-- the value beside the place with this index, where the list is not that of the start
abbrev pub source_value : {X : Type 0} → (none : X) → (is_first : Bool) → List X → (from : ℕ) → X
source_value none true values from = none
source_value none false values from = value_at none values from

-- nothing is kept beside the places of the start
abbrev pub IsBare : {X : Type 0} → (none : X) → (is_first : Bool) → List X → Type 0
IsBare none true values = (from : ℕ) → value_at none values from ≡ none
IsBare none false values = Unit {0}

pub value_at-source : {X : Type 0} (none : X) (first : Bool) (values : List X) (from other : ℕ) → IsBare none first values → IsSource first from other
    → value_at none values from ≡ source_value none first values other
value_at-source none true values from other bare source = bare from
value_at-source none false values from other bare source = ap (λ n. value_at none values n) source

pub entry_at-place : (entries : List Entry) (index : ℕ) → (entry_at entries index).place ≡ value_at 0 (places entries) index
entry_at-place [] index = refl
entry_at-place (entry ∷ entries) zero = refl
entry_at-place (entry ∷ entries) (suc index) = entry_at-place entries index

module _ (tnfa : Tnfa) (rules : List Term) (first : Bool) (unit : ℕ) where
  -- the places have the numbers to which the candidates lead
  pub alike-numbers : (numbers : List ℕ) (candidates : List Candidate) (steps : List Step) → AreAlike tnfa rules first numbers unit candidates steps
      → map (number_of tnfa) (places_of steps) ≡ map (λ (candidate : Candidate). candidate.to) candidates
  alike-numbers numbers [] [] alike = refl
  alike-numbers numbers [] (step ∷ steps) alike = absurd alike
  alike-numbers numbers (candidate ∷ candidates) [] alike = absurd alike
  alike-numbers numbers (candidate ∷ candidates) (step ∷ steps) alike =
      ap₂ (λ (a : ℕ) (l : List ℕ). a ∷ l) (sym alike.0) (alike-numbers numbers candidates steps alike.3)

  module _ (here tag : ℕ) (entries : List Entry) where
    abbrev pub last_on : List (Option ℕ) → List Candidate → List (Option ℕ)
    last_on before candidates =
        values_on (Option ℕ) None (λ here value symbols. last_event tag here value symbols) (graph_of (automaton rules)) (numbers_after tnfa)
        (segment_symbols rules (symbols_added tnfa)) (rule_starts rules) here entries before unit candidates

    abbrev pub all_on : List (List (Option ℕ)) → List Candidate → List (List (Option ℕ))
    all_on before candidates =
        values_on (List (Option ℕ)) [] (λ here value symbols. value ++ all_events tag here symbols) (graph_of (automaton rules)) (numbers_after tnfa)
        (segment_symbols rules (symbols_added tnfa)) (rule_starts rules) here entries before unit candidates

    pub last_on-step : (before : List (Option ℕ)) (candidates : List Candidate) (steps : List Step) (place : ℕ) (step : Step)
        → AreAlike tnfa rules first (places entries) unit candidates steps → IsBare None first before → slice_get steps place ≡ Some step
        → value_at None (last_on before candidates) place ≡ marked here (last_mark tag step.events None) (source_value None first before step.from)
    last_on-step before [] [] place step alike bare at = absurd (cc at)
    last_on-step before [] (other ∷ steps) place step alike bare at = absurd alike
    last_on-step before (candidate ∷ candidates) [] place step alike bare at = absurd alike
    last_on-step before (candidate ∷ candidates) (other ∷ steps) zero step alike bare at =
        let segment = alike.2 in
        let value : Option ℕ = value_at None before candidate.from in
        let same : other ≡ step = cc at in
        subst (λ (s : Step). last_event tag here value (segment_symbols rules (symbols_added tnfa) (entry_at entries candidate.from).place unit candidate.key)
        ≡ marked here (last_mark tag s.events None) (source_value None first before s.from)) same
        (ap (λ p. last_event tag here value (segment_symbols rules (symbols_added tnfa) p unit candidate.key)) (entry_at-place entries candidate.from)
        ∙ ap (last_event tag here value) segment.says
        ∙ last_event-segment tag here unit segment.before segment.silent value
        ∙ ap (λ l. marked here (last_mark tag l None) value) segment.events_are
        ∙ ap (marked here (last_mark tag other.events None)) (value_at-source None first before candidate.from other.from bare alike.1))
    last_on-step before (candidate ∷ candidates) (other ∷ steps) (suc place) step alike bare at =
        last_on-step before candidates steps place step alike.3 bare at

    pub all_on-step : (before : List (List (Option ℕ))) (candidates : List Candidate) (steps : List Step) (place : ℕ) (step : Step)
        → AreAlike tnfa rules first (places entries) unit candidates steps → IsBare [] first before → slice_get steps place ≡ Some step
        → value_at [] (all_on before candidates) place ≡ source_value [] first before step.from ++ marks here tag step.events
    all_on-step before [] [] place step alike bare at = absurd (cc at)
    all_on-step before [] (other ∷ steps) place step alike bare at = absurd alike
    all_on-step before (candidate ∷ candidates) [] place step alike bare at = absurd alike
    all_on-step before (candidate ∷ candidates) (other ∷ steps) zero step alike bare at =
        let segment = alike.2 in
        let value : List (Option ℕ) = value_at [] before candidate.from in
        let same : other ≡ step = cc at in
        subst (λ (s : Step). value ++ all_events tag here (segment_symbols rules (symbols_added tnfa) (entry_at entries candidate.from).place unit candidate.key)
        ≡ source_value [] first before s.from ++ marks here tag s.events) same
        (ap (λ p. value ++ all_events tag here (segment_symbols rules (symbols_added tnfa) p unit candidate.key)) (entry_at-place entries candidate.from)
        ∙ ap (λ l. value ++ all_events tag here l) segment.says
        ∙ ap (λ l. value ++ l) (all_events-segment tag here unit segment.before segment.silent)
        ∙ ap (λ l. value ++ marks here tag l) segment.events_are
        ∙ ap (λ l. l ++ marks here tag other.events) (value_at-source [] first before candidate.from other.from bare alike.1))
    all_on-step before (candidate ∷ candidates) (other ∷ steps) (suc place) step alike bare at =
        all_on-step before candidates steps place step alike.3 bare at
