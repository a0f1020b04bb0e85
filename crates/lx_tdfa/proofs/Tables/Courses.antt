-- How kernels of words go on, unit by unit, as lists that are computed under an order of parses; and what keeps up with them.
use Rattle.std.specs.Prelude.{◌≡◌, ◌≢◌, ℕ, ◌↔◌, List, [], ◌∷◌, ◌++◌, map, length, Option, Some, None, Bool, true, false, Contains, slice_get, slice_index}
use Rattle.lx_base.specs.declared.settings.Enc.{Enc}
use Rattle.lx_regex.specs.Cut.{BeginsMatch}
use Rattle.lx_regex.specs.Order.{Policy}
use Rattle.lx_regex.specs.Pattern.{Pattern, terms_of, with_terms}
use Rattle.lx_regex.specs.Script.{Symbol}
use Rattle.lx_regex.specs.Values.{all_events, last_event}
use Rattle.lx_tnfa.specs.DepthFirst.{Found}
use Rattle.lx_tnfa.specs.LeafReadings.{IsNth}
use Rattle.lx_tnfa.specs.Tnfa.{Tnfa}
use Rattle.lx_tnfa.specs.declared.places.Place.{Place}
use Rattle.lx_tdfa.specs.Accepts.{Accepts}
use Rattle.lx_tdfa.specs.Graph.{rule_starts}
use Rattle.lx_tdfa.specs.Kernels.{Candidate, Entry, first_entries, places}
use Rattle.lx_tdfa.specs.Steps.{Ending, Step, places_of}
use Rattle.lx_tdfa.specs.Table.{Onward}
use Rattle.lx_tdfa.specs.Values.{value_at}
use Rattle.lx_tdfa.proofs.Values.StepValues.{all_on, last_on}
use Rattle.lx_tdfa.proofs.Walks.ClosureSearches.{AreAlike, AreEndsAlike}

-- For each word the list of its places, the segments over one more unit from them, the values of tags beside them, and how the end of
-- a rule is reached; with what is known of these.
pub record Course (policy : Policy) (enc : Enc) (patterns : List Pattern) (tnfa : Tnfa) : Type 0 where
  pub entries : (word : List ℕ) → List Entry
  pub segments : (word : List ℕ) → (unit : ℕ) → List Candidate
  pub last : (word : List ℕ) → (tag : ℕ) → List (Option ℕ)
  pub all : (word : List ℕ) → (tag : ℕ) → List (List (Option ℕ))
  pub accept : (word : List ℕ) → Option Found
  -- places come from segments, and are none behind a word that begins no match
  pub start : entries [] ≡ first_entries 0 (rule_starts (terms_of patterns))
  pub onward : (word : List ℕ) (unit : ℕ)
      → places (entries (word ++ unit ∷ [])) ≡ map (λ (candidate : Candidate). candidate.to) (segments word unit)
  pub stuck : (word : List ℕ) (unit : ℕ) → entries word ≡ [] → segments word unit ≡ []
  pub begins : (word : List ℕ) → word ≢ [] → (entries word ≡ []) ↔ (BeginsMatch enc (terms_of patterns) word → ⊥)
  pub full : (word : List ℕ) → word ≢ [] → entries word ≢ [] → BeginsMatch enc (terms_of patterns) word
  -- values are kept beside them
  pub last_start : (tag from : ℕ) → value_at None (last [] tag) from ≡ None
  pub all_start : (tag from : ℕ) → value_at [] (all [] tag) from ≡ []
  pub last_onward : (word : List ℕ) (unit : ℕ) (first : Bool) (tag : ℕ) → last (word ++ unit ∷ []) tag
      ≡ last_on tnfa (terms_of patterns) first unit (length word) tag (entries word) (last word tag) (segments word unit)
  pub all_onward : (word : List ℕ) (unit : ℕ) (first : Bool) (tag : ℕ) → all (word ++ unit ∷ []) tag
      ≡ all_on tnfa (terms_of patterns) first unit (length word) tag (entries word) (all word tag) (segments word unit)
  pub last_kept : (word : List ℕ) (tag from : ℕ) (entry : Entry) (rest : List Symbol) → IsNth (entries word) from entry
      → last_event tag 0 None (entry.front ++ rest) ≡ last_event tag (length word) (value_at None (last word tag) from) rest
  pub all_kept : (word : List ℕ) (tag from : ℕ) (entry : Entry) (rest : List Symbol) → IsNth (entries word) from entry
      → all_events tag 0 (entry.front ++ rest) ≡ value_at [] (all word tag) from ++ all_events tag (length word) rest
  -- the first rule that takes a word is accepted
  pub accepts : (word : List ℕ) → Accepts policy enc (terms_of patterns) word (entries word) (accept word)

-- the place with this index is in the rule; the start is in all
abbrev pub IsHeldAt : Tnfa → (is_first : Bool) → (kernel : List Place) → (from rule : ℕ) → Type 0
IsHeldAt tnfa true kernel from rule = Unit {0}
IsHeldAt tnfa false kernel from rule =
    (place : Place) × (slice_get kernel from ≡ Some place) × (slice_index tnfa.owners place.part ≡ rule)

-- Kernels of some kind keep up with words. `places_in` are the places of a kernel, `GoesOn` says how it goes on, and `IsAfter` which is
-- that of a word; the first one is `begin`.
pub record KeepUp {policy : Policy} {enc : Enc} {patterns : List Pattern} {tnfa : Tnfa} (course : Course policy enc patterns tnfa)
    {K : Type 0} (begin : K) (places_in : K → List Place) (GoesOn : (first : Bool) → K → Onward K → Type 0)
    (IsAfter : (first : Bool) → K → (word : List ℕ) → Type 0) : Type 0 where
  pub start : IsAfter true begin []
  pub empty : (kernel : K) (word : List ℕ) → IsAfter true kernel word → word ≡ []
  pub some : (kernel : K) (word : List ℕ) → IsAfter false kernel word → course.entries word ≢ []
  pub onward : (first : Bool) (kernel : K) (word : List ℕ) (onward : Onward K) (unit : ℕ) (step : Step) (others : List Step)
      → IsAfter first kernel word → GoesOn first kernel onward → onward.steps unit ≡ step ∷ others
      → IsAfter false (onward.next unit) (word ++ unit ∷ []) × (places_in (onward.next unit) ≡ places_of (step ∷ others))
      × (onward.next unit ≢ begin)
  pub alike : (first : Bool) (kernel : K) (word : List ℕ) (onward : Onward K) (unit : ℕ)
      → IsAfter first kernel word → GoesOn first kernel onward
      → AreAlike tnfa (terms_of patterns) first (places (course.entries word)) unit (course.segments word unit) (onward.steps unit)
  pub ends_alike : (first : Bool) (kernel : K) (word : List ℕ) (onward : Onward K)
      → IsAfter first kernel word → GoesOn first kernel onward
      → AreEndsAlike tnfa (terms_of patterns) first (places (course.entries word)) (course.accept word) onward.ending
  pub held : (first : Bool) (kernel : K) (onward : Onward K) (unit : ℕ) (step : Step)
      → GoesOn first kernel onward → Contains (onward.steps unit) step
      → IsHeldAt tnfa first (places_in kernel) step.from (slice_index tnfa.owners step.to.part)
  pub ending_held : (first : Bool) (kernel : K) (onward : Onward K) (ending : Ending)
      → GoesOn first kernel onward → onward.ending ≡ Some ending → IsHeldAt tnfa first (places_in kernel) ending.from ending.rule
  pub owned : (first : Bool) (kernel : K) (onward : Onward K) (ending : Ending) → GoesOn first kernel onward → onward.ending ≡ Some ending
      → (pattern : Pattern) × Contains (with_terms patterns) pattern × (pattern.number ≡ ending.rule)
