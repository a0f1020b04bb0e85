-- The targets of the ways that are found go on as the segments of the search do: to the same places, with the same events.
use Rattle.std.proofs.Common.{sym, ap, ◌∙◌, subst, arith}
use Rattle.std.specs.List.{cons_option}
use Rattle.std.specs.Option.{option_map}
use Rattle.std.specs.Prelude.{◌≡◌, ℕ, zero, suc, ◌+◌, ◌<◌, List, [], ◌∷◌, ◌++◌, map, length, replicate, Option, Some, None, Bool, true, false, All, refl}
use Rattle.std.proofs.lemmas.List.{length-map}
use Rattle.lx_base.specs.declared.settings.Enc.{Enc}
use Rattle.lx_regex.specs.ClassLimits.{AllClassesFit}
use Rattle.lx_regex.specs.Pattern.{Pattern, terms_of}
use Rattle.lx_tnfa.specs.Closure.{AllPlaces, IsTarget}
use Rattle.lx_tnfa.specs.LeafReadings.{IsNth}
use Rattle.lx_tnfa.specs.PlaceNumbers.{numbers_after}
use Rattle.lx_tnfa.specs.Tnfa.{IsTnfaOf, Tnfa, place_after}
use Rattle.lx_tnfa.specs.declared.closure.Reach.{Reach}
use Rattle.lx_tnfa.specs.declared.places.Place.{Place}
use Rattle.lx_tnfa.specs.declared.states.Event.{Event}
use Rattle.lx_tnfa.proofs.Searching.SearchBasics.{Each, Each-append}
use Rattle.lx_tnfa.proofs.Searching.SearchPaths.{All-from_each, Each-from_all}
use Rattle.lx_tdfa.specs.Kernels.{Candidate, candidates, candidates_at}
use Rattle.lx_tdfa.specs.Steps.{IsInLeaf, Step, next_steps, step_indices}
use Rattle.lx_tdfa.specs.Values.{value_at}
use Rattle.lx_tdfa.proofs.Walks.ClosureSearches.{AreAlike, IsSegment, IsSource, number_of}
use Rattle.lx_tdfa.proofs.Walks.NumbersApart.{number_of-apart}
use Rattle.lx_tdfa.proofs.Walks.Searches.{automaton_holds}
use Rattle.lx_posix.specs.Beginnings.{AreBeginnings, IsPoint, point_number}
use Rattle.lx_posix.specs.Comparing.{Ranked}
use Rattle.lx_posix.specs.Finding.{IsFoundAt, beginning_at, shown_found}
use Rattle.lx_posix.specs.KernelLists.{places_of}
use Rattle.lx_posix.specs.Reaching.{AreByWays, AreWaysFrom, IsLeafPoint, events_from, found_reaches, origins_of, reaches_of, segments_by, source_of}
use Rattle.lx_posix.specs.declared.points.Beginning.{Beginning}
use Rattle.lx_posix.specs.declared.points.Point.TheVariants.{State}
use Rattle.lx_posix.specs.declared.search.Found.{Found}
use Rattle.lx_posix.proofs.CodeReaches.LeafPoints.{leaf_found}
use Rattle.lx_posix.proofs.CodeReaches.PlacesAfter.{after_in_leaf, numbers_at, places_after, places_at, places_in_leaf, reaches_at-places, target_at}
use Rattle.lx_posix.proofs.CodeReaches.StepsFollow.{Firsts, Follow, IsAlike, follow_firsts, none, passed, taken}
use Rattle.lx_posix.proofs.CodeReaches.WaySegments.{way_segment}

nth_replicate : (n x : ℕ) (xs : List ℕ) (k : ℕ) → k < n → IsNth (replicate n x ++ xs) k x
nth_replicate zero x xs k lt = absurd (omega arith)
nth_replicate (suc n) x xs zero lt = refl
nth_replicate (suc n) x xs (suc k) lt = nth_replicate n x xs k (omega arith)

nth_behind : (n x : ℕ) (xs : List ℕ) (k y : ℕ) → IsNth xs k y → IsNth (replicate n x ++ xs) (n + k) y
nth_behind zero x xs k y nth = let e : k ≡ 0 + k = omega arith in subst (λ i. IsNth xs i y) e nth
nth_behind (suc n) x xs k y nth =
    let e : suc (n + k) ≡ suc n + k = omega arith in subst (λ i. IsNth (x ∷ (replicate n x ++ xs)) i y) e (nth_behind n x xs k y nth)

-- where the places are from which walks begin
begin_place : (tnfa : Tnfa) (deep : ℕ → ℕ) (beginnings : List Beginning) (ranks : List Ranked) (index : ℕ)
    → AreBeginnings tnfa deep beginnings ranks → index < length beginnings
    → IsPoint tnfa (beginning_at beginnings index).at
    × (value_at 0 (places_of ranks) index ≡ point_number tnfa (beginning_at beginnings index).at)
begin_place tnfa deep [] ranks index are lt = absurd (omega arith)
begin_place tnfa deep (beginning ∷ beginnings) [] index are lt = absurd are
begin_place tnfa deep (beginning ∷ beginnings) (ranked ∷ ranks) zero are lt = (are.0.point, sym are.0.place)
begin_place tnfa deep (beginning ∷ beginnings) (ranked ∷ ranks) (suc index) are lt =
    begin_place tnfa deep beginnings ranks index are.1 (omega arith)

source_is : (first : Bool) (from : ℕ) → IsSource first from (source_of first from)
source_is true from = tt
source_is false from = refl

module _ (enc : Enc) (patterns : List Pattern) (tnfa : Tnfa) (of : IsTnfaOf enc patterns tnfa)
    (fits : AllClassesFit enc (terms_of patterns))
    (first : Bool) (deep : ℕ → ℕ) (beginnings : List Beginning) (ranks : List Ranked) (are : AreBeginnings tnfa deep beginnings ranks)
    (leaves : All (λ (beginning : Beginning). IsLeafPoint tnfa beginning.at) beginnings) where
  -- what is found is no place within a leaf, or one that is told to be so
  in_leaf : (found : Found) → IsFoundAt tnfa beginnings deep found → IsLeafPoint tnfa found.at
  in_leaf found is =
      let begin = beginning_at beginnings found.from in
      leaf_found enc patterns tnfa of begin.at found.at found.way
      (begin_place tnfa deep beginnings ranks found.from are is.from).0 is.point is.way
      (leaves found.from (record { at = State 0; depth = 0; «open» = 0; number = 0 }) is.from)

  module _ (founds : List Found) (unit : ℕ) where
    abbrev origins : List ℕ
    origins = origins_of tnfa first beginnings 0 founds

    abbrev Goes : (index : ℕ) → List Reach → List Candidate → Type 0
    Goes = Follow tnfa (terms_of patterns) first (places_of ranks) unit founds origins (number_of-apart enc patterns tnfa of)

    -- the targets of one way
    module _ (origin : ℕ) (found : Found) (is : IsFoundAt tnfa beginnings deep found) (listed : IsNth founds origin found)
        (reaches : List Reach)
        (later : List Candidate) where
      abbrev source : ℕ
      source = source_of first found.from

      abbrev events : List Event
      events = events_from tnfa (beginning_at beginnings found.from).at found.way

      abbrev targets : List Place → List Reach
      targets places = map (target_at source events) places ++ reaches

      abbrev numbers : List Place → List ℕ
      numbers places = map (number_of tnfa) places

      abbrev segments : (pick : ℕ) → List Place → List Candidate
      segments pick places = candidates_at found.from found.way pick (numbers places) ++ later

      -- these are the numbers behind the way, from this one on
      abbrev ArePicks : (pick : ℕ) → List Place → Type 0
      ArePicks pick places =
          (k to : ℕ) → IsNth (numbers places) k to → IsNth (numbers_after tnfa (point_number tnfa found.at) unit) (pick + k) to

      abbrev step_to : Place → Step
      step_to to = record { from = source; events = events; to = to }

      abbrev candidate_to : (pick : ℕ) → Place → Candidate
      candidate_to pick to = record { from = found.from; key = record { way = found.way; pick = pick }; to = number_of tnfa to }

      step_goes : (index pick : ℕ) (place to : Place) → IsInLeaf tnfa place → place_after tnfa place unit ≡ Some to
          → IsNth origins index origin → IsNth (numbers_after tnfa (point_number tnfa found.at) unit) pick (number_of tnfa to)
          → IsAlike tnfa (terms_of patterns) first (places_of ranks) unit founds origins (number_of-apart enc patterns tnfa of) index
          (candidate_to pick to) (step_to to)
      step_goes index pick place to within e named picked =
          let begin = begin_place tnfa deep beginnings ranks found.from are is.from in record {
            to = refl;
            source = source_is first found.from;
            segment =
                subst (λ n. IsSegment tnfa (terms_of patterns) n unit (record { way = found.way; pick = pick }) events) (sym begin.1)
                (way_segment enc patterns tnfa of fits (beginning_at beginnings found.from).at found.at found.way unit pick
                (number_of tnfa to) is.point is.way picked);
            in_leaf = after_in_leaf tnfa (terms_of patterns) (automaton_holds enc patterns tnfa of fits) place unit to within e;
            way = record { origin = origin; found = found; named = named; listed = listed; from = refl; way = refl; pick = picked };
          }

      -- one target
      place_goes : (place : Place) (places after : List Place) (index pick : ℕ) (o : Option Place) → IsInLeaf tnfa place
          → place_after tnfa place unit ≡ o → IsNth origins index origin → ArePicks pick (cons_option o after)
          → ((pick : ℕ) → ArePicks pick after → Goes (suc index) (targets places) (segments pick after))
          → Goes index (targets (place ∷ places)) (segments pick (cons_option o after))
      place_goes place places after index pick None within e named picks others =
          passed index (target_at source events place) (targets places) (segments pick after)
          (ap (λ o. option_map step_to o) e) (others pick picks)
      place_goes place places after index pick (Some to) within e named picks others =
          let same : pick + 0 ≡ pick = omega arith in
          let picked : IsNth (numbers_after tnfa (point_number tnfa found.at) unit) pick (number_of tnfa to) =
          subst (λ n. IsNth (numbers_after tnfa (point_number tnfa found.at) unit) n (number_of tnfa to)) same
          (picks 0 (number_of tnfa to) refl) in
          taken index (target_at source events place) (targets places) (candidate_to pick to) (segments (suc pick) after) (step_to to)
          (ap (λ o. option_map step_to o) e) (step_goes index pick place to within e named picked)
          (others (suc pick) (λ k to nth.
          let next : pick + suc k ≡ suc pick + k = omega arith in
          subst (λ n. IsNth (numbers_after tnfa (point_number tnfa found.at) unit) n to) next (picks (suc k) to nth)))

      -- all of them
      places_go : (places : List Place) → Each (IsInLeaf tnfa) places → (index pick : ℕ) → ArePicks pick (places_after tnfa unit places)
          → ((k : ℕ) → k < length places → IsNth origins (index + k) origin) → Goes (index + length places) reaches later
          → Goes index (targets places) (segments pick (places_after tnfa unit places))
      places_go [] all index pick picks names more = let e : index + 0 ≡ index = omega arith in subst (λ n. Goes n reaches later) e more
      places_go (place ∷ places) all index pick picks names more =
          let here : index + 0 ≡ index = omega arith in
          let rest : index + suc (length places) ≡ suc index + length places = omega arith in
          place_goes place places (places_after tnfa unit places) index pick (place_after tnfa place unit) all.0 refl
          (subst (λ n. IsNth origins n origin) here (names 0 (omega arith))) picks
          (λ pick picks.
          places_go places all.1 (suc index) pick picks
          (λ k lt.
          let next : index + suc k ≡ suc index + k = omega arith in subst (λ n. IsNth origins n origin) next (names (suc k) (omega arith)))
          (subst (λ n. Goes n reaches later) rest more))

      -- the targets of the way
      found_goes : (index : ℕ)
          → ((k : ℕ) → k < length (found_reaches tnfa first beginnings found) → IsNth origins (index + k) origin)
          → Goes (index + length (found_reaches tnfa first beginnings found)) reaches later
          → Goes index (found_reaches tnfa first beginnings found ++ reaches)
          (candidates_at found.from found.way 0 (numbers_after tnfa (point_number tnfa found.at) unit) ++ later)
      found_goes index names more =
          let rules = terms_of patterns in
          let holds = automaton_holds enc patterns tnfa of fits in
          let places = places_at tnfa found.at in
          let after = numbers_at tnfa rules holds found.at unit is.point in
          let same : found_reaches tnfa first beginnings found ≡ map (target_at source events) places =
          reaches_at-places tnfa source found.at events in
          let count : length (found_reaches tnfa first beginnings found) ≡ length places =
          ap (λ (l : List Reach). length l) same ∙ length-map places (target_at source events) in
          subst (λ l. Goes index (l ++ reaches)
          (candidates_at found.from found.way 0 (numbers_after tnfa (point_number tnfa found.at) unit) ++ later))
          (sym same)
          (subst (λ l. Goes index (targets places) (candidates_at found.from found.way 0 l ++ later)) (sym after)
          (places_go places (places_in_leaf tnfa rules holds found.at (in_leaf found is)) index 0
          (λ k to nth.
          let zeros : k ≡ 0 + k = omega arith in
          subst (λ n. IsNth (numbers_after tnfa (point_number tnfa found.at) unit) n to) zeros (subst (λ l. IsNth l k to) (sym after) nth))
          (λ k lt. names k (omega (arith, count, lt)))
          (subst (λ n. Goes (index + n) reaches later) count more)))

    -- the targets of ways, of which the first has this index
    founds_go : (rest : List Found) → Each (IsFoundAt tnfa beginnings deep) rest → (origin index : ℕ)
        → ((k : ℕ) (found : Found) → IsNth rest k found → IsNth founds (origin + k) found)
        → ((k from : ℕ) → IsNth (origins_of tnfa first beginnings origin rest) k from → IsNth origins (index + k) from)
        → Goes index (reaches_of tnfa first beginnings rest)
        (candidates (λ state. numbers_after tnfa state unit) (map (shown_found tnfa) rest))
    founds_go [] all origin index listed names = none index
    founds_go (found ∷ rest) all origin index listed names =
        let count = length (found_reaches tnfa first beginnings found) in
        let others = origins_of tnfa first beginnings (suc origin) rest in
        let here : origin + 0 ≡ origin = omega arith in
        found_goes origin found all.0 (subst (λ n. IsNth founds n found) here (listed 0 found refl)) (reaches_of tnfa first beginnings rest)
        (candidates (λ state. numbers_after tnfa state unit) (map (shown_found tnfa) rest)) index
        (λ k lt. names k origin (nth_replicate count origin others k lt))
        (founds_go rest all.1 (suc origin) (index + count)
        (λ k other nth.
        let next : origin + suc k ≡ suc origin + k = omega arith in subst (λ n. IsNth founds n other) next (listed (suc k) other nth))
        (λ k from nth.
        let next : index + (count + k) ≡ (index + count) + k = omega arith in
        subst (λ n. IsNth origins n from) next (names (count + k) from (nth_behind count origin others k from nth))))

  -- the targets are places of the automaton
  pub found_places : (found : Found) → IsFoundAt tnfa beginnings deep found
      → Each (λ (reach : Reach). IsTarget tnfa reach.to) (found_reaches tnfa first beginnings found)
  found_places found is =
      let source = source_of first found.from in
      let events = events_from tnfa (beginning_at beginnings found.from).at found.way in
      let places = places_at tnfa found.at in
      let within = places_in_leaf tnfa (terms_of patterns) (automaton_holds enc patterns tnfa of fits) found.at (in_leaf found is) in
      subst (Each (λ (reach : Reach). IsTarget tnfa reach.to)) (sym (reaches_at-places tnfa source found.at events))
      (all source events places within)
    where
      all : (from : ℕ) (said : List Event) (places : List Place) → Each (IsInLeaf tnfa) places
          → Each (λ (reach : Reach). IsTarget tnfa reach.to) (map (target_at from said) places)
      all from said [] within = tt
      all from said (place ∷ places) within = (within.0.0, all from said places within.1)

  pub reach_places : (founds : List Found) → Each (IsFoundAt tnfa beginnings deep) founds
      → Each (λ (reach : Reach). IsTarget tnfa reach.to) (reaches_of tnfa first beginnings founds)
  reach_places [] all = tt
  reach_places (found ∷ founds) all =
      Each-append (λ (reach : Reach). IsTarget tnfa reach.to) (found_reaches tnfa first beginnings found)
      (reaches_of tnfa first beginnings founds)
      (found_places found all.0) (reach_places founds all.1)

module _ (enc : Enc) (patterns : List Pattern) (tnfa : Tnfa) (beginnings : List Beginning) (ranks : List Ranked) (founds : List Found)
    (is : AreWaysFrom enc patterns tnfa beginnings ranks founds) (first : Bool) where
  pub reaches_of-places : AllPlaces tnfa (reaches_of tnfa first beginnings founds)
  reaches_of-places =
      All-from_each (λ (reach : Reach). IsTarget tnfa reach.to) (reaches_of tnfa first beginnings founds)
      (reach_places enc patterns tnfa is.of is.fits first is.deep beginnings ranks is.are is.leaves founds
      (Each-from_all (IsFoundAt tnfa beginnings is.deep) founds is.found))

  module _ (unit : ℕ) where
    all_go : Follow tnfa (terms_of patterns) first (places_of ranks) unit founds (origins_of tnfa first beginnings 0 founds)
        (number_of-apart enc patterns tnfa is.of) 0 (reaches_of tnfa first beginnings founds)
        (candidates (λ state. numbers_after tnfa state unit) (map (shown_found tnfa) founds))
    all_go =
        founds_go enc patterns tnfa is.of is.fits first is.deep beginnings ranks is.are is.leaves founds unit founds
        (Each-from_all (IsFoundAt tnfa beginnings is.deep) founds is.found) 0 0
        (λ k found nth. let e : k ≡ 0 + k = omega arith in subst (λ n. IsNth founds n found) e nth)
        (λ k from nth. let e : k ≡ 0 + k = omega arith in subst (λ n. IsNth (origins_of tnfa first beginnings 0 founds) n from) e nth)

    firsts : Firsts tnfa (terms_of patterns) first (places_of ranks) unit founds (origins_of tnfa first beginnings 0 founds)
        (number_of-apart enc patterns tnfa is.of) (segments_by tnfa founds unit)
        (next_steps tnfa unit (reaches_of tnfa first beginnings founds))
        (step_indices tnfa unit (reaches_of tnfa first beginnings founds))
    firsts =
        follow_firsts tnfa (terms_of patterns) first (places_of ranks) unit founds (origins_of tnfa first beginnings 0 founds)
        (number_of-apart enc patterns tnfa is.of) all_go [] tt

    -- the targets go on over the unit as the segments do, each by the way of its segment, and to places in leaves
    pub steps_alike : AreAlike tnfa (terms_of patterns) first (places_of ranks) unit (segments_by tnfa founds unit)
        (next_steps tnfa unit (reaches_of tnfa first beginnings founds))
    steps_alike = firsts.alike

    pub steps_by_ways : AreByWays tnfa founds (origins_of tnfa first beginnings 0 founds) unit (segments_by tnfa founds unit)
        (step_indices tnfa unit (reaches_of tnfa first beginnings founds))
    steps_by_ways = firsts.ways

    pub steps_in_leaves : All (λ (step : Step). IsInLeaf tnfa step.to) (next_steps tnfa unit (reaches_of tnfa first beginnings founds))
    steps_in_leaves =
        All-from_each (λ (step : Step). IsInLeaf tnfa step.to)
        (next_steps tnfa unit (reaches_of tnfa first beginnings founds)) firsts.in_leaves
