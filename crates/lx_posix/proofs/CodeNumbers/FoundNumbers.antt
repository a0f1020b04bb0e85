-- What is computed of two ways from places of a kernel is the number of the walks.
use Rattle.std.proofs.Common.{sym, ap, ap₂, ◌∙◌, subst, arith, ⊎_elim}
use Rattle.std.proofs.lemmas.Bool.{cases_lt}
use Rattle.std.proofs.lemmas.Option.{slice_get-get_or}
use Rattle.std.proofs.Math.Nat.{suc-mul}
use Rattle.std.specs.Prelude.{◌≡◌, ℕ, zero, suc, ◌*◌, ◌<◌, ◌≤◌, ◌^◌, max, min, List, [], ◌∷◌, ◌++◌, length, Some, slice_get, refl}
use Rattle.lx_base.specs.declared.settings.Enc.{Enc}
use Rattle.lx_regex.specs.Automaton as spec
use Rattle.lx_regex.specs.Automaton.{automaton}
use Rattle.lx_regex.specs.Pattern.{Pattern, terms_of}
use Rattle.lx_regex.specs.Script.{Symbol, reads}
use Rattle.lx_tnfa.specs.DepthFirst.{successors}
use Rattle.lx_tnfa.specs.LeafReadings.{IsNth}
use Rattle.lx_tnfa.specs.PlaceNumbers.{symbols_added}
use Rattle.lx_tnfa.specs.Tnfa.{IsTnfaOf, Tnfa}
use Rattle.lx_tnfa.specs.declared.places.Place.{Place}
use Rattle.lx_tdfa.specs.Graph.{graph_of, path_symbols}
use Rattle.lx_tdfa.specs.Kernels.{segment_symbols}
use Rattle.lx_tdfa.proofs.Rules.WithinStates.{moves_stay_within}
use Rattle.lx_tdfa.proofs.Walks.StatePaths.{no_edge}
use Rattle.lx_tdfa.proofs.WordKernels.OrderedLists.{nth_at_zero}
use Rattle.lx_posix.specs.Beginnings.{AreBeginnings, AreByRule, IsBeginning, IsPoint, point_number}
use Rattle.lx_posix.specs.Comparing.{Comparison, Ranked, compared, forked, number_between, ranked_at}
use Rattle.lx_posix.specs.LevelPaths.{AreDepths}
use Rattle.lx_posix.specs.LevelSearch.{ArePlaceDepths}
use Rattle.lx_posix.specs.Parting.{events}
use Rattle.lx_posix.specs.Walks.{depth, lowest}
use Rattle.lx_posix.specs.Finding.{IsSearchable, IsWay, beginning_at}
use Rattle.lx_posix.specs.WayNumbers.{FitsOnWay, IsFound, depth_behind, lowest_on_way, number_of_fork, state_number, walk_to}
use Rattle.lx_posix.specs.declared.points.Beginning.{Beginning}
use Rattle.lx_posix.specs.declared.points.Point.{Point}
use Rattle.lx_posix.specs.declared.points.Point.TheVariants.{State, Within}
use Rattle.lx_posix.specs.declared.search.Found.{Found}
use Rattle.lx_posix.proofs.CodeNumbers.ForkedWays.{choice-depth, forked-ways, walk, walk-lowest}
use Rattle.lx_posix.proofs.CodeNumbers.LeafDigits.{choice_of, choice_of-is, symbols_added-state, symbols_added-within}
use Rattle.lx_posix.proofs.CodeNumbers.NumbersBetween.{beginning-at, beginnings-length, number_between-rules}
use Rattle.lx_posix.proofs.CodeNumbers.WaySymbols.{depth-way, depth_behind-is, in_graph, next_states-nth, path_end-way, states-length, way-fits}
use Rattle.lx_posix.proofs.Lists.Comparisons.{by_order-each}

-- two walks from one place
pub compared-one : (ranks : List Ranked) (from other : ℕ) (l k : List Symbol) → from ≡ other
    → (compared ranks from l other k).number ≡ (forked (ranked_at ranks from).depth (events l) (events k)).number
compared-one ranks from other l k e =
    let same : (ranked_at ranks from).rule ≡ (ranked_at ranks other).rule = ap (λ n. (ranked_at ranks n).rule) e in
    by_order-each
    (λ (c : Comparison). c.number ≡ (forked (ranked_at ranks from).depth (events l) (events k)).number)
    (ranked_at ranks from).rule (ranked_at ranks other).rule _ _ _ (λ lt. absurd (omega arith))
    (λ q. by_order-each
    (λ (c : Comparison). c.number ≡ (forked (ranked_at ranks from).depth (events l) (events k)).number) from other _ _ _
    (λ lt. absurd (omega arith)) (λ q. refl) (λ lt. absurd (omega arith)))
    (λ lt. absurd (omega arith))

-- what a walk from a place keeps
abbrev pub kept_from : List Ranked → (from : ℕ) → List Symbol → ℕ
kept_from ranks from l = lowest (ranked_at ranks from).depth (ranked_at ranks from).depth l

-- two walks from two places
pub compared-two : (ranks : List Ranked) (from other : ℕ) (l k : List Symbol) → AreByRule ranks → from < length ranks
    → other < length ranks → (from ≡ other → ⊥)
    → (compared ranks from l other k).number
    ≡ min (min (number_between ranks (min from other) (max from other)) (kept_from ranks from l)) (kept_from ranks other k)
compared-two ranks from other l k by within within' apart =
    ⊎_elim
    (λ lt.
    let first : min from other ≡ from = omega arith in
    let last : max from other ≡ other = omega arith in
    (λ (q : (compared ranks from l other k).number
    ≡ min (min (number_between ranks from other) (kept_from ranks from l)) (kept_from ranks other k)).
    q ∙ ap₂ (λ a b. min (min (number_between ranks a b) (kept_from ranks from l)) (kept_from ranks other k)) (sym first) (sym last))
    (up lt))
    (λ ge.
    let first : min from other ≡ other = omega arith in
    let last : max from other ≡ from = omega arith in
    (λ (q : (compared ranks from l other k).number
    ≡ min (min (number_between ranks other from) (kept_from ranks from l)) (kept_from ranks other k)).
    q ∙ ap₂ (λ a b. min (min (number_between ranks a b) (kept_from ranks from l)) (kept_from ranks other k)) (sym first) (sym last))
    (down (omega arith)))
    (cases_lt from other)
  where
    up : from < other → (compared ranks from l other k).number
        ≡ min (min (number_between ranks from other) (kept_from ranks from l)) (kept_from ranks other k)
    up lt =
        let r = number_between-rules ranks from other by lt within' in
        by_order-each
        (λ (c : Comparison). c.number
        ≡ min (min (number_between ranks from other) (kept_from ranks from l)) (kept_from ranks other k))
        (ranked_at ranks from).rule (ranked_at ranks other).rule _ _ _
        (λ less. ⊎_elim (λ q. absurd (omega arith)) (λ q. let z = q.1 in omega arith) r)
        (λ same. by_order-each
        (λ (c : Comparison). c.number
        ≡ min (min (number_between ranks from other) (kept_from ranks from l)) (kept_from ranks other k)) from other _ _ _
        (λ lt. omega arith) (λ q. absurd (omega arith)) (λ gt. absurd (omega arith)))
        (λ more. absurd (⊎_elim (λ q. omega arith) (λ q. let z = q.0 in omega arith) r))

    down : other < from → (compared ranks from l other k).number
        ≡ min (min (number_between ranks other from) (kept_from ranks from l)) (kept_from ranks other k)
    down lt =
        let r = number_between-rules ranks other from by lt within in
        by_order-each
        (λ (c : Comparison). c.number
        ≡ min (min (number_between ranks other from) (kept_from ranks from l)) (kept_from ranks other k))
        (ranked_at ranks from).rule (ranked_at ranks other).rule _ _ _
        (λ less. absurd (⊎_elim (λ q. omega arith) (λ q. let z = q.0 in omega arith) r))
        (λ same. by_order-each
        (λ (c : Comparison). c.number
        ≡ min (min (number_between ranks other from) (kept_from ranks from l)) (kept_from ranks other k)) from other _ _ _
        (λ gt. absurd (omega arith)) (λ q. absurd (omega arith)) (λ lt. omega arith))
        (λ more. ⊎_elim (λ q. absurd (omega arith)) (λ q. let z = q.1 in omega arith) r)

module _ (enc : Enc) (patterns : List Pattern) (tnfa : Tnfa) (is : IsTnfaOf enc patterns tnfa) where
  abbrev states : List spec.State
  states = automaton (terms_of patterns)

  beyond : (place : Place) → length tnfa.states ≤ point_number tnfa (Within place)
  beyond place = omega (arith, suc-mul place.rest.0 (length tnfa.states))

  ranked-nth : (deep : ℕ → ℕ) (beginnings : List Beginning) (ranks : List Ranked) (index : ℕ) (beginning : Beginning)
      → AreBeginnings tnfa deep beginnings ranks → slice_get beginnings index ≡ Some beginning → IsNth ranks index (ranked_at ranks index)
  ranked-nth deep [] ranks index beginning are at = cc
  ranked-nth deep (first ∷ beginnings) [] index beginning are at = absurd are
  ranked-nth deep (first ∷ beginnings) (ranked ∷ ranks) zero beginning are at = refl
  ranked-nth deep (first ∷ beginnings) (ranked ∷ ranks) (suc index) beginning are at =
      ranked-nth deep beginnings ranks index beginning are.1 at

  -- a way of the states leads to a state
  way-within : (way : List ℕ) (state to : ℕ) → state < length tnfa.states → IsWay tnfa state way to → to < length tnfa.states
  way-within [] state to lt w = omega (arith, w)
  way-within (index ∷ way) state to lt w =
      let size = states-length enc patterns tnfa is in
      let next =
      moves_stay_within (terms_of patterns) state index w.0.to
      (nth_at_zero (successors (graph_of states) state) index w.0.to
      (in_graph enc patterns tnfa is state index w.0.to (next_states-nth tnfa state index w.0 w.1))) in
      way-within way w.0.to to (omega arith) w.2

  -- no move leads on from within a leaf
  way-none : (way : List ℕ) (number to : ℕ) → length tnfa.states ≤ number → IsWay tnfa number way to → (way ≡ []) × (number ≡ to)
  way-none [] number to le w = (refl, w)
  way-none (index ∷ way) number to le w =
      let size = states-length enc patterns tnfa is in
      absurd (no_edge states number index w.0.to (omega arith)
      (nth_at_zero (successors (graph_of states) number) index w.0.to
      (in_graph enc patterns tnfa is number index w.0.to (next_states-nth tnfa number index w.0 w.1))))

  abbrev pub segment_of : (place unit pick : ℕ) (way : List ℕ) → List Symbol
  segment_of place unit pick way = segment_symbols (terms_of patterns) (symbols_added tnfa) place unit (record { way = way; pick = pick })

  -- the symbols of a way from a state
  segment-state : (way : List ℕ) (state to unit pick : ℕ) → state < length tnfa.states → IsWay tnfa state way to
      → segment_of state unit pick way ≡ walk enc patterns tnfa is state way to unit pick
  segment-state way state to unit pick lt w =
      ap (λ n. path_symbols states state way (symbols_added tnfa n unit pick)) (path_end-way enc patterns tnfa is way state to w)
      ∙ ap (λ l. path_symbols states state way l) (symbols_added-state tnfa to unit pick (way-within way state to lt w))

  -- within a leaf a unit is read, and no more
  segment-within : (way : List ℕ) (place : Place) (to unit pick : ℕ) → 2 * place.part < length tnfa.states
      → IsWay tnfa (point_number tnfa (Within place)) way to
      → segment_of (point_number tnfa (Within place)) unit pick way ≡ reads unit ∷ []
  segment-within way place to unit pick lt w =
      ap (λ l. segment_of (point_number tnfa (Within place)) unit pick l)
      (way-none way (point_number tnfa (Within place)) to (beyond place) w).0
      ∙ symbols_added-within tnfa place.rest.0 (2 * place.part) unit pick lt

  module _ (deep : ℕ → ℕ) (ranks : List Ranked) (placed : ArePlaceDepths states ranks deep) where
    -- how many parts are open behind a point at which so many are open
    abbrev open_behind : Point → (outer : ℕ) → ℕ
    open_behind (State number) outer = depth_behind outer number
    open_behind (Within place) outer = outer

    place-depth : (at : Point) (index : ℕ) (ranked : Ranked) → IsPoint tnfa at → point_number tnfa at ≡ ranked.place
        → IsNth ranks index ranked → deep ranked.place ≡ open_behind at ranked.depth
    place-depth (State number) index ranked point same nth =
        let size = states-length enc patterns tnfa is in
        (placed index ranked nth).0 (omega arith) ∙ depth_behind-is ranked.place ranked.depth
        ∙ ap (λ n. depth_behind ranked.depth n) (sym same)
    place-depth (Within place) index ranked point same nth =
        let size = states-length enc patterns tnfa is in
        let far = beyond place in
        (placed index ranked nth).1 (omega arith)

    point-kept : (at : Point) (ranked : Ranked) (way : List ℕ) (to unit pick outer d : ℕ) → IsPoint tnfa at
        → point_number tnfa at ≡ ranked.place → IsWay tnfa (point_number tnfa at) way to → outer ≡ ranked.depth
        → d ≡ open_behind at ranked.depth
        → lowest_on_way tnfa (state_number at) d (min outer d) way
        ≡ lowest ranked.depth ranked.depth (segment_of ranked.place unit pick way)
    point-kept (State number) ranked way to unit pick outer d point same w e f =
        ap₂ (λ o n. lowest_on_way tnfa number n (min o n) way) e f
        ∙ sym (walk-lowest enc patterns tnfa is way number to ranked.depth ranked.depth unit pick (omega arith) w)
        ∙ ap (λ l. lowest ranked.depth ranked.depth l) (sym (segment-state way number to unit pick point w))
        ∙ ap (λ n. lowest ranked.depth ranked.depth (segment_of n unit pick way)) same
    point-kept (Within place) ranked way to unit pick outer d point same w e f =
        let low : min outer d ≡ ranked.depth = omega arith in
        ap (λ l. lowest_on_way tnfa 0 d (min outer d) l) (way-none way (point_number tnfa (Within place)) to (beyond place) w).0 ∙ low
        ∙ ap (λ l. lowest ranked.depth ranked.depth l) (sym (segment-within way place to unit pick point w))
        ∙ ap (λ n. lowest ranked.depth ranked.depth (segment_of n unit pick way)) same

    point-forked : (at : Point) (ranked : Ranked) (way other : List ℕ) (to last unit pick second d : ℕ) → IsPoint tnfa at
        → point_number tnfa at ≡ ranked.place → IsWay tnfa (point_number tnfa at) way to → IsWay tnfa (point_number tnfa at) other last
        → d ≡ open_behind at ranked.depth
        → number_of_fork tnfa (state_number at) d way other
        ≡ (forked ranked.depth (events (segment_of ranked.place unit pick way))
        (events (segment_of ranked.place unit second other))).number
    point-forked (State number) ranked way other to last unit pick second d point same w v f =
        ap (λ n. number_of_fork tnfa number n way other) f
        ∙ sym (forked-ways enc patterns tnfa is way other number to last ranked.depth unit pick second w v)
        ∙ ap₂ (λ l k. (forked ranked.depth (events l) (events k)).number) (sym (segment-state way number to unit pick point w))
        (sym (segment-state other number last unit second point v))
        ∙ ap (λ n. (forked ranked.depth (events (segment_of n unit pick way)) (events (segment_of n unit second other))).number) same
    point-forked (Within place) ranked way other to last unit pick second d point same w v f =
        ap (λ l. number_of_fork tnfa 0 d l other) (way-none way (point_number tnfa (Within place)) to (beyond place) w).0 ∙ f
        ∙ ap₂ (λ l k. (forked ranked.depth (events l) (events k)).number) (sym (segment-within way place to unit pick point w))
        (sym (segment-within other place last unit second point v))
        ∙ ap (λ n. (forked ranked.depth (events (segment_of n unit pick way)) (events (segment_of n unit second other))).number) same

    point-depth : (at : Point) (ranked : Ranked) (way : List ℕ) (to unit pick : ℕ) → AreDepths states deep → IsPoint tnfa at
        → point_number tnfa at ≡ ranked.place → IsWay tnfa (point_number tnfa at) way to
        → deep ranked.place ≡ open_behind at ranked.depth
        → depth ranked.depth (segment_of ranked.place unit pick way) ≡ deep to
    point-depth (State number) ranked way to unit pick depths point same w e =
        ap (λ n. depth ranked.depth (segment_of n unit pick way)) (sym same)
        ∙ ap (λ l. depth ranked.depth l) (segment-state way number to unit pick point w)
        ∙ depth-way enc patterns tnfa is deep depths way number to ranked.depth (choice_of tnfa to unit pick ++ reads unit ∷ []) w
        (choice-depth (choice_of tnfa to unit pick) unit (choice_of-is tnfa to unit pick)) (ap deep same ∙ e)
    point-depth (Within place) ranked way to unit pick depths point same w e =
        ap (λ n. depth ranked.depth (segment_of n unit pick way)) (sym same)
        ∙ ap (λ l. depth ranked.depth l) (segment-within way place to unit pick point w)
        ∙ sym e ∙ ap deep (sym same) ∙ ap deep (way-none way (point_number tnfa (Within place)) to (beyond place) w).1

    module _ (beginnings : List Beginning) (are : AreBeginnings tnfa deep beginnings ranks) (index : ℕ) (beginning : Beginning)
        (at : slice_get beginnings index ≡ Some beginning) where
      begin : IsBeginning tnfa deep beginning (ranked_at ranks index)
      begin = beginning-at tnfa deep beginnings ranks index beginning are at

      nth : IsNth ranks index (ranked_at ranks index)
      nth = ranked-nth deep beginnings ranks index beginning are at

      behind : beginning.depth ≡ open_behind beginning.at (ranked_at ranks index).depth
      behind = begin.depth ∙ place-depth beginning.at index (ranked_at ranks index) begin.point begin.place nth

      pub found-kept : (way : List ℕ) (to unit pick : ℕ) → IsWay tnfa (point_number tnfa beginning.at) way to
          → lowest_on_way tnfa (state_number beginning.at) beginning.depth (min beginning.open beginning.depth) way
          ≡ kept_from ranks index (segment_of (ranked_at ranks index).place unit pick way)
      found-kept way to unit pick w =
          point-kept beginning.at (ranked_at ranks index) way to unit pick beginning.open beginning.depth begin.point begin.place w
          begin.open behind

      pub found-forked : (way other : List ℕ) (to last unit pick second : ℕ) → IsWay tnfa (point_number tnfa beginning.at) way to
          → IsWay tnfa (point_number tnfa beginning.at) other last
          → number_of_fork tnfa (state_number beginning.at) beginning.depth way other
          ≡ (forked (ranked_at ranks index).depth (events (segment_of (ranked_at ranks index).place unit pick way))
          (events (segment_of (ranked_at ranks index).place unit second other))).number
      found-forked way other to last unit pick second w v =
          point-forked beginning.at (ranked_at ranks index) way other to last unit pick second beginning.depth begin.point begin.place w v
          behind

      -- the depth behind the walk is that of the point to which it leads
      pub found-depth : (way : List ℕ) (to unit pick : ℕ) → AreDepths states deep → IsWay tnfa (point_number tnfa beginning.at) way to
          → depth (ranked_at ranks index).depth (segment_of (ranked_at ranks index).place unit pick way) ≡ deep to
      found-depth way to unit pick depths w =
          point-depth beginning.at (ranked_at ranks index) way to unit pick depths begin.point begin.place w
          (place-depth beginning.at index (ranked_at ranks index) begin.point begin.place nth)

-- the depths on the way to a point fit
pub found-fits : (tnfa : Tnfa) (beginnings : List Beginning) (found : Found) → IsSearchable tnfa beginnings
    → IsFound tnfa beginnings found
    → FitsOnWay tnfa (state_number (beginning_at beginnings found.from).at) (beginning_at beginnings found.from).depth found.way
found-fits tnfa beginnings found depths is = by (beginning_at beginnings found.from).at begin.point begin.place is.way
  where
    begin : IsBeginning tnfa depths.deep (beginning_at beginnings found.from) (ranked_at depths.ranks found.from)
    begin =
        beginning-at tnfa depths.deep beginnings depths.ranks found.from (beginning_at beginnings found.from) depths.are
        (slice_get-get_or beginnings found.from _ is.from)

    small : (state : ℕ) → depths.deep state < 2 ^ 32
    small state = let low = depths.small state in let narrow = depths.narrow in omega arith

    by : (at : Point) → IsPoint tnfa at → point_number tnfa at ≡ (ranked_at depths.ranks found.from).place
        → IsWay tnfa (point_number tnfa at) found.way (point_number tnfa found.at)
        → FitsOnWay tnfa (state_number at) (beginning_at beginnings found.from).depth found.way
    by (State number) point same way =
        way-fits depths.enc depths.patterns tnfa depths.of depths.deep depths.depths small found.way number
        (point_number tnfa found.at) (beginning_at beginnings found.from).depth way (begin.depth ∙ ap depths.deep (sym same))
    by (Within place) point same way =
        let none =
        way-none depths.enc depths.patterns tnfa depths.of found.way (point_number tnfa (Within place)) (point_number tnfa found.at)
        (beyond depths.enc depths.patterns tnfa depths.of place) way in
        subst (λ l. FitsOnWay tnfa 0 (beginning_at beginnings found.from).depth l) (sym none.0) tt

-- Places with numbers, and beginnings at them.
module _ (enc : Enc) (patterns : List Pattern) (tnfa : Tnfa) (deep : ℕ → ℕ) (ranks : List Ranked) (beginnings : List Beginning)
    (of : IsTnfaOf enc patterns tnfa) (placed : ArePlaceDepths (automaton (terms_of patterns)) ranks deep)
    (are : AreBeginnings tnfa deep beginnings ranks) where
  abbrev walk_over : Found → (unit pick : ℕ) → List Symbol
  walk_over found unit pick = walk_to tnfa (terms_of patterns) ranks found unit pick

  begins : (found : Found) → IsFound tnfa beginnings found → slice_get beginnings found.from ≡ Some (beginning_at beginnings found.from)
  begins found is = slice_get-get_or beginnings found.from _ is.from

  -- what is computed of two ways from one place
  pub number-of-one : (found other : Found) (unit pick second : ℕ) → IsFound tnfa beginnings found → IsFound tnfa beginnings other
      → found.from ≡ other.from
      → number_of_fork tnfa (state_number (beginning_at beginnings found.from).at) (beginning_at beginnings found.from).depth found.way other.way
      ≡ (compared ranks found.from (walk_over found unit pick) other.from (walk_over other unit second)).number
  number-of-one found other unit pick second is too e =
      found-forked enc patterns tnfa of deep ranks placed beginnings are found.from (beginning_at beginnings found.from) (begins found is)
      found.way other.way (point_number tnfa found.at) (point_number tnfa other.at) unit pick second is.way
      (subst (λ n. IsWay tnfa (point_number tnfa (beginning_at beginnings n).at) other.way (point_number tnfa other.at)) (sym e) too.way)
      ∙ ap (λ n. (forked (ranked_at ranks found.from).depth (events (walk_over found unit pick))
      (events (segment_of enc patterns tnfa of (ranked_at ranks n).place unit second other.way))).number) e
      ∙ sym (compared-one ranks found.from other.from (walk_over found unit pick) (walk_over other unit second) e)

  -- what is computed of one way
  pub found-lowest : (found : Found) (unit pick : ℕ) → IsFound tnfa beginnings found
      → lowest_on_way tnfa (state_number (beginning_at beginnings found.from).at) (beginning_at beginnings found.from).depth
      (min (beginning_at beginnings found.from).open (beginning_at beginnings found.from).depth) found.way
      ≡ kept_from ranks found.from (walk_over found unit pick)
  found-lowest found unit pick is =
      found-kept enc patterns tnfa of deep ranks placed beginnings are found.from (beginning_at beginnings found.from) (begins found is)
      found.way (point_number tnfa found.at) unit pick is.way

  -- what is computed of two ways from two places
  pub number-of-two : (found other : Found) (unit pick second : ℕ) → AreByRule ranks → IsFound tnfa beginnings found
      → IsFound tnfa beginnings other → (found.from ≡ other.from → ⊥)
      → min (min (number_between ranks (min found.from other.from) (max found.from other.from))
      (kept_from ranks found.from (walk_over found unit pick))) (kept_from ranks other.from (walk_over other unit second))
      ≡ (compared ranks found.from (walk_over found unit pick) other.from (walk_over other unit second)).number
  number-of-two found other unit pick second by is too apart =
      let size = beginnings-length tnfa deep beginnings ranks are in
      let low = is.from in
      let last = too.from in
      sym (compared-two ranks found.from other.from (walk_over found unit pick) (walk_over other unit second) by (omega arith) (omega arith)
      apart)

  -- the depth behind the walk to a point is that of the point
  pub depth-found : (found : Found) (unit pick : ℕ) → AreDepths (automaton (terms_of patterns)) deep → IsFound tnfa beginnings found
      → depth (ranked_at ranks found.from).depth (walk_over found unit pick) ≡ deep (point_number tnfa found.at)
  depth-found found unit pick depths is =
      found-depth enc patterns tnfa of deep ranks placed beginnings are found.from (beginning_at beginnings found.from) (begins found is)
      found.way (point_number tnfa found.at) unit pick depths is.way
